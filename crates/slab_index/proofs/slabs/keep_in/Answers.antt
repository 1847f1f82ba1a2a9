use Rattle.std.proofs.Common.{◌≡◌, arith, [], ◌++◌, ◌∙◌, ap, subst}
use Rattle.std.proofs.lemmas.Grind.{common_steps}
use Rattle.std.proofs.lemmas.List.Elements.{All-append, All-nil, All-same}
use Rattle.std.proofs.lemmas.List.Sorted.{All-permutation}
use Rattle.std.specs.List.Sorted.{IsPermutation}
use Rattle.slab_index.specs.Reach.{IsNoHigher}
use Rattle.slab_index.specs.Held.{IsInSlab}
use Rattle.slab_index.proofs.slabs.keep_in.Goals as goal

pub returns-clause-slab : goal.returns-clause-slab
returns-clause-slab c =
    let s = c.args.slab.now in
    let P = IsInSlab s.number in
    let Q = IsNoHigher s.rise in
    let all = s.kept.items ++ s.coming.items in
    let sorted = c.put_in_order.new.pieces.items in
    let moved = c.put_in_order.ensures.permutation in
    let grown = c.extend_from_slice.new.self.items in
    let e : grown ≡ s.kept.items ++ c.deref.result.now = grind (arith, common_steps) in
    let k : grown ≡ all = e ∙ ap (λ l. s.kept.items ++ l) c.deref.ensures.value in
    record {
      kept = All-permutation P grown sorted moved (All-same P grown all k (All-append P s.kept.items s.coming.items c.requires.kept c.requires.coming));
      coming = All-same P c.clear.new.self.items [] c.clear.ensures.items (All-nil P);
      room = grind (arith, common_steps);
      rising = c.put_in_order.ensures.rising;
      rise = c.requires.rise;
      kept_no_higher = All-permutation Q grown sorted moved (All-same Q grown all k (All-append Q s.kept.items s.coming.items c.requires.kept_no_higher c.requires.coming_no_higher));
      coming_no_higher = All-same Q c.clear.new.self.items [] c.clear.ensures.items (All-nil Q);
    }

pub returns-clause-kept : goal.returns-clause-kept
returns-clause-kept c =
    let s = c.args.slab.now in
    let grown = c.extend_from_slice.new.self.items in
    let e : grown ≡ s.kept.items ++ c.deref.result.now = grind (arith, common_steps) in
    let k : grown ≡ s.kept.items ++ s.coming.items = e ∙ ap (λ l. s.kept.items ++ l) c.deref.ensures.value in
    subst (λ l. IsPermutation l c.put_in_order.new.pieces.items) k c.put_in_order.ensures.permutation
