use Rattle.std.proofs.Common.{not, subst, sym, arith, All}
use Rattle.slab_index.specs.declared.piece.Piece.{Piece}
use Rattle.slab_index.specs.Pieces.{is_gone}
use Rattle.slab_index.specs.Reach.{IsRising, IsNoHigher}
use Rattle.slab_index.specs.Held.{IsInSlab}
use Rattle.slab_index.proofs.Placed.{all_filtered}
use Rattle.slab_index.proofs.Reach.{rising_filtered}
use Rattle.slab_index.proofs.slabs.drop_in.Goals as goal

pub returns-clause-slab : goal.returns-clause-slab
returns-clause-slab c =
    let s = c.args.slab.now in
    let stays = λ (e : Piece). not (is_gone c.args.gone.now e) in
    let is = c.drop_gone.ensures.pieces in
    record {
      kept = subst (λ l. All (IsInSlab s.number) l) (sym is) (all_filtered (IsInSlab s.number) stays s.kept.items c.requires.kept);
      coming = c.requires.coming;
      room = (let a = c.requires.room in let b = c.drop_gone.ensures.len in let d = c.drop_gone.ensures.capacity in omega (arith, a, b, d));
      rising = subst IsRising (sym is) (rising_filtered stays s.kept.items c.requires.rising);
      rise = c.requires.rise;
      kept_no_higher = subst (λ l. All (IsNoHigher s.rise) l) (sym is) (all_filtered (IsNoHigher s.rise) stays s.kept.items c.requires.kept_no_higher);
      coming_no_higher = c.requires.coming_no_higher;
    }
