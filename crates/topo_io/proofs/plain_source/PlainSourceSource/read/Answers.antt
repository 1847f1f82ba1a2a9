use Rattle.std.proofs.Common.{◌≡◌, ◌+◌, ◌++◌, ℕ, [], List, length, take, drop, sym, ap, ◌∙◌, arith, ◌<◌, min}
use Rattle.std.proofs.lemmas.List.{take_at, take-append-drop, drop-drop, length-take-le, nil_from_length, length-drop, length-append}
use Rattle.topo_io.proofs.plain_source.PlainSourceSource.read.Goals as goal

-- what a read moves, before what is left
moved : (xs into front : List ℕ) (at n : ℕ) → front ≡ take n (drop at xs) → n ≡ min (length into) (length (drop at xs))
    → (drop at xs ≡ take n (front ++ drop n into) ++ drop (at + n) xs) × (n ≡ 0 → 0 < length (front ++ drop n into) → drop (at + n) xs ≡ [])
moved xs into front at n is count =
    let len : length front ≡ n = ap length is ∙ length-take-le n (drop at xs) (omega arith) in
    let whole = sym (take-append-drop n (drop at xs)) ∙ ap (λ l. take n (drop at xs) ++ l) (drop-drop n at xs) in (
      whole ∙ ap (λ l. l ++ drop (at + n) xs) (sym is ∙ sym (take_at front (drop n into) n len)),
      λ none some. nil_from_length (drop (at + n) xs) (omega (arith, length-append front (drop n into), length-drop n into, length-drop (at + n) xs, length-drop at xs)),
    )

pub returns-clause-bytes : goal.returns-clause-bytes
returns-clause-bytes c =
    let is = c.copy_from_slice.ensures.after ∙ c.split_at-2.ensures.front ∙ ap (take c.min-count.result) (c.split_at.ensures.back ∙ ap (drop c.self.inside.at) c.deref.ensures.value) in
    let count = c.min-count.ensures ∙ ap (λ l. min (length c.args.into.now) (length l)) (c.split_at.ensures.back ∙ ap (drop c.self.inside.at) c.deref.ensures.value) in
    let both = moved c.self.inside.bytes.items c.args.into.now c.copy_from_slice.new.self c.self.inside.at c.min-count.result is count in
    (sym c.self.view_is ∙ both.0, both.1)
