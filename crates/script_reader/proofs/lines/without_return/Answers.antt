use Rattle.std.proofs.Common.{◌≡◌, ℕ, List, [], ◌∷◌, ◌++◌, Option, Some, None, Bor, sym, ap, ◌∙◌, subst, append_assoc}
use Rattle.std.proofs.lemmas.Bool.Decides.{Decides-eqb}
use Rattle.std.proofs.lemmas.Slice.Eq.{strip_suffix_is}
use Rattle.script_model.specs.Script.{is_line_feed, without_returns}
use Rattle.script_reader.specs.Parting.{IsWhole}
use Rattle.script_reader.proofs.LineEnds.{returns_kept, returns_dropped, whole_front}
use Rattle.script_reader.proofs.lines.without_return.Goals as goal

-- a line that ends with a carriage return
dropped : (line front end : List ℕ) → end ≡ 13 ∷ [] → line ≡ front ++ end → IsWhole is_line_feed line
    → IsWhole is_line_feed front × ((rest : List ℕ) → without_returns (line ++ 10 ∷ rest) ≡ front ++ 10 ∷ without_returns rest)
dropped line front end is e h =
    let whole = whole_front front end (subst (IsWhole is_line_feed) e h) in
    let e' : line ≡ front ++ 13 ∷ [] = e ∙ ap (λ l. front ++ l) is in
    (whole, λ rest. ap (λ l. without_returns (l ++ 10 ∷ rest)) e' ∙ ap without_returns (append_assoc front (13 ∷ []) (10 ∷ rest)) ∙ returns_dropped front rest whole)

pub returns-in-Some : goal.returns-in-Some
returns-in-Some c =
    dropped _ _ _ c.as_slice.ensures (strip_suffix_is Decides-eqb c.args.line.now c.as_slice.result.now (Some c.in-Some.front) c.in-Some.ensures.cases)

pub returns-in-None : goal.returns-in-None
returns-in-None c =
    let none : Option (Bor (List ℕ)) = None in
    let other = strip_suffix_is Decides-eqb c.args.line.now c.as_slice.result.now none c.in-None.ensures.cases in
    λ h. (h, λ rest. returns_kept _ rest h (λ front e. other front (e ∙ ap (λ l. front ++ l) (sym c.as_slice.ensures))))
