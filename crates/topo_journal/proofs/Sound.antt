-- What a journal knows of its disk, from what the calls leave.
use Rattle.std.proofs.Common.{◌≡◌, ◌<◌, ℕ, ◌+◌, true, false, List, [], ◌∷◌, ◌++◌, length, take, drop, refl, sym, ◌∙◌, ap, subst, arith, append_assoc, length-append, length-take, length-drop, length-take-le, take-append-drop}
use Rattle.std.proofs.lemmas.List.{take_at}
use Rattle.std.proofs.lemmas.Bool.{true≢false, false≢true}
use Rattle.topo_journal.specs.Bytes.{frame}
use Rattle.topo_journal.specs.Kept.{IsFront, IsClosedAfter, IsFramedAfter, Each, IsSound, IsFrame, body_in, doubted}
use Rattle.topo_journal.proofs.Reading.{number-bytes}

pub body_framed : (body bytes : List ℕ) → take (length (frame body) + 1) bytes ≡ frame body ++ 0 ∷ [] → body_in bytes ≡ body
body_framed body bytes is =
    let k = length (frame body) + 1 in let n = length body in let rest = drop k bytes in
    let whole : bytes ≡ frame body ++ (0 ∷ rest) = sym (take-append-drop k bytes) ∙ ap (λ (l : List ℕ). l ++ rest) is ∙ append_assoc (frame body) (0 ∷ []) rest in
    ap body_in whole ∙ ap (λ (m : ℕ). take m (body ++ (0 ∷ rest))) (number-bytes n) ∙ take_at body (0 ∷ rest) n refl

pub gate_length : (seen : List ℕ) (gate : ℕ) → gate < length seen → gate ≡ length (take gate seen)
gate_length seen gate within = sym (length-take-le gate seen (omega arith))

module _ (front : List ℕ) (gate : ℕ) (at : gate ≡ length front) (is : IsFront front) (seen : List ℕ) (outcomes : List ℕ → Type 0) where
  pub closed_same : Each (IsClosedAfter front) seen outcomes → take gate seen ≡ front
  closed_same each = ap (λ (n : ℕ). take n seen) at ∙ each.now.front_same

  pub closed_sound : Each (IsClosedAfter front) seen outcomes → IsSound seen outcomes gate false
  closed_sound each =
      let same = closed_same each in
      record {
        front = subst IsFront (sym same) is;
        within = omega (arith, each.now.within);
        sure = λ _. subst (λ (f : List ℕ). Each (IsClosedAfter f) seen outcomes) (sym same) each;
        unsure = λ e. absurd (false≢true e);
      }

  pub framed_same : (body : List ℕ) → Each (IsFramedAfter front body) seen outcomes → take gate seen ≡ front
  framed_same body each = ap (λ (n : ℕ). take n seen) at ∙ each.now.front_same

  pub framed_body : (body : List ℕ) → Each (IsFramedAfter front body) seen outcomes → doubted gate seen ≡ body
  framed_body body each = ap (λ (n : ℕ). body_in (drop (n + 1) seen)) at ∙ body_framed body (drop (length front + 1) seen) each.now.framed

  pub framed_within : (body : List ℕ) → Each (IsFramedAfter front body) seen outcomes → gate < length seen
  framed_within body each =
      let n = length front in let k = length (frame body) + 1 in
      omega (arith, at, ap length each.now.framed, length-append (frame body) (0 ∷ []), length-take k (drop (n + 1) seen), length-drop (n + 1) seen)

  pub framed_sound : (body : List ℕ) → Each (IsFramedAfter front body) seen outcomes → IsSound seen outcomes gate true
  framed_sound body each =
      let same = framed_same body each in
      let its_body = framed_body body each in
      record {
        front = subst IsFront (sym same) is;
        within = framed_within body each;
        sure = λ e. absurd (true≢false e);
        unsure = λ _. subst (λ (b : List ℕ). Each (IsFramedAfter (take gate seen) b) seen outcomes) (sym its_body) (subst (λ (f : List ℕ). Each (IsFramedAfter f body) seen outcomes) (sym same) each);
      }

-- the gate behind one frame more
pub gate_more : (front : List ℕ) (gate : ℕ) (framed : List ℕ) → gate ≡ length front → IsFrame framed → gate + length framed ≡ length (front ++ 1 ∷ frame (body_in framed))
gate_more front gate framed at is = omega (arith, at, ap length is, length-append (frame (body_in framed)) (0 ∷ []), length-append front (1 ∷ frame (body_in framed)))
