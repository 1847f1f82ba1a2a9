-- Fronts of journals, and what bytes that begin with one stand for.
use Rattle.std.proofs.Common.{◌≡◌, ◌≢◌, ◌<◌, ◌⊎◌, inl, inr, ℕ, ◌+◌, true, List, [], ◌∷◌, ◌++◌, length, drop, get_or, slice_index, sym, ◌∙◌, ap, subst, arith, append_assoc, length-append, length-take, length-drop, take-append-drop}
use Rattle.std.proofs.lemmas.Bool.{cases_eq}
use Rattle.std.proofs.lemmas.List.{drop_more}
use Rattle.topo_journal.specs.Bytes.{Legal, AreLegal, Stands, frame, frames, History, read, opening}
use Rattle.topo_journal.specs.Kept.{bodies_in, bodies_of, IsFront, IsClosedAfter, IsFramedAfter}
use Rattle.topo_journal.proofs.Reading.{stands_closed, frames-push, follow_front, always_follow}

pub bodies-front : (format : ℕ) (bodies : List (List ℕ)) → format ≢ 2 → bodies_of (opening format ++ frames bodies) ≡ bodies
unfolding bodies_of
bodies-front format bodies other = ap bodies_in (stands_closed (λ _ _. true) format bodies 0 [] other (omega arith) (always_follow [] bodies))

pub front_from : (front : List ℕ) (format : ℕ) (bodies : List (List ℕ)) → format ≢ 2 → front ≡ opening format ++ frames bodies → IsFront front × (bodies_of front ≡ bodies)
front_from front format bodies other is =
    let sixth : slice_index front 6 ≡ format = ap (λ (l : List ℕ). slice_index l 6) is in
    let same : bodies_of front ≡ bodies = ap bodies_of is ∙ bodies-front format bodies other in (
      record {
        whole = is ∙ ap (λ (n : ℕ). opening n ++ frames bodies) (sym sixth) ∙ ap (λ bs. opening (slice_index front 6) ++ frames bs) (sym same);
        format = λ e. other (sym sixth ∙ e);
      },
      same,
    )

-- one frame more
pub front_more : (front body : List ℕ) → IsFront front → IsFront (front ++ 1 ∷ frame body) × (bodies_of (front ++ 1 ∷ frame body) ≡ bodies_of front ++ body ∷ [])
front_more front body is =
    front_from (front ++ 1 ∷ frame body) (slice_index front 6) (bodies_of front ++ body ∷ []) is.format
    (ap (λ (l : List ℕ). l ++ 1 ∷ frame body) is.whole ∙ append_assoc (opening (slice_index front 6)) (frames (bodies_of front)) (1 ∷ frame body)
    ∙ ap (λ (l : List ℕ). opening (slice_index front 6) ++ l) (sym (frames-push (bodies_of front) body)))

pub gate_stands : (front : List ℕ) → IsFront front → (legal : Legal) (gate : ℕ) (rest : List ℕ) → gate ≢ 1 → AreLegal legal (bodies_of front) → Stands legal (front ++ gate ∷ rest) (bodies_of front)
gate_stands front is legal gate rest shut are =
    ap (λ (l : List ℕ). read legal (l ++ gate ∷ rest)) is.whole ∙ stands_closed legal (slice_index front 6) (bodies_of front) gate rest is.format shut are

pub closed_whole : (front c : List ℕ) → IsClosedAfter front c → c ≡ front ++ get_or c (length front) 0 ∷ drop (length front + 1) c
closed_whole front c closed =
    let n = length front in
    sym (take-append-drop n c) ∙ ap (λ (l : List ℕ). l ++ drop n c) closed.front_same ∙ ap (λ (l : List ℕ). front ++ l) (drop_more c n 0 closed.within)

pub closed_stands : (front : List ℕ) → IsFront front → (legal : Legal) (c : List ℕ) → AreLegal legal (bodies_of front) → IsClosedAfter front c → Stands legal c (bodies_of front)
closed_stands front is legal c are closed =
    ap (read legal) (closed_whole front c closed) ∙ gate_stands front is legal (get_or c (length front) 0) (drop (length front + 1) c) closed.shut are

-- a gate and what stands behind a whole frame there
abbrev pub framed_gate : List ℕ → List ℕ → ℕ
framed_gate front c = get_or c (length front) 0

abbrev pub framed_rest : List ℕ → List ℕ → List ℕ → List ℕ
framed_rest front body c = drop (length (frame body) + 1) (drop (length front + 1) c)

pub framed_whole : (front body c : List ℕ) → IsFramedAfter front body c → c ≡ front ++ framed_gate front c ∷ (frame body ++ 0 ∷ framed_rest front body c)
framed_whole front body c framed =
    let n = length front in let k = length (frame body) + 1 in
    let within : n < length c = omega (arith, ap length framed.framed, length-append (frame body) (0 ∷ []), length-take k (drop (n + 1) c), length-drop (n + 1) c) in
    let behind : drop (n + 1) c ≡ frame body ++ 0 ∷ drop k (drop (n + 1) c) =
    sym (take-append-drop k (drop (n + 1) c)) ∙ ap (λ (l : List ℕ). l ++ drop k (drop (n + 1) c)) framed.framed ∙ append_assoc (frame body) (0 ∷ []) (drop k (drop (n + 1) c)) in
    sym (take-append-drop n c) ∙ ap (λ (l : List ℕ). l ++ drop n c) framed.front_same ∙ ap (λ (l : List ℕ). front ++ l) (drop_more c n 0 within)
    ∙ ap (λ (l : List ℕ). front ++ get_or c n 0 ∷ l) behind

opened : (front body : List ℕ) → IsFront front → (legal : Legal) (rest : List ℕ) → AreLegal legal (bodies_of front ++ body ∷ []) → Stands legal (front ++ 1 ∷ (frame body ++ 0 ∷ rest)) (bodies_of front ++ body ∷ [])
opened front body is legal rest are =
    let more = front_more front body is in
    let are_more : AreLegal legal (bodies_of (front ++ 1 ∷ frame body)) = subst (AreLegal legal) (sym more.1) are in
    ap (read legal) (sym (append_assoc front (1 ∷ frame body) (0 ∷ rest)))
    ∙ gate_stands (front ++ 1 ∷ frame body) more.0 legal 0 rest (omega arith) are_more
    ∙ ap History more.1

pub framed_stands : (front body : List ℕ) → IsFront front → (legal : Legal) (c : List ℕ) → AreLegal legal (bodies_of front ++ body ∷ []) → IsFramedAfter front body c
    → Stands legal c (bodies_of front) ⊎ Stands legal c (bodies_of front ++ body ∷ [])
framed_stands front body is legal c are framed =
    let gate = framed_gate front c in let rest = framed_rest front body c in
    let whole = framed_whole front body c framed in
    elim (cases_eq gate 1) [
      | inl is_open ↦ inr (ap (read legal) (whole ∙ ap (λ (g : ℕ). front ++ g ∷ (frame body ++ 0 ∷ rest)) is_open) ∙ opened front body is legal rest are)
      | inr shut ↦ inl (ap (read legal) whole ∙ gate_stands front is legal gate (frame body ++ 0 ∷ rest) shut (follow_front legal [] (bodies_of front) body are))
    ]
