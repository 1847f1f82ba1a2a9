-- What the outcomes of a crash stand for.
use Rattle.std.proofs.Common.{◌≡◌, ◌⊎◌, inl, inr, ⊎_elim, ℕ, Bool, true, false, List, [], ◌∷◌, ◌++◌, take, refl, sym, ◌∙◌, ap, subst, Result, Ok, Err, OnOk}
use Rattle.std.proofs.lemmas.Bool.{false≢true}
use Rattle.topo_journal.specs.Bytes.{Legal, AreLegal, Stands, frame}
use Rattle.topo_journal.specs.Kept.{IsFront, IsClosedAfter, IsFramedAfter, IsSound, bodies_of, history, doubted, StandsDoubting}
use Rattle.topo_journal.proofs.Reading.{follow_front}
use Rattle.topo_journal.proofs.Fronts.{front_more, closed_stands, framed_stands}

pub on_ok_both : {T E P Q R : Type 0} (r : Result T E) → OnOk r P → OnOk r Q → (P → Q → R) → OnOk r R
on_ok_both (Ok x) p q f = f p q
on_ok_both (Err e) p q f = tt

-- what a sound journal's disk may hold after a crash
images_of : (seen : List ℕ) (outcomes : List ℕ → Type 0) (gate : ℕ) (doubt : Bool) → IsSound seen outcomes gate doubt → (legal : Legal)
    → AreLegal legal (history gate seen) → (doubt ≡ true → AreLegal legal (history gate seen ++ doubted gate seen ∷ [])) → (c : List ℕ) → outcomes c
    → StandsDoubting legal (history gate seen) doubt (doubted gate seen) c
images_of seen outcomes gate false sound legal are other c left = inl (closed_stands (take gate seen) sound.front legal c are ((sound.sure refl).crashed c left))
images_of seen outcomes gate true sound legal are other c left =
    ⊎_elim (λ h. inl h) (λ h. inr (refl, h)) (framed_stands (take gate seen) (doubted gate seen) sound.front legal c (other refl) ((sound.unsure refl).crashed c left))

pub images_at : (bodies : List (List ℕ)) (seen : List ℕ) (outcomes : List ℕ → Type 0) (gate : ℕ) (doubt : Bool) → history gate seen ≡ bodies → IsSound seen outcomes gate doubt → (legal : Legal)
    → AreLegal legal bodies → (doubt ≡ true → AreLegal legal (bodies ++ doubted gate seen ∷ [])) → (c : List ℕ) → outcomes c
    → StandsDoubting legal bodies doubt (doubted gate seen) c
images_at bodies seen outcomes gate doubt same sound =
    subst (λ (bs : List (List ℕ)). (legal : Legal) → AreLegal legal bs → (doubt ≡ true → AreLegal legal (bs ++ doubted gate seen ∷ [])) → (c : List ℕ) → outcomes c → StandsDoubting legal bs doubt (doubted gate seen) c)
    same (images_of seen outcomes gate doubt sound)

pub sure_images : (bodies : List (List ℕ)) (seen : List ℕ) (outcomes : List ℕ → Type 0) (gate : ℕ) (doubt : Bool) → doubt ≡ false → history gate seen ≡ bodies → IsSound seen outcomes gate doubt → (legal : Legal)
    → AreLegal legal bodies → (c : List ℕ) → outcomes c → Stands legal c bodies
sure_images bodies seen outcomes gate doubt sure same sound legal are c left =
    ⊎_elim (λ h. h) (λ h. absurd (false≢true (sym sure ∙ h.0)))
    (images_at bodies seen outcomes gate doubt same sound legal are (λ e. absurd (false≢true (sym sure ∙ e))) c left)

module _ (front : List ℕ) (is : IsFront front) (legal : Legal) where
  -- while a gate is closed
  pub mending_stands : (doubt : Bool) (other : List ℕ) → AreLegal legal (bodies_of front) → (doubt ≡ true → AreLegal legal (bodies_of front ++ other ∷ [])) → (c : List ℕ)
      → IsClosedAfter front c ⊎ ((doubt ≡ true) × IsFramedAfter front other c) → StandsDoubting legal (bodies_of front) doubt other c
  mending_stands doubt other are may c (inl closed) = inl (closed_stands front is legal c are closed)
  mending_stands doubt other are may c (inr framed) =
      ⊎_elim (λ h. inl h) (λ h. inr (framed.0, h)) (framed_stands front other is legal c (may framed.0) framed.1)

  -- while an entry is added
  pub adding_stands : (body : List ℕ) → AreLegal legal (bodies_of front ++ body ∷ []) → (c : List ℕ) → IsClosedAfter front c ⊎ IsFramedAfter front body c
      → Stands legal c (bodies_of front) ⊎ Stands legal c (bodies_of front ++ body ∷ [])
  adding_stands body are c (inl closed) = inl (closed_stands front is legal c (follow_front legal [] (bodies_of front) body are) closed)
  adding_stands body are c (inr framed) = framed_stands front body is legal c are framed

-- the history after one frame more
pub history_more : (old front new body : List ℕ) → IsFront front → front ≡ old → new ≡ front ++ 1 ∷ frame body → bodies_of new ≡ bodies_of old ++ body ∷ []
history_more old front new body is same more =
    ap bodies_of more ∙ (front_more front body is).1 ∙ ap (λ (l : List ℕ). bodies_of l ++ body ∷ []) same
