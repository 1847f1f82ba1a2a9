-- A line goes from the steps of a drawing, which stand in any order: faces that were right are right without it.
use Rattle.std.proofs.Common.{◌≡◌, ◌≢◌, refl, sym, ◌∙◌, subst, ℕ, inl, inr, Bool, true, false, List, [], ◌∷◌, eqb, eq-eqb}
use Rattle.std.proofs.lemmas.Bool.{both_ways, eqb-true}
use Rattle.topo_base.specs.Point.{Point}
use Rattle.plane.specs.Segment.{Segment}
use Rattle.plane.specs.Crossings.{back}
use Rattle.parity_laws.specs.Steps.{above, left}
use Rattle.parity_laws.specs.Ways.{Tied}
use Rattle.parity_laws.specs.Rings.{In, Plain, Within, Once, Drawn, those, Ringwise, Sided, of_face}
use Rattle.parity_laws.proofs.Ringwise.{each_within}
use Rattle.parity_laws.specs.Shelling.{OneShell, NoShell}
use Rattle.parity_laws.proofs.Rearranging.{Rearranged, rearranged_back, same_above, same_sided, same_ringwise, same_one_shell, same_no_shell}
use Rattle.parity_laws.specs.Coming.{with_line, Strung, LineComes}
use Rattle.parity_laws.proofs.FaceShells.{HasOnce}
use Rattle.parity_laws.proofs.LineGone.{IsEndOf}
use Rattle.parity_laws.proofs.JoinedFaces.{JoinedNumber, TwoFaces, joined_ringwise, joined_sided, joined_above, joined_above_end, joined_left}
use Rattle.parity_laws.proofs.JoinedShells.{OuterJoins, joined_shells, joined_outer}
use Rattle.parity_laws.proofs.OneFace.{OneFace, one_ringwise, one_sided, one_above, one_left, face_above_end}
use Rattle.parity_laws.proofs.PartedShells.{PartsFace, parts_face, parted_one_shell, parted_no_shell}

-- U has the steps of T and of the line, both ways
pub record LineGoes (U T : List Segment) (first : Segment) (rest : List Segment) (last : Segment) : Type 0 where
  pub comes : LineComes T first rest last
  pub same : Rearranged U (with_line T (first ∷ rest))

pub same_plain : (U V : List Segment) → Within U V → Within V U → Plain U → Plain V
same_plain U V w v plain = record {
  proper = λ s i. plain.proper s (v s i);
  tied = λ s i. each_within (Tied s) V U v (plain.tied s (v s i));
  both = λ s i. w (back s) (plain.both s (v s i));
}

pub same_strung : (U V : List Segment) (d : Segment) (X : List Segment) (z : Segment) → Within V U → Strung U d X z → Strung V d X z
same_strung U V d [] z w h = h
same_strung U V d (n ∷ X) z w h = (h.0, (λ t i e. h.1 t (w t i) e), same_strung U V n X z w h.2)

pub line_goes : (U T : List Segment) (first : Segment) (rest : List Segment) (last : Segment) → Drawn U → Drawn T → Once (with_line T (first ∷ rest)) → Rearranged U (with_line T (first ∷ rest)) → Strung U first rest last →
    LineGoes U T first rest last
line_goes U T first rest last new old once same strung = record {
  comes = record {
    old = old;
    new = record { plain = same_plain U (with_line T (first ∷ rest)) same.there same.back new.plain; once = once };
    strung = same_strung U (with_line T (first ∷ rest)) first rest last same.back strung;
  };
  same = same;
}

-- ---- faces of steps that are right
-- each face is one for each ring and has itself on its left; those that are listed have one shell, and the outer face has none
pub record FacesAreRight (T : List Segment) (F : Segment → ℕ) (IsFace : ℕ → Type 0) : Type 0 where
  pub rings : (g : ℕ) → Ringwise T (of_face F g)
  pub sided : (g : ℕ) → g ≢ 0 → Sided T (of_face F g)
  pub shells : (g : ℕ) → g ≢ 0 → IsFace g → OneShell T F g
  pub outer : NoShell T F 0

pub same_faces : (U V : List Segment) (F : Segment → ℕ) (IsFace : ℕ → Type 0) → Rearranged U V → FacesAreRight U F IsFace → FacesAreRight V F IsFace
same_faces U V F IsFace r h = record {
  rings = λ g. same_ringwise U V (of_face F g) r (h.rings g);
  sided = λ g n. same_sided U V (of_face F g) r (h.sided g n);
  shells = λ g n i. same_one_shell U V F g r (h.shells g n i);
  outer = same_no_shell U V F 0 r h.outer;
}

-- ---- two faces become one
-- l and r are on the line's sides, and k is what they become; each other face was there before
pub record FacesJoin (U T : List Segment) (first : Segment) (rest : List Segment) (last : Segment) (F' F : Segment → ℕ) (WasFace IsFace : ℕ → Type 0) (l r k : ℕ) : Type 0 where
  pub goes : LineGoes U T first rest last
  pub right : FacesAreRight U F' WasFace
  pub forth : F' first ≡ l
  pub walked : F' (back first) ≡ r
  pub differ : l ≢ r
  pub numbers : (s : Segment) → In s T → JoinedNumber l r k (F' s) (F s)
  pub outer : OuterJoins l r k
  pub was_left : l ≢ 0 → WasFace l
  pub was_right : r ≢ 0 → WasFace r
  pub others : (g : ℕ) → IsFace g → g ≢ k → WasFace g × (g ≢ l) × (g ≢ r)

two_faces : (U T : List Segment) (first : Segment) (rest : List Segment) (last : Segment) (F' F : Segment → ℕ) (WasFace IsFace : ℕ → Type 0) (l r k : ℕ) → FacesJoin U T first rest last F' F WasFace IsFace l r k → TwoFaces T first rest last F' F l r k
two_faces U T first rest last F' F WasFace IsFace l r k h = record {
  comes = h.goes.comes;
  rings = λ g. same_ringwise U (with_line T (first ∷ rest)) (of_face F' g) h.goes.same (h.right.rings g);
  forth = h.forth;
  walked = h.walked;
  differ = h.differ;
  numbers = h.numbers;
}

pub faces_join : (U T : List Segment) (first : Segment) (rest : List Segment) (last : Segment) (F' F : Segment → ℕ) (WasFace IsFace : ℕ → Type 0) (l r k : ℕ) → FacesJoin U T first rest last F' F WasFace IsFace l r k →
    FacesAreRight T F IsFace
faces_join U T first rest last F' F WasFace IsFace l r k h = record {
  rings = joined_ringwise T first rest last F' F l r k two;
  sided = joined_sided T first rest last F' F l r k two h.outer.inner right.sided;
  shells = λ g n i. by_face g n i (eqb g k) refl;
  outer = joined_outer T first rest last F' F l r k two h.outer at_left at_right right.outer;
}
  where
    right : FacesAreRight (with_line T (first ∷ rest)) F' WasFace
    right = same_faces U (with_line T (first ∷ rest)) F' WasFace h.goes.same h.right

    two : TwoFaces T first rest last F' F l r k
    two = two_faces U T first rest last F' F WasFace IsFace l r k h

    at_left : l ≢ 0 → OneShell (with_line T (first ∷ rest)) F' l
    at_left n = right.shells l n (h.was_left n)

    at_right : r ≢ 0 → OneShell (with_line T (first ∷ rest)) F' r
    at_right n = right.shells r n (h.was_right n)

    by_face : (g : ℕ) → g ≢ 0 → IsFace g → (b : Bool) → eqb g k ≡ b → OneShell T F g
    by_face g n i true e = let m = eqb-true g k e in subst (λ z. OneShell T F z) (sym m) ((joined_shells T first rest last F' F l r k two h.outer at_left at_right).0 (λ q. n (m ∙ q)))
    by_face g n i false e =
        let nk : g ≢ k = (λ q. both_ways (eqb g k) e (eq-eqb g k q)) in
        let was = h.others g i nk in
        (joined_shells T first rest last F' F l r k two h.outer at_left at_right).1 g nk was.1 was.2 (right.shells g n was.0)

-- a point in the face m is in the face that m becomes
pub points_join : (U T : List Segment) (first : Segment) (rest : List Segment) (last : Segment) (F' F : Segment → ℕ) (WasFace IsFace : ℕ → Type 0) (l r k m m' : ℕ) (v : Point) → FacesJoin U T first rest last F' F WasFace IsFace l r k →
    JoinedNumber l r k m m' → ((g : ℕ) → g ≢ 0 → above (those (of_face F' g) U) v ≡ eqb m g) → (g : ℕ) → g ≢ 0 → above (those (of_face F g) T) v ≡ eqb m' g
points_join U T first rest last F' F WasFace IsFace l r k m m' v h number at g n =
    joined_above T first rest last F' F l r k m m' v (two_faces U T first rest last F' F WasFace IsFace l r k h) h.outer.inner number
    (λ x nx. same_above (with_line T (first ∷ rest)) U (of_face F' x) v (rearranged_back U (with_line T (first ∷ rest)) h.goes.same) ∙ at x nx) g n

-- left of the line is the joined face
pub left_joins : (U T : List Segment) (first : Segment) (rest : List Segment) (last : Segment) (F' F : Segment → ℕ) (WasFace IsFace : ℕ → Type 0) (l r k : ℕ) → FacesJoin U T first rest last F' F WasFace IsFace l r k →
    (g : ℕ) → g ≢ 0 → left (those (of_face F g) T) first ≡ eqb k g
left_joins U T first rest last F' F WasFace IsFace l r k h g n =
    joined_left T first rest last F' F l r k (two_faces U T first rest last F' F WasFace IsFace l r k h) h.outer.inner
    (same_faces U (with_line T (first ∷ rest)) F' WasFace h.goes.same h.right).sided g n

-- an end of the line where no other step begins is in the joined face
pub end_joins : (U T : List Segment) (first : Segment) (rest : List Segment) (last : Segment) (F' F : Segment → ℕ) (WasFace IsFace : ℕ → Type 0) (l r k : ℕ) (e : Segment) → FacesJoin U T first rest last F' F WasFace IsFace l r k →
    IsEndOf first last e → ((t : Segment) → In t T → t.a ≢ e.a) → (g : ℕ) → g ≢ 0 → above (those (of_face F g) T) e.a ≡ eqb k g
end_joins U T first rest last F' F WasFace IsFace l r k e h end none g n =
    joined_above_end T first rest last F' F l r k e (two_faces U T first rest last F' F WasFace IsFace l r k h) h.outer.inner end none
    (same_faces U (with_line T (first ∷ rest)) F' WasFace h.goes.same h.right).sided g n

-- ---- one face on both sides
pub record FaceStays (U T : List Segment) (first : Segment) (rest : List Segment) (last : Segment) (F : Segment → ℕ) (IsFace : ℕ → Type 0) (f : ℕ) : Type 0 where
  pub goes : LineGoes U T first rest last
  pub right : FacesAreRight U F IsFace
  pub forth : F first ≡ f
  pub walked : F (back first) ≡ f
  pub listed : f ≢ 0 → IsFace f

one_face : (U T : List Segment) (first : Segment) (rest : List Segment) (last : Segment) (F : Segment → ℕ) (IsFace : ℕ → Type 0) (f : ℕ) → FaceStays U T first rest last F IsFace f → OneFace T first rest last F f
one_face U T first rest last F IsFace f h = record {
  comes = h.goes.comes;
  rings = λ g. same_ringwise U (with_line T (first ∷ rest)) (of_face F g) h.goes.same (h.right.rings g);
  forth = h.forth;
  walked = h.walked;
}

pub faces_stay : (U T : List Segment) (first : Segment) (rest : List Segment) (last : Segment) (F : Segment → ℕ) (IsFace : ℕ → Type 0) (f : ℕ) → FaceStays U T first rest last F IsFace f → FacesAreRight T F IsFace
faces_stay U T first rest last F IsFace f h = record {
  rings = one_ringwise T first rest last F f one;
  sided = λ g n. one_sided T first rest last F f one g (right.sided g n);
  shells = λ g n i. parted_one_shell T first rest last F f parts.0 parts.1.0 parts.1.1.0 parts.1.1.1 g (right.shells g n i);
  outer = parted_no_shell T first rest last F f parts.0 parts.1.0 parts.1.1.0 parts.1.1.1 0 right.outer;
}
  where
    right : FacesAreRight (with_line T (first ∷ rest)) F IsFace
    right = same_faces U (with_line T (first ∷ rest)) F IsFace h.goes.same h.right

    one : OneFace T first rest last F f
    one = one_face U T first rest last F IsFace f h

    has : (b : Bool) → eqb f 0 ≡ b → HasOnce (with_line T (first ∷ rest)) F f
    has true e = inr (subst (λ z. NoShell (with_line T (first ∷ rest)) F z) (sym (eqb-true f 0 e)) right.outer)
    has false e = let n : f ≢ 0 = (λ q. both_ways (eqb f 0) e (eq-eqb f 0 q)) in inl (right.rings f, right.sided f n, right.shells f n (h.listed n))

    parts : (p : Segment → Bool) × ((a : Segment → Bool) × ((b : Segment → Bool) × PartsFace T first rest last F f p a b))
    parts = parts_face T first rest last F f one (has (eqb f 0) refl)

-- points stay in their faces
pub points_stay : (U T : List Segment) (first : Segment) (rest : List Segment) (last : Segment) (F : Segment → ℕ) (IsFace : ℕ → Type 0) (f : ℕ) → FaceStays U T first rest last F IsFace f → (g : ℕ) (v : Point) →
    above (those (of_face F g) T) v ≡ above (those (of_face F g) U) v
points_stay U T first rest last F IsFace f h g v =
    one_above T first rest last F f (one_face U T first rest last F IsFace f h) g v ∙ same_above (with_line T (first ∷ rest)) U (of_face F g) v (rearranged_back U (with_line T (first ∷ rest)) h.goes.same)

-- left of the line is the line's face
pub left_stays : (U T : List Segment) (first : Segment) (rest : List Segment) (last : Segment) (F : Segment → ℕ) (IsFace : ℕ → Type 0) (f : ℕ) → FaceStays U T first rest last F IsFace f →
    (g : ℕ) → g ≢ 0 → left (those (of_face F g) T) first ≡ eqb f g
left_stays U T first rest last F IsFace f h g n =
    one_left T first rest last F f (one_face U T first rest last F IsFace f h) g (same_sided U (with_line T (first ∷ rest)) (of_face F g) h.goes.same (h.right.sided g n))

-- an end of the line where no other step begins is in the line's face
pub end_stays : (U T : List Segment) (first : Segment) (rest : List Segment) (last : Segment) (F : Segment → ℕ) (IsFace : ℕ → Type 0) (f : ℕ) (e : Segment) → FaceStays U T first rest last F IsFace f →
    IsEndOf first last e → ((t : Segment) → In t T → t.a ≢ e.a) → (g : ℕ) → g ≢ 0 → above (those (of_face F g) T) e.a ≡ eqb f g
end_stays U T first rest last F IsFace f e h end none g n =
    face_above_end T first rest last F f e (one_face U T first rest last F IsFace f h) end none g (same_sided U (with_line T (first ∷ rest)) (of_face F g) h.goes.same (h.right.sided g n))
