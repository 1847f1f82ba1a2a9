-- Edges that go: the faces on the two sides become one.
use Rattle.std.proofs.Common.{◌≡◌, ◌≢◌, ℕ, ◌+◌, refl, sym, ◌∙◌, ap, subst, arith, ◌⊎◌, inl, inr, ⊎_elim, Bool, true, false, not, cond, ◌||◌, ◌==◌, List, [], ◌∷◌, ◌++◌}
use Rattle.std.specs.List.{Contains}
use Rattle.std.proofs.lemmas.Bool.{both_ways, eqb-true, eq-eqb, not-true, false_from_ne_true}
use Rattle.std.proofs.lemmas.List.Elements.{Contains-push_cases}
use Rattle.drawing.specs.Drawing.{Drawing, Edge, has_face}
use Rattle.drawing.specs.Relations.{is_among}
use Rattle.drawing.specs.RemoveEdge.{renamed, without_faces}
use Rattle.edit_changes.specs.Evidence.{EdgeMayGo, FacesMayJoin, AreSides}
use Rattle.drawing.proofs.Members.{contains-filtered}
use Rattle.ring_laws.specs.Ringed.{IsRinged}
use Rattle.ring_laws.proofs.Known.{any_in, any_out}
use Rattle.ring_laws.proofs.KnownStays.{is_listed}
use Rattle.ring_laws.proofs.MergedSides.{merged_with}
use Rattle.parity_laws.proofs.JoinedFaces.{JoinedNumber}
use Rattle.parity_laws.proofs.JoinedShells.{OuterJoins}
use Rattle.face_laws.specs.Covered.{IsCovered}
use Rattle.face_laws.proofs.Covering.{known}
use Rattle.subdivision_laws.proofs.Covers.{Covers}
use Rattle.subdivision_laws.proofs.RingAdded.{FacesBelow}
use Rattle.plane.specs.Segment.{Segment}
use Rattle.subdivision_laws.proofs.GoneSteps.{Takes}
use Rattle.subdivision_laws.proofs.GoneFaces.{IsFaceOf, Settled, TwoSides, two_settled, one_settled}
use Rattle.subdivision_laws.proofs.MergedGone.{merged_covers}

-- ---- new numbers
-- one face goes
one_number : (l r goes kept m : ℕ) → ((m ≡ l) ⊎ (m ≡ r) → (m ≡ goes) ⊎ (m ≡ kept)) → (m ≢ l → m ≢ r → m ≢ goes) → (kept ≡ l) ⊎ (kept ≡ r) → JoinedNumber l r kept m (renamed (goes ∷ []) kept m)
one_number l r goes kept m sides off one = record {
  joined = λ at.
      ⊎_elim
      (λ (p : m ≡ goes). ap (λ t. cond (t || false) kept m) (eq-eqb goes m (sym p)))
      (λ (p : m ≡ kept). at_kept (is_among m (goes ∷ [])) p)
      (sides at);
  others = λ nl nr. ap (λ t. cond (t || false) kept m) (false_from_ne_true (goes == m) (λ t. off nl nr (sym (eqb-true goes m t))));
  fresh = ⊎_elim (λ (p : kept ≡ l). inl p) (λ (p : kept ≡ r). inr (inl p)) one;
}
  where
    at_kept : (t : Bool) → m ≡ kept → cond t kept m ≡ kept
    at_kept true p = refl
    at_kept false p = p

-- both go
two_number : (l r new m : ℕ) → m ≢ new → JoinedNumber l r new m (renamed (l ∷ r ∷ []) new m)
two_number l r new m off = record {
  joined = λ at.
      ⊎_elim
      (λ (p : m ≡ l). ap (λ t. cond (t || ((r == m) || false)) new m) (eq-eqb l m (sym p)))
      (λ (p : m ≡ r). at_right (l == m) (r == m) (eq-eqb r m (sym p)))
      at;
  others = λ nl nr. neither (l == m) (r == m) (false_from_ne_true (l == m) (λ t. nl (sym (eqb-true l m t)))) (false_from_ne_true (r == m) (λ t. nr (sym (eqb-true r m t))));
  fresh = inr (inr off);
}
  where
    at_right : (a b : Bool) → b ≡ true → cond (a || (b || false)) new m ≡ new
    at_right true b e = refl
    at_right false true e = refl
    at_right false false e = absurd (both_ways false refl e)

    neither : (a b : Bool) → a ≡ false → b ≡ false → cond (a || (b || false)) new m ≡ m
    neither true b e f = absurd (both_ways true e refl)
    neither false true e f = absurd (both_ways true f refl)
    neither false false e f = refl

-- ---- the faces that are left
face_left : (S : Drawing) (gone : List ℕ) (g : ℕ) → is_listed (without_faces S gone) g ≡ true → (has_face S g ≡ true) × (is_among g gone ≡ false)
face_left S gone g is =
    let (x, (c, t)) = any_out (λ x. x == g) (without_faces S gone) is in
    let r = contains-filtered (λ f. not (is_among f gone)) x S.faces c in
    (any_in (λ x. x == g) S.faces x r.0 t, subst (λ z. is_among z gone ≡ false) (eqb-true x g t) (not-true (is_among x gone) r.1))

off_one : (g goes : ℕ) → is_among g (goes ∷ []) ≡ false → g ≢ goes
off_one g goes e q = both_ways (is_among g (goes ∷ [])) e (ap (λ t. t || false) (eq-eqb goes g (sym q)))

off_both : (g l r : ℕ) → is_among g (l ∷ r ∷ []) ≡ false → (g ≢ l) × (g ≢ r)
off_both g l r e = (
  λ q. both_ways (is_among g (l ∷ r ∷ [])) e (ap (λ t. t || ((r == g) || false)) (eq-eqb l g (sym q))),
  λ q. both_ways (is_among g (l ∷ r ∷ [])) e (second (l == g) (r == g) (eq-eqb r g (sym q))),
)
  where
    second : (a b : Bool) → b ≡ true → (a || (b || false)) ≡ true
    second true b e = refl
    second false true e = refl
    second false false e = e

face_left_anew : (S : Drawing) (gone : List ℕ) (new g : ℕ) → is_listed (without_faces S gone ++ new ∷ []) g ≡ true → g ≢ new → is_listed (without_faces S gone) g ≡ true
face_left_anew S gone new g is n =
    let (x, (c, t)) = any_out (λ x. x == g) (without_faces S gone ++ new ∷ []) is in
    ⊎_elim
    (λ (d : Contains (without_faces S gone) x). any_in (λ x. x == g) (without_faces S gone) x d t)
    (λ (p : new ≡ x). absurd (n (sym (p ∙ eqb-true x g t))))
    (Contains-push_cases (without_faces S gone) new x c)

-- ---- the drawings after it
abbrev pub faces_joined : Drawing → Edge → ℕ → ℕ → Drawing
faces_joined S e kept goes = merged_with S e (goes ∷ []) kept (without_faces S (goes ∷ [])) S.next_ids

abbrev pub faces_joined_anew : Drawing → Edge → Drawing
faces_joined_anew S e =
    let gone = e.left_face ∷ e.right_face ∷ [] in
    merged_with S e gone S.next_ids.face (without_faces S gone ++ S.next_ids.face ∷ []) (record (S.next_ids) { face = S.next_ids.face + 1 })

-- one face was on both sides
pub one_side : (S : Drawing) (e : Edge) (first : Segment) (rest : List Segment) → e.left_face ≡ e.right_face → Takes S (merged_with S e [] e.left_face S.faces S.next_ids) e first rest (renamed [] e.left_face)
    → Settled S (merged_with S e [] e.left_face S.faces S.next_ids) first rest (renamed [] e.left_face) e.left_face
one_side S e first rest same h = one_settled S (merged_with S e [] e.left_face S.faces S.next_ids) e first rest (renamed [] e.left_face) (record { takes = h; one = same; stay = λ m. refl; listed = λ g is. is })

pub edge_goes : (S : Drawing) (e : Edge) → EdgeMayGo S e → e.left_face ≡ e.right_face → IsCovered S → IsRinged (merged_with S e [] e.left_face S.faces S.next_ids) → Covers (merged_with S e [] e.left_face S.faces S.next_ids)
edge_goes S e k same c = merged_covers S e [] e.left_face S.faces S.next_ids c k.there (λ first rest h. one_side S e first rest same h)

-- of the two faces one is kept
record IsKept (l r kept goes : ℕ) : Type 0 where
  sides : (m : ℕ) → (m ≡ l) ⊎ (m ≡ r) → (m ≡ goes) ⊎ (m ≡ kept)
  goes_off : (m : ℕ) → m ≢ l → m ≢ r → m ≢ goes
  one : (kept ≡ l) ⊎ (kept ≡ r)
  outer : OuterJoins l r kept
  off : (g : ℕ) → g ≢ goes → g ≢ kept → (g ≢ l) × (g ≢ r)

kept_is : (e : Edge) (kept goes : ℕ) → AreSides e kept goes → goes ≢ 0 → IsKept e.left_face e.right_face kept goes
kept_is e kept goes (inl s) some = record {
  sides = λ m at. ⊎_elim (λ (p : m ≡ e.left_face). inr (p ∙ sym s.0)) (λ (p : m ≡ e.right_face). inl (p ∙ sym s.1)) at;
  goes_off = λ m nl nr q. nr (q ∙ s.1);
  one = inl s.0;
  outer = record { outer = λ q. inl (sym s.0 ∙ q); inner = λ n. ((λ q. n (s.0 ∙ q)), (λ q. some (s.1 ∙ q))) };
  off = λ g ng nk. ((λ q. nk (q ∙ sym s.0)), (λ q. ng (q ∙ sym s.1)));
}
kept_is e kept goes (inr s) some = record {
  sides = λ m at. ⊎_elim (λ (p : m ≡ e.left_face). inl (p ∙ sym s.1)) (λ (p : m ≡ e.right_face). inr (p ∙ sym s.0)) at;
  goes_off = λ m nl nr q. nl (q ∙ s.1);
  one = inr s.0;
  outer = record { outer = λ q. inr (sym s.0 ∙ q); inner = λ n. ((λ q. some (s.1 ∙ q)), (λ q. n (s.0 ∙ q))) };
  off = λ g ng nk. ((λ q. ng (q ∙ sym s.1)), (λ q. nk (q ∙ sym s.0)));
}

pub sides_join : (S : Drawing) (e : Edge) (kept goes : ℕ) (first : Segment) (rest : List Segment) → FacesMayJoin S e → AreSides e kept goes → goes ≢ 0 → Takes S (faces_joined S e kept goes) e first rest (renamed (goes ∷ []) kept)
    → TwoSides S (faces_joined S e kept goes) e first rest (renamed (goes ∷ []) kept) kept
sides_join S e kept goes first rest k sides some h =
    let s = kept_is e kept goes sides some in
    record {
      takes = h;
      differ = k.differ;
      numbers = λ m _. one_number e.left_face e.right_face goes kept m (s.sides m) (s.goes_off m) s.one;
      outer = s.outer;
      others = λ g is n. let f = face_left S (goes ∷ []) g is in let off = s.off g (off_one g goes f.1) n in (f.0, off.0, off.1);
    }

pub faces_join : (S : Drawing) (e : Edge) (kept goes : ℕ) → FacesMayJoin S e → AreSides e kept goes → goes ≢ 0 → IsCovered S → IsRinged (faces_joined S e kept goes) → Covers (faces_joined S e kept goes)
faces_join S e kept goes k sides some c =
    merged_covers S e (goes ∷ []) kept (without_faces S (goes ∷ [])) S.next_ids c k.edge.there (λ first rest h.
    two_settled S (faces_joined S e kept goes) e first rest (renamed (goes ∷ []) kept) kept (sides_join S e kept goes first rest k sides some h))

pub sides_join_anew : (S : Drawing) (e : Edge) (first : Segment) (rest : List Segment) → FacesMayJoin S e → e.left_face ≢ 0 → e.right_face ≢ 0 → FacesBelow S → Takes S (faces_joined_anew S e) e first rest (renamed (e.left_face ∷ e.right_face ∷ []) S.next_ids.face)
    → TwoSides S (faces_joined_anew S e) e first rest (renamed (e.left_face ∷ e.right_face ∷ []) S.next_ids.face) S.next_ids.face
sides_join_anew S e first rest k some other below h =
    let gone = e.left_face ∷ e.right_face ∷ [] in
    let new = S.next_ids.face in
    record {
      takes = h;
      differ = k.differ;
      numbers = λ m is. two_number e.left_face e.right_face new m (less m is);
      outer = record { outer = λ q. absurd (less 0 (known S h.before.ringed).universe (sym q)); inner = λ n. (some, other) };
      others = λ g is n.
          let f = face_left S gone g (face_left_anew S gone new g is n) in
          let off = off_both g e.left_face e.right_face f.1 in
          (f.0, off.0, off.1);
    }
  where
    less : (m : ℕ) → IsFaceOf S m → m ≢ S.next_ids.face
    less m is q = let k = below m is in omega (arith, k, q)

pub faces_join_anew : (S : Drawing) (e : Edge) → FacesMayJoin S e → e.left_face ≢ 0 → e.right_face ≢ 0 → FacesBelow S → IsCovered S → IsRinged (faces_joined_anew S e) → Covers (faces_joined_anew S e)
faces_join_anew S e k some other below c =
    merged_covers S e (e.left_face ∷ e.right_face ∷ []) S.next_ids.face (without_faces S (e.left_face ∷ e.right_face ∷ []) ++ S.next_ids.face ∷ []) (record (S.next_ids) { face = S.next_ids.face + 1 }) c k.edge.there (λ first rest h.
    two_settled S (faces_joined_anew S e) e first rest (renamed (e.left_face ∷ e.right_face ∷ []) S.next_ids.face) S.next_ids.face (sides_join_anew S e first rest k some other below h))
