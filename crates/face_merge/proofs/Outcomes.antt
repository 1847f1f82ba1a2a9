-- The outcomes of a removed edge: what each of them wants of the draft, and the drawing after.
use Rattle.std.proofs.Common.{◌≡◌, ℕ, ◌+◌, ◌&&◌, ◌||◌, ◌==◌, Bool, true, false, List, [], ◌∷◌, ◌++◌, refl, sym, ap, ◌∙◌, subst, inl, inr, eqb-true, eq-eqb, Ok}
use Rattle.std.specs.List.{list_all, Contains}
use Rattle.std.proofs.lemmas.Bool.{and_parts, or_left, or_right}
use Rattle.topo_base.specs.declared.rows.Counters.{Counters}
use Rattle.topo_base.specs.declared.rows.FaceRow.{FaceRow}
use Rattle.drawing.specs.Drawing.{Drawing, Edge, has_face, has_node}
use Rattle.drawing.specs.Apply.{apply}
use Rattle.drawing.specs.Change.{EdgeGoes, FacesJoin, FacesJoinAnew}
use Rattle.drawing.specs.Outcome.{Accepted, Outcome, the_face}
use Rattle.drawing.specs.Relations.{is_among}
use Rattle.drawing.specs.RemoveEdge.{without_edge}
use Rattle.drawing.specs.Edits.{merged}
use Rattle.drawing.specs.Subdivision.{is_edge_known}
use Rattle.drawing.specs.Tables.{Tables, face_row, tables_of}
use Rattle.drawing.specs.Writable.{has_face_row}
use Rattle.plane.proofs.ListTests.{contains_cases, contains_none}
use Rattle.face_boxes.proofs.DividedBoxes.{listed_before, listed_behind, listed_first, one_is, there_in, with_new}
use Rattle.face_boxes.proofs.Boxes.{other_way}
use Rattle.relation_rows.proofs.KnownFeatures.{references_parts}
use Rattle.face_merge.specs.declared.removed.Removed.{Removed}
use Rattle.face_merge.specs.Merge.{IsMerge, KeepsRows, begun, merged_in}
use Rattle.face_merge.specs.Merging.{AreSides, WasRemoved, with_new_face}
use Rattle.face_merge.specs.Sides.{removed_of}
use Rattle.face_merge.proofs.Ids.{orders_of}
use Rattle.face_merge.proofs.MergedBoxes.{AreCovered, KeepsEdges, all_stay, is_covered, kept_rows, new_kept_rows, new_out, new_stays}

-- ---- the faces on the sides are listed
all_at : {X : Type 0} (p : X → Bool) (xs : List X) (x : X) → list_all p xs ≡ true → Contains xs x → p x ≡ true
all_at p [] x h c = absurd (contains_none x c)
all_at p (y ∷ xs) x h c =
    let parts = and_parts (p y) (list_all p xs) h in
    elim (contains_cases x y xs c) [
      | inl same ↦ ap p (sym same) ∙ parts.0
      | inr there ↦ all_at p xs x parts.1 there
    ]

record AreListed (S : Drawing) (e : Edge) : Type 0 where
  left : has_face S e.left_face ≡ true
  right : has_face S e.right_face ≡ true

sides_listed : (S : Drawing) (e : Edge) (r : Removed) (t : Tables) → WasRemoved S e r t → AreListed S e
sides_listed S e r t h =
    let known = all_at (is_edge_known S) S.edges e (references_parts S h.references).edges h.there in
    let all = and_parts (has_node S e.start_node && has_node S e.end_node && has_face S e.left_face) (has_face S e.right_face) known in
    let front = and_parts (has_node S e.start_node && has_node S e.end_node) (has_face S e.left_face) all.0 in
    record { left = front.1; right = all.1 }

-- ---- the sides are covered
covered_kept : (gone : List ℕ) (kept f : ℕ) → kept ≡ f → is_covered gone kept f ≡ true
covered_kept gone kept f same = or_left (kept == f) (is_among f gone) (eq-eqb kept f same)

covered_first : (gone : List ℕ) (kept g f : ℕ) → g ≡ f → is_covered (g ∷ gone) kept f ≡ true
covered_first gone kept g f same = or_right (kept == f) (is_among f (g ∷ gone)) (or_left (g == f) (is_among f gone) (eq-eqb g f same))

covered_second : (kept l r f : ℕ) → r ≡ f → is_covered (l ∷ r ∷ []) kept f ≡ true
covered_second kept l r f same = or_right (kept == f) (is_among f (l ∷ r ∷ [])) (or_right (l == f) (is_among f (r ∷ [])) (or_left (r == f) false (eq-eqb r f same)))

keeps_edges : (S : Drawing) (e : Edge) (r : Removed) (gone fs : List ℕ) (kept : ℕ) (ids : Counters) (t : Tables) → WasRemoved S e r t → AreCovered gone kept e → KeepsEdges S (merged_in S e gone kept fs ids) e gone kept
keeps_edges S e r gone fs kept ids t h covered = record { edge = record { ordered = (orders_of S h.ids).edges; there = h.there }; covered = covered; edges = refl }

-- ---- one face on both sides
pub alone_merge : (S : Drawing) (e : Edge) (r : Removed) (t : Tables) → WasRemoved S e r t → r.left_face ≡ r.right_face → IsMerge S e (face_row S) S.faces S.next_ids r [] r.left_face t
alone_merge S e r t h same =
    let left : r.left_face ≡ e.left_face = ap (λ (x : Removed). x.left_face) h.edge in
    let right : r.left_face ≡ e.right_face = same ∙ ap (λ (x : Removed). x.right_face) h.edge in
    let covered : AreCovered [] r.left_face e = record { left = covered_kept [] r.left_face e.left_face left; right = covered_kept [] r.left_face e.right_face right } in
    let there = there_in (face_row S) S.faces r.left_face (record { id = λ g. refl }) (ap (has_face S) left ∙ (sides_listed S e r t h).left) in
    record {
      ordered = h.ids;
      references = h.references;
      edge = h.edge;
      rows = h.rows;
      keeps = kept_rows S (merged_in S e [] r.left_face S.faces S.next_ids) e [] r.left_face (keeps_edges S e r [] S.faces r.left_face S.next_ids t h covered);
      there = ap (λ (u : Tables). has_face_row u r.left_face) h.rows ∙ there;
      may_go = tt;
    }

pub alone_is : (S : Drawing) (e : Edge) (r : Removed) → r ≡ removed_of e → tables_of (merged_in S e [] r.left_face S.faces S.next_ids) ≡ tables_of (apply S (EdgeGoes e)).drawing
alone_is S e r edge = λ i. tables_of (without_edge S e [] (edge i).left_face (all_stay S.faces i))

-- ---- one of two faces goes
pub one_merge : (S : Drawing) (e : Edge) (r : Removed) (goes kept : ℕ) (t : Tables) → WasRemoved S e r t → AreSides r goes kept → goes == kept ≡ false → goes == 0 ≡ false
    → IsMerge S e (face_row S) S.faces S.next_ids r (goes ∷ []) kept t
one_merge S e r goes kept t h sides other some = by sides
  where
    left : r.left_face ≡ e.left_face
    left = ap (λ (x : Removed). x.left_face) h.edge

    right : r.right_face ≡ e.right_face
    right = ap (λ (x : Removed). x.right_face) h.edge

    is : AreCovered (goes ∷ []) kept e → has_face S goes ≡ true → has_face S kept ≡ true → IsMerge S e (face_row S) S.faces S.next_ids r (goes ∷ []) kept t
    is covered at_goes at_kept = record {
      ordered = h.ids;
      references = h.references;
      edge = h.edge;
      rows = h.rows;
      keeps = kept_rows S (merged_in S e (goes ∷ []) kept S.faces S.next_ids) e (goes ∷ []) kept (keeps_edges S e r (goes ∷ []) S.faces kept S.next_ids t h covered);
      there = ap (λ (u : Tables). has_face_row u kept) h.rows ∙ there_in (face_row S) S.faces kept (record { id = λ g. refl }) at_kept;
      may_go = (ap (λ (u : Tables). has_face_row u goes) h.rows ∙ there_in (face_row S) S.faces goes (record { id = λ g. refl }) at_goes, some, refl, tt);
    }

    by : AreSides r goes kept → IsMerge S e (face_row S) S.faces S.next_ids r (goes ∷ []) kept t
    by (inl p) =
        let at_goes = p.0 ∙ left in
        let at_kept = p.1 ∙ right in
        is (record { left = covered_first [] kept goes e.left_face at_goes; right = covered_kept (goes ∷ []) kept e.right_face at_kept })
        (ap (has_face S) at_goes ∙ (sides_listed S e r t h).left) (ap (has_face S) at_kept ∙ (sides_listed S e r t h).right)
    by (inr p) =
        let at_goes = p.0 ∙ right in
        let at_kept = p.1 ∙ left in
        is (record { left = covered_kept (goes ∷ []) kept e.left_face at_kept; right = covered_first [] kept goes e.right_face at_goes })
        (ap (has_face S) at_goes ∙ (sides_listed S e r t h).right) (ap (has_face S) at_kept ∙ (sides_listed S e r t h).left)

-- ---- both go, and a new face comes
abbrev pub faces_and_new : Drawing → List ℕ
faces_and_new S = S.faces ++ S.next_ids.face ∷ []

abbrev pub ids_after : Drawing → Counters
ids_after S = record (S.next_ids) { face = S.next_ids.face + 1 }

abbrev pub rows_and_new : Drawing → ℕ → FaceRow
rows_and_new S = with_new (face_row S) S.next_ids.face

new_id : (S : Drawing) (e : Edge) (r : Removed) (new : ℕ) (t : Tables) → WasRemoved S e r t → new ≡ t.next_ids.face → new ≡ S.next_ids.face
new_id S e r new t h is = is ∙ ap (λ (u : Tables). u.next_ids.face) h.rows

pub anew_merge : (S : Drawing) (e : Edge) (r : Removed) (new : ℕ) (t t1 : Tables) → WasRemoved S e r t → new ≡ t.next_ids.face → t1 ≡ with_new_face t → r.left_face == r.right_face ≡ false → r.left_face == 0 ≡ false
    → r.right_face == 0 ≡ false → IsMerge S e (rows_and_new S) (faces_and_new S) (ids_after S) r (r.left_face ∷ r.right_face ∷ []) new t1
anew_merge S e r new t t1 h new_is made other left_some right_some =
    subst (λ k. IsMerge S e (rows_and_new S) (faces_and_new S) (ids_after S) r (r.left_face ∷ r.right_face ∷ []) k t1) (sym (new_id S e r new t h new_is))
    (record {
      ordered = h.ids;
      references = h.references;
      edge = h.edge;
      rows = rows;
      keeps = keeps;
      there = ap (λ (u : Tables). has_face_row u S.next_ids.face) rows ∙ there_in (rows_and_new S) (faces_and_new S) S.next_ids.face (record { id = keeps.id }) (listed_behind S.faces (S.next_ids.face ∷ []) S.next_ids.face (listed_first S.next_ids.face []));
      may_go = (face_there r.left_face at_left, left_some, out, (face_there r.right_face at_right, right_some, refl, tt));
    })
  where
    gone : List ℕ
    gone = r.left_face ∷ r.right_face ∷ []

    left : r.left_face ≡ e.left_face
    left = ap (λ (x : Removed). x.left_face) h.edge

    right : r.right_face ≡ e.right_face
    right = ap (λ (x : Removed). x.right_face) h.edge

    rows : t1 ≡ begun S e (rows_and_new S) (faces_and_new S) (ids_after S)
    rows =
        made ∙ ap with_new_face h.rows
        ∙ ap (λ (rs : List FaceRow). record (begun S e (rows_and_new S) (faces_and_new S) (ids_after S)) { faces = rs }) (one_is S (orders_of S h.ids).faces)

    covered : AreCovered gone S.next_ids.face e
    covered = record {
      left = covered_first (r.right_face ∷ []) S.next_ids.face r.left_face e.left_face left;
      right = covered_second S.next_ids.face r.left_face r.right_face e.right_face right;
    }

    keeps : KeepsRows (rows_and_new S) (merged_in S e gone S.next_ids.face (faces_and_new S) (ids_after S)) gone S.next_ids.face
    keeps = new_kept_rows S (merged_in S e gone S.next_ids.face (faces_and_new S) (ids_after S)) e gone S.next_ids.face (keeps_edges S e r gone (faces_and_new S) S.next_ids.face (ids_after S) t h covered)

    at_left : has_face S r.left_face ≡ true
    at_left = ap (has_face S) left ∙ (sides_listed S e r t h).left

    at_right : has_face S r.right_face ≡ true
    at_right = ap (has_face S) right ∙ (sides_listed S e r t h).right

    face_there : (f : ℕ) → has_face S f ≡ true → has_face_row t1 f ≡ true
    face_there f at =
        ap (λ (u : Tables). has_face_row u f) rows ∙ there_in (rows_and_new S) (faces_and_new S) f (record { id = keeps.id }) (listed_before S.faces (S.next_ids.face ∷ []) f at)

    out : is_among r.left_face (r.right_face ∷ []) ≡ false
    out = ap (λ b. b || false) (other_way r.left_face r.right_face other)

pub anew_is : (S : Drawing) (e : Edge) (r : Removed) (new : ℕ) (t : Tables) → WasRemoved S e r t → new ≡ t.next_ids.face
    → tables_of (merged_in S e (r.left_face ∷ r.right_face ∷ []) new (faces_and_new S) (ids_after S)) ≡ tables_of (apply S (FacesJoinAnew e)).drawing
anew_is S e r new t h new_is =
    let gone = e.left_face ∷ e.right_face ∷ [] in
    let listed = sides_listed S e r t h in
    let out = new_out S e.left_face e.right_face (orders_of S h.ids).faces listed.left listed.right in
    let id = new_id S e r new t h new_is in
    (λ i. tables_of (merged_in S e ((h.edge i).left_face ∷ (h.edge i).right_face ∷ []) (id i) (faces_and_new S) (ids_after S)))
    ∙ ap (λ (fs : List ℕ). tables_of (record (without_edge S e gone S.next_ids.face fs) { next_ids = ids_after S })) (new_stays S gone out)

-- ---- which outcome it is
-- a drawing after, and the face that the reply names
abbrev pub named : Drawing → ℕ → Accepted
named D f = record { drawing = D; ids = the_face f ∷ [] }

same_done : (a b : Accepted) (o : Outcome) → o ≡ Ok a → o ≡ Ok b → a ≡ b
same_done a b o is at = let same : o ≡ Ok a = is in let other : o ≡ Ok b = at in cc

pub tables_named : (D : Drawing) (f : ℕ) (done : Accepted) (o : Outcome) → o ≡ Ok (named D f) → o ≡ Ok done → tables_of D ≡ tables_of done.drawing
tables_named D f done o is at = ap (λ (a : Accepted). tables_of a.drawing) (same_done (named D f) done o is at)

pub face_named : (D : Drawing) (f g : ℕ) (done : Accepted) (o : Outcome) → o ≡ Ok (named D f) → o ≡ Ok done → g ≡ f → done.ids ≡ the_face g ∷ []
face_named D f g done o is at face = ap (λ (a : Accepted). a.ids) (sym (same_done (named D f) done o is at)) ∙ ap (λ h. the_face h ∷ []) (sym face)

pub at_alone : (anew : Bool) (S : Drawing) (e : Edge) (r : Removed) → r ≡ removed_of e → (r.left_face == r.right_face) ≡ true → merged anew S e ≡ Ok (named (apply S (EdgeGoes e)).drawing r.left_face)
at_alone anew S e r edge same =
    let test : (e.left_face == e.right_face) ≡ true = sym (ap (λ (x : Removed). x.left_face == x.right_face) edge) ∙ same in
    rw test (λ i. Ok (named (apply S (EdgeGoes e)).drawing (sym edge i).left_face))

-- which face is kept, and which goes
abbrev kept_of_two : Drawing → Edge → ℕ → ℕ → Outcome
kept_of_two S e kept goes = Ok (named (apply S (FacesJoin e kept goes)).drawing kept)

pub at_left_zero : (anew : Bool) (S : Drawing) (e : Edge) (r : Removed) → r ≡ removed_of e → (r.left_face == r.right_face) ≡ false → (r.left_face == 0) ≡ true
    → merged anew S e ≡ Ok (named (apply S (FacesJoin e r.left_face r.right_face)).drawing r.left_face)
at_left_zero anew S e r edge other zero =
    let test : (e.left_face == e.right_face) ≡ false = sym (ap (λ (x : Removed). x.left_face == x.right_face) edge) ∙ other in
    let none : (e.left_face == 0) ≡ true = sym (ap (λ (x : Removed). x.left_face == 0) edge) ∙ zero in
    rw (test, none) (λ i. kept_of_two S e (sym (eqb-true r.left_face 0 zero) i) (sym edge i).right_face)

pub at_right_zero : (anew : Bool) (S : Drawing) (e : Edge) (r : Removed) → r ≡ removed_of e → (r.left_face == r.right_face) ≡ false → (r.left_face == 0) ≡ false → (r.right_face == 0) ≡ true
    → merged anew S e ≡ Ok (named (apply S (FacesJoin e r.right_face r.left_face)).drawing r.right_face)
at_right_zero anew S e r edge other some zero =
    let test : (e.left_face == e.right_face) ≡ false = sym (ap (λ (x : Removed). x.left_face == x.right_face) edge) ∙ other in
    let left : (e.left_face == 0) ≡ false = sym (ap (λ (x : Removed). x.left_face == 0) edge) ∙ some in
    let right : (e.right_face == 0) ≡ true = sym (ap (λ (x : Removed). x.right_face == 0) edge) ∙ zero in
    rw (test, left, right) (λ i. kept_of_two S e (sym (eqb-true r.right_face 0 zero) i) (sym edge i).left_face)

pub record AreTwo (r : Removed) : Type 0 where
  pub other : (r.left_face == r.right_face) ≡ false
  pub left : (r.left_face == 0) ≡ false
  pub right : (r.right_face == 0) ≡ false

pub at_anew : (S : Drawing) (e : Edge) (r : Removed) → r ≡ removed_of e → AreTwo r → merged true S e ≡ Ok (named (apply S (FacesJoinAnew e)).drawing S.next_ids.face)
at_anew S e r edge two =
    let test : (e.left_face == e.right_face) ≡ false = sym (ap (λ (x : Removed). x.left_face == x.right_face) edge) ∙ two.other in
    let left : (e.left_face == 0) ≡ false = sym (ap (λ (x : Removed). x.left_face == 0) edge) ∙ two.left in
    let right : (e.right_face == 0) ≡ false = sym (ap (λ (x : Removed). x.right_face == 0) edge) ∙ two.right in
    rw (test, left, right) refl

pub at_kept : (S : Drawing) (e : Edge) (r : Removed) → r ≡ removed_of e → AreTwo r → merged false S e ≡ Ok (named (apply S (FacesJoin e r.right_face r.left_face)).drawing r.right_face)
at_kept S e r edge two =
    let test : (e.left_face == e.right_face) ≡ false = sym (ap (λ (x : Removed). x.left_face == x.right_face) edge) ∙ two.other in
    let left : (e.left_face == 0) ≡ false = sym (ap (λ (x : Removed). x.left_face == 0) edge) ∙ two.left in
    let right : (e.right_face == 0) ≡ false = sym (ap (λ (x : Removed). x.right_face == 0) edge) ∙ two.right in
    rw (test, left, right) (λ i. kept_of_two S e (sym edge i).right_face (sym edge i).left_face)

-- it is accepted
pub accepted : (anew : Bool) (S : Drawing) (e : Edge) → (done : Accepted) × (merged anew S e ≡ Ok done)
accepted anew S e = by (e.left_face == e.right_face) (e.left_face == 0) (e.right_face == 0) anew refl refl refl refl
  where
    by : (same left right new : Bool) → (e.left_face == e.right_face) ≡ same → (e.left_face == 0) ≡ left → (e.right_face == 0) ≡ right → anew ≡ new → (done : Accepted) × (merged anew S e ≡ Ok done)
    by true left right new p q s n = (apply S (EdgeGoes e), rw p refl)
    by false true right new p q s n = (apply S (FacesJoin e 0 e.right_face), rw (p, q) refl)
    by false false true new p q s n = (apply S (FacesJoin e 0 e.left_face), rw (p, q, s) refl)
    by false false false true p q s n = (apply S (FacesJoinAnew e), rw (p, q, s, n) refl)
    by false false false false p q s n = (apply S (FacesJoin e e.right_face e.left_face), rw (p, q, s, n) refl)
