-- An edge more that closes a ring: the face in which it lies is divided, and each part has one shell.
use Rattle.std.proofs.Common.{◌≡◌, ◌≢◌, ℕ, ◌+◌, ◌<◌, refl, sym, ◌∙◌, ap, subst, arith, ◌⊎◌, inl, inr, ⊎_elim, Bool, true, false, not, cond, ◌&&◌, ◌==◌, List, [], ◌∷◌, ◌++◌, filter, IsTrue, eq-eqb}
use Rattle.std.specs.List.{Contains}
use Rattle.std.proofs.lemmas.Bool.{and_parts, both_ways, eqb-true, eqb-false}
use Rattle.std.proofs.lemmas.List.Elements.{Contains-push, Contains-push_cases, Contains-append_cases}
use Rattle.topo_base.specs.Point.{Point}
use Rattle.topo_base.specs.declared.rows.NodeRow.{NodeRow}
use Rattle.drawing.specs.AddEdge.{Division, divided, keeps_left, one_new, two_new}
use Rattle.drawing.specs.Drawing.{Drawing, node_id_of, edge_id_of, layer_id_of, feature_id_of, has_face}
use Rattle.drawing.specs.HalfEdge.{forward_of, backward_of, half_edges}
use Rattle.drawing.specs.Ring.{contains_half_edge, is_shell}
use Rattle.edit_changes.specs.Evidence.{left_ring, right_ring}
use Rattle.plane.specs.Segment.{Segment}
use Rattle.drawing.specs.Subdivision.{face_id_of, rows_in_order, ids_in_order}
use Rattle.plane.specs.Crossings.{back}
use Rattle.plane.proofs.ListTests.{contains_cases, contains_none}
use Rattle.drawing.proofs.Members.{contains-filtered, ids_within}
use Rattle.face_rings.proofs.FaceBorders.{has_plain_lines}
use Rattle.ring_laws.specs.Parts.{IsDividedBy}
use Rattle.ring_laws.specs.Ringed.{IsRinged}
use Rattle.ring_laws.proofs.Known.{any_in, any_out}
use Rattle.ring_laws.proofs.KnownStays.{is_listed}
use Rattle.parity_laws.specs.Rings.{In, Ringwise, OneRing}
use Rattle.parity_laws.specs.Shelling.{OneShell, NoShell}
use Rattle.parity_laws.proofs.DividedShells.{NoOtherShell, RestOfFace}
use Rattle.face_laws.specs.Walked.{steps_of}
use Rattle.face_laws.specs.Covered.{face_of}
use Rattle.face_laws.proofs.Covering.{faces_given, known}
use Rattle.face_laws.proofs.Facing.{step_listed}
use Rattle.face_laws.proofs.PlainSteps.{step_back}
use Rattle.face_laws.proofs.RingLabels.{face_ringwise, ring_ringwise, ring_is_one, own_steps, step_of_ring}
use Rattle.face_laws.proofs.ShellTests.{shell_is}
use Rattle.subdivision_laws.proofs.Covers.{Covers}
use Rattle.subdivision_laws.proofs.AddedSteps.{first_of, rest_of, last_of, added, edge_of, Adds, lines_after, drawn_of, line_comes, face_comes, steps_added, forward_in, backward_in}
use Rattle.subdivision_laws.proofs.AddedSides.{added_sided, added_placed}
use Rattle.parity_laws.proofs.ClosingShells.{Closes, IsTurned, rest_of_face, rest_of_outer_face, other_none, other_one}
use Rattle.subdivision_laws.proofs.DividedFaces.{left_label, right_label, IsInner, IsOuter, IsParted}
use Rattle.subdivision_laws.proofs.DividedCovers.{divided_covers}

-- the next face is not listed
abbrev pub FacesBelow : Drawing → Type 0
FacesBelow S = (g : ℕ) → has_face S g ≡ true → g < S.next_ids.face

pub faces_below : (S : Drawing) → IsTrue (rows_in_order face_id_of 0 S.next_ids.face S.faces) → FacesBelow S
faces_below S order g there =
    let s = any_out (λ x. x == g) S.faces there in
    subst (λ z. z < S.next_ids.face) (eqb-true s.0 g s.1.1) (ids_within face_id_of 0 S.next_ids.face S.faces s.0 (record { test = order }) s.1.0).1

pub faces_in_order : (S : Drawing) → IsTrue (ids_in_order S) → IsTrue (rows_in_order face_id_of 0 S.next_ids.face S.faces)
faces_in_order S order =
    let nodes = rows_in_order node_id_of 1 S.next_ids.node S.nodes in
    let edges = rows_in_order edge_id_of 1 S.next_ids.edge S.edges in
    let faces = rows_in_order face_id_of 0 S.next_ids.face S.faces in
    let layers = rows_in_order layer_id_of 1 S.next_ids.layer S.layers in
    let features = rows_in_order feature_id_of 1 S.next_ids.feature S.features in
    (and_parts (nodes && edges) faces (and_parts (nodes && edges && faces) layers (and_parts (nodes && edges && faces && layers) features order).0).0).1

-- the edge closes a ring
pub record AddsRing (S : Drawing) (a b : NodeRow) (p q : Point) (vs : List Point) (f : ℕ) : Type 0 where
  pub adds : Adds S a b p q vs f
  pub cut : contains_half_edge (left_ring S a b (p ∷ q ∷ vs) f) (backward_of (edge_of S a b p q vs f)) ≡ false
  pub listed : has_face S f ≡ true
  pub below : FacesBelow S

closes : (S : Drawing) (a b : NodeRow) (p q : Point) (vs : List Point) (f : ℕ) → AddsRing S a b p q vs f →
    Closes (steps_of S) (first_of p q) (rest_of q vs) (last_of p q vs) (face_of S) (face_of (added S a b p q vs f)) f (left_label (added S a b p q vs f) (edge_of S a b p q vs f)) (right_label (added S a b p q vs f) (edge_of S a b p q vs f))
closes S a b p q vs f h = record {
  comes = line_comes S a b p q vs f h.adds;
  faces = face_comes S a b p q vs f h.adds;
  cut = record {
    p_rings = subst (λ T. Ringwise T (left_label (added S a b p q vs f) (edge_of S a b p q vs f))) (steps_added S a b (p ∷ q ∷ vs) f) (ring_ringwise (added S a b p q vs f) (forward_of (edge_of S a b p q vs f)) h.adds.after.rings forth);
    p_one = subst (λ T. OneRing T (left_label (added S a b p q vs f) (edge_of S a b p q vs f))) (steps_added S a b (p ∷ q ∷ vs) f) (ring_is_one (added S a b p q vs f) (forward_of (edge_of S a b p q vs f)) h.adds.after.rings forth);
    q_rings = subst (λ T. Ringwise T (right_label (added S a b p q vs f) (edge_of S a b p q vs f))) (steps_added S a b (p ∷ q ∷ vs) f) (ring_ringwise (added S a b p q vs f) (backward_of (edge_of S a b p q vs f)) h.adds.after.rings walked);
    q_one = subst (λ T. OneRing T (right_label (added S a b p q vs f) (edge_of S a b p q vs f))) (steps_added S a b (p ∷ q ∷ vs) f) (ring_is_one (added S a b p q vs f) (backward_of (edge_of S a b p q vs f)) h.adds.after.rings walked);
    forth = own_steps (added S a b p q vs f) (forward_of (edge_of S a b p q vs f)) (first_of p q) (inl refl);
    not_walked = step_of_ring (added S a b p q vs f) (forward_of (edge_of S a b p q vs f)) (backward_of (edge_of S a b p q vs f)) (back (first_of p q)) h.adds.after.rings forth walked (step_back (forward_of (edge_of S a b p q vs f)) (first_of p q) (inl refl)) ∙ h.cut;
    walked = own_steps (added S a b p q vs f) (backward_of (edge_of S a b p q vs f)) (back (first_of p q)) (step_back (forward_of (edge_of S a b p q vs f)) (first_of p q) (inl refl));
  };
}
  where
    forth : Contains (half_edges (added S a b p q vs f)) (forward_of (edge_of S a b p q vs f))
    forth = forward_in S a b (p ∷ q ∷ vs) f

    walked : Contains (half_edges (added S a b p q vs f)) (backward_of (edge_of S a b p q vs f))
    walked = backward_in S a b (p ∷ q ∷ vs) f

-- no step has a face that isn't listed
not_listed : (S : Drawing) (a b : NodeRow) (p q : Point) (vs : List Point) (f g : ℕ) → AddsRing S a b p q vs f → (g < S.next_ids.face → ⊥) → (t : Segment) → In t (steps_of (added S a b p q vs f)) → face_of (added S a b p q vs f) t ≢ g
not_listed S a b p q vs f g h far t i e =
    far
    (subst (λ z. z < S.next_ids.face) e
    (h.below (face_of (added S a b p q vs f) t)
    (step_listed (added S a b p q vs f) t (record {
      drawn = drawn_of (added S a b p q vs f) (lines_after S a b p q vs f h.adds);
      faces = faces_given (added S a b p q vs f) (lines_after S a b p q vs f h.adds);
      ringwise = λ k n. face_ringwise (added S a b p q vs f) k h.adds.after.rings;
      sided = added_sided S a b p q vs f h.adds;
      universe = h.adds.after.universe;
      listed = (known (added S a b p q vs f) h.adds.after).sides;
    }) i)))

-- what the face in which it lies has besides the two rings
rest_inner : (S : Drawing) (a b : NodeRow) (p q : Point) (vs : List Point) (f : ℕ) → AddsRing S a b p q vs f → f ≢ 0 →
    RestOfFace (steps_of (added S a b p q vs f)) (face_of (added S a b p q vs f)) f (first_of p q) (left_label (added S a b p q vs f) (edge_of S a b p q vs f)) (right_label (added S a b p q vs f) (edge_of S a b p q vs f))
rest_inner S a b p q vs f h n =
    subst (λ T. RestOfFace T (face_of (added S a b p q vs f)) f (first_of p q) (left_label (added S a b p q vs f) (edge_of S a b p q vs f)) (right_label (added S a b p q vs f) (edge_of S a b p q vs f))) (sym (steps_added S a b (p ∷ q ∷ vs) f))
    (rest_of_face (steps_of S) (first_of p q) (rest_of q vs) (last_of p q vs) (face_of S) (face_of (added S a b p q vs f)) f (left_label (added S a b p q vs f) (edge_of S a b p q vs f)) (right_label (added S a b p q vs f) (edge_of S a b p q vs f))
    (closes S a b p q vs f h) (h.adds.before.shells f h.listed n))

abbrev IsRestOfOuter : Drawing → NodeRow → NodeRow → Point → Point → List Point → ℕ → List Segment → Type 0
IsRestOfOuter S a b p q vs f T =
    IsTurned T (first_of p q) (left_label (added S a b p q vs f) (edge_of S a b p q vs f)) (right_label (added S a b p q vs f) (edge_of S a b p q vs f))
    × NoOtherShell T (face_of (added S a b p q vs f)) f (first_of p q) (back (first_of p q))

rest_outer : (S : Drawing) (a b : NodeRow) (p q : Point) (vs : List Point) (f : ℕ) → AddsRing S a b p q vs f → f ≡ 0 → IsRestOfOuter S a b p q vs f (steps_of (added S a b p q vs f))
rest_outer S a b p q vs f h e =
    subst (IsRestOfOuter S a b p q vs f) (sym (steps_added S a b (p ∷ q ∷ vs) f))
    (rest_of_outer_face (steps_of S) (first_of p q) (rest_of q vs) (last_of p q vs) (face_of S) (face_of (added S a b p q vs f)) f (left_label (added S a b p q vs f) (edge_of S a b p q vs f)) (right_label (added S a b p q vs f) (edge_of S a b p q vs f))
    (closes S a b p q vs f h) (subst (λ z. NoShell (steps_of S) (face_of S) z) (sym e) h.adds.before.outer))

-- the other faces keep their shells
others : (S : Drawing) (a b : NodeRow) (p q : Point) (vs : List Point) (f g : ℕ) → AddsRing S a b p q vs f → g ≢ f → g ≢ 0 → has_face S g ≡ true → OneShell (steps_of (added S a b p q vs f)) (face_of (added S a b p q vs f)) g
others S a b p q vs f g h n some there =
    subst (λ T. OneShell T (face_of (added S a b p q vs f)) g) (sym (steps_added S a b (p ∷ q ∷ vs) f))
    (other_one (steps_of S) (first_of p q) (rest_of q vs) (last_of p q vs) (face_of S) (face_of (added S a b p q vs f)) f (left_label (added S a b p q vs f) (edge_of S a b p q vs f)) (right_label (added S a b p q vs f) (edge_of S a b p q vs f))
    g (closes S a b p q vs f h) n (h.adds.before.shells g there some))

outer_none : (S : Drawing) (a b : NodeRow) (p q : Point) (vs : List Point) (f : ℕ) → AddsRing S a b p q vs f → f ≢ 0 → NoShell (steps_of (added S a b p q vs f)) (face_of (added S a b p q vs f)) 0
outer_none S a b p q vs f h n =
    subst (λ T. NoShell T (face_of (added S a b p q vs f)) 0) (sym (steps_added S a b (p ∷ q ∷ vs) f))
    (other_none (steps_of S) (first_of p q) (rest_of q vs) (last_of p q vs) (face_of S) (face_of (added S a b p q vs f)) f (left_label (added S a b p q vs f) (edge_of S a b p q vs f)) (right_label (added S a b p q vs f) (edge_of S a b p q vs f))
    0 (closes S a b p q vs f h) (λ e. n (sym e)) h.adds.before.outer)

divided_by : (S : Drawing) (a b : NodeRow) (p q : Point) (vs : List Point) (f l r : ℕ) →
    IsDividedBy (added S a b p q vs f) (edge_of S a b p q vs f) (record { face = f; left_ring = left_ring S a b (p ∷ q ∷ vs) f; right_ring = right_ring S a b (p ∷ q ∷ vs) f; left_part = l; right_part = r })
divided_by S a b p q vs f l r = record { there = Contains-push S.edges (edge_of S a b p q vs f); left = refl; right = refl; left_ring = refl; right_ring = refl }

-- ---- both parts are new
pub two_parts : (S : Drawing) (a b : NodeRow) (p q : Point) (vs : List Point) (f : ℕ) → AddsRing S a b p q vs f → f ≢ 0 →
    IsRinged (divided (added S a b p q vs f) (two_new (added S a b p q vs f) f (left_ring S a b (p ∷ q ∷ vs) f) (right_ring S a b (p ∷ q ∷ vs) f)) (filter (λ g. not (g == f)) S.faces ++ S.next_ids.face ∷ (S.next_ids.face + 1) ∷ []) 2) → Covers (divided (added S a b p q vs f) (two_new (added S a b p q vs f) f (left_ring S a b (p ∷ q ∷ vs) f) (right_ring S a b (p ∷ q ∷ vs) f)) (filter (λ g. not (g == f)) S.faces ++ S.next_ids.face ∷ (S.next_ids.face + 1) ∷ []) 2)
two_parts S a b p q vs f h n ringed =
    divided_covers (added S a b p q vs f) (edge_of S a b p q vs f) (two_new (added S a b p q vs f) f (left_ring S a b (p ∷ q ∷ vs) f) (right_ring S a b (p ∷ q ∷ vs) f)) (filter (λ g. not (g == f)) S.faces ++ S.next_ids.face ∷ (S.next_ids.face + 1) ∷ []) 2
    (record {
      parted = record {
        before = h.adds.after;
        sided = added_sided S a b p q vs f h.adds;
        by = divided_by S a b p q vs f S.next_ids.face (S.next_ids.face + 1);
        cut = h.cut;
        differ = λ e. omega (arith, e);
        new_left = inr (not_listed S a b p q vs f S.next_ids.face h (λ k. omega (arith, k)));
        new_right = inr (not_listed S a b p q vs f (S.next_ids.face + 1) h (λ k. omega (arith, k)));
        kind = inl (n, (λ e. omega (arith, e, some)), (λ e. omega (arith, e)), rest_inner S a b p q vs f h n);
      };
      lines = has_plain_lines (divided (added S a b p q vs f) (two_new (added S a b p q vs f) f (left_ring S a b (p ∷ q ∷ vs) f) (right_ring S a b (p ∷ q ∷ vs) f)) (filter (λ g. not (g == f)) S.faces ++ S.next_ids.face ∷ (S.next_ids.face + 1) ∷ []) 2) ringed.rings;
      shells = λ g is na nb zero. let k = was_listed g is na nb in (k.0, others S a b p q vs f g h k.0 zero k.1);
      outer = λ m. outer_none S a b p q vs f h m;
      placed = added_placed S a b p q vs f h.adds;
    })
  where
    some : 0 < S.next_ids.face
    some = h.below 0 h.adds.before.ringed.universe

    was_listed : (g : ℕ) → IsTrue (is_listed (filter (λ g. not (g == f)) S.faces ++ S.next_ids.face ∷ (S.next_ids.face + 1) ∷ []) g) → g ≢ S.next_ids.face → g ≢ S.next_ids.face + 1 → (g ≢ f) × (has_face S g ≡ true)
    was_listed g is na nb =
        let s = any_out (λ x. x == g) (filter (λ g. not (g == f)) S.faces ++ S.next_ids.face ∷ (S.next_ids.face + 1) ∷ []) is in
        let same = eqb-true s.0 g s.1.1 in
        ⊎_elim
        (λ (c : Contains (filter (λ g. not (g == f)) S.faces) s.0).
        let k = contains-filtered (λ g. not (g == f)) s.0 S.faces c in
        ((λ e. both_ways (not (s.0 == f)) (ap not (eq-eqb s.0 f (same ∙ e))) k.1), subst (λ z. has_face S z ≡ true) same (any_in (λ x. x == s.0) S.faces s.0 k.0 (eq-eqb s.0 s.0 refl))))
        (λ (c : Contains (S.next_ids.face ∷ (S.next_ids.face + 1) ∷ []) s.0).
        ⊎_elim
        (λ (e : S.next_ids.face ≡ s.0). absurd (na (sym same ∙ sym e)))
        (λ (c : Contains ((S.next_ids.face + 1) ∷ []) s.0).
        ⊎_elim (λ (e : S.next_ids.face + 1 ≡ s.0). absurd (nb (sym same ∙ sym e))) (λ (c : Contains [] s.0). absurd (contains_none s.0 c)) (contains_cases s.0 (S.next_ids.face + 1) [] c))
        (contains_cases s.0 S.next_ids.face ((S.next_ids.face + 1) ∷ []) c))
        (Contains-append_cases (filter (λ g. not (g == f)) S.faces) (S.next_ids.face ∷ (S.next_ids.face + 1) ∷ []) s.0 s.1.0)

-- ---- one part is new
abbrev one_of : Drawing → NodeRow → NodeRow → Point → Point → List Point → ℕ → Bool → Division
one_of S a b p q vs f k =
    record { face = f; left_ring = left_ring S a b (p ∷ q ∷ vs) f; right_ring = right_ring S a b (p ∷ q ∷ vs) f; left_part = cond k f S.next_ids.face; right_part = cond k S.next_ids.face f }

abbrev Kind : Drawing → NodeRow → NodeRow → Point → Point → List Point → ℕ → Bool → Type 0
Kind S a b p q vs f k =
    IsInner (added S a b p q vs f) (edge_of S a b p q vs f) (one_of S a b p q vs f k) ⊎ IsOuter (added S a b p q vs f) (edge_of S a b p q vs f) (one_of S a b p q vs f k)

one_kind : (S : Drawing) (a b : NodeRow) (p q : Point) (vs : List Point) (f : ℕ) → AddsRing S a b p q vs f → (z s : Bool) → (f == 0) ≡ z → is_shell (left_ring S a b (p ∷ q ∷ vs) f) ≡ s → Kind S a b p q vs f (z && not s)
one_kind S a b p q vs f h false s e g =
    let n = eqb-false f 0 e in
    let some = h.below 0 h.adds.before.ringed.universe in
    inl (n, (λ z. omega (arith, z, some)), n, rest_inner S a b p q vs f h n)
one_kind S a b p q vs f h true true e g =
    let zero = eqb-true f 0 e in
    let rest = rest_outer S a b p q vs f h zero in
    inr (zero, inl (sym (shell_is (added S a b p q vs f) (forward_of (edge_of S a b p q vs f)) (first_of p q) h.adds.after.rings (forward_in S a b (p ∷ q ∷ vs) f) (inl refl)) ∙ g, zero), rest.0, rest.1)
one_kind S a b p q vs f h true false e g =
    let zero = eqb-true f 0 e in
    let rest = rest_outer S a b p q vs f h zero in
    inr (zero, inr (sym (shell_is (added S a b p q vs f) (forward_of (edge_of S a b p q vs f)) (first_of p q) h.adds.after.rings (forward_in S a b (p ∷ q ∷ vs) f) (inl refl)) ∙ g, zero), rest.0, rest.1)

-- the face in which it lies is not the new one
not_next : (S : Drawing) (a b : NodeRow) (p q : Point) (vs : List Point) (f : ℕ) → AddsRing S a b p q vs f → f ≢ S.next_ids.face
not_next S a b p q vs f h e = let k = h.below f h.listed in omega (arith, e, k)

one_parted : (S : Drawing) (a b : NodeRow) (p q : Point) (vs : List Point) (f : ℕ) (k : Bool) → AddsRing S a b p q vs f → Kind S a b p q vs f k → IsParted (added S a b p q vs f) (edge_of S a b p q vs f) (one_of S a b p q vs f k)
one_parted S a b p q vs f true h kind = record {
  before = h.adds.after;
  sided = added_sided S a b p q vs f h.adds;
  by = divided_by S a b p q vs f f S.next_ids.face;
  cut = h.cut;
  differ = not_next S a b p q vs f h;
  new_left = inl refl;
  new_right = inr (not_listed S a b p q vs f S.next_ids.face h (λ k. omega (arith, k)));
  kind = kind;
}
one_parted S a b p q vs f false h kind = record {
  before = h.adds.after;
  sided = added_sided S a b p q vs f h.adds;
  by = divided_by S a b p q vs f S.next_ids.face f;
  cut = h.cut;
  differ = λ e. not_next S a b p q vs f h (sym e);
  new_left = inr (not_listed S a b p q vs f S.next_ids.face h (λ k. omega (arith, k)));
  new_right = inl refl;
  kind = kind;
}

neither : (f new g : ℕ) (k : Bool) → g ≢ cond k f new → g ≢ cond k new f → (g ≢ f) × (g ≢ new)
neither f new g true na nb = (na, nb)
neither f new g false na nb = (nb, na)

pub one_part : (S : Drawing) (a b : NodeRow) (p q : Point) (vs : List Point) (f : ℕ) → AddsRing S a b p q vs f →
    IsRinged (divided (added S a b p q vs f) (one_new (added S a b p q vs f) f (left_ring S a b (p ∷ q ∷ vs) f) (right_ring S a b (p ∷ q ∷ vs) f)) (S.faces ++ S.next_ids.face ∷ []) 1) → Covers (divided (added S a b p q vs f) (one_new (added S a b p q vs f) f (left_ring S a b (p ∷ q ∷ vs) f) (right_ring S a b (p ∷ q ∷ vs) f)) (S.faces ++ S.next_ids.face ∷ []) 1)
one_part S a b p q vs f h ringed =
    divided_covers (added S a b p q vs f) (edge_of S a b p q vs f) (one_of S a b p q vs f (keeps_left f (left_ring S a b (p ∷ q ∷ vs) f))) (S.faces ++ S.next_ids.face ∷ []) 1
    (record {
      parted = one_parted S a b p q vs f (keeps_left f (left_ring S a b (p ∷ q ∷ vs) f)) h (one_kind S a b p q vs f h (f == 0) (is_shell (left_ring S a b (p ∷ q ∷ vs) f)) refl refl);
      lines = has_plain_lines (divided (added S a b p q vs f) (one_of S a b p q vs f (keeps_left f (left_ring S a b (p ∷ q ∷ vs) f))) (S.faces ++ S.next_ids.face ∷ []) 1) ringed.rings;
      shells = λ g is na nb zero.
          let n = neither f S.next_ids.face g (keeps_left f (left_ring S a b (p ∷ q ∷ vs) f)) na nb in
          (n.0, others S a b p q vs f g h n.0 zero (was_listed g is n.1));
      outer = λ m. outer_none S a b p q vs f h m;
      placed = added_placed S a b p q vs f h.adds;
    })
  where
    was_listed : (g : ℕ) → IsTrue (is_listed (S.faces ++ S.next_ids.face ∷ []) g) → g ≢ S.next_ids.face → has_face S g ≡ true
    was_listed g is n =
        let s = any_out (λ x. x == g) (S.faces ++ S.next_ids.face ∷ []) is in
        let same = eqb-true s.0 g s.1.1 in
        ⊎_elim
        (λ (c : Contains S.faces s.0). subst (λ z. has_face S z ≡ true) same (any_in (λ x. x == s.0) S.faces s.0 c (eq-eqb s.0 s.0 refl)))
        (λ (e : S.next_ids.face ≡ s.0). absurd (n (sym same ∙ sym e)))
        (Contains-push_cases S.faces S.next_ids.face s.0 s.1.0)

-- the division of its face into one new part and the old one
pub ring_parted : (S : Drawing) (a b : NodeRow) (p q : Point) (vs : List Point) (f : ℕ) → AddsRing S a b p q vs f →
    IsParted (added S a b p q vs f) (edge_of S a b p q vs f) (one_new (added S a b p q vs f) f (left_ring S a b (p ∷ q ∷ vs) f) (right_ring S a b (p ∷ q ∷ vs) f))
ring_parted S a b p q vs f h =
    one_parted S a b p q vs f (keeps_left f (left_ring S a b (p ∷ q ∷ vs) f)) h (one_kind S a b p q vs f h (f == 0) (is_shell (left_ring S a b (p ∷ q ∷ vs) f)) refl refl)
