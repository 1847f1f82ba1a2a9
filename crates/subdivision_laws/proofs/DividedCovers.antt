-- A divided drawing has its faces where their borders say, with one shell each.
use Rattle.std.proofs.Common.{◌≡◌, ◌≢◌, ℕ, refl, sym, ◌∙◌, ap, subst, ◌⊎◌, inl, inr, ⊎_elim, Bool, true, false, cond, List, nat_eq, eqb, Option, Some, None, IsTrue}
use Rattle.std.specs.Option.{option_eq}
use Rattle.std.specs.List.{Contains}
use Rattle.std.proofs.lemmas.Bool.{eq-eqb, false≢true}
use Rattle.topo_base.specs.Point.{Point}
use Rattle.topo_base.specs.declared.rows.NodeRow.{NodeRow}
use Rattle.drawing.specs.AddEdge.{Division, part_at, divided_node, divided}
use Rattle.drawing.specs.Drawing.{Drawing, Edge}
use Rattle.plane.proofs.ListTests.{some_same}
use Rattle.drawing.proofs.Members.{contains-mapped}
use Rattle.face_rings.proofs.HalfLines.{HasPlainLines}
use Rattle.ring_laws.proofs.KnownStays.{is_listed}
use Rattle.parity_laws.specs.Steps.{above}
use Rattle.parity_laws.specs.Rings.{Drawn, Sided, those, of_face}
use Rattle.parity_laws.specs.Shelling.{OneShell, NoShell}
use Rattle.parity_laws.proofs.Dividing.{Divides, IsOuterPart, divided_sides, outer_divided_sides}
use Rattle.parity_laws.proofs.DividedShells.{each_has_shell, others_keep_none, divided_shells, outer_divided_shells}
use Rattle.parity_laws.proofs.PointParts.{point_in_first, point_in_second, point_stays}
use Rattle.face_laws.specs.Walked.{steps_of}
use Rattle.face_laws.specs.Covered.{face_of, IsInFaceOf}
use Rattle.parity_laws.proofs.RingAt.{rings_there}
use Rattle.subdivision_laws.proofs.Covers.{Covers}
use Rattle.subdivision_laws.proofs.AddedSteps.{drawn_of}
use Rattle.subdivision_laws.proofs.NodesStay.{same_face}
use Rattle.subdivision_laws.proofs.DividedFaces.{left_label, right_label, start, IsInner, IsOuter, IsParted, good_of, divides_by, part_by, steps_divided, face_parted}

-- the division, what the drawing has in the other faces, and its isolated nodes
pub record IsDivided (T : Drawing) (e : Edge) (d : Division) (faces : List ℕ) (new : ℕ) : Type 0 where
  pub parted : IsParted T e d
  pub lines : HasPlainLines (divided T d faces new)
  pub shells : (g : ℕ) → IsTrue (is_listed faces g) → g ≢ d.left_part → g ≢ d.right_part → g ≢ 0 → (g ≢ d.face) × OneShell (steps_of T) (face_of T) g
  pub outer : d.face ≢ 0 → NoShell (steps_of T) (face_of T) 0
  pub placed : (n : NodeRow) (f : ℕ) → Contains T.nodes n → n.containing_face ≡ Some f → IsInFaceOf T n.geom f

other_face : (o : Option ℕ) (f g : ℕ) → option_eq nat_eq o (Some g) ≡ false → o ≡ Some f → f ≢ g
other_face None f g e k m = absurd cc
other_face (Some h) f g e k m = false≢true (sym e ∙ eq-eqb h g (some_same h f k ∙ m))

pub divided_covers : (T : Drawing) (e : Edge) (d : Division) (faces : List ℕ) (new : ℕ) → IsDivided T e d faces new → Covers (divided T d faces new)
divided_covers T e d faces new h = record {
  sided = λ g n. subst (λ X. Sided X (of_face (face_of (divided T d faces new)) g)) (sym steps) (sides g n);
  shells = λ g is n. subst (λ X. OneShell X (face_of (divided T d faces new)) g) (sym steps)
      (each_has_shell (steps_of T) (face_of T) (face_of (divided T d faces new)) d.face d.left_part d.right_part (start e) (left_label T e) (right_label T e) g divides two.0 two.1 n (λ na nb. h.shells g is na nb n));
  outer = subst (λ X. NoShell X (face_of (divided T d faces new)) 0) (sym steps) none;
  placed = λ n c i k. let m = contains-mapped (divided_node d) n T.nodes i in of_node n c m.0 m.1.0 (option_eq nat_eq m.0.containing_face (Some d.face)) refl m.1.1 k;
}
  where
    steps : steps_of (divided T d faces new) ≡ steps_of T
    steps = steps_divided T d faces new

    drawn : Drawn (steps_of T)
    drawn = drawn_of T (good_of T e d h.parted)

    divides : Divides (steps_of T) (face_of T) (face_of (divided T d faces new)) d.face d.left_part d.right_part (start e) (left_label T e) (right_label T e)
    divides = divides_by T e d (face_of (divided T d faces new)) h.parted (face_parted T e d faces new h.parted h.lines)

    sides : (g : ℕ) → g ≢ 0 → Sided (steps_of T) (of_face (face_of (divided T d faces new)) g)
    sides =
        ⊎_elim
        (λ (k : IsInner T e d). divided_sides (steps_of T) (face_of T) (face_of (divided T d faces new)) d.face d.left_part d.right_part (start e) (left_label T e) (right_label T e) drawn divides k.0)
        (λ (k : IsOuter T e d). outer_divided_sides (steps_of T) (face_of T) (face_of (divided T d faces new)) d.face d.left_part d.right_part (start e) (left_label T e) (right_label T e) drawn divides k.0 k.1)
        h.parted.kind

    two : (d.left_part ≢ 0 → OneShell (steps_of T) (face_of (divided T d faces new)) d.left_part) × (d.right_part ≢ 0 → OneShell (steps_of T) (face_of (divided T d faces new)) d.right_part)
    two =
        ⊎_elim
        (λ (k : IsInner T e d).
        let both = divided_shells (steps_of T) (face_of T) (face_of (divided T d faces new)) d.face d.left_part d.right_part (start e) (left_label T e) (right_label T e) drawn (rings_there (steps_of T) drawn) divides k.0 k.1 k.2 k.3 in
        ((λ n. both.0), (λ n. both.1)))
        (λ (k : IsOuter T e d).
        ⊎_elim
        (λ (m : OneShell (steps_of T) (face_of (divided T d faces new)) d.left_part × (d.right_part ≡ 0) × NoShell (steps_of T) (face_of (divided T d faces new)) d.right_part). ((λ n. m.0), (λ n. absurd (n m.1))))
        (λ (m : OneShell (steps_of T) (face_of (divided T d faces new)) d.right_part × (d.left_part ≡ 0) × NoShell (steps_of T) (face_of (divided T d faces new)) d.left_part). ((λ n. absurd (n m.1)), (λ n. m.0)))
        (outer_divided_shells (steps_of T) (face_of T) (face_of (divided T d faces new)) d.face d.left_part d.right_part (start e) (left_label T e) (right_label T e) drawn divides k.1 k.2 k.3))
        h.parted.kind

    none : NoShell (steps_of T) (face_of (divided T d faces new)) 0
    none =
        ⊎_elim
        (λ (k : IsInner T e d).
        others_keep_none (steps_of T) (face_of T) (face_of (divided T d faces new)) d.face d.left_part d.right_part (start e) (left_label T e) (right_label T e) 0 divides (λ z. k.1 (sym z)) (λ z. k.2 (sym z)) (h.outer k.0))
        (λ (k : IsOuter T e d).
        ⊎_elim
        (λ (m : OneShell (steps_of T) (face_of (divided T d faces new)) d.left_part × (d.right_part ≡ 0) × NoShell (steps_of T) (face_of (divided T d faces new)) d.right_part). subst (λ z. NoShell (steps_of T) (face_of (divided T d faces new)) z) m.1 m.2)
        (λ (m : OneShell (steps_of T) (face_of (divided T d faces new)) d.right_part × (d.left_part ≡ 0) × NoShell (steps_of T) (face_of (divided T d faces new)) d.left_part). subst (λ z. NoShell (steps_of T) (face_of (divided T d faces new)) z) m.1 m.2)
        (outer_divided_shells (steps_of T) (face_of T) (face_of (divided T d faces new)) d.face d.left_part d.right_part (start e) (left_label T e) (right_label T e) drawn divides k.1 k.2 k.3))
        h.parted.kind

    -- ---- points
    kind : (d.face ≢ 0) ⊎ IsOuterPart (steps_of T) (left_label T e) (start e) d.left_part d.right_part
    kind = ⊎_elim (λ (k : IsInner T e d). inl k.0) (λ (k : IsOuter T e d). inr k.1) h.parted.kind

    placed_after : (r : Point) (c : ℕ) → ((g : ℕ) → g ≢ 0 → above (those (of_face (face_of (divided T d faces new)) g) (steps_of T)) r ≡ eqb c g) → IsInFaceOf (divided T d faces new) r c
    placed_after r c k g n = ap (λ X. above (those (of_face (face_of (divided T d faces new)) g) X) r) (steps_divided T d faces new) ∙ k g n

    in_part : (r : Point) → IsInFaceOf T r d.face → IsInFaceOf (divided T d faces new) r (part_at d r)
    in_part r k =
        part_by T e d (λ z. IsInFaceOf (divided T d faces new) r z) r h.parted
        (λ m. placed_after r d.left_part (point_in_first (steps_of T) (face_of T) (face_of (divided T d faces new)) d.face d.left_part d.right_part (start e) (left_label T e) (right_label T e) r drawn divides sides kind k m))
        (λ m. placed_after r d.right_part (point_in_second (steps_of T) (face_of T) (face_of (divided T d faces new)) d.face d.left_part d.right_part (start e) (left_label T e) (right_label T e) r drawn divides sides kind k m))

    of_node : (n : NodeRow) (c : ℕ) (row : NodeRow) → Contains T.nodes row → (t : Bool) → option_eq nat_eq row.containing_face (Some d.face) ≡ t →
        cond t (record row { containing_face = Some (part_at d row.geom) }) row ≡ n → n.containing_face ≡ Some c → IsInFaceOf (divided T d faces new) n.geom c
    of_node n c row i true m is k =
        subst (λ (r : Point). IsInFaceOf (divided T d faces new) r c) (ap (λ (x : NodeRow). x.geom) is)
        (subst (IsInFaceOf (divided T d faces new) row.geom) (some_same (part_at d row.geom) c (ap (λ (x : NodeRow). x.containing_face) is ∙ k)) (in_part row.geom (h.placed row d.face i (same_face row.containing_face d.face m))))
    of_node n c row i false m is k =
        let own = ap (λ (x : NodeRow). x.containing_face) is ∙ k in
        subst (λ (r : Point). IsInFaceOf (divided T d faces new) r c) (ap (λ (x : NodeRow). x.geom) is)
        (placed_after row.geom c
        (point_stays (steps_of T) (face_of T) (face_of (divided T d faces new)) d.face d.left_part d.right_part (start e) (left_label T e) (right_label T e) row.geom c drawn divides sides (other_face row.containing_face c d.face m own) (h.placed row c i own)))
