-- Isolated nodes without an edge: those that were isolated, and the edge's ends that are isolated now.
use Rattle.std.proofs.Common.{◌≡◌, ◌≢◌, ℕ, suc, ◌+◌, refl, sym, ◌∙◌, ap, subst, arith, inl, inr, ⊎_elim, Bool, true, false, cond, ◌==◌, List, [], ◌∷◌, length, slice_get, Option, Some}
use Rattle.std.specs.List.{Contains}
use Rattle.std.proofs.lemmas.Bool.{and_parts}
use Rattle.topo_base.specs.Point.{Point}
use Rattle.topo_base.specs.RationalPoint.{rational}
use Rattle.topo_base.specs.declared.rows.NodeRow.{NodeRow}
use Rattle.drawing.specs.Drawing.{Drawing, Edge, node_id_of, has_face, is_end_of, is_isolated}
use Rattle.drawing.specs.IsoEdits.{put_in_face}
use Rattle.plane.specs.Line.{segments_of, first_vertex, last_vertex}
use Rattle.plane.specs.RationalTests.{IsOn}
use Rattle.plane.specs.Relation.{SameCoordinates}
use Rattle.plane.specs.Segment.{Segment}
use Rattle.drawing.specs.Subdivision.{is_face_known}
use Rattle.plane.specs.Crossings.{back}
use Rattle.plane.proofs.LineCuts.{last_ends}
use Rattle.drawing.proofs.Members.{contains-mapped}
use Rattle.drawing.proofs.PlainSplits.{one_point}
use Rattle.plane.proofs.SimpleTests.{first_begins}
use Rattle.face_rings.proofs.HalfLines.{HasPlainLines, forward_line}
use Rattle.face_rings.proofs.HalvesApart.{half_of, line_of}
use Rattle.ring_laws.proofs.Known.{none_ends}
use Rattle.parity_laws.specs.Rings.{In}
use Rattle.parity_laws.proofs.Across.{start_on}
use Rattle.parity_laws.proofs.OnLine.{last_step}
use Rattle.parity_laws.proofs.LineGone.{IsEndOf}
use Rattle.face_laws.specs.Walked.{steps_of}
use Rattle.face_laws.specs.Covered.{IsInFaceOf, IsCovered}
use Rattle.face_laws.proofs.Covering.{known}
use Rattle.face_laws.proofs.Lists.{in_contains}
use Rattle.face_laws.proofs.PlainSteps.{half_with}
use Rattle.subdivision_laws.proofs.Covers.{Covers}
use Rattle.subdivision_laws.proofs.GoneSteps.{Takes, lines_before, lines_after}
use Rattle.subdivision_laws.proofs.GoneFaces.{Settled}

-- ---- no step begins at an isolated node
pub lone_point : (T : Drawing) (n : NodeRow) → HasPlainLines T → Contains T.nodes n → is_isolated T n.node_id ≡ true → (t : Segment) → In t (steps_of T) → t.a ≢ n.geom
lone_point T n good c lone t i e =
    let m = half_with T t i in
    let r = half_of T.edges m.0 m.1.0 in
    let line = line_of T m.0 good r in
    let on = line.on_edge (rational n.geom) (t, (in_contains t (segments_of m.0.points) m.1.1, subst (λ (p : Point). IsOn (rational p) t) e (start_on t))) in
    none_ends T n.node_id lone r.edge r.there (good.plain.off n r.edge c r.there on)

-- ---- the ends of the edge's line
last_place : (d : Segment) (X : List Segment) → (k : ℕ) × ((slice_get (d ∷ X) k ≡ Some (last_step d X)) × (k + 1 ≡ length (d ∷ X)))
last_place d [] = (0, (refl, refl))
last_place d (n ∷ X) = let p = last_place n X in let q = p.1.1 in (suc p.0, (p.1.0, omega (arith, q)))

pub end_at : (S T : Drawing) (e : Edge) (first : Segment) (rest : List Segment) (name : ℕ → ℕ) (r : NodeRow) → Takes S T e first rest name → Contains S.nodes r → is_end_of r.node_id e ≡ true →
    (x : Segment) × (IsEndOf first (last_step first rest) x × (x.a ≡ r.geom))
end_at S T e first rest name r h c is =
    ⊎_elim
    (λ (k : SameCoordinates r.geom (first_vertex e.geom)).
    (first, (inl refl, sym (one_point r.geom (first_vertex e.geom) k ∙ first_begins e.geom first (ap (λ L. slice_get L 0) h.line)))))
    (λ (k : SameCoordinates r.geom (last_vertex e.geom)).
    let p = last_place first rest in (
      back (last_step first rest),
      (
        inr refl,
        sym (one_point r.geom (last_vertex e.geom) k ∙ last_ends e.geom p.0 (last_step first rest) (ap (λ L. slice_get L p.0) h.line ∙ p.1.0) (p.1.1 ∙ ap length (sym h.line))),
      ),
    ))
    ((forward_line S e (lines_before S h.before) h.there).ends r c is)

-- an end that is isolated now is in the face that covers the place
pub end_placed : (S T : Drawing) (e : Edge) (first : Segment) (rest : List Segment) (name : ℕ → ℕ) (k : ℕ) (r n : NodeRow) → Takes S T e first rest name → Settled S T first rest name k →
    Contains S.nodes r → Contains T.nodes n → n.geom ≡ r.geom → is_end_of r.node_id e ≡ true → is_isolated T n.node_id ≡ true → IsInFaceOf T n.geom k
end_placed S T e first rest name k r n h settled cr cn geom is lone =
    let x = end_at S T e first rest name r h cr is in
    let at : x.0.a ≡ n.geom = x.1.1 ∙ sym geom in
    subst (λ (p : Point). IsInFaceOf T p k) at (settled.ends x.0 x.1.0 (λ t i q. lone_point T n (lines_after T h.after) cn lone t i (q ∙ at)))

-- ---- a node that was isolated
known_face : (S : Drawing) (c : Option ℕ) (f : ℕ) (i : Bool) → c ≡ Some f → is_face_known S c i ≡ true → has_face S f ≡ true
known_face S c f i e k = (and_parts i (has_face S f) (subst (λ o. is_face_known S o i ≡ true) e k)).1

pub node_stays : (S T : Drawing) (first : Segment) (rest : List Segment) (name : ℕ → ℕ) (k : ℕ) (r : NodeRow) (c : ℕ) → IsCovered S → Settled S T first rest name k →
    Contains S.nodes r → r.containing_face ≡ Some c → IsInFaceOf T r.geom (name c)
node_stays S T first rest name k r c before settled cr e =
    settled.points r.geom c (known_face S r.containing_face c (is_isolated S r.node_id) e ((known S before.ringed).nodes r cr)) (before.placed r c cr e)

-- ---- nodes whose face is put
pub put_row : (face : Option ℕ) (a : ℕ) (nodes : List NodeRow) (n : NodeRow) → Contains (put_in_face face a nodes) n → (r : NodeRow) × (Contains nodes r × ((n.node_id ≡ r.node_id) × (n.geom ≡ r.geom)))
put_row face a nodes n c =
    let (r, (cr, is)) = contains-mapped (λ (row : NodeRow). cond (node_id_of row == a) (record row { containing_face = face }) row) n nodes c in
    (r, (cr, same (node_id_of r == a) r is))
  where
    same : (b : Bool) (r : NodeRow) → cond b (record r { containing_face = face }) r ≡ n → (n.node_id ≡ r.node_id) × (n.geom ≡ r.geom)
    same true r is = (ap (λ (x : NodeRow). x.node_id) (sym is), ap (λ (x : NodeRow). x.geom) (sym is))
    same false r is = (ap (λ (x : NodeRow). x.node_id) (sym is), ap (λ (x : NodeRow). x.geom) (sym is))

-- ---- what is kept
pub settled_covers : (S T : Drawing) (first : Segment) (rest : List Segment) (name : ℕ → ℕ) (k : ℕ) → Settled S T first rest name k →
    ((n : NodeRow) (f : ℕ) → Contains T.nodes n → n.containing_face ≡ Some f → IsInFaceOf T n.geom f) → Covers T
settled_covers S T first rest name k settled placed = record {
  sided = settled.right.sided;
  shells = λ f is n. settled.right.shells f n is;
  outer = settled.right.outer;
  placed = placed;
}
