-- An edge that goes, whose two faces become one: what the drawing after it covers.
use Rattle.std.proofs.Common.{◌≡◌, ℕ, refl, sym, ◌∙◌, ap, subst, Bool, true, false, cond, ◌&&◌, List, ◌∷◌, option_map, Option, Some, None}
use Rattle.std.specs.List.{Contains}
use Rattle.std.proofs.lemmas.Bool.{and_parts}
use Rattle.topo_base.specs.declared.rows.Counters.{Counters}
use Rattle.topo_base.specs.declared.rows.NodeRow.{NodeRow}
use Rattle.drawing.specs.Drawing.{Drawing, Edge, is_end_of, is_isolated}
use Rattle.plane.specs.Line.{segments_of}
use Rattle.drawing.specs.RemoveEdge.{renamed, renamed_edge, renamed_node}
use Rattle.plane.specs.Segment.{Segment}
use Rattle.plane.proofs.ListTests.{some_same}
use Rattle.drawing.proofs.Members.{contains-mapped}
use Rattle.face_rings.proofs.HalfLines.{begins}
use Rattle.ring_laws.specs.Ringed.{IsRinged}
use Rattle.ring_laws.proofs.Known.{isolated_if, none_ends}
use Rattle.ring_laws.proofs.MergedSides.{lessened, merged_with}
use Rattle.face_laws.specs.Covered.{IsInFaceOf, IsCovered}
use Rattle.subdivision_laws.proofs.Covers.{Covers}
use Rattle.subdivision_laws.proofs.GoneSteps.{Takes, lines_before}
use Rattle.subdivision_laws.proofs.GoneFaces.{Settled}
use Rattle.subdivision_laws.proofs.GoneNodes.{end_placed, node_stays, settled_covers}

-- ---- nodes
-- what is isolated without the edge is so with other sides
lone_merged : (S : Drawing) (e : Edge) (gone : List ℕ) (kept : ℕ) (faces : List ℕ) (ids : Counters) (n : ℕ) → is_isolated (lessened S e) n ≡ true → is_isolated (merged_with S e gone kept faces ids) n ≡ true
lone_merged S e gone kept faces ids n lone = isolated_if (merged_with S e gone kept faces ids) n (λ x c t.
    let (y, (cy, is)) = contains-mapped (renamed_edge gone kept) x (lessened S e).edges c in
    none_ends (lessened S e) n lone y cy (subst (λ (z : Edge). is_end_of n z ≡ true) (sym is) t))

-- a containing face that is renamed was one
was_face : (name : ℕ → ℕ) (o : Option ℕ) (f : ℕ) → option_map name o ≡ Some f → (c : ℕ) × ((o ≡ Some c) × (name c ≡ f))
was_face name None f e = absurd (no_face e)
  where
    no_face : None ≡ Some f → ⊥
    no_face e = cc
was_face name (Some c) f e = (c, (refl, some_same (name c) f e))

node_placed : (S : Drawing) (e : Edge) (gone : List ℕ) (kept : ℕ) (faces : List ℕ) (ids : Counters) (first : Segment) (rest : List Segment) → Takes S (merged_with S e gone kept faces ids) e first rest (renamed gone kept) →
    Settled S (merged_with S e gone kept faces ids) first rest (renamed gone kept) kept →
    (n : NodeRow) (f : ℕ) → Contains (merged_with S e gone kept faces ids).nodes n → n.containing_face ≡ Some f → IsInFaceOf (merged_with S e gone kept faces ids) n.geom f
node_placed S e gone kept faces ids first rest h settled n f c is =
    let r = contains-mapped (renamed_node (lessened S e) e gone kept) n S.nodes c in
    by_test r.0 r.1.0 (is_end_of r.0.node_id e && is_isolated (lessened S e) r.0.node_id) refl r.1.1
  where
    by_test : (r : NodeRow) → Contains S.nodes r → (t : Bool) → (is_end_of r.node_id e && is_isolated (lessened S e) r.node_id) ≡ t →
        cond t (record r { containing_face = Some kept }) (record r { containing_face = option_map (renamed gone kept) r.containing_face }) ≡ n → IsInFaceOf (merged_with S e gone kept faces ids) n.geom f
    by_test r cr true t same =
        let both = and_parts (is_end_of r.node_id e) (is_isolated (lessened S e) r.node_id) t in
        let id : r.node_id ≡ n.node_id = ap (λ (x : NodeRow). x.node_id) same in
        subst (IsInFaceOf (merged_with S e gone kept faces ids) n.geom) (some_same kept f (ap (λ (x : NodeRow). x.containing_face) same ∙ is))
        (end_placed S (merged_with S e gone kept faces ids) e first rest (renamed gone kept) kept r n h settled cr c (sym (ap (λ (x : NodeRow). x.geom) same)) both.0
        (subst (λ k. is_isolated (merged_with S e gone kept faces ids) k ≡ true) id (lone_merged S e gone kept faces ids r.node_id both.1)))
    by_test r cr false t same =
        let (m, (was, now)) = was_face (renamed gone kept) r.containing_face f (ap (λ (x : NodeRow). x.containing_face) same ∙ is) in
        subst (λ p. IsInFaceOf (merged_with S e gone kept faces ids) p f) (ap (λ (x : NodeRow). x.geom) same)
        (subst (IsInFaceOf (merged_with S e gone kept faces ids) r.geom) now
        (node_stays S (merged_with S e gone kept faces ids) first rest (renamed gone kept) kept r m h.before settled cr was))

-- ---- the drawing
pub merged_covers : (S : Drawing) (e : Edge) (gone : List ℕ) (kept : ℕ) (faces : List ℕ) (ids : Counters) → IsCovered S → Contains S.edges e →
    ((first : Segment) (rest : List Segment) → Takes S (merged_with S e gone kept faces ids) e first rest (renamed gone kept) → Settled S (merged_with S e gone kept faces ids) first rest (renamed gone kept) kept) →
    IsRinged (merged_with S e gone kept faces ids) → Covers (merged_with S e gone kept faces ids)
merged_covers S e gone kept faces ids c ce settles ringed =
    let b = begins e.geom ((lines_before S c).long e ce) in
    by_line (record { a = b.first; b = b.second }) (segments_of (b.second ∷ b.rest)) (ap segments_of b.is)
  where
    by_line : (first : Segment) (rest : List Segment) → segments_of e.geom ≡ first ∷ rest → Covers (merged_with S e gone kept faces ids)
    by_line first rest line =
        let h : Takes S (merged_with S e gone kept faces ids) e first rest (renamed gone kept) = record { before = c; after = ringed; there = ce; line = line; edges = refl } in
        settled_covers S (merged_with S e gone kept faces ids) first rest (renamed gone kept) kept (settles first rest h) (node_placed S e gone kept faces ids first rest h (settles first rest h))
