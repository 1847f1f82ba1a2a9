-- The laws of stars and links of plain drawings.
use Rattle.std.proofs.Common.{◌≡◌, ℕ, ◌+◌, refl, sym, ◌∙◌, ap, subst, arith, eq-eqb, ◌≤◌, length, ⊎_elim, List, [], ◌∷◌, ◌++◌, map, filter, IsTrue, None, Result, Ok, Err}
use Rattle.std.specs.Prelude.{Contains, flat_map, All, IfOk, OnOk}
use Rattle.std.proofs.lemmas.List.Elements.{All-contains, Contains-push_cases}
use Rattle.topo_base.specs.Point.{Point}
use Rattle.topo_base.specs.declared.rows.NodeRow.{NodeRow}
use Rattle.topo_base.specs.declared.write.RowDart.{RowDart}
use Rattle.drawing.proofs.Members.{Pairwise, contains-map, ids_differ}
use Rattle.drawing.proofs.Ordering.{InOrder, InOrder-change, InOrder-push}
use Rattle.drawing.proofs.PlainParts.{parts_of}
use Rattle.drawing.specs.AddEdge.{coming}
use Rattle.plane.specs.Direction.{IsNotZero}
use Rattle.drawing.specs.Drawing.{Drawing, node_id_of, edge_id_of}
use Rattle.drawing.specs.HalfEdge.{HalfEdge, both_ways, forward_of, backward_of, half_edges, leaves, twin, dart_of}
use Rattle.drawing.specs.IsoEdits.{with_edge, put_in_face}
use Rattle.drawing.specs.Plain.{IsPlain}
use Rattle.drawing.specs.PlainInOrder.{IsPlainInOrder}
use Rattle.drawing.specs.Star.{leaving, next_of, star}
use Rattle.drawing.specs.Tables.{tables_of}
use Rattle.plane.specs.Wedge.{in_clockwise_order}
use Rattle.drawing.specs.Writable.{CanWriteAll, has_edge_row}
use Rattle.drawing.specs.Writes.{all_written, dart_named}
use Rattle.edge_links.specs.Links.{dart_after}
use Rattle.edge_links.specs.LinksLaw.{HasDirections, IsComing, LinksAreRight, rays_at, with_row, link_writes_of}
use Rattle.edge_links.specs.Rays.{Rays, rays_of, with_both, edge_between}
use Rattle.edge_links.proofs.Added.{half_edges_push}
use Rattle.edge_links.proofs.Apart.{IsPlainAt, about_ordered, star_of}
use Rattle.edge_links.proofs.Coming.{star_comes}
use Rattle.edge_links.proofs.Following.{IsStar, in_star, next_is, directions_some, place_in}
use Rattle.edge_links.proofs.Half.{in_half_edges, half_edges_have, half_twin}
use Rattle.edge_links.proofs.Linked.{after_is}
use Rattle.edge_links.proofs.Linking.{links_written}
use Rattle.edge_links.proofs.Round.{AreSome, star_order}
use Rattle.edge_links.proofs.Sorting.{AreOrdered}
use Rattle.edge_links.proofs.Setting.{contains_last, links_of, links_set}
use Rattle.edge_links.proofs.Writing.{can_link, links_known, rows_have}
use Rattle.edge_links.proofs.Ends.{first_some, last_some}

-- what is known about a node of a plain drawing
plain_at : (T : Drawing) (n nodes_end edges_end : ℕ) → IsPlain T → InOrder node_id_of 0 nodes_end T.nodes → InOrder edge_id_of 0 edges_end T.edges → HasDirections T n → IsPlainAt T.nodes T.edges n
plain_at T n nodes_end edges_end plain nodes edges some = record {
  plain = parts_of T plain;
  nodes_differ = ids_differ node_id_of 0 nodes_end T.nodes nodes;
  ids = ids_differ edge_id_of 0 edges_end T.edges edges;
  some = λ h c l. All-contains IsNotZero (map leaving (star (half_edges T) n)) (leaving h) some (contains-map leaving h (star (half_edges T) n) (in_star T.edges n h c l));
}

pub plain_in_order : (T : Drawing) (n : ℕ) → IsPlainInOrder T → HasDirections T n → IsPlainAt T.nodes T.edges n
plain_in_order T n h some = plain_at T n T.next_ids.node T.next_ids.edge h.plain (record { test = h.node_ids }) (record { test = h.edge_ids }) some

-- the same where an edge has come
in_face : (n end : ℕ) (nodes : List NodeRow) → InOrder node_id_of 0 end nodes → InOrder node_id_of 0 end (put_in_face None n nodes)
in_face n end nodes h = InOrder-change node_id_of 0 end n (λ (row : NodeRow). record row { containing_face = None }) nodes (λ r. refl) h

coming_some : (S : Drawing) (a b : NodeRow) (line : List Point) (f n : ℕ) → IsPlain (with_edge S a b line f) → HasDirections S n → 2 ≤ length line
    → (h : HalfEdge) → Contains (flat_map both_ways (S.edges ++ coming S a b line f ∷ [])) h → IsTrue (leaves n h) → IsNotZero (leaving h)
coming_some S a b line f n plain some long h c l =
    let e = coming S a b line f in
    let x = in_half_edges h (S.edges ++ e ∷ []) c in
    let proper = ((parts_of (with_edge S a b line f) plain).fit e (contains_last e S.edges)).proper in
    ⊎_elim
    (λ (old : Contains S.edges x.0).
    All-contains IsNotZero (map leaving (star (half_edges S) n)) (leaving h) some (contains-map leaving h (star (half_edges S) n) (in_star S.edges n h (half_edges_have h x.0 S.edges old x.1.1) l)))
    (λ (new : e ≡ x.0).
    ⊎_elim
    (λ (k : h ≡ forward_of x.0). subst (λ (z : HalfEdge). IsNotZero (leaving z)) (ap forward_of new ∙ sym k) (first_some line long proper))
    (λ (k : h ≡ backward_of x.0). subst (λ (z : HalfEdge). IsNotZero (leaving z)) (ap backward_of new ∙ sym k) (last_some line long proper))
    x.1.1)
    (Contains-push_cases S.edges e x.0 x.1.0)

plain_with : (S : Drawing) (a b : NodeRow) (line : List Point) (f n : ℕ) → IsPlainInOrder S → IsPlain (with_edge S a b line f) → HasDirections S n → 2 ≤ length line
    → IsPlainAt (with_edge S a b line f).nodes (S.edges ++ coming S a b line f ∷ []) n
plain_with S a b line f n h plain some long = record {
  plain = parts_of (with_edge S a b line f) plain;
  nodes_differ = ids_differ node_id_of 0 S.next_ids.node (with_edge S a b line f).nodes
      (in_face a.node_id S.next_ids.node (put_in_face None b.node_id S.nodes) (in_face b.node_id S.next_ids.node S.nodes (record { test = h.node_ids })));
  ids = ids_differ edge_id_of 0 (S.next_ids.edge + 1) (S.edges ++ coming S a b line f ∷ [])
      (InOrder-push edge_id_of 0 S.next_ids.edge S.edges (coming S a b line f) refl (omega arith) (record { test = h.edge_ids }));
  some = coming_some S a b line f n plain some long;
}

star_with : (S : Drawing) (a b : NodeRow) (line : List Point) (f n : ℕ) → IsPlainInOrder S → IsPlain (with_edge S a b line f) → HasDirections S n → 2 ≤ length line → IsStar (S.edges ++ coming S a b line f ∷ []) n
star_with S a b line f n h plain some long = star_of (with_edge S a b line f).nodes (S.edges ++ coming S a b line f ∷ []) n (plain_with S a b line f n h plain some long)

-- ---- the laws
star_in_order : (S : Drawing) (n : ℕ) → IsPlainInOrder S → HasDirections S n → IsTrue (in_clockwise_order (rays_at S n).dirs)
star_in_order S n h some =
    let ok = star_of S.nodes S.edges n (plain_in_order S n h some) in
    star_order (map leaving (star (half_edges S) n)) (some_of (star (half_edges S) n) ok.some) ok.sorted
  where
    some_of : (hs : List HalfEdge) → ((h : HalfEdge) → Contains hs h → IsNotZero (leaving h)) → AreSome (map leaving hs)
    some_of [] each i within = absurd (omega arith)
    some_of (k ∷ hs) each i within = directions_some k (k ∷ hs) each i within

next_in_star : (S : Drawing) (h : HalfEdge) → IsPlainInOrder S → HasDirections S h.to_node → Contains (half_edges S) h → dart_of (next_of (half_edges S) h) ≡ dart_after (dart_of (twin h)) (rays_at S h.to_node).darts
next_in_star S h plain some c =
    let n = h.to_node in
    let stand = star (half_edges S) n in
    let ok = star_of S.nodes S.edges n (plain_in_order S n plain some) in
    let x = in_half_edges h S.edges c in
    let own = half_edges_have (twin h) x.0 S.edges x.1.0 (half_twin x.0 h x.1.1) in
    let i = place_in (twin h) h stand (in_star S.edges n (twin h) own (eq-eqb n n refl)) in
    ap dart_of (next_is S.edges n ok h h i.0 refl i.1.0 i.1.1) ∙ sym (after_is S.edges n ok h i.0 i.1.0) ∙ ap (λ (k : HalfEdge). dart_after (dart_of k) (map dart_of stand)) i.1.1

star_with_edge : (S : Drawing) (a b : NodeRow) (line : List Point) (f n : ℕ) → IsPlainInOrder S → IsPlain (with_edge S a b line f) → HasDirections S n → 2 ≤ length line
    → with_both n (coming S a b line f) (rays_at S n) ≡ rays_at (with_edge S a b line f) n
star_with_edge S a b line f n h plain some long =
    let e = coming S a b line f in
    let push = half_edges_push S.edges e in
    let ordered = about_ordered (with_edge S a b line f).nodes (S.edges ++ e ∷ []) n (plain_with S a b line f n h plain some long) in
    star_comes (half_edges S) e n (subst (λ hs. Pairwise AreOrdered (filter (leaves n) hs)) push ordered) ∙ ap (λ hs. rays_of (star hs n)) (sym push)

links_with_edge : (S : Drawing) (a b : NodeRow) (line : List Point) (f : ℕ) (left right : RowDart) → IsPlainInOrder S → IsPlain (with_edge S a b line f)
    → HasDirections S a.node_id → HasDirections S b.node_id → 2 ≤ length line
    → (all_written S.next_ids (with_row S a b line f left right) (link_writes_of S (with_edge S a b line f) a b)).edges ≡ (tables_of (with_edge S a b line f)).edges
links_with_edge S a b line f left right h plain some_a some_b long =
    let e = coming S a b line f in
    links_written S.next_ids (with_row S a b line f left right) (links_of S.edges e)
    ∙ links_set S.edges e (star_with S a b line f a.node_id h plain some_a long) (star_with S a b line f b.node_id h plain some_b long) (dart_named S.next_ids left) (dart_named S.next_ids right)

links_writable : (S : Drawing) (a b : NodeRow) (line : List Point) (f : ℕ) (left right : RowDart) → IsPlainInOrder S → IsPlain (with_edge S a b line f)
    → HasDirections S a.node_id → HasDirections S b.node_id → 2 ≤ length line
    → CanWriteAll S.next_ids (with_row S a b line f left right) (link_writes_of S (with_edge S a b line f) a b)
links_writable S a b line f left right h plain some_a some_b long =
    let e = coming S a b line f in
    can_link S.next_ids (with_row S a b line f left right) (links_of S.edges e)
    (links_known S.edges e (star_with S a b line f a.node_id h plain some_a long) (star_with S a b line f b.node_id h plain some_b long) (has_edge_row (with_row S a b line f left right))
    (λ x c. rows_have (half_edges S) S.edges e (dart_named S.next_ids left) (dart_named S.next_ids right) x c))

pub links_are_right : LinksAreRight
links_are_right = record { order = star_in_order; next = next_in_star; comes = star_with_edge; links = links_with_edge; writable = links_writable }

-- a star that was made has directions, and is in order
pub some_at : {E : Type 0} (S : Drawing) (n : ℕ) (r : Result Rays E) → IfOk r (λ s. s ≡ rays_at S n) → IfOk r (λ s. All IsNotZero s.dirs) → IfOk r (λ s. HasDirections S n)
some_at S n (Ok s) is some = subst (λ (z : Rays). All IsNotZero z.dirs) is some
some_at S n (Err e) is some = tt

pub made_in_order : {E : Type 0} (S : Drawing) (n : ℕ) (r : Result Rays E) → IsPlainInOrder S → IfOk r (λ s. s ≡ rays_at S n) → IfOk r (λ s. All IsNotZero s.dirs) → IfOk r (λ s. IsTrue (in_clockwise_order s.dirs))
made_in_order S n (Ok s) plain is some = subst (λ (z : Rays). IsTrue (in_clockwise_order z.dirs)) (sym is) (star_in_order S n plain (subst (λ (z : Rays). All IsNotZero z.dirs) is some))
made_in_order S n (Err e) plain is some = tt

-- a star into which the darts of an edge that comes were put
pub comes_into : (S : Drawing) (a b : NodeRow) (line : List Point) (f edge start end n : ℕ) (before after : Rays) → IsComing S a b line f edge start end → before ≡ rays_at S n → All IsNotZero before.dirs → 2 ≤ length line
    → after ≡ with_both n (edge_between edge start end line) before → after ≡ rays_at (with_edge S a b line f) n
comes_into S a b line f edge start end n before after ok is some long made =
    made ∙ ap (with_both n (edge_between edge start end line)) is
    ∙ ap (λ id. with_both n (edge_between id start end line) (rays_at S n)) ok.next ∙ ap (λ id. with_both n (edge_between S.next_ids.edge id end line) (rays_at S n)) ok.starts
    ∙ ap (λ id. with_both n (edge_between S.next_ids.edge a.node_id id line) (rays_at S n)) ok.ends
    ∙ star_with_edge S a b line f n ok.ordered ok.plain (subst (λ (z : Rays). All IsNotZero z.dirs) is some) long

pub put_into : {E : Type 0} (S : Drawing) (a b : NodeRow) (line : List Point) (f edge start end n : ℕ) (before after : Rays) (r : Result (Unit {0}) E) → IsComing S a b line f edge start end → before ≡ rays_at S n
    → All IsNotZero before.dirs → 2 ≤ length line → OnOk r (after ≡ with_both n (edge_between edge start end line) before) → OnOk r (after ≡ rays_at (with_edge S a b line f) n)
put_into S a b line f edge start end n before after (Ok u) ok is some long made = comes_into S a b line f edge start end n before after ok is some long made
put_into S a b line f edge start end n before after (Err e) ok is some long made = tt
