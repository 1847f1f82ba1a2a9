-- Conflicts of pieces are those of the rows that they belong to.
use Rattle.std.proofs.Common.{◌≡◌, ◌≢◌, ◌∙◌, ◌⊎◌, inl, inr, ⊎_elim, ◌↔◌, ℕ, ◌<◌, ◌≤◌, min, max, Bool, true, false, List, [], ◌∷◌, map, flat_map, refl, sym, ap, subst, arith}
use Rattle.std.specs.Prelude.{Contains}
use Rattle.std.proofs.lemmas.Bool.{cases_lt, false≢true}
use Rattle.std.proofs.lemmas.List.Elements.{Contains-append_left, Contains-append_right, Contains-append_cases}
use Rattle.topo_base.specs.declared.rows.NodeRow.{NodeRow}
use Rattle.topo_base.specs.declared.rows.EdgeRow.{EdgeRow}
use Rattle.plane.specs.Segment.{Segment}
use Rattle.plane.specs.Line.{segments_of}
use Rattle.plane.proofs.ListTests.{contains_none, contains_cases, contains_here, contains_there}
use Rattle.drawing.proofs.Members.{contains-map, contains-mapped}
use Rattle.validate_topology.specs.Conflicts.{AreCoincident, AreCrossing, IsConflictOf, IsNodeInside}
use Rattle.validate_topology.specs.OnlyIf.{only_if}
use Rattle.validate_topology.specs.Pairs.{AreAllOf, IsInOrder}
use Rattle.validate_topology.specs.Pieces.{AreFound, Conflicts, IsAmong, IsOfTwo, all_pieces, edge_piece, edge_pieces, node_piece, pair_of, pairs_of_kind, same_kind}
use Rattle.validate_topology.specs.declared.conflicts.Conflict.{Conflict}
use Rattle.validate_topology.specs.declared.conflicts.ConflictKind.{ConflictKind}
use Rattle.validate_topology.specs.declared.conflicts.ConflictKind.TheVariants.{Coincident, Inside, Crossing}
use Rattle.validate_topology.specs.declared.pairs.IdPair.{IdPair}
use Rattle.validate_topology.specs.declared.pieces.Owner.{Owner}
use Rattle.validate_topology.specs.declared.pieces.Owner.TheVariants.{Node, Edge}
use Rattle.validate_topology.specs.declared.pieces.Piece.{Piece}
use Rattle.validate_topology.proofs.Sweeping.{found_of, pair_turned, same_turned, turned}

-- ---- whose a piece is
pub in_flat : {X Y : Type 0} (f : X → List Y) (x : X) (y : Y) (xs : List X) → Contains xs x → Contains (f x) y → Contains (flat_map f xs) y
in_flat f x y [] c d = absurd (contains_none x c)
in_flat f x y (z ∷ xs) c d =
    ⊎_elim
    (λ (e : z ≡ x). Contains-append_left (f z) (flat_map f xs) y (subst (λ w. Contains (f w) y) (sym e) d))
    (λ (k : Contains xs x). Contains-append_right (f z) (flat_map f xs) y (in_flat f x y xs k d))
    (contains_cases x z xs c)

pub of_flat : {X Y : Type 0} (f : X → List Y) (y : Y) (xs : List X) → Contains (flat_map f xs) y → (x : X) × (Contains xs x × Contains (f x) y)
of_flat f y [] c = absurd (contains_none y c)
of_flat f y (z ∷ xs) c =
    ⊎_elim
    (λ (k : Contains (f z) y). (z, (contains_here z xs, k)))
    (λ (k : Contains (flat_map f xs) y). let r = of_flat f y xs k in (r.0, (contains_there r.0 z xs r.1.0, r.1.1)))
    (Contains-append_cases (f z) (flat_map f xs) y c)

node_there : (nodes : List NodeRow) (edges : List EdgeRow) (n : NodeRow) → Contains nodes n → Contains (all_pieces nodes edges) (node_piece n)
node_there nodes edges n c = Contains-append_left (map node_piece nodes) (flat_map edge_pieces edges) (node_piece n) (contains-map node_piece n nodes c)

edge_there : (nodes : List NodeRow) (edges : List EdgeRow) (e : EdgeRow) (s : Segment) → Contains edges e → Contains (segments_of e.geom) s
    → Contains (all_pieces nodes edges) (edge_piece e s)
edge_there nodes edges e s c d =
    Contains-append_right (map node_piece nodes) (flat_map edge_pieces edges) (edge_piece e s)
    (in_flat edge_pieces e (edge_piece e s) edges c (contains-map (edge_piece e) s (segments_of e.geom) d))

record IsOfNode (nodes : List NodeRow) (p : Piece) : Type 0 where
  pub node : NodeRow
  pub listed : Contains nodes node
  pub is : node_piece node ≡ p

record IsOfEdge (edges : List EdgeRow) (p : Piece) : Type 0 where
  pub edge : EdgeRow
  pub segment : Segment
  pub listed : Contains edges edge
  pub part : Contains (segments_of edge.geom) segment
  pub is : edge_piece edge segment ≡ p

whose : (nodes : List NodeRow) (edges : List EdgeRow) (p : Piece) → Contains (all_pieces nodes edges) p → IsOfNode nodes p ⊎ IsOfEdge edges p
whose nodes edges p c =
    ⊎_elim
    (λ (k : Contains (map node_piece nodes) p). inl (let r = contains-mapped node_piece p nodes k in record { node = r.0; listed = r.1.0; is = r.1.1 }))
    (λ (k : Contains (flat_map edge_pieces edges) p).
    inr
    (let r = of_flat edge_pieces p edges k in
    let s = contains-mapped (edge_piece r.0) p (segments_of r.0.geom) r.1.1 in
    record { edge = r.0; segment = s.0; listed = r.1.0; part = s.1.0; is = s.1.1 }))
    (Contains-append_cases (map node_piece nodes) (flat_map edge_pieces edges) p c)

-- ---- from rows to pieces
abbrev number_of : Owner → ℕ
number_of (Node a) = a
number_of (Edge a ends) = a

abbrev is_node : Owner → Bool
is_node (Node a) = true
is_node (Edge a ends) = false

apart_by : (f : Owner → ℕ) (p q : Piece) → f p.owner ≢ f q.owner → p ≢ q
apart_by f p q h e = h (ap (λ (x : Piece). f x.owner) e)

in_pair : (a b : ℕ) → a < b → pair_of a b ≡ record { first = a; second = b }
in_pair a b h = λ i. record { first = low i; second = high i }
  where
    low : min a b ≡ a
    low = omega arith

    high : max a b ≡ b
    high = omega arith

less_apart : (a b : ℕ) → a < b → a ≢ b
less_apart a b h e = omega arith

abbrev Has : List Piece → List NodeRow → List EdgeRow → Type 0
Has ps nodes edges = (p : Piece) → Contains (all_pieces nodes edges) p → Contains ps p

coincident_found : (ps : List Piece) (nodes : List NodeRow) (edges : List EdgeRow) (found : List Conflict) (p : IdPair) → Has ps nodes edges → AreFound ps found
    → AreCoincident nodes p → Contains found (record { kind = Coincident; pair = p })
coincident_found ps nodes edges found p has all h =
    let a = node_piece h.one in
    let b = node_piece h.other in
    let ne = less_apart h.one.node_id h.other.node_id h.ordered in
    found_of ps found a b (record { kind = Coincident; pair = p }) all (has a (node_there nodes edges h.one h.one_listed)) (has b (node_there nodes edges h.other h.other_listed))
    (apart_by number_of a b ne)
    (ne, h.same, λ i. record { kind = Coincident; pair = (h.ids ∙ sym (in_pair h.one.node_id h.other.node_id h.ordered)) i })

inside_found : (ps : List Piece) (nodes : List NodeRow) (edges : List EdgeRow) (found : List Conflict) (p : IdPair) → Has ps nodes edges → AreFound ps found
    → IsNodeInside nodes edges p → Contains found (record { kind = Inside; pair = p })
inside_found ps nodes edges found p has all h =
    let on = h.inside.0 in
    let a = edge_piece h.edge on.0 in
    let b = node_piece h.node in
    found_of ps found a b (record { kind = Inside; pair = p }) all (has a (edge_there nodes edges h.edge on.0 h.edge_listed on.1.0)) (has b (node_there nodes edges h.node h.node_listed))
    (λ (e : a ≡ b). false≢true (ap (λ (x : Piece). is_node x.owner) e))
    ((on.1.1, λ end. ⊎_elim h.inside.1 h.inside.2 end), λ i. record { kind = Inside; pair = h.ids i })

crossing_found : (ps : List Piece) (nodes : List NodeRow) (edges : List EdgeRow) (found : List Conflict) (p : IdPair) → Has ps nodes edges → AreFound ps found
    → AreCrossing edges p → Contains found (record { kind = Crossing; pair = p })
crossing_found ps nodes edges found p has all h =
    let q = h.crossing.0 in
    let on = h.crossing.1.0.0 in
    let also = h.crossing.1.0.1 in
    let a = edge_piece h.one on.0 in
    let b = edge_piece h.other also.0 in
    let ne = less_apart h.one.edge_id h.other.edge_id h.ordered in
    found_of ps found a b (record { kind = Crossing; pair = p }) all (has a (edge_there nodes edges h.one on.0 h.one_listed on.1.0))
    (has b (edge_there nodes edges h.other also.0 h.other_listed also.1.0)) (apart_by number_of a b ne)
    (ne, (q, (on.1.1, also.1.1, h.crossing.1.1)), λ i. record { kind = Crossing; pair = (h.ids ∙ sym (in_pair h.one.edge_id h.other.edge_id h.ordered)) i })

found_by : (ps : List Piece) (nodes : List NodeRow) (edges : List EdgeRow) (found : List Conflict) (k : ConflictKind) (p : IdPair) → Has ps nodes edges → AreFound ps found
    → IsConflictOf nodes edges k p → Contains found (record { kind = k; pair = p })
found_by ps nodes edges found Coincident p has all h = coincident_found ps nodes edges found p has all h
found_by ps nodes edges found Inside p has all h = inside_found ps nodes edges found p has all h
found_by ps nodes edges found Crossing p has all h = crossing_found ps nodes edges found p has all h

pub all_found : (ps : List Piece) (nodes : List NodeRow) (edges : List EdgeRow) (found : List Conflict) → ((p : Piece) → Contains ps p ↔ Contains (all_pieces nodes edges) p)
    → AreFound ps found → (c : Conflict) → IsConflictOf nodes edges c.kind c.pair → Contains found c
all_found ps nodes edges found same all c h = found_by ps nodes edges found c.kind c.pair (λ p. (same p).1) all h

-- ---- from pieces to rows
less : (a b : ℕ) → b ≤ a → a ≢ b → b < a
less a b l h = omega arith

less_or_more : (a b : ℕ) → a ≢ b → (a < b) ⊎ (b < a)
less_or_more a b h = ⊎_elim (λ (l : a < b). inl l) (λ (l : b ≤ a). inr (less a b l h)) (cases_lt a b)

-- a conflict of this kind, whatever it is called
abbrev IsNamed : List NodeRow → List EdgeRow → Conflict → Type 0
IsNamed nodes edges c = IsConflictOf nodes edges c.kind c.pair

coincident_is : (nodes : List NodeRow) (edges : List EdgeRow) (a b : NodeRow) (c : Conflict) → Contains nodes a → Contains nodes b → Conflicts (node_piece a) (node_piece b) c
    → IsNamed nodes edges c
coincident_is nodes edges a b c la lb h =
    subst (IsNamed nodes edges) (sym h.2)
    (⊎_elim
    (λ (l : a.node_id < b.node_id). record {
      one = a;
      other = b;
      one_listed = la;
      other_listed = lb;
      ids = in_pair a.node_id b.node_id l;
      ordered = l;
      same = h.1;
    })
    (λ (l : b.node_id < a.node_id). record {
      one = b;
      other = a;
      one_listed = lb;
      other_listed = la;
      ids = pair_turned a.node_id b.node_id ∙ in_pair b.node_id a.node_id l;
      ordered = l;
      same = same_turned a.geom b.geom h.1;
    })
    (less_or_more a.node_id b.node_id h.0))

inside_is : (nodes : List NodeRow) (edges : List EdgeRow) (e : EdgeRow) (s : Segment) (n : NodeRow) (c : Conflict) → Contains edges e → Contains (segments_of e.geom) s → Contains nodes n
    → Conflicts (edge_piece e s) (node_piece n) c → IsNamed nodes edges c
inside_is nodes edges e s n c le part ln h =
    subst (IsNamed nodes edges) (sym h.1)
    (record {
      edge = e;
      node = n;
      edge_listed = le;
      node_listed = ln;
      ids = refl;
      inside = ((s, (part, h.0.0)), (λ at. h.0.1 (inl at)), (λ at. h.0.1 (inr at)));
    })

crossing_is : (nodes : List NodeRow) (edges : List EdgeRow) (a b : EdgeRow) (s t : Segment) (c : Conflict) → Contains edges a → Contains edges b
    → Contains (segments_of a.geom) s → Contains (segments_of b.geom) t → Conflicts (edge_piece a s) (edge_piece b t) c → IsNamed nodes edges c
crossing_is nodes edges a b s t c la lb pa pb h =
    let q = h.1.0 in
    let k = h.1.1 in
    subst (IsNamed nodes edges) (sym h.2)
    (⊎_elim
    (λ (l : a.edge_id < b.edge_id). record {
      one = a;
      other = b;
      one_listed = la;
      other_listed = lb;
      ids = in_pair a.edge_id b.edge_id l;
      ordered = l;
      crossing = (q, (((s, (pa, k.0)), (t, (pb, k.1))), k.2));
    })
    (λ (l : b.edge_id < a.edge_id). record {
      one = b;
      other = a;
      one_listed = lb;
      other_listed = la;
      ids = pair_turned a.edge_id b.edge_id ∙ in_pair b.edge_id a.edge_id l;
      ordered = l;
      crossing = (q, (((t, (pb, k.1)), (s, (pa, k.0))), λ ends. k.2 (ends.1, ends.0)));
    })
    (less_or_more a.edge_id b.edge_id h.0))

-- the same where the pieces are only known to be those of rows
moved : (p q p' q' : Piece) (c : Conflict) → p ≡ p' → q ≡ q' → Conflicts p' q' c → Conflicts p q c
moved p q p' q' c e f h = subst (λ x. Conflicts x q c) (sym e) (subst (λ x. Conflicts p' x c) (sym f) h)

of_both : (nodes : List NodeRow) (edges : List EdgeRow) (p q : Piece) (c : Conflict) → IsOfNode nodes p ⊎ IsOfEdge edges p → IsOfNode nodes q ⊎ IsOfEdge edges q → Conflicts p q c
    → IsNamed nodes edges c
of_both nodes edges p q c one other h =
    ⊎_elim
    (λ (n : IsOfNode nodes p).
    ⊎_elim
    (λ (m : IsOfNode nodes q). coincident_is nodes edges n.node m.node c n.listed m.listed (moved (node_piece n.node) (node_piece m.node) p q c n.is m.is h))
    (λ (f : IsOfEdge edges q).
    inside_is nodes edges f.edge f.segment n.node c f.listed f.part n.listed
    (turned (node_piece n.node) (edge_piece f.edge f.segment) c (moved (node_piece n.node) (edge_piece f.edge f.segment) p q c n.is f.is h)))
    other)
    (λ (e : IsOfEdge edges p).
    ⊎_elim
    (λ (m : IsOfNode nodes q).
    inside_is nodes edges e.edge e.segment m.node c e.listed e.part m.listed (moved (edge_piece e.edge e.segment) (node_piece m.node) p q c e.is m.is h))
    (λ (f : IsOfEdge edges q).
    crossing_is nodes edges e.edge f.edge e.segment f.segment c e.listed f.listed e.part f.part
    (moved (edge_piece e.edge e.segment) (edge_piece f.edge f.segment) p q c e.is f.is h))
    other)
    one

pub only_found : (ps : List Piece) (nodes : List NodeRow) (edges : List EdgeRow) → ((p : Piece) → Contains ps p ↔ Contains (all_pieces nodes edges) p)
    → (c : Conflict) → IsOfTwo ps c → IsConflictOf nodes edges c.kind c.pair
only_found ps nodes edges same c (one, (in_one, (other, (in_other, h)))) =
    of_both nodes edges one other c (whose nodes edges one ((same one).0 in_one)) (whose nodes edges other ((same other).0 in_other)) h

-- ---- the conflicts of one kind
one_kind : (k l : ConflictKind) → same_kind k l ≡ true → k ≡ l
one_kind Coincident Coincident e = refl
one_kind Coincident Inside e = absurd (false≢true e)
one_kind Coincident Crossing e = absurd (false≢true e)
one_kind Inside Coincident e = absurd (false≢true e)
one_kind Inside Inside e = refl
one_kind Inside Crossing e = absurd (false≢true e)
one_kind Crossing Coincident e = absurd (false≢true e)
one_kind Crossing Inside e = absurd (false≢true e)
one_kind Crossing Crossing e = refl

own_kind : (k : ConflictKind) → same_kind k k ≡ true
own_kind Coincident = refl
own_kind Inside = refl
own_kind Crossing = refl

in_one : {A : Type 0} (b : Bool) (line a : A) → Contains (only_if b line) a → (b ≡ true) × (line ≡ a)
in_one true line a c = ⊎_elim (λ (e : line ≡ a). (refl, e)) (λ (n : Contains [] a). absurd (contains_none a n)) (contains_cases a line [] c)
in_one false line a c = absurd (contains_none a c)

abbrev kept : ConflictKind → Conflict → List IdPair
kept k c = only_if (same_kind c.kind k) c.pair

among_to : (cs : List Conflict) (k : ConflictKind) (p : IdPair) → IsAmong cs k p → Contains (pairs_of_kind k cs) p
among_to cs k p h =
    in_flat (kept k) (record { kind = k; pair = p }) p cs h (subst (λ b. Contains (only_if b p) p) (sym (own_kind k)) (contains_here p []))

among_from : (cs : List Conflict) (k : ConflictKind) (p : IdPair) → Contains (pairs_of_kind k cs) p → IsAmong cs k p
among_from cs k p h =
    let r = of_flat (kept k) p cs h in
    let is = in_one (same_kind r.0.kind k) r.0.pair p r.1.1 in
    subst (Contains cs) (λ i. record { kind = one_kind r.0.kind k is.0 i; pair = is.1 i }) r.1.0

pub ordered_of : (cs : List Conflict) (k : ConflictKind) (pairs ordered : List IdPair) → pairs ≡ pairs_of_kind k cs → IsInOrder pairs ordered → AreAllOf (IsAmong cs k) ordered
ordered_of cs k pairs ordered e h = record {
  ascend = h.ascend;
  only = λ p c. among_from cs k p (subst (λ xs. Contains xs p) e (h.from p c));
  all = λ p c. h.to p (subst (λ xs. Contains xs p) (sym e) (among_to cs k p c));
}

-- the same pairs under another name of what they are
pub renamed : (found : List Conflict) (nodes : List NodeRow) (edges : List EdgeRow) (k : ConflictKind) (pairs : List IdPair)
    → ((c : Conflict) → IsConflictOf nodes edges c.kind c.pair → Contains found c) → ((c : Conflict) → Contains found c → IsConflictOf nodes edges c.kind c.pair)
    → AreAllOf (IsAmong found k) pairs → AreAllOf (IsConflictOf nodes edges k) pairs
renamed found nodes edges k pairs all only h = record {
  ascend = h.ascend;
  only = λ p c. only (record { kind = k; pair = p }) (h.only p c);
  all = λ p c. h.all p (all (record { kind = k; pair = p }) c);
}
