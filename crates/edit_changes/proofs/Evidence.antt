-- What is known of a change that was decided.
use Rattle.std.proofs.Common.{◌≡◌, ℕ, refl, sym, ap, subst, ◌∙◌, inl, inr, ◌⊎◌, ⊎_elim, Bool, true, false, cond, not, ◌&&◌, ◌||◌, ◌==◌, List, [], ◌∷◌, length, Option, Some, None, Ok, Err, unwrap_or}
use Rattle.std.specs.Prelude.{nat_le, nat_eq, reverse}
use Rattle.std.specs.List.{list_any, Contains}
use Rattle.std.specs.Option.{option_eq}
use Rattle.std.proofs.lemmas.Bool.{and_parts, eqb-true, eqb-false, not-true, not-false, or_parts}
use Rattle.topo_base.specs.Point.{Point}
use Rattle.topo_base.specs.declared.kind.Kind.{Kind}
use Rattle.topo_base.specs.declared.edit.Pair.{Pair}
use Rattle.topo_base.specs.declared.rows.NodeRow.{NodeRow}
use Rattle.topo_base.specs.declared.rows.LayerRow.{LayerRow}
use Rattle.topo_base.specs.declared.rows.FeatureRow.{FeatureRow}
use Rattle.topo_base.specs.declared.rule.Rule.{Rule}
use Rattle.topo_base.specs.declared.rule.Rule.TheVariants.{NoFace, SameNode, NotIsolated, PointBlocked, NotInFace, LineEnds, LineNotSimple, LineBlocked, NodeInFeature, EdgeInFeature, FaceInFeature, NotOnEdge, ClosedEdge, NotJoined, HealSplitsFeature, WrongKind, NameTaken, ElementListed, ElementNotListed, FeatureUsed}
use Rattle.topo_base.specs.declared.edit.Edit.{Edit}
use Rattle.topo_base.specs.declared.edit.Edit.TheVariants.{AddIsoNode, MoveIsoNode, RemoveIsoNode, AddIsoEdge, RemoveIsoEdge, AddEdgeModFace, AddEdgeNewFaces, RemEdgeModFace, RemEdgeNewFace, ModEdgeSplit, NewEdgesSplit, ModEdgeHeal, NewEdgeHeal, AddLayer, CreateTopoGeom, AddElement, RemElement, DropFeature}
use Rattle.plane.specs.Line.{is_simple, is_inside_line}
use Rattle.drawing.specs.Drawing.{Drawing, Edge, node_id_of, edge_id_of, layer_id_of, feature_id_of, node_at, edge_at, layer_at, feature_at, is_isolated, is_end_of, has_only}
use Rattle.drawing.specs.Rows.{row_at}
use Rattle.drawing.specs.HalfEdge.{backward_of}
use Rattle.drawing.specs.Ring.{contains_half_edge}
use Rattle.plane.specs.Direction.{first_direction}
use Rattle.drawing.specs.Faces.{face_at}
use Rattle.drawing.specs.Accepted.{keeps_limits, is_line_short}
use Rattle.drawing.specs.Relations.{node_type, edge_type, face_type, lists_feature}
use Rattle.drawing.specs.Blocked.{is_blocked, is_blocked_for, is_line_blocked, goes_between}
use Rattle.drawing.specs.IsoEdits.{accepts_face, is_given_face, is_in_feature, is_isolated_edge, with_edge}
use Rattle.drawing.specs.AddEdge.{coming, face_at_start, face_at_end}
use Rattle.drawing.specs.RemoveEdge.{have_same_features}
use Rattle.drawing.specs.HealEdges.{is_closed, common_nodes, is_nothing, healed_node}
use Rattle.drawing.specs.Layers.{is_name_taken, same_kind, elements_rule, element_rule, row_for, is_element_listed}
use Rattle.plane.proofs.ListTests.{contains_cases, contains_none}
use Rattle.drawing.proofs.Members.{contains-found, contains-filtered}
use Rattle.drawing.specs.Change.{Change, EdgeIsCut, EdgeIsCutAnew, EdgesAreJoined, EdgesAreJoinedAnew}
use Rattle.drawing.specs.Apply.{Decision}
use Rattle.drawing.specs.Decide.{decide, unless, node_comes, node_moves, node_goes, lone_edge_comes, edge_comes, lone_edge_goes, edge_goes, edge_is_cut, edges_joined_at, edges_are_joined, layer_comes_on, layer_comes, feature_comes, feature_lists_in, feature_lists, feature_unlists, feature_goes}
use Rattle.edit_changes.specs.Evidence.{left_ring, EdgeMayCome, EdgeMayGo, FacesMayJoin, EdgeMayBeCut, EdgesMayBeJoined, IsDecided, is_within}
use Rattle.edit_changes.proofs.LoneEdges.{lone_face, lone_joined}

-- a change that was decided has its facts, and is within the limits where the edit is
abbrev Grounded : Bool → Drawing → Decision → Type 0
Grounded within S (Ok c) = IsDecided S c × (within ≡ true → is_within c ≡ true)
Grounded within S (Err rule) = Unit {0}

refuses : (within : Bool) (S : Drawing) (b : Bool) (rule : Rule) (d : Decision) → (b ≡ false → Grounded within S d) → Grounded within S (cond b (Err rule) d)
refuses within S true rule d h = tt
refuses within S false rule d h = h refl

chooses : (within : Bool) (S : Drawing) (b : Bool) (c d : Decision) → (b ≡ true → Grounded within S c) → (b ≡ false → Grounded within S d) → Grounded within S (cond b c d)
chooses within S true c d h k = h refl
chooses within S false c d h k = k refl

and_false : (b c : Bool) → (b && c) ≡ false → b ≡ true → c ≡ false
and_false true c h e = h
and_false false c h e = absurd cc

same_face : (o : Option ℕ) (g : ℕ) → option_eq nat_eq o (Some g) ≡ true → o ≡ Some g
same_face None g e = absurd cc
same_face (Some f) g e = ap (λ k. Some k) (eqb-true f g e)

-- ---- rows that were found
abbrev Found : {R : Type 0} → List R → Option R → Type 0
Found {R} rows o = (r : R) → o ≡ Some r → Contains rows r

node_found : (S : Drawing) (n : ℕ) → Found S.nodes (node_at S n)
node_found S n r e = (contains-found (λ (x : NodeRow). node_id_of x == n) r S.nodes e).0

edge_found : (S : Drawing) (n : ℕ) → Found S.edges (edge_at S n)
edge_found S n r e = (contains-found (λ (x : Edge). edge_id_of x == n) r S.edges e).0

-- the row that an id finds has that id, so that its own id finds it
abbrev FoundAgain : {R : Type 0} → (R → ℕ) → List R → Option R → Type 0
FoundAgain {R} id rows o = (r : R) → o ≡ Some r → row_at id rows (id r) ≡ Some r

found_id : {R : Type 0} (id : R → ℕ) (rows : List R) (n : ℕ) (r : R) → row_at id rows n ≡ Some r → id r ≡ n
found_id id rows n r e = eqb-true (id r) n (contains-found (λ x. id x == n) r rows e).1

found_again : {R : Type 0} (id : R → ℕ) (rows : List R) (n : ℕ) → FoundAgain id rows (row_at id rows n)
found_again id rows n r e = ap (λ m. row_at id rows m) (found_id id rows n r e) ∙ e

layer_found : (S : Drawing) (n : ℕ) → FoundAgain layer_id_of S.layers (layer_at S n)
layer_found S n = found_again layer_id_of S.layers n

feature_found : (S : Drawing) (n : ℕ) → FoundAgain feature_id_of S.features (feature_at S n)
feature_found S n = found_again feature_id_of S.features n

-- ---- nodes
add_node : (S : Drawing) (face : Option ℕ) (p : Point) → Grounded true S (node_comes S face p)
add_node S face p =
    refuses true S (not (accepts_face S face)) NoFace _ (λ _.
    refuses true S (is_blocked S p) PointBlocked _ (λ free.
    refuses true S (not (is_given_face face (face_at S p))) NotInFace _ (λ _. (record { free = free; lies = refl }, λ _. refl))))

move_node : (S : Drawing) (n : Option NodeRow) (p : Point) → Found S.nodes n → Grounded true S (node_moves S n p)
move_node S None p there = tt
move_node S (Some n) p there =
    refuses true S (not (is_isolated S n.node_id)) NotIsolated _ (λ lone.
    refuses true S (is_blocked_for S n.node_id p) PointBlocked _ (λ free.
    refuses true S (not (option_eq nat_eq n.containing_face (Some (face_at S p)))) NotInFace _ (λ lies. (
      record {
        there = there n refl;
        lone = not-false _ lone;
        free = free;
        lies = same_face n.containing_face (face_at S p) (not-false _ lies);
      },
      λ _. refl,
    ))))

remove_node : (S : Drawing) (n : Option NodeRow) → Found S.nodes n → Grounded true S (node_goes S n)
remove_node S None there = tt
remove_node S (Some n) there =
    refuses true S (not (is_isolated S n.node_id)) NotIsolated _ (λ lone.
    refuses true S (is_in_feature S node_type n.node_id) NodeInFeature _ (λ unlisted. (record { there = there n refl; lone = not-false _ lone; unlisted = unlisted }, λ _. refl)))

-- ---- edges that come
lone_edge : (S : Drawing) (a b : Option NodeRow) (line : List Point) → Found S.nodes a → Found S.nodes b → Grounded (is_line_short line) S (lone_edge_comes S a b line)
lone_edge S None b line ca cb = tt
lone_edge S (Some a) None line ca cb = tt
lone_edge S (Some a) (Some b) line ca cb =
    refuses (is_line_short line) S (a.node_id == b.node_id) SameNode _ (λ differ.
    refuses (is_line_short line) S (not (is_isolated S a.node_id && is_isolated S b.node_id)) NotIsolated _ (λ lone.
    refuses (is_line_short line) S (not (option_eq nat_eq a.containing_face b.containing_face)) NotInFace _ (λ same.
    refuses (is_line_short line) S (not (goes_between a b line)) LineEnds _ (λ ends.
    refuses (is_line_short line) S (not (is_simple line)) LineNotSimple _ (λ simple.
    refuses (is_line_short line) S (is_line_blocked S line) LineBlocked _ (λ free.
    let both = and_parts (is_isolated S a.node_id) (is_isolated S b.node_id) (not-false _ lone) in (
      record {
        edge = record {
          start_there = ca a refl;
          end_there = cb b refl;
          ends = not-false _ ends;
          simple = not-false _ simple;
          free = free;
          starts_in = lone_face S a (first_direction line) both.0;
          ends_in = lone_face S b (first_direction (reverse line)) both.1 ∙ contained a.containing_face b.containing_face (not-false _ same);
        };
        joined = lone_joined S a b line (unwrap_or a.containing_face 0) differ both.1;
      },
      λ short. short,
    )))))))
  where
    contained : (o p : Option ℕ) → option_eq nat_eq o p ≡ true → unwrap_or p 0 ≡ unwrap_or o 0
    contained None None e = refl
    contained None (Some g) e = absurd cc
    contained (Some f) None e = absurd cc
    contained (Some f) (Some g) e = sym (eqb-true f g e)

new_edge : (both : Bool) (S : Drawing) (a b : Option NodeRow) (line : List Point) → Found S.nodes a → Found S.nodes b → Grounded (is_line_short line) S (edge_comes both S a b line)
new_edge both S None b line ca cb = tt
new_edge both S (Some a) None line ca cb = tt
new_edge both S (Some a) (Some b) line ca cb =
    let f = face_at_start S a line in
    let T = with_edge S a b line f in
    refuses (is_line_short line) S (not (goes_between a b line)) LineEnds _ (λ ends.
    refuses (is_line_short line) S (not (is_simple line)) LineNotSimple _ (λ simple.
    refuses (is_line_short line) S (is_line_blocked S line || not (face_at_end S b line == f)) LineBlocked _ (λ clear.
    let free = or_parts (is_line_blocked S line) _ clear in
    let may : EdgeMayCome S a b line f = record {
      start_there = ca a refl;
      end_there = cb b refl;
      ends = not-false _ ends;
      simple = not-false _ simple;
      free = free.0;
      starts_in = refl;
      ends_in = eqb-true (face_at_end S b line) f (not-false _ free.1);
    } in
    chooses (is_line_short line) S (contains_half_edge (left_ring S a b line f) (backward_of (coming S a b line f))) _ _
    (λ joined. (record { edge = may; joined = joined }, λ short. short))
    (λ cut. chooses (is_line_short line) S (both && not (f == 0)) _ _
    (λ two. ((record { edge = may; cut = cut }, eqb-false f 0 (not-true (f == 0) (and_parts both (not (f == 0)) two).1), refl), λ short. short))
    (λ one. ((record { edge = may; cut = cut }, refl), λ short. short))))))

-- ---- edges that go
remove_lone_edge : (S : Drawing) (e : Option Edge) → Found S.edges e → Grounded true S (lone_edge_goes S e)
remove_lone_edge S None there = tt
remove_lone_edge S (Some e) there =
    refuses true S (not (is_isolated_edge S e)) NotIsolated _ (λ lone.
    refuses true S (is_in_feature S edge_type e.edge_id) EdgeInFeature _ (λ unlisted. (record { there = there e refl; lone = not-false _ lone; unlisted = unlisted }, λ _. refl)))

gone_edge : (anew : Bool) (S : Drawing) (e : Option Edge) → Found S.edges e → Grounded true S (edge_goes anew S e)
gone_edge anew S None there = tt
gone_edge anew S (Some e) there =
    let l = e.left_face in
    let r = e.right_face in
    refuses true S (is_in_feature S edge_type e.edge_id) EdgeInFeature _ (λ unlisted.
    refuses true S (not (l == r) && not (have_same_features S face_type l r)) FaceInFeature _ (λ alike.
    let may : EdgeMayGo S e = record { there = there e refl; unlisted = unlisted } in
    chooses true S (l == r) _ _
    (λ same. ((may, eqb-true l r same), λ _. refl))
    (λ other.
    let differ = eqb-false l r other in
    let join : FacesMayJoin S e = record { edge = may; differ = differ; alike = not-false _ (and_false (not (l == r)) _ alike (ap not other)) } in
    chooses true S (l == 0) _ _
    (λ zero. ((join, inl (sym (eqb-true l 0 zero), refl), (λ q. differ (eqb-true l 0 zero ∙ sym q))), λ _. refl))
    (λ left. chooses true S (r == 0) _ _
    (λ zero. ((join, inr (sym (eqb-true r 0 zero), refl), eqb-false l 0 left), λ _. refl))
    (λ right. chooses true S anew _ _
    (λ _. ((join, eqb-false l 0 left, eqb-false r 0 right), λ _. refl))
    (λ _. ((join, inr (refl, refl), eqb-false l 0 left), λ _. refl)))))))

-- ---- edges that are cut and joined
split : (anew : Bool) (S : Drawing) (e : Option Edge) (p : Point) → Found S.edges e → Grounded true S (edge_is_cut anew S e p)
split anew S None p there = tt
split anew S (Some e) p there =
    refuses true S (not (is_inside_line p e.geom)) NotOnEdge _ (λ inside.
    let may : EdgeMayBeCut S e p = record { there = there e refl; inside = not-false _ inside } in
    chooses true S anew (Ok (EdgeIsCutAnew e p)) (Ok (EdgeIsCut e p)) (λ _. (may, λ _. refl)) (λ _. (may, λ _. refl)))

-- the node that two edges have in common
at_node : (S : Drawing) (e f : Edge) (n : ℕ) → healed_node S e f ≡ Some n → ((n ≡ e.end_node) ⊎ (n ≡ e.start_node)) × (is_end_of n f ≡ true) × (has_only S n e.edge_id f.edge_id ≡ true)
at_node S e f n is =
    let r = contains-found (λ k. has_only S k e.edge_id f.edge_id) n (common_nodes e f) is in
    let c = contains-filtered (λ k. is_end_of k f) n (e.end_node ∷ e.start_node ∷ []) r.0 in
    (⊎_elim (λ (k : e.end_node ≡ n). inl (sym k)) (λ (k : Contains (e.start_node ∷ []) n). ⊎_elim (λ (k : e.start_node ≡ n). inr (sym k)) (λ (l : Contains [] n). absurd (contains_none n l)) (contains_cases n e.start_node [] k)) (contains_cases n e.end_node (e.start_node ∷ []) c.0), c.1, r.1)

heal : (anew : Bool) (S : Drawing) (e f : Edge) (o : Option ℕ) → healed_node S e f ≡ o → Contains S.edges e → Contains S.edges f → is_closed e || is_closed f ≡ false → e.edge_id == f.edge_id || is_nothing (common_nodes e f) ≡ false
    → Grounded true S (edges_joined_at anew S e f o)
heal anew S e f None node ce cf unclosed meet = tt
heal anew S e f (Some n) node ce cf unclosed meet =
    refuses true S (not (have_same_features S edge_type e.edge_id f.edge_id)) HealSplitsFeature _ (λ alike.
    refuses true S (is_in_feature S node_type n) NodeInFeature _ (λ unlisted.
    let both = or_parts (is_closed e) (is_closed f) unclosed in
    let at = at_node S e f n node in
    let met = or_parts (e.edge_id == f.edge_id) (is_nothing (common_nodes e f)) meet in
    let may : EdgesMayBeJoined S e f n = record {
      first_there = ce;
      second_there = cf;
      first_open = both.0;
      second_open = both.1;
      differ = eqb-false e.edge_id f.edge_id met.0;
      meet = met.1;
      node = node;
      on_first = at.0;
      on_second = at.1;
      only = at.2;
      alike = not-false _ alike;
      unlisted = unlisted;
    } in
    chooses true S anew (Ok (EdgesAreJoinedAnew e f n)) (Ok (EdgesAreJoined e f n)) (λ _. (may, λ _. refl)) (λ _. (may, λ _. refl))))

heals : (anew : Bool) (S : Drawing) (e f : Option Edge) → Found S.edges e → Found S.edges f → Grounded true S (edges_are_joined anew S e f)
heals anew S None f ce cf = tt
heals anew S (Some e) None ce cf = tt
heals anew S (Some e) (Some f) ce cf =
    refuses true S (is_closed e || is_closed f) ClosedEdge _ (λ unclosed.
    refuses true S (e.edge_id == f.edge_id || is_nothing (common_nodes e f)) NotJoined _ (λ meet. heal anew S e f (healed_node S e f) refl (ce e refl) (cf f refl) unclosed meet))

-- ---- layers and features
layer_over : (S : Drawing) (name : List ℕ) (kind : Kind) (l : Option LayerRow) → is_name_taken S name ≡ false → FoundAgain layer_id_of S.layers l → Grounded true S (layer_comes_on name kind l)
layer_over S name kind None unnamed there = tt
layer_over S name kind (Some l) unnamed there =
    refuses true S (not (same_kind l.feature_type kind)) WrongKind _ (λ same. (
      record {
        unnamed = unnamed;
        stands = record { row = l; found = there l refl; kind_is = not-false _ same; level_is = refl };
      },
      λ _. refl,
    ))

layer : (S : Drawing) (name : List ℕ) (kind : Kind) (child : Option ℕ) → Grounded true S (layer_comes S name kind child)
layer S name kind None = refuses true S (is_name_taken S name) NameTaken _ (λ unnamed. (record { unnamed = unnamed; stands = refl }, λ _. refl))
layer S name kind (Some child) = refuses true S (is_name_taken S name) NameTaken _ (λ unnamed. layer_over S name kind (layer_at S child) unnamed (layer_found S child))

unless_none : (within : Bool) (S : Drawing) (r : Option Rule) (d : Decision) → (r ≡ None → Grounded within S d) → Grounded within S (unless r d)
unless_none within S (Some rule) d h = tt
unless_none within S None d h = h refl

feature : (S : Drawing) (l : Option LayerRow) (xs : List Pair) → FoundAgain layer_id_of S.layers l → Grounded (nat_le (length xs) 4096) S (feature_comes S l xs)
feature S None xs there = tt
feature S (Some l) xs there = unless_none (nat_le (length xs) 4096) S (elements_rule S l [] xs) _ (λ allowed. (record { found = there l refl; allowed = allowed }, λ short. short))

element_on : (S : Drawing) (t : FeatureRow) (l : Option LayerRow) (x : Pair) → layer_at S t.layer_id ≡ l → feature_at S t.feature_id ≡ Some t → Grounded true S (feature_lists_in S t l x)
element_on S t None x is there = tt
element_on S t (Some l) x is there =
    unless_none true S (element_rule S l x) _ (λ allowed.
    refuses true S (is_element_listed S (row_for t.feature_id l.layer_id x)) ElementListed _ (λ unlisted. (
      record {
        feature = t;
        layer = l;
        element = x;
        feature_found = there;
        layer_found = layer_found S t.layer_id l is;
        layer_is = found_id layer_id_of S.layers t.layer_id l is;
        row_is = refl;
        allowed = allowed;
        unlisted = unlisted;
      },
      λ _. refl,
    )))

element : (S : Drawing) (t : Option FeatureRow) (x : Pair) → FoundAgain feature_id_of S.features t → Grounded true S (feature_lists S t x)
element S None x there = tt
element S (Some t) x there = element_on S t (layer_at S t.layer_id) x refl (there t refl)

less : (S : Drawing) (t : Option FeatureRow) (x : Pair) → FoundAgain feature_id_of S.features t → Grounded true S (feature_unlists S t x)
less S None x there = tt
less S (Some t) x there =
    refuses true S (not (is_element_listed S (row_for t.feature_id t.layer_id x))) ElementNotListed _ (λ listed. (
      record {
        feature = t;
        element = x;
        feature_found = there t refl;
        row_is = refl;
        listed = not-false _ listed;
      },
      λ _. refl,
    ))

gone_feature : (S : Drawing) (t : Option FeatureRow) → FoundAgain feature_id_of S.features t → Grounded true S (feature_goes S t)
gone_feature S None there = tt
gone_feature S (Some t) there = refuses true S (list_any (lists_feature S t.feature_id) S.relations) FeatureUsed _ (λ unused. (record { found = there t refl; unused = unused }, λ _. refl))

-- ---- each edit
grounded : (S : Drawing) (e : Edit) → Grounded (keeps_limits e) S (decide S e)
grounded S (AddIsoNode face p) = add_node S face p
grounded S (MoveIsoNode n p) = move_node S (node_at S n) p (node_found S n)
grounded S (RemoveIsoNode n) = remove_node S (node_at S n) (node_found S n)
grounded S (AddIsoEdge a b line) = lone_edge S (node_at S a) (node_at S b) line (node_found S a) (node_found S b)
grounded S (RemoveIsoEdge e) = remove_lone_edge S (edge_at S e) (edge_found S e)
grounded S (AddEdgeModFace a b line) = new_edge false S (node_at S a) (node_at S b) line (node_found S a) (node_found S b)
grounded S (AddEdgeNewFaces a b line) = new_edge true S (node_at S a) (node_at S b) line (node_found S a) (node_found S b)
grounded S (RemEdgeModFace e) = gone_edge false S (edge_at S e) (edge_found S e)
grounded S (RemEdgeNewFace e) = gone_edge true S (edge_at S e) (edge_found S e)
grounded S (ModEdgeSplit e p) = split false S (edge_at S e) p (edge_found S e)
grounded S (NewEdgesSplit e p) = split true S (edge_at S e) p (edge_found S e)
grounded S (ModEdgeHeal e f) = heals false S (edge_at S e) (edge_at S f) (edge_found S e) (edge_found S f)
grounded S (NewEdgeHeal e f) = heals true S (edge_at S e) (edge_at S f) (edge_found S e) (edge_found S f)
grounded S (AddLayer name kind child) = layer S name kind child
grounded S (CreateTopoGeom l xs) = feature S (layer_at S l) xs (layer_found S l)
grounded S (AddElement t id type) = element S (feature_at S t) (record { id = id; element_type = type }) (feature_found S t)
grounded S (RemElement t id type) = less S (feature_at S t) (record { id = id; element_type = type }) (feature_found S t)
grounded S (DropFeature t) = gone_feature S (feature_at S t) (feature_found S t)

pub decided : (S : Drawing) (e : Edit) (c : Change) → decide S e ≡ Ok c → IsDecided S c
decided S e c is = (subst (Grounded (keeps_limits e) S) is (grounded S e)).0

pub within : (S : Drawing) (e : Edit) (c : Change) → keeps_limits e ≡ true → decide S e ≡ Ok c → is_within c ≡ true
within S e c limits is = (subst (Grounded (keeps_limits e) S) is (grounded S e)).1 limits
