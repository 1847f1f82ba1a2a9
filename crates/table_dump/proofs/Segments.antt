-- The rows of tables of which there is a dump follow one another, and lead to these tables.
use Rattle.std.proofs.Common.{◌≡◌, ℕ, Bool, true, false, not, ◌&&◌, cond, List, [], ◌∷◌, ◌++◌, map, nat_lt, IsTrue, Option, Some, None, refl, sym, ap, subst, ◌∙◌, append_assoc, append-nil}
use Rattle.std.specs.List.{list_all}
use Rattle.std.proofs.lemmas.Bool.{and_parts, and_from, true≢false}
use Rattle.std.proofs.lemmas.List.{map-append}
use Rattle.std.proofs.lemmas.List.Folds.{list_all-append}
use Rattle.topo_base.specs.declared.rows.NodeRow.{NodeRow}
use Rattle.topo_base.specs.declared.rows.EdgeRow.{EdgeRow}
use Rattle.topo_base.specs.declared.rows.FaceRow.{FaceRow}
use Rattle.topo_base.specs.declared.rows.LayerRow.{LayerRow}
use Rattle.topo_base.specs.declared.rows.FeatureRow.{FeatureRow}
use Rattle.topo_base.specs.declared.rows.RelationRow.{RelationRow}
use Rattle.topo_base.specs.declared.rows.Counters.{Counters}
use Rattle.validate_topology.specs.Ascending.{numbers_ascend, last_number}
use Rattle.validate_topology.specs.declared.raw.RawTables.{RawTables}
use Rattle.validate_topology.proofs.Ascending.{ascend_push, last_push}
use Rattle.validate_topology.specs.RelationOrder.{comes_behind, last_relation, relations_ascend}
use Rattle.validate_topology.proofs.RelationOrder.{relations_push}
use Rattle.table_dump.specs.Dump.{is_counters, is_node_row, is_edge_row, is_face_row, is_layer_row, is_feature_row, is_relation_row, AreRows, IsDumped}
use Rattle.table_dump.specs.Rows.{DumpRow, Node, Edge, Universal, Face, Layer, Feature, Relation}
use Rattle.table_dump.specs.Steps.{Front, begun, is_none, may_follow, with_row}
use Rattle.table_dump.proofs.RowLaws.{is_row}
use Rattle.table_dump.proofs.Follow.{Follow, reach}

-- the rows in the order of their lines
abbrev pub rows : List NodeRow → List EdgeRow → Bool → List FaceRow → List LayerRow → List FeatureRow → List RelationRow → List DumpRow
rows ns es has fs ls ts rs =
    map Node ns ++ (map Edge es ++ ((cond has (Universal ∷ []) []) ++ (map Face fs ++ (map Layer ls ++ (map Feature ts ++ map Relation rs)))))

abbrev pub rows_of : Front → List DumpRow
rows_of f = rows f.raw.nodes f.raw.edges f.has_face_0 f.raw.faces f.raw.layers f.raw.features f.raw.relations

abbrev pub whole : RawTables → Front
whole r = record { raw = r; has_face_0 = true }

-- ---- rows of one kind
abbrev Ascends : {A : Type 0} → (List A → A → Bool) → List A → List A → Type 0
Ascends behind before [] = Unit {0}
Ascends behind before (a ∷ xs) = IsTrue (behind before a) × Ascends behind (before ++ a ∷ []) xs

record IsSegment (A : Type 0) (state : List A → Front) (wrap : A → DumpRow) (good : A → Bool) (behind : List A → A → Bool) : Type 0 where
  pub put : (before : List A) (a : A) → with_row (state before) (wrap a) ≡ state (before ++ a ∷ [])
  pub may : (before : List A) (a : A) → IsTrue (good a) → IsTrue (behind before a) → IsTrue (is_row (wrap a)) × IsTrue (may_follow (state before) (wrap a))

segment : (A : Type 0) (state : List A → Front) (wrap : A → DumpRow) (good : A → Bool) (behind : List A → A → Bool) → IsSegment A state wrap good behind
    → (before xs : List A) (rest : List DumpRow) → IsTrue (list_all good xs) → Ascends behind before xs → Follow (state (before ++ xs)) rest → Follow (state before) (map wrap xs ++ rest)
segment A state wrap good behind s before [] rest h k f = subst (λ l. Follow (state l) rest) (append-nil before) f
segment A state wrap good behind s before (a ∷ xs) rest h k f =
    let here = and_parts (good a) (list_all good xs) h in
    let m = s.may before a here.0 k.0 in
    let tail = segment A state wrap good behind s (before ++ a ∷ []) xs rest here.1 k.1 (subst (λ l. Follow (state l) rest) (sym (append_assoc before (a ∷ []) xs)) f) in
    (m.0, m.1, subst (λ g. Follow g (map wrap xs ++ rest)) (sym (s.put before a)) tail)

leads : (A : Type 0) (state : List A → Front) (wrap : A → DumpRow) (good : A → Bool) (behind : List A → A → Bool) → IsSegment A state wrap good behind
    → (before xs : List A) (rest : List DumpRow) → reach (state before) (map wrap xs ++ rest) ≡ reach (state (before ++ xs)) rest
leads A state wrap good behind s before [] rest = ap (λ l. reach (state l) rest) (sym (append-nil before))
leads A state wrap good behind s before (a ∷ xs) rest =
    ap (λ g. reach g (map wrap xs ++ rest)) (s.put before a) ∙ leads A state wrap good behind s (before ++ a ∷ []) xs rest ∙ ap (λ l. reach (state l) rest) (append_assoc before (a ∷ []) xs)

-- ids that ascend
abbrev is_behind : {A : Type 0} → (A → ℕ) → List A → A → Bool
is_behind number before a = nat_lt (last_number number 0 before) (number a)

ascends_on : (A : Type 0) (number : A → ℕ) (before xs : List A) → IsTrue (numbers_ascend number (last_number number 0 before) xs) → Ascends (is_behind number) before xs
ascends_on A number before [] h = tt
ascends_on A number before (a ∷ xs) h =
    let here = and_parts (nat_lt (last_number number 0 before) (number a)) (numbers_ascend number (number a) xs) h in
    (here.0, ascends_on A number (before ++ a ∷ []) xs (subst (λ n. IsTrue (numbers_ascend number n xs)) (sym (last_push number 0 before a)) here.1))

abbrev is_relation_behind : List RelationRow → RelationRow → Bool
is_relation_behind before r = comes_behind (last_relation None before) r

last_relation_push : (low : Option RelationRow) (before : List RelationRow) (r : RelationRow) → last_relation low (before ++ r ∷ []) ≡ Some r
last_relation_push low [] r = refl
last_relation_push low (b ∷ before) r = last_relation_push (Some b) before r

relations_on : (before xs : List RelationRow) → IsTrue (relations_ascend (last_relation None before) xs) → Ascends is_relation_behind before xs
relations_on before [] h = tt
relations_on before (a ∷ xs) h =
    let here = and_parts (comes_behind (last_relation None before) a) (relations_ascend (Some a) xs) h in
    (here.0, relations_on (before ++ a ∷ []) xs (subst (λ o. IsTrue (relations_ascend o xs)) (sym (last_relation_push None before a)) here.1))

-- ---- the kinds in their order
abbrev node_id : NodeRow → ℕ
node_id n = n.node_id

abbrev edge_id : EdgeRow → ℕ
edge_id e = e.edge_id

abbrev face_id : FaceRow → ℕ
face_id f = f.face_id

abbrev layer_id : LayerRow → ℕ
layer_id l = l.layer_id

abbrev feature_id : FeatureRow → ℕ
feature_id t = t.feature_id

abbrev front : Counters → List NodeRow → List EdgeRow → Bool → List FaceRow → List LayerRow → List FeatureRow → List RelationRow → Front
front next ns es has fs ls ts rs =
    record { raw = record { next = next; nodes = ns; edges = es; faces = fs; layers = ls; features = ts; relations = rs }; has_face_0 = has }

nodes_segment : (n : Counters) → IsSegment NodeRow (λ l. front n l [] false [] [] [] []) Node is_node_row (is_behind node_id)
nodes_segment n = record { put = λ before a. refl; may = λ before a good behind. (good, behind) }

edges_segment : (n : Counters) (ns : List NodeRow) → IsSegment EdgeRow (λ l. front n ns l false [] [] [] []) Edge is_edge_row (is_behind edge_id)
edges_segment n ns = record { put = λ before a. refl; may = λ before a good behind. (good, behind) }

faces_segment : (n : Counters) (ns : List NodeRow) (es : List EdgeRow) → IsSegment FaceRow (λ l. front n ns es true l [] [] []) Face is_face_row (is_behind face_id)
faces_segment n ns es = record { put = λ before a. refl; may = λ before a good behind. (good, behind) }

layers_segment : (n : Counters) (ns : List NodeRow) (es : List EdgeRow) (fs : List FaceRow) → IsSegment LayerRow (λ l. front n ns es true fs l [] []) Layer is_layer_row (is_behind layer_id)
layers_segment n ns es fs = record { put = λ before a. refl; may = λ before a good behind. (good, behind) }

features_segment : (n : Counters) (ns : List NodeRow) (es : List EdgeRow) (fs : List FaceRow) (ls : List LayerRow) → IsSegment FeatureRow (λ l. front n ns es true fs ls l []) Feature is_feature_row (is_behind feature_id)
features_segment n ns es fs ls = record { put = λ before a. refl; may = λ before a good behind. (good, behind) }

relations_segment : (n : Counters) (ns : List NodeRow) (es : List EdgeRow) (fs : List FaceRow) (ls : List LayerRow) (ts : List FeatureRow) → IsSegment RelationRow (λ l. front n ns es true fs ls ts l) Relation is_relation_row is_relation_behind
relations_segment n ns es fs ls ts = record { put = λ before a. refl; may = λ before a good behind. (good, behind) }

pub dump_follows : (r : RawTables) → IsDumped r → Follow (begun r.next) (rows_of (whole r))
dump_follows r h =
    let n = r.next in
    let ns = r.nodes in
    let es = r.edges in
    let fs = r.faces in
    let ls = r.layers in
    let ts = r.features in
    let rs = r.relations in
    let last = segment RelationRow (λ l. front n ns es true fs ls ts l) Relation is_relation_row is_relation_behind (relations_segment n ns es fs ls ts) [] rs [] h.relations (relations_on [] rs h.order) tt in
    let relations = subst (λ l. Follow (front n ns es true fs ls ts []) l) (append-nil (map Relation rs)) last in
    let features = segment FeatureRow (λ l. front n ns es true fs ls l []) Feature is_feature_row (is_behind feature_id) (features_segment n ns es fs ls) [] ts (map Relation rs) h.features.range (ascends_on FeatureRow feature_id [] ts h.features.ascend) relations in
    let layers = segment LayerRow (λ l. front n ns es true fs l [] []) Layer is_layer_row (is_behind layer_id) (layers_segment n ns es fs) [] ls (map Feature ts ++ map Relation rs) h.layers.range (ascends_on LayerRow layer_id [] ls h.layers.ascend) features in
    let faces = segment FaceRow (λ l. front n ns es true l [] [] []) Face is_face_row (is_behind face_id) (faces_segment n ns es) [] fs (map Layer ls ++ (map Feature ts ++ map Relation rs)) h.faces.range (ascends_on FaceRow face_id [] fs h.faces.ascend) layers in
    let behind = map Face fs ++ (map Layer ls ++ (map Feature ts ++ map Relation rs)) in
    let edges = segment EdgeRow (λ l. front n ns l false [] [] [] []) Edge is_edge_row (is_behind edge_id) (edges_segment n ns) [] es (Universal ∷ behind) h.edges.range (ascends_on EdgeRow edge_id [] es h.edges.ascend) (refl, refl, faces) in
    segment NodeRow (λ l. front n l [] false [] [] [] []) Node is_node_row (is_behind node_id) (nodes_segment n) [] ns (map Edge es ++ (Universal ∷ behind)) h.nodes.range (ascends_on NodeRow node_id [] ns h.nodes.ascend) edges

pub dump_leads : (r : RawTables) → reach (begun r.next) (rows_of (whole r)) ≡ whole r
dump_leads r =
    let n = r.next in
    let ns = r.nodes in
    let es = r.edges in
    let fs = r.faces in
    let ls = r.layers in
    let ts = r.features in
    let rs = r.relations in
    let behind = map Face fs ++ (map Layer ls ++ (map Feature ts ++ map Relation rs)) in
    leads NodeRow (λ l. front n l [] false [] [] [] []) Node is_node_row (is_behind node_id) (nodes_segment n) [] ns (map Edge es ++ (Universal ∷ behind))
    ∙ leads EdgeRow (λ l. front n ns l false [] [] [] []) Edge is_edge_row (is_behind edge_id) (edges_segment n ns) [] es (Universal ∷ behind)
    ∙ leads FaceRow (λ l. front n ns es true l [] [] []) Face is_face_row (is_behind face_id) (faces_segment n ns es) [] fs (map Layer ls ++ (map Feature ts ++ map Relation rs))
    ∙ leads LayerRow (λ l. front n ns es true fs l [] []) Layer is_layer_row (is_behind layer_id) (layers_segment n ns es fs) [] ls (map Feature ts ++ map Relation rs)
    ∙ leads FeatureRow (λ l. front n ns es true fs ls l []) Feature is_feature_row (is_behind feature_id) (features_segment n ns es fs ls) [] ts (map Relation rs)
    ∙ ap (reach (front n ns es true fs ls ts [])) (sym (append-nil (map Relation rs)))
    ∙ leads RelationRow (λ l. front n ns es true fs ls ts l) Relation is_relation_row is_relation_behind (relations_segment n ns es fs ls ts) [] rs []

-- ---- one row more
pub record IsFront (f : Front) : Type 0 where
  pub dumped : IsDumped f.raw
  pub none : f.has_face_0 ≡ false → (f.raw.faces ≡ []) × (f.raw.layers ≡ []) × (f.raw.features ≡ []) × (f.raw.relations ≡ [])

pub begun_front : (n : Counters) → IsTrue (is_counters n) → IsFront (begun n)
begun_front n h =
    record {
      dumped = record {
        next = h;
        nodes = record { range = refl; ascend = refl };
        edges = record { range = refl; ascend = refl };
        faces = record { range = refl; ascend = refl };
        layers = record { range = refl; ascend = refl };
        features = record { range = refl; ascend = refl };
        relations = refl;
        order = refl;
      };
      none = λ e. (refl, refl, refl, refl);
    }

pushed : (R : Type 0) (good : R → Bool) (number : R → ℕ) (xs : List R) (x : R) → AreRows good number xs → IsTrue (good x) → IsTrue (is_behind number xs x) → AreRows good number (xs ++ x ∷ [])
pushed R good number xs x h g b =
    record {
      range = list_all-append good xs (x ∷ []) ∙ and_from (list_all good xs) (good x && true) h.range (and_from (good x) true g refl);
      ascend = ascend_push number 0 xs x h.ascend b;
    }

from_none : (A : Type 0) (xs : List A) → IsTrue (is_none xs) → xs ≡ []
from_none A [] h = refl
from_none A (x ∷ xs) h = absurd cc

from_not : (b : Bool) → IsTrue (not b) → b ≡ false
from_not true h = absurd cc
from_not false h = refl

abbrev Grows : Front → DumpRow → Type 0
Grows f x = IsFront (with_row f x) × (rows_of (with_row f x) ≡ rows_of f ++ x ∷ [])

no_face : {A : Type 0} (b : Bool) → IsTrue b → b ≡ false → A
no_face b h e = absurd (true≢false (sym h ∙ e))

node_more : (ns : List NodeRow) (n : NodeRow) → rows (ns ++ n ∷ []) [] false [] [] [] [] ≡ rows ns [] false [] [] [] [] ++ Node n ∷ []
node_more ns n = simp (map-append, append-nil)

edge_more : (ns : List NodeRow) (es : List EdgeRow) (e : EdgeRow) → rows ns (es ++ e ∷ []) false [] [] [] [] ≡ rows ns es false [] [] [] [] ++ Edge e ∷ []
edge_more ns es e = simp (map-append, append-nil, append_assoc)

universal_more : (ns : List NodeRow) (es : List EdgeRow) → rows ns es true [] [] [] [] ≡ rows ns es false [] [] [] [] ++ Universal ∷ []
universal_more ns es = simp (append-nil, append_assoc)

face_more : (ns : List NodeRow) (es : List EdgeRow) (b : Bool) (fs : List FaceRow) (f : FaceRow) → rows ns es b (fs ++ f ∷ []) [] [] [] ≡ rows ns es b fs [] [] [] ++ Face f ∷ []
face_more ns es b fs f = simp (map-append, append-nil, append_assoc)

layer_more : (ns : List NodeRow) (es : List EdgeRow) (b : Bool) (fs : List FaceRow) (ls : List LayerRow) (l : LayerRow) → rows ns es b fs (ls ++ l ∷ []) [] [] ≡ rows ns es b fs ls [] [] ++ Layer l ∷ []
layer_more ns es b fs ls l = simp (map-append, append-nil, append_assoc)

feature_more : (ns : List NodeRow) (es : List EdgeRow) (b : Bool) (fs : List FaceRow) (ls : List LayerRow) (ts : List FeatureRow) (t : FeatureRow) → rows ns es b fs ls (ts ++ t ∷ []) [] ≡ rows ns es b fs ls ts [] ++ Feature t ∷ []
feature_more ns es b fs ls ts t = simp (map-append, append-nil, append_assoc)

relation_more : (ns : List NodeRow) (es : List EdgeRow) (b : Bool) (fs : List FaceRow) (ls : List LayerRow) (ts : List FeatureRow) (rs : List RelationRow) (r : RelationRow) → rows ns es b fs ls ts (rs ++ r ∷ []) ≡ rows ns es b fs ls ts rs ++ Relation r ∷ []
relation_more ns es b fs ls ts rs r = simp (map-append, append_assoc)

pub grow : (f : Front) (x : DumpRow) → IsFront f → IsTrue (is_row x) → IsTrue (may_follow f x) → Grows f x
grow f (Node n) h good may =
    let r = f.raw in
    let d = h.dumped in
    let a = and_parts (is_none r.edges) _ may in
    let b = and_parts (not f.has_face_0) (is_behind node_id r.nodes n) a.1 in
    let no = from_not f.has_face_0 b.0 in
    let empty = h.none no in
    let es = from_none EdgeRow r.edges a.0 in (
      record {
        dumped = record {
          next = d.next;
          nodes = pushed NodeRow is_node_row node_id r.nodes n d.nodes good b.1;
          edges = d.edges;
          faces = d.faces;
          layers = d.layers;
          features = d.features;
          relations = d.relations;
          order = d.order;
        };
        none = h.none;
      },
      (λ i. rows (r.nodes ++ n ∷ []) (es i) (no i) (empty.0 i) (empty.1 i) (empty.2 i) (empty.3 i)) ∙ node_more r.nodes n
          ∙ (λ i. rows r.nodes (sym es i) (sym no i) (sym empty.0 i) (sym empty.1 i) (sym empty.2 i) (sym empty.3 i) ++ Node n ∷ []),
    )
grow f (Edge e) h good may =
    let r = f.raw in
    let d = h.dumped in
    let a = and_parts (not f.has_face_0) (is_behind edge_id r.edges e) may in
    let no = from_not f.has_face_0 a.0 in
    let empty = h.none no in (
      record {
        dumped = record {
          next = d.next;
          nodes = d.nodes;
          edges = pushed EdgeRow is_edge_row edge_id r.edges e d.edges good a.1;
          faces = d.faces;
          layers = d.layers;
          features = d.features;
          relations = d.relations;
          order = d.order;
        };
        none = h.none;
      },
      (λ i. rows r.nodes (r.edges ++ e ∷ []) (no i) (empty.0 i) (empty.1 i) (empty.2 i) (empty.3 i)) ∙ edge_more r.nodes r.edges e
          ∙ (λ i. rows r.nodes r.edges (sym no i) (sym empty.0 i) (sym empty.1 i) (sym empty.2 i) (sym empty.3 i) ++ Edge e ∷ []),
    )
grow f Universal h good may =
    let r = f.raw in
    let no = from_not f.has_face_0 may in
    let empty = h.none no in (
      record { dumped = h.dumped; none = λ e. no_face true refl e },
      (λ i. rows r.nodes r.edges true (empty.0 i) (empty.1 i) (empty.2 i) (empty.3 i)) ∙ universal_more r.nodes r.edges
          ∙ (λ i. rows r.nodes r.edges (sym no i) (sym empty.0 i) (sym empty.1 i) (sym empty.2 i) (sym empty.3 i) ++ Universal ∷ []),
    )
grow f (Face x) h good may =
    let r = f.raw in
    let d = h.dumped in
    let a = and_parts f.has_face_0 _ may in
    let b = and_parts (is_none r.layers) _ a.1 in
    let c = and_parts (is_none r.features) _ b.1 in
    let k = and_parts (is_none r.relations) (is_behind face_id r.faces x) c.1 in
    let ls = from_none LayerRow r.layers b.0 in
    let ts = from_none FeatureRow r.features c.0 in
    let rs = from_none RelationRow r.relations k.0 in (
      record {
        dumped = record {
          next = d.next;
          nodes = d.nodes;
          edges = d.edges;
          faces = pushed FaceRow is_face_row face_id r.faces x d.faces good k.1;
          layers = d.layers;
          features = d.features;
          relations = d.relations;
          order = d.order;
        };
        none = λ e. no_face f.has_face_0 a.0 e;
      },
      (λ i. rows r.nodes r.edges f.has_face_0 (r.faces ++ x ∷ []) (ls i) (ts i) (rs i)) ∙ face_more r.nodes r.edges f.has_face_0 r.faces x
          ∙ (λ i. rows r.nodes r.edges f.has_face_0 r.faces (sym ls i) (sym ts i) (sym rs i) ++ Face x ∷ []),
    )
grow f (Layer l) h good may =
    let r = f.raw in
    let d = h.dumped in
    let a = and_parts f.has_face_0 _ may in
    let c = and_parts (is_none r.features) _ a.1 in
    let k = and_parts (is_none r.relations) (is_behind layer_id r.layers l) c.1 in
    let ts = from_none FeatureRow r.features c.0 in
    let rs = from_none RelationRow r.relations k.0 in (
      record {
        dumped = record {
          next = d.next;
          nodes = d.nodes;
          edges = d.edges;
          faces = d.faces;
          layers = pushed LayerRow is_layer_row layer_id r.layers l d.layers good k.1;
          features = d.features;
          relations = d.relations;
          order = d.order;
        };
        none = λ e. no_face f.has_face_0 a.0 e;
      },
      (λ i. rows r.nodes r.edges f.has_face_0 r.faces (r.layers ++ l ∷ []) (ts i) (rs i)) ∙ layer_more r.nodes r.edges f.has_face_0 r.faces r.layers l
          ∙ (λ i. rows r.nodes r.edges f.has_face_0 r.faces r.layers (sym ts i) (sym rs i) ++ Layer l ∷ []),
    )
grow f (Feature t) h good may =
    let r = f.raw in
    let d = h.dumped in
    let a = and_parts f.has_face_0 _ may in
    let k = and_parts (is_none r.relations) (is_behind feature_id r.features t) a.1 in
    let rs = from_none RelationRow r.relations k.0 in (
      record {
        dumped = record {
          next = d.next;
          nodes = d.nodes;
          edges = d.edges;
          faces = d.faces;
          layers = d.layers;
          features = pushed FeatureRow is_feature_row feature_id r.features t d.features good k.1;
          relations = d.relations;
          order = d.order;
        };
        none = λ e. no_face f.has_face_0 a.0 e;
      },
      (λ i. rows r.nodes r.edges f.has_face_0 r.faces r.layers (r.features ++ t ∷ []) (rs i)) ∙ feature_more r.nodes r.edges f.has_face_0 r.faces r.layers r.features t
          ∙ (λ i. rows r.nodes r.edges f.has_face_0 r.faces r.layers r.features (sym rs i) ++ Feature t ∷ []),
    )
grow f (Relation x) h good may =
    let r = f.raw in
    let d = h.dumped in
    let a = and_parts f.has_face_0 (is_relation_behind r.relations x) may in (
      record {
        dumped = record {
          next = d.next;
          nodes = d.nodes;
          edges = d.edges;
          faces = d.faces;
          layers = d.layers;
          features = d.features;
          relations = list_all-append is_relation_row r.relations (x ∷ []) ∙ and_from (list_all is_relation_row r.relations) (is_relation_row x && true) d.relations (and_from (is_relation_row x) true good refl);
          order = relations_push None r.relations x d.order a.1;
        };
        none = λ e. no_face f.has_face_0 a.0 e;
      },
      relation_more r.nodes r.edges f.has_face_0 r.faces r.layers r.features r.relations x,
    )

pub grown : (f : Front) (xs : List DumpRow) → IsFront f → Follow f xs → IsFront (reach f xs) × (rows_of (reach f xs) ≡ rows_of f ++ xs)
grown f [] h k = (h, sym (append-nil (rows_of f)))
grown f (x ∷ xs) h k =
    let one = grow f x h k.0 k.1 in
    let rest = grown (with_row f x) xs one.0 k.2 in
    (rest.0, rest.1 ∙ ap (λ l. l ++ xs) one.1 ∙ append_assoc (rows_of f) (x ∷ []) xs)
