-- The rows of a dump are read from their words, and from no others.
use Rattle.std.proofs.Common.{◌≡◌, inl, inr, ℕ, Bool, true, false, ◌&&◌, cond, IsTrue, List, [], ◌∷◌, ◌++◌, Option, Some, None, option_and_then, refl, sym, ap, subst, ◌∙◌}
use Rattle.std.specs.Prelude.{codes}
use Rattle.std.specs.Fmt.{decimal}
use Rattle.std.specs.Str.{bytes_eq}
use Rattle.std.proofs.lemmas.Bool.{and_parts}
use Rattle.topo_base.specs.Names.{is_name}
use Rattle.topo_base.specs.Kinds.{kind_number}
use Rattle.topo_base.specs.Point.{Point}
use Rattle.topo_base.specs.declared.ids.Dart.{Dart}
use Rattle.topo_base.specs.declared.kind.Kind.{Kind}
use Rattle.topo_base.specs.declared.rows.NodeRow.{NodeRow}
use Rattle.topo_base.specs.declared.rows.EdgeRow.{EdgeRow}
use Rattle.topo_base.specs.declared.rows.FaceRow.{FaceRow}
use Rattle.topo_base.specs.declared.rows.Box4.{Box4}
use Rattle.topo_base.specs.declared.rows.LayerRow.{LayerRow}
use Rattle.topo_base.specs.declared.rows.FeatureRow.{FeatureRow}
use Rattle.topo_base.specs.declared.rows.RelationRow.{RelationRow}
use Rattle.topo_base.specs.declared.rows.Counters.{Counters}
use Rattle.drawing.specs.InRange.{is_grid_point}
use Rattle.script_model.specs.Words.{option_word, dart_word, point_words, line_words}
use Rattle.script_model.specs.Texts.{edge_words, box_words}
use Rattle.table_dump.specs.Dump.{is_named, is_own, is_next, is_option_named, is_dart, is_line, is_box, is_counters, is_node_row, is_edge_row, is_face_row, is_layer_row, is_feature_row, is_relation_row}
use Rattle.table_dump.specs.Words.{Reads, both, whole, named_at, own_at, next_at, option_at, dart_at, point_at, line_at, box_at, kind_at, name_at}
use Rattle.table_dump.specs.Rows.{DumpRow, Node, Edge, Universal, Face, Layer, Feature, Relation, counters_of, counters_at, node_of, node_at, edge_of, edge_at, face_of, face_at, layer_of, layer_at, feature_of, feature_at, relation_of, relation_at, alone, alone_as, is_universal, face_in, next_in, named_row, row_in}
use Rattle.table_dump.proofs.Loops.{then_read, found, same_found}
use Rattle.table_dump.proofs.FieldLaws.{IsField, both_field}
use Rattle.table_dump.proofs.Numbers.{chosen, from_bytes, any_kind, kind_word, same_word}
use Rattle.table_dump.proofs.WordLaws.{one, made_field, named_field, own_field, next_field, option_field, dart_field, kind_field, name_field, point_field, line_spell, line_field, is_good_box, box_spell, box_field}

-- ---- two fields and more, each one word but the last
both_of : (A B : Type 0) (good : A → Bool) (good' : B → Bool) (spell : A → List (List ℕ)) (spell' : B → List (List ℕ)) (first : Reads A) (next : Reads B) → IsField A good spell first → IsField B good' spell' next
    → IsField (A × B) (λ x. good x.0 && good' x.1) (λ x. spell x.0 ++ spell' x.1) (both first next)
both_of = both_field

-- ---- the only words of a line
whole_read : (A : Type 0) (x : A × List (List ℕ)) (y : A) → whole x ≡ Some y → x ≡ (y, [])
whole_read A (x, []) y e = ap (λ z. (z, [])) (same_found x y e)
whole_read A (x, w ∷ ws) y e = absurd cc

pub record IsAlone (A : Type 0) (good : A → Bool) (spell : A → List (List ℕ)) (read : Reads A) : Type 0 where
  pub takes : (words : List (List ℕ)) (x : A) → alone read words ≡ Some x → IsTrue (good x) × (words ≡ spell x)
  pub again : (x : A) → IsTrue (good x) → alone read (spell x) ≡ Some x

append_none : (xs : List (List ℕ)) → xs ++ [] ≡ xs
append_none [] = refl
append_none (x ∷ xs) = ap (λ ys. x ∷ ys) (append_none xs)

pub alone_field : (A : Type 0) (good : A → Bool) (spell : A → List (List ℕ)) (read : Reads A) → IsField A good spell read → IsAlone A good spell read
alone_field A good spell read f =
    record {
      takes = λ words x e.
          let first = then_read (read words) whole x e in
          let same = whole_read A first.0 x first.2 in
          let t = f.takes words x [] (first.1 ∙ ap (λ y. Some y) same) in
          (t.0, t.1 ∙ append_none (spell x));
      again = λ x h.
          let read_again = ap read (sym (append_none (spell x))) ∙ f.again x [] h in
          ap (option_and_then whole) read_again;
    }

-- ---- the next ids
abbrev pub counters_spell : Counters → List (List ℕ)
counters_spell n = decimal n.node ∷ decimal n.edge ∷ decimal n.face ∷ decimal n.layer ∷ decimal n.feature ∷ []

abbrev counters_parts : Counters → ℕ × (ℕ × (ℕ × (ℕ × ℕ)))
counters_parts n = (n.node, (n.edge, (n.face, (n.layer, n.feature))))

counters_field : IsField Counters is_counters counters_spell counters_at
unfolding counters_at
counters_field =
    let n = next_field in
    let two = both_field ℕ ℕ is_next is_next (one decimal) (one decimal) next_at next_at n n in
    let three = both_field ℕ (ℕ × ℕ) is_next _ (one decimal) _ next_at (both next_at next_at) n two in
    let four = both_field ℕ (ℕ × (ℕ × ℕ)) is_next _ (one decimal) _ next_at (both next_at (both next_at next_at)) n three in
    let five = both_field ℕ (ℕ × (ℕ × (ℕ × ℕ))) is_next _ (one decimal) _ next_at (both next_at (both next_at (both next_at next_at))) n four in
    made_field (ℕ × (ℕ × (ℕ × (ℕ × ℕ)))) Counters _ _ (both next_at (both next_at (both next_at (both next_at next_at)))) five counters_of counters_parts (λ x. refl) (λ y. refl)

-- ---- nodes
abbrev pub node_spell : NodeRow → List (List ℕ)
node_spell n = decimal n.node_id ∷ option_word n.containing_face ∷ point_words n.geom

abbrev node_parts : NodeRow → ℕ × (Option ℕ × Point)
node_parts n = (n.node_id, (n.containing_face, n.geom))

node_field : IsField NodeRow is_node_row node_spell node_at
unfolding node_at
node_field =
    let two = both_field (Option ℕ) Point is_option_named is_grid_point (one option_word) point_words option_at point_at option_field point_field in
    let three = both_field ℕ (Option ℕ × Point) is_own _ (one decimal) _ own_at (both option_at point_at) own_field two in
    made_field (ℕ × (Option ℕ × Point)) NodeRow _ _ (both own_at (both option_at point_at)) three node_of node_parts (λ x. refl) (λ y. refl)

-- ---- edges
abbrev pub edge_spell : EdgeRow → List (List ℕ)
edge_spell e = edge_words e ++ line_words e.geom

abbrev edge_parts : EdgeRow → ℕ × (ℕ × (ℕ × (Dart × (Dart × (ℕ × (ℕ × List Point))))))
edge_parts e = (e.edge_id, (e.start_node, (e.end_node, (e.next_left_edge, (e.next_right_edge, (e.left_face, (e.right_face, e.geom)))))))

edge_field : IsField EdgeRow is_edge_row edge_spell edge_at
unfolding edge_at
edge_field =
    let two = both_field ℕ (List Point) is_named is_line (one decimal) line_spell named_at line_at named_field line_field in
    let three = both_field ℕ (ℕ × List Point) is_named _ (one decimal) _ named_at (both named_at line_at) named_field two in
    let four = both_field Dart (ℕ × (ℕ × List Point)) is_dart _ (one dart_word) _ dart_at (both named_at (both named_at line_at)) dart_field three in
    let five = both_field Dart (Dart × (ℕ × (ℕ × List Point))) is_dart _ (one dart_word) _ dart_at (both dart_at (both named_at (both named_at line_at))) dart_field four in
    let six = both_field ℕ (Dart × (Dart × (ℕ × (ℕ × List Point)))) is_named _ (one decimal) _ named_at (both dart_at (both dart_at (both named_at (both named_at line_at)))) named_field five in
    let seven = both_field ℕ (ℕ × (Dart × (Dart × (ℕ × (ℕ × List Point))))) is_named _ (one decimal) _ named_at (both named_at (both dart_at (both dart_at (both named_at (both named_at line_at))))) named_field six in
    let eight = both_field ℕ (ℕ × (ℕ × (Dart × (Dart × (ℕ × (ℕ × List Point)))))) is_own _ (one decimal) _ own_at (both named_at (both named_at (both dart_at (both dart_at (both named_at (both named_at line_at)))))) own_field seven in
    made_field (ℕ × (ℕ × (ℕ × (Dart × (Dart × (ℕ × (ℕ × List Point))))))) EdgeRow _ _ (both own_at (both named_at (both named_at (both dart_at (both dart_at (both named_at (both named_at line_at))))))) eight edge_of edge_parts (λ x. refl) (λ y. refl)

-- ---- layers, features and relation rows
abbrev pub layer_spell : LayerRow → List (List ℕ)
layer_spell l = decimal l.layer_id ∷ decimal l.level ∷ option_word l.child_id ∷ decimal (kind_number l.feature_type) ∷ l.name ∷ []

abbrev layer_parts : LayerRow → ℕ × (ℕ × (Option ℕ × (Kind × List ℕ)))
layer_parts l = (l.layer_id, (l.level, (l.child_id, (l.feature_type, l.name))))

layer_field : IsField LayerRow is_layer_row layer_spell layer_at
unfolding layer_at
layer_field =
    let two = both_field Kind (List ℕ) any_kind is_name (one kind_word) (one same_word) kind_at name_at kind_field name_field in
    let three = both_field (Option ℕ) (Kind × List ℕ) is_option_named _ (one option_word) _ option_at (both kind_at name_at) option_field two in
    let four = both_field ℕ (Option ℕ × (Kind × List ℕ)) is_named _ (one decimal) _ named_at (both option_at (both kind_at name_at)) named_field three in
    let five = both_field ℕ (ℕ × (Option ℕ × (Kind × List ℕ))) is_own _ (one decimal) _ own_at (both named_at (both option_at (both kind_at name_at))) own_field four in
    made_field (ℕ × (ℕ × (Option ℕ × (Kind × List ℕ)))) LayerRow _ _ (both own_at (both named_at (both option_at (both kind_at name_at)))) five layer_of layer_parts (λ x. refl) (λ y. refl)

abbrev pub feature_spell : FeatureRow → List (List ℕ)
feature_spell t = decimal t.feature_id ∷ decimal t.layer_id ∷ []

abbrev feature_parts : FeatureRow → ℕ × ℕ
feature_parts t = (t.feature_id, t.layer_id)

feature_field : IsField FeatureRow is_feature_row feature_spell feature_at
unfolding feature_at
feature_field =
    let two = both_field ℕ ℕ is_own is_named (one decimal) (one decimal) own_at named_at own_field named_field in
    made_field (ℕ × ℕ) FeatureRow _ _ (both own_at named_at) two feature_of feature_parts (λ x. refl) (λ y. refl)

abbrev pub relation_spell : RelationRow → List (List ℕ)
relation_spell r = decimal r.topogeo_id ∷ decimal r.layer_id ∷ decimal r.element_id ∷ decimal r.element_type ∷ []

abbrev relation_parts : RelationRow → ℕ × (ℕ × (ℕ × ℕ))
relation_parts r = (r.topogeo_id, (r.layer_id, (r.element_id, r.element_type)))

relation_field : IsField RelationRow is_relation_row relation_spell relation_at
unfolding relation_at
relation_field =
    let two = both_field ℕ ℕ is_named is_named (one decimal) (one decimal) named_at named_at named_field named_field in
    let three = both_field ℕ (ℕ × ℕ) is_named _ (one decimal) _ named_at (both named_at named_at) named_field two in
    let four = both_field ℕ (ℕ × (ℕ × ℕ)) is_named _ (one decimal) _ named_at (both named_at (both named_at named_at)) named_field three in
    made_field (ℕ × (ℕ × (ℕ × ℕ))) RelationRow _ _ (both named_at (both named_at (both named_at named_at))) four relation_of relation_parts (λ x. refl) (λ y. refl)

-- ---- faces
abbrev pub face_spell : FaceRow → List (List ℕ)
face_spell f = decimal f.face_id ∷ box_words f.mbr

face_takes : (words : List (List ℕ)) (f : FaceRow) (rest : List (List ℕ)) → face_at words ≡ Some (f, rest) → IsTrue (is_face_row f) × (words ≡ face_spell f ++ rest)
unfolding face_at
face_takes words f rest e =
    let two = both_field ℕ Box4 is_own is_good_box (one decimal) box_spell own_at box_at own_field box_field in
    let first = then_read (both own_at box_at words) (λ x. found (face_of x.0, x.1)) (f, rest) e in
    let t = two.takes words first.0.0 first.0.1 first.1 in
    let read : FaceRow × List (List ℕ) = (face_of first.0.0, first.0.1) in
    subst (λ (q : FaceRow × List (List ℕ)). IsTrue (is_face_row q.0) × (words ≡ face_spell q.0 ++ q.1)) (same_found read (f, rest) first.2) t

face_again : (id : ℕ) (mbr : Option Box4) (rest : List (List ℕ)) → IsTrue (is_own id && is_box mbr) → face_at ((decimal id ∷ box_words mbr) ++ rest) ≡ Some (record { face_id = id; mbr = mbr }, rest)
unfolding face_at
face_again id None rest h = absurd (no (and_parts (is_own id) false h).1)
  where
    no : IsTrue false → ⊥
    no e = cc
face_again id (Some b) rest h =
    let two = both_field ℕ Box4 is_own is_good_box (one decimal) box_spell own_at box_at own_field box_field in
    ap (option_and_then (λ (x : (ℕ × Box4) × List (List ℕ)). found (face_of x.0, x.1))) (two.again (id, b) rest h)

face_field : IsField FaceRow is_face_row face_spell face_at
face_field = record { takes = face_takes; again = λ f rest h. face_again f.face_id f.mbr rest h }

-- ---- the rows of all kinds
abbrev pub is_row : DumpRow → Bool
is_row (Node n) = is_node_row n
is_row (Edge e) = is_edge_row e
is_row Universal = true
is_row (Face f) = is_face_row f
is_row (Layer l) = is_layer_row l
is_row (Feature t) = is_feature_row t
is_row (Relation r) = is_relation_row r

abbrev pub row_words : DumpRow → List (List ℕ)
row_words (Node n) = codes "node" ∷ node_spell n
row_words (Edge e) = codes "edge" ∷ edge_spell e
row_words Universal = codes "face" ∷ codes "0" ∷ codes "-" ∷ []
row_words (Face f) = codes "face" ∷ face_spell f
row_words (Layer l) = codes "layer" ∷ layer_spell l
row_words (Feature t) = codes "feature" ∷ feature_spell t
row_words (Relation r) = codes "relation" ∷ relation_spell r

abbrev pub next_words : Counters → List (List ℕ)
next_words n = codes "next" ∷ counters_spell n

-- a row of one kind
kind_takes : (A : Type 0) (good : A → Bool) (spell : A → List (List ℕ)) (read : Reads A) → IsField A good spell read → (make : A → DumpRow) (word : List ℕ) → ((x : A) → is_row (make x) ≡ good x) → ((x : A) → row_words (make x) ≡ word ∷ spell x)
    → (w : List ℕ) (words : List (List ℕ)) (row : DumpRow) → w ≡ word → alone_as make read words ≡ Some row → IsTrue (is_row row) × (w ∷ words ≡ row_words row)
kind_takes A good spell read f make word goods words_are w words row is e =
    let first = then_read (alone read words) (λ x. found (make x)) row e in
    let t = (alone_field A good spell read f).takes words first.0 first.1 in
    subst (λ q. IsTrue (is_row q) × (w ∷ words ≡ row_words q)) (same_found (make first.0) row first.2)
    (goods first.0 ∙ t.0, (λ i. is i ∷ t.1 i) ∙ sym (words_are first.0))

kind_again : (A : Type 0) (good : A → Bool) (spell : A → List (List ℕ)) (read : Reads A) → IsField A good spell read → (make : A → DumpRow) (x : A) → IsTrue (good x) → alone_as make read (spell x) ≡ Some (make x)
kind_again A good spell read f make x h = ap (option_and_then (λ y. found (make y))) ((alone_field A good spell read f).again x h)

universal_words : (words : List (List ℕ)) → is_universal words ≡ true → words ≡ codes "0" ∷ codes "-" ∷ []
universal_words [] h = absurd cc
universal_words (a ∷ []) h = absurd cc
universal_words (a ∷ b ∷ []) h =
    let p = and_parts (bytes_eq a (codes "0")) (bytes_eq b (codes "-")) h in
    λ i. from_bytes a (codes "0") p.0 i ∷ from_bytes b (codes "-") p.1 i ∷ []
universal_words (a ∷ b ∷ c ∷ words) h = absurd cc

faces_take : (w : List ℕ) (words : List (List ℕ)) (row : DumpRow) → w ≡ codes "face" → face_in words ≡ Some row → IsTrue (is_row row) × (w ∷ words ≡ row_words row)
unfolding face_in
faces_take w words row is e =
    elim (chosen (is_universal words) (found Universal) (alone_as Face face_at words) (Some row) e) [
      | inl p ↦ subst (λ q. IsTrue (is_row q) × (w ∷ words ≡ row_words q)) (same_found Universal row p.1) (refl, λ i. is i ∷ universal_words words p.0 i)
      | inr p ↦ kind_takes FaceRow is_face_row face_spell face_at face_field Face (codes "face") (λ x. refl) (λ x. refl) w words row is p.1
    ]

pub named_takes : (w : List ℕ) (words : List (List ℕ)) (row : DumpRow) → named_row w words ≡ Some row → IsTrue (is_row row) × (w ∷ words ≡ row_words row)
unfolding named_row
named_takes w words row e =
    let none : Option DumpRow = None in
    let relation = cond (bytes_eq w (codes "relation")) (alone_as Relation relation_at words) none in
    let feature = cond (bytes_eq w (codes "feature")) (alone_as Feature feature_at words) relation in
    let layer = cond (bytes_eq w (codes "layer")) (alone_as Layer layer_at words) feature in
    let face = cond (bytes_eq w (codes "face")) (face_in words) layer in
    let edge = cond (bytes_eq w (codes "edge")) (alone_as Edge edge_at words) face in
    elim (chosen (bytes_eq w (codes "node")) (alone_as Node node_at words) edge (Some row) e) [
      | inl p ↦ kind_takes NodeRow is_node_row node_spell node_at node_field Node (codes "node") (λ x. refl) (λ x. refl) w words row (from_bytes w (codes "node") p.0) p.1
      | inr a ↦ elim (chosen (bytes_eq w (codes "edge")) (alone_as Edge edge_at words) face (Some row) a.1) [
        | inl p ↦ kind_takes EdgeRow is_edge_row edge_spell edge_at edge_field Edge (codes "edge") (λ x. refl) (λ x. refl) w words row (from_bytes w (codes "edge") p.0) p.1
        | inr b ↦ elim (chosen (bytes_eq w (codes "face")) (face_in words) layer (Some row) b.1) [
          | inl p ↦ faces_take w words row (from_bytes w (codes "face") p.0) p.1
          | inr c ↦ elim (chosen (bytes_eq w (codes "layer")) (alone_as Layer layer_at words) feature (Some row) c.1) [
            | inl p ↦ kind_takes LayerRow is_layer_row layer_spell layer_at layer_field Layer (codes "layer") (λ x. refl) (λ x. refl) w words row (from_bytes w (codes "layer") p.0) p.1
            | inr d ↦ elim (chosen (bytes_eq w (codes "feature")) (alone_as Feature feature_at words) relation (Some row) d.1) [
              | inl p ↦ kind_takes FeatureRow is_feature_row feature_spell feature_at feature_field Feature (codes "feature") (λ x. refl) (λ x. refl) w words row (from_bytes w (codes "feature") p.0) p.1
              | inr f ↦ elim (chosen (bytes_eq w (codes "relation")) (alone_as Relation relation_at words) none (Some row) f.1) [
                | inl p ↦ kind_takes RelationRow is_relation_row relation_spell relation_at relation_field Relation (codes "relation") (λ x. refl) (λ x. refl) w words row (from_bytes w (codes "relation") p.0) p.1
                | inr g ↦ absurd (cc g.1)
              ]
            ]
          ]
        ]
      ]
    ]

pub row_takes : (words : List (List ℕ)) (row : DumpRow) → row_in words ≡ Some row → IsTrue (is_row row) × (words ≡ row_words row)
unfolding row_in
row_takes [] row e = absurd cc
row_takes (w ∷ words) row e = named_takes w words row e

faces_again : (id : ℕ) (mbr : Option Box4) → IsTrue (is_own id && is_box mbr) → face_in (decimal id ∷ box_words mbr) ≡ Some (Face (record { face_id = id; mbr = mbr }))
unfolding face_in
faces_again id None h = absurd (no (and_parts (is_own id) false h).1)
  where
    no : IsTrue false → ⊥
    no e = cc
faces_again id (Some b) h = kind_again FaceRow is_face_row face_spell face_at face_field Face (record { face_id = id; mbr = Some b }) h

universal_again : face_in (codes "0" ∷ codes "-" ∷ []) ≡ Some Universal
unfolding face_in
universal_again = refl

pub row_again : (row : DumpRow) → IsTrue (is_row row) → row_in (row_words row) ≡ Some row
unfolding row_in named_row
row_again (Node n) h = kind_again NodeRow is_node_row node_spell node_at node_field Node n h
row_again (Edge e) h = kind_again EdgeRow is_edge_row edge_spell edge_at edge_field Edge e h
row_again Universal h = universal_again
row_again (Face f) h = faces_again f.face_id f.mbr h
row_again (Layer l) h = kind_again LayerRow is_layer_row layer_spell layer_at layer_field Layer l h
row_again (Feature t) h = kind_again FeatureRow is_feature_row feature_spell feature_at feature_field Feature t h
row_again (Relation r) h = kind_again RelationRow is_relation_row relation_spell relation_at relation_field Relation r h

-- ---- the first line
pub next_takes : (words : List (List ℕ)) (n : Counters) → next_in words ≡ Some n → IsTrue (is_counters n) × (words ≡ next_words n)
unfolding next_in
next_takes [] n e = absurd cc
next_takes (w ∷ words) n e =
    let none : Option Counters = None in
    elim (chosen (bytes_eq w (codes "next")) (alone counters_at words) none (Some n) e) [
      | inl p ↦
          let t = (alone_field Counters is_counters counters_spell counters_at counters_field).takes words n p.1 in
          (t.0, λ i. from_bytes w (codes "next") p.0 i ∷ t.1 i)
      | inr p ↦ absurd (cc p.1)
    ]

pub next_again : (n : Counters) → IsTrue (is_counters n) → next_in (next_words n) ≡ Some n
unfolding next_in
next_again n h = (alone_field Counters is_counters counters_spell counters_at counters_field).again n h
