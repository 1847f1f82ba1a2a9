-- The lines that are printed for tables are those of their next ids and of their rows.
use Rattle.std.proofs.Common.{◌≡◌, ℕ, List, [], ◌∷◌, ◌++◌, map, flat_map, IsTrue, arith, refl, sym, ap, ◌∙◌, append_assoc, append-nil}
use Rattle.std.specs.List.{list_all}
use Rattle.std.proofs.lemmas.Bool.{and_from}
use Rattle.std.proofs.lemmas.List.Concat.{flat_map-append}
use Rattle.std.proofs.lemmas.List.Folds.{flat_map-map}
use Rattle.std.specs.Prelude.{codes}
use Rattle.drawing.specs.Tables.{universal_face}
use Rattle.script_model.specs.Words.{line_of}
use Rattle.script_model.specs.Texts.{next_text, node_text, edge_text, face_text, layer_text, feature_text, relation_text, rows_text}
use Rattle.validate_topology.specs.Raw.{tables_in}
use Rattle.validate_topology.specs.declared.raw.RawTables.{RawTables}
use Rattle.table_dump.specs.Dump.{IsDumped, dump_lines}
use Rattle.table_dump.specs.Lines.{lines_of}
use Rattle.table_dump.specs.Rows.{DumpRow, Node, Edge, Universal, Face, Layer, Feature, Relation}
use Rattle.table_dump.specs.Steps.{Front, begun}
use Rattle.table_dump.proofs.Numbers.{digit_word}
use Rattle.table_dump.proofs.RowLaws.{is_row, row_words, next_words}
use Rattle.table_dump.proofs.Spellings.{row_are_words, next_are_words}
use Rattle.table_dump.proofs.Lines.{line_apart, lines_apart}
use Rattle.table_dump.proofs.Follow.{Follow, row_line, next_line}
use Rattle.table_dump.proofs.Segments.{rows_of, whole, dump_follows}

abbrev row_text : DumpRow → List ℕ
row_text x = line_of (row_words x)

all_good : (f : Front) (xs : List DumpRow) → Follow f xs → IsTrue (list_all is_row xs)
all_good f [] h = refl
all_good f (x ∷ xs) h = and_from (is_row x) (list_all is_row xs) h.0 (all_good _ xs h.2)

-- face 0
universal_text : row_text Universal ≡ face_text universal_face
universal_text = ap (λ w. line_of (codes "face" ∷ w ∷ codes "-" ∷ [])) (sym (digit_word 0 (omega arith)))

-- the printed text, row by row
rows_printed : (r : RawTables) → flat_map row_text (rows_of (whole r))
    ≡ flat_map node_text r.nodes ++ (flat_map edge_text r.edges ++ (face_text universal_face ++ (flat_map face_text r.faces ++ (flat_map layer_text r.layers ++ (flat_map feature_text r.features ++ flat_map relation_text r.relations)))))
rows_printed r =
    flat_map-append row_text (map Node r.nodes) _ ∙ (λ i. flat_map-map row_text Node r.nodes i ++ edges i)
  where
    relations : flat_map row_text (map Relation r.relations) ≡ flat_map relation_text r.relations
    relations = flat_map-map row_text Relation r.relations

    features : flat_map row_text (map Feature r.features ++ map Relation r.relations) ≡ flat_map feature_text r.features ++ flat_map relation_text r.relations
    features = flat_map-append row_text (map Feature r.features) (map Relation r.relations) ∙ (λ i. flat_map-map row_text Feature r.features i ++ relations i)

    layers : flat_map row_text (map Layer r.layers ++ (map Feature r.features ++ map Relation r.relations)) ≡ flat_map layer_text r.layers ++ (flat_map feature_text r.features ++ flat_map relation_text r.relations)
    layers = flat_map-append row_text (map Layer r.layers) (map Feature r.features ++ map Relation r.relations) ∙ (λ i. flat_map-map row_text Layer r.layers i ++ features i)

    faces : flat_map row_text (map Face r.faces ++ (map Layer r.layers ++ (map Feature r.features ++ map Relation r.relations))) ≡ flat_map face_text r.faces ++ (flat_map layer_text r.layers ++ (flat_map feature_text r.features ++ flat_map relation_text r.relations))
    faces = flat_map-append row_text (map Face r.faces) (map Layer r.layers ++ (map Feature r.features ++ map Relation r.relations)) ∙ (λ i. flat_map-map row_text Face r.faces i ++ layers i)

    edges : flat_map row_text (map Edge r.edges ++ (Universal ∷ (map Face r.faces ++ (map Layer r.layers ++ (map Feature r.features ++ map Relation r.relations))))) ≡ flat_map edge_text r.edges ++ (face_text universal_face ++ (flat_map face_text r.faces ++ (flat_map layer_text r.layers ++ (flat_map feature_text r.features ++ flat_map relation_text r.relations))))
    edges = flat_map-append row_text (map Edge r.edges) (Universal ∷ (map Face r.faces ++ (map Layer r.layers ++ (map Feature r.features ++ map Relation r.relations)))) ∙ (λ i. flat_map-map row_text Edge r.edges i ++ (universal_text i ++ faces i))

text_printed : (r : RawTables) → rows_text (tables_in r) ≡ next_text r.next ++ flat_map row_text (rows_of (whole r))
text_printed r =
    joined (next_text r.next) (flat_map node_text r.nodes) (flat_map edge_text r.edges) (face_text universal_face) (flat_map face_text r.faces) (flat_map layer_text r.layers) (flat_map feature_text r.features) (flat_map relation_text r.relations)
    ∙ ap (λ l. next_text r.next ++ l) (sym (rows_printed r))
  where
    joined : (a b c d e f g h : List ℕ) → a ++ b ++ c ++ (d ++ e) ++ f ++ g ++ h ≡ a ++ (b ++ (c ++ (d ++ (e ++ (f ++ (g ++ h))))))
    joined a b c d e f g h = simp append_assoc

pub printed : (r : RawTables) → IsDumped r → dump_lines r ≡ next_line r.next ∷ map row_line (rows_of (whole r))
printed r h =
    let xs = rows_of (whole r) in
    let good = all_good (begun r.next) xs (dump_follows r h) in
    ap lines_of (text_printed r) ∙ line_apart (next_words r.next) (flat_map row_text xs) (next_are_words r.next h.next)
    ∙ ap (λ ls. next_line r.next ∷ ls) (ap lines_of (sym (append-nil (flat_map row_text xs))) ∙ lines_apart is_row row_words row_are_words xs [] good ∙ append-nil (map row_line xs))
