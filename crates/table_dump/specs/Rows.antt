-- The rows of a dump, read from the words of their lines.
use Rattle.std.specs.Prelude.{ℕ, Bool, false, ◌&&◌, List, [], ◌∷◌, Option, Some, None, option_and_then, if◌then◌else◌, codes}
use Rattle.std.specs.Str.{bytes_eq}
use Rattle.topo_base.specs.Point.{Point}
use Rattle.topo_base.specs.declared.ids.Dart.{Dart}
use Rattle.topo_base.specs.declared.kind.Kind.{Kind}
use Rattle.topo_base.specs.declared.rows.NodeRow.{NodeRow}
use Rattle.topo_base.specs.declared.rows.EdgeRow.{EdgeRow}
use Rattle.topo_base.specs.declared.rows.FaceRow.{FaceRow}
use Rattle.topo_base.specs.declared.rows.Box4.{Box4}
use Rattle.topo_base.specs.declared.rows.LayerRow.{LayerRow}
use Rattle.topo_base.specs.declared.rows.FeatureRow.{FeatureRow}
use Rattle.topo_base.specs.declared.rows.RelationRow.{RelationRow}
use Rattle.topo_base.specs.declared.rows.Counters.{Counters}
use Rattle.table_dump.specs.Words.{Reads, made, both, whole, named_at, own_at, next_at, option_at, dart_at, point_at, line_at, box_at, kind_at, name_at}

-- a row of a dump; face 0 stands before the other faces
pub data DumpRow : Type 0 where
  Node : NodeRow → DumpRow
  Edge : EdgeRow → DumpRow
  Universal : DumpRow
  Face : FaceRow → DumpRow
  Layer : LayerRow → DumpRow
  Feature : FeatureRow → DumpRow
  Relation : RelationRow → DumpRow

-- the next ids, and the rows of each kind, from the words behind the first
abbrev pub counters_of : ℕ × (ℕ × (ℕ × (ℕ × ℕ))) → Counters
counters_of p = record { node = p.0; edge = p.1.0; face = p.1.1.0; layer = p.1.1.1.0; feature = p.1.1.1.1 }

unfoldable pub counters_at : Reads Counters
counters_at = made counters_of (both next_at (both next_at (both next_at (both next_at next_at))))

abbrev pub node_of : ℕ × (Option ℕ × Point) → NodeRow
node_of p = record { node_id = p.0; containing_face = p.1.0; geom = p.1.1 }

unfoldable pub node_at : Reads NodeRow
node_at = made node_of (both own_at (both option_at point_at))

abbrev pub edge_of : ℕ × (ℕ × (ℕ × (Dart × (Dart × (ℕ × (ℕ × List Point)))))) → EdgeRow
edge_of p =
    record {
      edge_id = p.0;
      start_node = p.1.0;
      end_node = p.1.1.0;
      next_left_edge = p.1.1.1.0;
      next_right_edge = p.1.1.1.1.0;
      left_face = p.1.1.1.1.1.0;
      right_face = p.1.1.1.1.1.1.0;
      geom = p.1.1.1.1.1.1.1;
    }

unfoldable pub edge_at : Reads EdgeRow
edge_at = made edge_of (both own_at (both named_at (both named_at (both dart_at (both dart_at (both named_at (both named_at line_at)))))))

abbrev pub face_of : ℕ × Box4 → FaceRow
face_of p = record { face_id = p.0; mbr = Some p.1 }

unfoldable pub face_at : Reads FaceRow
face_at = made face_of (both own_at box_at)

abbrev pub layer_of : ℕ × (ℕ × (Option ℕ × (Kind × List ℕ))) → LayerRow
layer_of p = record { layer_id = p.0; level = p.1.0; child_id = p.1.1.0; feature_type = p.1.1.1.0; name = p.1.1.1.1 }

unfoldable pub layer_at : Reads LayerRow
layer_at = made layer_of (both own_at (both named_at (both option_at (both kind_at name_at))))

abbrev pub feature_of : ℕ × ℕ → FeatureRow
feature_of p = record { feature_id = p.0; layer_id = p.1 }

unfoldable pub feature_at : Reads FeatureRow
feature_at = made feature_of (both own_at named_at)

abbrev pub relation_of : ℕ × (ℕ × (ℕ × ℕ)) → RelationRow
relation_of p = record { topogeo_id = p.0; layer_id = p.1.0; element_id = p.1.1.0; element_type = p.1.1.1 }

unfoldable pub relation_at : Reads RelationRow
relation_at = made relation_of (both named_at (both named_at (both named_at named_at)))

-- the only words of a line
abbrev pub alone : {A : Type 0} → Reads A → List (List ℕ) → Option A
alone read words = option_and_then whole (read words)

abbrev pub alone_as : {A : Type 0} → (A → DumpRow) → Reads A → List (List ℕ) → Option DumpRow
alone_as make read words = option_and_then (λ x. Some (make x)) (alone read words)

-- the words of face 0 behind the first
abbrev pub is_universal : List (List ℕ) → Bool
is_universal [] = false
is_universal (a ∷ []) = false
is_universal (a ∷ b ∷ []) = bytes_eq a (codes "0") && bytes_eq b (codes "-")
is_universal (a ∷ b ∷ c ∷ words) = false

unfoldable pub face_in : List (List ℕ) → Option DumpRow
face_in words = if is_universal words then Some Universal else alone_as Face face_at words

-- the next ids of the words of the first line, and the row of those of another one
unfoldable pub next_in : List (List ℕ) → Option Counters
next_in [] = None
next_in (word ∷ words) = if bytes_eq word (codes "next") then alone counters_at words else None

unfoldable pub named_row : List ℕ → List (List ℕ) → Option DumpRow
named_row word words =
    if bytes_eq word (codes "node") then alone_as Node node_at words
    else (if bytes_eq word (codes "edge") then alone_as Edge edge_at words
    else (if bytes_eq word (codes "face") then face_in words
    else (if bytes_eq word (codes "layer") then alone_as Layer layer_at words
    else (if bytes_eq word (codes "feature") then alone_as Feature feature_at words
    else (if bytes_eq word (codes "relation") then alone_as Relation relation_at words
    else None)))))

unfoldable pub row_in : List (List ℕ) → Option DumpRow
row_in [] = None
row_in (word ∷ words) = named_row word words
