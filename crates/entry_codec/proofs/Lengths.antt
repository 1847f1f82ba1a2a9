-- How long a spelling is at most.
use Rattle.std.proofs.Common.{◌≡◌, ℕ, ◌+◌, ◌*◌, ◌≤◌, ◌&&◌, List, [], ◌∷◌, length, flat_map, IsTrue, Option, Some, None, nat_le, refl, arith, length-append, leb-true}
use Rattle.std.specs.List.{list_all}
use Rattle.std.proofs.lemmas.Bool.{and_parts}
use Rattle.topo_base.specs.Names.{is_letter, is_name_byte, is_name}
use Rattle.topo_base.specs.Point.{Point}
use Rattle.topo_base.specs.Kinds.{kind_number}
use Rattle.topo_base.specs.declared.edit.Pair.{Pair}
use Rattle.topo_base.specs.declared.edit.Edit.{Edit}
use Rattle.topo_base.specs.declared.edit.Edit.TheVariants.{AddIsoNode, MoveIsoNode, RemoveIsoNode, AddIsoEdge, RemoveIsoEdge, AddEdgeModFace, AddEdgeNewFaces, RemEdgeModFace, RemEdgeNewFace, ModEdgeSplit, NewEdgesSplit, ModEdgeHeal, NewEdgeHeal, AddLayer, CreateTopoGeom, AddElement, RemElement, DropFeature}
use Rattle.topo_base.specs.declared.edit.Entry.{Entry}
use Rattle.drawing.specs.Accepted.{is_line_short, keeps_limits, is_editor, is_entry}
use Rattle.drawing.specs.InRange.{is_option_id, is_in_range}
use Rattle.history_model.specs.Spelling.{point_bytes, option_bytes, line_bytes, pair_bytes, pairs_bytes, name_bytes, edit_bytes}
use Rattle.entry_codec.specs.Spelled.{IsShort}

length-points : (line : List Point) → length (flat_map point_bytes line) ≡ 16 * length line
length-points [] = refl
length-points (p ∷ line) = omega (arith, length-points line)

length-pairs : (xs : List Pair) → length (flat_map pair_bytes xs) ≡ 8 * length xs
length-pairs [] = refl
length-pairs (x ∷ xs) = omega (arith, length-pairs xs)

short_line : (line : List Point) → IsTrue (is_line_short line) → length (line_bytes line) ≤ 4 + 16 * 4096
short_line line h =
    let few = leb-true (length line) 4096 (and_parts (nat_le 2 (length line)) (nat_le (length line) 4096) h).1 in
    omega (arith, few, length-points line)

short_pairs : (xs : List Pair) → IsTrue (nat_le (length xs) 4096) → length (pairs_bytes xs) ≤ 4 + 8 * 4096
short_pairs xs h = omega (arith, leb-true (length xs) 4096 h, length-pairs xs)

short_name : (name : List ℕ) → IsTrue (is_name name) → length name ≤ 63
short_name [] h = omega arith
short_name (c ∷ cs) h = omega (arith, leb-true (length cs) 62 (and_parts (is_letter c && list_all is_name_byte cs) (nat_le (length cs) 62) h).1)

short_option : (o : Option ℕ) → length (option_bytes o) ≤ 5
short_option None = omega arith
short_option (Some n) = omega arith

short_edit : (e : Edit) → IsTrue (keeps_limits e) → IsTrue (is_in_range e) → length (edit_bytes e) ≤ 13 + 16 * 4096
short_edit (AddIsoNode face p) s h = omega (arith, short_option face, length-append (option_bytes face) (point_bytes p))
short_edit (MoveIsoNode n p) s h = omega arith
short_edit (RemoveIsoNode n) s h = omega arith
short_edit (AddIsoEdge a b line) s h = omega (arith, short_line line s)
short_edit (RemoveIsoEdge e) s h = omega arith
short_edit (AddEdgeModFace a b line) s h = omega (arith, short_line line s)
short_edit (AddEdgeNewFaces a b line) s h = omega (arith, short_line line s)
short_edit (RemEdgeModFace e) s h = omega arith
short_edit (RemEdgeNewFace e) s h = omega arith
short_edit (ModEdgeSplit e p) s h = omega arith
short_edit (NewEdgesSplit e p) s h = omega arith
short_edit (ModEdgeHeal e f) s h = omega arith
short_edit (NewEdgeHeal e f) s h = omega arith
short_edit (AddLayer name kind child) s h =
    omega (arith, short_name name (and_parts (is_name name) (is_option_id child) h).0, short_option child, length-append (name_bytes name) (kind_number kind ∷ option_bytes child))
short_edit (CreateTopoGeom l xs) s h = omega (arith, short_pairs xs s)
short_edit (AddElement t id type) s h = omega arith
short_edit (RemElement t id type) s h = omega arith
short_edit (DropFeature t) s h = omega arith

pub short_entry : (x : Entry) → IsTrue (is_entry x) → IsTrue (is_in_range x.edit) → IsShort x
short_entry x h k = omega (arith, short_edit x.edit (and_parts (is_editor x.editor) (keeps_limits x.edit) h).1 k)
