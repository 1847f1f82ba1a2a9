-- The grammar of entries, read from the front: a field is a value and the bytes behind it.
use Rattle.std.specs.Prelude.{ℕ, zero, suc, Bool, ◌&&◌, ◌==◌, nat_le, nat_lt, List, [], ◌∷◌, length, take, drop, Option, Some, None, option_and_then, if◌then◌else◌}
use Rattle.std.specs.Int.{Width, w32, w64, byte_len, from_be_bytes, cast_signed}
use Rattle.std.specs.List.{list_all}
use Rattle.topo_base.specs.Names.{is_name}
use Rattle.topo_base.specs.Point.{Point}
use Rattle.topo_base.specs.declared.kind.Kind.{Kind}
use Rattle.topo_base.specs.declared.kind.Kind.TheVariants.{Puntal, Lineal, Areal}
use Rattle.topo_base.specs.declared.edit.Pair.{Pair}
use Rattle.topo_base.specs.declared.edit.Edit.{Edit}
use Rattle.topo_base.specs.declared.edit.Edit.TheVariants.{AddIsoNode, MoveIsoNode, RemoveIsoNode, AddIsoEdge, RemoveIsoEdge, AddEdgeModFace, AddEdgeNewFaces, RemEdgeModFace, RemEdgeNewFace, ModEdgeSplit, NewEdgesSplit, ModEdgeHeal, NewEdgeHeal, AddLayer, CreateTopoGeom, AddElement, RemElement, DropFeature}
use Rattle.topo_base.specs.declared.edit.Entry.{Entry}
use Rattle.drawing.specs.Accepted.{is_editor}
use Rattle.drawing.specs.InRange.{is_grid_point}

abbrev pub Reads : Type 0 → Type 0
Reads A = List ℕ → Option (A × List ℕ)

-- a field that meets a test; its value made another one; one field and then another
abbrev pub tested : {A : Type 0} → (A → Bool) → A × List ℕ → Option (A × List ℕ)
tested good x = if good x.0 then Some x else None

abbrev pub where_good : {A : Type 0} → (A → Bool) → Reads A → Reads A
where_good good read bytes = option_and_then (tested good) (read bytes)

abbrev pub made : {A B : Type 0} → (A → B) → Reads A → Reads B
made make read bytes = option_and_then (λ x. Some (make x.0, x.1)) (read bytes)

abbrev pub with_next : {A B : Type 0} → Reads B → A × List ℕ → Option ((A × B) × List ℕ)
with_next next x = option_and_then (λ y. Some ((x.0, y.0), y.1)) (next x.1)

abbrev pub both : {A B : Type 0} → Reads A → Reads B → Reads (A × B)
both first next bytes = option_and_then (with_next next) (first bytes)

-- so many of a field
abbrev pub many : {A : Type 0} → Reads A → ℕ → Reads (List A)
many read zero bytes = Some ([], bytes)
many read (suc n) bytes = option_and_then (λ x. option_and_then (λ xs. Some (x.0 ∷ xs.0, xs.1)) (many read n x.1)) (read bytes)

-- a number of a width, high byte first
abbrev pub is_byte : ℕ → Bool
is_byte b = nat_lt b 256

unfoldable pub wide_at : Width → Reads ℕ
wide_at w bytes =
    if nat_le (byte_len w) (length bytes) && list_all is_byte (take (byte_len w) bytes) then Some (from_be_bytes w (take (byte_len w) bytes), drop (byte_len w) bytes) else None

unfoldable pub number_at : Reads ℕ
number_at = wide_at w32

-- a number behind a byte 1, or none behind a byte 0
unfoldable pub option_at : Reads (Option ℕ)
option_at [] = None
option_at (zero ∷ rest) = Some (None, rest)
option_at (suc zero ∷ rest) = made (λ n. Some n) number_at rest
option_at (suc (suc b) ∷ rest) = None

-- coordinates in two's complement
abbrev pub point_of : ℕ × ℕ → Point
point_of p = record { x = cast_signed w64 p.0; y = cast_signed w64 p.1 }

unfoldable pub point_at : Reads Point
point_at = where_good is_grid_point (made point_of (both (wide_at w64) (wide_at w64)))

-- a list behind its length
abbrev pub counted : {A : Type 0} → (ℕ → Bool) → Reads A → Reads (List A)
counted good read bytes = option_and_then (λ n. many read n.0 n.1) (where_good good number_at bytes)

abbrev pub is_count_of_line : ℕ → Bool
is_count_of_line n = nat_le 2 n && nat_le n 4096

abbrev pub is_count_of_pairs : ℕ → Bool
is_count_of_pairs n = nat_le n 4096

unfoldable pub line_at : Reads (List Point)
line_at = counted is_count_of_line point_at

abbrev pub pair_of : ℕ × ℕ → Pair
pair_of p = record { id = p.0; element_type = p.1 }

unfoldable pub pair_at : Reads Pair
pair_at = made pair_of (both number_at number_at)

unfoldable pub pairs_at : Reads (List Pair)
pairs_at = counted is_count_of_pairs pair_at

-- a name behind its length in one byte
unfoldable pub name_at : Reads (List ℕ)
name_at [] = None
name_at (n ∷ bytes) = if nat_le n (length bytes) && is_name (take n bytes) then Some (take n bytes, drop n bytes) else None

-- one byte
unfoldable pub kind_at : Reads Kind
kind_at [] = None
kind_at (b ∷ rest) = if b == 1 then Some (Puntal, rest) else (if b == 2 then Some (Lineal, rest) else (if b == 3 then Some (Areal, rest) else None))

-- two ids and a line; three numbers
abbrev pub edge_at : Reads (ℕ × (ℕ × List Point))
edge_at = both number_at (both number_at line_at)

abbrev pub three_at : Reads (ℕ × (ℕ × ℕ))
three_at = both number_at (both number_at number_at)

-- the fields of an edit behind its tag: of isolated nodes and edges, of edges among others, and of layers and features
unfoldable pub isolated_at : ℕ → Reads Edit
isolated_at tag bytes =
    if tag == 1 then made (λ p. AddIsoNode p.0 p.1) (both option_at point_at) bytes
    else (if tag == 2 then made (λ p. MoveIsoNode p.0 p.1) (both number_at point_at) bytes
    else (if tag == 3 then made (λ n. RemoveIsoNode n) number_at bytes
    else (if tag == 4 then made (λ p. AddIsoEdge p.0 p.1.0 p.1.1) edge_at bytes
    else (if tag == 5 then made (λ n. RemoveIsoEdge n) number_at bytes
    else None))))

unfoldable pub joined_at : ℕ → Reads Edit
joined_at tag bytes =
    if tag == 6 then made (λ p. AddEdgeModFace p.0 p.1.0 p.1.1) edge_at bytes
    else (if tag == 7 then made (λ p. AddEdgeNewFaces p.0 p.1.0 p.1.1) edge_at bytes
    else (if tag == 8 then made (λ n. RemEdgeModFace n) number_at bytes
    else (if tag == 9 then made (λ n. RemEdgeNewFace n) number_at bytes
    else (if tag == 10 then made (λ p. ModEdgeSplit p.0 p.1) (both number_at point_at) bytes
    else (if tag == 11 then made (λ p. NewEdgesSplit p.0 p.1) (both number_at point_at) bytes
    else (if tag == 12 then made (λ p. ModEdgeHeal p.0 p.1) (both number_at number_at) bytes
    else (if tag == 13 then made (λ p. NewEdgeHeal p.0 p.1) (both number_at number_at) bytes
    else None)))))))

unfoldable pub feature_at : ℕ → Reads Edit
feature_at tag bytes =
    if tag == 14 then made (λ p. AddLayer p.0 p.1.0 p.1.1) (both name_at (both kind_at option_at)) bytes
    else (if tag == 15 then made (λ p. CreateTopoGeom p.0 p.1) (both number_at pairs_at) bytes
    else (if tag == 16 then made (λ p. AddElement p.0 p.1.0 p.1.1) three_at bytes
    else (if tag == 17 then made (λ p. RemElement p.0 p.1.0 p.1.1) three_at bytes
    else (if tag == 18 then made (λ n. DropFeature n) number_at bytes
    else None))))

unfoldable pub fields_at : ℕ → Reads Edit
fields_at tag bytes = if nat_le tag 5 then isolated_at tag bytes else (if nat_le tag 13 then joined_at tag bytes else feature_at tag bytes)

-- an edit: its tag and its fields
unfoldable pub edit_at : Reads Edit
edit_at [] = None
edit_at (tag ∷ bytes) = fields_at tag bytes

unfoldable pub editor_at : Reads ℕ
editor_at = where_good is_editor number_at

abbrev pub entry_of : ℕ × Edit → Entry
entry_of p = record { editor = p.0; edit = p.1 }

-- the entry whose spelling stands at the front, and what stands behind it
unfoldable pub entry_at : Reads Entry
entry_at = made entry_of (both editor_at edit_at)

-- with nothing behind it
abbrev pub whole : {A : Type 0} → A × List ℕ → Option A
whole (x, []) = Some x
whole (x, b ∷ rest) = None

-- the entry whose spelling these bytes are
unfoldable pub entry_in : List ℕ → Option Entry
entry_in body = option_and_then whole (entry_at body)
