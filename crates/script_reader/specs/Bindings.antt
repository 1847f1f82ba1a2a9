-- The names that are bound, as a list of names with their ids, and what an edit with names is answered.
use Rattle.std.specs.Prelude.{◌≡◌, ℕ, List, map, Some, None, Result, Ok, Err}
use Rattle.std.specs.Map.{lookup}
use Rattle.std.specs.Str.{bytes_eq}
use Rattle.std.specs.declared.alloc.Global.{Global}
use Rattle.std.specs.declared.vec.Vec.{Vec}
use Rattle.topo_base.specs.declared.edit.Edit.{Edit}
use Rattle.topo_base.specs.declared.named.NamedEdit.{NamedEdit}
use Rattle.script_model.specs.Bindings.{Names, resolve}
use Rattle.script_reader.specs.declared.end.ResolveEnd.{ResolveEnd}
use Rattle.script_reader.specs.declared.end.ResolveEnd.TheVariants.{Unbound, Memory}

-- the id of each name in the list
abbrev pub names_of : List (List ℕ × ℕ) → Names
names_of entries name = lookup (bytes_eq name) entries

-- the entries of a map, with the bytes of each key
abbrev pub with_bytes : List (Vec ℕ Global × ℕ) → List (List ℕ × ℕ)
with_bytes entries = map (λ e. (e.0.items, e.1)) entries

-- the answer is the edit that a line gives, or that a name which it uses isn't bound
abbrev pub IsResolved : Names → NamedEdit → Result Edit ResolveEnd → Type 0
IsResolved names named (Ok edit) = resolve names named ≡ Some edit
IsResolved names named (Err Unbound) = resolve names named ≡ None
IsResolved names named (Err Memory) = Unit {0}
