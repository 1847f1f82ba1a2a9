-- A line that uses no names gives its edit, whatever is bound.
use Rattle.std.proofs.Common.{◌≡◌, List, [], ◌∷◌, map, Some, None, refl, ap}
use Rattle.topo_base.specs.ScriptLines.{number_pair, in_numbers}
use Rattle.topo_base.specs.declared.edit.Pair.{Pair}
use Rattle.topo_base.specs.declared.edit.Edit.{Edit}
use Rattle.topo_base.specs.declared.edit.Edit.TheVariants.{AddIsoNode, MoveIsoNode, RemoveIsoNode, AddIsoEdge, RemoveIsoEdge, AddEdgeModFace, AddEdgeNewFaces, RemEdgeModFace, RemEdgeNewFace, ModEdgeSplit, NewEdgesSplit, ModEdgeHeal, NewEdgeHeal, AddLayer, CreateTopoGeom, AddElement, RemElement, DropFeature}
use Rattle.script_model.specs.Bindings.{Names, onto_pairs, pairs_of, with_pairs, resolve}

pairs_numbers : (b : Names) (xs : List Pair) → pairs_of b (map number_pair xs) ≡ Some xs
pairs_numbers b [] = refl
pairs_numbers b (x ∷ xs) = ap (onto_pairs (Some x)) (pairs_numbers b xs)

pub resolve_numbers : (b : Names) (e : Edit) → resolve b (in_numbers e) ≡ Some e
resolve_numbers b (AddIsoNode None p) = refl
resolve_numbers b (AddIsoNode (Some n) p) = refl
resolve_numbers b (MoveIsoNode n p) = refl
resolve_numbers b (RemoveIsoNode n) = refl
resolve_numbers b (AddIsoEdge s t line) = refl
resolve_numbers b (RemoveIsoEdge e) = refl
resolve_numbers b (AddEdgeModFace s t line) = refl
resolve_numbers b (AddEdgeNewFaces s t line) = refl
resolve_numbers b (RemEdgeModFace e) = refl
resolve_numbers b (RemEdgeNewFace e) = refl
resolve_numbers b (ModEdgeSplit e p) = refl
resolve_numbers b (NewEdgesSplit e p) = refl
resolve_numbers b (ModEdgeHeal e f) = refl
resolve_numbers b (NewEdgeHeal e f) = refl
resolve_numbers b (AddLayer name kind None) = refl
resolve_numbers b (AddLayer name kind (Some n)) = refl
resolve_numbers b (CreateTopoGeom l xs) = ap (λ ys. with_pairs (Some l) ys (λ l xs. CreateTopoGeom l xs)) (pairs_numbers b xs)
resolve_numbers b (AddElement t id type) = refl
resolve_numbers b (RemElement t id type) = refl
resolve_numbers b (DropFeature t) = refl
