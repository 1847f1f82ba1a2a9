-- The names of a script: what each is bound to, and the edit that a line gives with them.
use Rattle.std.specs.Prelude.{ℕ, List, [], ◌∷◌, Option, Some, None, if◌then◌else◌}
use Rattle.std.specs.Str.{bytes_eq}
use Rattle.topo_base.specs.declared.answer.Answer.{Answer}
use Rattle.topo_base.specs.declared.answer.Answer.TheVariants.{Done, Refused, Unbound, Stale, DiskFault, Memory}
use Rattle.topo_base.specs.declared.element.Element.{Element}
use Rattle.topo_base.specs.declared.element.Element.TheVariants.{Drawing, Node, Edge, Face, Layer, Feature}
use Rattle.topo_base.specs.declared.edit.Pair.{Pair}
use Rattle.topo_base.specs.declared.edit.Edit.{Edit}
use Rattle.topo_base.specs.declared.edit.Edit.TheVariants as edit
use Rattle.topo_base.specs.declared.named.IdWord.{IdWord}
use Rattle.topo_base.specs.declared.named.IdWord.TheVariants.{Number, Bound}
use Rattle.topo_base.specs.declared.named.NamedPair.{NamedPair}
use Rattle.topo_base.specs.declared.named.NamedEdit.{NamedEdit}
use Rattle.topo_base.specs.declared.named.NamedEdit.TheVariants.{AddIsoNode, MoveIsoNode, RemoveIsoNode, AddIsoEdge, RemoveIsoEdge, AddEdgeModFace, AddEdgeNewFaces, RemEdgeModFace, RemEdgeNewFace, ModEdgeSplit, NewEdgesSplit, ModEdgeHeal, NewEdgeHeal, AddLayer, CreateTopoGeom, AddElement, RemElement, DropFeature}

-- the id to which a name is bound, if it is bound
abbrev pub Names : Type 0
Names = List ℕ → Option ℕ

abbrev pub no_names : Names
no_names name = None

abbrev pub with_name : Names → List ℕ → Option ℕ → Names
with_name b name id other = if bytes_eq other name then id else b other

-- the ids of an answer
abbrev pub element_id : Element → ℕ
element_id Drawing = 0
element_id (Node n) = n
element_id (Edge n) = n
element_id (Face n) = n
element_id (Layer n) = n
element_id (Feature n) = n

abbrev pub ids_of : Answer → List Element
ids_of (Done ids front) = ids
ids_of (Refused rule front) = []
ids_of Unbound = []
ids_of (Stale x read now front) = []
ids_of DiskFault = []
ids_of Memory = []

-- each name is bound to the id at its place, from left to right, and a name past the ids is unbound
abbrev pub bound : Names → List (List ℕ) → List Element → Names
bound b [] ids = b
bound b (name ∷ names) [] = bound (with_name b name None) names []
bound b (name ∷ names) (x ∷ ids) = bound (with_name b name (Some (element_id x))) names ids

-- the id that a word stands for
abbrev pub id_of : Names → IdWord → Option ℕ
id_of b (Number n) = Some n
id_of b (Bound name) = b name

-- what is made of one id, of two and of three, where each is there
abbrev pub with_one : {A : Type 0} → Option ℕ → (ℕ → A) → Option A
with_one None f = None
with_one (Some n) f = Some (f n)

abbrev pub with_two : {A : Type 0} → Option ℕ → Option ℕ → (ℕ → ℕ → A) → Option A
with_two None m f = None
with_two (Some n) m f = with_one m (f n)

abbrev pub with_three : {A : Type 0} → Option ℕ → Option ℕ → Option ℕ → (ℕ → ℕ → ℕ → A) → Option A
with_three None m k f = None
with_three (Some n) m k f = with_two m k (f n)

-- an id that may be missing
abbrev pub with_given : Names → Option IdWord → (Option ℕ → Edit) → Option Edit
with_given b None f = Some (f None)
with_given b (Some w) f = with_one (id_of b w) (λ n. f (Some n))

-- the elements of a list
abbrev pub pair_of : Names → NamedPair → Option Pair
pair_of b x = with_two (id_of b x.id) (id_of b x.element_type) (λ id type. record { id = id; element_type = type })

abbrev pub onto_pairs : Option Pair → Option (List Pair) → Option (List Pair)
onto_pairs None xs = None
onto_pairs (Some x) None = None
onto_pairs (Some x) (Some xs) = Some (x ∷ xs)

abbrev pub pairs_of : Names → List NamedPair → Option (List Pair)
pairs_of b [] = Some []
pairs_of b (x ∷ xs) = onto_pairs (pair_of b x) (pairs_of b xs)

abbrev pub with_pairs : Option ℕ → Option (List Pair) → (ℕ → List Pair → Edit) → Option Edit
with_pairs None xs f = None
with_pairs (Some n) None f = None
with_pairs (Some n) (Some xs) f = Some (f n xs)

-- the edit that a line gives, where each name that it uses is bound
abbrev pub resolve : Names → NamedEdit → Option Edit
resolve b (AddIsoNode face p) = with_given b face (λ f. edit.AddIsoNode f p)
resolve b (MoveIsoNode n p) = with_one (id_of b n) (λ n. edit.MoveIsoNode n p)
resolve b (RemoveIsoNode n) = with_one (id_of b n) (λ n. edit.RemoveIsoNode n)
resolve b (AddIsoEdge s e line) = with_two (id_of b s) (id_of b e) (λ s e. edit.AddIsoEdge s e line)
resolve b (RemoveIsoEdge e) = with_one (id_of b e) (λ e. edit.RemoveIsoEdge e)
resolve b (AddEdgeModFace s e line) = with_two (id_of b s) (id_of b e) (λ s e. edit.AddEdgeModFace s e line)
resolve b (AddEdgeNewFaces s e line) = with_two (id_of b s) (id_of b e) (λ s e. edit.AddEdgeNewFaces s e line)
resolve b (RemEdgeModFace e) = with_one (id_of b e) (λ e. edit.RemEdgeModFace e)
resolve b (RemEdgeNewFace e) = with_one (id_of b e) (λ e. edit.RemEdgeNewFace e)
resolve b (ModEdgeSplit e p) = with_one (id_of b e) (λ e. edit.ModEdgeSplit e p)
resolve b (NewEdgesSplit e p) = with_one (id_of b e) (λ e. edit.NewEdgesSplit e p)
resolve b (ModEdgeHeal e f) = with_two (id_of b e) (id_of b f) (λ e f. edit.ModEdgeHeal e f)
resolve b (NewEdgeHeal e f) = with_two (id_of b e) (id_of b f) (λ e f. edit.NewEdgeHeal e f)
resolve b (AddLayer name kind child) = with_given b child (λ c. edit.AddLayer name kind c)
resolve b (CreateTopoGeom l xs) = with_pairs (id_of b l) (pairs_of b xs) (λ l xs. edit.CreateTopoGeom l xs)
resolve b (AddElement t id type) = with_three (id_of b t) (id_of b id) (id_of b type) (λ t id type. edit.AddElement t id type)
resolve b (RemElement t id type) = with_three (id_of b t) (id_of b id) (id_of b type) (λ t id type. edit.RemElement t id type)
resolve b (DropFeature t) = with_one (id_of b t) (λ t. edit.DropFeature t)
