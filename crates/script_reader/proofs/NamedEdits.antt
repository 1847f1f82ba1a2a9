-- What an edit gives where no name is bound has the words of the edit itself.
use Rattle.std.proofs.Common.{◌≡◌, ℕ, List, [], ◌∷◌, map, Option, None, Some, refl, sym, ap, ◌∙◌}
use Rattle.topo_base.specs.ScriptLines.{option_number, number_pair, in_numbers}
use Rattle.topo_base.specs.declared.edit.Pair.{Pair}
use Rattle.topo_base.specs.declared.edit.Edit.{Edit}
use Rattle.topo_base.specs.declared.edit.Edit.TheVariants as edit
use Rattle.topo_base.specs.declared.named.IdWord.{IdWord}
use Rattle.topo_base.specs.declared.named.IdWord.TheVariants.{Number, Bound}
use Rattle.topo_base.specs.declared.named.NamedPair.{NamedPair}
use Rattle.topo_base.specs.declared.named.NamedEdit.{NamedEdit}
use Rattle.topo_base.specs.declared.named.NamedEdit.TheVariants.{AddIsoNode, MoveIsoNode, RemoveIsoNode, AddIsoEdge, RemoveIsoEdge, AddEdgeModFace, AddEdgeNewFaces, RemEdgeModFace, RemEdgeNewFace, ModEdgeSplit, NewEdgesSplit, ModEdgeHeal, NewEdgeHeal, AddLayer, CreateTopoGeom, AddElement, RemElement, DropFeature}
use Rattle.script_model.specs.Bindings.{no_names, id_of, with_one, with_two, with_three, with_given, with_pairs, pair_of, onto_pairs, pairs_of, resolve}

-- what an edit gives with no name bound is that edit in numbers. Here f makes an edit of ids, and g the
-- edit with words that it comes from
one_back : (w : IdWord) (f : ℕ → Edit) (g : IdWord → NamedEdit) (d : Edit) → ((n : ℕ) → in_numbers (f n) ≡ g (Number n)) → with_one (id_of no_names w) f ≡ Some d → in_numbers d ≡ g w
one_back (Number n) f g d same e = let is : f n ≡ d = cc in ap in_numbers (sym is) ∙ same n
one_back (Bound name) f g d same e = absurd cc

two_back : (w v : IdWord) (f : ℕ → ℕ → Edit) (g : IdWord → IdWord → NamedEdit) (d : Edit) → ((n m : ℕ) → in_numbers (f n m) ≡ g (Number n) (Number m)) → with_two (id_of no_names w) (id_of no_names v) f ≡ Some d → in_numbers d ≡ g w v
two_back (Number n) v f g d same e = one_back v (f n) (g (Number n)) d (same n) e
two_back (Bound name) v f g d same e = absurd cc

three_back : (w v u : IdWord) (f : ℕ → ℕ → ℕ → Edit) (g : IdWord → IdWord → IdWord → NamedEdit) (d : Edit) → ((n m k : ℕ) → in_numbers (f n m k) ≡ g (Number n) (Number m) (Number k)) → with_three (id_of no_names w) (id_of no_names v) (id_of no_names u) f ≡ Some d → in_numbers d ≡ g w v u
three_back (Number n) v u f g d same e = two_back v u (f n) (g (Number n)) d (same n) e
three_back (Bound name) v u f g d same e = absurd cc

given_back : (o : Option IdWord) (f : Option ℕ → Edit) (g : Option IdWord → NamedEdit) (d : Edit) → ((n : Option ℕ) → in_numbers (f n) ≡ g (option_number n)) → with_given no_names o f ≡ Some d → in_numbers d ≡ g o
given_back None f g d same e = let is : f None ≡ d = cc in ap in_numbers (sym is) ∙ same None
given_back (Some w) f g d same e = one_back w (λ n. f (Some n)) (λ v. g (Some v)) d (λ n. same (Some n)) e

pair_back : (i t : IdWord) (y : Pair) → with_two (id_of no_names i) (id_of no_names t) (λ id type. record { id = id; element_type = type }) ≡ Some y → number_pair y ≡ record { id = i; element_type = t }
pair_back (Number n) (Number m) y e = let P : Pair = record { id = n; element_type = m } in let is : P ≡ y = cc in ap number_pair (sym is)
pair_back (Number n) (Bound name) y e = absurd cc
pair_back (Bound name) t y e = absurd cc

onto_back : (o : Option Pair) (rest : Option (List Pair)) (x : NamedPair) (xs : List NamedPair) (ys : List Pair) → ((y : Pair) → o ≡ Some y → number_pair y ≡ x) → ((zs : List Pair) → rest ≡ Some zs → map number_pair zs ≡ xs) → onto_pairs o rest ≡ Some ys → map number_pair ys ≡ x ∷ xs
onto_back None rest x xs ys first others e = absurd cc
onto_back (Some y) None x xs ys first others e = absurd cc
onto_back (Some y) (Some zs) x xs ys first others e =
    let is : y ∷ zs ≡ ys = cc in
    ap (map number_pair) (sym is) ∙ ap (λ z. z ∷ map number_pair zs) (first y refl) ∙ ap (λ l. x ∷ l) (others zs refl)

pairs_back : (xs : List NamedPair) (ys : List Pair) → pairs_of no_names xs ≡ Some ys → map number_pair ys ≡ xs
pairs_back [] ys e = let is : [] ≡ ys = cc in ap (map number_pair) (sym is)
pairs_back (x ∷ xs) ys e = onto_back (pair_of no_names x) (pairs_of no_names xs) x xs ys (λ y is. pair_back x.id x.element_type y is) (pairs_back xs) e

list_back : (w : IdWord) (o : Option (List Pair)) (xs : List NamedPair) (d : Edit) → ((ys : List Pair) → o ≡ Some ys → map number_pair ys ≡ xs) → with_pairs (id_of no_names w) o (λ l ys. edit.CreateTopoGeom l ys) ≡ Some d → in_numbers d ≡ CreateTopoGeom w xs
list_back (Bound name) o xs d others e = absurd cc
list_back (Number n) None xs d others e = absurd cc
list_back (Number n) (Some ys) xs d others e =
    let is : edit.CreateTopoGeom n ys ≡ d = cc in
    ap in_numbers (sym is) ∙ ap (CreateTopoGeom (Number n)) (others ys refl)

pub in_numbers-resolved : (n : NamedEdit) (d : Edit) → resolve no_names n ≡ Some d → in_numbers d ≡ n
in_numbers-resolved (AddIsoNode face p) d e = given_back face (λ f. edit.AddIsoNode f p) (λ f. AddIsoNode f p) d (λ f. refl) e
in_numbers-resolved (MoveIsoNode n p) d e = one_back n _ (λ n. MoveIsoNode n p) d (λ n. refl) e
in_numbers-resolved (RemoveIsoNode n) d e = one_back n _ (λ n. RemoveIsoNode n) d (λ n. refl) e
in_numbers-resolved (AddIsoEdge s t line) d e = two_back s t _ (λ s t. AddIsoEdge s t line) d (λ n m. refl) e
in_numbers-resolved (RemoveIsoEdge n) d e = one_back n _ (λ n. RemoveIsoEdge n) d (λ n. refl) e
in_numbers-resolved (AddEdgeModFace s t line) d e = two_back s t _ (λ s t. AddEdgeModFace s t line) d (λ n m. refl) e
in_numbers-resolved (AddEdgeNewFaces s t line) d e = two_back s t _ (λ s t. AddEdgeNewFaces s t line) d (λ n m. refl) e
in_numbers-resolved (RemEdgeModFace n) d e = one_back n _ (λ n. RemEdgeModFace n) d (λ n. refl) e
in_numbers-resolved (RemEdgeNewFace n) d e = one_back n _ (λ n. RemEdgeNewFace n) d (λ n. refl) e
in_numbers-resolved (ModEdgeSplit n p) d e = one_back n _ (λ n. ModEdgeSplit n p) d (λ n. refl) e
in_numbers-resolved (NewEdgesSplit n p) d e = one_back n _ (λ n. NewEdgesSplit n p) d (λ n. refl) e
in_numbers-resolved (ModEdgeHeal s t) d e = two_back s t _ (λ s t. ModEdgeHeal s t) d (λ n m. refl) e
in_numbers-resolved (NewEdgeHeal s t) d e = two_back s t _ (λ s t. NewEdgeHeal s t) d (λ n m. refl) e
in_numbers-resolved (AddLayer name kind child) d e = given_back child (λ c. edit.AddLayer name kind c) (λ c. AddLayer name kind c) d (λ c. refl) e
in_numbers-resolved (CreateTopoGeom l xs) d e = list_back l (pairs_of no_names xs) xs d (pairs_back xs) e
in_numbers-resolved (AddElement t id type) d e = three_back t id type _ (λ t id type. AddElement t id type) d (λ n m k. refl) e
in_numbers-resolved (RemElement t id type) d e = three_back t id type _ (λ t id type. RemElement t id type) d (λ n m k. refl) e
in_numbers-resolved (DropFeature t) d e = one_back t _ (λ t. DropFeature t) d (λ n. refl) e
