-- The edit that a line gives keeps the limits.
use Rattle.std.proofs.Common.{◌≡◌, ℕ, suc, Bool, List, [], ◌∷◌, length, Option, Some, None, IsTrue, refl, sym, subst, ap, ◌∙◌}
use Rattle.std.specs.Prelude.{nat_le, ◌&&◌}
use Rattle.std.specs.List.{list_all}
use Rattle.std.proofs.lemmas.Bool.{and_parts, and_from}
use Rattle.topo_base.specs.Point.{Point}
use Rattle.topo_base.specs.ScriptLines.{ScriptLine}
use Rattle.topo_base.specs.declared.answer.Answer.{Answer}
use Rattle.topo_base.specs.declared.edit.Pair.{Pair}
use Rattle.topo_base.specs.declared.edit.Edit.{Edit}
use Rattle.topo_base.specs.declared.named.IdWord.{IdWord}
use Rattle.topo_base.specs.declared.named.NamedPair.{NamedPair}
use Rattle.topo_base.specs.declared.named.NamedEdit.{NamedEdit}
use Rattle.topo_base.specs.declared.named.NamedEdit.TheVariants.{AddIsoNode, MoveIsoNode, RemoveIsoNode, AddIsoEdge, RemoveIsoEdge, AddEdgeModFace, AddEdgeNewFaces, RemEdgeModFace, RemEdgeNewFace, ModEdgeSplit, NewEdgesSplit, ModEdgeHeal, NewEdgeHeal, AddLayer, CreateTopoGeom, AddElement, RemElement, DropFeature}
use Rattle.drawing.specs.InRange.{is_grid_point}
use Rattle.drawing.specs.Accepted.{keeps_limits, is_line_short}
use Rattle.script_model.specs.NamedRange.{is_id_word, is_named_pair, is_new_line, is_named_edit, is_script_line}
use Rattle.topo_base.specs.Names.{is_name}
use Rattle.script_model.specs.Bindings.{Names, id_of, with_one, with_two, with_three, with_given, pair_of, onto_pairs, pairs_of, with_pairs, resolve, bound, ids_of}
use Rattle.topo_model.specs.ScriptRun.{onto_edits, edits_given}

-- what is made of ids has a quality where all that can be made has it
pub one_is : {A : Type 0} (P : A → Bool) (o : Option ℕ) (f : ℕ → A) (d : A) → ((n : ℕ) → IsTrue (P (f n))) → with_one o f ≡ Some d → IsTrue (P d)
one_is P None f d all e = absurd cc
one_is P (Some n) f d all e = let same : f n ≡ d = cc in subst (λ x. IsTrue (P x)) same (all n)

pub two_is : {A : Type 0} (P : A → Bool) (o r : Option ℕ) (f : ℕ → ℕ → A) (d : A) → ((n m : ℕ) → IsTrue (P (f n m))) → with_two o r f ≡ Some d → IsTrue (P d)
two_is P None r f d all e = absurd cc
two_is P (Some n) r f d all e = one_is P r (f n) d (all n) e

pub three_is : {A : Type 0} (P : A → Bool) (o r s : Option ℕ) (f : ℕ → ℕ → ℕ → A) (d : A) → ((n m k : ℕ) → IsTrue (P (f n m k))) → with_three o r s f ≡ Some d → IsTrue (P d)
three_is P None r s f d all e = absurd cc
three_is P (Some n) r s f d all e = two_is P r s (f n) d (all n) e

pub given_is : (P : Edit → Bool) (b : Names) (w : Option IdWord) (f : Option ℕ → Edit) (d : Edit) → ((n : Option ℕ) → IsTrue (P (f n))) → with_given b w f ≡ Some d → IsTrue (P d)
given_is P b None f d all e = let same : f None ≡ d = cc in subst (λ x. IsTrue (P x)) same (all None)
given_is P b (Some w) f d all e = one_is P (id_of b w) (λ n. f (Some n)) d (λ n. all (Some n)) e

onto_length : (x : Option Pair) (o : Option (List Pair)) (ys : List Pair) (n : ℕ) → ((zs : List Pair) → o ≡ Some zs → length zs ≡ n) → onto_pairs x o ≡ Some ys → length ys ≡ suc n
onto_length None o ys n rest e = absurd cc
onto_length (Some x) None ys n rest e = absurd cc
onto_length (Some x) (Some zs) ys n rest e = let same : x ∷ zs ≡ ys = cc in ap length (sym same) ∙ ap suc (rest zs refl)

pairs_length : (b : Names) (xs : List NamedPair) (ys : List Pair) → pairs_of b xs ≡ Some ys → length ys ≡ length xs
pairs_length b [] ys e = let same : [] ≡ ys = cc in ap length (sym same)
pairs_length b (x ∷ xs) ys e = onto_length (pair_of b x) (pairs_of b xs) ys (length xs) (pairs_length b xs) e

pub list_is : (P : Edit → Bool) (o : Option ℕ) (xs : Option (List Pair)) (f : ℕ → List Pair → Edit) (d : Edit) → ((n : ℕ) (ys : List Pair) → xs ≡ Some ys → IsTrue (P (f n ys))) → with_pairs o xs f ≡ Some d → IsTrue (P d)
list_is P None xs f d all e = absurd cc
list_is P (Some n) None f d all e = absurd cc
list_is P (Some n) (Some ys) f d all e = let same : f n ys ≡ d = cc in subst (λ x. IsTrue (P x)) same (all n ys refl)

new_line_short : (a c : IdWord) (line : List Point) → IsTrue (is_id_word a && is_id_word c && is_new_line line) → IsTrue (is_line_short line)
new_line_short a c line good =
    (and_parts (is_line_short line) (list_all is_grid_point line) (and_parts (is_id_word a && is_id_word c) (is_new_line line) good).1).0

pub edit_limits : (b : Names) (e : NamedEdit) (d : Edit) → IsTrue (is_named_edit e) → resolve b e ≡ Some d → IsTrue (keeps_limits d)
edit_limits b (AddIsoNode face p) d good e = given_is keeps_limits b face _ d (λ n. refl) e
edit_limits b (MoveIsoNode n p) d good e = one_is keeps_limits (id_of b n) _ d (λ n. refl) e
edit_limits b (RemoveIsoNode n) d good e = one_is keeps_limits (id_of b n) _ d (λ n. refl) e
edit_limits b (AddIsoEdge s t line) d good e = two_is keeps_limits (id_of b s) (id_of b t) _ d (λ n m. new_line_short s t line good) e
edit_limits b (RemoveIsoEdge n) d good e = one_is keeps_limits (id_of b n) _ d (λ n. refl) e
edit_limits b (AddEdgeModFace s t line) d good e = two_is keeps_limits (id_of b s) (id_of b t) _ d (λ n m. new_line_short s t line good) e
edit_limits b (AddEdgeNewFaces s t line) d good e = two_is keeps_limits (id_of b s) (id_of b t) _ d (λ n m. new_line_short s t line good) e
edit_limits b (RemEdgeModFace n) d good e = one_is keeps_limits (id_of b n) _ d (λ n. refl) e
edit_limits b (RemEdgeNewFace n) d good e = one_is keeps_limits (id_of b n) _ d (λ n. refl) e
edit_limits b (ModEdgeSplit n p) d good e = one_is keeps_limits (id_of b n) _ d (λ n. refl) e
edit_limits b (NewEdgesSplit n p) d good e = one_is keeps_limits (id_of b n) _ d (λ n. refl) e
edit_limits b (ModEdgeHeal s t) d good e = two_is keeps_limits (id_of b s) (id_of b t) _ d (λ n m. refl) e
edit_limits b (NewEdgeHeal s t) d good e = two_is keeps_limits (id_of b s) (id_of b t) _ d (λ n m. refl) e
edit_limits b (AddLayer name kind child) d good e = given_is keeps_limits b child _ d (λ n. refl) e
edit_limits b (CreateTopoGeom l xs) d good e =
    let few = (and_parts (is_id_word l) (nat_le (length xs) 4096) (and_parts (is_id_word l && nat_le (length xs) 4096) (list_all is_named_pair xs) good).0).1 in
    list_is keeps_limits (id_of b l) (pairs_of b xs) _ d (λ n ys is. subst (λ k. IsTrue (nat_le k 4096)) (sym (pairs_length b xs ys is)) few) e
edit_limits b (AddElement t id type) d good e = three_is keeps_limits (id_of b t) (id_of b id) (id_of b type) _ d (λ n m k. refl) e
edit_limits b (RemElement t id type) d good e = three_is keeps_limits (id_of b t) (id_of b id) (id_of b type) _ d (λ n m k. refl) e
edit_limits b (DropFeature t) d good e = one_is keeps_limits (id_of b t) _ d (λ n. refl) e

-- ---- and so do those of a script
onto_keeps : (o : Option Edit) (es : List Edit) → ((d : Edit) → o ≡ Some d → IsTrue (keeps_limits d)) → IsTrue (list_all keeps_limits es) → IsTrue (list_all keeps_limits (onto_edits o es))
onto_keeps None es first rest = rest
onto_keeps (Some d) es first rest = and_from (keeps_limits d) (list_all keeps_limits es) (first d refl) rest

pub good_edit : (l : ScriptLine) → IsTrue (is_script_line l) → IsTrue (is_named_edit l.edit)
good_edit l good = (and_parts (list_all is_name l.names) (is_named_edit l.edit) good).1

pub edits_limits : (b : Names) (ls : List ScriptLine) (given : List Answer) → IsTrue (list_all is_script_line ls) → IsTrue (list_all keeps_limits (edits_given b ls given))
edits_limits b [] given good = refl
edits_limits b (l ∷ ls) [] good = refl
edits_limits b (l ∷ ls) (answer ∷ given) good =
    let parts = and_parts (is_script_line l) (list_all is_script_line ls) good in
    onto_keeps (resolve b l.edit) _ (λ d is. edit_limits b l.edit d (good_edit l parts.0) is) (edits_limits (bound b l.names (ids_of answer)) ls given parts.1)
