-- What is answered where two edges are to be healed.
use Rattle.std.proofs.Common.{◌≡◌, ℕ, refl, sym, ◌∙◌, ap, subst, Bool, true, false, not, cond, eqb-true, Option, Some, Result, Ok, Err, Bor}
use Rattle.std.specs.Option.{option_copied}
use Rattle.std.specs.List.{Contains}
use Rattle.topo_base.specs.declared.rows.EdgeRow.{EdgeRow}
use Rattle.topo_base.specs.declared.rule.Rule.TheVariants.{HealSplitsFeature, NoEdge, NodeInFeature}
use Rattle.drawing.specs.Drawing.{Drawing, Edge, edge_at}
use Rattle.drawing.specs.Edits.{heal_at, heal_edges}
use Rattle.drawing.specs.IsoEdits.{is_in_feature}
use Rattle.drawing.specs.Outcome.{Outcome}
use Rattle.drawing.specs.Relations.{edge_type, node_type}
use Rattle.drawing.specs.RemoveEdge.{have_same_features}
use Rattle.drawing.specs.Rows.{row_at}
use Rattle.drawing.specs.Tables.{Tables, drawn, drawn_edge, tables_of}
use Rattle.drawing.specs.Writes.{edge_row_id}
use Rattle.drawing_queries.proofs.RowTests.{edge_found, edge_none}
use Rattle.read_set.specs.declared.end.EditEnd.{EditEnd}
use Rattle.read_set.specs.Edited.{AnswersOutcome}
use Rattle.drawing.specs.Apply.{carried_out}
use Rattle.drawing.specs.Change.{EdgesAreJoined, EdgesAreJoinedAnew}
use Rattle.edge_heal.specs.Healing.{IsRowOf, heal_done_by}
use Rattle.read_set.specs.declared.edited.Edited.{Edited}
use Rattle.edge_split.proofs.SplitDrafts.{row_found}
use Rattle.edge_split.proofs.SplitPlans.{row_in}
use Rattle.drawing.specs.Step.{step}
use Rattle.topo_base.specs.declared.edit.Edit.{Edit}
use Rattle.topo_base.specs.declared.edit.Edit.TheVariants.{ModEdgeHeal, NewEdgeHeal}

-- ---- the edges
pub first_missing : (anew : Bool) (t x : Tables) (id : ℕ) (found : Option (Bor EdgeRow)) (other : Option Edge) → t ≡ x → ((row : Bor EdgeRow) → found ≡ Some row → ⊥) → option_copied found ≡ row_at edge_row_id t.edges id
    → heal_edges anew (drawn x) (edge_at (drawn x) id) other ≡ Err NoEdge
first_missing anew t x id found other same none e = ap (λ o. heal_edges anew (drawn x) o other) (edge_none x id found none (row_in t x id (option_copied found) same e))

pub edge_named : (t x : Tables) (id : ℕ) (found : Option (Bor EdgeRow)) (row : Bor EdgeRow) → t ≡ x → found ≡ Some row → option_copied found ≡ row_at edge_row_id t.edges id → edge_at (drawn x) id ≡ Some (drawn_edge (row.now))
edge_named t x id found row same is e = edge_found x id found row is (row_in t x id (option_copied found) same e)

pub second_missing : (anew : Bool) (t x : Tables) (id : ℕ) (found : Option (Bor EdgeRow)) (first : Edge) (other : Option Edge) → t ≡ x → other ≡ Some first → ((row : Bor EdgeRow) → found ≡ Some row → ⊥) → option_copied found ≡ row_at edge_row_id t.edges id
    → heal_edges anew (drawn x) other (edge_at (drawn x) id) ≡ Err NoEdge
second_missing anew t x id found first other same is none e =
    let missing = edge_none x id found none (row_in t x id (option_copied found) same e) in
    λ i. heal_edges anew (drawn x) (is i) (missing i)

pub row_there : (t x : Tables) (id : ℕ) (found : Option (Bor EdgeRow)) (row : Bor EdgeRow) → x ≡ tables_of (drawn x) → t ≡ x → found ≡ Some row → option_copied found ≡ row_at edge_row_id t.edges id → IsRowOf (drawn x) (row.now)
row_there t x id found row stands same is e =
    let there = row_found x id found row is (row_in t x id (option_copied found) same e) in
    record {
      there = subst (λ (u : Tables). Contains u.edges (row.now)) stands there.0;
      named = subst (λ n. edge_at (drawn x) n ≡ Some (drawn_edge (row.now))) (sym (eqb-true (row.now).edge_id id there.1)) (edge_named t x id found row same is e);
    }

pub answers_rows : (anew : Bool) (S : Drawing) (a b : Option Edge) (e f : Edge) (r : Result Edited EditEnd) → a ≡ Some e → b ≡ Some f → AnswersOutcome S (heal_edges anew S (Some e) (Some f)) r → AnswersOutcome S (heal_edges anew S a b) r
answers_rows anew S a b e f r first second h = subst (λ (o : Outcome). AnswersOutcome S o r) (λ i. heal_edges anew S (sym first i) (sym second i)) h

-- ---- features forbid it not
done_is : (anew : Bool) (S : Drawing) (e f : Edge) (n : ℕ) → carried_out S (cond anew (Ok (EdgesAreJoinedAnew e f n)) (Ok (EdgesAreJoined e f n))) ≡ Ok (heal_done_by anew S e f n)
done_is true S e f n = refl
done_is false S e f n = refl

pub accepted : (anew : Bool) (t x : Tables) (e f : Edge) (n : ℕ) → t ≡ x → have_same_features (drawn t) edge_type e.edge_id f.edge_id ≡ true → is_in_feature (drawn t) node_type n ≡ false
    → heal_at anew (drawn x) e f (Some n) ≡ Ok (heal_done_by anew (drawn x) e f n)
accepted anew t x e f n same shared unlisted =
    let S = drawn x in
    let alike = ap (λ (u : Tables). have_same_features (drawn u) edge_type e.edge_id f.edge_id) (sym same) ∙ shared in
    let free = ap (λ (u : Tables). is_in_feature (drawn u) node_type n) (sym same) ∙ unlisted in
    (λ i. carried_out S (cond (not (alike i)) (Err HealSplitsFeature) (cond (free i) (Err NodeInFeature) (cond anew (Ok (EdgesAreJoinedAnew e f n)) (Ok (EdgesAreJoined e f n)))))) ∙ done_is anew S e f n

-- which edit it is
abbrev pub edit_of : Bool → ℕ → ℕ → Edit
edit_of anew edge other = cond anew (NewEdgeHeal edge other) (ModEdgeHeal edge other)

pub step_of : (S : Drawing) (anew : Bool) (edge other : ℕ) → heal_edges anew S (edge_at S edge) (edge_at S other) ≡ step S (edit_of anew edge other)
step_of S true edge other = refl
step_of S false edge other = refl
