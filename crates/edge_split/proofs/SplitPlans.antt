-- What is answered where an edge is to be split.
use Rattle.std.proofs.Common.{◌≡◌, ℕ, refl, sym, ◌∙◌, ap, subst, Bool, true, false, not, cond, Option, Some, Result, Ok, Err, Bor}
use Rattle.std.specs.Prelude.{is_ok}
use Rattle.std.specs.Option.{option_copied}
use Rattle.topo_base.specs.Point.{Point}
use Rattle.topo_base.specs.declared.rows.EdgeRow.{EdgeRow}
use Rattle.topo_base.specs.declared.rule.Rule.TheVariants.{NoEdge, NotOnEdge}
use Rattle.drawing.specs.Drawing.{Drawing, Edge, edge_at}
use Rattle.plane.specs.Line.{is_inside_line}
use Rattle.plane.specs.LinePoints.{has_proper_segments}
use Rattle.drawing.specs.Outcome.{Accepted, Outcome}
use Rattle.drawing.specs.Plain.{IsPlain}
use Rattle.drawing.specs.Rows.{row_at}
use Rattle.drawing.specs.Edits.{split_edge}
use Rattle.drawing.specs.Tables.{Tables, drawn, drawn_edge, tables_of}
use Rattle.drawing.specs.Writes.{edge_row_id}
use Rattle.drawing_queries.proofs.RowTests.{edge_found, edge_none}
use Rattle.read_set.specs.declared.end.EditEnd.{EditEnd}
use Rattle.read_set.specs.declared.end.EditEnd.TheVariants.{Memory}
use Rattle.read_set.specs.Edited.{AnswersOutcome}
use Rattle.drawing.specs.Apply.{carried_out}
use Rattle.drawing.specs.Change.{EdgeIsCut, EdgeIsCutAnew}
use Rattle.edge_split.specs.Splitting.{IsCut, done_by}
use Rattle.read_set.specs.declared.edited.Edited.{Edited}
use Rattle.edge_split.proofs.SplitDrafts.{cut_of, proper_line}
use Rattle.drawing.specs.Step.{step}
use Rattle.topo_base.specs.declared.edit.Edit.{Edit}
use Rattle.topo_base.specs.declared.edit.Edit.TheVariants.{ModEdgeSplit, NewEdgesSplit}

pub row_in : (t x : Tables) (id : ℕ) (o : Option EdgeRow) → t ≡ x → o ≡ row_at edge_row_id t.edges id → o ≡ row_at edge_row_id x.edges id
row_in t x id o same e = e ∙ ap (λ (u : Tables). row_at edge_row_id u.edges id) same

pub no_edge : (anew : Bool) (t x : Tables) (id : ℕ) (found : Option (Bor EdgeRow)) (p : Point) → t ≡ x → ((row : Bor EdgeRow) → found ≡ Some row → ⊥) → option_copied found ≡ row_at edge_row_id t.edges id → split_edge anew (drawn x) (edge_at (drawn x) id) p ≡ Err NoEdge
no_edge anew t x id found p same none e = ap (λ o. split_edge anew (drawn x) o p) (edge_none x id found none (row_in t x id (option_copied found) same e))

pub proper_there : (t x : Tables) (id : ℕ) (found : Option (Bor EdgeRow)) (row : Bor EdgeRow) → IsPlain (drawn x) → t ≡ x → found ≡ Some row → option_copied found ≡ row_at edge_row_id t.edges id → has_proper_segments (row.now).geom ≡ true
proper_there t x id found row plain same is e = proper_line x id found row plain is (row_in t x id (option_copied found) same e)

pub cut_there : (t x : Tables) (id : ℕ) (found : Option (Bor EdgeRow)) (row : Bor EdgeRow) (p : Point) → x ≡ tables_of (drawn x) → t ≡ x → found ≡ Some row → option_copied found ≡ row_at edge_row_id t.edges id → is_inside_line p (row.now).geom ≡ true → IsCut (drawn x) (row.now) p
cut_there t x id found row p stands same is e inside = cut_of x id found row p stands is (row_in t x id (option_copied found) same e) inside

pub not_on_edge : (anew : Bool) (t x : Tables) (id : ℕ) (found : Option (Bor EdgeRow)) (row : Bor EdgeRow) (p : Point) → t ≡ x → found ≡ Some row → option_copied found ≡ row_at edge_row_id t.edges id → is_inside_line p (row.now).geom ≡ false
    → split_edge anew (drawn x) (edge_at (drawn x) id) p ≡ Err NotOnEdge
not_on_edge anew t x id found row p same is e outside =
    let S = drawn x in
    ap (λ o. split_edge anew S o p) (edge_found x id found row is (row_in t x id (option_copied found) same e))
    ∙ ap (λ b. carried_out S (cond (not b) (Err NotOnEdge) (cond anew (Ok (EdgeIsCutAnew (drawn_edge (row.now)) p)) (Ok (EdgeIsCut (drawn_edge (row.now)) p))))) outside

done_is : (anew : Bool) (S : Drawing) (e : Edge) (p : Point) → carried_out S (cond anew (Ok (EdgeIsCutAnew e p)) (Ok (EdgeIsCut e p))) ≡ Ok (done_by anew S e p)
done_is true S e p = refl
done_is false S e p = refl

pub accepted : (anew : Bool) (t x : Tables) (id : ℕ) (found : Option (Bor EdgeRow)) (row : Bor EdgeRow) (p : Point) → t ≡ x → found ≡ Some row → option_copied found ≡ row_at edge_row_id t.edges id → is_inside_line p (row.now).geom ≡ true
    → split_edge anew (drawn x) (edge_at (drawn x) id) p ≡ Ok (done_by anew (drawn x) (drawn_edge (row.now)) p)
accepted anew t x id found row p same is e inside =
    let S = drawn x in
    ap (λ o. split_edge anew S o p) (edge_found x id found row is (row_in t x id (option_copied found) same e))
    ∙ ap (λ b. carried_out S (cond (not b) (Err NotOnEdge) (cond anew (Ok (EdgeIsCutAnew (drawn_edge (row.now)) p)) (Ok (EdgeIsCut (drawn_edge (row.now)) p))))) inside
    ∙ done_is anew S (drawn_edge (row.now)) p

-- which edit it is
abbrev pub edit_of : Bool → ℕ → Point → Edit
edit_of anew edge p = cond anew (NewEdgesSplit edge p) (ModEdgeSplit edge p)

pub step_of : (S : Drawing) (anew : Bool) (edge : ℕ) (p : Point) → split_edge anew S (edge_at S edge) p ≡ step S (edit_of anew edge p)
step_of S true edge p = refl
step_of S false edge p = refl
