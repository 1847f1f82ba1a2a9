-- An element that is merged into one that is kept.
use Rattle.std.proofs.Common.{◌≡◌, ◌∙◌, ℕ, Bool, true, false, cond, ◌&&◌, ◌||◌, ◌==◌, List, [], ◌∷◌, ◌++◌, flat_map, refl, sym, ap, Result, Ok, Err}
use Rattle.std.specs.Result.{IfOk}
use Rattle.topo_base.specs.declared.rows.Counters.{Counters}
use Rattle.topo_base.specs.declared.rows.FeatureRow.{FeatureRow}
use Rattle.topo_base.specs.declared.rows.RelationRow.{RelationRow}
use Rattle.topo_base.specs.declared.write.RowWrite.{RowWrite}
use Rattle.drawing.specs.Drawing.{Drawing}
use Rattle.drawing.specs.Relations.{lists_element, followed, follow, ordered}
use Rattle.drawing.specs.Tables.{Tables, drawn}
use Rattle.drawing.specs.Writes.{all_written}
use Rattle.relation_rows.specs.Following.{AreFeaturesOf}
use Rattle.relation_rows.proofs.Replacing.{equal}
use Rattle.relation_rows.proofs.Writing.{with_rows}

either_way : {X : Type 0} (b : Bool) (x y : X) → x ≡ y → cond b x y ≡ y
either_way true x y h = h
either_way false x y h = refl

-- a row that lists the kept element stays
kept_at : (S : Drawing) (type kept gone : ℕ) (r : RelationRow) (b : Bool) → (kept == r.element_id) ≡ b → followed S type (kept ∷ gone ∷ []) (kept ∷ []) r ≡ followed S type (gone ∷ []) (kept ∷ []) r
kept_at S type kept gone r true h =
    let same : record r { element_id = kept } ∷ [] ≡ r ∷ [] = ap (λ id. record r { element_id = id } ∷ []) (equal kept r.element_id h) in
    either_way (lists_element S type r.element_id r && (kept == r.element_id || (gone == r.element_id || false))) (record r { element_id = kept } ∷ []) (r ∷ []) same
    ∙ sym (either_way (lists_element S type r.element_id r && (gone == r.element_id || false)) (record r { element_id = kept } ∷ []) (r ∷ []) same)
kept_at S type kept gone r false h =
    ap (λ b. cond (lists_element S type r.element_id r && (b || (gone == r.element_id || false))) (record r { element_id = kept } ∷ []) (r ∷ [])) h

kept_rows : (S : Drawing) (type kept gone : ℕ) (rows : List RelationRow) → flat_map (followed S type (kept ∷ gone ∷ []) (kept ∷ [])) rows ≡ flat_map (followed S type (gone ∷ []) (kept ∷ [])) rows
kept_rows S type kept gone [] = refl
kept_rows S type kept gone (r ∷ rows) =
    ap (λ rs. rs ++ flat_map (followed S type (kept ∷ gone ∷ []) (kept ∷ [])) rows) (kept_at S type kept gone r (kept == r.element_id) refl)
    ∙ ap (λ rs. followed S type (gone ∷ []) (kept ∷ []) r ++ rs) (kept_rows S type kept gone rows)

merged_is : (S : Drawing) (type kept gone : ℕ) → follow S type (gone ∷ []) (kept ∷ []) ≡ follow S type (kept ∷ gone ∷ []) (kept ∷ [])
merged_is S type kept gone = ap ordered (sym (kept_rows S type kept gone S.relations))

pub result_merged : {E : Type 0} (type kept gone : ℕ) (fs : List FeatureRow) (r : Result (List RowWrite) E)
    → IfOk r (λ (ws : List RowWrite). (n : Counters) (t : Tables) → AreFeaturesOf t type gone fs → all_written n t ws ≡ with_rows t (follow (drawn t) type (gone ∷ []) (kept ∷ [])))
    → IfOk r (λ (ws : List RowWrite). (n : Counters) (t : Tables) → AreFeaturesOf t type gone fs → all_written n t ws ≡ with_rows t (follow (drawn t) type (kept ∷ gone ∷ []) (kept ∷ [])))
result_merged type kept gone fs (Ok ws) h = λ n t k. h n t k ∙ ap (with_rows t) (merged_is (drawn t) type kept gone)
result_merged type kept gone fs (Err stop) h = tt
