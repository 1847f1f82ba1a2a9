-- What the writes of features that follow leave.
use Rattle.std.proofs.Common.{◌≡◌, ◌∙◌, ℕ, true, List, [], ◌∷◌, ◌++◌, map, flat_map, refl, ap, subst, Result, Ok, Err}
use Rattle.std.specs.List.{list_all}
use Rattle.std.specs.Result.{IfOk}
use Rattle.topo_base.specs.declared.rows.Counters.{Counters}
use Rattle.topo_base.specs.declared.rows.FeatureRow.{FeatureRow}
use Rattle.topo_base.specs.declared.rows.RelationRow.{RelationRow}
use Rattle.topo_base.specs.declared.write.RowWrite.{RowWrite}
use Rattle.drawing.specs.Relations.{lists_element, follow}
use Rattle.drawing.specs.Tables.{Tables, drawn}
use Rattle.drawing.specs.Writes.{written, all_written}
use Rattle.relation_rows.specs.Following.{row_goes, row_comes, replaced_by, has_layer_of, AreFeaturesOf}
use Rattle.relation_rows.proofs.Putting.{ascend_of, adds, without}
use Rattle.relation_rows.proofs.Replacing.{row_of, replaced, features_in, replaced_follows}

-- the tables with other relation rows
abbrev pub with_rows : Tables → List RelationRow → Tables
with_rows t rows = record t { relations = rows }

pub rows_come : (n : Counters) (t : Tables) (type : ℕ) (f : FeatureRow) (new : List ℕ) (more : List RowWrite)
    → all_written n t (map (row_comes type f) new ++ more) ≡ all_written n (with_rows t (adds (map (row_of type f) new) t.relations)) more
rows_come n t type f [] more = refl
rows_come n t type f (id ∷ new) more = rows_come n (written n t (row_comes type f id)) type f new more

pub rows_replaced : (n : Counters) (t : Tables) (type old : ℕ) (new : List ℕ) (fs : List FeatureRow)
    → all_written n t (flat_map (replaced_by type old new) fs) ≡ with_rows t (replaced type old new fs t.relations)
rows_replaced n t type old new [] = refl
rows_replaced n t type old new (f ∷ fs) =
    rows_come n (written n t (row_goes type old f)) type f new (flat_map (replaced_by type old new) fs)
    ∙ rows_replaced n (with_rows t (adds (map (row_of type f) new) (without (row_of type f old) t.relations))) type old new fs

pub rows_follow : (n : Counters) (t : Tables) (type old : ℕ) (new : List ℕ) (fs : List FeatureRow) → AreFeaturesOf t type old fs
    → all_written n t (flat_map (replaced_by type old new) fs) ≡ with_rows t (follow (drawn t) type (old ∷ []) new)
rows_follow n t type old new fs h =
    let all = features_in (lists_element (drawn t) type old) t.relations in
    let e : fs ≡ all = h.listed in
    ap (λ gs. all_written n t (flat_map (replaced_by type old new) gs)) e
    ∙ rows_replaced n t type old new all
    ∙ ap (with_rows t) (replaced_follows (drawn t) type old new t.relations (ascend_of t.relations h.ascend) (subst (λ gs. list_all (has_layer_of gs) t.relations ≡ true) e h.layers))

pub result_follows : {E : Type 0} (type old : ℕ) (new : List ℕ) (fs : List FeatureRow) (r : Result (List RowWrite) E) → IfOk r (λ (ws : List RowWrite). ws ≡ flat_map (replaced_by type old new) fs)
    → IfOk r (λ (ws : List RowWrite). (n : Counters) (t : Tables) → AreFeaturesOf t type old fs → all_written n t ws ≡ with_rows t (follow (drawn t) type (old ∷ []) new))
result_follows type old new fs (Ok ws) e = λ n t h. ap (all_written n t) e ∙ rows_follow n t type old new fs h
result_follows type old new fs (Err stop) e = tt
