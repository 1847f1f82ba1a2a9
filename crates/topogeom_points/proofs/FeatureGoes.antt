-- The writes of a feature that goes.
use Rattle.std.proofs.Common.{◌≡◌, ◌∙◌, ℕ, Bool, true, false, not, cond, ◌||◌, ◌==◌, List, [], ◌∷◌, ◌++◌, map, filter, append_assoc, refl, sym, ap, subst, Some, IsTrue}
use Rattle.std.specs.List.{list_any}
use Rattle.topo_base.specs.declared.rows.Counters.{Counters}
use Rattle.topo_base.specs.declared.rows.FeatureRow.{FeatureRow}
use Rattle.topo_base.specs.declared.rows.RelationRow.{RelationRow}
use Rattle.topo_base.specs.declared.write.RowId.TheVariants.{Old}
use Rattle.topo_base.specs.declared.write.RowWrite.{RowWrite}
use Rattle.topo_base.specs.declared.write.RowWrite.TheVariants.{DropFeature}
use Rattle.drawing.specs.Drawing.{Drawing, feature_at, feature_id_of}
use Rattle.drawing.specs.Edits.{drop_feature}
use Rattle.drawing.specs.Outcome.{the_feature}
use Rattle.drawing.specs.Relations.{lists_feature, same_row}
use Rattle.drawing.specs.Rows.{without_row}
use Rattle.drawing.specs.Tables.{Tables, tables_of}
use Rattle.drawing.specs.Writable.{CanWriteAll, has_feature_row}
use Rattle.drawing.specs.Writes.{all_written}
use Rattle.relation_rows.proofs.KnownFeatures.{references_parts}
use Rattle.relation_rows.proofs.Order.{same_itself, same_topogeo}
use Rattle.relation_rows.proofs.Putting.{AllAfter, Ascend, ascend_of, without, drop_same, drop_other, drop_none}
use Rattle.relation_rows.proofs.Writing.{with_rows}
use Rattle.read_set.specs.Edited.{Follows}
use Rattle.read_set.specs.declared.edited.Edited.{Edited}
use Rattle.read_set.specs.Ready.{IsReady}
use Rattle.topogeom_points.specs.Rows.{drop_write, feature_less, rows_go}

-- none of these rows is of the feature
abbrev Others : ℕ → List RelationRow → Type 0
Others f [] = Unit {0}
Others f (r ∷ rows) = ((r.topogeo_id == f) ≡ false) × Others f rows

others_more : (f : ℕ) (rows : List RelationRow) (r : RelationRow) → Others f rows → (r.topogeo_id == f) ≡ false → Others f (rows ++ r ∷ [])
others_more f [] r h e = (e, tt)
others_more f (s ∷ rows) r h e = (h.0, others_more f rows r h.1 e)

-- the rows of a feature, and the others
abbrev of_feature : ℕ → List RelationRow → List RelationRow
of_feature f rows = filter (λ (r : RelationRow). r.topogeo_id == f) rows

abbrev of_others : ℕ → List RelationRow → List RelationRow
of_others f rows = filter (λ (r : RelationRow). not (r.topogeo_id == f)) rows

apart : (f : ℕ) (r s : RelationRow) → (r.topogeo_id == f) ≡ true → (s.topogeo_id == f) ≡ false → same_row r s ≡ false
apart f r s is other = by (same_row r s) refl
  where
    by : (b : Bool) → same_row r s ≡ b → b ≡ false
    by false e = refl
    by true e =
        let same : r.topogeo_id ≡ s.topogeo_id = same_topogeo r s e in
        let both : (s.topogeo_id == f) ≡ true = ap (λ k. k == f) (sym same) ∙ is in
        absurd cc

-- a row of the feature goes from behind the others
drop_behind : (f : ℕ) (r : RelationRow) (front rows : List RelationRow) → (r.topogeo_id == f) ≡ true → Others f front → AllAfter r rows → without r (front ++ r ∷ rows) ≡ front ++ rows
drop_behind f r [] rows is others after = drop_same r r rows (same_itself r) ∙ drop_none r rows after
drop_behind f r (s ∷ front) rows is others after = drop_other r s (front ++ r ∷ rows) (apart f r s is others.0) ∙ ap (λ l. s ∷ l) (drop_behind f r front rows is others.1 after)

stands_behind : (r : RelationRow) (front rows : List RelationRow) → list_any (same_row r) (front ++ r ∷ rows) ≡ true
stands_behind r [] rows = ap (λ b. b || list_any (same_row r) rows) (same_itself r)
stands_behind r (s ∷ front) rows = or_end (same_row r s) (list_any (same_row r) (front ++ r ∷ rows)) (stands_behind r front rows)
  where
    or_end : (a b : Bool) → b ≡ true → (a || b) ≡ true
    or_end true b h = refl
    or_end false b h = h

-- some writes may be made before others, and lead from these tables to those
record Leads (n : Counters) (t u : Tables) (ws more : List RowWrite) : Type 0 where
  can : CanWriteAll n u more → CanWriteAll n t (ws ++ more)
  written : all_written n t (ws ++ more) ≡ all_written n u more

leads_one : (n : Counters) (t u : Tables) (r : RelationRow) (left rows : List RelationRow) (ws more : List RowWrite) → list_any (same_row r) rows ≡ true → without r rows ≡ left
    → Leads n (with_rows t left) u ws more → Leads n (with_rows t rows) u (drop_write r ∷ ws) more
leads_one n t u r left rows ws more there e rest =
    let next = subst (λ l. Leads n (with_rows t l) u ws more) (sym e) rest in
    record { can = λ h. ((tt, tt, tt, there), next.can h); written = next.written }

leads : (n : Counters) (t : Tables) (f : ℕ) (front rows : List RelationRow) (more : List RowWrite) → Ascend rows → Others f front
    → Leads n (with_rows t (front ++ rows)) (with_rows t (front ++ of_others f rows)) (rows_go f rows) more
leads n t f front [] more ascend others = record { can = λ h. h; written = refl }
leads n t f front (r ∷ rows) more ascend others =
    by (r.topogeo_id == f) refl (leads n t f front rows more ascend.1 others) (λ e. leads n t f (front ++ r ∷ []) rows more ascend.1 (others_more f front r others e))
  where
    by : (b : Bool) → (r.topogeo_id == f) ≡ b → Leads n (with_rows t (front ++ rows)) (with_rows t (front ++ of_others f rows)) (rows_go f rows) more
        → ((r.topogeo_id == f) ≡ false → Leads n (with_rows t ((front ++ r ∷ []) ++ rows)) (with_rows t ((front ++ r ∷ []) ++ of_others f rows)) (rows_go f rows) more)
        → Leads n (with_rows t (front ++ r ∷ rows)) (with_rows t (front ++ cond (not b) (r ∷ of_others f rows) (of_others f rows))) (map drop_write (cond b (r ∷ of_feature f rows) (of_feature f rows))) more
    by true e here further = leads_one n t (with_rows t (front ++ of_others f rows)) r (front ++ rows) (front ++ r ∷ rows) (rows_go f rows) more (stands_behind r front rows) (drop_behind f r front rows e others ascend.0) here
    by false e here further =
        subst (λ l. Leads n (with_rows t l) (with_rows t (front ++ r ∷ of_others f rows)) (rows_go f rows) more) (append_assoc front (r ∷ []) rows)
        (subst (λ l. Leads n (with_rows t ((front ++ r ∷ []) ++ rows)) (with_rows t l) (rows_go f rows) more) (append_assoc front (r ∷ []) (of_others f rows)) (further e))

-- ---- a feature goes
pub feature_goes : (S : Drawing) (f : ℕ) (d : Edited) → IsReady S → IsTrue (has_feature_row (tables_of S) f) → d.writes ≡ rows_go f S.relations ++ DropFeature (Old f) ∷ [] → d.ids ≡ the_feature f ∷ []
    → Follows S (feature_less S f) d
feature_goes S f d ready there writes ids =
    let n = S.next_ids in
    let all = leads n (tables_of S) f [] S.relations (DropFeature (Old f) ∷ []) (ascend_of S.relations (references_parts S ready.references).ascend) tt in
    record {
      done = record {
        drawing = record S { features = without_row feature_id_of S.features f; relations = of_others f S.relations };
        ids = the_feature f ∷ [];
      };
      accepted = refl;
      named = sym ids;
      writable = subst (λ ws. CanWriteAll n (tables_of S) ws) (sym writes) (all.can (there, tt));
      tables = ap (all_written n (tables_of S)) writes ∙ all.written;
    }

-- where no rule refuses
pub goes_where : (S : Drawing) (t : ℕ) (row : FeatureRow) → feature_at S t ≡ Some row → list_any (lists_feature S row.feature_id) S.relations ≡ false → drop_feature S (feature_at S t) ≡ feature_less S row.feature_id
goes_where S t row found free = rw (found, free) refl
