-- What a feature lists after its rows have followed elements that changed.
use Rattle.std.proofs.Common.{◌≡◌, ◌∙◌, ℕ, zero, suc, refl, sym, ap, subst, ◌⊎◌, inl, inr, ⊎_elim, Bool, true, false, cond, ◌&&◌, ◌==◌, eq-eqb, eqb-true, List, [], ◌∷◌, map, filter}
use Rattle.std.specs.Prelude.{◌↔◌, flat_map}
use Rattle.std.specs.List.{Contains}
use Rattle.std.proofs.lemmas.Bool.{and_from, and_parts, false≢true}
use Rattle.std.proofs.lemmas.List.Elements.{Contains-append_left, Contains-append_right}
use Rattle.topo_base.specs.declared.rows.RelationRow.{RelationRow}
use Rattle.drawing.specs.Drawing.{Drawing}
use Rattle.drawing.specs.Relations.{follow, followed, insert_row, is_among, lists_element, ordered, row_before, same_row, with_elements}
use Rattle.plane.proofs.ListTests.{contains_cases, contains_here, contains_none, contains_there}
use Rattle.drawing.proofs.Members.{contains-filter, contains-filtered, contains-map, contains-mapped}
use Rattle.relation_rows.proofs.Order.{same_element, same_topogeo}
use Rattle.reference_laws.proofs.Followed.{Came, in_ordered, came}
use Rattle.reference_laws.proofs.Followed.Came.{Stayed, Replaced}
use Rattle.topo_base.specs.Kinds.{kind_number}
use Rattle.topo_base.specs.declared.kind.Kind.{Kind}
use Rattle.reference_laws.proofs.KnownRows.{HasKnownRows}
use Rattle.point_laws.proofs.Levels.{HasLevel, above_rows}
use Rattle.point_laws.proofs.Primitive.{above_kind, other_kind, rows_list}

-- ---- rows that are put in order
record IsKept (rows : List RelationRow) (r : RelationRow) : Type 0 where
  row : RelationRow
  there : Contains rows row
  topogeo : row.topogeo_id ≡ r.topogeo_id
  element : row.element_id ≡ r.element_id

put_has : (a : RelationRow) (rows : List RelationRow) → IsKept (insert_row a rows) a
put_has a [] = record { row = a; there = contains_here a []; topogeo = refl; element = refl }
put_has a (b ∷ rows) = put_step a b rows (row_before a b) (same_row a b) refl (put_has a rows)
  where
    put_step : (a b : RelationRow) (rows : List RelationRow) (x y : Bool) → same_row a b ≡ y → IsKept (insert_row a rows) a → IsKept (cond x (a ∷ b ∷ rows) (cond y (b ∷ rows) (b ∷ insert_row a rows))) a
    put_step a b rows true y e k = record { row = a; there = contains_here a (b ∷ rows); topogeo = refl; element = refl }
    put_step a b rows false true e k = record { row = b; there = contains_here b rows; topogeo = sym (same_topogeo a b e); element = sym (same_element a b e) }
    put_step a b rows false false e k = record { row = k.row; there = contains_there k.row b (insert_row a rows) k.there; topogeo = k.topogeo; element = k.element }

keeps_step : (a b r : RelationRow) (rows : List RelationRow) (x y : Bool) → (Contains rows r → Contains (insert_row a rows) r) → Contains (b ∷ rows) r → Contains (cond x (a ∷ b ∷ rows) (cond y (b ∷ rows) (b ∷ insert_row a rows))) r
keeps_step a b r rows true y k c = contains_there r a (b ∷ rows) c
keeps_step a b r rows false true k c = c
keeps_step a b r rows false false k c =
    ⊎_elim (λ (e : b ≡ r). subst (Contains (b ∷ insert_row a rows)) e (contains_here b (insert_row a rows))) (λ (d : Contains rows r). contains_there r b (insert_row a rows) (k d)) (contains_cases r b rows c)

put_keeps : (a r : RelationRow) (rows : List RelationRow) → Contains rows r → Contains (insert_row a rows) r
put_keeps a r [] c = absurd (contains_none r c)
put_keeps a r (b ∷ rows) c = keeps_step a b r rows (row_before a b) (same_row a b) (put_keeps a r rows) c

ordered_has : (r : RelationRow) (rows : List RelationRow) → Contains rows r → IsKept (ordered rows) r
ordered_has r [] c = absurd (contains_none r c)
ordered_has r (a ∷ rows) c =
    ⊎_elim (λ (e : a ≡ r). subst (IsKept (insert_row a (ordered rows))) e (put_has a (ordered rows)))
    (λ (d : Contains rows r). let k = ordered_has r rows d in record { row = k.row; there = put_keeps a k.row (ordered rows) k.there; topogeo = k.topogeo; element = k.element })
    (contains_cases r a rows c)

in_flat : (f : RelationRow → List RelationRow) (q r : RelationRow) (rows : List RelationRow) → Contains rows q → Contains (f q) r → Contains (flat_map f rows) r
in_flat f q r [] c d = absurd (contains_none q c)
in_flat f q r (a ∷ rows) c d =
    ⊎_elim (λ (e : a ≡ q). Contains-append_left (f a) (flat_map f rows) r (subst (λ z. Contains (f z) r) (sym e) d)) (λ (k : Contains rows q). Contains-append_right (f a) (flat_map f rows) r (in_flat f q r rows k d)) (contains_cases q a rows c)

-- ---- what a feature lists by these rows
abbrev pub listed_in : List RelationRow → ℕ → List ℕ
listed_in rows u = map (λ (row : RelationRow). row.element_id) (filter (λ (row : RelationRow). row.topogeo_id == u) rows)

record Lists (rows : List RelationRow) (u w : ℕ) : Type 0 where
  row : RelationRow
  there : Contains rows row
  of : row.topogeo_id ≡ u
  element : row.element_id ≡ w

lists_out : (rows : List RelationRow) (u w : ℕ) → Contains (listed_in rows u) w → Lists rows u w
lists_out rows u w c =
    let (r, (i, is)) = contains-mapped (λ (row : RelationRow). row.element_id) w (filter (λ (row : RelationRow). row.topogeo_id == u) rows) c in
    let f = contains-filtered (λ (row : RelationRow). row.topogeo_id == u) r rows i in
    record { row = r; there = f.0; of = eqb-true r.topogeo_id u f.1; element = is }

lists_in : (rows : List RelationRow) (u w : ℕ) → Lists rows u w → Contains (listed_in rows u) w
lists_in rows u w l =
    subst (Contains (listed_in rows u)) l.element
    (contains-map (λ (row : RelationRow). row.element_id) l.row (filter (λ (row : RelationRow). row.topogeo_id == u) rows) (contains-filter (λ (row : RelationRow). row.topogeo_id == u) l.row rows l.there (eq-eqb l.row.topogeo_id u l.of)))

-- a row that follows a row of S
follows_row : (S : Drawing) (type : ℕ) (old new : List ℕ) (u w : ℕ) (q r : RelationRow) → Contains S.relations q → Contains (followed S type old new q) r → r.topogeo_id ≡ u → r.element_id ≡ w → Contains (listed_in (follow S type old new) u) w
follows_row S type old new u w q r c d of is =
    let k = ordered_has r (flat_map (followed S type old new) S.relations) (in_flat (followed S type old new) q r S.relations c d) in
    lists_in (follow S type old new) u w (record { row = k.row; there = k.there; of = k.topogeo ∙ of; element = k.element ∙ is })

-- a row that stays
stays : (S : Drawing) (type : ℕ) (old new : List ℕ) (u w : ℕ) (q : RelationRow) → Contains S.relations q → q.topogeo_id ≡ u → q.element_id ≡ w → (lists_element S type q.element_id q && is_among q.element_id old) ≡ false
    → Contains (listed_in (follow S type old new) u) w
stays S type old new u w q c of is far =
    follows_row S type old new u w q q c (subst (λ (b : Bool). Contains (cond b (with_elements new q) (q ∷ [])) q) (sym far) (contains_here q [])) of is

-- a feature none of whose rows is followed lists the same
pub listed_same : (S : Drawing) (type : ℕ) (old new : List ℕ) (u w : ℕ) → ((r : RelationRow) → Contains S.relations r → r.topogeo_id ≡ u → (lists_element S type r.element_id r && is_among r.element_id old) ≡ false)
    → Contains (listed_in S.relations u) w ↔ Contains (listed_in (follow S type old new) u) w
listed_same S type old new u w far = (
  λ c. let l = lists_out S.relations u w c in stays S type old new u w l.row l.there l.of l.element (far l.row l.there l.of),
  λ c.
      let l = lists_out (follow S type old new) u w c in
      by l.row l.of l.element (came S type old new S.relations l.row (in_ordered l.row (flat_map (followed S type old new) S.relations) l.there)),
)
  where
    by : (r : RelationRow) → r.topogeo_id ≡ u → r.element_id ≡ w → Came S type old new S.relations r → Contains (listed_in S.relations u) w
    by r of is (Stayed c h) = lists_in S.relations u w (record { row = r; there = c; of = of; element = is })
    by r of is (Replaced q c h id d e) = absurd (false≢true (sym (far q c (ap (λ (x : RelationRow). x.topogeo_id) e ∙ of)) ∙ h))

-- a feature that lists elements of the type lists the new ones for the old ones
pub listed_anew : (S : Drawing) (type : ℕ) (old new : List ℕ) (u w : ℕ) → ((r : RelationRow) → Contains S.relations r → r.topogeo_id ≡ u → lists_element S type r.element_id r ≡ true)
    → Contains (listed_in (follow S type old new) u) w ↔ ((Contains (listed_in S.relations u) w × (is_among w old ≡ false)) ⊎ (Contains new w × ((o : ℕ) × (Contains (listed_in S.relations u) o × (is_among o old ≡ true)))))
listed_anew S type old new u w lists = (
  λ c.
      let l = lists_out (follow S type old new) u w c in
      by l.row l.of l.element (came S type old new S.relations l.row (in_ordered l.row (flat_map (followed S type old new) S.relations) l.there)),
  λ k. ⊎_elim kept made k,
)
  where
    rest_false : (a b : Bool) → a ≡ true → (a && b) ≡ false → b ≡ false
    rest_false true b e h = h
    rest_false false b e h = absurd cc

    and_false : (a b : Bool) → b ≡ false → (a && b) ≡ false
    and_false true b h = h
    and_false false b h = refl

    by : (r : RelationRow) → r.topogeo_id ≡ u → r.element_id ≡ w → Came S type old new S.relations r
        → (Contains (listed_in S.relations u) w × (is_among w old ≡ false)) ⊎ (Contains new w × ((o : ℕ) × (Contains (listed_in S.relations u) o × (is_among o old ≡ true))))
    by r of is (Stayed c h) =
        inl (lists_in S.relations u w (record { row = r; there = c; of = of; element = is }), ap (λ n. is_among n old) (sym is) ∙ rest_false (lists_element S type r.element_id r) (is_among r.element_id old) (lists r c of) h)
    by r of is (Replaced q c h id d e) =
        inr (
          subst (Contains new) (ap (λ (x : RelationRow). x.element_id) e ∙ is) d,
          (q.element_id, (lists_in S.relations u q.element_id (record { row = q; there = c; of = ap (λ (x : RelationRow). x.topogeo_id) e ∙ of; element = refl }), (and_parts (lists_element S type q.element_id q) (is_among q.element_id old) h).1)),
        )

    kept : Contains (listed_in S.relations u) w × (is_among w old ≡ false) → Contains (listed_in (follow S type old new) u) w
    kept k =
        let l = lists_out S.relations u w k.0 in
        stays S type old new u w l.row l.there l.of l.element (and_false (lists_element S type l.row.element_id l.row) (is_among l.row.element_id old) (ap (λ n. is_among n old) l.element ∙ k.1))

    made : Contains new w × ((o : ℕ) × (Contains (listed_in S.relations u) o × (is_among o old ≡ true))) → Contains (listed_in (follow S type old new) u) w
    made (d, (o, (c, among))) =
        let l = lists_out S.relations u o c in
        let all : (lists_element S type l.row.element_id l.row && is_among l.row.element_id old) ≡ true =
        and_from (lists_element S type l.row.element_id l.row) (is_among l.row.element_id old) (lists l.row l.there l.of) (ap (λ n. is_among n old) l.element ∙ among) in
        follows_row S type old new u w l.row (record (l.row) { element_id = w }) l.there
        (subst (λ (b : Bool). Contains (cond b (with_elements new l.row) (l.row ∷ [])) (record (l.row) { element_id = w })) (sym all) (contains-map (λ id. record (l.row) { element_id = id }) w new d))
        l.of refl

-- ---- features that list other elements, and those above others
pub above_same_rows : (S : Drawing) (type : ℕ) (old new : List ℕ) (kind : Kind) (n u w : ℕ) → HasKnownRows S → HasLevel S kind (suc n) u → Contains (listed_in S.relations u) w ↔ Contains (listed_in (follow S type old new) u) w
above_same_rows S type old new kind n u w knows k = listed_same S type old new u w (λ r c of. above_kind S type r (is_among r.element_id old) (above_rows S kind n u knows k r c of))

pub other_same_rows : (S : Drawing) (type : ℕ) (old new : List ℕ) (kind : Kind) (u w : ℕ) → HasKnownRows S → (kind_number kind == type) ≡ false → HasLevel S kind zero u → Contains (listed_in S.relations u) w ↔ Contains (listed_in (follow S type old new) u) w
other_same_rows S type old new kind u w knows differ k = listed_same S type old new u w (λ r c of. other_kind S (kind_number kind) type r (is_among r.element_id old) differ (rows_list S kind u knows k r c of))
