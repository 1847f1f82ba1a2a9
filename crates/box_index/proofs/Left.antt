-- What is left of the entries from a place on.
use Rattle.std.proofs.Common.{◌≡◌, ◌≢◌, ◌∙◌, ℕ, ◌+◌, ◌<◌, ◌≤◌, ⊎_elim, List, [], ◌∷◌, Bool, true, false, cond, ◌&&◌, leb, filter, Some, None, nat_eq, sym, ap, subst, refl, arith, IsPermutation, IsTrue}
use Rattle.std.specs.List.{IsDistinct}
use Rattle.std.specs.Map.{lookup, keys_of, values_of}
use Rattle.std.specs.Cmp.{nat_eq_equiv}
use Rattle.std.proofs.lemmas.Bool.{eq-eqb, cases_lt, cases_eq, le-leb, lt-leb}
use Rattle.std.proofs.lemmas.Bool.Decides.{eqb_tells, leb_tells}
use Rattle.std.proofs.lemmas.Map.{lookup-none}
use Rattle.std.proofs.lemmas.Map.Entries.{none_past_head}
use Rattle.std.proofs.lemmas.Map.Keys.{IsDistinct-tail}
use Rattle.std.proofs.lemmas.List.Sorted.{IsPermutation-refl, IsPermutation-cons, IsPermutation-middle, IsPermutation-trans, IsPermutation-map}
use Rattle.box_index.specs.declared.entry.Entry.{Entry}
use Rattle.topo_base.specs.declared.rows.Box4.{Box4}
use Rattle.box_index.specs.Boxes.{meets}
use Rattle.box_index.specs.LooseGrid.{CellTable, IsLooseGrid, IsPast, entry_at, is_left, left_from, nearby}

abbrev Found : List (ℕ × Entry) → ℕ → Entry → Type 0
Found es q e = lookup (nat_eq q) es ≡ Some e

head_found : (p : ℕ × Entry) (ps : List (ℕ × Entry)) → Found (p ∷ ps) p.0 p.1
head_found p ps = rw (eq-eqb p.0 p.0 refl) refl

-- what is found in the rest is found, as its key is another
tail_found : (p : ℕ × Entry) (ps : List (ℕ × Entry)) → IsDistinct nat_eq (keys_of (p ∷ ps)) → (q : ℕ) (e : Entry) → Found ps q e → (q ≢ p.0) × Found (p ∷ ps) q e
tail_found p ps d q e found = ⊎_elim
    (λ yes.
    let no : lookup (nat_eq q) ps ≡ None = lookup-none (nat_eq q) ps (none_past_head nat_eq_equiv q p ps d yes.0) in
    let bad : None ≡ Some e = sym no ∙ found in
    cc)
    (λ no. (no.1, rw no.0 found))
    (eqb_tells q p.0)

pub agree : (f g : ℕ × Entry → Bool) (es : List (ℕ × Entry)) → IsDistinct nat_eq (keys_of es) → ((q : ℕ) (e : Entry) → Found es q e → f (q, e) ≡ g (q, e)) → filter f es ≡ filter g es
agree f g [] d same = refl
agree f g (p ∷ ps) d same =
    let rest = agree f g ps (IsDistinct-tail nat_eq p.0 (keys_of ps) d) (λ q e found. same q e (tail_found p ps d q e found).1) in
    let here : f p ≡ g p = same p.0 p.1 (head_found p ps) in
    ap (λ (b : Bool). cond b (p ∷ filter f ps) (filter f ps)) here ∙ ap (λ (xs : List (ℕ × Entry)). cond (g p) (p ∷ xs) xs) rest

leb_is : (a b c d : ℕ) → ((a ≤ b) → (c ≤ d)) → ((c ≤ d) → (a ≤ b)) → leb a b ≡ leb c d
leb_is a b c d to back = ⊎_elim
    (λ yes. yes.0 ∙ sym (le-leb c d (to yes.1)))
    (λ no. no.0 ∙ sym (lt-leb c d (less no.1)))
    (leb_tells a b)
  where
    less : b < a → d < c
    less h = ⊎_elim (λ below. below) (λ above. absurd (omega (arith, back above))) (cases_lt d c)

both_no : (a b : Bool) → (a && false) ≡ (b && false)
both_no true true = refl
both_no true false = refl
both_no false true = refl
both_no false false = refl

-- no entry that meets the area stands between the two places
pub left_same : (i : CellTable) (area : Box4) (p q : ℕ) → IsLooseGrid i → p ≤ q → IsPast i area p q → left_from i area p ≡ left_from i area q
left_same i area p q h le past =
    ap values_of (agree (is_left area p) (is_left area q) i.entries h.unique (λ r e found. each r e found (meets e.bounds area) refl))
  where
    each : (r : ℕ) (e : Entry) → Found i.entries r e → (b : Bool) → meets e.bounds area ≡ b → (leb p r && meets e.bounds area) ≡ (leb q r && meets e.bounds area)
    each r e found true is = rw is (ap (λ (b : Bool). b && true) (leb_is p r q r (λ below. past.none r e found is below) (λ below. omega arith)))
    each r e found false is = rw is (both_no (leb p r) (leb q r))

none_pass : (es : List (ℕ × Entry)) → filter (λ _. false) es ≡ []
none_pass [] = refl
none_pass (p ∷ ps) = none_pass ps

-- nothing is left, where each entry that meets the area stands before
pub left_none : (i : CellTable) (area : Box4) (p : ℕ) → IsLooseGrid i → ((r : ℕ) (e : Entry) → entry_at i r ≡ Some e → IsTrue (meets e.bounds area) → p ≤ r → ⊥) → left_from i area p ≡ []
left_none i area p h none =
    ap values_of (agree (is_left area p) (λ _. false) i.entries h.unique (λ r e found. each r e found (meets e.bounds area) refl) ∙ none_pass i.entries)
  where
    each : (r : ℕ) (e : Entry) → Found i.entries r e → (b : Bool) → meets e.bounds area ≡ b → (leb p r && meets e.bounds area) ≡ false
    each r e found true is = rw is (ap (λ (b : Bool). b && true) (lt-leb p r (⊎_elim (λ below. below) (λ above. absurd (none r e found is above)) (cases_lt r p))))
    each r e found false is = rw is (both_no (leb p r) false)

step : (c b : Bool) (p x : ℕ × Entry) (ls rs : List (ℕ × Entry)) → c ≡ b → IsPermutation ls (x ∷ rs) → IsPermutation (cond c (p ∷ ls) ls) (x ∷ cond b (p ∷ rs) rs)
step c true p x ls rs same moved =
    let P : Bool → Type 0 = λ c. IsPermutation (cond c (p ∷ ls) ls) (x ∷ p ∷ rs) in
    subst P (sym same) (IsPermutation-trans (p ∷ ls) (p ∷ x ∷ rs) (x ∷ p ∷ rs) (IsPermutation-cons p ls (x ∷ rs) moved) (IsPermutation-middle (p ∷ []) x rs))
step c false p x ls rs same moved =
    let P : Bool → Type 0 = λ c. IsPermutation (cond c (p ∷ ls) ls) (x ∷ rs) in
    subst P (sym same) moved

module _ (area : Box4) (q : ℕ) (e : Entry) where
  moves_on : (r : ℕ) → r ≢ q → leb q r ≡ leb (q + 1) r
  moves_on r other = leb_is q r (q + 1) r (λ h. omega arith) (λ h. omega arith)

  pops : (es : List (ℕ × Entry)) → IsDistinct nat_eq (keys_of es) → Found es q e → meets e.bounds area ≡ true
      → IsPermutation (filter (is_left area q) es) ((q, e) ∷ filter (is_left area (q + 1)) es)
  pops [] d found meet = absurd (let bad : None ≡ Some e = found in cc)
  pops (p ∷ ps) d found meet = ⊎_elim
      (λ yes.
      let at : Some p.1 ≡ Some e = rw yes.0 at found in
      let same : p.1 ≡ e = cc in
      let yes_here : is_left area q p ≡ true = rw (same, meet, le-leb q p.0 (omega (arith, yes.1))) refl in
      let not_here : is_left area (q + 1) p ≡ false = rw (lt-leb (q + 1) p.0 (omega (arith, yes.1))) refl in
      let rest : filter (is_left area q) ps ≡ filter (is_left area (q + 1)) ps
      = agree (is_left area q) (is_left area (q + 1)) ps (IsDistinct-tail nat_eq p.0 (keys_of ps) d)
      (λ r x here. ap (λ (b : Bool). b && meets x.bounds area) (moves_on r (λ is. (tail_found p ps d r x here).0 (is ∙ yes.1)))) in
      let whole : p ≡ (q, e) = λ i. (sym yes.1 i, same i) in
      let first : filter (is_left area q) (p ∷ ps) ≡ (q, e) ∷ filter (is_left area (q + 1)) ps
      = ap (λ (b : Bool). cond b (p ∷ filter (is_left area q) ps) (filter (is_left area q) ps)) yes_here
      ∙ ap (λ (xs : List (ℕ × Entry)). p ∷ xs) rest ∙ ap (λ (x : ℕ × Entry). x ∷ filter (is_left area (q + 1)) ps) whole in
      let second : filter (is_left area (q + 1)) (p ∷ ps) ≡ filter (is_left area (q + 1)) ps
      = ap (λ (b : Bool). cond b (p ∷ filter (is_left area (q + 1)) ps) (filter (is_left area (q + 1)) ps)) not_here in
      let P : List (ℕ × Entry) → Type 0 = λ xs. IsPermutation (filter (is_left area q) (p ∷ ps)) xs in
      subst P (first ∙ ap (λ (xs : List (ℕ × Entry)). (q, e) ∷ xs) (sym second)) (IsPermutation-refl (filter (is_left area q) (p ∷ ps))))
      (λ no.
      let there : Found ps q e = rw no.0 at found in
      step (is_left area q p) (is_left area (q + 1) p) p (q, e) (filter (is_left area q) ps) (filter (is_left area (q + 1)) ps)
      (ap (λ (b : Bool). b && meets p.1.bounds area) (moves_on p.0 (λ is. no.1 (sym is))))
      (pops ps (IsDistinct-tail nat_eq p.0 (keys_of ps) d) there meet))
      (eqb_tells q p.0)

-- the entry at a place is the next
pub left_pops : (i : CellTable) (area : Box4) (q : ℕ) (e : Entry) → IsLooseGrid i → entry_at i q ≡ Some e → IsTrue (meets e.bounds area) → IsPermutation (left_from i area q) (e ∷ left_from i area (q + 1))
left_pops i area q e h found meet =
    IsPermutation-map (λ (p : ℕ × Entry). p.1) (filter (is_left area q) i.entries) ((q, e) ∷ filter (is_left area (q + 1)) i.entries) (pops area q e i.entries h.unique found meet)

-- an entry that does not meet the area is passed
pub left_passes : (i : CellTable) (area : Box4) (q : ℕ) (e : Entry) → IsLooseGrid i → entry_at i q ≡ Some e → meets e.bounds area ≡ false → left_from i area q ≡ left_from i area (q + 1)
left_passes i area q e h found away = left_same i area q (q + 1) h (omega arith) (record { none = λ r x there meet low. later r x there meet low })
  where
    later : (r : ℕ) (x : Entry) → entry_at i r ≡ Some x → IsTrue (meets x.bounds area) → q ≤ r → q + 1 ≤ r
    later r x there meet low = ⊎_elim
        (λ is.
        let both : Some x ≡ Some e = sym there ∙ ap (entry_at i) (sym is) ∙ found in
        let same : x ≡ e = cc in
        let both_yes : meets e.bounds area ≡ true = ap (λ (y : Entry). meets y.bounds area) (sym same) ∙ meet in
        absurd (let bad : false ≡ true = sym away ∙ both_yes in cc))
        (λ other. omega arith)
        (cases_eq q r)

-- from the first place on stands all
pub left_whole : (i : CellTable) (area : Box4) → left_from i area 0 ≡ nearby i area
left_whole i area = each i.entries
  where
    one : (p : ℕ × Entry) (es : List (ℕ × Entry)) (b : Bool) → values_of (cond b (p ∷ es) es) ≡ cond b (p.1 ∷ values_of es) (values_of es)
    one p es true = refl
    one p es false = refl

    each : (es : List (ℕ × Entry)) → values_of (filter (is_left area 0) es) ≡ filter (λ e. meets e.bounds area) (values_of es)
    each [] = refl
    each (p ∷ ps) =
        one p (filter (is_left area 0) ps) (is_left area 0 p)
        ∙ ap (λ (b : Bool). cond (b && meets p.1.bounds area) (p.1 ∷ values_of (filter (is_left area 0) ps)) (values_of (filter (is_left area 0) ps))) (le-leb 0 p.0 (omega arith))
        ∙ ap (λ (xs : List Entry). cond (meets p.1.bounds area) (p.1 ∷ xs) xs) (each ps)
