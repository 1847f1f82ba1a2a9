-- Shells that are counted for each face.
use Rattle.std.proofs.Common.{◌≡◌, ◌∙◌, ℕ, suc, ◌+◌, ◌<◌, ◌≤◌, ◌==◌, ◌||◌, ◌&&◌, Bool, true, false, cond, IsTrue, List, [], ◌∷◌, ◌++◌, append_assoc, flat_map, length, map, take, get_or, replicate, nat_lt, refl, sym, ap, subst, arith, lt-ltb, ltb-true, ne_eqb, None}
use Rattle.std.specs.Prelude.{slice_get, slice_set, min}
use Rattle.std.specs.List.{list_any}
use Rattle.std.proofs.lemmas.Bool.{eqb-true, false_from_ne_true}
use Rattle.std.proofs.lemmas.List.{get_or-map, length-map, take_all}
use Rattle.std.proofs.lemmas.List.Folds.{list_any-append}
use Rattle.std.proofs.lemmas.List.Sums.{count_by_more_no, count_by_more_yes}
use Rattle.topo_base.specs.declared.rows.FaceRow.{FaceRow}
use Rattle.drawing.specs.HalfEdge.{HalfEdge}
use Rattle.drawing.specs.Ring.{is_shell}
use Rattle.drawing.specs.Rows.{row_at}
use Rattle.drawing.specs.Subdivision.{is_shell_of}
use Rattle.drawing.specs.Tables.{universal_face}
use Rattle.validate_topology.specs.Ascending.{numbers_ascend}
use Rattle.validate_topology.specs.RingLines.{shells_of}
use Rattle.validate_topology.specs.Tallies.{AreTallies, counted, with_face, with_ring}
use Rattle.validate_topology.specs.Walks.{IsWalk, ring_in}
use Rattle.validate_topology.specs.declared.lines.ReportLine.{ReportLine}
use Rattle.validate_topology.specs.declared.ring_lines.Tally.{Tally}
use Rattle.validate_topology.specs.declared.walks.Walk.{Walk}
use Rattle.validate_topology.proofs.Marked.{flat_more, none_by, others_stay, set_by, turned_test, value_by}

abbrev number : FaceRow → ℕ
number f = f.face_id

-- ---- a ring that is counted for one face
pub zero_counted : (faces : List FaceRow) (tally : ℕ → Tally) (tallies : List Tally) (ring face : ℕ) (old new : Tally) → IsTrue (numbers_ascend number 0 faces) → face ≡ 0 → old ≡ get_or tallies 0 old → new ≡ counted ring old
    → AreTallies tally faces tallies → AreTallies (with_face ring face tally) faces (slice_set tallies 0 new)
zero_counted faces tally tallies ring face old new up none is made are =
    subst (λ f. AreTallies (with_face ring f tally) faces (slice_set tallies 0 new)) (sym none)
    (ap (λ ts. slice_set ts 0 new) are
    ∙ (λ i. value i ∷ others_stay number 0 faces tally 0 (counted ring (tally 0)) up (omega arith) i))
  where
    value : new ≡ counted ring (tally 0)
    value = made ∙ ap (counted ring) (is ∙ ap (λ ts. get_or ts 0 old) are)

pub none_counted : (faces : List FaceRow) (tally : ℕ → Tally) (tallies : List Tally) (ring face : ℕ) → (face ≡ 0 → ⊥) → row_at number faces face ≡ None
    → AreTallies tally faces tallies → AreTallies (with_face ring face tally) faces tallies
none_counted faces tally tallies ring face some none are =
    are ∙ (λ i. sym (ap (λ b. cond b (counted ring (tally face)) (tally 0)) (ne_eqb 0 face (λ e. some (sym e)))) i ∷ none_by number faces tally face (counted ring (tally face)) none i)

pub place_counted : (faces : List FaceRow) (tally : ℕ → Tally) (tallies : List Tally) (ring face place : ℕ) (old new : Tally) → IsTrue (numbers_ascend number 0 faces) → (face ≡ 0 → ⊥) → place < length faces
    → row_at number faces face ≡ slice_get faces place → old ≡ get_or tallies (place + 1) old → new ≡ counted ring old → AreTallies tally faces tallies → AreTallies (with_face ring face tally) faces (slice_set tallies (place + 1) new)
place_counted faces tally tallies ring face place old new up some w there is made are =
    ap (λ ts. slice_set ts (place + 1) new) are
    ∙ ap (λ n. slice_set (map (λ (f : FaceRow). tally f.face_id) (universal_face ∷ faces)) n new) one
    ∙ (λ i. sym (ap (λ b. cond b (counted ring (tally face)) (tally 0)) (ne_eqb 0 face (λ e. some (sym e)))) i ∷ behind i)
  where
    one : place + 1 ≡ suc place
    one = omega arith

    value : new ≡ counted ring (tally face)
    value = made ∙ ap (counted ring) (is ∙ ap (λ ts. get_or ts (place + 1) old) are ∙ ap (λ n. get_or (map (λ (f : FaceRow). tally f.face_id) (universal_face ∷ faces)) n old) one ∙ value_by number faces tally face place old w there)

    behind : slice_set (map (λ (f : FaceRow). tally f.face_id) faces) place new ≡ map (λ (f : FaceRow). with_face ring face tally f.face_id) faces
    behind = ap (slice_set (map (λ (f : FaceRow). tally f.face_id) faces) place) value ∙ set_by number 0 faces tally face place (counted ring (tally face)) up w there

-- ---- a ring that is counted for each face beside it
counted_once : (ring : ℕ) (t : Tally) → counted ring (counted ring t) ≡ counted ring t
counted_once ring t = by (nat_lt ring t.until) refl
  where
    n : Tally
    n = record { count = min (t.count + 1) 18446744073709551615; until = ring + 1 }

    by : (b : Bool) → nat_lt ring t.until ≡ b → counted ring (counted ring t) ≡ counted ring t
    by true e = ap (counted ring) (ap (λ b. cond b t n) e)
    by false e =
        let is : counted ring t ≡ n = ap (λ b. cond b t n) e in
        ap (counted ring) is ∙ ap (λ b. cond b n (record { count = min (n.count + 1) 18446744073709551615; until = ring + 1 })) (lt-ltb ring (ring + 1) (omega arith)) ∙ sym is

with_more : (ring : ℕ) (hs : List HalfEdge) (h : HalfEdge) (tally : ℕ → Tally) (f : ℕ) → with_face ring h.on_left (with_ring ring hs tally) f ≡ with_ring ring (hs ++ h ∷ []) tally f
with_more ring hs h tally f = by (f == h.on_left) refl ∙ sym (ap (λ b. cond b (counted ring (tally f)) (tally f)) (list_any-append (λ (k : HalfEdge). k.on_left == f) hs (h ∷ []) ∙ ap (λ b. any f || (b || false)) (turned_test h.on_left f)))
  where
    any : ℕ → Bool
    any g = list_any (λ (k : HalfEdge). k.on_left == g) hs

    once : (a : Bool) → counted ring (cond a (counted ring (tally f)) (tally f)) ≡ cond (a || (true || false)) (counted ring (tally f)) (tally f)
    once true = counted_once ring (tally f)
    once false = refl

    none : (a : Bool) → cond a (counted ring (tally f)) (tally f) ≡ cond (a || (false || false)) (counted ring (tally f)) (tally f)
    none true = refl
    none false = refl

    by : (b : Bool) → (f == h.on_left) ≡ b → with_face ring h.on_left (with_ring ring hs tally) f ≡ cond (any f || ((f == h.on_left) || false)) (counted ring (tally f)) (tally f)
    by true e =
        ap (λ b. cond b (counted ring (with_ring ring hs tally h.on_left)) (with_ring ring hs tally f)) e
        ∙ ap (λ g. counted ring (with_ring ring hs tally g)) (sym (eqb-true f h.on_left e))
        ∙ once (any f)
        ∙ ap (λ b. cond (any f || (b || false)) (counted ring (tally f)) (tally f)) (sym e)
    by false e =
        ap (λ b. cond b (counted ring (with_ring ring hs tally h.on_left)) (with_ring ring hs tally f)) e
        ∙ none (any f)
        ∙ ap (λ b. cond (any f || (b || false)) (counted ring (tally f)) (tally f)) (sym e)

pub ring_more : (ring : ℕ) (hs more : List HalfEdge) (h : HalfEdge) (tally : ℕ → Tally) (faces : List FaceRow) (tallies : List Tally) → more ≡ hs ++ h ∷ []
    → AreTallies (with_face ring h.on_left (with_ring ring hs tally)) faces tallies → AreTallies (with_ring ring more tally) faces tallies
ring_more ring hs more h tally faces tallies is are =
    are ∙ (λ i. map (λ (f : FaceRow). (with_more ring hs h tally f.face_id ∙ ap (λ (ks : List HalfEdge). with_ring ring ks tally f.face_id) (sym is)) i) (universal_face ∷ faces))

-- ---- all rings so far
pub record AreCounted (faces : List FaceRow) (walks : List Walk) (n : ℕ) (tallies : List Tally) : Type 0 where
  pub tally : ℕ → Tally
  pub are : AreTallies tally faces tallies
  pub count : (f : ℕ) → (tally f).count ≡ shells_of (take n (map ring_in walks)) f
  pub until : (f : ℕ) → (tally f).until ≤ n
  pub few : (f : ℕ) → (tally f).count ≤ n

abbrev no_tally : Tally
no_tally = record { count = 0; until = 0 }

pub none_yet : (faces : List FaceRow) (walks : List Walk) (tallies : List Tally) → tallies ≡ replicate (length faces + 1) (record { count = 0; until = 0 }) → AreCounted faces walks 0 tallies
none_yet faces walks tallies is =
    let one : length faces + 1 ≡ suc (length faces) = omega arith in
    record {
      tally = λ f. record { count = 0; until = 0 };
      are = is ∙ ap (λ n. replicate n no_tally) one ∙ ap (λ ts. no_tally ∷ ts) (all faces);
      count = λ f. refl;
      until = λ f. omega arith;
      few = λ f. omega arith;
    }
  where
    all : (rows : List FaceRow) → replicate (length rows) no_tally ≡ map (λ (f : FaceRow). no_tally) rows
    all [] = refl
    all (r ∷ rows) = ap (λ ts. no_tally ∷ ts) (all rows)

ring_at : (walks : List Walk) (n : ℕ) (w : Walk) → n < length walks → w ≡ get_or walks n w → get_or (map ring_in walks) n (ring_in w) ≡ ring_in w
ring_at walks n w below is = get_or-map ring_in walks n w (ring_in w) below ∙ ap ring_in (sym is)

not_less : (n k : ℕ) → k ≤ n → nat_lt n k ≡ false
not_less n k h = false_from_ne_true (nat_lt n k) (λ t. let l = ltb-true n k t in omega arith)

and_off : (a b : Bool) → b ≡ false → (a && b) ≡ false
and_off true b e = e
and_off false b e = refl

pub hole_counted : (faces : List FaceRow) (walks : List Walk) (n : ℕ) (tallies : List Tally) (w : Walk) → n < length walks → w ≡ get_or walks n w → IsWalk w → w.is_shell ≡ false → AreCounted faces walks n tallies → AreCounted faces walks (n + 1) tallies
hole_counted faces walks n tallies w below is walk off c =
    let long = length-map walks ring_in in
    record {
      tally = c.tally;
      are = c.are;
      count = λ f. c.count f
          ∙ sym (count_by_more_no (is_shell_of f) (map ring_in walks) n (ring_in w) (omega arith)
          (ap (is_shell_of f) (ring_at walks n w below is) ∙ and_off (list_any (λ (h : HalfEdge). h.on_left == f) (ring_in w)) (is_shell (ring_in w)) (sym walk.shell ∙ off)));
      until = λ f. let u = c.until f in omega arith;
      few = λ f. let u = c.few f in omega arith;
    }

pub shell_counted : (faces : List FaceRow) (walks : List Walk) (n : ℕ) (tallies : List Tally) (w : Walk) (old : AreCounted faces walks n tallies) (new : List Tally) → n < length walks → n + 1 < 18446744073709551616 → w ≡ get_or walks n w → IsWalk w → w.is_shell ≡ true
    → AreTallies (with_ring n (ring_in w) old.tally) faces new → AreCounted faces walks (n + 1) new
shell_counted faces walks n tallies w old new below small is walk on are = record {
  tally = with_ring n (ring_in w) old.tally;
  are = are;
  count = λ f. (by f (beside f) refl).0;
  until = λ f. (by f (beside f) refl).1;
  few = λ f. (by f (beside f) refl).2;
}
  where
    beside : ℕ → Bool
    beside f = list_any (λ (h : HalfEdge). h.on_left == f) (ring_in w)

    so : (f : ℕ) (b : Bool) → beside f ≡ b → is_shell_of f (get_or (map ring_in walks) n (ring_in w)) ≡ b
    so f b e = ap (is_shell_of f) (ring_at walks n w below is) ∙ (λ i. beside f && (sym walk.shell ∙ on) i) ∙ and_on (beside f) ∙ e
      where
        and_on : (a : Bool) → (a && true) ≡ a
        and_on true = refl
        and_on false = refl

    by : (f : ℕ) (b : Bool) → beside f ≡ b → ((with_ring n (ring_in w) old.tally f).count ≡ shells_of (take (n + 1) (map ring_in walks)) f) × ((with_ring n (ring_in w) old.tally f).until ≤ n + 1) × ((with_ring n (ring_in w) old.tally f).count ≤ n + 1)
    by f true e =
        let t = old.tally f in
        let long = length-map walks ring_in in
        let until = old.until f in
        let few = old.few f in
        let fits : min (t.count + 1) 18446744073709551615 ≡ t.count + 1 = omega arith in
        let fresh : Tally = record { count = min (t.count + 1) 18446744073709551615; until = n + 1 } in
        let whole : with_ring n (ring_in w) old.tally f ≡ fresh = ap (λ b. cond b (counted n t) t) e ∙ ap (λ b. cond b t fresh) (not_less n t.until until) in
        let more = count_by_more_yes (is_shell_of f) (map ring_in walks) n (ring_in w) (omega arith) (so f true e) in
        subst (λ (x : Tally). (x.count ≡ shells_of (take (n + 1) (map ring_in walks)) f) × (x.until ≤ n + 1) × (x.count ≤ n + 1)) (sym whole)
        (fits ∙ ap (λ k. k + 1) (old.count f) ∙ sym more, omega arith, omega arith)
    by f false e =
        let t = old.tally f in
        let long = length-map walks ring_in in
        let until = old.until f in
        let few = old.few f in
        let whole : with_ring n (ring_in w) old.tally f ≡ t = ap (λ b. cond b (counted n t) t) e in
        let more = count_by_more_no (is_shell_of f) (map ring_in walks) n (ring_in w) (omega arith) (so f false e) in
        subst (λ (x : Tally). (x.count ≡ shells_of (take (n + 1) (map ring_in walks)) f) × (x.until ≤ n + 1) × (x.count ≤ n + 1)) (sym whole)
        (old.count f ∙ sym more, omega arith, omega arith)

pub all_counted : (faces : List FaceRow) (walks : List Walk) (n : ℕ) (tallies : List Tally) → length walks ≤ n → AreCounted faces walks n tallies
    → map (λ (t : Tally). t.count) tallies ≡ map (λ (f : FaceRow). shells_of (map ring_in walks) f.face_id) (universal_face ∷ faces)
all_counted faces walks n tallies w c =
    let long = length-map walks ring_in in
    let all : take n (map ring_in walks) ≡ map ring_in walks = take_all n (map ring_in walks) (omega arith) in
    ap (map (λ (t : Tally). t.count)) c.are ∙ (λ i. (c.count 0 ∙ ap (λ rs. shells_of rs 0) all) i ∷ each all faces i)
  where
    each : take n (map ring_in walks) ≡ map ring_in walks → (rows : List FaceRow) → map (λ (t : Tally). t.count) (map (λ (f : FaceRow). c.tally f.face_id) rows) ≡ map (λ (f : FaceRow). shells_of (map ring_in walks) f.face_id) rows
    each all [] = refl
    each all (r ∷ rows) = λ i. (c.count r.face_id ∙ ap (λ rs. shells_of rs r.face_id) all) i ∷ each all rows i

-- ---- what was counted, as lines
pub count_read : (faces : List FaceRow) (tallies : List Tally) (count : ℕ → ℕ) (i : ℕ) (t : Tally) (x : FaceRow) → i < length faces → x ≡ get_or faces i x
    → map (λ (s : Tally). s.count) tallies ≡ map (λ (f : FaceRow). count f.face_id) (universal_face ∷ faces) → (get_or tallies (i + 1) t).count ≡ count x.face_id
count_read faces tallies count i t x w is same =
    let one : i + 1 ≡ suc i = omega arith in
    let wide = length-map tallies (λ (s : Tally). s.count) in
    let long = length-map (universal_face ∷ faces) (λ (f : FaceRow). count f.face_id) in
    let both = ap length same in
    sym (get_or-map (λ (s : Tally). s.count) tallies (i + 1) t 0 (omega arith))
    ∙ ap (λ (ns : List ℕ). get_or ns (i + 1) 0) same
    ∙ ap (λ n. get_or (map (λ (f : FaceRow). count f.face_id) (universal_face ∷ faces)) n 0) one
    ∙ get_or-map (λ (f : FaceRow). count f.face_id) faces i x 0 w
    ∙ ap (λ (f : FaceRow). count f.face_id) (sym is)

pub counts_pushed : (f : FaceRow → List ReportLine) (faces : List FaceRow) (i : ℕ) (x : FaceRow) (old first so_far now : List ReportLine) → i < length faces → x ≡ get_or faces i x → so_far ≡ old ++ (first ++ flat_map f (take i faces))
    → now ≡ so_far ++ f x → now ≡ old ++ (first ++ flat_map f (take (i + 1) faces))
counts_pushed f faces i x old first so_far now w is before more =
    let done = flat_map f (take i faces) in
    more ∙ ap (λ ls. ls ++ f x) before ∙ append_assoc old (first ++ done) (f x)
    ∙ ap (λ ls. old ++ ls) (append_assoc first done (f x) ∙ ap (λ ls. first ++ ls) (sym (flat_more f faces i x w is)))
