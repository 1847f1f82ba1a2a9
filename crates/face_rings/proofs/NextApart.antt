-- On a plain drawing next leads from half-edges to half-edges, and no two have the same next one.
use Rattle.std.proofs.Common.{◌≡◌, ◌≤◌, refl, sym, ◌∙◌, ap, subst, arith, ℤ, pos, ◌-ℤ◌, ◌⊎◌, inl, inr, ⊎_elim, Bool, true, false, not, ◌&&◌, List, [], ◌∷◌, length}
use Rattle.std.specs.Prelude.{filter, fold, if◌then◌else◌}
use Rattle.std.specs.List.{Contains, list_all}
use Rattle.std.proofs.lemmas.Bool.{and_parts, and_from, eqb-true, eq-eqb, false≢true, false_from_ne_true, not-true}
use Rattle.topo_base.specs.Point.{Point, same_point}
use Rattle.topo_base.specs.declared.ids.Dart.{Dart}
use Rattle.plane.specs.Line.{segments_of, is_proper}
use Rattle.plane.specs.Direction.{Direction, first_direction, is_nearer, same_direction, IsNotZero, OneDirection}
use Rattle.drawing.specs.Drawing.{Drawing}
use Rattle.drawing.specs.HalfEdge.{HalfEdge, half_edges, twin, leaves, same_half_edge, dart_of}
use Rattle.drawing.specs.Star.{leaving, nearer_of, first_clockwise, or_twin, next_of}
use Rattle.plane.proofs.Ring.{signed}
use Rattle.plane.proofs.PointTests.{Decides-same_point}
use Rattle.std.proofs.lemmas.Bool.Decides.{Decides-not}
use Rattle.plane.proofs.Directions.{nearer_self, nearer_onward, nearer_total, nearer_cyclic, same_out}
use Rattle.plane.proofs.ListTests.{contains_here, contains_there, contains_cases, contains_none}
use Rattle.drawing.proofs.Members.{contains-filter, contains-filtered}
use Rattle.face_rings.proofs.Ranks.{by_bool, same_out as same_dart_out, same_self}
use Rattle.face_rings.proofs.HalfLines.{HasPlainLines}
use Rattle.face_rings.proofs.HalvesApart.{half_of, line_of, twin_there, directions_differ}

-- ---- the first one clockwise
-- directions that are not zero and differ
pub record AreApart (ks : List HalfEdge) : Type 0 where
  pub some : (k : HalfEdge) → Contains ks k → IsNotZero (leaving k)
  pub differ : (k m : HalfEdge) → Contains ks k → Contains ks m → OneDirection (leaving k) (leaving m) → k ≡ m

pub record IsFirst (r : Direction) (ks : List HalfEdge) (m : HalfEdge) : Type 0 where
  pub there : Contains ks m
  pub first : (k : HalfEdge) → Contains ks k → is_nearer r (leaving k) (leaving m) ≡ false

apart_within : (ks ls : List HalfEdge) → ((k : HalfEdge) → Contains ks k → Contains ls k) → AreApart ls → AreApart ks
apart_within ks ls sub a = record { some = λ k c. a.some k (sub k c); differ = λ k m c d one. a.differ k m (sub k c) (sub m d) one }

pub first_is : (r : Direction) (h : HalfEdge) (hs : List HalfEdge) → IsNotZero r → AreApart (h ∷ hs) → IsFirst r (h ∷ hs) (fold (nearer_of r) h hs)
first_is r h [] some a = record {
  there = contains_here h [];
  first = λ k c. ⊎_elim (λ (p : h ≡ k). subst (λ (x : HalfEdge). is_nearer r (leaving x) (leaving h) ≡ false) p (nearer_self r (leaving h))) (λ (d : Contains [] k). absurd (contains_none k d)) (contains_cases k h [] c);
}
first_is r h (k ∷ hs) some a =
    ⊎_elim
    (λ (near : is_nearer r (leaving k) (leaving h) ≡ true).
    let chosen : nearer_of r h k ≡ k = ap (λ (t : Bool). if t then k else h) near in
    let sub = λ (x : HalfEdge) (c : Contains (k ∷ hs) x). contains_there x h (k ∷ hs) c in
    let rest = first_is r k hs some (apart_within (k ∷ hs) (h ∷ k ∷ hs) sub a) in
    let m = fold (nearer_of r) k hs in
    let is : fold (nearer_of r) k hs ≡ fold (nearer_of r) (nearer_of r h k) hs = ap (λ (x : HalfEdge). fold (nearer_of r) x hs) (sym chosen) in
    subst (IsFirst r (h ∷ k ∷ hs)) is
    (record {
      there = sub m rest.there;
      first = λ x c. ⊎_elim
          (λ (p : h ≡ x). subst (λ (y : HalfEdge). is_nearer r (leaving y) (leaving m) ≡ false) p
          (false_from_ne_true (is_nearer r (leaving h) (leaving m)) (λ t. false≢true (sym (rest.first k (contains_here k hs)) ∙ nearer_onward r (leaving k) (leaving h) (leaving m) near t))))
          (λ (d : Contains (k ∷ hs) x). rest.first x d)
          (contains_cases x h (k ∷ hs) c);
    }))
    (λ (far : is_nearer r (leaving k) (leaving h) ≡ false).
    let chosen : nearer_of r h k ≡ h = ap (λ (t : Bool). if t then k else h) far in
    let sub = λ (x : HalfEdge) (c : Contains (h ∷ hs) x). ⊎_elim (λ (p : h ≡ x). subst (Contains (h ∷ k ∷ hs)) p (contains_here h (k ∷ hs))) (λ (d : Contains hs x). contains_there x h (k ∷ hs) (contains_there x k hs d)) (contains_cases x h hs c) in
    let rest = first_is r h hs some (apart_within (h ∷ hs) (h ∷ k ∷ hs) sub a) in
    let m = fold (nearer_of r) h hs in
    let is : fold (nearer_of r) h hs ≡ fold (nearer_of r) (nearer_of r h k) hs = ap (λ (x : HalfEdge). fold (nearer_of r) x hs) (sym chosen) in
    let h_there = contains_here h (k ∷ hs) in
    let k_there = contains_there k h (k ∷ hs) (contains_here k hs) in
    let h_first = rest.first h (contains_here h hs) in
    let k_first : is_nearer r (leaving k) (leaving m) ≡ false =
    ⊎_elim
    (λ (t : is_nearer r (leaving h) (leaving k) ≡ true).
    false_from_ne_true (is_nearer r (leaving k) (leaving m)) (λ u. false≢true (sym h_first ∙ nearer_onward r (leaving h) (leaving k) (leaving m) t u)))
    (λ (t : is_nearer r (leaving h) (leaving k) ≡ false).
    let one : h ≡ k = a.differ h k h_there k_there (nearer_total r (leaving h) (leaving k) some (a.some h h_there) (a.some k k_there) t far) in
    subst (λ (y : HalfEdge). is_nearer r (leaving y) (leaving m) ≡ false) one h_first)
    (by_bool (is_nearer r (leaving h) (leaving k))) in
    subst (IsFirst r (h ∷ k ∷ hs)) is
    (record {
      there = sub m rest.there;
      first = λ x c. ⊎_elim
          (λ (p : h ≡ x). subst (λ (y : HalfEdge). is_nearer r (leaving y) (leaving m) ≡ false) p h_first)
          (λ (d : Contains (k ∷ hs) x).
          ⊎_elim
          (λ (p : k ≡ x). subst (λ (y : HalfEdge). is_nearer r (leaving y) (leaving m) ≡ false) p k_first)
          (λ (e : Contains hs x). rest.first x (contains_there x h hs e))
          (contains_cases x k hs d))
          (contains_cases x h (k ∷ hs) c);
    }))
    (by_bool (is_nearer r (leaving k) (leaving h)))

abbrev pub IsNext : HalfEdge → List HalfEdge → HalfEdge → Type 0
IsNext h ks m = ((m ≡ twin h) × ((k : HalfEdge) → Contains ks k → ⊥)) ⊎ IsFirst (leaving (twin h)) ks m

is_next : (h : HalfEdge) (ks : List HalfEdge) → IsNotZero (leaving (twin h)) → AreApart ks → IsNext h ks (or_twin h (first_clockwise (leaving (twin h)) ks))
is_next h [] some a = inl (refl, λ k c. contains_none k c)
is_next h (k ∷ ks) some a = inr (first_is (leaving (twin h)) k ks some a)

-- ---- those that may follow
abbrev pub may_follow : HalfEdge → HalfEdge → Bool
may_follow h k = leaves h.to_node k && not (same_half_edge k (twin h))

proper_not_zero : (line : List Point) → 2 ≤ length line → list_all is_proper (segments_of line) ≡ true → IsNotZero (first_direction line)
proper_not_zero [] h p = absurd (omega arith)
proper_not_zero (a ∷ []) h p = absurd (omega arith)
proper_not_zero (a ∷ b ∷ rest) h p =
    let parts = and_parts (not (same_point a b)) (list_all is_proper (segments_of (b ∷ rest))) p in
    let differ = (Decides-not (same_point a b) (Decides-same_point a b)).0 parts.0 in
    λ ex ey. differ (flat a.x b.x ex, flat a.y b.y ey)
  where
    flat : (x y : ℤ) → y -ℤ x ≡ pos 0 → x ≡ y
    flat x y e = omega (arith, signed)

pub leaving_not_zero : (S : Drawing) (h : HalfEdge) → HasPlainLines S → Contains (half_edges S) h → IsNotZero (leaving h)
leaving_not_zero S h good c = let line = line_of S h good (half_of S.edges h c) in proper_not_zero h.points line.long line.proper

following_apart : (S : Drawing) (h : HalfEdge) → HasPlainLines S → AreApart (filter (may_follow h) (half_edges S))
following_apart S h good = record {
  some = λ k c. leaving_not_zero S k good (contains-filtered (may_follow h) k (half_edges S) c).0;
  differ = λ k m c d one.
      let p = contains-filtered (may_follow h) k (half_edges S) c in
      let q = contains-filtered (may_follow h) m (half_edges S) d in
      directions_differ S k m good p.0 q.0 (from_there k p.1 ∙ sym (from_there m q.1)) one;
}
  where
    from_there : (k : HalfEdge) → may_follow h k ≡ true → k.from_node ≡ h.to_node
    from_there k t = eqb-true k.from_node h.to_node (and_parts (leaves h.to_node k) (not (same_half_edge k (twin h))) t).0

pub next_is : (S : Drawing) (h : HalfEdge) → HasPlainLines S → Contains (half_edges S) h → IsNext h (filter (may_follow h) (half_edges S)) (next_of (half_edges S) h)
next_is S h good c = is_next h (filter (may_follow h) (half_edges S)) (leaving_not_zero S (twin h) good (twin_there S.edges h c)) (following_apart S h good)

pub next_there : (S : Drawing) (h : HalfEdge) → HasPlainLines S → Contains (half_edges S) h → Contains (half_edges S) (next_of (half_edges S) h)
next_there S h good c =
    ⊎_elim
    (λ (p : (next_of (half_edges S) h ≡ twin h) × ((k : HalfEdge) → Contains (filter (may_follow h) (half_edges S)) k → ⊥)). subst (Contains (half_edges S)) (sym p.0) (twin_there S.edges h c))
    (λ (f : IsFirst (leaving (twin h)) (filter (may_follow h) (half_edges S)) (next_of (half_edges S) h)). (contains-filtered (may_follow h) (next_of (half_edges S) h) (half_edges S) f.there).0)
    (next_is S h good c)

pub next_from : (S : Drawing) (h : HalfEdge) → HasPlainLines S → Contains (half_edges S) h → (next_of (half_edges S) h).from_node ≡ h.to_node
next_from S h good c =
    ⊎_elim
    (λ (p : (next_of (half_edges S) h ≡ twin h) × ((k : HalfEdge) → Contains (filter (may_follow h) (half_edges S)) k → ⊥)). ap (λ (x : HalfEdge). x.from_node) p.0)
    (λ (f : IsFirst (leaving (twin h)) (filter (may_follow h) (half_edges S)) (next_of (half_edges S) h)).
    let t = (contains-filtered (may_follow h) (next_of (half_edges S) h) (half_edges S) f.there).1 in
    eqb-true (next_of (half_edges S) h).from_node h.to_node (and_parts (leaves h.to_node (next_of (half_edges S) h)) (not (same_half_edge (next_of (half_edges S) h) (twin h))) t).0)
    (next_is S h good c)

-- ---- no two have the same next one
not_one_other : (h k m : HalfEdge) → same_half_edge m k ≡ false → m ≡ k → ⊥
not_one_other h k m other e = false≢true (sym other ∙ subst (λ (x : HalfEdge). same_half_edge m x ≡ true) e (same_self (dart_of m)))

not_same_direction : (u v : Direction) → IsNotZero u → IsNotZero v → (OneDirection u v → ⊥) → same_direction u v ≡ false
not_same_direction u v some other far = false_from_ne_true (same_direction u v) (λ t. far (same_out u v some other t))

follows_too : (S : Drawing) (h t : HalfEdge) → Contains (half_edges S) t → t.from_node ≡ h.to_node → same_half_edge t (twin h) ≡ false → Contains (filter (may_follow h) (half_edges S)) t
follows_too S h t c from other =
    contains-filter (may_follow h) t (half_edges S) c (and_from (leaves h.to_node t) (not (same_half_edge t (twin h))) (eq-eqb t.from_node h.to_node from) (ap not other))

-- where two half-edges arrive at one node and are not one, they have not one next half-edge
first_apart : (S : Drawing) (h k m : HalfEdge) → HasPlainLines S → Contains (half_edges S) h → Contains (half_edges S) k → h.to_node ≡ k.to_node → same_half_edge (twin k) (twin h) ≡ false → same_half_edge (twin h) (twin k) ≡ false →
    IsFirst (leaving (twin h)) (filter (may_follow h) (half_edges S)) m → IsFirst (leaving (twin k)) (filter (may_follow k) (half_edges S)) m → ⊥
first_apart S h k m good ch ck same far_k far_h f g =
    let hs = half_edges S in
    let th = twin_there S.edges h ch in
    let tk = twin_there S.edges k ck in
    let p = contains-filtered (may_follow h) m hs f.there in
    let q = contains-filtered (may_follow k) m hs g.there in
    let p' = and_parts (leaves h.to_node m) (not (same_half_edge m (twin h))) p.1 in
    let q' = and_parts (leaves k.to_node m) (not (same_half_edge m (twin k))) q.1 in
    let from_h : m.from_node ≡ h.to_node = eqb-true m.from_node h.to_node p'.0 in
    let from_k : m.from_node ≡ k.to_node = eqb-true m.from_node k.to_node q'.0 in
    let H = leaving (twin h) in
    let K = leaving (twin k) in
    let M = leaving m in
    let some_h = leaving_not_zero S (twin h) good th in
    let some_k = leaving_not_zero S (twin k) good tk in
    let some_m = leaving_not_zero S m good p.0 in
    let after_k : is_nearer H K M ≡ false = f.first (twin k) (follows_too S h (twin k) tk (sym same) far_k) in
    let after_h : is_nearer K H M ≡ false = g.first (twin h) (follows_too S k (twin h) th same far_h) in
    let apart_mk : OneDirection K M → ⊥ = λ one. not_one_other h (twin k) m (not-true (same_half_edge m (twin k)) q'.1) (sym (directions_differ S (twin k) m good tk p.0 (sym from_k) one)) in
    let apart_mh : OneDirection H M → ⊥ = λ one. not_one_other h (twin h) m (not-true (same_half_edge m (twin h)) p'.1) (sym (directions_differ S (twin h) m good th p.0 (sym from_h) one)) in
    let apart_km : OneDirection M K → ⊥ = λ one. not_one_other h (twin k) m (not-true (same_half_edge m (twin k)) q'.1) (directions_differ S m (twin k) good p.0 tk from_k one) in
    let near : is_nearer H M K ≡ true =
    ⊎_elim (λ (t : is_nearer H M K ≡ true). t) (λ (t : is_nearer H M K ≡ false). absurd (apart_mk (nearer_total H K M some_h some_k some_m after_k t))) (by_bool (is_nearer H M K)) in
    let once = nearer_cyclic H M K some_h some_m near (not_same_direction H M some_h some_m apart_mh) in
    let twice = nearer_cyclic M K H some_m some_k once (not_same_direction M K some_m some_k apart_km) in
    false≢true (sym after_h ∙ twice)

not_same : (b c : Bool) → not b ≡ not c → b ≡ c
not_same true true e = refl
not_same true false e = absurd (false≢true e)
not_same false true e = absurd (false≢true (sym e))
not_same false false e = refl

pub twins_out : (h k : HalfEdge) → same_half_edge (twin k) (twin h) ≡ true → dart_of h ≡ dart_of k
twins_out h k t =
    let e = same_dart_out (dart_of (twin k)) (dart_of (twin h)) t in
    let p : h.edge_id ≡ k.edge_id = sym (ap (λ (d : Dart). d.edge) e) in
    let q : h.is_forward ≡ k.is_forward = not_same h.is_forward k.is_forward (sym (ap (λ (d : Dart). d.forward) e)) in
    λ i. record { edge = p i; forward = q i }

pub next_apart : (S : Drawing) (h k : HalfEdge) → HasPlainLines S → Contains (half_edges S) h → Contains (half_edges S) k → next_of (half_edges S) h ≡ next_of (half_edges S) k → dart_of h ≡ dart_of k
next_apart S h k good ch ck same =
    ⊎_elim
    (λ (t : same_half_edge (twin k) (twin h) ≡ true). twins_out h k t)
    (λ (t : same_half_edge (twin k) (twin h) ≡ false). ⊎_elim
    (λ (u : same_half_edge (twin h) (twin k) ≡ true). sym (twins_out k h u))
    (λ (u : same_half_edge (twin h) (twin k) ≡ false). absurd (by_next t u (next_is S h good ch) (next_is S k good ck)))
    (by_bool (same_half_edge (twin h) (twin k))))
    (by_bool (same_half_edge (twin k) (twin h)))
  where
    hs : List HalfEdge
    hs = half_edges S

    one_node : h.to_node ≡ k.to_node
    one_node = sym (next_from S h good ch) ∙ ap (λ (x : HalfEdge). x.from_node) same ∙ next_from S k good ck

    by_next : same_half_edge (twin k) (twin h) ≡ false → same_half_edge (twin h) (twin k) ≡ false →
        IsNext h (filter (may_follow h) (half_edges S)) (next_of (half_edges S) h) → IsNext k (filter (may_follow k) (half_edges S)) (next_of (half_edges S) k) → ⊥
    by_next t u (inl p) q = p.1 (twin k) (follows_too S h (twin k) (twin_there S.edges k ck) (sym one_node) t)
    by_next t u (inr f) (inl q) = q.1 (twin h) (follows_too S k (twin h) (twin_there S.edges h ch) one_node u)
    by_next t u (inr f) (inr g) = first_apart S h k (next_of (half_edges S) k) good ch ck one_node t u (subst (IsFirst (leaving (twin h)) (filter (may_follow h) (half_edges S))) same f) g
