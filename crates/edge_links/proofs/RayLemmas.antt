-- What is seen of a star, as half-edges come into it.
use Rattle.std.proofs.Common.{◌≡◌, ℕ, ◌+◌, ◌<◌, ◌≤◌, zero, suc, refl, sym, ◌∙◌, ap, subst, arith, Bool, true, false, not, cond, List, [], ◌∷◌, ◌++◌, length, ◌||◌, get_or, map, filter, drop, Bor}
use Rattle.std.specs.Prelude.{insert, flat_map}
use Rattle.std.specs.List.{list_all}
use Rattle.std.proofs.Math.Seq.{drop-cons, drop-length}
use Rattle.std.proofs.lemmas.Bool.{and_parts, and_from}
use Rattle.std.proofs.lemmas.List.Elements.{filter-append}
use Rattle.topo_base.specs.declared.rows.EdgeRow.{EdgeRow}
use Rattle.plane.specs.Direction.{is_nearer, straight_up}
use Rattle.drawing.specs.Drawing.{Edge, is_end_of}
use Rattle.drawing.specs.HalfEdge.{HalfEdge, dart_of, forward_of, backward_of, both_ways, leaves}
use Rattle.drawing.specs.Plain.{IsPlain}
use Rattle.drawing.specs.Star.{leaving, insert_clockwise, clockwise, star}
use Rattle.drawing.specs.Tables.{Tables, drawn, drawn_edge}
use Rattle.drawing_queries.proofs.Listed.{listed}
use Rattle.drawing_queries.proofs.RowTests.{proper_rows}
use Rattle.edge_links.specs.LinksLaw.{rays_at}
use Rattle.edge_links.specs.Rays.{Rays, rays_of, no_rays, with_ray, with_half_edge, with_both, place_for, has_proper_line}

-- ---- an element put before those that pass
insert_here : {X : Type 0} (x y : X) (xs : List X) (b : Bool) (n : ℕ) → b ≡ true → insert (y ∷ xs) (cond (not b) (1 + n) 0) x ≡ x ∷ y ∷ xs
insert_here x y xs b n e = ap (λ c. insert (y ∷ xs) (cond (not c) (1 + n) 0) x) e

insert_there : {X : Type 0} (x y : X) (xs : List X) (b : Bool) (n : ℕ) → b ≡ false → insert (y ∷ xs) (cond (not b) (1 + n) 0) x ≡ y ∷ insert xs n x
insert_there x y xs b n e =
    let one : 1 + n ≡ suc n = omega arith in
    ap (λ c. insert (y ∷ xs) (cond (not c) (1 + n) 0) x) e ∙ ap (λ k. insert (y ∷ xs) k x) one

-- a ray more is seen where a half-edge more stands
darts_step : {X : Type 0} (f : HalfEdge → X) (h k : HalfEdge) (ks : List HalfEdge) (b : Bool) → b ≡ is_nearer straight_up (leaving h) (leaving k)
    → insert (map f ks) (place_for (map leaving ks) (leaving h)) (f h) ≡ map f (insert_clockwise h ks)
    → insert (f k ∷ map f ks) (cond (not b) (1 + place_for (map leaving ks) (leaving h)) 0) (f h) ≡ map f (cond b (h ∷ k ∷ ks) (k ∷ insert_clockwise h ks))
darts_step f h k ks true e rest = insert_here (f h) (f k) (map f ks) true (place_for (map leaving ks) (leaving h)) refl
darts_step f h k ks false e rest = insert_there (f h) (f k) (map f ks) false (place_for (map leaving ks) (leaving h)) refl ∙ ap (λ xs. f k ∷ xs) rest

inserted : {X : Type 0} (f : HalfEdge → X) (h : HalfEdge) (ks : List HalfEdge) → insert (map f ks) (place_for (map leaving ks) (leaving h)) (f h) ≡ map f (insert_clockwise h ks)
inserted f h [] = refl
inserted f h (k ∷ ks) = darts_step f h k ks (is_nearer straight_up (leaving h) (leaving k)) refl (inserted f h ks)

pub ray_inserted : (h : HalfEdge) (ks : List HalfEdge) → with_ray (dart_of h) (leaving h) (rays_of ks) ≡ rays_of (insert_clockwise h ks)
ray_inserted h ks = let e = inserted dart_of h ks in let f = inserted leaving h ks in λ i. record { darts = e i; dirs = f i }

half_edge_by : (b : Bool) (h : HalfEdge) (hs : List HalfEdge) → cond b (with_ray (dart_of h) (leaving h) (rays_of (clockwise hs))) (rays_of (clockwise hs)) ≡ rays_of (clockwise (cond b (h ∷ hs) hs))
half_edge_by true h hs = ray_inserted h (clockwise hs)
half_edge_by false h hs = refl

pub half_edge_seen : (n : ℕ) (h : HalfEdge) (hs : List HalfEdge) → with_half_edge n h (rays_of (star hs n)) ≡ rays_of (star (h ∷ hs) n)
half_edge_seen n h hs = half_edge_by (leaves n h) h (filter (leaves n) hs)

pub both_seen : (n : ℕ) (e : Edge) (hs : List HalfEdge) → with_both n e (rays_of (star hs n)) ≡ rays_of (star (forward_of e ∷ backward_of e ∷ hs) n)
both_seen n e hs = ap (with_half_edge n (forward_of e)) (half_edge_seen n (backward_of e) hs) ∙ half_edge_seen n (forward_of e) (backward_of e ∷ hs)

-- ---- edges that were found, from one of them on
abbrev pub half_edges_of : List (Bor EdgeRow) → List HalfEdge
half_edges_of rows = flat_map both_ways (map drawn_edge (map (λ (r : Bor EdgeRow). r.now) rows))

pub row_seen : (n i : ℕ) (rows : List (Bor EdgeRow)) (row : Bor EdgeRow) (s : Rays) → i < length rows → row ≡ get_or rows i row → s ≡ rays_of (star (half_edges_of (drop (i + 1) rows)) n)
    → with_both n (drawn_edge row.now) s ≡ rays_of (star (half_edges_of (drop i rows)) n)
row_seen n i rows row s within is before =
    let next : i + 1 ≡ suc i = omega arith in
    ap (with_both n (drawn_edge row.now)) (before ∙ ap (λ k. rays_of (star (half_edges_of (drop k rows)) n)) next)
    ∙ both_seen n (drawn_edge row.now) (half_edges_of (drop (suc i) rows))
    ∙ ap (λ rs. rays_of (star (half_edges_of rs) n)) (ap (λ r. r ∷ drop (suc i) rows) is ∙ sym (drop-cons rows i row within))

pub none_seen : (n : ℕ) (rows : List (Bor EdgeRow)) → no_rays ≡ rays_of (star (half_edges_of (drop (length rows) rows)) n)
none_seen n rows = ap (λ rs. rays_of (star (half_edges_of rs) n)) (sym (drop-length rows))

pub all_seen : (n i : ℕ) (rows : List (Bor EdgeRow)) (s : Rays) → i ≤ 0 → s ≡ rays_of (star (half_edges_of (drop i rows)) n) → s ≡ rays_of (star (half_edges_of rows) n)
all_seen n i rows s none e = let z : i ≡ 0 = omega arith in e ∙ ap (λ k. rays_of (star (half_edges_of (drop k rows)) n)) z

-- ---- the lines of edges that were found
pub all_get : {X : Type 0} (p : X → Bool) (xs : List (Bor X)) (i : ℕ) (x : Bor X) → list_all p (map (λ (r : Bor X). r.now) xs) ≡ true → i < length xs → x ≡ get_or xs i x → p (x.now) ≡ true
all_get p [] i x h within is = absurd (omega arith)
all_get {X = X} p (y ∷ xs) zero x h within is = subst (λ (z : Bor X). p (z.now) ≡ true) (sym is) (and_parts (p (y.now)) (list_all p (map (λ (r : Bor X). r.now) xs)) h).0
all_get {X = X} p (y ∷ xs) (suc i) x h within is = all_get p xs i x (and_parts (p (y.now)) (list_all p (map (λ (r : Bor X). r.now) xs)) h).1 (omega arith) is

all_kept : {X : Type 0} (p q : X → Bool) (xs : List X) → list_all p xs ≡ true → list_all p (filter q xs) ≡ true
all_kept p q [] h = refl
all_kept p q (x ∷ xs) h = let both = and_parts (p x) (list_all p xs) h in by (q x) both.0 (all_kept p q xs both.1)
  where
    by : (b : Bool) → p x ≡ true → list_all p (filter q xs) ≡ true → list_all p (cond b (x ∷ filter q xs) (filter q xs)) ≡ true
    by true here rest = and_from (p x) (list_all p (filter q xs)) here rest
    by false here rest = rest

-- those of a plain drawing's edges that are found have proper lines
pub proper_found : (t : Tables) (q : EdgeRow → Bool) (found : List EdgeRow) → IsPlain (drawn t) → found ≡ filter q t.edges → list_all has_proper_line found ≡ true
proper_found t q found h is = ap (list_all has_proper_line) is ∙ all_kept has_proper_line q t.edges (proper_rows t h)

-- ---- the edges at a node give its star
leaving_of : (n : ℕ) (rows : List EdgeRow) → filter (leaves n) (flat_map both_ways (map drawn_edge rows)) ≡ flat_map (λ (r : EdgeRow). filter (leaves n) (both_ways (drawn_edge r))) rows
leaving_of n [] = refl
leaving_of n (r ∷ rows) =
    filter-append (leaves n) (both_ways (drawn_edge r)) (flat_map both_ways (map drawn_edge rows))
    ∙ ap (λ hs. filter (leaves n) (both_ways (drawn_edge r)) ++ hs) (leaving_of n rows)

none_leaves : (n : ℕ) (r : EdgeRow) → is_end_of n (drawn_edge r) ≡ false → filter (leaves n) (both_ways (drawn_edge r)) ≡ []
none_leaves n r away = by (leaves n (forward_of (drawn_edge r))) (leaves n (backward_of (drawn_edge r))) away
  where
    by : (b c : Bool) → (b || c) ≡ false → cond b (forward_of (drawn_edge r) ∷ cond c (backward_of (drawn_edge r) ∷ []) []) (cond c (backward_of (drawn_edge r) ∷ []) []) ≡ []
    by true c e = absurd cc
    by false true e = absurd cc
    by false false e = refl

pub star_at : (n : ℕ) (rows : List EdgeRow) → star (flat_map both_ways (map drawn_edge (filter (λ (r : EdgeRow). is_end_of n (drawn_edge r)) rows))) n ≡ star (flat_map both_ways (map drawn_edge rows)) n
star_at n rows =
    let at = filter (λ (r : EdgeRow). is_end_of n (drawn_edge r)) rows in
    ap clockwise (leaving_of n at ∙ listed (λ (r : EdgeRow). filter (leaves n) (both_ways (drawn_edge r))) (λ (r : EdgeRow). is_end_of n (drawn_edge r)) rows (none_leaves n) ∙ sym (leaving_of n rows))

pub rays_are : (t : Tables) (n : ℕ) (found seen : List EdgeRow) → found ≡ filter (λ (r : EdgeRow). is_end_of n (drawn_edge r)) t.edges → seen ≡ found
    → rays_of (star (flat_map both_ways (map drawn_edge seen)) n) ≡ rays_at (drawn t) n
rays_are t n found seen is same = ap (λ (rows : List EdgeRow). rays_of (star (flat_map both_ways (map drawn_edge rows)) n)) (same ∙ is) ∙ ap rays_of (star_at n t.edges)
