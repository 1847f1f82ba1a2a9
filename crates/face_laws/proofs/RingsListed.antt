-- The rings of a drawing's list: each half-edge is in one of them, and two with a common half-edge are one.
use Rattle.std.proofs.Common.{◌≡◌, ℕ, zero, suc, refl, sym, ◌∙◌, ap, subst, Bool, true, false, cond, List, [], ◌∷◌, get_or, length, map}
use Rattle.std.specs.Prelude.{filter}
use Rattle.std.specs.List.{Contains}
use Rattle.topo_base.specs.declared.ids.Dart.{Dart}
use Rattle.drawing.specs.Drawing.{Drawing}
use Rattle.drawing.specs.HalfEdge.{HalfEdge, half_edges, same_half_edge, dart_of}
use Rattle.drawing.specs.Ring.{walk, ring_of}
use Rattle.drawing.specs.Star.{next_of}
use Rattle.drawing.specs.Subdivision.{begins_ring}
use Rattle.drawing.proofs.Members.{contains-map, contains-mapped, contains-filter, contains-filtered}
use Rattle.face_rings.specs.FaceBorder.{beside, rings_beside, face_border, HasRings}
use Rattle.face_rings.specs.RingLaw.{IsInOne}
use Rattle.face_rings.specs.Rings.{rings}
use Rattle.face_rings.proofs.Dividing.{in_one}
use Rattle.face_rings.proofs.FaceBorders.{has_plain_lines, half_by_dart, in_beside, from_beside, has_half, border_linked, rings_are}
use Rattle.face_laws.proofs.RingLabels.{ring_steps}

-- the half-edge begins a ring of the list
pub record Begins (S : Drawing) (h : HalfEdge) : Type 0 where
  pub there : Contains (half_edges S) h
  pub begins : begins_ring (half_edges S) h ≡ true

pub listed : (S : Drawing) (h : HalfEdge) → Begins S h → Contains (filter (begins_ring (half_edges S)) (half_edges S)) h
listed S h b = contains-filter (begins_ring (half_edges S)) h (half_edges S) b.there b.begins

pub from_listed : (S : Drawing) (h : HalfEdge) → Contains (filter (begins_ring (half_edges S)) (half_edges S)) h → Begins S h
from_listed S h c = let p = contains-filtered (begins_ring (half_edges S)) h (half_edges S) c in record { there = p.0; begins = p.1 }

-- the one ring of darts that has the half-edge's
in_ring_of_darts : (S : Drawing) (h : HalfEdge) → HasRings S → Contains (half_edges S) h → IsInOne (rings (face_border (half_edges S) h.on_left)) (dart_of h)
in_ring_of_darts S h has c = in_one (face_border (half_edges S) h.on_left) (dart_of h) (border_linked S h.on_left has) (has_half S h.on_left h (in_beside S h.on_left h c refl))

-- ---- each half-edge is in a ring of the list
pub record HasListed (S : Drawing) (h : HalfEdge) : Type 0 where
  pub least : HalfEdge
  pub begins : Begins S least
  pub mine : Contains (ring_of (half_edges S) least) h

pub has_listed : (S : Drawing) (h : HalfEdge) → HasRings S → Contains (half_edges S) h → HasListed S h
has_listed S h has c =
    let (ring, (there, d, only)) = in_ring_of_darts S h has c in
    let (hs, (in_rings, p)) = contains-mapped (map dart_of) ring (rings_beside (half_edges S) h.on_left) (subst (λ rs. Contains rs ring) (rings_are S h.on_left has) there) in
    let (k, (in_starts, q)) = contains-mapped (ring_of (half_edges S)) hs (filter (begins_ring (half_edges S)) (beside (half_edges S) h.on_left)) in_rings in
    let f = contains-filtered (begins_ring (half_edges S)) k (beside (half_edges S) h.on_left) in_starts in
    let ck = (from_beside S h.on_left k f.0).0 in
    let (m, (cm, e)) = contains-mapped dart_of (dart_of h) (ring_of (half_edges S) k) (subst (λ ds. Contains ds (dart_of h)) (sym p ∙ ap (map dart_of) (sym q)) d) in
    record {
      least = k;
      begins = record { there = ck; begins = f.1 };
      mine = subst (Contains (ring_of (half_edges S) k)) (half_by_dart S m h (has_plain_lines S has) (ring_steps S k m has ck cm).there c e) cm;
    }

-- ---- two half-edges that begin rings, one in the ring of the other, are one
first_dart : (S : Drawing) (h : HalfEdge) (ds : List Dart) (x : Dart) → map dart_of (ring_of (half_edges S) h) ≡ ds → get_or ds 0 x ≡ dart_of h
first_dart S h ds x e = ap (λ z. get_or z 0 x) (sym e) ∙ by_walk (length (half_edges S))
  where
    by_walk : (n : ℕ) → get_or (map dart_of (walk (half_edges S) h n h)) 0 x ≡ dart_of h
    by_walk zero = refl
    by_walk (suc n) = by_test (same_half_edge (next_of (half_edges S) h) h)
      where
        by_test : (t : Bool) → get_or (map dart_of (cond t (h ∷ []) (h ∷ walk (half_edges S) h n (next_of (half_edges S) h)))) 0 x ≡ dart_of h
        by_test true = refl
        by_test false = refl

darts_listed : (S : Drawing) (f : ℕ) (k : HalfEdge) → HasRings S → Begins S k → k.on_left ≡ f → Contains (rings (face_border (half_edges S) f)) (map dart_of (ring_of (half_edges S) k))
darts_listed S f k has b e =
    subst (λ rs. Contains rs (map dart_of (ring_of (half_edges S) k))) (sym (rings_are S f has))
    (contains-map (map dart_of) (ring_of (half_edges S) k) (rings_beside (half_edges S) f)
    (contains-map (ring_of (half_edges S)) k (filter (begins_ring (half_edges S)) (beside (half_edges S) f))
    (contains-filter (begins_ring (half_edges S)) k (beside (half_edges S) f) (in_beside S f k b.there e) b.begins)))

pub begins_one : (S : Drawing) (h k m : HalfEdge) → HasRings S → Begins S k → Begins S m → Contains (half_edges S) h → Contains (ring_of (half_edges S) k) h → Contains (ring_of (half_edges S) m) h → k ≡ m
begins_one S h k m has bk bm c ck cm =
    let (ring, (there, d, only)) = in_ring_of_darts S h has c in
    let at_k = only (map dart_of (ring_of (half_edges S) k)) (darts_listed S h.on_left k has bk (sym (ring_steps S k h has bk.there ck).left)) (contains-map dart_of h (ring_of (half_edges S) k) ck) in
    let at_m = only (map dart_of (ring_of (half_edges S) m)) (darts_listed S h.on_left m has bm (sym (ring_steps S m h has bm.there cm).left)) (contains-map dart_of h (ring_of (half_edges S) m) cm) in
    half_by_dart S k m (has_plain_lines S has) bk.there bm.there (sym (first_dart S k ring (dart_of h) at_k) ∙ first_dart S m ring (dart_of h) at_m)
