-- What is found on the path of a point is found among all segments.
use Rattle.std.proofs.Common.{◌≡◌, ℕ, refl, sym, ◌∙◌, ap, subst, ⊎_elim, true, false, IsTrue, List, [], ◌∷◌, Option, Some, None}
use Rattle.std.specs.Prelude.{fold, Contains, All}
use Rattle.topo_base.specs.Point.{Point, IsCoordinate}
use Rattle.plane.specs.Segment.{on_segment}
use Rattle.plane.specs.Parity.{is_over}
use Rattle.plane.proofs.ListTests.{contains_none}
use Rattle.slab_index.specs.declared.piece.Piece.{Piece}
use Rattle.slab_index.specs.declared.above.LookAbove.{LookAbove}
use Rattle.slab_index.specs.declared.on.LookOn.{LookOn}
use Rattle.slab_index.specs.Slabs.{path}
use Rattle.slab_index.specs.Above.{segment_of, with_lower}
use Rattle.slab_index.specs.On.{with_less, IsEdgeOn}
use Rattle.slab_index.specs.Held.{IsInRange}
use Rattle.slab_index.specs.Path.{on_path}
use Rattle.slab_index.proofs.Paths.{decide, near_across, over_across, on_across, into_slabs, out_of_slabs}
use Rattle.slab_index.proofs.Lowest as lowest
use Rattle.slab_index.proofs.Least as least

in_range : (kept : List Piece) (e : Piece) → All IsInRange kept → Contains kept e → IsInRange e
in_range kept e all (k, within, is) = subst IsInRange is (all k e within)

over_seen : (p : Point) (kept : List Piece) → IsCoordinate p.x → All IsInRange kept → (e : Piece) → Contains kept e → IsTrue (is_over p (segment_of e)) → Contains (on_path p kept) e
over_seen p kept h all e c over = into_slabs kept (path p) e (near_across p e h (in_range kept e all c) (over_across p e over)) c

on_seen : (p : Point) (kept : List Piece) → IsCoordinate p.x → All IsInRange kept → (e : Piece) → Contains kept e → IsTrue (on_segment p (segment_of e)) → Contains (on_path p kept) e
on_seen p kept h all e c on = into_slabs kept (path p) e (near_across p e h (in_range kept e all c) (on_across p e on)) c

found_above : (p : Point) (kept : List Piece) (o : Option Piece) → IsCoordinate p.x → All IsInRange kept → lowest.IsFound p (on_path p kept) o → lowest.IsFound p kept o
found_above p kept None h all found = λ e c.
    ⊎_elim
    (λ (k : is_over p (segment_of e) ≡ true). found e (over_seen p kept h all e c k))
    (λ (k : is_over p (segment_of e) ≡ false). k)
    (decide (is_over p (segment_of e)))
found_above p kept (Some f) h all found = record {
  kept = out_of_slabs kept (path p) f found.kept;
  over = found.over;
  first = λ e c over. found.first e (over_seen p kept h all e c over) over;
}

found_on : (p : Point) (kept : List Piece) (o : Option ℕ) → IsCoordinate p.x → All IsInRange kept → IsEdgeOn p (on_path p kept) o → IsEdgeOn p kept o
found_on p kept None h all found = λ e c.
    ⊎_elim
    (λ (k : on_segment p (segment_of e) ≡ true). found e (on_seen p kept h all e c k))
    (λ (k : on_segment p (segment_of e) ≡ false). k)
    (decide (on_segment p (segment_of e)))
found_on p kept (Some n) h all found = record {
  one = found.one;
  kept = out_of_slabs kept (path p) found.one found.kept;
  own = found.own;
  on = found.on;
  least = λ e c on. found.least e (on_seen p kept h all e c on) on;
}

-- seeing is folding with what is found
above_fold : (p : Point) (es : List Piece) (o : Option Piece) → (fold (λ (look : LookAbove) piece. record look { lowest = with_lower look.point look.lowest piece }) (record { point = p; lowest = o }) es).lowest ≡ fold (with_lower p) o es
above_fold p [] o = refl
above_fold p (e ∷ es) o = above_fold p es (with_lower p o e)

on_fold : (p : Point) (es : List Piece) (o : Option ℕ) → (fold (λ (look : LookOn) piece. record look { least = with_less look.point look.least piece }) (record { point = p; least = o }) es).least ≡ fold (with_less p) o es
on_fold p [] o = refl
on_fold p (e ∷ es) o = on_fold p es (with_less p o e)

nothing_over : (p : Point) (e : Piece) → Contains [] e → is_over p (segment_of e) ≡ false
nothing_over p e c = absurd (contains_none e c)

nothing_on : (p : Point) (e : Piece) → Contains [] e → on_segment p (segment_of e) ≡ false
nothing_on p e c = absurd (contains_none e c)

pub looked_above : (p : Point) (kept : List Piece) (look : LookAbove) → IsCoordinate p.x → All IsInRange kept → look ≡ fold (λ (look : LookAbove) piece. record look { lowest = with_lower look.point look.lowest piece }) (record { point = p; lowest = None }) (on_path p kept) → lowest.IsFound p kept look.lowest
looked_above p kept look h all seen =
    let e = ap (λ (l : LookAbove). l.lowest) seen ∙ above_fold p (on_path p kept) None in
    found_above p kept look.lowest h all (subst (lowest.IsFound p (on_path p kept)) (sym e) (lowest.all_found p (on_path p kept) [] None (λ f c. nothing_over p f c)))

pub looked_on : (p : Point) (kept : List Piece) (look : LookOn) → IsCoordinate p.x → All IsInRange kept → look ≡ fold (λ (look : LookOn) piece. record look { least = with_less look.point look.least piece }) (record { point = p; least = None }) (on_path p kept) → IsEdgeOn p kept look.least
looked_on p kept look h all seen =
    let e = ap (λ (l : LookOn). l.least) seen ∙ on_fold p (on_path p kept) None in
    found_on p kept look.least h all (subst (IsEdgeOn p (on_path p kept)) (sym e) (least.all_found p (on_path p kept) [] None (λ f c. nothing_on p f c)))
