-- Tests of the segments of a line, from one of its vertices on.
use Rattle.std.proofs.Common.{◌≡◌, ℕ, ◌+◌, ◌≤◌, refl, sym, ◌∙◌, List, ◌∷◌, length, drop, Bool, true, false, ◌&&◌, ◌||◌}
use Rattle.std.specs.List.{list_all, list_any}
use Rattle.topo_base.specs.Point.{Point}
use Rattle.topo_base.specs.declared.relation.Relation.TheVariants.{Apart, TouchEnds, Meet, Overlap}
use Rattle.plane.specs.Segment.{Segment, meets_only_at, shares}
use Rattle.plane.specs.Line.{segments_of}
use Rattle.plane.specs.Relation.{Relates}
use Rattle.plane.proofs.RelationTests.{meets_only_at_is}
use Rattle.grid_lines.proofs.Vertices.{segments_end}

pub any_on : (f : Segment → Bool) (vs : List Point) (i : ℕ) (s : Segment) → segments_of (drop i vs) ≡ s ∷ segments_of (drop (i + 1) vs) → f s ≡ false
    → list_any f (segments_of (drop i vs)) ≡ list_any f (segments_of (drop (i + 1) vs))
any_on f vs i s e h = rw (e, h) refl

pub any_met : (f : Segment → Bool) (vs : List Point) (i : ℕ) (s : Segment) → segments_of (drop i vs) ≡ s ∷ segments_of (drop (i + 1) vs) → f s ≡ true
    → list_any f (segments_of (drop i vs)) ≡ true
any_met f vs i s e h = rw (e, h) refl

pub any_end : (f : Segment → Bool) (vs : List Point) (i : ℕ) → length vs ≤ i + 1 → list_any f (segments_of (drop i vs)) ≡ false
any_end f vs i h = rw (segments_end vs i h) refl

pub all_on : (f : Segment → Bool) (vs : List Point) (i : ℕ) (s : Segment) → segments_of (drop i vs) ≡ s ∷ segments_of (drop (i + 1) vs) → f s ≡ true
    → list_all f (segments_of (drop i vs)) ≡ list_all f (segments_of (drop (i + 1) vs))
all_on f vs i s e h = rw (e, h) refl

pub all_failed : (f : Segment → Bool) (vs : List Point) (i : ℕ) (s : Segment) → segments_of (drop i vs) ≡ s ∷ segments_of (drop (i + 1) vs) → f s ≡ false
    → list_all f (segments_of (drop i vs)) ≡ false
all_failed f vs i s e h = rw (e, h) refl

pub all_end : (f : Segment → Bool) (vs : List Point) (i : ℕ) → length vs ≤ i + 1 → list_all f (segments_of (drop i vs)) ≡ true
all_end f vs i h = rw (segments_end vs i h) refl

-- ---- how two segments meet, and whether they do so at two points alone
and_true : (a b : Bool) → (a && true || b && true) ≡ (a || b)
and_true true true = refl
and_true true false = refl
and_true false true = refl
and_true false false = refl

and_false : (a b : Bool) → (a && false || b && false) ≡ false
and_false true true = refl
and_false true false = refl
and_false false true = refl
and_false false false = refl

pub apart_only : (p q : Point) (s t : Segment) → Relates Apart s t → true ≡ meets_only_at p q s t
apart_only p q s t h = sym (meets_only_at_is Apart p q s t h)

pub overlap_only : (p q : Point) (s t : Segment) → Relates Overlap s t → false ≡ meets_only_at p q s t
overlap_only p q s t h = sym (meets_only_at_is Overlap p q s t h ∙ and_false (shares p s t) (shares q s t))

pub ends_only : (p q : Point) (s t : Segment) (b : Bool) → Relates TouchEnds s t → b ≡ (shares p s t || shares q s t) → b ≡ meets_only_at p q s t
ends_only p q s t b h e = e ∙ sym (meets_only_at_is TouchEnds p q s t h ∙ and_true (shares p s t) (shares q s t))

pub meet_only : (p q : Point) (s t : Segment) (b : Bool) → Relates Meet s t → b ≡ (shares p s t || shares q s t) → b ≡ meets_only_at p q s t
meet_only p q s t b h e = e ∙ sym (meets_only_at_is Meet p q s t h ∙ and_true (shares p s t) (shares q s t))
