-- From the order of the ends on one axis to the relation of two segments on one straight line.
use Rattle.std.proofs.Common.{◌≡◌, ◌≢◌, arith, ℤ, ◌<ℤ◌, ◌≤ℤ◌, ⊎_elim}
use Rattle.std.specs.Int.{int_min, int_max}
use Rattle.std.proofs.lemmas.Int.{ints, clamps}
use Rattle.plane.proofs.Ring.{signed}
use Rattle.plane.proofs.Signs.{order}
use Rattle.plane.proofs.LineLemmas.{line_apart}
use Rattle.plane.proofs.Collinear.{Rightward, line_touch, line_overlap, round, relates_round, relates_other, line_other, line_round}
use Rattle.plane.specs.Relation.{AreInLine, Relates, Facing, Faces}
use Rattle.plane.specs.Segment.{Segment}
use Rattle.topo_base.specs.declared.relation.Relation.{Relation}
use Rattle.topo_base.specs.declared.relation.Relation.TheVariants.{Apart, TouchEnds, Meet, Overlap}

right_turned : (s t : Segment) → Rightward s t → Rightward t s
right_turned s t right = record { first = right.second; second = right.first }

right_relates : (r : Relation) (s t : Segment) → AreInLine s t → Rightward s t → Facing r s.a.x s.b.x t.a.x t.b.x → Relates r s t
right_relates Apart s t line right h =
    λ q on.
    ⊎_elim
    (λ (g : s.b.x <ℤ t.a.x). line_apart s t q right.first right.second g on)
    (λ (g : t.b.x <ℤ s.a.x). line_apart t s q right.second right.first g (on.1, on.0))
    h
right_relates TouchEnds s t line right h =
    ⊎_elim
    (λ (g : s.b.x ≡ t.a.x). line_touch s t line right g)
    (λ (g : t.b.x ≡ s.a.x). relates_other TouchEnds t s (line_touch t s (line_other s t line) (right_turned s t right) g))
    h
right_relates Meet s t line right h = absurd h
right_relates Overlap s t line right h = line_overlap s t line right h.0 h.1

min_up : (a b : ℤ) → a <ℤ b → int_min a b ≡ a
min_up a b h = omega (arith, ints, clamps)

max_up : (a b : ℤ) → a <ℤ b → int_max a b ≡ b
max_up a b h = omega (arith, ints, clamps)

min_turned : (a b : ℤ) → int_min a b ≡ int_min b a
min_turned a b = omega (arith, ints, clamps)

max_turned : (a b : ℤ) → int_max a b ≡ int_max b a
max_turned a b = omega (arith, ints, clamps)

faces_up : (r : Relation) (a b c d : ℤ) → a <ℤ b → c <ℤ d → Faces r a b c d → Facing r a b c d
faces_up r a b c d h k f = rw (min_up a b h, max_up a b h, min_up c d k, max_up c d k) at f

faces_first : (r : Relation) (a b c d : ℤ) → Faces r a b c d → Faces r b a c d
faces_first r a b c d f = rw (min_turned b a, max_turned b a) f

faces_second : (r : Relation) (a b c d : ℤ) → Faces r a b c d → Faces r a b d c
faces_second r a b c d f = rw (min_turned d c, max_turned d c) f

apart_up : (a b : ℤ) → a ≢ b → b ≤ℤ a → b <ℤ a
apart_up a b h k = omega (arith, signed)

second_round : (r : Relation) (s t : Segment) → AreInLine s t → AreInLine s (round t)
second_round r s t line = line_other (round t) s (line_round t s (line_other s t line))

half_x : (r : Relation) (s t : Segment) → AreInLine s t → s.a.x <ℤ s.b.x → t.a.x ≢ t.b.x → Faces r s.a.x s.b.x t.a.x t.b.x → Relates r s t
half_x r s t line hs pt f =
    ⊎_elim
    (λ (g : t.a.x <ℤ t.b.x). right_relates r s t line (record { first = hs; second = g }) (faces_up r s.a.x s.b.x t.a.x t.b.x hs g f))
    (λ (g : t.b.x ≤ℤ t.a.x).
    let g' = apart_up t.a.x t.b.x pt g in
    let f' = faces_second r s.a.x s.b.x t.a.x t.b.x f in
    let w : Relates r s (round t) = right_relates r s (round t) (second_round r s t line) (record { first = hs; second = g' }) (faces_up r s.a.x s.b.x t.b.x t.a.x hs g' f') in
    relates_other r t s (relates_round r (round t) s (relates_other r s (round t) w)))
    (order t.a.x t.b.x)

pub collinear_x : (r : Relation) (s t : Segment) → AreInLine s t → s.a.x ≢ s.b.x → t.a.x ≢ t.b.x → Faces r s.a.x s.b.x t.a.x t.b.x → Relates r s t
collinear_x r s t line ps pt f =
    ⊎_elim
    (λ (g : s.a.x <ℤ s.b.x). half_x r s t line g pt f)
    (λ (g : s.b.x ≤ℤ s.a.x). relates_round r (round s) t (half_x r (round s) t (line_round s t line) (apart_up s.a.x s.b.x ps g) pt (faces_first r s.a.x s.b.x t.a.x t.b.x f)))
    (order s.a.x s.b.x)
