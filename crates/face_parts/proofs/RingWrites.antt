-- The writes of whole rings are those of their darts.
use Rattle.std.proofs.Common.{◌≡◌, ℕ, refl, sym, ◌∙◌, ap, Bool, true, false, cond, ◌==◌, List, [], ◌∷◌, ◌++◌, map}
use Rattle.std.specs.Prelude.{flat_map}
use Rattle.std.specs.List.{Contains}
use Rattle.std.proofs.lemmas.List.{map-append}
use Rattle.topo_base.specs.declared.ids.Dart.{Dart}
use Rattle.topo_base.specs.declared.write.RowWrite.{RowWrite}
use Rattle.plane.proofs.ListTests.{contains_here, contains_there}
use Rattle.face_parts.specs.Sides.{set_side, side_writes}
use Rattle.face_parts.proofs.Lists.{map_agree}

-- each dart of a ring wants the part of the ring
pub record AreParted (part : List Dart → ℕ) (want : Dart → ℕ) (all : List (List Dart)) : Type 0 where
  pub each : (ring : List Dart) (d : Dart) → Contains all ring → Contains ring d → want d ≡ part ring

-- the darts of a ring that comes into another face
abbrev pub moved : (List Dart → ℕ) → ℕ → List Dart → List Dart
moved part f ring = cond (part ring == f) [] ring

abbrev pub wanted : (Dart → ℕ) → Dart → RowWrite
wanted want d = set_side (want d) d

ring_is : (part : List Dart → ℕ) (want : Dart → ℕ) (f : ℕ) (ring : List Dart) (b : Bool) → ((d : Dart) → Contains ring d → want d ≡ part ring)
    → cond b [] (map (set_side (part ring)) ring) ≡ map (wanted want) (cond b [] ring)
ring_is part want f ring true each = refl
ring_is part want f ring false each = map_agree (set_side (part ring)) (wanted want) ring (λ d c. ap (λ g. set_side g d) (sym (each d c)))

pub rings_are : (part : List Dart → ℕ) (want : Dart → ℕ) (f : ℕ) (all : List (List Dart)) → AreParted part want all → side_writes part f all ≡ map (wanted want) (flat_map (moved part f) all)
rings_are part want f [] parted = refl
rings_are part want f (ring ∷ all) parted =
    let first = ring_is part want f ring (part ring == f) (λ d c. parted.each ring d (contains_here ring all) c) in
    let rest = rings_are part want f all (record { each = λ r d c k. parted.each r d (contains_there r ring all c) k }) in
    (λ i. first i ++ rest i) ∙ sym (map-append (wanted want) (moved part f ring) (flat_map (moved part f) all))
