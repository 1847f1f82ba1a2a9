-- Pairs of ids in order.
use Rattle.std.specs.Prelude.{Bool, true, ◌&&◌, ◌||◌, ◌==◌, nat_lt, IsTrue, List, [], ◌∷◌, Contains}
use Rattle.validate_topology.specs.declared.pairs.IdPair.{IdPair}

-- by the first id, and then by the second
abbrev pub pair_before : IdPair → IdPair → Bool
pair_before p q = nat_lt p.first q.first || p.first == q.first && nat_lt p.second q.second

-- each comes before the next
abbrev pub pairs_ascend : List IdPair → Bool
pairs_ascend [] = true
pairs_ascend (p ∷ []) = true
pairs_ascend (p ∷ q ∷ rest) = pair_before p q && pairs_ascend (q ∷ rest)

-- the same pairs, ascending and so each once
pub record IsInOrder (pairs ordered : List IdPair) : Type 0 where
  pub ascend : IsTrue (pairs_ascend ordered)
  pub from : (p : IdPair) → Contains ordered p → Contains pairs p
  pub to : (p : IdPair) → Contains pairs p → Contains ordered p

-- the pairs of which this holds, ascending and so each once
pub record AreAllOf (P : IdPair → Type 0) (pairs : List IdPair) : Type 0 where
  pub ascend : IsTrue (pairs_ascend pairs)
  pub only : (p : IdPair) → Contains pairs p → P p
  pub all : (p : IdPair) → P p → Contains pairs p
