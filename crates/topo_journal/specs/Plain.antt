-- What the plain reader's answer says.
use Rattle.std.specs.Prelude.{◌≡◌, ◌<◌, [], length, ℕ, List, map, Bool, ◌&&◌, ◌==◌, not, slice_index}
use Rattle.topo_journal.specs.Bytes.{Reading, History, Bad, are_letters}
use Rattle.topo_journal.specs.Kept.{gate_behind}
use Rattle.topo_journal.specs.declared.plain.Plain.{Plain}
use Rattle.topo_journal.specs.declared.plain.Plain.TheVariants.{NotYet, History as Found, Bad as BadAt}

abbrev pub reading_of : Plain → Reading
reading_of NotYet = History []
reading_of (Found bodies gate) = History (map (λ body. body.items) bodies.items)
reading_of (BadAt p) = Bad p

-- the letters stand at 1 to 5, and another format than 2 behind them
abbrev pub has_name : List ℕ → Bool
has_name bytes =
    are_letters (slice_index bytes 1) (slice_index bytes 2) (slice_index bytes 3) (slice_index bytes 4) (slice_index bytes 5) && not (slice_index bytes 6 == 2)

-- the gate is the one behind the bodies, and the header gate is open
abbrev pub HasGate : List ℕ → Plain → Type 0
HasGate bytes (Found bodies gate) = (gate ≡ gate_behind (map (λ body. body.items) bodies.items)) × (slice_index bytes 0 ≡ 1) × (1 < length bytes)
HasGate bytes plain = Unit {0}
