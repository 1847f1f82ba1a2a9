-- What stands on a disk between two appends, and during one.
use Rattle.std.specs.Prelude.{◌≡◌, ◌≢◌, ◌⊎◌, ℕ, ◌+◌, ◌<◌, Bool, true, false, List, [], ◌∷◌, ◌++◌, length, take, drop, slice_index, if◌then◌else◌}
use Rattle.topo_journal.specs.Bytes.{Legal, AreLegal, Stands, Reading, History, Bad, number, frame, frames, read, opening}

abbrev pub bodies_in : Reading → List (List ℕ)
bodies_in (History bodies) = bodies
bodies_in (Bad p) = []

-- the bodies that stand in these bytes, which end before a gate
unfoldable pub bodies_of : List ℕ → List (List ℕ)
bodies_of front = bodies_in (read (λ _ _. true) (front ++ 0 ∷ []))

-- a header and whole frames, each behind an open gate
pub record IsFront (front : List ℕ) : Type 0 where
  pub whole : front ≡ opening (slice_index front 6) ++ frames (bodies_of front)
  pub format : slice_index front 6 ≢ 2

-- the body of a frame
abbrev pub body_in : List ℕ → List ℕ
body_in (a ∷ b ∷ c ∷ d ∷ rest) = take (number a b c d) rest
body_in bytes = []

-- a frame and the closed gate behind it
abbrev pub IsFrame : List ℕ → Type 0
IsFrame bytes = bytes ≡ frame (body_in bytes) ++ 0 ∷ []

-- these bytes begin with that front, and then with a closed gate
pub record IsClosedAfter (front bytes : List ℕ) : Type 0 where
  pub front_same : take (length front) bytes ≡ front
  pub within : length front < length bytes
  pub shut : slice_index bytes (length front) ≢ 1

-- these bytes begin with that front, any gate, a whole frame of that body and a closed gate
pub record IsFramedAfter (front body bytes : List ℕ) : Type 0 where
  pub front_same : take (length front) bytes ≡ front
  pub framed : take (length (frame body) + 1) (drop (length front + 1) bytes) ≡ frame body ++ 0 ∷ []

-- so do what a read gives and each outcome of a crash
pub record Each (P : List ℕ → Type 0) (seen : List ℕ) (outcomes : List ℕ → Type 0) : Type 0 where
  pub now : P seen
  pub crashed : (c : List ℕ) → outcomes c → P c

-- What is known of a journal's disk: whole frames up to the gate. Where nothing is in doubt the gate is closed;
-- else a whole frame stands behind it, and a crash may leave it open or closed.
pub record IsSound (seen : List ℕ) (outcomes : List ℕ → Type 0) (gate : ℕ) (doubt : Bool) : Type 0 where
  pub front : IsFront (take gate seen)
  pub within : gate < length seen
  pub sure : doubt ≡ false → Each (IsClosedAfter (take gate seen)) seen outcomes
  pub unsure : doubt ≡ true → Each (IsFramedAfter (take gate seen) (body_in (drop (gate + 1) seen))) seen outcomes

-- the bodies that a journal with this gate holds
abbrev pub history : ℕ → List ℕ → List (List ℕ)
history gate seen = bodies_of (take gate seen)

-- the body behind the gate, for a journal in doubt
abbrev pub doubted : ℕ → List ℕ → List ℕ
doubted gate seen = body_in (drop (gate + 1) seen)

-- these bytes stand for the bodies, or for them and the one in doubt
abbrev pub StandsDoubting : Legal → List (List ℕ) → Bool → List ℕ → List ℕ → Type 0
StandsDoubting legal bodies doubt body bytes = Stands legal bytes bodies ⊎ ((doubt ≡ true) × Stands legal bytes (bodies ++ body ∷ []))

-- where a journal starts: at the call of `begin`, or after its sync, where something was pending at the call
abbrev pub start_of : {D : Type 0} → (D → Bool) → (D → ℕ) → D → D → ℕ
start_of pending moment called synced = if pending called then moment synced else moment called

-- each element is a byte
abbrev pub AreBytes : List ℕ → Type 0
AreBytes bytes = (k : ℕ) → k < length bytes → slice_index bytes k < 256

-- the offset of the gate behind these bodies
abbrev pub gate_behind : List (List ℕ) → ℕ
gate_behind bodies = 7 + length (frames bodies)

-- what stands for a history behind an open header can be adopted at the gate behind it
abbrev pub CanBeAdopted : Legal → List ℕ → List (List ℕ) → Type 0
CanBeAdopted legal bytes bodies =
    IsFront (take (gate_behind bodies) bytes) × IsClosedAfter (take (gate_behind bodies) bytes) bytes × (history (gate_behind bodies) bytes ≡ bodies) × AreLegal legal bodies
