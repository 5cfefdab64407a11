-- What the runs of a fiber say of positions on it.
use Rattle.std.specs.Prelude.{◌≡◌, ◌↔◌, ℕ, ◌+◌, ◌-◌, ◌≤◌, ◌<◌, ℤ, pos, ◌+ℤ◌, ◌-ℤ◌, ◌<ℤ◌, ◌≤ℤ◌, Bool, List, ◌++◌, length, slice_index_or, MatchBool}
use Rattle.mill_base.specs.Numbers.{Within}
use Rattle.mill_base.specs.declared.limits.TheConstants.{MAX_COORDINATE}
use Rattle.mill_push.specs.declared.fiber.Run.{Run}
use Rattle.mill_push.specs.Runs.{StandsIn}
use Rattle.mill_level.specs.declared.fiber.Spot.{Spot}

-- the runs ascend by their firsts and by their lasts, no run is empty, and all are in range
pub record AreAscending (runs : List Run) : Type 0 where
  pub firsts : (i j : ℕ) (run : Run) → i ≤ j → j < length runs → (slice_index_or runs i run).first ≤ℤ (slice_index_or runs j run).first
  pub lasts : (i j : ℕ) (run : Run) → i ≤ j → j < length runs → (slice_index_or runs i run).last ≤ℤ (slice_index_or runs j run).last
  pub some : (k : ℕ) (run : Run) → k < length runs → (slice_index_or runs k run).first ≤ℤ (slice_index_or runs k run).last
  pub first_ok : (k : ℕ) (run : Run) → k < length runs → Within MAX_COORDINATE (slice_index_or runs k run).first
  pub last_ok : (k : ℕ) (run : Run) → k < length runs → Within MAX_COORDINATE (slice_index_or runs k run).last

-- so many of the runs, the first ones, end before the position
pub record EndBefore (runs : List Run) (v : ℤ) (i : ℕ) : Type 0 where
  pub few : i ≤ length runs
  pub each : (k : ℕ) (run : Run) → k < i → (slice_index_or runs k run).last <ℤ v

-- and no others do
pub record IsBefore (runs : List Run) (v : ℤ) (i : ℕ) : Type 0 where
  pub before : EndBefore runs v i
  pub after : (k : ℕ) (run : Run) → i ≤ k → k < length runs → v ≤ℤ (slice_index_or runs k run).last

abbrev pub IsSpot : List Run → Spot → Type 0
IsSpot runs spot = IsBefore runs spot.position spot.before

-- there are positions, each is in range, and each is below those after it
pub record ArePositions (positions : List ℤ) : Type 0 where
  pub some : 0 < length positions
  pub within : (k : ℕ) (v : ℤ) → k < length positions → Within MAX_COORDINATE (slice_index_or positions k v)
  pub rising : (i j : ℕ) (v : ℤ) → i < j → j < length positions → slice_index_or positions i v <ℤ slice_index_or positions j v

-- what comes from the first of the positions to the last is blocked exactly where it stands in a run
abbrev pub HoldBlocked : (ℤ → Type 0) → List ℤ → List Run → Type 0
HoldBlocked Blocked positions runs = (v : ℤ) → slice_index_or positions 0 (pos 0) ≤ℤ v → v ≤ℤ slice_index_or positions (length positions - 1) (pos 0)
    → Blocked v ↔ StandsIn runs v

-- all positions from low up to the place are free, and the one after it is blocked
pub record IsUp (Blocked : ℤ → Type 0) (low high place : ℤ) : Type 0 where
  pub from : low ≤ℤ place
  pub to : place <ℤ high
  pub free : (v : ℤ) → low ≤ℤ v → v ≤ℤ place → ¬ Blocked v
  pub blocked : Blocked (place +ℤ pos 1)

-- all positions from the place up to high are free, and the one before it is blocked
pub record IsDown (Blocked : ℤ → Type 0) (low high place : ℤ) : Type 0 where
  pub from : low <ℤ place
  pub to : place ≤ℤ high
  pub free : (v : ℤ) → place ≤ℤ v → v ≤ℤ high → ¬ Blocked v
  pub blocked : Blocked (place -ℤ pos 1)

-- the place is the last free position on the way between two positions, of which one is free and one blocked, from the free one
pub record IsPlaceBetween (Blocked : ℤ → Type 0) (low high place : ℤ) : Type 0 where
  pub up : ¬ Blocked low → Blocked high → IsUp Blocked low high place
  pub down : Blocked low → ¬ Blocked high → IsDown Blocked low high place

-- to the list as it was were added so many items, and each of these is right by its number
pub record AreAdded {X : Type 0} (IsRight : ℕ → X → Type 0) (count : ℕ) (old new : List X) : Type 0 where
  pub added : List X
  pub is : new ≡ old ++ added
  pub size : length added ≡ count
  pub each : (k : ℕ) (x : X) → k < count → IsRight k (slice_index_or added k x)

-- the Bool says whether the position of this number is blocked
abbrev pub Tells : (ℤ → Type 0) → List ℤ → ℕ → Bool → Type 0
Tells Blocked positions k b = (v : ℤ) → MatchBool b (Blocked (slice_index_or positions k v)) (¬ Blocked (slice_index_or positions k v))

-- the place is that between the position of this number and the next, if there is a next
abbrev pub Places : (ℤ → Type 0) → List ℤ → ℕ → ℤ → Type 0
Places Blocked positions k place = (v : ℤ) → k + 1 < length positions
    → IsPlaceBetween Blocked (slice_index_or positions k v) (slice_index_or positions (k + 1) v) place
