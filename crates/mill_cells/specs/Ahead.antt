-- Numbers of triangles that come one after another, each with its top over a height.
use Rattle.std.specs.Prelude.{◌≡◌, ◌⊎◌, ℕ, ◌<◌, ℤ, ◌<ℤ◌, ◌≤ℤ◌, List, [], ◌∷◌, length, Contains, nat_eq}
use Rattle.std.specs.List.{IsDistinct}
use Rattle.mill_cells.specs.Sorted.{top_at}

-- the numbers that are still to come, and the tops of all triangles
pub record Ahead : Type 0 where
  pub numbers : List ℕ
  pub tops : List ℤ

-- the number i comes: its top is over the height, and each number before it has been passed over, since its own isn't
pub record Comes (height : ℤ) (old : Ahead) (i : ℕ) (new : Ahead) : Type 0 where
  pub tops : new.tops ≡ old.tops
  pub number : Contains old.numbers i
  pub over : height <ℤ top_at old.tops i
  pub each : (j : ℕ) → Contains old.numbers j → (i ≡ j) ⊎ Contains new.numbers j ⊎ (top_at old.tops j ≤ℤ height)
  pub rest : (j : ℕ) → Contains new.numbers j → Contains old.numbers j
  pub once : IsDistinct nat_eq old.numbers → IsDistinct nat_eq (i ∷ new.numbers)
  pub shorter : length new.numbers < length old.numbers

-- no number comes: no top of those that were still to come is over the height
pub record NoneComes (height : ℤ) (old new : Ahead) : Type 0 where
  pub tops : new.tops ≡ old.tops
  pub each : (j : ℕ) → Contains old.numbers j → top_at old.tops j ≤ℤ height
  pub none : new.numbers ≡ []

-- a caller's invariant: each number of the first ones is still to come, or has been dealt with
abbrev pub AreDealt : (ℕ → Type 0) → (ℕ → Type 0) → List ℕ → Type 0
AreDealt First Dealt numbers = (j : ℕ) → First j → Contains numbers j ⊎ Dealt j
