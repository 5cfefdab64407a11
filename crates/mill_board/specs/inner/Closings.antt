-- What is known while a board is closed.
use Rattle.std.specs.Prelude.{◌≡◌, ◌⊎◌, ℕ, ◌<◌, ◌≤◌, min, List, length, slice_get, slice_index_or, Option, Some, None, IfSome}
use Rattle.mill_board.specs.declared.work.Held.{Held}
use Rattle.mill_board.specs.declared.work.Terms.{Terms}
use Rattle.mill_board.specs.Works.{Means, FailsAt, IsDone, IsFailure, IsTrueHeld}

-- from this number on each slot has its piece: the claim, or all where every piece came back
abbrev pub IsSound : ℕ → ℕ → ℕ → ℕ → Type 0
IsSound claim back pieces from = (from ≡ claim) ⊎ ((from ≡ 0) × (back ≡ min claim pieces))

-- a slot's piece, where it has one, is the true one of this number
abbrev pub HasTrue : {W P : Type 0} → Means W P → W → ℕ → Option (Held P) → Type 0
HasTrue M work n slot = IfSome slot (λ h. IsTrueHeld M work h × (h.number ≡ n))

-- each slot from a number on has its piece, where it has one
abbrev pub HasTrueFrom : {W P : Type 0} → Means W P → W → ℕ → List (Option (Held P)) → Type 0
HasTrueFrom M work from slots = (n : ℕ) → from ≤ n → HasTrue M work n (slice_index_or slots n None)

-- the pieces of the numbers under a bound are done, and none of them fails before the least turn
pub record IsSettled {W P : Type 0} (M : Means W P) (terms : Terms W) (bound least : ℕ) (pieces : List (Held P)) : Type 0 where
  pub count : length pieces ≡ bound
  pub each : (n : ℕ) (h : Held P) → slice_get pieces n ≡ Some h → IsDone M terms.work least n h
  pub failure : IsFailure M terms least
  pub under : (n t : ℕ) → n < bound → FailsAt M terms.work n t → least ≤ t
