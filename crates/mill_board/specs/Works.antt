-- What the pieces of a work are, what their turns do, and when a piece is as its turns leave it.
use Rattle.std.specs.Prelude.{◌≡◌, ℕ, ◌<◌, ◌≤◌, ◌⊎◌, true, false, List, length, slice_get, Some}
use Rattle.mill_board.specs.declared.work.Held.{Held}
use Rattle.mill_board.specs.declared.work.Terms.{Terms}

-- what a work means: how many pieces it has; the turns of the piece of a number, from its first on and under its limit; that piece at the start; when a piece is as its turns under one leave it; whether its turn passes; and when a piece is as its failing turn leaves it
pub record Means (W P : Type 0) : Type 1 where
  pub pieces : W → ℕ
  pub first : W → ℕ → ℕ
  pub limit : W → ℕ → ℕ
  pub start : W → ℕ → P
  pub IsAt : W → ℕ → ℕ → P → Type 0
  pub Passes : W → ℕ → ℕ → Type 0
  pub IsFailed : W → ℕ → ℕ → P → Type 0

-- no turn of the piece before this one fails
abbrev pub PassesBefore : {W P : Type 0} → Means W P → W → ℕ → ℕ → Type 0
PassesBefore M work n t = (u : ℕ) → M.first work n ≤ u → u < t → M.Passes work n u

-- the piece of a number fails at this turn, which is one of its own, and at none before it
pub record FailsAt {W P : Type 0} (M : Means W P) (work : W) (n t : ℕ) : Type 0 where
  pub from : M.first work n ≤ t
  pub to : t < M.limit work n
  pub passes : PassesBefore M work n t
  pub fails : ¬ M.Passes work n t

-- this turn of the piece of a number comes next: it is one of its own, none before it fails, and the piece is as those leave it
pub record IsDue {W P : Type 0} (M : Means W P) (work : W) (n t : ℕ) (piece : P) : Type 0 where
  pub number : n < M.pieces work
  pub from : M.first work n ≤ t
  pub to : t < M.limit work n
  pub passes : PassesBefore M work n t
  pub is_at : M.IsAt work n t piece

-- the turns of the piece of a number before this one pass, this one is at most their limit, and the piece is as they leave it
pub record HasPassedTo {W P : Type 0} (M : Means W P) (work : W) (n t : ℕ) (piece : P) : Type 0 where
  pub to : t ≤ M.limit work n
  pub passes : PassesBefore M work n t
  pub is_at : M.IsAt work n t piece

-- a held piece is one of the work's, and as its turns leave it: up to its next turn, or to the one at which it fails, and this one too
pub record IsTrueHeld {W P : Type 0} (M : Means W P) (work : W) (h : Held P) : Type 0 where
  pub number : h.number < M.pieces work
  pub going : h.failed ≡ false → (M.first work h.number ≤ h.next) × (h.next ≤ M.limit work h.number) × PassesBefore M work h.number h.next × M.IsAt work h.number h.next h.piece
  pub failed : h.failed ≡ true → FailsAt M work h.number h.next × M.IsFailed work h.number h.next h.piece

-- the piece of a number with no turn done
abbrev pub started : {W P : Type 0} → Means W P → W → ℕ → Held P
started M work n = record { number = n; piece = M.start work n; next = M.first work n; failed = false }

-- the turns of each piece lie under the number of turns
abbrev pub HasSpans : {W P : Type 0} → Means W P → W → ℕ → Type 0
HasSpans M work turns = (n : ℕ) → n < M.pieces work → (M.first work n ≤ M.limit work n) × (M.limit work n ≤ turns)

-- the number of turns, or a turn at which a piece fails
abbrev pub IsFailure : {W P : Type 0} → Means W P → Terms W → ℕ → Type 0
IsFailure M terms t = (t ≡ terms.turns) ⊎ ((n : ℕ) × (n < M.pieces terms.work) × FailsAt M terms.work n t)

-- nothing is left to be done for a piece: it has failed, or its turns are through, or its next one is over the least turn
abbrev pub IsThrough : {W P : Type 0} → Means W P → W → ℕ → Held P → Type 0
IsThrough M work least h = (h.failed ≡ true) ⊎ (M.limit work h.number ≤ h.next) ⊎ (least < h.next)

-- the piece of a number, as its turns leave it, with nothing left to be done
pub record IsDone {W P : Type 0} (M : Means W P) (work : W) (least n : ℕ) (h : Held P) : Type 0 where
  pub number : h.number ≡ n
  pub is_true : IsTrueHeld M work h
  pub through : IsThrough M work least h

-- what a work comes to: the least turn at which a piece fails, or the number of turns; and the pieces in the order of their numbers, each done up to that turn
pub record IsClosed {W P : Type 0} (M : Means W P) (terms : Terms W) (least : ℕ) (pieces : List (Held P)) : Type 0 where
  pub count : length pieces ≡ M.pieces terms.work
  pub each : (n : ℕ) (h : Held P) → slice_get pieces n ≡ Some h → IsDone M terms.work least n h
  pub failure : IsFailure M terms least
  pub under : (n t : ℕ) → n < M.pieces terms.work → FailsAt M terms.work n t → least ≤ t
