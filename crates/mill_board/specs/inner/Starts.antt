-- The slots of a board at its start.
use Rattle.std.specs.Prelude.{ℕ, zero, suc, ◌+◌, ◌<◌, ◌≤◌, List, [], ◌∷◌, Option, Some}
use Rattle.mill_board.specs.declared.work.Held.{Held}
use Rattle.mill_board.specs.Works.{IsTrueHeld, Means, started}

-- so many pieces with no turn done, from the one of this number on
abbrev pub starts : {W P : Type 0} → Means W P → W → ℕ → ℕ → List (Option (Held P))
starts M work n zero = []
starts M work n (suc k) = Some (started M work n) ∷ starts M work (n + 1) k

-- no piece's turns begin past their limit
abbrev pub AreSpans : {W P : Type 0} → Means W P → W → Type 0
AreSpans M work = (n : ℕ) → n < M.pieces work → M.first work n ≤ M.limit work n

-- each piece under this number is, with no turn done, as its turns leave it
abbrev pub StartTrue : {W P : Type 0} → Means W P → W → ℕ → Type 0
StartTrue M work bound = (n : ℕ) → n < bound → IsTrueHeld M work (started M work n)
