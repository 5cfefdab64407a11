-- Values held in an array with so many places, with blank ones behind them.
use Rattle.std.specs.Prelude.{◌≡◌, ℕ, ◌-◌, ◌≤◌, List, ◌++◌, length, take, drop, replicate}
use Rattle.std.proofs.Common.{◌∙◌, ap, sym}
use Rattle.std.proofs.lemmas.List.{take-append-drop, length-take-le}

-- the blank ones behind so many values, of so many places
abbrev pub blanks : {V : Type 0} → ℕ → V → ℕ → List V
blanks room blank count = replicate (room - count) blank

-- the first places hold values, as many as this, and the others are blank
pub record IsFilled {V : Type 0} (room : ℕ) (blank : V) (count : ℕ) (places : List V) : Type 0 where
  pub few : count ≤ length places
  pub all_places : length places ≡ room
  pub behind : drop count places ≡ blanks room blank count

-- the values, with the blank ones put back behind them, are the places
pub filled : {V : Type 0} (room : ℕ) (blank : V) (count : ℕ) (places : List V) → IsFilled room blank count places → take count places ++ blanks room blank (length (take count places)) ≡ places
filled room blank count places h =
    ap (λ (n : ℕ). take count places ++ blanks room blank n) (length-take-le count places h.few) ∙ ap (λ (rest : List _). take count places ++ rest) (sym h.behind) ∙ take-append-drop count places
