-- How a row's text is cut, and what is put in the place of its parts.
use Rattle.std.specs.Prelude.{◌≡◌, ◌⊎◌, ℕ, List, None}
use Rattle.std.specs.Borrow.{Bor}
use Rattle.std.specs.Str.Pattern.{FindsText, SplitsAroundMatch}
use Rattle.std.specs.Str.Replace.{ReplacesMatches}

-- what stands before the first mark in a text, and what behind it; where the text has no mark, the
-- text itself and another one
abbrev pub CutsAt : List ℕ → List ℕ → List ℕ → List ℕ → List ℕ → Type 0
CutsAt mark other text before behind = SplitsAroundMatch (FindsText mark) text before behind
    ⊎ (FindsText mark text None × (before ≡ text) × (behind ≡ other))

-- a text with `new` in the place of each `old`, one after another from the front
abbrev pub Replaced : List ℕ → List ℕ → List ℕ → List ℕ → Type 0
Replaced old new text out = (count : ℕ) × (pattern : Bor (List ℕ)) × (pattern.now ≡ old)
    × ReplacesMatches (λ each. FindsText each.now) (λ each next. next.now ≡ each.now) new count
    pattern text out
