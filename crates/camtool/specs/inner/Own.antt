-- Names of files that would be stored over.
use Rattle.std.specs.Prelude.{◌≡◌, ◌⊎◌, List, MatchOption}
use Rattle.clap.specs.Words.{Text}
use Rattle.mill_command.specs.Requests.{Request, verify, rest, plan, drop, level, stock, sample, request}

-- the text that this request stores would stand in place of a file that it is made of: their names are equal, byte for byte
abbrev pub IsOverOwn : Request → Type 0
IsOverOwn (verify job part file workers) = ⊥
IsOverOwn (rest job part list workers) = ⊥
IsOverOwn (plan job part out workers) = (out ≡ job) ⊎ (out ≡ part)
IsOverOwn (drop job part x y) = ⊥
IsOverOwn (level job part z) = ⊥
IsOverOwn (stock job file out) = (out ≡ job) ⊎ (out ≡ file)
IsOverOwn (sample size workers) = ⊥

-- so would the text that these words ask for
abbrev pub AreOverOwn : List Text → Type 0
AreOverOwn words = MatchOption (request words) ⊥ IsOverOwn
