-- What a shelf gives, and how its contents change, where they are told.
use Rattle.std.specs.Prelude.{◌≡◌, ◌≢◌, ◌↔◌, ℕ, ◌≤◌, ◌<◌, Option, Some, None, List, [], ◌++◌, length, take, drop, IfSome, option_map, ◌⊎◌, Result, Ok, Err}

-- the buffer begins with the n bytes of the contents from a place on; a buffer that isn't empty gets none exactly at or past the end
pub record GivesFrom (bytes : List ℕ) (from n : ℕ) (buf : List ℕ) : Type 0 where
  pub given : take n buf ≡ take n (drop from bytes)
  pub within : n ≤ length (drop from bytes)
  pub at_end : 0 < length buf → n ≡ 0 ↔ (length bytes ≤ from)

-- the contents of every name stay
abbrev pub Stay : (List ℕ → Option (List ℕ)) → (List ℕ → Option (List ℕ)) → Type 0
Stay old new = (name : List ℕ) → new name ≡ old name

-- the contents of every other name stay
abbrev pub OthersStay : List ℕ → (List ℕ → Option (List ℕ)) → (List ℕ → Option (List ℕ)) → Type 0
OthersStay name old new = (other : List ℕ) → other ≢ name → new other ≡ old other

-- the new contents are the old with this piece after them; what wasn't told still isn't
abbrev pub Appended : List ℕ → Option (List ℕ) → Option (List ℕ) → Type 0
Appended piece old new = new ≡ option_map (λ bytes. bytes ++ piece) old

-- the same with some prefix of the piece
pub record AppendedPart (piece : List ℕ) (old new : Option (List ℕ)) : Type 0 where
  pub n : ℕ
  pub within : n ≤ length piece
  pub appended : Appended (take n piece) old new

-- the contents are these bytes, where they are told, and what was told still is
abbrev pub Stored : List ℕ → Option (List ℕ) → Option (List ℕ) → Type 0
Stored bytes None new = IfSome new (λ held. held ≡ bytes)
Stored bytes (Some before) new = new ≡ Some bytes

-- the same with some prefix of the bytes
pub record StoredPart (bytes : List ℕ) (old new : Option (List ℕ)) : Type 0 where
  pub n : ℕ
  pub within : n ≤ length bytes
  pub stored : Stored (take n bytes) old new

-- the contents are as they were, or some prefix of the bytes
abbrev pub SameOrPart : List ℕ → Option (List ℕ) → Option (List ℕ) → Type 0
SameOrPart bytes old new = (new ≡ old) ⊎ StoredPart bytes old new

-- an Ok emptied the contents; a failure left them or emptied them
abbrev pub Emptied : {E : Type 0} → Option (List ℕ) → Option (List ℕ) → Result Unit E → Type 0
Emptied old new (Ok _) = Stored [] old new
Emptied old new (Err _) = (new ≡ old) ⊎ Stored [] old new
