-- What reads gave, and when files hold that.
use Rattle.std.specs.Prelude.{◌≡◌, ℕ, List, [], ◌∷◌, ◌++◌, Option, Some, None, IfSome, Result, Ok, Err}
use Rattle.mill_io.specs.Contents.{GivesFrom}

-- one read: its name, the place from which it was to read, and how many bytes it gave with the buffer that begins with them; nothing where it failed
abbrev pub Reading : Type 0
Reading = List ℕ × (ℕ × Option (ℕ × List ℕ))

-- the read of a name from a place on that left this buffer and had this answer
abbrev pub reading_of : {E : Type 0} → List ℕ → ℕ → List ℕ → Result ℕ E → Reading
reading_of name from buf (Ok n) = (name, (from, Some (n, buf)))
reading_of name from buf (Err failed) = (name, (from, None))

-- the last read was one of this name, and it failed
pub record LastFails (name : List ℕ) (log : List Reading) : Type 0 where
  pub from : ℕ
  pub before : List Reading
  pub last : log ≡ (name, (from, None)) ∷ before

-- ---- files that hold what reads gave

-- the file of a read, where its contents are these, holds what the read gave
abbrev pub IsHeld : (List ℕ → Option (List ℕ)) → Reading → Type 0
IsHeld contents (name, (from, Some (n, buf))) = IfSome (contents name) (λ bytes. GivesFrom bytes from n buf)
IsHeld contents (name, (from, None)) = Unit {0}

-- so it is of each of these reads
abbrev pub AllHeld : (List ℕ → Option (List ℕ)) → List Reading → Type 0
AllHeld contents [] = Unit {0}
AllHeld contents (reading ∷ readings) = IsHeld contents reading × AllHeld contents readings

-- files of these contents hold what each read gave from one time to another: between the two the log grew by those reads
pub record AreHeld (contents : List ℕ → Option (List ℕ)) (before after : List Reading) : Type 0 where
  pub made : List Reading
  pub grows : after ≡ made ++ before
  pub held : AllHeld contents made
