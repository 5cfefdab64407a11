-- How a list of numbers goes on where those whose top isn't over a height are passed over.
use Rattle.std.specs.Prelude.{◌≡◌, ℕ, ℤ, ◌<ℤ◌, List, ◌∷◌, ◌++◌}
use Rattle.mill_cells.specs.Sorted.{top_at, AreUnder}

-- numbers at the head of the old list are passed over, and the new one is the rest
pub record ArePassed (tops : List ℤ) (height : ℤ) (old new : List ℕ) : Type 0 where
  pub passed : List ℕ
  pub split : old ≡ passed ++ new
  pub under : AreUnder tops height passed

-- the number i comes after those that are passed over
pub record IsNext (tops : List ℤ) (height : ℤ) (old : List ℕ) (i : ℕ) (new : List ℕ) : Type 0 where
  pub passed : ArePassed tops height old (i ∷ new)
  pub over : height <ℤ top_at tops i
