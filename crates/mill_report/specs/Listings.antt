-- A list of all that there is under some numbers.
use Rattle.std.specs.Prelude.{ℕ, ◌<◌, ◌≢◌, List, All, AllPairs}

-- Each thing of the list is one of those that are listed, and has a number under n; a number under n that none of them has is bare; and they stand in the order of
-- their numbers, of which no two are the same. So where a listed thing's number isn't bare, the list has all of them, and each once.
pub record IsListing (A : Type 0) (number : A → ℕ) (IsListed : A → Type 0) (IsBare : ℕ → Type 0) (n : ℕ) (list : List A) : Type 0 where
  pub each : All IsListed list
  pub under : All (λ a. number a < n) list
  pub others : (k : ℕ) → k < n → All (λ a. number a ≢ k) list → IsBare k
  pub order : AllPairs (λ a b. number a < number b) list
