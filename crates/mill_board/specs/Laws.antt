-- What a work comes to is one thing.
use Rattle.std.specs.Prelude.{◌≡◌, ℕ, List, slice_get, Some}
use Rattle.mill_board.specs.declared.work.Held.{Held}
use Rattle.mill_board.specs.declared.work.Terms.{Terms}
use Rattle.mill_board.specs.Works.{Means, FailsAt, HasSpans, IsClosed}

-- a piece's turns leave it in one way: so its turns under each one do, and so does its failing turn
pub record HasOneState {W P : Type 0} (M : Means W P) (work : W) : Type 0 where
  pub at_turn : (n t : ℕ) (p q : P) → M.IsAt work n t p → M.IsAt work n t q → p ≡ q
  pub at_failure : (n t : ℕ) (p q : P) → M.IsFailed work n t p → M.IsFailed work n t q → p ≡ q

-- two outcomes have one least turn; the pieces that fail at it are the same in both; and where no piece fails, all pieces are
pub record SameOutcome {W P : Type 0} (M : Means W P) (terms : Terms W) (least : ℕ) (pieces : List (Held P)) (other : ℕ) (others : List (Held P)) : Type 0 where
  pub least_is : least ≡ other
  pub failing : (n : ℕ) (h k : Held P) → slice_get pieces n ≡ Some h → slice_get others n ≡ Some k → FailsAt M terms.work n least → h ≡ k
  pub unfailed : least ≡ terms.turns → (n : ℕ) (h k : Held P) → slice_get pieces n ≡ Some h → slice_get others n ≡ Some k → h ≡ k

-- a work whose turns lie under their number, and leave each piece in one way, comes to one thing, whoever does it
abbrev pub OneOutcome : {W P : Type 0} → Means W P → Type 0
OneOutcome {W} {P} M = (terms : Terms W) (least : ℕ) (pieces : List (Held P)) (other : ℕ) (others : List (Held P)) → HasSpans M terms.work terms.turns → HasOneState M terms.work
    → IsClosed M terms least pieces → IsClosed M terms other others → SameOutcome M terms least pieces other others
