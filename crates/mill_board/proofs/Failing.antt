-- A piece has one failing turn at most.
use Rattle.std.proofs.Common.{◌≡◌, ℕ, ◌≤◌, arith, lt_of_not-le}
use mathlib.Core.Logic.{dite}
use native.Mathlib.Decide.{dec_le}
use Rattle.mill_board.specs.Works.{Means, FailsAt, PassesBefore}

module _ {W P : Type 0} (M : Means W P) (work : W) where
  -- a turn that fails is not among those that pass
  pub past : (n m t : ℕ) → PassesBefore M work n m → FailsAt M work n t → m ≤ t
  past n m t p f = dite (dec_le m t) (λ le. le) (λ gt. absurd (f.fails (p t f.from (lt_of_not-le gt))))

  -- a piece has one failing turn
  pub one_fail : (n a b : ℕ) → FailsAt M work n a → FailsAt M work n b → a ≡ b
  one_fail n a b f g = let x = past n a b f.passes g in let y = past n b a g.passes f in omega (arith, x, y)
