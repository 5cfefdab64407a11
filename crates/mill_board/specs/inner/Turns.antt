-- What a held piece comes to when it is taken on.
use Rattle.std.specs.Prelude.{◌≡◌, ◌<◌, ◌⊎◌, false, true}
use Rattle.mill_board.specs.declared.work.Held.{Held}

-- a held piece is some turns on, or has failed at its turn
pub record Turned {P : Type 0} (old new : Held P) : Type 0 where
  pub number : new.number ≡ old.number
  pub goes : ((old.next < new.next) × (new.failed ≡ false)) ⊎ ((new.next ≡ old.next) × (new.failed ≡ true))
