-- What stays within bounds while a line is read.
use Rattle.std.specs.Prelude.{◌≡◌}
use Rattle.mill_block.specs.declared.progress.Progress.{Progress}

-- what a reader's bounds hang on stays
pub record Stays (old new : Progress) : Type 0 where
  pub same_unit : new.unit ≡ old.unit
  pub same_clear : new.clear ≡ old.clear
  pub same_series : new.machine.series ≡ old.machine.series
  pub same_finer : new.machine.finer ≡ old.machine.finer
