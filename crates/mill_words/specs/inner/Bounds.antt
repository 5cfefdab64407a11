-- What stays within bounds while a line is read.
use Rattle.std.specs.Prelude.{ℕ, ◌<◌, ◌≤◌}
use Rattle.mill_words.specs.declared.open_word.OpenWord.{OpenWord}
use Rattle.mill_words.specs.declared.stage.Stage.{Stage}
use Rattle.mill_words.specs.declared.stage.Stage.TheVariants.{InLineNumber, InWord}
use Rattle.mill_words.specs.Words.{FitsNum}

-- the word's number has its digits, at most 18
pub record FitsOpenWord (w : OpenWord) : Type 0 where
  pub few : w.digits ≤ 18
  pub num : FitsNum w.digits w.num

-- a word that has begun, behind n words, has room among them
pub record FitsNext (n : ℕ) (w : OpenWord) : Type 0 where
  pub room : n < 32
  pub fits : FitsOpenWord w

-- the same of all that may have begun
abbrev pub FitsStage : ℕ → Stage → Type 0
FitsStage n (InWord w) = FitsNext n w
FitsStage n (InLineNumber p digits) = digits ≤ 9
FitsStage n stage = Unit {0}
