use Rattle.mill_verify.proofs.TextTips.{text_tip_is_real}
use Rattle.mill_verify.proofs.laws.text_tip_is_real.Goals as goal

pub returns : goal.returns
returns c = text_tip_is_real
