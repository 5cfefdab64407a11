use Rattle.mill_block.proofs.KeptLemmas.{in_words}
use Rattle.mill_block.proofs.progress.Progress.act_any_words.Goals as goal

pub returns-in-Machine-clause-ok : goal.returns-in-Machine-clause-ok
returns-in-Machine-clause-ok c =
    in_words c.in-Machine.control c.args.self.now c.know_frame.new.self c.act_machine.new.self c.args.words.now c.is_blank.result c.act_machine.result _ _ c.is_blank.ensures c.know_frame.ensures.value c.in-Machine.is c.act_machine.ensures.ok
