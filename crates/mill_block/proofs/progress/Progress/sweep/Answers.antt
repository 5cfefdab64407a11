use Rattle.std.specs.Prelude.{◌≡◌, true}
use Rattle.std.proofs.Common.{sym, subst}
use Rattle.mill_base.specs.declared.points.Pt3.{Pt3}
use Rattle.mill_block.specs.MachineArcs.{is_nano_place}
use Rattle.mill_block.proofs.ArcNumbers.{words_show}
use Rattle.mill_block.proofs.progress.Progress.sweep.Goals as goal

pub nano-start-requires-clause-whole : goal.nano-start-requires-clause-whole
nano-start-requires-clause-whole c =
    subst (λ (q : Pt3). is_nano_place c.args.self.now.unit q ≡ true) (sym c.exact_place.ensures.text) (words_show c.args.control c.args.self.now c.args.said.now c.requires.words).start

pub nano-end-requires-clause-whole : goal.nano-end-requires-clause-whole
nano-end-requires-clause-whole c =
    subst (λ (q : Pt3). is_nano_place c.args.self.now.unit q ≡ true) (sym (c.exact_end.ensures.text c.args.control c.requires.to)) (words_show c.args.control c.args.self.now c.args.said.now c.requires.words).«end»

pub sweep_between-requires-clause-control : goal.sweep_between-requires-clause-control
sweep_between-requires-clause-control c = (words_show c.args.control c.args.self.now c.args.said.now c.requires.words).room
