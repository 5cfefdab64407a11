use Rattle.std.proofs.Common.{◌≡◌, ◌<◌, Some, length, sym, subst, ◌∙◌, arith}
use Rattle.std.proofs.lemmas.List.{get_or_default}
use Rattle.mill_base.specs.declared.motion.Move.{Move}
use Rattle.mill_report_run.proofs.LiftLemmas.{lift_is, number_is}
use Rattle.mill_report_run.specs.Reports.{IsLiftOf}
use Rattle.mill_report_run.specs.inner.Lifts.{lifted_move}
use Rattle.mill_report_run.proofs.lifts.lift_of.Goals as goal

pub returns : goal.returns
returns c =
    let job = c.args.job.now.fields in
    let part = c.args.part.now in
    let moves = c.args.moves.now in
    let reason = c.args.reason.now in
    let number = c.in_ok-number.number in
    let named : lifted_move reason ≡ Some number = sym c.lifted_move.ensures ∙ c.in_ok-number.was in
    let there : number < length moves = omega (arith, number_is reason number named, c.requires.finding.there) in
    lift_is job part moves reason number c.move_lift.result named (subst (λ (m : Move). IsLiftOf job part m c.move_lift.result) (get_or_default moves number _ _ there) c.move_lift.ensures)
