use Rattle.std.proofs.Common.{ℕ, ◌<◌, length, ap, ◌∙◌, arith}
use Rattle.std.proofs.lemmas.List.{get_or_default}
use Rattle.std.proofs.lemmas.List.Elements.{Contains-get_or}
use Rattle.mill_base.specs.declared.motion.Move.{Move}
use Rattle.std.proofs.lemmas.Int.{to_z-of_z}
use Rattle.std.specs.Int.{w32}
use Rattle.std.specs.Prelude.{ℤ}
use Rattle.mill_document.specs.Details.{column_of, segment_of}
use Rattle.mill_document.proofs.Naming.{failure_is, names_leaf}
use Rattle.mill_dexel.specs.Turns.{move_at}
use Rattle.mill_report.specs.Findings.{move_of}
use Rattle.mill_document.proofs.detail.failure.Goals as goal

pub segment_of-requires-clause-step_ok : goal.segment_of-requires-clause-step_ok
segment_of-requires-clause-step_ok c =
    c.requires.moves_ok _ (Contains-get_or c.args.moves.now c.move_number-number.result _ (omega (arith, c.move_number-number.ensures, c.requires.finding.there)))

pub segment_of-requires-clause-leaf : goal.segment_of-requires-clause-leaf
segment_of-requires-clause-leaf c =
    names_leaf c.args.job.now.fields c.args.part.now c.args.moves.now c.args.reason.now
    (c.requires.moves_ok _ (Contains-get_or c.args.moves.now (move_of c.args.reason.now) _ c.requires.finding.there)) c.requires.finding

pub returns : goal.returns
returns c =
    let moves = c.args.moves.now in
    let number = c.move_number-number.result in
    let there : number < length moves = omega (arith, c.move_number-number.ensures, c.requires.finding.there) in
    failure_is c.args.job.now.fields c.args.part.now moves c.args.reason.now c.args.line c.args.top c.args.lift number c.test_of.result c.triangle_of.result c.fixture_number.result c.column_of.result c.segment_of.result
    c.move_number-number.ensures c.test_of.ensures c.triangle_of.ensures c.fixture_number.ensures (c.column_of.ensures ∙ ap (λ (t : ℤ). column_of c.args.job.now.fields t c.args.reason.now) (to_z-of_z w32 c.args.top c.ranges.top))
    (c.segment_of.ensures ∙ ap (λ (m : Move). segment_of m c.args.reason.now) (get_or_default moves number _ _ there ∙ ap (λ (k : ℕ). move_at moves k) c.move_number-number.ensures))
