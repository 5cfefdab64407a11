use Rattle.std.specs.Prelude.{◌<◌, length, None}
use Rattle.std.proofs.Common.{◌≡◌, [], arith, rules}
use Rattle.std.proofs.lemmas.List.{get_or_default}
use Rattle.mill_dexel.specs.Tops.{uncut}
use Rattle.mill_verify.specs.Tests.{stock_met}
use Rattle.mill_report.proofs.Found.{found_all, found_more, found_none, read_told}
use Rattle.mill_report.proofs.moves.failing_moves.Goals as goal

pub loop-number-init : goal.loop-number-init
loop-number-init c =
    let none : c.new-found.result.items ≡ [] = search rules in
    found_none c.args.job.now.fields c.args.part.now c.args.moves.now c.new-found.result.items none

pub loop-number-preserved : goal.loop-number-preserved
loop-number-preserved c =
    let moves = c.args.moves.now in
    let stops = c.args.stops.now in
    let number = c.loop-number.number in
    let there : number < length moves = omega (arith, c.loop-number-test.true, c.loop-number.auto.number-end) in
    let stock = stock_met c.args.job.now.fields (uncut c.args.job.now.fields) moves number in
    found_more c.args.job.now.fields c.args.part.now moves number there c.loop-number.found.items c.loop-number.invariant c.finding_of-finding.result c.note.new.found.items _
    (get_or_default moves number _ _ there)
    (c.finding_of-finding.ensures stock (read_told c.args.job.now.fields stock _ _ _ _ (get_or_default moves number _ _ there) (get_or_default stops number _ None (omega (there, c.requires.told.count, arith))) (c.requires.told.each number there)))
    c.in_ok-note.ensures

pub returns-clause-found : goal.returns-clause-found
returns-clause-found c =
    found_all c.args.job.now.fields c.args.part.now c.args.moves.now c.loop-number.number c.loop-number.found.items
    (omega (arith, c.loop-number-test.false, c.loop-number.auto.number-end)) c.loop-number.invariant

pub returns-clause-blocked : goal.returns-clause-blocked
returns-clause-blocked c = c.loop-number.invariant.named
