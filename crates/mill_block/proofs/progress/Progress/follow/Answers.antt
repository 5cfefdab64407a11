use Rattle.std.proofs.Common.{◌≡◌, ◌≤◌, ◌+◌, length, arith, rules}
use Rattle.std.proofs.lemmas.List.{length-map}
use Rattle.std.specs.Prelude.{List, map}
use Rattle.mill_base.specs.declared.limits.TheConstants.{MAX_MOVES}
use Rattle.mill_base.specs.declared.points.Pt3.{Pt3}
use Rattle.mill_block.specs.MachineArcs.{chord_end}
use Rattle.mill_block.proofs.ArcMoves.{round_adds, round_is}
use Rattle.mill_block.proofs.progress.Progress.follow.Goals as goal

pub returns-clause-ok : goal.returns-clause-ok
returns-clause-ok c =
    let p = c.args.self.now in
    let points : List Pt3 = map (chord_end p.machine.plane c.args.sweep) c.args.chords.now in
    let count : length points ≡ length c.args.chords.now = length-map c.args.chords.now (chord_end p.machine.plane c.args.sweep) in
    let few : p.moves + length c.args.chords.now ≤ MAX_MOVES = search (rules, arith) in
    round_adds p _ points c.args.out.now.items c.add_chords.new.out.items c.requires.place c.requires.here c.requires.range (rw count few)
    (round_is p c.in_ok-self.field-0 points (length c.args.chords.now) c.in_ok-self.ensures.end count) c.in_ok-self.ensures.moves
