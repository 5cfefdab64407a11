use Rattle.std.proofs.Common.{◌≡◌, ◌<◌, ap, length, ◌∙◌, arith, rules}
use Rattle.std.specs.Prelude.{map, take}
use Rattle.mill_base.proofs.Ranges.{within_of_unit}
use Rattle.mill_base.specs.Ranges.{IsInUnitRange}
use Rattle.mill_block.specs.MachineArcs.{chord_end, fed}
use Rattle.mill_block.specs.inner.Sweeps.{point_of}
use Rattle.mill_block.proofs.ArcMoves.{chord_more, point_at, taken_back}
use Rattle.mill_block.proofs.machine_arc.add_chords.Goals as goal

pub narrow-to-requires : goal.narrow-to-requires
narrow-to-requires c =
    let unit = c.args.sweep.arc.unit in
    let less : c.loop-chord.chord-index < length c.args.chords.now = search (rules, arith) in
    let there : IsInUnitRange unit (point_of c.chord_end.result) =
    rw c.chord_end.ensures (point_at unit (chord_end c.args.plane c.args.sweep) c.args.chords.now c.loop-chord.chord-index _ less c.requires.range) in
    record {
      x_within = within_of_unit unit c.chord_end.result.x there.x_ok;
      y_within = within_of_unit unit c.chord_end.result.y there.y_ok;
      z_within = within_of_unit unit c.chord_end.result.z there.z_ok;
    }

pub returns-then-is_err-clause-kept : goal.returns-then-is_err-clause-kept
returns-then-is_err-clause-kept c =
    let first : c.len-first.result ≡ length c.args.out.now.items = search (rules, arith) in
    c.truncate.ensures.items ∙ ap (λ n. take n c.add.new.moves.items) first ∙ taken_back c.args.out.now.items (fed c.args.here (map (chord_end c.args.plane c.args.sweep) (take c.loop-chord.chord-index c.args.chords.now))) c.add.new.moves.items (search rules)

pub loop-chord-preserved : goal.loop-chord-preserved
loop-chord-preserved c =
    let less : c.loop-chord.chord-index < length c.args.chords.now = search (rules, arith) in
    let more = chord_more (chord_end c.args.plane c.args.sweep) c.args.here c.loop-chord.at c.narrow-to.result c.args.chords.now c.loop-chord.chord-index _ c.args.out.now.items c.loop-chord.out.items c.add.new.moves.items
    less (c.narrow-to.ensures ∙ c.chord_end.ensures) c.loop-chord.invariant.moves c.loop-chord.invariant.at_is (search rules) in
    record { moves = more.0; at_is = more.1 }
