use Rattle.std.proofs.Common.{◌<◌, pos, length, subst, arith}
use Rattle.std.proofs.lemmas.Int.{ints}
use mir.Syntax.{w32}
use Rattle.mill_base.proofs.Machine.{stored}
use Rattle.mill_base.specs.Points.{point_at}
use Rattle.mill_base.specs.declared.motion.Move.{Move}
use Rattle.mill_base.specs.declared.motion.Kind.TheVariants.{Rapid}
use Rattle.mill_dexel.specs.Bands.{IsInBand}
use Rattle.mill_dexel.proofs.RunLaws.{move_read}
use Rattle.mill_dexel.proofs.Blocks.{band_more}
use Rattle.mill_dexel.proofs.band.band_of.Goals as goal

-- what the code's list has past its end
abbrev unread : Move
unread = record { kind = Rapid; from = point_at (pos 0) (pos 0) (pos 0); to = point_at (pos 0) (pos 0) (pos 0) }

pub loop-t-preserved : goal.loop-t-preserved
loop-t-preserved c =
    let there : c.loop-t.t < length c.args.moves.now = omega (arith, c.loop-t-test.true, c.requires) in
    band_more c.args.moves.now c.args.first c.loop-t.t _ _ (stored w32 c.low_of-low.result) (stored w32 c.high_of-high.result) c.loop-t.invariant (omega (arith, ints)) (omega (arith, ints))
    (subst (λ (m : Move). IsInBand (stored w32 c.low_of-low.result) (stored w32 c.high_of-high.result) m) (move_read c.args.moves.now c.loop-t.t unread there) (record {
      from_low = omega (arith, ints);
      from_high = omega (arith, ints);
      to_low = omega (arith, ints);
      to_high = omega (arith, ints);
    }))

pub returns-clause-band : goal.returns-clause-band
returns-clause-band c = λ k from to. c.loop-t.invariant k from (omega (arith, to, c.loop-t-test.false))
