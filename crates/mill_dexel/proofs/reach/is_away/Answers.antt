use Rattle.std.proofs.Common.{◌∙◌, sym, arith}
use Rattle.std.proofs.lemmas.Int.{ints}
use Rattle.mill_dexel.proofs.Reaches.{away_bare, away_held, away_same}
use Rattle.mill_dexel.proofs.reach.is_away.Goals as goal

pub returns-in-None : goal.returns-in-None
returns-in-None c = λ yes.
    away_same c.args.job.now.fields _ _ _ c.args.from c.args.to c.args.y (omega (arith, ints)) (omega (arith, ints)) (omega (arith, ints))
    (away_bare c.args.job.now.fields _ _ _ (sym c.holder_solid.ensures ∙ c.in-None.is) (rw (c.cutter.ensures.value, c.inner.ensures) at (c.is_apart.ensures yes)))

pub returns-in-Some : goal.returns-in-Some
returns-in-Some c = λ yes.
    away_same c.args.job.now.fields _ _ _ c.args.from c.args.to c.args.y (omega (arith, ints)) (omega (arith, ints)) (omega (arith, ints))
    (away_held c.args.job.now.fields _ _ _ c.in-Some.holder c.args.job.now.is_job (sym c.holder_solid.ensures ∙ c.in-Some.is) (rw c.cutter-in-Some.ensures.value at (c.is_apart-in-Some.ensures yes)))
