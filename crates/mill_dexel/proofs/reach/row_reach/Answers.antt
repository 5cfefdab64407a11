use Rattle.std.proofs.Common.{◌∙◌, ap, rules, w32, arith}
use Rattle.std.proofs.lemmas.Int.{ints, to_z-of_z}
use Rattle.mill_base.specs.Solids.{Solid}
use Rattle.mill_job.specs.Solids.{inner_of}
use Rattle.mill_sweep.specs.Reach.{margin_of}
use Rattle.mill_job.specs.Columns.{row_count}
use Rattle.mill_dexel.proofs.Reaches.{along_same}
use Rattle.mill_dexel.proofs.reach.row_reach.Goals as goal

pub returns : goal.returns
returns c =
    let inner = inner_of c.args.job.now.fields in
    let distance = to_z-of_z w32 c.passing_distance.result (search rules) ∙ c.passing_distance.ensures ∙ ap margin_of (c.cutter.ensures.value ∙ ap (λ (s : Solid). s.cutter) c.inner.ensures) in
    along_same _ _ _ _ _ _ c.args.job.now.fields.area.y0 c.args.job.now.fields.pitch (row_count c.args.job.now.fields) (margin_of inner.cutter) c.args.from.y c.args.to.y c.reach_along.result.first c.reach_along.result.«end»
    (omega (arith, ints)) (omega (arith, ints)) c.rows.ensures.value distance (omega (arith, ints)) (omega (arith, ints)) c.reach_along.ensures
