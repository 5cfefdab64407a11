use Rattle.std.proofs.Common.{◌∙◌, ap, subst, sym, arith}
use Rattle.std.proofs.lemmas.Int.{ints}
use Rattle.mill_job.proofs.SolidFacts.{stock_solid_ok}
use Rattle.mill_job.specs.Solids.{stock_solid_of}
use Rattle.mill_base.specs.Ranges.{TriInRange}
use Rattle.mill_base.specs.Solids.{Solid}
use Rattle.mill_base.specs.declared.motion.Kind.TheVariants.{Rapid}
use Rattle.mill_base.specs.declared.points.Tri.{Tri}
use Rattle.mill_job.specs.Columns.{column_y}
use Rattle.mill_sweep.specs.Reach.{margin_of}
use Rattle.mill_sweep.specs.Solids.{SolidPasses}
use Rattle.mill_dexel.specs.inner.Cuts.{IsBeyond}
use Rattle.mill_dexel.specs.Rows.{RowState, cutting, uncut_tri}
use Rattle.mill_dexel.proofs.Reaches.{beyond_same}
use Rattle.mill_dexel.proofs.Trials.{far_passes_row}
use Rattle.mill_dexel.proofs.UncutRows.{uncut_passes, uncut_in_range}
use Rattle.mill_dexel.proofs.row.Row.is_passed_uncut.Goals as goal

pub returns-then-is_apart : goal.returns-then-is_apart
returns-then-is_apart c = λ passed.
    let cutter = (stock_solid_of c.args.job.now.fields).cutter in
    let margin = ap margin_of (c.cutter.ensures.value ∙ ap (λ (s : Solid). s.cutter) c.stock_solid-solid.ensures) in
    far_passes_row c.args.job.now.fields (cutting c.args.job.now.fields Rapid c.args.step.now) c.args.self.now (stock_solid_ok c.args.job.now.fields c.args.job.now.is_job) c.requires.step
    (subst (λ (r : RowState). IsBeyond (margin_of cutter) c.args.step.now.from.y c.args.step.now.to.y (column_y c.args.job.now.fields r.row)) c.self.view_is
    (beyond_same _ _ _ _ (margin_of cutter) c.args.step.now.from.y c.args.step.now.to.y (column_y c.args.job.now.fields c.self.inside.number)
    margin (omega (arith, ints)) (omega (arith, ints)) (omega (arith, ints)) (c.is_apart.ensures c.if-is_apart.true)))

pub passes_tri-requires-clause-tri_ok : goal.passes_tri-requires-clause-tri_ok
passes_tri-requires-clause-tri_ok c =
    let row_is = c.uncut_triangle.ensures ∙ ap (λ (r : RowState). uncut_tri c.args.job.now.fields r.row) c.self.view_is in
    subst (λ (t : Tri). TriInRange t) (sym row_is) (uncut_in_range c.args.job.now.fields c.args.self.now.row c.args.job.now.is_job c.requires.row.there)

pub returns : goal.returns
returns c = λ passed.
    let row_is = c.uncut_triangle.ensures ∙ ap (λ (r : RowState). uncut_tri c.args.job.now.fields r.row) c.self.view_is in
    uncut_passes c.args.job.now.fields c.args.self.now c.args.step.now c.args.job.now.is_job c.requires.row
    (subst (λ (t : Tri). SolidPasses (stock_solid_of c.args.job.now.fields) c.args.step.now t) row_is
    (subst (λ (s : Solid). SolidPasses s c.args.step.now c.uncut_triangle.result) c.stock_solid-solid.ensures (c.passes_tri.ensures.yes passed)))
