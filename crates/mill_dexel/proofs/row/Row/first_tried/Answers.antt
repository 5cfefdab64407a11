use Rattle.std.proofs.Common.{subst, sym, below_more, arith}
use Rattle.mill_base.specs.Points.{point_tri}
use Rattle.mill_base.specs.Ranges.{IsInRange}
use Rattle.mill_base.specs.declared.points.Pt3.{Pt3}
use Rattle.mill_sweep.specs.Passing.{FailsAt, IsBlocked, PassesPoint}
use Rattle.mill_sweep.specs.Solids.{SolidFailsAt, SolidIsBlocked, SolidPassesPoint}
use Rattle.mill_sweep.specs.Sweeps.{Swept}
use Rattle.mill_dexel.specs.inner.Passing.{trying}
use Rattle.mill_dexel.proofs.Trials.{passes_all}
use Rattle.mill_dexel.proofs.UncutRows.{tested_in_range}
use Rattle.mill_dexel.proofs.row.Row.first_tried.Goals as goal

pub first_block_point-requires : goal.first_block_point-requires
first_block_point-requires c =
    subst (λ (p : Pt3). IsInRange p) (sym c.tested_point-point.ensures)
    (tested_in_range c.args.job.now.fields c.args.kind c.args.self.now c.loop-column.column c.args.job.now.is_job c.requires.row (omega (arith, c.requires.within)))

pub loop-column-init : goal.loop-column-init
loop-column-init c = c.requires.beside.before

pub returns-in-Some-clause-first : goal.returns-in-Some-clause-first
returns-in-Some-clause-first c = record {
  column = omega (arith, c.requires.within);
  before = c.loop-column.invariant;
  fails = subst (λ (p : Pt3). SolidFailsAt c.args.solid c.args.step.now (point_tri p) c.in-Some.leaf) c.tested_point-point.ensures
      (subst (λ (s : Swept). FailsAt s.cutter s.move (point_tri c.tested_point-point.result) c.in-Some.leaf) c.new-sweep.ensures c.in-Some.ensures.0);
}

pub returns-in-Some-clause-blocked : goal.returns-in-Some-clause-blocked
returns-in-Some-clause-blocked c =
    subst (λ (p : Pt3). SolidIsBlocked c.args.solid c.args.step.now (point_tri p) c.in-Some.leaf) c.tested_point-point.ensures
    (subst (λ (s : Swept). IsBlocked s.cutter s.move (point_tri c.tested_point-point.result) c.in-Some.leaf) c.new-sweep.ensures c.in-Some.ensures.1)

pub loop-column-preserved : goal.loop-column-preserved
loop-column-preserved c =
    below_more _ _ c.loop-column.invariant (subst (λ (p : Pt3). SolidPassesPoint c.args.solid c.args.step.now p) c.tested_point-point.ensures
    (subst (λ (s : Swept). PassesPoint s.cutter s.move c.tested_point-point.result) c.new-sweep.ensures c.in_default.ensures))

pub returns-clause-first : goal.returns-clause-first
returns-clause-first c =
    passes_all c.args.job.now.fields (trying c.args.solid c.args.kind c.args.step.now) c.args.self.now c.args.columns.first c.args.columns.«end» c.loop-column.column c.requires.beside (omega arith) c.loop-column.invariant
