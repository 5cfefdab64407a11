use Rattle.std.proofs.Common.{◌≡◌, ◌≤◌, ◌+◌, ◌-◌, List, length}
use Rattle.mill_base.specs.declared.points.Tri.{Tri}
use Rattle.mill_base.specs.declared.unit.Unit.{Unit}
use Rattle.mill_decimal.specs.declared.snap.Snap.{Snap}
use Rattle.mill_stl.specs.declared.state.Progress.{Progress}
use Rattle.mill_stl.specs.inner.Bounds.{meaning_from}
use Rattle.mill_stl.proofs.scan.behind_run.Given as goal

abbrev pub invariant-loop-from : goal.invariant-loop-from
invariant-loop-from l = record {
  meaning : (snap : Snap) (unit : Unit) (p : Progress) (tris : List Tri) → meaning_from snap unit l.text (record { line = l.line; from = l.from }) p tris ≡ meaning_from snap unit l.text l.fn.cursor p tris;
  forward : l.fn.cursor.from ≤ l.from;
  within : l.from ≤ length l.text;
  small : l.line ≤ l.from + 1;
}

abbrev pub decreases-loop-from : goal.decreases-loop-from
decreases-loop-from l = length l.text - l.from
