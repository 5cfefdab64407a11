use Rattle.std.proofs.Common.{◌∙◌, ◌+◌, rules, arith}
use Rattle.mill_stl.proofs.Steps.{meaning-space, meaning-blanks}
use Rattle.mill_stl.proofs.scan.behind_run.Goals as goal

pub loop-from-preserved : goal.loop-from-preserved
loop-from-preserved c = record {
  meaning = λ snap unit p tris.
      meaning-blanks snap unit c.args.text.now c.next_line-line.result (c.loop-from.from + 1) c.behind_blanks-from.result p tris c.behind_blanks-from.ensures.forward c.behind_blanks-from.ensures.within c.behind_blanks-from.ensures.blanks
      ∙ (rw c.next_line-line.ensures.value
      (meaning-space snap unit c.args.text.now c.loop-from.line c.loop-from.from p tris (omega arith) (search rules))
      ∙ c.loop-from.invariant.meaning snap unit p tris);
  forward = omega (arith, c.behind_blanks-from.ensures.forward);
  within = c.behind_blanks-from.ensures.within;
  small = omega (arith, c.next_line-line.ensures.small, c.behind_blanks-from.ensures.forward);
}
