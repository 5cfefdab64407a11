use Rattle.std.proofs.Common.{rules, arith, ◌∙◌, length-drop, ap, length, subst, ℕ}
use Rattle.mill_io.proofs.Written.{appended_more, part_more, behind}
use Rattle.mill_io.specs.Causes.{Rose}
use Rattle.mill_io.specs.Views.{IsPartWritten}
use Rattle.mill_io.proofs.whole.write_whole.Goals as goal

pub returns-in_err-count-clause-part : goal.returns-in_err-count-clause-part
returns-in_err-count-clause-part g c =
    let part : IsPartWritten c.args.bytes.now (g.O.Sink.shows c.args.sink.now) (g.O.Sink.shows c.write.new.self) = record {
      written = part_more c.args.bytes.now _ c.loop-done.done (g.O.Sink.shows c.args.sink.now).written (g.O.Sink.shows c.loop-done.sink).written (g.O.Sink.shows c.write.new.self).written
          (behind c.args.bytes.now c.loop-done.done) c.loop-done.invariant.0 c.loop-done.invariant.1.written c.in_err-count.ensures.part.written;
      faults = subst (λ (n : ℕ). Rose n (g.O.Sink.shows c.write.new.self).faults) c.loop-done.invariant.1.faults c.in_err-count.ensures.part.faults;
    } in
    search rules

pub loop-done-preserved : goal.loop-done-preserved
loop-done-preserved g c =
    let e = behind c.args.bytes.now c.loop-done.done in (
      omega (arith, c.in_ok-count.ensures.within, ap length e, length-drop c.loop-done.done c.args.bytes.now),
      record {
        written = appended_more c.args.bytes.now _ c.loop-done.done c.in_ok-count.count _ (g.O.Sink.shows c.loop-done.sink).written _ e c.loop-done.invariant.1.written c.in_ok-count.ensures.written.written;
        faults = c.in_ok-count.ensures.written.faults ∙ c.loop-done.invariant.1.faults;
      },
    )
