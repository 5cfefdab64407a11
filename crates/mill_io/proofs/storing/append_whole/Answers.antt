use Rattle.std.proofs.Common.{rules, arith, ◌∙◌, length-drop, ap, length}
use Rattle.mill_io.proofs.Written.{appended_more, part_more, behind, writes_on}
use Rattle.mill_io.specs.Contents.{AppendedPart}
use Rattle.mill_io.proofs.storing.append_whole.Goals as goal

pub returns-in_err-count-clause-part : goal.returns-in_err-count-clause-part
returns-in_err-count-clause-part g c =
    let part : AppendedPart c.args.bytes.now ((g.S.Shelf.shows c.args.shelf.now).contents c.args.name.now) ((g.S.Shelf.shows c.append.new.self).contents c.args.name.now) =
    part_more c.args.bytes.now _ c.loop-done.done _ ((g.S.Shelf.shows c.loop-done.shelf).contents c.args.name.now) _ (behind c.args.bytes.now c.loop-done.done)
    c.loop-done.invariant.0 c.loop-done.invariant.1 c.in_err-count.ensures.part in
    search rules

pub loop-done-preserved : goal.loop-done-preserved
loop-done-preserved g c =
    let e = behind c.args.bytes.now c.loop-done.done in (
      omega (arith, c.in_ok-count.ensures.within, ap length e, length-drop c.loop-done.done c.args.bytes.now),
      appended_more c.args.bytes.now _ c.loop-done.done c.in_ok-count.count _ ((g.S.Shelf.shows c.loop-done.shelf).contents c.args.name.now) _ e c.loop-done.invariant.1 c.in_ok-count.ensures.appended,
      writes_on c.args.name.now _ _ _ c.loop-done.invariant.2 c.in_ok-count.ensures.only,
      c.in_ok-count.ensures.cause.ok ∙ c.loop-done.invariant.3,
      c.in_ok-count.ensures.unread ∙ c.loop-done.invariant.4,
    )
