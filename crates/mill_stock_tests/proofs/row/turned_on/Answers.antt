use Rattle.std.proofs.Common.{◌≡◌, ◌∙◌, ℕ, ◌+◌, ◌-◌, ◌<◌, length, take, drop, sym, ap, rules, arith}
use Rattle.std.specs.Prelude.{List}
use Rattle.mill_base.specs.declared.motion.Move.{Move}
use Rattle.mill_job.specs.declared.fields.JobFields.{JobFields}
use Rattle.mill_dexel.specs.Rows.{RowState}
use Rattle.mill_dexel.specs.Turns.{IsLeftBy, move_at, tops_after, turned}
use Rattle.mill_dexel.proofs.RunLaws.{left_next}
use Rattle.mill_stock_tests.proofs.row.turned_on.Goals as goal

-- a row of which no move is done is what no move has left of it
left_none : (job : JobFields) (moves : List Move) (r : RowState) → r.done ≡ 0 → IsLeftBy job moves 0 r
left_none job moves r fresh = record {
  start = r;
  fresh = fresh;
  is = sym (ap (λ (n : ℕ). record r { tops = tops_after job r.row (take (0 - n) (drop n moves)) r.tops; done = 0 }) fresh ∙ ap (λ (n : ℕ). record r { done = n }) (sym fresh));
}

left_more : (job : JobFields) (moves : List Move) (r new : RowState) (t : ℕ) → t < length moves → IsLeftBy job moves t r → new ≡ turned job (move_at moves t) r → IsLeftBy job moves (t + 1) new
left_more job moves r new t there left is = record {
  start = left.start;
  fresh = left.fresh;
  is = is ∙ ap (turned job (move_at moves t)) left.is ∙ sym (left_next job moves left.start t left.fresh there);
}

pub loop-t-init : goal.loop-t-init
loop-t-init c = (c.requires.row, c.requires.unfailed, left_none c.args.job.now.fields c.args.moves.now c.args.row.now c.requires.fresh)

pub loop-t-preserved : goal.loop-t-preserved
loop-t-preserved c =
    let cut = c.turn_on.ensures.cut (search rules) in (
      c.turn_on.ensures.row,
      ap (λ (r : RowState). r.failed) cut ∙ c.loop-t.invariant.1,
      left_more c.args.job.now.fields c.args.moves.now c.loop-t.row c.turn_on.new.self c.loop-t.t (omega (arith, c.loop-t-test.true)) c.loop-t.invariant.2 cut,
    )
