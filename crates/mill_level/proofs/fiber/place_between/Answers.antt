use Rattle.std.proofs.Common.{◌-◌, slice_index_or, pos}
use Rattle.mill_push.specs.declared.fiber.Run.{Run}
use Rattle.mill_push.proofs.Stored.{stored, and_one, less_one}
use Rattle.mill_level.proofs.Placing.{start_ok, place_up, end_ok, place_down, none_placed, more_fits, less_fits}
use Rattle.mill_level.proofs.fiber.place_between.Goals as goal

abbrev origin : Run
origin = record { first = pos 0; last = pos 0 }

pub overflow_add-result : goal.overflow_add-result
overflow_add-result c =
    let last =
    end_ok c.args.runs.now c.requires.ascending c.args.low.position c.args.high.position c.args.high.before c.requires.high_ok c.requires.order c.in-true-false.ensures c.in-true-false.ensures' origin in
    rw (stored (slice_index_or c.args.runs.now (c.args.high.before - 1) origin).last last) (more_fits _ last)

pub returns-in-true-false : goal.returns-in-true-false
returns-in-true-false c =
    let last =
    end_ok c.args.runs.now c.requires.ascending c.args.low.position c.args.high.position c.args.high.before c.requires.high_ok c.requires.order c.in-true-false.ensures c.in-true-false.ensures' origin in
    let run = slice_index_or c.args.runs.now (c.args.high.before - 1) origin in
    rw (stored run.last last, and_one run.last last)
    (place_down c.args.runs.now c.requires.ascending c.args.low.position c.args.high.position c.args.high.before c.requires.high_ok c.requires.order c.in-true-false.ensures c.in-true-false.ensures' origin)

pub overflow_sub-result-in-false-true : goal.overflow_sub-result-in-false-true
overflow_sub-result-in-false-true c =
    let first =
    start_ok c.args.runs.now c.requires.ascending c.args.low.position c.args.high.position c.args.low.before c.requires.low_ok c.requires.order c.in-false-true.ensures c.in-false-true.ensures' origin in
    rw (stored (slice_index_or c.args.runs.now c.args.low.before origin).first first) (less_fits _ first)

pub returns-in-false-true : goal.returns-in-false-true
returns-in-false-true c =
    let first =
    start_ok c.args.runs.now c.requires.ascending c.args.low.position c.args.high.position c.args.low.before c.requires.low_ok c.requires.order c.in-false-true.ensures c.in-false-true.ensures' origin in
    let run = slice_index_or c.args.runs.now c.args.low.before origin in
    rw (stored run.first first, less_one run.first first)
    (place_up c.args.runs.now c.requires.ascending c.args.low.position c.args.high.position c.args.low.before c.requires.low_ok c.requires.order c.in-false-true.ensures c.in-false-true.ensures' origin)

pub returns-in_default : goal.returns-in_default
returns-in_default c = none_placed c.args.runs.now c.args.low.position c.args.high.position (pos 0) (λ _. c.in_default.ensures') (λ _. c.in_default.ensures)

pub returns-in_default-2 : goal.returns-in_default-2
returns-in_default-2 c =
    none_placed c.args.runs.now c.args.low.position c.args.high.position (pos 0) (λ held. absurd (c.in_default.ensures held)) (λ held. absurd (c.in_default.ensures' held))
