use Rattle.std.proofs.Common.{◌≡◌, ◌-◌, ◌++◌, List, length, take, drop, rules, true, false, subst}
use Rattle.std.specs.Prelude.{IfOk, Option}
use Rattle.mill_base.specs.declared.motion.Move.{Move}
use Rattle.mill_base.specs.declared.points.Pt3.{Pt3}
use Rattle.mill_job.specs.Habits.{is_elsewhere}
use Rattle.mill_ngc.specs.Readings.{ReadsAs}
use Rattle.mill_ngc.specs.Writing.{head_moves, program_text}
use Rattle.mill_plan.specs.Plans.{begin_of}
use Rattle.mill_plan.proofs.Heading.{begins_at, begins_nowhere, none_before, two_before, two_there, whole}
use Rattle.mill_plan.proofs.program.text_of.Goals as goal

pub returns-then-not-is_elsewhere-clause-text : goal.returns-then-not-is_elsewhere-clause-text
returns-then-not-is_elsewhere-clause-text c =
    let job = c.args.job.now.fields in
    let is : is_elsewhere c.args.job.now.fields.start ≡ false = search rules in
    subst (λ (ms : List Move). IfOk c.write_program.result (λ text. text.items ≡ program_text job.unit (begin_of job) ms)) (none_before job c.args.moves.now is)
    (subst (λ (b : Option Pt3). IfOk c.write_program.result (λ text. text.items ≡ program_text job.unit b c.args.moves.now)) (begins_nowhere job is) c.write_program.ensures.text)

pub returns-then-not-is_elsewhere-clause-reads : goal.returns-then-not-is_elsewhere-clause-reads
returns-then-not-is_elsewhere-clause-reads c =
    let job = c.args.job.now.fields in
    let is : is_elsewhere c.args.job.now.fields.start ≡ false = search rules in
    subst (λ (b : Option Pt3). IfOk c.write_program.result (λ text. ReadsAs job.unit b c.args.moves.now text.items)) (begins_nowhere job is) c.write_program.ensures.reads

pub slice_bounds-write_program-count : goal.slice_bounds-write_program-count
slice_bounds-write_program-count c =
    let is : is_elsewhere c.args.job.now.fields.start ≡ true = search rules in
    two_there c.args.job.now.fields c.args.moves.now c.requires.begins is

pub slice_bounds-write_program-start : goal.slice_bounds-write_program-start
slice_bounds-write_program-start c =
    let is : is_elsewhere c.args.job.now.fields.start ≡ true = search rules in
    two_there c.args.job.now.fields c.args.moves.now c.requires.begins is

pub returns-clause-text : goal.returns-clause-text
returns-clause-text c =
    let job = c.args.job.now.fields in
    let moves = c.args.moves.now in
    let is : is_elsewhere c.args.job.now.fields.start ≡ true = search rules in
    subst (λ (ms : List Move). IfOk c.write_program-2.result (λ text. text.items ≡ program_text job.unit (begin_of job) ms)) (two_before job moves is)
    (subst (λ (b : Option Pt3). IfOk c.write_program-2.result (λ text. text.items ≡ program_text job.unit b (take (length moves - 2) (drop 2 moves))))
    (begins_at job c.home.result c.home.ensures.value is) c.write_program-2.ensures.text)

pub returns-clause-reads : goal.returns-clause-reads
returns-clause-reads c =
    let job = c.args.job.now.fields in
    let moves = c.args.moves.now in
    let is : is_elsewhere c.args.job.now.fields.start ≡ true = search rules in
    subst (λ (ms : List Move). IfOk c.write_program-2.result (λ text. ReadsAs job.unit (begin_of job) ms text.items)) (whole job moves c.requires.begins)
    (subst (λ (ms : List Move). IfOk c.write_program-2.result (λ text. ReadsAs job.unit (begin_of job) (head_moves (begin_of job) ++ ms) text.items)) (two_before job moves is)
    (subst (λ (b : Option Pt3). IfOk c.write_program-2.result (λ text. ReadsAs job.unit b (head_moves b ++ take (length moves - 2) (drop 2 moves)) text.items))
    (begins_at job c.home.result c.home.ensures.value is) c.write_program-2.ensures.reads))
