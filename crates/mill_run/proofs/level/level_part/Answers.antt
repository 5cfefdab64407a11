use Rattle.std.proofs.Common.{Result, refl, rules, w32}
use Rattle.std.specs.Prelude.{Ok, Err, FitsSigned}
use Rattle.std.proofs.lemmas.Int.{to_z-of_z}
use Rattle.mill_base.proofs.Ranges.{within_of_unit}
use Rattle.mill_command.specs.Requests.{Request, level}
use Rattle.mill_io.proofs.Held.{in_parts}
use Rattle.mill_load.specs.declared.load.LoadFault.{LoadFault}
use Rattle.mill_load.specs.declared.load.Setup.{Setup}
use Rattle.mill_run.specs.Answers.{refused_word}
use Rattle.mill_answer.specs.Calls.{Call, call_of}
use Rattle.mill_run.specs.Level.{HasHeight}
use Rattle.mill_run.specs.Outcomes.{file_name}
use Rattle.mill_load.specs.Setup.{setup_texts}
use Rattle.mill_load.proofs.Reading.{job_fault_with, part_fault_with, loads_on, under_loads}
use Rattle.mill_run.proofs.Serving.{fails_named, height_word_serves, level_serves, fault_serves, level_fault, made_prints}
use Rattle.mill_run.proofs.level.level_part.Goals as goal

pub returns-in-Err : goal.returns-in-Err
returns-in-Err g c =
    let job = c.args.job.now in
    let part = c.args.part.now in
    let z = c.args.z.now in
    let asked : Request = level job part z in
    let call : Call = call_of c.tell_fault.result (g.S.Shelf.shows c.args.shelf.now) (g.S.Shelf.shows c.load_job.new.shelf) (g.O.Sink.shows c.args.out.now) (g.O.Sink.shows c.tell_fault.new.out) in
    let f = c.in-Err.fault in
    fault_serves asked call f
    (λ contents held. level_fault contents job part z f (job_fault_with (HasHeight (setup_texts contents job part) z) (setup_texts contents job part) f (c.in-Err.ensures.told contents held)))
    (λ contents held. fails_named contents asked call.store_after.log f (λ file failed. failed) (c.in-Err.ensures.failed (file_name asked) refl))
    c.requires c.in-Err.ensures.store c.tell_fault.ensures

pub returns-in-Err-read_height : goal.returns-in-Err-read_height
returns-in-Err-read_height g c =
    let call : Call = call_of c.tell_made.result (g.S.Shelf.shows c.args.shelf.now) (g.S.Shelf.shows c.load_job.new.shelf) (g.O.Sink.shows c.args.out.now) (g.O.Sink.shows c.tell_made.new.out) in
    let f = c.in-Err-read_height.fault in
    height_word_serves c.args.job.now c.args.part.now c.args.z.now call c.in-Ok.job f.coordinate f.fault c.in-Ok.ensures.told c.in-Err-read_height.ensures.told c.in-Ok.ensures.store
    (made_prints c.line_of_word_fault.result (refused_word f.coordinate f.fault) _ _ _ _ refl c.line_of_word_fault.ensures c.tell_made.ensures)

pub tell_level-requires-clause-height_ok : goal.tell_level-requires-clause-height_ok
tell_level-requires-clause-height_ok g c =
    let height_fits : FitsSigned w32 c.in-Ok-read_height.height = search rules in
    simp to_z-of_z (within_of_unit c.in-Ok.job.fields.unit c.in-Ok-read_height.height c.in-Ok-read_height.ensures.in_range)

pub returns-in-Ok-load_under : goal.returns-in-Ok-load_under
returns-in-Ok-load_under g c =
    let start = g.S.Shelf.shows c.args.shelf.now in
    let between = g.S.Shelf.shows c.load_job.new.shelf in
    let call : Call = call_of c.tell_level.result start (g.S.Shelf.shows c.load_under.new.shelf) (g.O.Sink.shows c.args.out.now) (g.O.Sink.shows c.tell_level.new.out) in
    let r : Result Setup LoadFault = Ok c.in-Ok-load_under.setup in
    let height_fits : FitsSigned w32 c.in-Ok-read_height.height = search rules in
    let first = c.in-Ok.ensures.store in
    let next = c.in-Ok-load_under.ensures.store in
    level_serves c.args.job.now c.args.part.now c.args.z.now call c.in-Ok.job.fields c.in-Ok-read_height.height c.in-Ok-load_under.setup c.in-Ok-read_height.ensures.told
    (c.in-Ok-load_under.ensures.told between.contents next.held).0
    (λ contents held.
    let parts = in_parts contents start.contents between.contents _ _ _ first.held next.held held in
    under_loads (setup_texts contents c.args.job.now c.args.part.now) c.in-Ok.job.fields r (c.in-Ok.ensures.told contents parts.first) (c.in-Ok-load_under.ensures.told contents parts.next))
    (loads_on _ _ _ c.in-Ok.job r first next) (simp to_z-of_z at c.tell_level.ensures)

pub returns-in-Err-load_under : goal.returns-in-Err-load_under
returns-in-Err-load_under g c =
    let job = c.args.job.now in
    let part = c.args.part.now in
    let z = c.args.z.now in
    let asked : Request = level job part z in
    let start = g.S.Shelf.shows c.args.shelf.now in
    let between = g.S.Shelf.shows c.load_job.new.shelf in
    let call : Call = call_of c.tell_fault-in-Err-load_under.result start (g.S.Shelf.shows c.load_under.new.shelf) (g.O.Sink.shows c.args.out.now) (g.O.Sink.shows c.tell_fault-in-Err-load_under.new.out) in
    let f = c.in-Err-load_under.fault in
    let r : Result Setup LoadFault = Err f in
    let first = c.in-Ok.ensures.store in
    let next = c.in-Err-load_under.ensures.store in
    fault_serves asked call f
    (λ contents held.
    let parts = in_parts contents start.contents between.contents _ _ _ first.held next.held held in
    let read = c.in-Ok.ensures.told contents parts.first in
    let height : HasHeight (setup_texts contents job part) z = record { job = c.in-Ok.job.fields; height = c.in-Ok-read_height.height; job_is = read; height_is = c.in-Ok-read_height.ensures.told } in
    level_fault contents job part z f
    (part_fault_with (HasHeight (setup_texts contents job part) z) (setup_texts contents job part) c.in-Ok.job.fields f height read (c.in-Err-load_under.ensures.told contents parts.next)))
    (λ contents held. fails_named contents asked call.store_after.log f (λ file failed. failed) (c.in-Err-load_under.ensures.failed (file_name asked) refl))
    c.requires (loads_on _ _ _ c.in-Ok.job r first next) c.tell_fault-in-Err-load_under.ensures
