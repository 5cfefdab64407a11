use Rattle.std.proofs.Common.{Result, refl, subst, sym}
use Rattle.std.specs.Prelude.{Ok, Err}
use Rattle.mill_command.specs.Requests.{Request, drop}
use Rattle.mill_io.proofs.Held.{in_parts}
use Rattle.mill_job.specs.Tables.{IsPlace}
use Rattle.mill_job.specs.declared.fields.JobFields.{JobFields}
use Rattle.mill_load.specs.declared.load.LoadFault.{LoadFault}
use Rattle.mill_load.specs.declared.load.Setup.{Setup}
use Rattle.mill_run.specs.Answers.{refused_word}
use Rattle.mill_answer.specs.Calls.{Call, call_of}
use Rattle.mill_run.specs.Drop.{HasPlace}
use Rattle.mill_run.specs.Outcomes.{file_name}
use Rattle.mill_load.specs.Setup.{setup_texts}
use Rattle.mill_load.proofs.Reading.{job_fault_with, part_fault_with, loads_on, under_loads}
use Rattle.mill_run.proofs.Serving.{fails_named, word_serves, height_serves, fault_serves, drop_fault, made_prints}
use Rattle.mill_run.proofs.drop.drop_cutter.Goals as goal

pub returns-in-Err : goal.returns-in-Err
returns-in-Err g c =
    let job = c.args.job.now in
    let part = c.args.part.now in
    let x = c.args.x.now in
    let y = c.args.y.now in
    let asked : Request = drop job part x y in
    let call : Call = call_of c.tell_fault.result (g.S.Shelf.shows c.args.shelf.now) (g.S.Shelf.shows c.load_job.new.shelf) (g.O.Sink.shows c.args.out.now) (g.O.Sink.shows c.tell_fault.new.out) in
    let f = c.in-Err.fault in
    fault_serves asked call f
    (λ contents held. drop_fault contents job part x y f (job_fault_with (HasPlace (setup_texts contents job part) x y) (setup_texts contents job part) f (c.in-Err.ensures.told contents held)))
    (λ contents held. fails_named contents asked call.store_after.log f (λ file failed. failed) (c.in-Err.ensures.failed (file_name asked) refl))
    c.requires c.in-Err.ensures.store c.tell_fault.ensures

pub returns-in-Err-read_place : goal.returns-in-Err-read_place
returns-in-Err-read_place g c =
    let call : Call = call_of c.tell_made.result (g.S.Shelf.shows c.args.shelf.now) (g.S.Shelf.shows c.load_job.new.shelf) (g.O.Sink.shows c.args.out.now) (g.O.Sink.shows c.tell_made.new.out) in
    let f = c.in-Err-read_place.fault in
    word_serves c.args.job.now c.args.part.now c.args.x.now c.args.y.now call c.in-Ok.job f.coordinate f.fault c.in-Ok.ensures.told c.in-Err-read_place.ensures.told c.in-Ok.ensures.store
    (made_prints c.line_of_word_fault.result (refused_word f.coordinate f.fault) _ _ _ _ refl c.line_of_word_fault.ensures c.tell_made.ensures)

pub tell_drop-requires-clause-place_ok : goal.tell_drop-requires-clause-place_ok
tell_drop-requires-clause-place_ok g c =
    let under = c.in-Ok-load_under.ensures in
    let same = (under.told (g.S.Shelf.shows c.load_job.new.shelf).contents under.store.held).0 in
    subst (λ (j : JobFields). IsPlace j.unit c.in-Ok-read_place.place) (sym same) c.in-Ok-read_place.ensures.in_range

pub returns-in-Ok-load_under : goal.returns-in-Ok-load_under
returns-in-Ok-load_under g c =
    let start = g.S.Shelf.shows c.args.shelf.now in
    let between = g.S.Shelf.shows c.load_job.new.shelf in
    let call : Call = call_of c.tell_drop.result start (g.S.Shelf.shows c.load_under.new.shelf) (g.O.Sink.shows c.args.out.now) (g.O.Sink.shows c.tell_drop.new.out) in
    let r : Result Setup LoadFault = Ok c.in-Ok-load_under.setup in
    let first = c.in-Ok.ensures.store in
    let next = c.in-Ok-load_under.ensures.store in
    height_serves c.args.job.now c.args.part.now c.args.x.now c.args.y.now call c.in-Ok.job.fields c.in-Ok-read_place.place c.in-Ok-load_under.setup c.in-Ok-read_place.ensures.told
    (c.in-Ok-load_under.ensures.told between.contents next.held).0
    (λ contents held.
    let parts = in_parts contents start.contents between.contents _ _ _ first.held next.held held in
    under_loads (setup_texts contents c.args.job.now c.args.part.now) c.in-Ok.job.fields r (c.in-Ok.ensures.told contents parts.first) (c.in-Ok-load_under.ensures.told contents parts.next))
    (loads_on _ _ _ c.in-Ok.job r first next) c.tell_drop.ensures

pub returns-in-Err-load_under : goal.returns-in-Err-load_under
returns-in-Err-load_under g c =
    let job = c.args.job.now in
    let part = c.args.part.now in
    let x = c.args.x.now in
    let y = c.args.y.now in
    let asked : Request = drop job part x y in
    let start = g.S.Shelf.shows c.args.shelf.now in
    let between = g.S.Shelf.shows c.load_job.new.shelf in
    let call : Call = call_of c.tell_fault-in-Err-load_under.result start (g.S.Shelf.shows c.load_under.new.shelf) (g.O.Sink.shows c.args.out.now) (g.O.Sink.shows c.tell_fault-in-Err-load_under.new.out) in
    let f = c.in-Err-load_under.fault in
    let r : Result Setup LoadFault = Err f in
    let first = c.in-Ok.ensures.store in
    let next = c.in-Err-load_under.ensures.store in
    fault_serves asked call f
    (λ contents held.
    let parts = in_parts contents start.contents between.contents _ _ _ first.held next.held held in
    let read = c.in-Ok.ensures.told contents parts.first in
    let place : HasPlace (setup_texts contents job part) x y = record { job = c.in-Ok.job.fields; place = c.in-Ok-read_place.place; job_is = read; place_is = c.in-Ok-read_place.ensures.told } in
    drop_fault contents job part x y f
    (part_fault_with (HasPlace (setup_texts contents job part) x y) (setup_texts contents job part) c.in-Ok.job.fields f place read (c.in-Err-load_under.ensures.told contents parts.next)))
    (λ contents held. fails_named contents asked call.store_after.log f (λ file failed. failed) (c.in-Err-load_under.ensures.failed (file_name asked) refl))
    c.requires (loads_on _ _ _ c.in-Ok.job r first next) c.tell_fault-in-Err-load_under.ensures
