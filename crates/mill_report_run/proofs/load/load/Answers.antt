use Rattle.mill_io.proofs.Held.{in_parts}
use Rattle.mill_report_run.proofs.Loading.{both_read, fault_on, loads_with, no_moves, no_program_text, no_setup, of_three, program_of_three}
use Rattle.mill_load.proofs.Reading.{loads_on, none_failed}
use Rattle.mill_report_run.proofs.load.load.Goals as goal
use Rattle.mill_answer.specs.Verify.{Texts as ToldTexts, texts_of}

pub returns-in-Err-clause-told : goal.returns-in-Err-clause-told
returns-in-Err-clause-told g c = λ contents held.
    no_setup (texts_of contents (record { job = c.args.job.now; part = c.args.part.now; program = c.args.program.now })) c.in-Err.fault (c.in-Err.ensures.told contents held)

pub returns-in-Err-clause-of_three : goal.returns-in-Err-clause-of_three
returns-in-Err-clause-of_three g c =
    let start = g.S.Shelf.shows c.args.shelf.now in
    let told : ToldTexts = texts_of start.contents (record { job = c.args.job.now; part = c.args.part.now; program = c.args.program.now }) in
    of_three told c.in-Err.fault (no_setup told c.in-Err.fault (c.in-Err.ensures.told start.contents c.in-Err.ensures.store.held))

pub returns-in-Ok-read_source-clause-told : goal.returns-in-Ok-read_source-clause-told
returns-in-Ok-read_source-clause-told g c = λ contents held.
    let start = g.S.Shelf.shows c.args.shelf.now in
    let between = g.S.Shelf.shows c.load_setup.new.shelf in
    let told : ToldTexts = texts_of contents (record { job = c.args.job.now; part = c.args.part.now; program = c.args.program.now }) in
    let parts = in_parts contents start.contents between.contents _ _ _ c.in-Ok.ensures.store.held c.in-Ok-read_source.ensures.store.held held in
    c.with_program.ensures.told told (c.in-Ok.ensures.told contents parts.first) (c.in-Ok-read_source.ensures.told contents parts.next)

pub returns-in-Ok-read_source-clause-store : goal.returns-in-Ok-read_source-clause-store
returns-in-Ok-read_source-clause-store g c =
    loads_on _ _ _ _ c.with_program.result c.in-Ok.ensures.store (loads_with _ _ _ c.with_program.result c.in-Ok-read_source.ensures.store c.with_program.ensures.cause)

pub returns-in-Err-read_source-clause-told : goal.returns-in-Err-read_source-clause-told
returns-in-Err-read_source-clause-told g c = λ contents held.
    let start = g.S.Shelf.shows c.args.shelf.now in
    let between = g.S.Shelf.shows c.load_setup.new.shelf in
    let told : ToldTexts = texts_of contents (record { job = c.args.job.now; part = c.args.part.now; program = c.args.program.now }) in
    let setup = c.in-Ok.read.setup in
    let fault = c.in-Err-read_source.fault in
    let parts = in_parts contents start.contents between.contents _ _ _ c.in-Ok.ensures.store.held c.in-Err-read_source.ensures.store.held held in
    no_moves told setup.job.fields setup.part fault (both_read told c.in-Ok.read (c.in-Ok.ensures.told contents parts.first) c.in-Ok.ensures.ready)
    (no_program_text setup.job.fields told.program fault (c.in-Err-read_source.ensures.told contents parts.next))

pub returns-in-Err-read_source-clause-of_three : goal.returns-in-Err-read_source-clause-of_three
returns-in-Err-read_source-clause-of_three g c =
    let between = g.S.Shelf.shows c.load_setup.new.shelf in
    program_of_three (between.contents c.args.program.now) c.in-Err-read_source.fault (c.in-Err-read_source.ensures.told between.contents c.in-Err-read_source.ensures.store.held)

pub returns-in-Err-read_source-clause-store : goal.returns-in-Err-read_source-clause-store
returns-in-Err-read_source-clause-store g c = fault_on _ _ _ c.in-Ok.read c.in-Err-read_source.fault c.in-Ok.ensures.store c.in-Err-read_source.ensures.store

pub returns-in-Err-clause-failed : goal.returns-in-Err-clause-failed
returns-in-Err-clause-failed g c = λ names job part program. c.in-Err.ensures.failed names job part

pub returns-in-Ok-read_source-clause-failed : goal.returns-in-Ok-read_source-clause-failed
returns-in-Ok-read_source-clause-failed g c = λ names job part program. none_failed names _ c.with_program.result c.with_program.ensures.cause

pub returns-in-Err-read_source-clause-failed : goal.returns-in-Err-read_source-clause-failed
returns-in-Err-read_source-clause-failed g c = λ names job part program. c.in-Err-read_source.ensures.failed names program
