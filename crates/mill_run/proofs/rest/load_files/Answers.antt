use Rattle.std.proofs.Common.{List, Result, Ok, Err, refl, subst, sym}
use Rattle.std.specs.Global.{Vec}
use Rattle.mill_base.specs.Covers.{IsUnder}
use Rattle.mill_base.specs.declared.points.Tri.{Tri}
use Rattle.mill_io.proofs.Held.{in_parts}
use Rattle.mill_job.specs.declared.step.Step.{Step}
use Rattle.mill_load.proofs.Reading.{loads_on}
use Rattle.mill_load.specs.Setup.{ReadsSetup}
use Rattle.mill_load.specs.declared.load.LoadFault.{LoadFault}
use Rattle.mill_verify.specs.Files.{File as CutFile}
use Rattle.mill_run.specs.Rest.{rest_texts, ReadsSteps}
use Rattle.mill_run.specs.Words.{RestFiles}
use Rattle.mill_run.specs.inner.Loads.{StopsAtStep, rest_name}
use Rattle.mill_run.proofs.Rests.{list_failed, no_list, no_setup, no_step, setup_failed, step_failed}
use Rattle.mill_run.proofs.rest.load_files.Goals as goal

pub returns-in-Err-clause-told : goal.returns-in-Err-clause-told
returns-in-Err-clause-told g c = λ contents held.
    no_setup (rest_texts contents (record { job = c.args.job.now; part = c.args.part.now; list = c.args.list.now })) c.in-Err.fault (c.in-Err.ensures.told contents held)

pub returns-in-Err-clause-failed : goal.returns-in-Err-clause-failed
returns-in-Err-clause-failed g c = λ contents held.
    let names : RestFiles = record { job = c.args.job.now; part = c.args.part.now; list = c.args.list.now } in
    setup_failed contents names _ c.in-Err.fault (c.in-Err.ensures.told contents held) (c.in-Err.ensures.failed (rest_name names) refl refl)

pub returns-in-Err-load_list-clause-told : goal.returns-in-Err-load_list-clause-told
returns-in-Err-load_list-clause-told g c = λ contents held.
    let start = g.S.Shelf.shows c.args.shelf.now in
    let between = g.S.Shelf.shows c.load_setup.new.shelf in
    let parts = in_parts contents start.contents between.contents _ _ _ c.in-Ok.ensures.store.held c.in-Err-load_list.ensures.store.held held in
    no_list (rest_texts contents (record { job = c.args.job.now; part = c.args.part.now; list = c.args.list.now })) c.in-Ok.setup.job.fields c.in-Ok.setup.part c.in-Err-load_list.fault
    (c.in-Ok.ensures.told contents parts.first) (c.in-Err-load_list.ensures.told contents parts.next)

pub returns-in-Err-load_list-clause-failed : goal.returns-in-Err-load_list-clause-failed
returns-in-Err-load_list-clause-failed g c = λ contents held.
    let start = g.S.Shelf.shows c.args.shelf.now in
    let between = g.S.Shelf.shows c.load_setup.new.shelf in
    let parts = in_parts contents start.contents between.contents _ _ _ c.in-Ok.ensures.store.held c.in-Err-load_list.ensures.store.held held in
    let names : RestFiles = record { job = c.args.job.now; part = c.args.part.now; list = c.args.list.now } in
    list_failed contents names _ _ _ c.in-Err-load_list.fault (c.in-Err-load_list.ensures.told contents parts.next) (c.in-Err-load_list.ensures.failed (rest_name names) refl)

pub returns-in-Err-load_list-clause-store : goal.returns-in-Err-load_list-clause-store
returns-in-Err-load_list-clause-store g c =
    let r : Result (Vec Step) LoadFault = Err c.in-Err-load_list.fault in
    let all = loads_on _ _ _ c.in-Ok.setup r c.in-Ok.ensures.store c.in-Err-load_list.ensures.store in
    record { only = all.only; reads = all.reads; held = all.held }

pub returns-in-Err-load_steps-clause-told : goal.returns-in-Err-load_steps-clause-told
returns-in-Err-load_steps-clause-told g c = λ contents held.
    let start = g.S.Shelf.shows c.args.shelf.now in
    let between = g.S.Shelf.shows c.load_setup.new.shelf in
    let later = g.S.Shelf.shows c.load_list.new.shelf in
    let steps = c.in-Ok-load_list.steps.items in
    let fault = c.in-Err-load_steps.fault in
    let log = (g.S.Shelf.shows c.load_steps.new.shelf).log in
    let r : Result (Vec Step) LoadFault = Ok c.in-Ok-load_list.steps in
    let front = loads_on _ _ _ c.in-Ok.setup r c.in-Ok.ensures.store c.in-Ok-load_list.ensures.store in
    let parts = in_parts contents start.contents later.contents start.log later.log log front.held c.in-Err-load_steps.ensures.store.held held in
    let fronts = in_parts contents start.contents between.contents start.log between.log later.log c.in-Ok.ensures.store.held c.in-Ok-load_list.ensures.store.held parts.first in
    no_step (rest_texts contents (record { job = c.args.job.now; part = c.args.part.now; list = c.args.list.now })) c.in-Ok.setup.job.fields c.in-Ok.setup.part steps log fault
    (c.in-Ok.ensures.told contents fronts.first) (c.in-Ok-load_list.ensures.told contents fronts.next)
    (subst (λ (xs : List Step). StopsAtStep contents c.in-Ok.setup.job.fields xs log fault) c.deref.ensures.value (c.in-Err-load_steps.ensures.fault contents parts.next))

pub returns-in-Err-load_steps-clause-failed : goal.returns-in-Err-load_steps-clause-failed
returns-in-Err-load_steps-clause-failed g c = λ contents held.
    let start = g.S.Shelf.shows c.args.shelf.now in
    let between = g.S.Shelf.shows c.load_setup.new.shelf in
    let later = g.S.Shelf.shows c.load_list.new.shelf in
    let steps = c.in-Ok-load_list.steps.items in
    let fault = c.in-Err-load_steps.fault in
    let log = (g.S.Shelf.shows c.load_steps.new.shelf).log in
    let r : Result (Vec Step) LoadFault = Ok c.in-Ok-load_list.steps in
    let front = loads_on _ _ _ c.in-Ok.setup r c.in-Ok.ensures.store c.in-Ok-load_list.ensures.store in
    let parts = in_parts contents start.contents later.contents start.log later.log log front.held c.in-Err-load_steps.ensures.store.held held in
    let fronts = in_parts contents start.contents between.contents start.log between.log later.log c.in-Ok.ensures.store.held c.in-Ok-load_list.ensures.store.held parts.first in
    step_failed contents (record { job = c.args.job.now; part = c.args.part.now; list = c.args.list.now }) c.in-Ok.setup.job.fields c.in-Ok.setup.part steps log fault
    (c.in-Ok.ensures.told contents fronts.first) (c.in-Ok-load_list.ensures.told contents fronts.next)
    (subst (λ (xs : List Step). StopsAtStep contents c.in-Ok.setup.job.fields xs log fault) c.deref.ensures.value (c.in-Err-load_steps.ensures.fault contents parts.next))

pub returns-in-Err-load_steps-clause-store : goal.returns-in-Err-load_steps-clause-store
returns-in-Err-load_steps-clause-store g c =
    let found : Result (Vec Step) LoadFault = Ok c.in-Ok-load_list.steps in
    let front = loads_on _ _ _ c.in-Ok.setup found c.in-Ok.ensures.store c.in-Ok-load_list.ensures.store in
    let r : Result (Vec CutFile) LoadFault = Err c.in-Err-load_steps.fault in
    let all = loads_on _ _ _ c.in-Ok-load_list.steps r front c.in-Err-load_steps.ensures.store in
    record { only = all.only; reads = all.reads; held = all.held }

pub returns-clause-told : goal.returns-clause-told
returns-clause-told g c = λ contents held.
    let start = g.S.Shelf.shows c.args.shelf.now in
    let between = g.S.Shelf.shows c.load_setup.new.shelf in
    let later = g.S.Shelf.shows c.load_list.new.shelf in
    let log = (g.S.Shelf.shows c.load_steps.new.shelf).log in
    let files : List CutFile = c.in-Ok-load_steps.files.items in
    let r : Result (Vec Step) LoadFault = Ok c.in-Ok-load_list.steps in
    let front = loads_on _ _ _ c.in-Ok.setup r c.in-Ok.ensures.store c.in-Ok-load_list.ensures.store in
    let parts = in_parts contents start.contents later.contents start.log later.log log front.held c.in-Ok-load_steps.ensures.store.held held in
    let fronts = in_parts contents start.contents between.contents start.log between.log later.log c.in-Ok.ensures.store.held c.in-Ok-load_list.ensures.store.held parts.first in
    let texts = rest_texts contents (record { job = c.args.job.now; part = c.args.part.now; list = c.args.list.now }) in
    record {
      setup_is = subst (λ (part : List Tri). ReadsSetup texts.setup c.in-Ok.setup.job.fields part) (sym c.in-Ok-new.ensures) (c.in-Ok.ensures.told contents fronts.first);
      list_is = c.in-Ok-load_list.ensures.told contents fronts.next;
      files_are = subst (λ (xs : List Step). ReadsSteps contents c.in-Ok.setup.job.fields xs files) c.deref.ensures.value (c.in-Ok-load_steps.ensures.read contents parts.next);
    }

pub returns-clause-store : goal.returns-clause-store
returns-clause-store g c =
    let found : Result (Vec Step) LoadFault = Ok c.in-Ok-load_list.steps in
    let front = loads_on _ _ _ c.in-Ok.setup found c.in-Ok.ensures.store c.in-Ok-load_list.ensures.store in
    let r : Result (Vec CutFile) LoadFault = Ok c.in-Ok-load_steps.files in
    let all = loads_on _ _ _ c.in-Ok-load_list.steps r front c.in-Ok-load_steps.ensures.store in
    record { only = all.only; reads = all.reads; held = all.held }

pub returns-clause-ready : goal.returns-clause-ready
returns-clause-ready g c = record {
  under = subst (λ (part : List Tri). IsUnder part c.in-Ok.setup.job.fields.top) (sym c.in-Ok-new.ensures) c.in-Ok.ensures.ready;
  files_ok = c.in-Ok-load_steps.ensures.ready;
  few = c.in-Ok-load_steps.ensures.few;
}

pub returns-in_default-clause-store : goal.returns-in_default-clause-store
returns-in_default-clause-store g c =
    let found : Result (Vec Step) LoadFault = Ok c.in-Ok-load_list.steps in
    let front = loads_on _ _ _ c.in-Ok.setup found c.in-Ok.ensures.store c.in-Ok-load_list.ensures.store in
    let r : Result (Vec CutFile) LoadFault = Ok c.in-Ok-load_steps.files in
    let all = loads_on _ _ _ c.in-Ok-load_list.steps r front c.in-Ok-load_steps.ensures.store in
    record { only = all.only; reads = all.reads; held = all.held }
