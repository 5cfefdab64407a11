use Rattle.std.proofs.Common.{ℕ, ◌≤◌, ◌∙◌, List, [], ◌∷◌, ◌++◌, Result, Ok, Err, ap, length, rules, subst, sym, take}
use Rattle.std.proofs.lemmas.List.{take_all}
use Rattle.std.proofs.lemmas.List.Elements.{All-push, All-same}
use Rattle.mill_io.proofs.Held.{held_as, held_none, held_on, in_parts}
use Rattle.mill_io.proofs.Read.{reads_on}
use Rattle.mill_job.specs.declared.step_limits.TheConstants.{MAX_STEPS}
use Rattle.mill_job.specs.declared.step.Step.{Step}
use Rattle.mill_load.proofs.Reading.{loads_on}
use Rattle.mill_load.specs.Loads.{OnlyLoads}
use Rattle.mill_load.specs.declared.load.LoadFault.{LoadFault}
use Rattle.mill_load.specs.declared.load.LoadFault.TheVariants.{Memory}
use Rattle.mill_verify.specs.Files.{File as CutFile, IsFileOf}
use Rattle.mill_run.specs.Rest.{ReadsSteps}
use Rattle.mill_run.proofs.Rests.{as_many, reads_more, stops_at}
use Rattle.mill_run.proofs.rest.load_steps.Goals as goal

pub loop-number-init : goal.loop-number-init
loop-number-init g c =
    let start = g.S.Shelf.shows c.args.shelf.now in
    record { only = search rules; faults = search rules; held = held_none start.contents start.log; read = λ contents held. search rules; ready = search rules }

pub loop-number-preserved : goal.loop-number-preserved
loop-number-preserved g c =
    let start = g.S.Shelf.shows c.args.shelf.now in
    let here = g.S.Shelf.shows c.loop-number.shelf in
    let after = g.S.Shelf.shows c.load_step.new.shelf in
    let job = c.args.job.now.fields in
    let steps = c.args.steps.now in
    let n = c.loop-number.number in
    let file = c.in-Ok.file in
    let files = c.push.new.self.items in
    let was = c.loop-number.invariant in
    let next = c.in-Ok.ensures.store in
    let pushed = c.in-Ok-push.ensures.items in
    record {
      only = reads_on _ _ _ was.only next.only;
      faults = next.reads ∙ was.faults;
      held = held_on start.contents start.log here.log after.log was.held (held_as here.contents start.contents here.log after.log (λ name. sym (was.only.contents name)) next.held);
      read = λ contents held.
          let parts = in_parts contents start.contents here.contents start.log here.log after.log was.held next.held held in
          reads_more contents job steps c.loop-number.files.items n c.index-steps-number.result c.loop-number-test.true c.index-steps-number.is (was.read contents parts.first) file files pushed
          (c.in-Ok.ensures.read contents parts.next);
      ready = All-same (IsFileOf job) files (c.loop-number.files.items ++ file ∷ []) pushed (All-push (IsFileOf job) c.loop-number.files.items file was.ready c.in-Ok.ensures.ready);
    }

pub returns-in-Err-clause-fault : goal.returns-in-Err-clause-fault
returns-in-Err-clause-fault g c = λ contents held.
    let start = g.S.Shelf.shows c.args.shelf.now in
    let here = g.S.Shelf.shows c.loop-number.shelf in
    let after = g.S.Shelf.shows c.load_step.new.shelf in
    let was = c.loop-number.invariant in
    let parts = in_parts contents start.contents here.contents start.log here.log after.log was.held c.in-Err.ensures.store.held held in
    stops_at contents c.args.job.now.fields c.args.steps.now c.loop-number.files.items c.loop-number.number c.index-steps-number.result c.loop-number-test.true c.index-steps-number.is
    (was.read contents parts.first) after.log c.in-Err.fault (c.in-Err.ensures.fault contents parts.next) c.in-Err.ensures.failed

pub returns-in-Err-clause-store : goal.returns-in-Err-clause-store
returns-in-Err-clause-store g c =
    let start = g.S.Shelf.shows c.args.shelf.now in
    let here = g.S.Shelf.shows c.loop-number.shelf in
    let was = c.loop-number.invariant in
    let files = c.loop-number.files.items in
    let first : (let q : Result (List CutFile) LoadFault = Ok files in OnlyLoads start here q) = record { only = was.only; reads = was.faults; held = was.held } in
    let r : Result CutFile LoadFault = Err c.in-Err.fault in
    let all = loads_on start here (g.S.Shelf.shows c.load_step.new.shelf) files r first c.in-Err.ensures.store in
    record { only = all.only; reads = all.reads; held = all.held }

pub returns-in_default-clause-fault : goal.returns-in_default-clause-fault
returns-in_default-clause-fault g c = λ contents held.
    let start = g.S.Shelf.shows c.args.shelf.now in
    let here = g.S.Shelf.shows c.loop-number.shelf in
    let after = g.S.Shelf.shows c.load_step.new.shelf in
    let was = c.loop-number.invariant in
    let parts = in_parts contents start.contents here.contents start.log here.log after.log was.held c.in-Ok.ensures.store.held held in
    stops_at contents c.args.job.now.fields c.args.steps.now c.loop-number.files.items c.loop-number.number c.index-steps-number.result c.loop-number-test.true c.index-steps-number.is
    (was.read contents parts.first) after.log Memory tt tt

pub returns-in_default-clause-store : goal.returns-in_default-clause-store
returns-in_default-clause-store g c =
    let start = g.S.Shelf.shows c.args.shelf.now in
    let here = g.S.Shelf.shows c.loop-number.shelf in
    let was = c.loop-number.invariant in
    let files = c.loop-number.files.items in
    let first : (let q : Result (List CutFile) LoadFault = Ok files in OnlyLoads start here q) = record { only = was.only; reads = was.faults; held = was.held } in
    let r : Result CutFile LoadFault = Ok c.in-Ok.file in
    let all = loads_on start here (g.S.Shelf.shows c.load_step.new.shelf) files r first c.in-Ok.ensures.store in
    record { only = all.only; reads = all.reads; held = all.held }

pub returns-clause-read : goal.returns-clause-read
returns-clause-read g c = λ contents held.
    subst (λ (xs : List Step). ReadsSteps contents c.args.job.now.fields xs c.loop-number.files.items) (take_all c.loop-number.number c.args.steps.now c.loop-number-test.false) (c.loop-number.invariant.read contents held)

pub returns-clause-few : goal.returns-clause-few
returns-clause-few g c =
    let start = g.S.Shelf.shows c.args.shelf.now in
    let steps = c.args.steps.now in
    let n = c.loop-number.number in
    let was = c.loop-number.invariant in
    let many = as_many start.contents c.args.job.now.fields (take n steps) c.loop-number.files.items (was.read start.contents was.held) in
    subst (λ (count : ℕ). count ≤ MAX_STEPS) (sym (many ∙ ap length (take_all n steps c.loop-number-test.false))) c.requires.few
