use Rattle.std.proofs.Common.{rules, arith, Err, refl, sym, ◌∙◌}
use Rattle.std.specs.Prelude.{◌≡◌, ◌≢◌, false}
use Rattle.mill_said.specs.declared.fault.NgcFault.TheVariants.{WantOfMemory}
use Rattle.mill_load.specs.inner.Steps.{is_memory_fault}
use Rattle.mill_load.proofs.Programs.{is_other, no_text, file_moves, file_fault, moves_ok}
use Rattle.mill_load.proofs.program.load_program.Goals as goal

pub returns-in-Err-clause-told : goal.returns-in-Err-clause-told
returns-in-Err-clause-told g c = λ contents held. no_text c.args.job.now.fields (contents c.args.name.now) c.args.file c.in-Err.fault (c.in-Err.ensures.fault contents held)

pub finish-requires : goal.finish-requires
finish-requires g c =
    let file = c.in-Ok.ensures.takes (g.S.Shelf.shows c.args.shelf.now).contents c.in-Ok.ensures.store.held in
    omega (arith, file.fits, file.taken.lines)

pub returns-in-Ok-finish-clause-told : goal.returns-in-Ok-finish-clause-told
returns-in-Ok-finish-clause-told g c = λ contents held.
    file_moves c.args.job.now.fields c.home.result c.args.job.now.fields.unit c.rules_for.result (contents c.args.name.now) c.in-Ok.reader c.take_file.new.moves.items c.finish.new.out.items c.run_moves.new.moves.items c.in-Ok-finish.field-0
    c.home.ensures.value refl c.rules_for.ensures (c.in-Ok.ensures.takes contents held) (c.in-Ok-finish.ensures.answer (λ e. absurd cc)) (c.in-Ok-finish.ensures.moves_are (λ e. absurd cc)) c.run_moves.ensures

pub returns-in-Ok-finish-clause-ready : goal.returns-in-Ok-finish-clause-ready
returns-in-Ok-finish-clause-ready g c =
    let file = c.in-Ok.ensures.takes (g.S.Shelf.shows c.args.shelf.now).contents c.in-Ok.ensures.store.held in
    moves_ok c.args.job.now.fields c.home.result c.args.job.now.fields.unit c.rules_for.result c.finish.new.out.items c.run_moves.new.moves.items c.home.ensures.value refl c.rules_for.ensures (c.finish.ensures.moves c.home.result c.args.job.now.fields.unit c.rules_for.result file.taken.moves_ok) c.run_moves.ensures

pub returns : goal.returns
returns g c =
    let no : is_memory_fault c.in-Err-finish.fault ≡ false = search rules in
    let other : (c.finish.result ≢ Err WantOfMemory) = is_other c.finish.result c.in-Err-finish.fault c.in-Err-finish.is no in
    record {
      told = λ contents held. (
        refl,
        file_fault c.args.job.now.fields c.home.result c.args.job.now.fields.unit c.rules_for.result (contents c.args.name.now) c.in-Ok.reader c.take_file.new.moves.items c.in-Err-finish.fault
            c.home.ensures.value refl c.rules_for.ensures (c.in-Ok.ensures.takes contents held) (sym c.in-Err-finish.is ∙ c.finish.ensures.answer other),
      );
      ready = tt;
      failed = λ names same. tt;
      store = record { only = c.in-Ok.ensures.store.only; reads = c.in-Ok.ensures.store.reads; held = c.in-Ok.ensures.store.held };
    }

pub returns-in-Err-clause-failed : goal.returns-in-Err-clause-failed
returns-in-Err-clause-failed g c = λ names same. c.in-Err.ensures.failed names same
