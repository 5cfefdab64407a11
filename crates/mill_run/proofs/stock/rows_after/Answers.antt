use Rattle.std.specs.Prelude.{List, ◌++◌, take, drop, ◌+◌, All}
use Rattle.std.proofs.Common.{◌≡◌, ◌∙◌, length, sym, subst, arith}
use Rattle.std.proofs.lemmas.List.{take_all, take_more}
use Rattle.std.proofs.lemmas.List.Elements.{Contains-get_or}
use Rattle.mill_base.specs.declared.motion.Move.{Move}
use Rattle.mill_dexel.specs.Rows.{IsRowOf, RowState}
use Rattle.mill_dexel.specs.Stocks.{IsStock}
use Rattle.mill_run.proofs.Stocks.{put_back}
use Rattle.mill_run.proofs.stock.rows_after.Goals as goal

pub loop-step-preserved : goal.loop-step-preserved
loop-step-preserved c =
    let job = c.args.job.now.fields in
    let moves = c.args.moves.now in
    let rows = c.loop-step.rows in
    let new = c.cut_rows.new.rows in
    let here : IsStock job (take c.loop-step.step-index moves) c.deref_mut.result.now = rw c.deref_mut.ensures.value c.loop-step.invariant.stock in
    let next = c.cut_rows.ensures.stock (take c.loop-step.step-index moves) here in
    let long : length new ≡ length rows.items = next.count ∙ sym c.loop-step.invariant.stock.count in
    let back : take rows.len (new ++ drop (length new) rows.items) ≡ new = put_back rows.items new rows.len (omega (arith, long, rows.ok.0)) (omega (arith, rows.ok.0)) in
    record {
      stock = subst (λ (list : List RowState). IsStock job (take (c.loop-step.step-index + 1) moves) list) (sym back)
          (subst (λ (ms : List Move). IsStock job ms new) (sym (take_more moves c.loop-step.step-index _ c.loop-step-test.true)) next);
      rows_ok = subst (λ (list : List RowState). All (IsRowOf job) list) (sym back) c.cut_rows.ensures.rows_ok;
    }

pub returns-clause-stock : goal.returns-clause-stock
returns-clause-stock c =
    subst (λ (ms : List Move). IsStock c.args.job.now.fields ms c.loop-step.rows.items) (take_all c.loop-step.step-index c.args.moves.now c.loop-step-test.false)
    c.loop-step.invariant.stock

pub cut_rows-requires-clause-step : goal.cut_rows-requires-clause-step
cut_rows-requires-clause-step c = c.requires _ (Contains-get_or c.args.moves.now c.loop-step.step-index _ c.loop-step-test.true)
