use Rattle.std.specs.Prelude.{List, [], ◌∷◌, ◌++◌, take}
use Rattle.std.proofs.Common.{sym, ap, ◌∙◌, subst}
use Rattle.std.proofs.lemmas.List.{append_assoc, append-nil, take_all, take_more}
use Rattle.std.proofs.lemmas.List.Elements.{Contains-get_or}
use Rattle.mill_base.specs.declared.motion.Move.{Move}
use Rattle.mill_dexel.specs.Stocks.{IsStock}
use Rattle.mill_plan.proofs.moves.cut.Goals as goal

pub loop-step-init : goal.loop-step-init
loop-step-init c = record {
  stock = λ done is. subst (λ (ms : List Move). IsStock c.args.job.now.fields ms c.args.rows.now) (sym (append-nil done)) is;
  rows_ok = c.requires.rows_ok;
}

pub loop-step-preserved : goal.loop-step-preserved
loop-step-preserved c = record {
  stock = λ done is.
      let before = take c.loop-step.step-index c.args.moves.now in
      subst (λ (ms : List Move). IsStock c.args.job.now.fields ms c.cut_rows.new.rows)
      (append_assoc done before (_ ∷ []) ∙ ap (λ ms. done ++ ms) (sym (take_more c.args.moves.now c.loop-step.step-index _ c.loop-step-test.true)))
      (c.cut_rows.ensures.stock (done ++ before) (c.loop-step.invariant.stock done is));
  rows_ok = c.cut_rows.ensures.rows_ok;
}

pub returns-clause-rows_ok : goal.returns-clause-rows_ok
returns-clause-rows_ok c = c.loop-step.invariant.rows_ok

pub returns-clause-stock : goal.returns-clause-stock
returns-clause-stock c = λ done follow tested.
    subst (λ (ms : List Move). IsStock c.args.job.now.fields (done ++ ms) c.loop-step.rows) (take_all c.loop-step.step-index c.args.moves.now c.loop-step-test.false)
    (c.loop-step.invariant.stock done (follow tested))

pub cut_rows-requires-clause-step : goal.cut_rows-requires-clause-step
cut_rows-requires-clause-step c = c.requires.moves_ok _ (Contains-get_or c.args.moves.now c.loop-step.step-index _ c.loop-step-test.true)
