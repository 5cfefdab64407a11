use Rattle.std.proofs.Common.{◌≡◌, ◌∷◌, ◌++◌, [], List, length, map, take, false, ap, sym, ◌∙◌, arith}
use Rattle.std.proofs.lemmas.List.{map_push, take_all}
use Rattle.std.proofs.lemmas.List.Elements.{All-push, All-same}
use Rattle.std.specs.Prelude.{ℤ, Option, ◌<◌}
use Rattle.mill_document.specs.Details.{failing_data}
use Rattle.mill_document.proofs.Lists.{failing_more}
use Rattle.mill_verify.specs.declared.verdict.Reason.{Reason}
use Rattle.serde_json.specs.Data.{Data}
use Rattle.serde_json.specs.View.{view}
use Rattle.serde_json.specs.Written.{has_float}
use Rattle.mill_document.proofs.list.failing_values.Goals as goal

pub loop-index-preserved : goal.loop-index-preserved
loop-index-preserved c =
    let values = c.loop-index.values.items in
    let index = c.loop-index.index in
    let found = c.args.found.now in
    let lifts = c.args.lifts.now in
    let there : index < length lifts = omega (arith, c.requires.lifts, c.loop-index-test.true) in
    let pushed : c.push.new.self.items ≡ values ++ c.in_ok-value.value ∷ [] = c.in_ok-push.ensures.items in
    record {
      told = ap (map view) pushed ∙ map_push view values c.in_ok-value.value
          ∙ ap (λ (items : List Data). items ++ view c.in_ok-value.value ∷ []) c.loop-index.invariant.told
          ∙ ap (λ (item : Data). failing_data c.args.job.now.fields c.args.part.now c.args.moves.now c.args.text.now c.args.places.now (take index found) (take index lifts) ++ item ∷ []) c.in_ok-value.ensures.«data»
          ∙ sym (failing_more c.args.job.now.fields c.args.part.now c.args.moves.now c.args.text.now c.args.places.now found lifts index _ _ c.loop-index-test.true there);
      plain = All-same (λ v. has_float (view v) ≡ false) c.push.new.self.items (values ++ c.in_ok-value.value ∷ []) pushed
          (All-push (λ v. has_float (view v) ≡ false) values c.in_ok-value.value c.loop-index.invariant.plain c.in_ok-value.ensures.plain);
    }

pub returns-clause-data : goal.returns-clause-data
returns-clause-data c =
    let found = c.args.found.now in
    let lifts = c.args.lifts.now in
    let index = c.loop-index.index in
    c.loop-index.invariant.told
    ∙ ap (λ (fs : List Reason). failing_data c.args.job.now.fields c.args.part.now c.args.moves.now c.args.text.now c.args.places.now fs (take index lifts)) (take_all index found c.loop-index-test.false)
    ∙ ap (λ (ls : List (Option ℤ)). failing_data c.args.job.now.fields c.args.part.now c.args.moves.now c.args.text.now c.args.places.now found ls)
    (take_all index lifts (omega (arith, c.requires.lifts, c.loop-index-test.false)))
