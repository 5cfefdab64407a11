use Rattle.std.proofs.Common.{refl, inl, rules, map, w32}
use Rattle.std.specs.Prelude.{FitsSigned}
use Rattle.std.proofs.lemmas.Int.{to_z-of_z}
use Rattle.mill_level.specs.Waterlines.{seen}
use Rattle.mill_run.specs.Answers.{leveled}
use Rattle.mill_run.specs.Level.{LevelAnswer, IsLevelAnswer, outlines, too_many_nodes}
use Rattle.mill_run.proofs.Serving.{made_prints}
use Rattle.mill_run.proofs.level.tell_level.Goals as goal

pub returns-in-Ok : goal.returns-in-Ok
returns-in-Ok g c =
    let height_fits : FitsSigned w32 c.args.height = search rules in
    let answer : LevelAnswer = outlines (map seen c.in-Ok.chains.items) in
    let right : IsLevelAnswer c.args.setup.job.fields c.args.setup.part c.args.height answer = (simp to_z-of_z at c.in-Ok.ensures.chains, c.in-Ok.ensures.few) in
    inl (record {
      answer = answer;
      is = right;
      printed = made_prints c.text_of_chains.result (leveled c.args.setup.job.fields.unit answer) _ _ _ _ refl (rw c.deref.ensures.value at c.text_of_chains.ensures) c.tell_made.ensures;
    })

pub returns-in-Err-TooManyNodes : goal.returns-in-Err-TooManyNodes
returns-in-Err-TooManyNodes g c =
    let answer : LevelAnswer = too_many_nodes c.in-Err-TooManyNodes.nodes in
    inl (record {
      answer = answer;
      is = c.in-Err-TooManyNodes.ensures.nodes c.in-Err-TooManyNodes.nodes (cc);
      printed = made_prints c.line_of_nodes.result (leveled c.args.setup.job.fields.unit answer) _ _ _ _ refl (rw c.in-Err-TooManyNodes.field-0-is at c.line_of_nodes.ensures) c.tell_made-in-Err-TooManyNodes.ensures;
    })
