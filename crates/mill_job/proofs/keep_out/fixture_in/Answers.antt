use Rattle.std.proofs.Common.{◌≡◌, ◌≢◌, ◌∙◌, sym, ap, length, List, ◌∷◌, [], Some, arith, rules}
use Rattle.std.proofs.lemmas.Int.{to_z-of_z}
use mir.Syntax.{w64}
use mir.Val.{SFits}
use Rattle.toml.specs.declared.value.Value.{Value}
use Rattle.toml.specs.View.{items_view}
use Rattle.mill_job.specs.Fixtures.{fixture_of, is_fixture}
use Rattle.mill_job.specs.Tables.{integers}
use Rattle.mill_job.specs.declared.key.Key.TheVariants.{KeepOut}
use Rattle.mill_job.proofs.Boxes.{are_five, is_fixture-other}
use Rattle.mill_job.proofs.Numbers.{misfits}
use Rattle.mill_job.proofs.keep_out.fixture_in.Goals as goal

pub returns-then-values-ne5-clause-value : goal.returns-then-values-ne5-clause-value
returns-then-values-ne5-clause-value c =
    let other : length c.args.values.now ≢ 5 = λ same. omega arith in
    rw c.misfit.ensures (misfits KeepOut (is_fixture c.args.unit) 5 (is_fixture-other c.args.unit) c.args.values.now other (fixture_of (integers (items_view c.args.values.now))))

pub returns-clause-value : goal.returns-clause-value
returns-clause-value c =
    let fits0 : SFits w64 c.in-Some.x0 = search rules in
    let fits1 : SFits w64 c.in-Some.y0 = search rules in
    let fits2 : SFits w64 c.in-Some.x1 = search rules in
    let fits3 : SFits w64 c.in-Some.y1 = search rules in
    let fits4 : SFits w64 c.in-Some.z = search rules in
    let members = are_five c.args.values.now c.index-values-0.result c.index-values-1.result c.index-values-2.result c.index-values-3.result c.index-values-4.result (omega arith) c.index-values-0.is c.index-values-1.is c.index-values-2.is c.index-values-3.is c.index-values-4.is in
    let numbers : integers (items_view c.args.values.now) ≡ Some (c.in-Some.x0 ∷ c.in-Some.y0 ∷ c.in-Some.x1 ∷ c.in-Some.y1 ∷ c.in-Some.z ∷ []) =
    ap (λ (vs : List Value). integers (items_view vs)) members ∙ sym c.in-Some.ensures in
    rw numbers (simp to_z-of_z at c.standing.ensures.value)
