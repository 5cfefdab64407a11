use Rattle.std.proofs.Common.{◌≡◌, ◌∙◌, false, true, [], ◌∷◌}
use Rattle.std.proofs.lemmas.Int.{to_z-of_z}
use Rattle.std.proofs.lemmas.Result.{err_from_is_err_and}
use Rattle.mill_job.specs.Tables.{is_area, is_coordinate}
use Rattle.mill_job.proofs.Boxes.{fails, first_fails, passes, second_fails, stands}
use Rattle.mill_job.proofs.Stored.{stored_coordinate}
use Rattle.mill_job.proofs.keep_out.standing.Goals as goal

-- Each number is stored as it is.
pub returns-in_err-area-clause-value : goal.returns-in_err-area-clause-value
returns-in_err-area-clause-value c =
    let (bad, is) = fails (is_area c.args.unit (c.args.x0 ∷ c.args.y0 ∷ c.args.x1 ∷ c.args.y1 ∷ [])) _ c.in_err-area.field-0.0 (simp (to_z-of_z, c.ranges.x0, c.ranges.y0, c.ranges.x1, c.ranges.y1) at c.in_err-area.ensures.value) in
    let answer = err_from_is_err_and c.from_residual.result c.from_residual.ensures.1 in
    rw (answer.1, answer.2) (first_fails (is_area c.args.unit (c.args.x0 ∷ c.args.y0 ∷ c.args.x1 ∷ c.args.y1 ∷ [])) (is_coordinate c.args.unit c.args.z) _ c.in_err-area.field-0.0 bad is)

pub returns-in_err-height-clause-value : goal.returns-in_err-height-clause-value
returns-in_err-height-clause-value c =
    let (good, is) = passes (is_area c.args.unit (c.args.x0 ∷ c.args.y0 ∷ c.args.x1 ∷ c.args.y1 ∷ [])) _ c.in_ok-area.area (simp (to_z-of_z, c.ranges.x0, c.ranges.y0, c.ranges.x1, c.ranges.y1) at c.in_ok-area.ensures.value) in
    let bad : is_coordinate c.args.unit c.args.z ≡ false = simp (to_z-of_z, c.ranges.z) at c.in_err-height.ensures.err.0 in
    let answer = err_from_is_err_and c.from_residual-in_err-height.result c.from_residual-in_err-height.ensures.1 in
    rw (answer.1, answer.2) (second_fails (is_area c.args.unit (c.args.x0 ∷ c.args.y0 ∷ c.args.x1 ∷ c.args.y1 ∷ [])) (is_coordinate c.args.unit c.args.z) _ c.in_err-height.field-0.0 good bad c.in_err-height.ensures.err.1)

pub returns-clause-value : goal.returns-clause-value
returns-clause-value c =
    let (good, is) = passes (is_area c.args.unit (c.args.x0 ∷ c.args.y0 ∷ c.args.x1 ∷ c.args.y1 ∷ [])) _ c.in_ok-area.area (simp (to_z-of_z, c.ranges.x0, c.ranges.y0, c.ranges.x1, c.ranges.y1) at c.in_ok-area.ensures.value) in
    let known : is_coordinate c.args.unit c.args.z ≡ true = simp (to_z-of_z, c.ranges.z) at c.in_ok-height.ensures.ok.0 in
    let same : c.in_ok-height.height ≡ c.args.z = simp (to_z-of_z, c.ranges.z) at c.in_ok-height.ensures.ok.1 in
    stands (is_area c.args.unit (c.args.x0 ∷ c.args.y0 ∷ c.args.x1 ∷ c.args.y1 ∷ [])) (is_coordinate c.args.unit c.args.z) c.in_ok-area.area _ _ c.args.z good known is (stored_coordinate c.args.unit c.in_ok-height.ensures.in_range ∙ same)
