use Rattle.std.proofs.Common.{◌≡◌, refl, inl, rules, w32}
use Rattle.std.specs.Prelude.{FitsSigned, IfOk}
use Rattle.std.proofs.lemmas.Int.{to_z-of_z}
use Rattle.mill_drop.specs.Drops.{IsDropHeight}
use Rattle.mill_job.specs.Jobs.{tool_of}
use Rattle.mill_obstacles.specs.Faces.{obstacles_of}
use Rattle.mill_run.specs.Answers.{answer_line, dropped}
use Rattle.mill_run.proofs.Serving.{made_prints}
use Rattle.mill_run.proofs.drop.tell_drop.Goals as goal

pub returns : goal.returns
returns g c =
    let fields = c.args.setup.job.fields in
    let x_fits : FitsSigned w32 c.args.place.x = search rules in
    let y_fits : FitsSigned w32 c.args.place.y = search rules in
    let floor_fits : FitsSigned w32 fields.floor = search rules in
    let height_fits : FitsSigned w32 c.drop_once-height.result = search rules in
    let least : IsDropHeight (tool_of fields) (obstacles_of fields c.args.setup.part) c.args.place.x c.args.place.y fields.floor c.drop_once-height.result =
    simp (to_z-of_z, c.tool-tool.ensures, c.in-Ok.ensures) at c.drop_once-height.ensures.drop in
    let line : IfOk c.line_of_height.result (λ line. line.items ≡ answer_line (dropped fields.unit c.drop_once-height.result)) = simp to_z-of_z at c.line_of_height.ensures in
    inl (record {
      height = c.drop_once-height.result;
      is = least;
      printed = made_prints c.line_of_height.result (dropped fields.unit c.drop_once-height.result) _ _ _ _ refl line c.tell_made.ensures;
    })
