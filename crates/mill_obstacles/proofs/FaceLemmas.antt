-- The two triangles of a fixture's upper face are in range.
use Rattle.mill_base.specs.Ranges.{TriInRange}
use Rattle.mill_base.specs.declared.unit.Unit.{Unit}
use Rattle.mill_base.proofs.Ranges.{within_of_unit}
use Rattle.mill_job.specs.Fixtures.{IsFixture}
use Rattle.mill_job.specs.declared.fixtures.Fixture.{Fixture}
use Rattle.mill_obstacles.specs.Faces.{first_half, second_half}

module _ (unit : Unit) (f : Fixture) (ok : IsFixture unit f) where
  pub first_in_range : TriInRange (first_half f)
  first_in_range =
      let x0 = within_of_unit unit f.area.x0 ok.area_ok.x0_ok in
      let y0 = within_of_unit unit f.area.y0 ok.area_ok.y0_ok in
      let x1 = within_of_unit unit f.area.x1 ok.area_ok.x1_ok in
      let y1 = within_of_unit unit f.area.y1 ok.area_ok.y1_ok in
      let z = within_of_unit unit f.height ok.height_ok in
      record { a_ok = record { x_ok = x0; y_ok = y0; z_ok = z }; b_ok = record { x_ok = x1; y_ok = y0; z_ok = z }; c_ok = record { x_ok = x1; y_ok = y1; z_ok = z } }

  pub second_in_range : TriInRange (second_half f)
  second_in_range =
      let x0 = within_of_unit unit f.area.x0 ok.area_ok.x0_ok in
      let y0 = within_of_unit unit f.area.y0 ok.area_ok.y0_ok in
      let x1 = within_of_unit unit f.area.x1 ok.area_ok.x1_ok in
      let y1 = within_of_unit unit f.area.y1 ok.area_ok.y1_ok in
      let z = within_of_unit unit f.height ok.height_ok in
      record { a_ok = record { x_ok = x0; y_ok = y0; z_ok = z }; b_ok = record { x_ok = x1; y_ok = y1; z_ok = z }; c_ok = record { x_ok = x0; y_ok = y1; z_ok = z } }
