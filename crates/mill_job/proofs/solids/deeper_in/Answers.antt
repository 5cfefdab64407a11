use Rattle.std.specs.Prelude.{◌≡◌, ℤ, pos, ◌+ℤ◌, ◌-ℤ◌, ◌≤ℤ◌}
use Rattle.std.proofs.Common.{subst₂, sym, w32}
use Rattle.std.proofs.lemmas.Int.{to_z-of_z}
use Rattle.mill_base.specs.Sizes.{radius_of}
use Rattle.mill_base.specs.Solids.{Solid, at_tip}
use Rattle.mill_base.specs.declared.limits.TheConstants.{LOWEST_LIFT, MAX_COORDINATE, MAX_RADIUS}
use Rattle.mill_job.proofs.SolidFacts.{core_around, core_lift, deeper_is_solid}
use Rattle.mill_job.proofs.solids.deeper_in.Goals as goal
use Rattle.mill_margin.specs.Margins.{offset_of, shrunk}

pub shrunk-requires-clause-lift_ok : goal.shrunk-requires-clause-lift_ok
shrunk-requires-clause-lift_ok c =
    subst₂ (λ (tip : Solid) (d : ℤ). (tip.lift +ℤ offset_of tip.cutter d) ≤ℤ pos MAX_COORDINATE) (sym c.at_tip.ensures) (sym (to_z-of_z w32 c.args.depth c.ranges.depth))
    (core_lift c.args.cutter c.args.depth c.requires.cutter_ok c.requires.depth_ok)

-- What was taken off.
core_is : (c : goal.After-shrunk) → c.shrunk.result ≡ shrunk (at_tip c.args.cutter) c.args.depth
core_is c =
    subst₂ (λ (tip : Solid) (d : ℤ). c.shrunk.result ≡ shrunk tip d) c.at_tip.ensures (to_z-of_z w32 c.args.depth c.ranges.depth) c.shrunk.ensures

pub grown-requires-clause-radius_ok : goal.grown-requires-clause-radius_ok
grown-requires-clause-radius_ok c =
    subst₂ (λ (core : Solid) (s : ℤ). (radius_of core.cutter +ℤ s) ≤ℤ MAX_RADIUS) (sym (core_is c)) (sym (to_z-of_z w32 c.args.slack c.ranges.slack))
    (core_around c.args.cutter c.args.depth c.args.slack c.requires.depth_ok.least c.requires.around)

pub grown-requires-clause-lift_ok : goal.grown-requires-clause-lift_ok
grown-requires-clause-lift_ok c =
    subst₂ (λ (core : Solid) (s : ℤ). LOWEST_LIFT ≤ℤ (core.lift -ℤ offset_of core.cutter s)) (sym (core_is c)) (sym (to_z-of_z w32 c.args.slack c.ranges.slack))
    (deeper_is_solid c.args.cutter c.args.depth c.args.slack c.requires.cutter_ok c.requires.depth_ok c.requires.inside c.requires.slack_ok c.requires.around).lift_ok.least
