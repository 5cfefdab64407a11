use Rattle.std.proofs.Common.{◌≡◌, ◌+◌, ◌*◌, ◌<◌, ◌≤◌, ◌+ℤ◌, ◌-ℤ◌, ◌≤ℤ◌, pos, [], ◌∷◌, refl, sym, w32}
use Rattle.std.specs.Prelude.{nat_abs}
use Rattle.mill_base.proofs.Machine.{Read, Sum, kept, exact}
use Rattle.mill_base.specs.Numbers.{square}
use Rattle.mill_base.specs.Sizes.{radius_of}
use Rattle.mill_base.specs.declared.limits.TheConstants.{MAX_COORDINATE}
use Rattle.mill_shape.specs.Widths.{tip_width, rise_width}
use Rattle.mill_shape.proofs.Stored.{radius_kept, tip_small, rise_small}
use Rattle.mill_shape.proofs.CutHeights.{cut_height_is_greatest}
use Rattle.mill_shape.proofs.Surfaces.{radius_in_range, distance_is, far_out_is, near_is, cut_none, cut_some}
use Rattle.mill_shape.proofs.height.cut_height.Goals as goal

pub returns-in_err-distance-clause-none : goal.returns-in_err-distance-clause-none
returns-in_err-distance-clause-none c =
    let size = radius_in_range c.args.cutter c.requires.cutter_ok in
    let is_radius : c.radius.result ≡ radius_of c.args.cutter = c.radius.ensures in
    let radius : c.unsigned_abs.result ≡ nat_abs (radius_of c.args.cutter) = rw (is_radius, radius_kept (radius_of c.args.cutter) size) at c.unsigned_abs.ensures.value in
    let keep_x = kept w32 c.args.x MAX_COORDINATE c.requires.x_ok.within refl in
    let keep_y = kept w32 c.args.y MAX_COORDINATE c.requires.y_ok.within refl in
    let keep_tip_x = kept w32 c.args.tip.x MAX_COORDINATE c.requires.tip_x_ok.within refl in
    let keep_tip_y = kept w32 c.args.tip.y MAX_COORDINATE c.requires.tip_y_ok.within refl in
    let dx : c.abs_diff.result ≡ nat_abs (c.args.x -ℤ c.args.tip.x) = rw (keep_x, keep_tip_x) at c.abs_diff.ensures in
    let dy : c.abs_diff-2.result ≡ nat_abs (c.args.y -ℤ c.args.tip.y) = rw (keep_y, keep_tip_y) at c.abs_diff-2.ensures in
    let far : c.unsigned_abs.result * c.unsigned_abs.result ≤ c.abs_diff.result * c.abs_diff.result + c.abs_diff-2.result * c.abs_diff-2.result = c.in_err-distance.ensures in
    let none = c.from_residual.ensures in
    rw none (far_out_is (radius_of c.args.cutter) (c.args.x -ℤ c.args.tip.x) (c.args.y -ℤ c.args.tip.y) c.unsigned_abs.result c.abs_diff.result c.abs_diff-2.result radius dx dy far)

pub returns-in_err-distance-clause-value : goal.returns-in_err-distance-clause-value
returns-in_err-distance-clause-value c =
    let none = c.from_residual.ensures in
    let far : square (radius_of c.args.cutter) ≤ℤ (square (c.args.x -ℤ c.args.tip.x) +ℤ square (c.args.y -ℤ c.args.tip.y)) = rw none at (returns-in_err-distance-clause-none c) in
    rw none (cut_none c.args.cutter c.args.tip c.args.x c.args.y far)

pub returns-clause-value : goal.returns-clause-value
returns-clause-value c =
    let size = radius_in_range c.args.cutter c.requires.cutter_ok in
    let is_radius : c.radius.result ≡ radius_of c.args.cutter = c.radius.ensures in
    let radius : c.unsigned_abs.result ≡ nat_abs (radius_of c.args.cutter) = rw (is_radius, radius_kept (radius_of c.args.cutter) size) at c.unsigned_abs.ensures.value in
    let keep_x = kept w32 c.args.x MAX_COORDINATE c.requires.x_ok.within refl in
    let keep_y = kept w32 c.args.y MAX_COORDINATE c.requires.y_ok.within refl in
    let keep_tip_x = kept w32 c.args.tip.x MAX_COORDINATE c.requires.tip_x_ok.within refl in
    let keep_tip_y = kept w32 c.args.tip.y MAX_COORDINATE c.requires.tip_y_ok.within refl in
    let dx : c.abs_diff.result ≡ nat_abs (c.args.x -ℤ c.args.tip.x) = rw (keep_x, keep_tip_x) at c.abs_diff.ensures in
    let dy : c.abs_diff-2.result ≡ nat_abs (c.args.y -ℤ c.args.tip.y) = rw (keep_y, keep_tip_y) at c.abs_diff-2.ensures in
    let found : (c.in_ok-distance.distance ≡ c.abs_diff.result * c.abs_diff.result + c.abs_diff-2.result * c.abs_diff-2.result) × (c.in_ok-distance.distance < c.unsigned_abs.result * c.unsigned_abs.result) = c.in_ok-distance.ensures in
    let distance = distance_is (c.args.x -ℤ c.args.tip.x) (c.args.y -ℤ c.args.tip.y) c.abs_diff.result c.abs_diff-2.result c.in_ok-distance.distance dx dy found.0 in
    let near = near_is (radius_of c.args.cutter) c.unsigned_abs.result c.in_ok-distance.distance (pos c.in_ok-distance.distance) radius refl found.1 in
    let sum = exact (c.args.tip.z ∷ c.surface.result ∷ []) (tip_width ∷ rise_width ∷ []) (Sum w32 (Read w32 0) (Read w32 1))
    (tip_small c.args.tip.z c.requires.tip_z_least c.requires.tip_z_most, (rise_small c.surface.result c.surface.ensures.least c.surface.ensures.most, tt)) refl in
    cut_some c.args.cutter c.args.tip c.args.x c.args.y (pos c.in_ok-distance.distance) _ distance near (rw (← c.surface.ensures.value) sum)

pub returns-clause-greatest : goal.returns-clause-greatest
returns-clause-greatest c = cut_height_is_greatest c.args.cutter c.args.tip c.args.x c.args.y _ c.requires.cutter_ok (sym (returns-clause-value c))
