use Rattle.std.proofs.Common.{◌^◌, refl, FitsSigned, rules}
use mir.Syntax.{w32}
use lib.IntN.{negsuc, pos}
use Rattle.std.proofs.lemmas.Int.{to_z-of_z}
use Rattle.mill_part.proofs.LineCerts.{between_least, between_most}
use Rattle.mill_part.proofs.Stored.{coordinate_bounds, less2_is, less2_fits, between_are}
use Rattle.mill_part.proofs.line.LineCorner.height_between.Goals as goal

pub overflow_sub-heights : goal.overflow_sub-heights
overflow_sub-heights c = less2_fits (2 ^ 60) c.weighted.result c.weighted-2.result c.weighted.ensures.bound c.weighted-2.ensures.bound refl

pub floor_height-requires-clause-least : goal.floor_height-requires-clause-least
floor_height-requires-clause-least c =
    let heights = between_are c.args.self.at c.args.other.at c.args.self.z c.args.other.z c.weighted.result c.weighted-2.result
    c.args.self.at_ok c.args.other.at_ok c.args.self.z_ok c.args.other.z_ok c.weighted.ensures.bound c.weighted-2.ensures.bound c.weighted.ensures.value c.weighted-2.ensures.value in
    rw (less2_is (2 ^ 20) c.args.other.at c.args.self.at c.args.other.at_ok c.args.self.at_ok refl, heights)
    (between_least c.args.self.at c.args.other.at c.args.self.z c.args.other.z (negsuc 524286) c.requires.self_ok c.requires.other_ok
    (coordinate_bounds c.args.self.z c.args.self.z_ok).0 (coordinate_bounds c.args.other.z c.args.other.z_ok).0)

pub floor_height-requires-clause-most : goal.floor_height-requires-clause-most
floor_height-requires-clause-most c =
    let heights = between_are c.args.self.at c.args.other.at c.args.self.z c.args.other.z c.weighted.result c.weighted-2.result
    c.args.self.at_ok c.args.other.at_ok c.args.self.z_ok c.args.other.z_ok c.weighted.ensures.bound c.weighted-2.ensures.bound c.weighted.ensures.value c.weighted-2.ensures.value in
    rw (less2_is (2 ^ 20) c.args.other.at c.args.self.at c.args.other.at_ok c.args.self.at_ok refl, heights)
    (between_most c.args.self.at c.args.other.at c.args.self.z c.args.other.z (pos 524287) c.requires.self_ok c.requires.other_ok
    (coordinate_bounds c.args.self.z c.args.self.z_ok).1 (coordinate_bounds c.args.other.z c.args.other.z_ok).1)

pub returns : goal.returns
returns c =
    let heights = between_are c.args.self.at c.args.other.at c.args.self.z c.args.other.z c.weighted.result c.weighted-2.result
    c.args.self.at_ok c.args.other.at_ok c.args.self.z_ok c.args.other.z_ok c.weighted.ensures.bound c.weighted-2.ensures.bound c.weighted.ensures.value c.weighted-2.ensures.value in
    let fits : FitsSigned w32 c.floor_height.result = search rules in
    let floor = rw (less2_is (2 ^ 20) c.args.other.at c.args.self.at c.args.other.at_ok c.args.self.at_ok refl, heights) at c.floor_height.ensures in
    rw (to_z-of_z w32 c.floor_height.result fits) floor
