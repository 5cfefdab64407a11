use Rattle.std.proofs.Common.{FitsSigned, rules}
use mir.Syntax.{w32}
use Rattle.std.proofs.lemmas.Int.{to_z-of_z}
use Rattle.mill_base.proofs.Ranges.{coordinate}
use Rattle.mill_part.proofs.Stored.{same_place, over_0, not_over_0, under_0, not_under_0, level_places, apart_places}
use Rattle.mill_part.proofs.EdgeLemmas.{before_none, after_none, level_greatest, between_greatest}
use Rattle.mill_part.proofs.line.LineCorner.rising_height.Goals as goal

pub returns-then-self-gt0 : goal.returns-then-self-gt0
returns-then-self-gt0 c = λ h. before_none c.args.self c.args.other h (over_0 c.args.self.at c.args.self.at_ok c.if-self-gt0.true) c.requires

pub returns-then-other-lt0 : goal.returns-then-other-lt0
returns-then-other-lt0 c = λ h. after_none c.args.self c.args.other h (under_0 c.args.other.at c.args.other.at_ok c.if-other-lt0.true) c.requires

pub returns-then-self-other : goal.returns-then-self-other
returns-then-self-other c =
    let same = same_place c.args.self.at c.args.other.at c.args.self.at_ok c.args.other.at_ok c.if-self-other.true in
    let level = level_places c.args.self.at c.args.other.at same (not_over_0 c.args.self.at c.args.self.at_ok c.if-self-gt0.false) (not_under_0 c.args.other.at c.args.other.at_ok c.if-other-lt0.false) in
    let max = rw (coordinate c.args.self.z c.args.self.z_ok, coordinate c.args.other.z c.args.other.z_ok) at c.max.ensures.value in
    let fits : FitsSigned w32 c.max.result = search rules in
    rw (to_z-of_z w32 c.max.result fits) (level_greatest c.args.self c.args.other c.max.result level.0 level.1 max)

pub returns : goal.returns
returns c =
    let fits : FitsSigned w32 c.height_between.result = search rules in
    rw (to_z-of_z w32 c.height_between.result fits) (between_greatest c.args.self c.args.other c.height_between.result
    (not_over_0 c.args.self.at c.args.self.at_ok c.if-self-gt0.false) (not_under_0 c.args.other.at c.args.other.at_ok c.if-other-lt0.false)
    (apart_places c.args.self.at c.args.other.at c.if-self-other.false c.requires) c.height_between.ensures)
