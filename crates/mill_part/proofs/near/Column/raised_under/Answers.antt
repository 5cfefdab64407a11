use Rattle.std.proofs.Common.{FitsSigned, rules}
use mir.Syntax.{w32}
use Rattle.std.proofs.lemmas.Int.{to_z-of_z}
use Rattle.mill_base.proofs.Ranges.{coordinate}
use Rattle.mill_part.proofs.CoverLemmas.{covers_of_stands, stands_of_covers, raised_reached, raised_highest}
use Rattle.mill_part.proofs.near.Column.raised_under.Goals as goal

pub returns-in-Some-clause-reached : goal.returns-in-Some-clause-reached
returns-in-Some-clause-reached c =
    let x = coordinate c.args.self.x c.args.self.x_ok in
    let y = coordinate c.args.self.y c.args.self.y_ok in
    let over : FitsSigned w32 c.in-Some.over = search rules in
    let fits : FitsSigned w32 c.max.result = search rules in
    let greatest = rw (x, y, c.in-Some.is) at c.height_over.ensures in
    let max = rw (to_z-of_z w32 c.args.height c.ranges.height, to_z-of_z w32 c.in-Some.over over) at c.max.ensures.value in
    rw (to_z-of_z w32 c.max.result fits) (raised_reached c.args.tri.now c.args.self.band c.args.self.x c.args.self.y c.args.height c.in-Some.over c.max.result max
    (covers_of_stands c.args.tri.now c.args.self.band c.args.self.x c.args.self.y c.in-Some.over c.requires.none greatest.0))

pub returns-in-Some-clause-highest : goal.returns-in-Some-clause-highest
returns-in-Some-clause-highest c =
    let x = coordinate c.args.self.x c.args.self.x_ok in
    let y = coordinate c.args.self.y c.args.self.y_ok in
    let over : FitsSigned w32 c.in-Some.over = search rules in
    let fits : FitsSigned w32 c.max.result = search rules in
    let greatest = rw (x, y, c.in-Some.is) at c.height_over.ensures in
    let max = rw (to_z-of_z w32 c.args.height c.ranges.height, to_z-of_z w32 c.in-Some.over over) at c.max.ensures.value in
    rw (to_z-of_z w32 c.max.result fits)
    (raised_highest c.args.tri.now c.args.self.band c.args.self.x c.args.self.y c.args.height c.in-Some.over c.max.result max greatest.1 c.requires.none)

pub returns-in-None-clause-highest : goal.returns-in-None-clause-highest
returns-in-None-clause-highest c =
    let x = coordinate c.args.self.x c.args.self.x_ok in
    let y = coordinate c.args.self.y c.args.self.y_ok in
    let none = rw (x, y, c.in-None.is) at c.height_over.ensures in
    λ h over. absurd (none h (stands_of_covers c.args.tri.now c.args.self.band c.args.self.x c.args.self.y h c.requires.none over))
