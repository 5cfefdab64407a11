use Rattle.std.proofs.Common.{FitsSigned, rules}
use mir.Syntax.{w32}
use Rattle.std.proofs.lemmas.Int.{to_z-of_z}
use Rattle.mill_base.proofs.Ranges.{coordinate}
use Rattle.mill_part.proofs.CoverLemmas.{covers_of_stands, stands_of_covers, covers_lower, is_at_most, isnt_at_most}
use Rattle.mill_part.proofs.near.Column.is_under.Goals as goal

pub returns-in-Some-clause-yes : goal.returns-in-Some-clause-yes
returns-in-Some-clause-yes c = λ t.
    let x = coordinate c.args.self.x c.args.self.x_ok in
    let y = coordinate c.args.self.y c.args.self.y_ok in
    let fits : FitsSigned w32 c.in-Some.over = search rules in
    let greatest = rw (x, y, c.in-Some.is) at c.height_over.ensures in
    let under = is_at_most c.args.height c.in-Some.over (rw (to_z-of_z w32 c.args.height c.ranges.height, to_z-of_z w32 c.in-Some.over fits) at t) in
    covers_lower c.args.tri.now c.args.self.band c.args.self.x c.args.self.y c.in-Some.over c.args.height under
    (covers_of_stands c.args.tri.now c.args.self.band c.args.self.x c.args.self.y c.in-Some.over c.requires.none greatest.0)

pub returns-in-Some-clause-no : goal.returns-in-Some-clause-no
returns-in-Some-clause-no c = λ f over.
    let x = coordinate c.args.self.x c.args.self.x_ok in
    let y = coordinate c.args.self.y c.args.self.y_ok in
    let fits : FitsSigned w32 c.in-Some.over = search rules in
    let greatest = rw (x, y, c.in-Some.is) at c.height_over.ensures in
    isnt_at_most c.args.height c.in-Some.over (rw (to_z-of_z w32 c.args.height c.ranges.height, to_z-of_z w32 c.in-Some.over fits) at f)
    (greatest.1 c.args.height (stands_of_covers c.args.tri.now c.args.self.band c.args.self.x c.args.self.y c.args.height c.requires.none over))

pub returns-in-None-clause-no : goal.returns-in-None-clause-no
returns-in-None-clause-no c = λ f over.
    let x = coordinate c.args.self.x c.args.self.x_ok in
    let y = coordinate c.args.self.y c.args.self.y_ok in
    let none = rw (x, y, c.in-None.is) at c.height_over.ensures in
    none c.args.height (stands_of_covers c.args.tri.now c.args.self.band c.args.self.x c.args.self.y c.args.height c.requires.none over)
