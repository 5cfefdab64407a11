use Rattle.std.proofs.Common.{FitsSigned, rules, inr, sym, subst}
use lib.IntN.{pos, ◌+ℤ◌}
use mir.Syntax.{w32}
use Rattle.std.proofs.lemmas.Int.{to_z-of_z}
use Rattle.mill_base.specs.Numbers.{Within}
use Rattle.mill_base.specs.declared.limits.TheConstants.{MAX_COORDINATE}
use Rattle.mill_base.proofs.Ranges.{coordinate}
use Rattle.mill_part.proofs.CoverLemmas.{highest_ok, next_ok, none_over_next, under_top}
use Rattle.mill_part.proofs.near.Column.raised_near.Goals as goal

pub returns-then-not-is_near-clause-highest : goal.returns-then-not-is_near-clause-highest
returns-then-not-is_near-clause-highest c =
    let height = coordinate c.args.height c.requires.height_ok in
    let next = coordinate (c.args.height +ℤ pos 1) (next_ok c.args.tri.now c.args.height c.requires.tri_ok c.requires.height_ok c.requires.over) in
    rw height (none_over_next c.args.tri.now c.args.self.band c.args.self.x c.args.self.y c.args.height (rw (height, next) at (c.is_near.ensures.no c.if-not-is_near.true)))

pub is_near-requires-2-clause-height_ok : goal.is_near-requires-2-clause-height_ok
is_near-requires-2-clause-height_ok c =
    let top = subst (Within MAX_COORDINATE) (sym c.highest-top.ensures) (highest_ok c.args.tri.now c.requires.tri_ok) in
    rw (coordinate c.highest-top.result top) top

pub returns-then-is_near-clause-reached : goal.returns-then-is_near-clause-reached
returns-then-is_near-clause-reached c = inr (c.is_near-2.ensures.yes c.if-is_near.true)

pub returns-then-is_near-clause-highest : goal.returns-then-is_near-clause-highest
returns-then-is_near-clause-highest c =
    let top = subst (Within MAX_COORDINATE) (sym c.highest-top.ensures) (highest_ok c.args.tri.now c.requires.tri_ok) in
    rw (coordinate c.highest-top.result top) (under_top c.args.tri.now c.args.self.band c.args.self.x c.args.self.y c.highest-top.result c.highest-top.ensures)

pub highest_near-requires-clause-covered_ok : goal.highest_near-requires-clause-covered_ok
highest_near-requires-clause-covered_ok c =
    let height = coordinate c.args.height c.requires.height_ok in
    let ok = next_ok c.args.tri.now c.args.height c.requires.tri_ok c.requires.height_ok c.requires.over in
    rw (height, coordinate (c.args.height +ℤ pos 1) ok) ok

pub highest_near-requires-clause-top_ok : goal.highest_near-requires-clause-top_ok
highest_near-requires-clause-top_ok c =
    let top = subst (Within MAX_COORDINATE) (sym c.highest-top.ensures) (highest_ok c.args.tri.now c.requires.tri_ok) in
    rw (coordinate c.highest-top.result top) top

pub highest_near-requires-clause-there : goal.highest_near-requires-clause-there
highest_near-requires-clause-there c = c.is_near.ensures.yes c.if-not-is_near.false

pub highest_near-requires-clause-under : goal.highest_near-requires-clause-under
highest_near-requires-clause-under c =
    let top = subst (Within MAX_COORDINATE) (sym c.highest-top.ensures) (highest_ok c.args.tri.now c.requires.tri_ok) in
    rw (coordinate c.highest-top.result top) (under_top c.args.tri.now c.args.self.band c.args.self.x c.args.self.y c.highest-top.result c.highest-top.ensures)

pub returns-clause-reached : goal.returns-clause-reached
returns-clause-reached c =
    let fits : FitsSigned w32 c.highest_near.result = search rules in
    rw (to_z-of_z w32 c.highest_near.result fits) (inr c.highest_near.ensures.reached)

pub returns-clause-highest : goal.returns-clause-highest
returns-clause-highest c =
    let fits : FitsSigned w32 c.highest_near.result = search rules in
    rw (to_z-of_z w32 c.highest_near.result fits) c.highest_near.ensures.highest
