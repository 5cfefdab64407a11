use Rattle.std.proofs.Common.{◌≡◌, sym, subst, w64}
use lib.IntN.{pos}
use lib.Signed.{◌≤ℤ◌}
use Rattle.mill_base.proofs.Machine.{stored}
use Rattle.mill_geom.specs.Gaps.{box_gap_of, AllApart}
use Rattle.mill_geom.proofs.Gaps.{squares_stored, box_apart, gap_up}
use Rattle.mill_geom.proofs.gap.box_gap.Goals as goal

computed : (c : goal.After-square_sum) → stored w64 c.square_sum.result ≡ box_gap_of c.args.a c.args.b c.args.c
computed c =
    squares_stored c.args.a c.args.b c.args.c c.gap.result c.gap-2.result c.square_sum.result c.gap.ensures.bound.within c.gap-2.ensures.bound.within c.square_sum.ensures.bound.within
    c.gap.ensures.value c.gap-2.ensures.value c.square_sum.ensures.value c.requires.a_ok c.requires.b_ok c.requires.c_ok

pub returns-clause-value : goal.returns-clause-value
returns-clause-value c = computed c

pub returns-clause-apart : goal.returns-clause-apart
returns-clause-apart c = subst (λ g. AllApart g c.args.a c.args.b c.args.c) (sym (computed c)) (box_apart c.args.a c.args.b c.args.c)

pub returns-clause-least : goal.returns-clause-least
returns-clause-least c = subst (λ g. (pos 0) ≤ℤ g) (sym (computed c)) (gap_up c.args.a c.args.b c.args.c)
