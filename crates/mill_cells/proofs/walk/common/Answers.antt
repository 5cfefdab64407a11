use Rattle.std.proofs.Common.{rules}
use Rattle.mill_cells.proofs.BoxLemmas.{shared, none_shared, common_inside, common_all, not_less, is_less}
use Rattle.mill_cells.proofs.walk.common.Goals as goal

pub returns-then-x1-x0-clause-none : goal.returns-then-x1-x0-clause-none
returns-then-x1-x0-clause-none c =
    let a = c.args.a in
    let b = c.args.bounds in
    let x = shared a.x0 a.x1 b.x0 b.x1 c.max-x0.result c.min-x1.result (search rules) (search rules) (search rules) (search rules) (search rules) (search rules) c.max-x0.ensures.value c.min-x1.ensures.value in
    λ m. none_shared _ _ _ _ _ _ m.x x (is_less _ _ c.if-x1-x0.true) m.in_second.right m.in_first.right m.in_second.left m.in_first.left

pub returns-then-y1-y0-clause-none : goal.returns-then-y1-y0-clause-none
returns-then-y1-y0-clause-none c =
    let a = c.args.a in
    let b = c.args.bounds in
    let y = shared a.y0 a.y1 b.y0 b.y1 c.max-y0.result c.min-y1.result (search rules) (search rules) (search rules) (search rules) (search rules) (search rules) c.max-y0.ensures.value c.min-y1.ensures.value in
    λ m. none_shared _ _ _ _ _ _ m.y y (is_less _ _ c.if-y1-y0.true) m.in_second.over m.in_first.over m.in_second.under m.in_first.under

pub returns-clause-inside : goal.returns-clause-inside
returns-clause-inside c =
    let a = c.args.a in
    let b = c.args.bounds in
    let x = shared a.x0 a.x1 b.x0 b.x1 c.max-x0.result c.min-x1.result (search rules) (search rules) (search rules) (search rules) (search rules) (search rules) c.max-x0.ensures.value c.min-x1.ensures.value in
    let y = shared a.y0 a.y1 b.y0 b.y1 c.max-y0.result c.min-y1.result (search rules) (search rules) (search rules) (search rules) (search rules) (search rules) c.max-y0.ensures.value c.min-y1.ensures.value in
    (common_inside a b _ _ _ _ x y (not_less _ _ c.if-x1-x0.false) (not_less _ _ c.if-y1-y0.false)).0

pub returns-clause-part : goal.returns-clause-part
returns-clause-part c =
    let a = c.args.a in
    let b = c.args.bounds in
    let x = shared a.x0 a.x1 b.x0 b.x1 c.max-x0.result c.min-x1.result (search rules) (search rules) (search rules) (search rules) (search rules) (search rules) c.max-x0.ensures.value c.min-x1.ensures.value in
    let y = shared a.y0 a.y1 b.y0 b.y1 c.max-y0.result c.min-y1.result (search rules) (search rules) (search rules) (search rules) (search rules) (search rules) c.max-y0.ensures.value c.min-y1.ensures.value in
    (common_inside a b _ _ _ _ x y (not_less _ _ c.if-x1-x0.false) (not_less _ _ c.if-y1-y0.false)).1

pub returns-clause-all : goal.returns-clause-all
returns-clause-all c =
    let a = c.args.a in
    let b = c.args.bounds in
    let x = shared a.x0 a.x1 b.x0 b.x1 c.max-x0.result c.min-x1.result (search rules) (search rules) (search rules) (search rules) (search rules) (search rules) c.max-x0.ensures.value c.min-x1.ensures.value in
    let y = shared a.y0 a.y1 b.y0 b.y1 c.max-y0.result c.min-y1.result (search rules) (search rules) (search rules) (search rules) (search rules) (search rules) c.max-y0.ensures.value c.min-y1.ensures.value in
    common_all a b _ _ _ _ x y
