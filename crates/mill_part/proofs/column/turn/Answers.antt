use Rattle.std.proofs.Common.{◌^◌, [], ◌∷◌, refl, ◌∙◌}
use mir.Syntax.{w64}
use Rattle.mill_base.proofs.Machine.{Read, Diff, kept, stays}
use Rattle.mill_base.proofs.Ranges.{coordinate}
use Rattle.mill_part.proofs.Stored.{less2_is, less2_fits}
use Rattle.mill_part.proofs.column.turn.Goals as goal

pub overflow_sub-result : goal.overflow_sub-result
overflow_sub-result c = less2_fits (2 ^ 40) c.area.result c.area-2.result c.area.ensures.bound c.area-2.ensures.bound refl

pub returns-clause-value : goal.returns-clause-value
returns-clause-value c =
    let x = coordinate c.args.x c.requires.x_ok in
    let y = coordinate c.args.y c.requires.y_ok in
    let px = coordinate c.args.p.now.x c.requires.p_ok.x_ok in
    let py = coordinate c.args.p.now.y c.requires.p_ok.y_ok in
    let qx = coordinate c.args.q.now.x c.requires.q_ok.x_ok in
    let qy = coordinate c.args.q.now.y c.requires.q_ok.y_ok in
    let dx = rw (px, x) at c.offset.ensures.value in
    let ey = rw (qy, y) at c.offset-2.ensures.value in
    let dy = rw (py, y) at c.offset-3.ensures.value in
    let ex = rw (qx, x) at c.offset-4.ensures.value in
    let one = rw (kept w64 c.offset.result (2 ^ 20) c.offset.ensures.bound.within refl, kept w64 c.offset-2.result (2 ^ 20) c.offset-2.ensures.bound.within refl) at c.area.ensures.value in
    let two = rw (kept w64 c.offset-3.result (2 ^ 20) c.offset-3.ensures.bound.within refl, kept w64 c.offset-4.result (2 ^ 20) c.offset-4.ensures.bound.within refl) at c.area-2.ensures.value in
    less2_is (2 ^ 40) c.area.result c.area-2.result c.area.ensures.bound c.area-2.ensures.bound refl
    ∙ rw (one, two) (rw (dx, ey, dy, ex) refl)

pub returns-clause-bound : goal.returns-clause-bound
returns-clause-bound c = record {
  within = stays (c.area.result ∷ c.area-2.result ∷ []) (2 ^ 40 ∷ 2 ^ 40 ∷ []) (Diff w64 (Read w64 0) (Read w64 1)) (2 ^ 41)
      (c.area.ensures.bound.within, (c.area-2.ensures.bound.within, tt)) refl;
}
