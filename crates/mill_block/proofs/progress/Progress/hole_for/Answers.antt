use Rattle.std.specs.Prelude.{◌≡◌, ◌≤ℤ◌, pos, Ok, Err}
use Rattle.std.proofs.Common.{ap, rules, sym, ◌∙◌}
use Rattle.mill_base.proofs.Ranges.{coordinate, within_of_unit}
use Rattle.mill_control.specs.Holes.{may_drill}
use Rattle.mill_arc.proofs.Decided.{and_right}
use Rattle.mill_block.specs.MachineSettings.{per_of}
use Rattle.mill_block.specs.MachineLines.{coordinate_for, hole_of, is_level, rounded_or}
use Rattle.mill_block.proofs.HoleLemmas.{hole_is, hole_off, is_hole}
use Rattle.mill_block.proofs.progress.Progress.hole_for.Goals as goal

pub returns-clause-value : goal.returns-clause-value
returns-clause-value c =
    let p = c.args.self.now in
    let s = c.args.said.now in
    let v = c.args.series in
    let x = coordinate p.here.x (within_of_unit p.unit p.here.x c.requires.here.x_ok) in
    let y = coordinate p.here.y (within_of_unit p.unit p.here.y c.requires.here.y_ok) in
    let z = coordinate p.here.z (within_of_unit p.unit p.here.z c.requires.here.z_ok) in
    let at-x : coordinate_for c.args.control p p.here.x s.x ≡ Ok c.in_ok-x.x = rw x at (sym c.in_ok-x.ensures.value) in
    let at-y : coordinate_for c.args.control p p.here.y s.y ≡ Ok c.in_ok-y.y = rw y at (sym c.in_ok-y.ensures.value) in
    let low : coordinate_for c.args.control p p.here.z v.z ≡ Ok c.in_ok-_bottom._bottom = rw z at (sym c.in_ok-_bottom.ensures.value) in
    let high : coordinate_for c.args.control p p.here.z v.r ≡ Ok c.in_ok-top.top = rw z at (sym c.in_ok-top.ensures.value) in
    let kept-x = coordinate c.in_ok-x.x (within_of_unit p.unit c.in_ok-x.x c.in_ok-x.ensures.within) in
    let kept-y = coordinate c.in_ok-y.y (within_of_unit p.unit c.in_ok-y.y c.in_ok-y.ensures.within) in
    let kept-top = coordinate c.in_ok-top.top (within_of_unit p.unit c.in_ok-top.top c.in_ok-top.ensures.within) in
    let hole : c.hole_at-hole.result ≡ hole_of c.args.control p v c.in_ok-x.x c.in_ok-y.y c.in_ok-top.top = rw (kept-x, kept-y, kept-top) at c.hole_at-hole.ensures.value in
    ap Ok hole ∙ sym (hole_is c.args.control p s v _ _ _ _ at-x at-y low high (sym c.in_ok-check_peck.ensures))

pub returns-clause-hole : goal.returns-clause-hole
returns-clause-hole c =
    let p = c.args.self.now in
    let v = c.args.series in
    let z = coordinate p.here.z (within_of_unit p.unit p.here.z c.requires.here.z_ok) in
    let low : coordinate_for c.args.control p p.here.z v.z ≡ Ok c.in_ok-_bottom._bottom = rw z at (sym c.in_ok-_bottom.ensures.value) in
    let high : coordinate_for c.args.control p p.here.z v.r ≡ Ok c.in_ok-top.top = rw z at (sym c.in_ok-top.ensures.value) in
    let most : pos c.args.control.peck_clearance ≤ℤ pos 65535 = rw c.hole_at-hole.ensures.value at c.hole_at-hole.ensures.most in
    let kept-x = coordinate c.in_ok-x.x (within_of_unit p.unit c.in_ok-x.x c.in_ok-x.ensures.within) in
    let kept-y = coordinate c.in_ok-y.y (within_of_unit p.unit c.in_ok-y.y c.in_ok-y.ensures.within) in
    let kept-top = coordinate c.in_ok-top.top (within_of_unit p.unit c.in_ok-top.top c.in_ok-top.ensures.within) in
    let hole : c.hole_at-hole.result ≡ hole_of c.args.control p v c.in_ok-x.x c.in_ok-y.y c.in_ok-top.top = rw (kept-x, kept-y, kept-top) at c.hole_at-hole.ensures.value in
    rw hole
    (is_hole c.args.control p v _ _ c.in_ok-x.x c.in_ok-y.y c.in_ok-_bottom._bottom c.in_ok-top.top c.requires.series c.requires.here most (and_right (is_level p.machine.plane) (may_drill v p.machine.returns (per_of p) p.here (rounded_or p p.here.x c.args.said.now.x) (rounded_or p p.here.y c.args.said.now.y)) c.requires.may)
    c.in_ok-x.ensures.within c.in_ok-y.ensures.within low c.in_ok-_bottom.ensures.within high c.in_ok-top.ensures.within)

pub returns-in_err-check_peck-clause-value : goal.returns-in_err-check_peck-clause-value
returns-in_err-check_peck-clause-value c =
    let p = c.args.self.now in
    let s = c.args.said.now in
    let v = c.args.series in
    let x = coordinate p.here.x (within_of_unit p.unit p.here.x c.requires.here.x_ok) in
    let y = coordinate p.here.y (within_of_unit p.unit p.here.y c.requires.here.y_ok) in
    let z = coordinate p.here.z (within_of_unit p.unit p.here.z c.requires.here.z_ok) in
    let at-x : coordinate_for c.args.control p p.here.x s.x ≡ Ok c.in_ok-x.x = rw x at (sym c.in_ok-x.ensures.value) in
    let at-y : coordinate_for c.args.control p p.here.y s.y ≡ Ok c.in_ok-y.y = rw y at (sym c.in_ok-y.ensures.value) in
    let low : coordinate_for c.args.control p p.here.z v.z ≡ Ok c.in_ok-_bottom._bottom = rw z at (sym c.in_ok-_bottom.ensures.value) in
    let high : coordinate_for c.args.control p p.here.z v.r ≡ Ok c.in_ok-top.top = rw z at (sym c.in_ok-top.ensures.value) in
    let told : c.from_residual-in_err-check_peck.result ≡ Err c.in_err-check_peck.field-0.0 = search rules in
    told ∙ sym (hole_off c.args.control p s v c.in_ok-x.x c.in_ok-y.y c.in_ok-_bottom._bottom c.in_ok-top.top c.in_err-check_peck.field-0.0 at-x at-y low high (sym c.check_peck.ensures ∙ c.in_err-check_peck.was))
