use Rattle.std.specs.Prelude.{◌≡◌}
use Rattle.std.proofs.Common.{sym, ap, ◌∙◌, arith, to_z, of_z, w32}
use Rattle.mill_base.proofs.Ranges.{coordinate, within_of_unit}
use Rattle.mill_control.specs.Holes.{top_of}
use Rattle.mill_control.proofs.Counting.{other-length, same-length}
use Rattle.mill_control.proofs.hole.count_hole.Goals as goal

pub returns-then-hole-top : goal.returns-then-hole-top
returns-then-hole-top c =
    let h = c.args.hole in
    let from = coordinate h.from.z (within_of_unit h.unit h.from.z c.requires.from.z_ok) in
    let top = coordinate (top_of h) (within_of_unit h.unit (top_of h) c.requires.top) in
    let same = sym from ∙ ap (λ n. to_z w32 n) c.if-hole-top.true ∙ ap (λ z. to_z w32 (of_z w32 z)) c.top-top.ensures ∙ top in
    let all = same-length h same in
    let bites = c.count_bite_moves-bites.ensures.value in
    omega arith

pub returns : goal.returns
returns c =
    let h = c.args.hole in
    let all = other-length h (λ same. c.if-hole-top.false (ap (λ z. of_z w32 z) (same ∙ sym c.top-top.ensures))) in
    let bites = c.count_bite_moves-bites.ensures.value in
    omega arith
