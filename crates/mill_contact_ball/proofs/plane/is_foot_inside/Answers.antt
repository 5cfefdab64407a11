use Rattle.std.proofs.Common.{arith}
use lib.IntN.{pos}
use lib.Signed.{◌≤ℤ◌}
use Rattle.std.proofs.lemmas.Int.{ints}
use Rattle.mill_contact_ball.proofs.Stored.{dot_kept}
use Rattle.mill_contact_ball.proofs.plane.is_foot_inside.Goals as goal

pub returns-clause-yes : goal.returns-clause-yes
returns-clause-yes c = λ h.
    let first = rw (dot_kept _ c.dot.ensures.bound) at c.if-dot-lt0.false in
    let second = rw (dot_kept _ c.dot-2.ensures.bound) at c.if-dot-lt0-2.false in
    let third = rw (dot_kept _ c.dot-3.ensures.bound) at h in
    let u : (pos 0) ≤ℤ c.dot.result = omega (arith, ints) in
    let v : (pos 0) ≤ℤ c.dot-2.result = omega (arith, ints) in
    let w : (pos 0) ≤ℤ c.dot-3.result = omega (arith, ints) in
    record { first = rw c.dot.ensures.value at u; second = rw c.dot-2.ensures.value at v; third = rw c.dot-3.ensures.value at w }
