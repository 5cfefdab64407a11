use Rattle.std.proofs.Common.{◌≡◌, ℕ, ◌*◌, ◌<◌, ◌≤◌, ap, ◌∙◌, arith}
use Rattle.std.specs.Prelude.{◌^◌, ℤ, pos, nat_abs, ◌<ℤ◌, ◌≤ℤ◌}
use Rattle.std.proofs.lemmas.Int.{ints, to_z-of_z}
use Rattle.mill_base.specs.Numbers.{Within, floor_root_of}
use Rattle.mill_arc.proofs.Stored.{fits_wide, stored_root}
use Rattle.mill_arc.proofs.Roots.{root_within, square_least}
use Rattle.mill_arc.specs.Arcs.{radius_of}
use Rattle.mill_arc.specs.Vectors.{dot}
use Rattle.mill_arc.proofs.arc.radius.Goals as goal

below : (z : ℤ) → pos 0 ≤ℤ z → z <ℤ pos (2 ^ 62) → nat_abs z < 2 ^ 62
below z p q = omega (arith, ints)

within : (r : ℕ) → r < 2 ^ 31 → Within 2147483648 (pos r)
within r h = record { within = omega (arith, ints) }

pub returns-clause-value : goal.returns-clause-value
unfolding radius_of
returns-clause-value c =
    let f = fits_wide c.dot.result c.dot.ensures.bound in
    let e : c.root.result ≡ floor_root_of (nat_abs c.dot.result) = simp to_z-of_z at c.root.ensures.value in
    stored_root c.root.result c.root.ensures.bound ∙ ap pos (e ∙ ap (λ z. floor_root_of (nat_abs z)) c.dot.ensures.value)

pub returns-clause-some : goal.returns-clause-some
returns-clause-some c = rw (stored_root c.root.result c.root.ensures.bound) (omega (arith, ints))

pub returns-clause-bound : goal.returns-clause-bound
returns-clause-bound c =
    let f = fits_wide c.dot.result c.dot.ensures.bound in
    let h : c.root.result * c.root.result ≤ nat_abs c.dot.result = simp to_z-of_z at c.root.ensures.below in
    rw (stored_root c.root.result c.root.ensures.bound) (within c.root.result (root_within (nat_abs c.dot.result) c.root.result
    (rw c.dot.ensures.value (below (dot c.args.vector c.args.vector) (square_least c.args.vector) c.requires.short)) h))
