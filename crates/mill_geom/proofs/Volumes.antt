-- The volumes and slopes of triangles, and volumes that are too great for a near line.
use Rattle.std.proofs.Common.{◌≡◌, ◌+◌, ◌*◌, ◌≤◌, [], ◌∷◌, arith}
use Rattle.std.proofs.Math.Nat.{mul-le-mul}
use lib.IntN.{ℤ, pos, ◌+ℤ◌, ◌*ℤ◌, nat_abs}
use lib.Signed.{◌<ℤ◌, ◌≤ℤ◌}
use Rattle.std.proofs.lemmas.Int.{ints, unsigned_abs-mul}
use Rattle.mill_base.specs.Numbers.{Within}
use Rattle.mill_base.proofs.Integers.{sq-ℤ}
use Rattle.mill_base.proofs.Ring.{Var, Add, Mul}
use Rattle.mill_base.proofs.Range.{bound_is}
use Rattle.mill_geom.specs.declared.offset.Offset.{Offset}
use Rattle.mill_geom.specs.Forms.{cross_of, volume_of}
use Rattle.mill_geom.specs.declared.plane.TheConstants.{FAR_VOLUME}
use Rattle.mill_geom.specs.Widths.{widest, most_slope}

-- the weighted sum is the volume
pub volume_as : (v i j l : ℤ) (a b c : Offset) → v ≡ (i *ℤ a.z +ℤ j *ℤ b.z) +ℤ l *ℤ c.z → i ≡ cross_of b c → j ≡ cross_of c a → l ≡ cross_of a b → v ≡ volume_of a b c
volume_as v i j l a b c e ei ej el = rw (ei, ej, el) at e

too_great : (a b : ℤ) → (pos 0) ≤ℤ a → FAR_VOLUME * FAR_VOLUME ≤ nat_abs a → nat_abs b ≤ widest * widest * (most_slope * most_slope + most_slope * most_slope) → a <ℤ b → ⊥
too_great a b h k l m = omega (arith, ints)

-- the square of a far volume is over all that a near line may have
pub far_volume : (v x y r : ℤ) → FAR_VOLUME ≤ nat_abs v → Within most_slope x → Within most_slope y → Within widest r → (v *ℤ v) <ℤ ((r *ℤ r) *ℤ (x *ℤ x +ℤ y *ℤ y)) → ⊥
far_volume v x y r far hx hy hr h =
    too_great (v *ℤ v) ((r *ℤ r) *ℤ (x *ℤ x +ℤ y *ℤ y)) (sq-ℤ v) (rw unsigned_abs-mul (mul-le-mul far far))
    (bound_is (x ∷ y ∷ r ∷ []) (most_slope ∷ most_slope ∷ widest ∷ []) (Mul (Mul (Var 2) (Var 2)) (Add (Mul (Var 0) (Var 0)) (Mul (Var 1) (Var 1)))) (hx.within, (hy.within, (hr.within, tt)))) h
