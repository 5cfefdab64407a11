-- A tip near the text's way is a real tip of the list's move.
use Rattle.std.specs.Prelude.{◌≡◌, ℤ, pos, ◌+ℤ◌, ◌-ℤ◌, ◌*ℤ◌, ◌<ℤ◌, ◌≤ℤ◌}
use Rattle.std.proofs.Common.{subst, arith}
use Rattle.std.proofs.lemmas.Int.{ints}
use Rattle.mill_base.specs.Motion.{bent}
use Rattle.mill_base.specs.declared.motion.Move.{Move}
use Rattle.mill_base.specs.declared.points.Pt3.{Pt3}
use Rattle.mill_margin.proofs.Nearby.{near_bent_is_near, near_text_is_near}
use Rattle.mill_margin.specs.Margins.{IsWithin}
use Rattle.mill_margin.specs.Nearby.{IsTipNear, rounding_margin}
use Rattle.mill_job.specs.declared.habits.Rapids.TheVariants.{Straight, Axes}
use Rattle.mill_verify.specs.Claims.{IsRealTip}
use Rattle.mill_verify.specs.TextTips.{TextTipIsReal}

rest : (slack taken : ℤ) → taken ≤ℤ slack → (pos 0) ≤ℤ (slack -ℤ taken)
rest slack taken least = omega (arith, ints)

whole : (slack taken : ℤ) → (slack -ℤ taken) +ℤ taken ≡ slack
whole slack taken = omega (arith, ints)

once : (e : ℤ) → e *ℤ pos 1 ≡ e
once e = omega (arith, ints)

-- a place near a tip of the list's move is a real tip
real : (slack taken n : ℤ) (m : Move) (r : Pt3) → (pos 0) <ℤ n → IsTipNear ((slack -ℤ taken) +ℤ taken) 1 m n r → IsRealTip slack m n r
real slack taken n m r some a = record {
  some = some;
  d = a.e;
  tip = a.tip;
  is = a.is;
  near = subst (λ (e : ℤ). IsWithin slack e a.tip n r) (once a.e) (subst (λ (s : ℤ). IsWithin s (a.e *ℤ pos 1) a.tip n r) (whole slack taken) a.near);
}

pub text_tip_is_real : TextTipIsReal
text_tip_is_real Straight rounds slack n d w m r least some counted rounded near =
    real slack (rounding_margin rounds) n m r some (near_text_is_near rounds (slack -ℤ rounding_margin rounds) n d w m r (rest slack (rounding_margin rounds) least) some counted rounded near)
text_tip_is_real Axes rounds slack n d w m r least some counted rounded near =
    real slack (rounding_margin rounds) n (bent m) r some (near_bent_is_near rounds (slack -ℤ rounding_margin rounds) n d w m r (rest slack (rounding_margin rounds) least) some counted rounded near)
