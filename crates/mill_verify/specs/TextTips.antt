-- Where a machine's tip may be that goes by the numbers of a program's text, of which the list has whole units.
use Rattle.std.specs.Prelude.{Bool, ℕ, ◌<◌, ℤ, pos, ◌-ℤ◌, ◌<ℤ◌, ◌≤ℤ◌}
use Rattle.mill_base.specs.Rounded.{IsRoundedMove}
use Rattle.mill_base.specs.declared.motion.Move.{Move}
use Rattle.mill_base.specs.declared.points.Pt3.{Pt3}
use Rattle.mill_margin.specs.Nearby.{IsTipNear, rounding_margin}
use Rattle.mill_job.specs.Habits.{made_by}
use Rattle.mill_job.specs.declared.habits.Rapids.{Rapids}
use Rattle.mill_verify.specs.Claims.{IsRealTip}

-- a machine goes by the text's own numbers, over d: where its tip is no farther than what rounding leaves of the slack from a tip of the text's way, it is a real tip of the list's move, both as
-- the job's machine makes them
abbrev pub TextTipIsReal : Type 0
TextTipIsReal = (rapids : Rapids) (rounds : Bool) (slack n : ℤ) (d : ℕ) (w m : Move) (r : Pt3) → rounding_margin rounds ≤ℤ slack → (pos 0) <ℤ n → 0 < d → IsRoundedMove rounds d w m
    → IsTipNear (slack -ℤ rounding_margin rounds) d (made_by rapids w) n r → IsRealTip slack (made_by rapids m) n r
