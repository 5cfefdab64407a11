-- What is promised of a machine that goes by a program's own numbers.
use Rattle.std.proofs.Common.{◌≡◌, Bool, true, false, refl, sym, subst, arith}
use Rattle.std.specs.Prelude.{ℕ, ◌^◌, ◌≤◌, ◌<◌, ℤ, pos, ◌-ℤ◌, ◌<ℤ◌, ◌≤ℤ◌, int_le, if◌then◌else◌, List, [], ◌∷◌, All, Option, Some, None, IfSome}
use Rattle.std.proofs.lemmas.Int.{ints}
use Rattle.std.proofs.Math.Nat.{one-le-pow}
use Rattle.std.specs.List.{AllZip}
use Rattle.mill_base.specs.Ranges.{IsInUnitRange}
use Rattle.mill_base.specs.Rounded.{AreRounded, IsRoundedMove}
use Rattle.mill_base.specs.declared.motion.Move.{Move}
use Rattle.mill_base.specs.declared.points.Pt3.{Pt3}
use Rattle.mill_margin.specs.Nearby.{IsTipNear, rounding_margin}
use Rattle.mill_ngc.proofs.RealProgram.{program_is_foreseen}
use Rattle.mill_ngc.proofs.TextProgram.{program_is_rounded}
use Rattle.mill_said.specs.declared.rules.Words.TheVariants as dialect
use Rattle.mill_job.specs.Columns.{home}
use Rattle.mill_job.specs.Habits.{made_by, run_by}
use Rattle.mill_job.specs.Jobs.{IsJob}
use Rattle.mill_job.specs.declared.fields.JobFields.{JobFields}
use Rattle.mill_job.specs.declared.habits.Rapids.{Rapids}
use Rattle.mill_job.specs.declared.habits.Rapids.TheVariants.{Straight, Axes}
use Rattle.mill_job.specs.declared.habits.Words.TheVariants.{Machine}
use Rattle.mill_load.specs.Programs.{IsProgramText, control_of, machine_slack, rounds_text, rules_of}
use Rattle.mill_verify.specs.Claims.{IsRealTip}
use Rattle.mill_verify.proofs.TextTips.{text_tip_is_real}
use Rattle.mill_answer.specs.ByText.{GoesByText, MayGoByText, TipsAreReal, text_ways}

-- ---- what the text leaves of the slack

left_by : (slack : ℤ) → machine_slack slack ≡ slack -ℤ rounding_margin (rounds_text slack)
left_by slack = by (rounds_text slack)
  where
    by : (rounds : Bool) → (if rounds then slack -ℤ pos 3 else slack) ≡ slack -ℤ rounding_margin rounds
    by true = refl
    by false = omega (arith, ints)

enough : (slack : ℤ) → (pos 0) ≤ℤ slack → rounding_margin (rounds_text slack) ≤ℤ slack
enough slack least = by (int_le (pos 3) slack) refl
  where
    by : (rounds : Bool) → int_le (pos 3) slack ≡ rounds → rounding_margin rounds ≤ℤ slack
    by true e = omega (e, arith, ints)
    by false e = least

-- ---- each tip

module _ (job : JobFields) (least : (pos 0) ≤ℤ job.slack) where
  some_parts : 0 < 10 ^ 18
  some_parts = omega (arith, one-le-pow 18 10 (omega arith))

  real_tips : (ws ms : List Move) → AreRounded (rounds_text job.slack) (10 ^ 18) ws ms → AllZip (TipsAreReal job) (run_by job.rapids ws) (run_by job.rapids ms)
  real_tips = by job.rapids
    where
      tips : (rapids : Rapids) (w m : Move) → IsRoundedMove (rounds_text job.slack) (10 ^ 18) w m → TipsAreReal job (made_by rapids w) (made_by rapids m)
      tips rapids w m near n r some tip =
          text_tip_is_real rapids (rounds_text job.slack) job.slack n (10 ^ 18) w m r (enough job.slack least) some some_parts near
          (subst (λ (s : ℤ). IsTipNear s (10 ^ 18) (made_by rapids w) n r) (left_by job.slack) tip)

      by : (rapids : Rapids) (ws ms : List Move) → AreRounded (rounds_text job.slack) (10 ^ 18) ws ms → AllZip (TipsAreReal job) (run_by rapids ws) (run_by rapids ms)
      by Straight [] [] near = tt
      by Axes [] [] near = tt
      by Straight (w ∷ ws) (m ∷ ms) near = (tips Straight w m near.0, by Straight ws ms near.1)
      by Axes (w ∷ ws) (m ∷ ms) near = (tips Axes w m near.0, by Axes ws ms near.1)
      by rapids [] (m ∷ ms) near = absurd near
      by rapids (w ∷ ws) [] near = absurd near

-- ---- a program

home_ranged : (job : JobFields) → IsJob job → IsInUnitRange job.unit (home job)
home_ranged job ok = record { x_ok = ok.home_ok.x_ok; y_ok = ok.home_ok.y_ok; z_ok = ok.clear_ok }

words_are : (job : JobFields) → job.words ≡ Machine → (rules_of job).words ≡ dialect.Machine (control_of job)
unfolding rules_of
words_are job machine = rw machine refl

pub goes_by_text : (job : JobFields) (text : List ℕ) (moves : List Move) → IsJob job → IsProgramText job text moves → job.words ≡ Machine → GoesByText job text moves
goes_by_text job text moves ok is machine = record {
  tips = subst (λ (ms : List Move). AllZip (TipsAreReal job) (run_by job.rapids (text_ways job text)) ms) (sym is.made)
      (real_tips job ok.slack_ok.low (text_ways job text) is.read (program_is_rounded (control_of job) (home job) job.unit (rules_of job) text is.read (words_are job machine) (home_ranged job ok) is.reads));
  beside = λ made may. program_is_foreseen (control_of job) (home job) job.unit (rules_of job) text made (words_are job machine) (home_ranged job ok) may;
}

-- so it is of a program that is told
pub may_go_by_text : (job : JobFields) (told : Option (List ℕ)) (moves : List Move) → IsJob job → IfSome told (λ text. IsProgramText job text moves) → MayGoByText job told moves
may_go_by_text job None moves ok is = tt
may_go_by_text job (Some text) moves ok is = goes_by_text job text moves ok is
