-- The moves that a job's machine makes of those that were read lie where these do, follow on each other as these do, and are as many.
use Rattle.std.specs.Prelude.{◌≡◌, ◌≤◌, ◌<◌, ◌+◌, ℕ, zero, suc, List, [], ◌∷◌, length, map}
use Rattle.std.proofs.Common.{refl, sym, ap, ◌∙◌, subst, arith, get_or, set}
use Rattle.std.proofs.lemmas.List.{length-map}
use Rattle.std.proofs.lemmas.List.Elements.{Contains-append_right}
use Rattle.mill_base.specs.Motion.{Follow, bent}
use Rattle.mill_base.specs.Ranges.{MoveInUnitRange, MovesInUnitRange}
use Rattle.mill_base.specs.declared.limits.TheConstants.{MAX_MOVES}
use Rattle.mill_base.specs.declared.motion.Move.{Move}
use Rattle.mill_base.specs.declared.points.Pt3.{Pt3}
use Rattle.mill_base.specs.declared.unit.Unit.{Unit as LengthUnit}
use Rattle.mill_said.specs.declared.rules.Rules.{Rules}
use Rattle.mill_job.specs.Habits.{run_by}
use Rattle.mill_job.specs.declared.habits.Rapids.{Rapids}
use Rattle.mill_job.specs.declared.habits.Rapids.TheVariants.{Straight, Axes}
use Rattle.mill_ngc.specs.Pieces.{AreSound, FollowOn}

bent_in_range : (unit : LengthUnit) (moves : List Move) → MovesInUnitRange unit moves → MovesInUnitRange unit (map bent moves)
bent_in_range unit [] ok n (i, inside, is) = absurd (omega arith)
bent_in_range unit (m ∷ moves) ok n (zero, inside, is) =
    let here : MoveInUnitRange unit m = ok m (0, omega arith, refl) in
    subst (MoveInUnitRange unit) is (record { from_ok = here.from_ok; to_ok = here.to_ok })
bent_in_range unit (m ∷ moves) ok n (suc i, inside, is) =
    bent_in_range unit moves (λ k member. ok k (Contains-append_right (m ∷ []) moves k member)) n (i, omega arith, is)

bent_follow : (at : Pt3) (moves : List Move) → Follow at moves → Follow at (map bent moves)
bent_follow at [] follow = tt
bent_follow at (m ∷ moves) follow = (follow.0, bent_follow m.to moves follow.1)

pub run_follow : (rapids : Rapids) (start : Pt3) (asked : Rules) (moves : List Move) → FollowOn start asked moves → FollowOn start asked (run_by rapids moves)
run_follow Straight start asked moves on = on
run_follow Axes start asked moves on = record { from = on.from; over = on.over; at_start = on.at_start; follow = bent_follow on.from moves on.follow }

pub run_length : (rapids : Rapids) (moves : List Move) → length (run_by rapids moves) ≡ length moves
run_length Straight moves = refl
run_length Axes moves = length-map moves bent

pub run_sound : (rapids : Rapids) (start : Pt3) (unit : LengthUnit) (asked : Rules) (moves : List Move) → AreSound start unit asked moves → AreSound start unit asked (run_by rapids moves)
run_sound Straight start unit asked moves sound = sound
run_sound Axes start unit asked moves sound = record {
  in_range = bent_in_range unit moves sound.in_range;
  follow = run_follow Axes start asked moves sound.follow;
  few = subst (λ (n : ℕ). n ≤ MAX_MOVES) (sym (run_length Axes moves)) sound.few;
}

-- ---- one after the other

-- these moves with as many of the first as this bent
abbrev pub bent_to : ℕ → List Move → List Move
bent_to zero moves = moves
bent_to (suc n) [] = []
bent_to (suc n) (m ∷ moves) = bent m ∷ bent_to n moves

bent_next : (i : ℕ) (moves : List Move) (d : Move) → i < length moves → set (bent_to i moves) i (bent (get_or (bent_to i moves) i d)) ≡ bent_to (suc i) moves
bent_next zero [] d inside = absurd (omega (inside, arith))
bent_next zero (m ∷ moves) d inside = refl
bent_next (suc i) [] d inside = absurd (omega (inside, arith))
bent_next (suc i) (m ∷ moves) d inside = ap (λ (ms : List Move). bent m ∷ ms) (bent_next i moves d (omega (inside, arith)))

pub bent_more : (old now : List Move) (i : ℕ) (d m : Move) → now ≡ bent_to i old → i < length old → m ≡ bent (get_or now i d) → set now i m ≡ bent_to (i + 1) old
bent_more old now i d m is inside made =
    let next : i + 1 ≡ suc i = omega arith in
    ap (set now i) made ∙ ap (λ (ms : List Move). set ms i (bent (get_or ms i d))) is ∙ bent_next i old d inside ∙ ap (λ (n : ℕ). bent_to n old) (sym next)

pub bent_all : (n : ℕ) (moves : List Move) → length moves ≤ n → bent_to n moves ≡ map bent moves
bent_all zero [] all = refl
bent_all zero (m ∷ moves) all = absurd (omega (all, arith))
bent_all (suc n) [] all = refl
bent_all (suc n) (m ∷ moves) all = ap (λ (ms : List Move). bent m ∷ ms) (bent_all n moves (omega (all, arith)))
