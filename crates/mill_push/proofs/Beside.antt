-- What touches on both sides of a known run tell of a triangle's stretch.
use Rattle.std.proofs.Common.{◌≡◌, ℕ, ◌+◌, ◌*◌, ◌<◌, ◌≤◌, [], ◌∷◌, subst, arith}
use Rattle.std.specs.Prelude.{◌^◌, nat_abs, Option, Some, None}
use Rattle.std.proofs.lemmas.Int.{ints, by_lt_z}
use Rattle.std.proofs.lemmas.List.Elements.{Contains-push}
use lib.IntN.{ℤ, pos, ◌+ℤ◌, ◌-ℤ◌}
use lib.Signed.{◌<ℤ◌, ◌≤ℤ◌}
use Rattle.mill_base.specs.Numbers.{Within}
use Rattle.mill_base.specs.declared.limits.TheConstants.{MAX_COORDINATE}
use Rattle.mill_base.specs.declared.points.Tri.{Tri}
use Rattle.mill_base.specs.declared.cutter.Cutter.{Cutter}
use Rattle.mill_geom.specs.declared.touch.Side.TheVariants.{Less, More, Never}
use Rattle.mill_geom.specs.Sides.{IsOnSide}
use Rattle.mill_push.specs.declared.fiber.Fiber.{Fiber}
use Rattle.mill_push.specs.declared.fiber.Run.{Run}
use Rattle.mill_push.specs.Fibers.{IsTouched}
use Rattle.mill_push.specs.Runs.{StandsIn}
use Rattle.mill_push.specs.Stretches.{IsStretchAnswer}
use Rattle.mill_push.specs.inner.Probes.{IsFirstEnd, IsLastEnd}
use Rattle.mill_push.specs.Touches.{position_count}
use Rattle.mill_push.specs.inner.Known.{IsInside, IsKnown, IsNewAnswer, IsNewStretch, IsRunInRange}
use Rattle.mill_push.proofs.Means.{touched_between}
use Rattle.mill_push.proofs.Stored.{within_between}

module _ (cutter : Cutter) (tri : Tri) (fiber : Fiber) (rest run : Run) (inside : IsInside rest run) where
  abbrev T : ℤ → Type 0
  T v = IsTouched cutter tri fiber v

  -- a position that is neither before the run nor after it stands in it
  place : (v : ℤ) → (v <ℤ run.first → StandsIn (run ∷ []) v) → (run.last <ℤ v → StandsIn (run ∷ []) v) → StandsIn (run ∷ []) v
  place v before after = by_lt_z v run.first before (λ from. by_lt_z run.last v after (λ to. record { run = run; member = Contains-push [] run; first = from; last = to }))

  -- nothing is touched from just after the run on, or up to there
  none_past : IsOnSide Less (λ t. T ((run.last +ℤ pos 1) +ℤ t)) → (v : ℤ) → run.last <ℤ v → ¬ T v
  none_past none v a t = none (v -ℤ (run.last +ℤ pos 1)) (omega (arith, ints)) (subst T (omega (arith, ints)) t)

  none_up_to : IsOnSide More (λ t. T ((run.last +ℤ pos 1) +ℤ t)) → (v : ℤ) → v ≤ℤ (run.last +ℤ pos 1) → ¬ T v
  none_up_to none v a t = none (v -ℤ (run.last +ℤ pos 1)) (omega (arith, ints)) (subst T (omega (arith, ints)) t)

  pub answer_under : IsOnSide Less (λ t. T ((run.last +ℤ pos 1) +ℤ t)) → (answer : Option Run) → IsStretchAnswer cutter tri fiber rest.first (run.first -ℤ pos 1) answer
      → IsNewAnswer cutter tri fiber rest.first rest.last (run ∷ []) answer
  answer_under none None clear = λ v a b t. place v (λ less. absurd (clear v a (omega (arith, ints)) t)) (λ more. absurd (none_past none v more t))
  answer_under none (Some r) found = record {
    span = record { after = found.after; some = found.some; within = let a = inside.some in let b = inside.after in let c = found.within in omega (arith, ints) };
    touched = found.touched;
    before = λ v a less t. absurd (found.before v a less t);
    beyond = λ v more b t. place v (λ less. absurd (found.beyond v more (omega (arith, ints)) t)) (λ past. absurd (none_past none v past t));
  }

  pub answer_over : IsOnSide More (λ t. T ((run.last +ℤ pos 1) +ℤ t)) → (answer : Option Run) → IsStretchAnswer cutter tri fiber ((run.last +ℤ pos 1) +ℤ pos 1) rest.last answer
      → IsNewAnswer cutter tri fiber rest.first rest.last (run ∷ []) answer
  answer_over none None clear = λ v a b t. by_lt_z (run.last +ℤ pos 1) v (λ more. absurd (clear v (omega (arith, ints)) b t)) (λ up_to. absurd (none_up_to none v up_to t))
  answer_over none (Some r) found = record {
    span = record { after = let a = inside.before in let b = inside.some in let c = found.after in omega (arith, ints); some = found.some; within = found.within };
    touched = found.touched;
    before = λ v a less t. by_lt_z (run.last +ℤ pos 1) v (λ more. absurd (found.before v (omega (arith, ints)) less t)) (λ up_to. absurd (none_up_to none v up_to t));
    beyond = λ v more b t. absurd (found.beyond v more b t);
  }

  pub nothing_over : IsOnSide More (λ t. T ((run.last +ℤ pos 1) +ℤ t)) → rest.last ≤ℤ (run.last +ℤ pos 1) → IsKnown cutter tri fiber (run ∷ []) rest.first rest.last
  nothing_over none h v a b t = absurd (none_up_to none v (omega (arith, ints)) t)

  pub nothing : IsOnSide Never (λ t. T ((run.last +ℤ pos 1) +ℤ t)) → IsKnown cutter tri fiber (run ∷ []) rest.first rest.last
  nothing none v a b t = absurd (none (v -ℤ (run.last +ℤ pos 1)) (subst T (omega (arith, ints)) t))

  -- it is touched just after the run, and not just before it
  pub only_past : (last : ℤ) → T (run.last +ℤ pos 1) → ¬ T (run.first -ℤ pos 1) → IsLastEnd cutter tri fiber (run.last +ℤ pos 1) rest.last last
      → IsNewStretch cutter tri fiber rest.first rest.last (run ∷ []) (record { first = run.last +ℤ pos 1; last = last })
  only_past last t apart end = record {
    span = record { after = let a = inside.before in let b = inside.some in omega (arith, ints); some = end.after; within = end.before };
    touched = end.held;
    before = λ v a less u. place v (λ under. absurd (apart (touched_between cutter tri fiber v (run.first -ℤ pos 1) (run.last +ℤ pos 1) (omega (arith, ints)) (over_run run.first run.last inside.some) u t))) (λ past. absurd (against run.last v past less));
    beyond = λ v more b u. absurd (end.clear v (omega (arith, ints)) b u);
  }
    where
      over_run : (f l : ℤ) → f ≤ℤ l → (f -ℤ pos 1) ≤ℤ (l +ℤ pos 1)
      over_run f l h = omega (arith, ints)

      against : (l v : ℤ) → l <ℤ v → v <ℤ (l +ℤ pos 1) → ⊥
      against l v h k = omega (arith, ints)

  -- it is touched on both sides of the run, and so in it
  pub on_both : (first last : ℤ) → IsFirstEnd cutter tri fiber rest.first (run.first -ℤ pos 1) first → IsLastEnd cutter tri fiber (run.last +ℤ pos 1) rest.last last
      → IsNewStretch cutter tri fiber rest.first rest.last (run ∷ []) (record { first = first; last = last })
  on_both first last left right = record {
    span = record { after = left.after; some = let b = left.before in let c = right.after in let e = inside.some in omega (arith, ints); within = right.before };
    touched = λ v u w. by_lt_z v run.first (λ under. left.held v u (omega (arith, ints))) (λ from. by_lt_z run.last v (λ past. right.held v (omega (arith, ints)) w) (λ to. between v from to));
    before = λ v u w t. absurd (left.clear v u (omega (arith, ints)) t);
    beyond = λ v u w t. absurd (right.clear v (omega (arith, ints)) w t);
  }
    where
      between : (v : ℤ) → run.first ≤ℤ v → v ≤ℤ run.last → T v
      between v from to = touched_between cutter tri fiber (run.first -ℤ pos 1) v (run.last +ℤ pos 1) (omega (arith, ints)) (omega (arith, ints)) (left.held (run.first -ℤ pos 1) left.before (omega (arith, ints))) (right.held (run.last +ℤ pos 1) (omega (arith, ints)) right.after)

-- the run's ends, and the position after it, are in range
module _ (rest run : Run) (ok : IsRunInRange rest) (inside : IsInside rest run) where
  pub first_within : Within MAX_COORDINATE run.first
  first_within = let a = inside.before in let b = inside.some in let c = inside.after in within_between rest.first run.first rest.last ok.first_ok ok.last_ok (omega (arith, ints)) (omega (arith, ints))

  pub last_within : Within MAX_COORDINATE run.last
  last_within = let a = inside.before in let b = inside.some in let c = inside.after in within_between rest.first run.last rest.last ok.first_ok ok.last_ok (omega (arith, ints)) (omega (arith, ints))

  pub next_within : Within MAX_COORDINATE (run.last +ℤ pos 1)
  next_within = let a = inside.before in let b = inside.some in let c = inside.after in within_between rest.first (run.last +ℤ pos 1) rest.last ok.first_ok ok.last_ok (omega (arith, ints)) (omega (arith, ints))

-- the searches on both sides of the run, and the touch between them
module _ (rest run : Run) (inside : IsInside rest run) where
  pub past_cost : (old found new spare : ℕ) → ((n : ℕ) → nat_abs (rest.last -ℤ (run.last +ℤ pos 1)) < 2 ^ n → found ≤ old + (n + spare)) → new ≡ found + 1
      → (n : ℕ) → position_count rest.first rest.last < 2 ^ n → new ≤ old + (1 + 2 * n + 2 * spare)
  past_cost old found new spare last step n p =
      let h = last n (few n p) in
      omega arith
    where
      few : (n : ℕ) → position_count rest.first rest.last < 2 ^ n → nat_abs (rest.last -ℤ (run.last +ℤ pos 1)) < 2 ^ n
      few n p = let a = inside.before in let b = inside.some in let c = inside.after in let less : nat_abs (rest.last -ℤ (run.last +ℤ pos 1)) ≤ nat_abs (rest.last -ℤ rest.first) = omega (arith, ints) in omega arith

  pub both_cost : (old found then new spare : ℕ) → ((n : ℕ) → nat_abs (rest.last -ℤ (run.last +ℤ pos 1)) < 2 ^ n → found ≤ old + (n + spare)) → then ≡ found + 1
      → ((n : ℕ) → nat_abs ((run.first -ℤ pos 1) -ℤ rest.first) < 2 ^ n → new ≤ then + (n + spare)) → (n : ℕ) → position_count rest.first rest.last < 2 ^ n → new ≤ old + (1 + 2 * n + 2 * spare)
  both_cost old found then new spare last step first n p =
      let a = inside.before in
      let b = inside.some in
      let c = inside.after in
      let past : nat_abs (rest.last -ℤ (run.last +ℤ pos 1)) ≤ nat_abs (rest.last -ℤ rest.first) = omega (arith, ints) in
      let under : nat_abs ((run.first -ℤ pos 1) -ℤ rest.first) ≤ nat_abs (rest.last -ℤ rest.first) = omega (arith, ints) in
      let h = last n (omega arith) in
      let k = first n (omega arith) in
      omega arith

-- a touch, and a search in some of the positions
pub touch_and_search : (low high a b : ℤ) (old then new more spare : ℕ) → low ≤ℤ a → a ≤ℤ b → b ≤ℤ high → more ≤ 1 → then ≡ old + 1 → ((n : ℕ) → position_count a b < 2 ^ n → new ≤ then + (more + 2 * n + 2 * spare))
    → (n : ℕ) → position_count low high < 2 ^ n → new ≤ old + (2 + 2 * n + 2 * spare)
touch_and_search low high a b old then new more spare h k l few step cost n p =
    let less : nat_abs (b -ℤ a) ≤ nat_abs (high -ℤ low) = omega (arith, ints) in
    let m = cost n (omega arith) in
    omega arith
