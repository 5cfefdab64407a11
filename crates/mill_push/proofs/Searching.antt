-- The ends of a triangle's stretch, found by halves.
use Rattle.std.proofs.Common.{◌≡◌, ℕ, ◌+◌, ◌*◌, ◌<◌, ◌≤◌, subst, arith}
use Rattle.std.specs.Prelude.{◌^◌, nat_abs, Option, Some, None}
use Rattle.std.proofs.lemmas.Int.{ints, by_lt_z}
use lib.IntN.{ℤ, pos, ◌+ℤ◌, ◌-ℤ◌, ◌*ℤ◌}
use lib.Signed.{◌<ℤ◌, ◌≤ℤ◌}
use Rattle.mill_base.specs.declared.points.Tri.{Tri}
use Rattle.mill_base.specs.declared.cutter.Cutter.{Cutter}
use Rattle.mill_geom.specs.declared.touch.Side.TheVariants.{Less, More, Never}
use Rattle.mill_geom.specs.Sides.{IsOnSide}
use Rattle.mill_push.specs.declared.fiber.Fiber.{Fiber}
use Rattle.mill_push.specs.Fibers.{IsTouched}
use Rattle.mill_push.specs.declared.fiber.Run.{Run}
use Rattle.mill_push.specs.Stretches.{IsClear, IsStretchAnswer, IsTouchedStretch}
use Rattle.mill_push.specs.inner.Probes.{IsFirstEnd, IsLastEnd}
use Rattle.mill_push.proofs.Halving.{IsPaid, paid_first, paid_half, paid_spare, paid_ends}

module _ (cutter : Cutter) (tri : Tri) (fiber : Fiber) where
  abbrev T : ℤ → Type 0
  T v = IsTouched cutter tri fiber v

  -- only the positions from `low` to `high` are left, and their count has been paid for
  pub record WindowSoFar (from to low high : ℤ) (old now : ℕ) : Type 0 where
    pub after : from ≤ℤ low
    pub order : low ≤ℤ (high +ℤ pos 1)
    pub within : high ≤ℤ to
    pub before : IsClear cutter tri fiber from (low -ℤ pos 1)
    pub beyond : IsClear cutter tri fiber (high +ℤ pos 1) to
    pub cost : (n : ℕ) → (nat_abs (to -ℤ from) + 1) < 2 ^ n → IsPaid 2 (nat_abs ((high +ℤ pos 1) -ℤ low)) old now n

  -- before the first touch, all positions are left
  pub window_starts : (from to : ℤ) {old : ℕ} → from ≤ℤ to → WindowSoFar from to from to old old
  window_starts from to {old} order = record {
    after = omega (arith, ints);
    order = omega (arith, ints);
    within = omega (arith, ints);
    before = λ v a b. absurd (omega (arith, ints));
    beyond = λ v a b. absurd (omega (arith, ints));
    cost = λ n p. paid_first 2 (nat_abs ((to +ℤ pos 1) -ℤ from)) old n (let same : nat_abs ((to +ℤ pos 1) -ℤ from) ≤ nat_abs (to -ℤ from) + 1 = omega (arith, ints) in omega arith);
  }

  -- some position is left
  some_left : (low high : ℤ) → low ≤ℤ high → 0 < nat_abs ((high +ℤ pos 1) -ℤ low)
  some_left low high l = omega (arith, ints)

  -- there is none at the middle nor after it
  pub window_less : {from to low high : ℤ} (middle : ℤ) {old now later : ℕ} → low ≤ℤ middle → middle ≤ℤ high → (pos 2 *ℤ (middle -ℤ low)) ≤ℤ (high -ℤ low)
      → later ≡ now + 1 → IsOnSide Less (λ t. T (middle +ℤ t)) → WindowSoFar from to low high old now → WindowSoFar from to low (middle -ℤ pos 1) old later
  window_less {low = low} {high} middle a b half step none h =
      let less : 2 * nat_abs (((middle -ℤ pos 1) +ℤ pos 1) -ℤ low) ≤ nat_abs ((high +ℤ pos 1) -ℤ low) = omega (arith, ints) in
      record {
        after = h.after;
        order = omega (arith, ints);
        within = omega (arith, ints);
        before = h.before;
        beyond = λ v c d t. none (v -ℤ middle) (omega (arith, ints)) (subst T (omega (arith, ints)) t);
        cost = λ n p. paid_half (omega arith) (some_left low high (omega (arith, ints))) less step (h.cost n p);
      }

  -- nor before it
  pub window_more : {from to low high : ℤ} (middle : ℤ) {old now later : ℕ} → low ≤ℤ middle → middle ≤ℤ high → (pos 2 *ℤ (high -ℤ middle)) ≤ℤ ((high -ℤ low) +ℤ pos 1)
      → later ≡ now + 1 → IsOnSide More (λ t. T (middle +ℤ t)) → WindowSoFar from to low high old now → WindowSoFar from to (middle +ℤ pos 1) high old later
  window_more {low = low} {high} middle a b half step none h =
      let less : 2 * nat_abs ((high +ℤ pos 1) -ℤ (middle +ℤ pos 1)) ≤ nat_abs ((high +ℤ pos 1) -ℤ low) = omega (arith, ints) in
      record {
        after = omega (arith, ints);
        order = omega (arith, ints);
        within = h.within;
        before = λ v c d t. none (v -ℤ middle) (omega (arith, ints)) (subst T (omega (arith, ints)) t);
        beyond = h.beyond;
        cost = λ n p. paid_half (omega arith) (some_left low high (omega (arith, ints))) less step (h.cost n p);
      }

  -- nor anywhere
  pub window_never : (from to middle : ℤ) → IsOnSide Never (λ t. T (middle +ℤ t)) → IsClear cutter tri fiber from to
  window_never from to middle none = λ v a b t. none (v -ℤ middle) (subst T (omega (arith, ints)) t)

  pub never_cost : {from to low high : ℤ} {old now later : ℕ} (spare : ℕ) → low ≤ℤ high → later ≡ now + 1 → WindowSoFar from to low high old now
      → (n : ℕ) → (nat_abs (to -ℤ from) + 1) < 2 ^ n → later ≤ old + (2 * n + 2 * spare)
  never_cost {low = low} {high} spare l step h n p = paid_spare (2 * spare) (paid_half {half = 0} (omega arith) (some_left low high l) (omega arith) step (h.cost n p))

  pub window_cost : {from to low high : ℤ} {old now : ℕ} (spare : ℕ) → WindowSoFar from to low high old now
      → (n : ℕ) → (nat_abs (to -ℤ from) + 1) < 2 ^ n → now ≤ old + (2 * n + 2 * spare)
  window_cost spare h n p = paid_spare (2 * spare) (h.cost n p)

  -- no position is left
  pub window_ends : {from to low high : ℤ} {old now : ℕ} → high <ℤ low → WindowSoFar from to low high old now → IsClear cutter tri fiber from to
  window_ends {low = low} done h = λ v a b. by_lt_z v low (λ under. h.before v a (omega (arith, ints))) (λ over. h.beyond v (omega (arith, ints)) b)

  -- the middle is touched, and both ends are found from it
  pub found_stretch : {from to low high : ℤ} (middle first last : ℤ) {old now : ℕ} → IsFirstEnd cutter tri fiber low middle first → IsLastEnd cutter tri fiber middle high last
      → WindowSoFar from to low high old now → IsTouchedStretch cutter tri fiber from to (record { first = first; last = last })
  found_stretch {low = low} {high} middle first last left right h =
      let a = left.after in let b = left.before in let c = right.after in let d = right.before in
      record {
        after = omega (arith, ints);
        some = omega (arith, ints);
        within = omega (arith, ints);
        touched = λ v u w. by_lt_z v middle (λ under. left.held v u (omega (arith, ints))) (λ over. right.held v over w);
        before = λ v u w. by_lt_z v low (λ under. h.before v u (omega (arith, ints))) (λ over. left.clear v over (omega (arith, ints)));
        beyond = λ v u w. by_lt_z high v (λ over. h.beyond v (omega (arith, ints)) w) (λ under. right.clear v (omega (arith, ints)) under);
      }

  pub found_cost : {from to low high : ℤ} (middle : ℤ) {old now found first last : ℕ} (spare : ℕ) → low ≤ℤ middle → middle ≤ℤ high
      → (pos 2 *ℤ (middle -ℤ low)) ≤ℤ (high -ℤ low) → (pos 2 *ℤ (high -ℤ middle)) ≤ℤ ((high -ℤ low) +ℤ pos 1) → found ≡ now + 1
      → ((k : ℕ) → nat_abs (middle -ℤ low) < 2 ^ k → first ≤ found + (k + spare)) → ((k : ℕ) → nat_abs (high -ℤ middle) < 2 ^ k → last ≤ first + (k + spare))
      → WindowSoFar from to low high old now → (n : ℕ) → (nat_abs (to -ℤ from) + 1) < 2 ^ n → last ≤ old + (2 * n + 2 * spare)
  found_cost {low = low} {high} middle spare a b left right step to_left to_right h n p =
      let before : 2 * nat_abs (middle -ℤ low) ≤ nat_abs ((high +ℤ pos 1) -ℤ low) = omega (arith, ints) in
      let after : 2 * nat_abs (high -ℤ middle) ≤ nat_abs ((high +ℤ pos 1) -ℤ low) = omega (arith, ints) in
      paid_ends spare (some_left low high (omega (arith, ints))) before after step to_left to_right (h.cost n p)

-- what is touched no positions from one is touched there
pub touched_here : (T : ℤ → Type 0) (v : ℤ) → T (v +ℤ pos 0) → T v
touched_here T v t = subst T (omega (arith, ints)) t

-- the positions that are left become fewer
pub fewer_low : (low high middle : ℤ) → low ≤ℤ middle → middle ≤ℤ high → nat_abs (((middle -ℤ pos 1) +ℤ pos 1) -ℤ low) < nat_abs ((high +ℤ pos 1) -ℤ low)
fewer_low low high middle a b = omega (arith, ints)

pub fewer_high : (low high middle : ℤ) → low ≤ℤ middle → middle ≤ℤ high → nat_abs ((high +ℤ pos 1) -ℤ (middle +ℤ pos 1)) < nat_abs ((high +ℤ pos 1) -ℤ low)
fewer_high low high middle a b = omega (arith, ints)

-- a touch at `start` that finds no position there, nor on one side: what is found on the other side is all
module _ (cutter : Cutter) (tri : Tri) (fiber : Fiber) (from to start : ℤ) where
  abbrev Touched : ℤ → Type 0
  Touched v = IsTouched cutter tri fiber v

  none_from : IsOnSide Less (λ t. Touched (start +ℤ t)) → (v : ℤ) → start ≤ℤ v → ¬ Touched v
  none_from none v a t = none (v -ℤ start) (omega (arith, ints)) (subst Touched (omega (arith, ints)) t)

  none_up_to : IsOnSide More (λ t. Touched (start +ℤ t)) → (v : ℤ) → v ≤ℤ start → ¬ Touched v
  none_up_to none v a t = none (v -ℤ start) (omega (arith, ints)) (subst Touched (omega (arith, ints)) t)

  pub clear_from : start ≤ℤ from → IsOnSide Less (λ t. Touched (start +ℤ t)) → IsClear cutter tri fiber from to
  clear_from h none v a b = none_from none v (omega (arith, ints))

  pub clear_up_to : to ≤ℤ start → IsOnSide More (λ t. Touched (start +ℤ t)) → IsClear cutter tri fiber from to
  clear_up_to h none v a b = none_up_to none v (omega (arith, ints))

  pub answer_before : (answer : Option Run) → start ≤ℤ to → IsOnSide Less (λ t. Touched (start +ℤ t)) → IsStretchAnswer cutter tri fiber from (start -ℤ pos 1) answer → IsStretchAnswer cutter tri fiber from to answer
  answer_before None h none clear = λ v a b. by_lt_z v start (λ less. clear v a (omega (arith, ints))) (λ more. none_from none v more)
  answer_before (Some run) h none found = record {
    after = found.after;
    some = found.some;
    within = let w = found.within in omega (arith, ints);
    touched = found.touched;
    before = found.before;
    beyond = λ v a b. by_lt_z v start (λ less. found.beyond v a (omega (arith, ints))) (λ more. none_from none v more);
  }

  pub answer_after : (answer : Option Run) → from ≤ℤ start → IsOnSide More (λ t. Touched (start +ℤ t)) → IsStretchAnswer cutter tri fiber (start +ℤ pos 1) to answer → IsStretchAnswer cutter tri fiber from to answer
  answer_after None h none clear = λ v a b. by_lt_z start v (λ more. clear v (omega (arith, ints)) b) (λ less. none_up_to none v less)
  answer_after (Some run) h none found = record {
    after = let w = found.after in omega (arith, ints);
    some = found.some;
    within = found.within;
    touched = found.touched;
    before = λ v a b. by_lt_z start v (λ more. found.before v (omega (arith, ints)) b) (λ less. none_up_to none v less);
    beyond = found.beyond;
  }

  -- it is touched at `start`, and both ends are found from there
  pub start_found : (first last : ℤ) → IsFirstEnd cutter tri fiber from start first → IsLastEnd cutter tri fiber start to last → IsTouchedStretch cutter tri fiber from to (record { first = first; last = last })
  start_found first last left right =
      let b = left.before in let c = right.after in
      record {
        after = left.after;
        some = omega (arith, ints);
        within = right.before;
        touched = λ v u w. by_lt_z v start (λ under. left.held v u (omega (arith, ints))) (λ over. right.held v over w);
        before = λ v u w. left.clear v u (omega (arith, ints));
        beyond = λ v u w. right.clear v (omega (arith, ints)) w;
      }

-- the touch at `start`, and those of the searches that follow it
pub start_found_cost : (from to start : ℤ) (old now first last spare : ℕ) → from ≤ℤ start → start ≤ℤ to → now ≡ old + 1 → ((k : ℕ) → nat_abs (start -ℤ from) < 2 ^ k → first ≤ now + (k + spare))
    → ((k : ℕ) → nat_abs (to -ℤ start) < 2 ^ k → last ≤ first + (k + spare)) → (n : ℕ) → (nat_abs (to -ℤ from) + 1) < 2 ^ n → last ≤ old + (1 + 2 * n + 2 * spare)
start_found_cost from to start old now first last spare a b step left right n p =
    let before : nat_abs (start -ℤ from) ≤ nat_abs (to -ℤ from) = omega (arith, ints) in
    let after : nat_abs (to -ℤ start) ≤ nat_abs (to -ℤ from) = omega (arith, ints) in
    let h = left n (omega arith) in
    let k = right n (omega arith) in
    omega arith

pub start_part_cost : (from to a b : ℤ) (old now later spare : ℕ) → from ≤ℤ a → a ≤ℤ b → b ≤ℤ to → now ≡ old + 1 → ((k : ℕ) → (nat_abs (b -ℤ a) + 1) < 2 ^ k → later ≤ now + (2 * k + 2 * spare))
    → (n : ℕ) → (nat_abs (to -ℤ from) + 1) < 2 ^ n → later ≤ old + (1 + 2 * n + 2 * spare)
start_part_cost from to a b old now later spare h k l step part n p =
    let fewer : nat_abs (b -ℤ a) ≤ nat_abs (to -ℤ from) = omega (arith, ints) in
    let m = part n (omega arith) in
    omega arith
