-- A window from whose ends known runs are cut off, and what its triangle's stretch in the rest tells.
use Rattle.std.proofs.Common.{◌≡◌, ℕ, ◌+◌, ◌*◌, ◌<◌, ◌≤◌, inl, inr, List, [], ◌∷◌, subst, arith}
use Rattle.std.specs.Prelude.{◌^◌, Option, Some, None}
use Rattle.std.specs.List.{Contains}
use Rattle.std.proofs.lemmas.Int.{ints, by_lt_z}
use Rattle.std.proofs.lemmas.List.Elements.{Contains-push_cases}
use lib.IntN.{ℤ, pos, ◌+ℤ◌, ◌-ℤ◌}
use lib.Signed.{◌<ℤ◌, ◌≤ℤ◌}
use Rattle.mill_base.specs.Numbers.{Within}
use Rattle.mill_base.specs.declared.limits.TheConstants.{MAX_COORDINATE}
use Rattle.mill_base.specs.declared.points.Tri.{Tri}
use Rattle.mill_base.specs.declared.cutter.Cutter.{Cutter}
use Rattle.mill_push.specs.declared.fiber.Fiber.{Fiber}
use Rattle.mill_push.specs.declared.fiber.Run.{Run}
use Rattle.mill_push.specs.Fibers.{IsTouched}
use Rattle.mill_push.specs.Runs.{StandsIn}
use Rattle.mill_push.specs.Stretches.{IsStretchAnswer}
use Rattle.mill_push.specs.Touches.{position_count}
use Rattle.mill_push.specs.inner.Known.{HasRoom, IsAt, IsKnown, IsNewAnswer, IsRest, IsRunInRange, AreInRange, IsWindow}
use Rattle.mill_push.specs.inner.Unions.{AreSpans, IsSpan}
use Rattle.mill_push.proofs.Halving.{under_by}
use Rattle.mill_push.proofs.Stored.{through, within_between}

-- from a position up to an end, and without it, all stand in known runs
pub record AreKnownUpTo (known : List Run) (first end : ℤ) : Type 0 where
  pub after : first ≤ℤ end
  pub cut : (v : ℤ) → first ≤ℤ v → v <ℤ end → StandsIn known v

-- from a position back to an end, and without it
pub record AreKnownBackTo (known : List Run) (last end : ℤ) : Type 0 where
  pub before : end ≤ℤ last
  pub cut : (v : ℤ) → end <ℤ v → v ≤ℤ last → StandsIn known v

module _ (known : List Run) where
  -- one run of the list is cut off more
  pub more_before : (first after : ℤ) (run : Run) → Contains known run → IsAt run after → AreKnownUpTo known first after → AreKnownUpTo known first (run.last +ℤ pos 1)
  more_before first after run member at k = record {
    after = past first after run.last k.after at.last;
    cut = λ v a b. by_lt_z v after (λ less. k.cut v a less)
        (λ over. record { run = run; member = member; first = through run.first after v at.first over; last = within v run.last b });
  }
    where
      past : (a b c : ℤ) → a ≤ℤ b → b ≤ℤ c → a ≤ℤ (c +ℤ pos 1)
      past a b c h l = omega (arith, ints)

      within : (v c : ℤ) → v <ℤ (c +ℤ pos 1) → v ≤ℤ c
      within v c h = omega (arith, ints)

  pub more_beyond : (last before : ℤ) (run : Run) → Contains known run → IsAt run before → AreKnownBackTo known last before → AreKnownBackTo known last (run.first -ℤ pos 1)
  more_beyond last before run member at k = record {
    before = past run.first before last at.first k.before;
    cut = λ v a b. by_lt_z before v (λ more. k.cut v more b)
        (λ under. record { run = run; member = member; first = within run.first v a; last = through v before run.last under at.last });
  }
    where
      past : (a b c : ℤ) → a ≤ℤ b → b ≤ℤ c → (a -ℤ pos 1) ≤ℤ c
      past a b c h l = omega (arith, ints)

      within : (c v : ℤ) → (c -ℤ pos 1) <ℤ v → c ≤ℤ v
      within c v h = omega (arith, ints)

module _ (cutter : Cutter) (tri : Tri) (fiber : Fiber) (from to : ℤ) (known : List Run) (window rest : Run) (w : IsWindow cutter tri fiber from to window) (r : IsRest known window rest) where
  -- at what positions the triangle is touched before and after the rest of its window is known
  beside_rest : (v : ℤ) → from ≤ℤ v → v ≤ℤ to → IsTouched cutter tri fiber v → (v <ℤ rest.first → StandsIn known v) × (rest.last <ℤ v → StandsIn known v)
  beside_rest v a b t = (
    λ less. by_lt_z v window.first (λ out. absurd (w.before v a out t)) (λ within. r.before v within less),
    λ more. by_lt_z window.last v (λ out. absurd (w.beyond v out b t)) (λ within. r.beyond v more within),
  )

  -- nothing is left
  pub all_known : rest.last <ℤ rest.first → IsKnown cutter tri fiber known from to
  all_known none v a b t =
      let beside = beside_rest v a b t in
      by_lt_z v rest.first beside.0 (λ over. beside.1 (past rest.last rest.first v none over))
    where
      past : (l f v : ℤ) → l <ℤ f → f ≤ℤ v → l <ℤ v
      past l f v h k = omega (arith, ints)

  -- what is found in the rest, where some of the known runs are left out of account
  pub new_answer_beside : (some : List Run) → ((v : ℤ) → StandsIn some v → StandsIn known v) → (answer : Option Run) → IsNewAnswer cutter tri fiber rest.first rest.last some answer
      → IsNewAnswer cutter tri fiber from to known answer
  new_answer_beside some among None none = λ v a b t.
      let beside = beside_rest v a b t in
      by_lt_z v rest.first beside.0 (λ over. by_lt_z rest.last v beside.1 (λ under. among v (none v over under t)))
  new_answer_beside some among (Some run) found = record {
    span = record { after = both from window.first rest.first run.first w.after r.after found.span.after; some = found.span.some; within = both run.last rest.last window.last to found.span.within r.within w.within };
    touched = found.touched;
    before = λ v a less t. by_lt_z v rest.first (beside_rest v a (within_to v less) t).0 (λ over. among v (found.before v over less t));
    beyond = λ v more b t. by_lt_z rest.last v (beside_rest v (within_from v more) b t).1 (λ under. among v (found.beyond v more under t));
  }
    where
      both : (a b c d : ℤ) → a ≤ℤ b → b ≤ℤ c → c ≤ℤ d → a ≤ℤ d
      both a b c d h k l = omega (arith, ints)

      within_to : (v : ℤ) → v <ℤ run.first → v ≤ℤ to
      within_to v less = let h = found.span.some in let k = found.span.within in let l = r.within in let m = w.within in omega (arith, ints)

      within_from : (v : ℤ) → run.last <ℤ v → from ≤ℤ v
      within_from v more = let h = found.span.some in let k = found.span.after in let l = r.after in let m = w.after in omega (arith, ints)

  -- the whole stretch in the rest
  pub new_answer : (answer : Option Run) → IsStretchAnswer cutter tri fiber rest.first rest.last answer → IsNewAnswer cutter tri fiber from to known answer
  new_answer answer found = new_answer_beside [] (λ v s. absurd (omega (arith, s.member.1))) answer (alone answer found)
    where
      alone : (answer : Option Run) → IsStretchAnswer cutter tri fiber rest.first rest.last answer → IsNewAnswer cutter tri fiber rest.first rest.last [] answer
      alone None clear = λ v a b t. absurd (clear v a b t)
      alone (Some run) stretch = record {
        span = record { after = stretch.after; some = stretch.some; within = stretch.within };
        touched = stretch.touched;
        before = λ v a less t. absurd (stretch.before v a less t);
        beyond = λ v more b t. absurd (stretch.beyond v more b t);
      }

-- what stands in one of the runs stands in the runs
pub in_one_of : (known : List Run) (run : Run) → Contains known run → (v : ℤ) → StandsIn (run ∷ []) v → StandsIn known v
in_one_of known run member v s = elim (Contains-push_cases [] run s.run s.member) [
  | inl none ↦ absurd (omega (arith, none.1))
  | inr same ↦ record { run = s.run; member = subst (Contains known) same member; first = s.first; last = s.last }
]

-- the rest has no more positions than there are; no touches near aims are to spare
pub cost_of_rest : (from to a b : ℤ) (old new probes : ℕ) → from ≤ℤ a → a ≤ℤ b → b ≤ℤ to → probes ≡ 0 → ((n : ℕ) → position_count a b < 2 ^ n → new ≤ old + (2 * n + 2 * probes))
    → (n : ℕ) → position_count from to < 2 ^ n → new ≤ old + 2 * n
cost_of_rest from to a b old new probes h k l none cost n under =
    let fewer : position_count a b ≤ position_count from to = omega (arith, ints) in
    let c = cost n (omega arith) in
    omega arith

-- they are where it has so few
module _ (from to : ℤ) (rest : Run) (old new probes spare : ℕ) (few : probes ≤ spare) (room : HasRoom from to rest spare) where
  under_room : (n : ℕ) → position_count from to < 2 ^ n → (k : ℕ) × (n ≡ k + (spare + 1)) × (position_count rest.first rest.last < 2 ^ k)
  under_room n under = under_by (spare + 1) n (position_count rest.first rest.last) (position_count from to) (omega arith) room under

  pub cost_with_room : ((n : ℕ) → position_count rest.first rest.last < 2 ^ n → new ≤ old + (2 + 2 * n + 2 * probes)) → (n : ℕ) → position_count from to < 2 ^ n → new ≤ old + 2 * n
  cost_with_room cost n under =
      let k = under_room n under in
      let c = cost k.0 k.2 in
      let e = k.1 in
      omega arith

-- runs from one position in range to another are in range
pub span_in_range : (from to : ℤ) (run : Run) → Within MAX_COORDINATE from → Within MAX_COORDINATE to → IsSpan from to run → IsRunInRange run
span_in_range from to run h k s = record {
  first_ok = within_between from run.first to h k s.after (through run.first run.last to s.some s.within);
  last_ok = within_between from run.last to h k (through from run.first run.last s.after s.some) s.within;
}

pub spans_in_range : (from to : ℤ) (runs : List Run) → Within MAX_COORDINATE from → Within MAX_COORDINATE to → AreSpans from to runs → AreInRange runs
spans_in_range from to runs h k spans run c = span_in_range from to run h k (spans run c)
