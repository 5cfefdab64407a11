-- The runs of a fiber ascend.
use Rattle.std.specs.Prelude.{ℕ, zero, suc, ◌<◌, ℤ, pos, ◌+ℤ◌, ◌<ℤ◌, ◌≤ℤ◌, List, [], ◌∷◌, length, slice_index_or}
use Rattle.std.proofs.Common.{arith}
use Rattle.std.proofs.lemmas.Int.{ints}
use Rattle.mill_base.specs.Numbers.{Within}
use Rattle.mill_base.specs.declared.limits.TheConstants.{MAX_COORDINATE}
use Rattle.mill_push.specs.declared.fiber.Run.{Run}
use Rattle.mill_push.specs.Runs.{RunsOf}
use Rattle.mill_push.proofs.Stored.{within_between, through}
use Rattle.mill_level.specs.inner.Fibers.{AreAscending}
use Rattle.mill_level.proofs.Ascending.{at_most_later}

module _ (Blocked : ℤ → Type 0) (to : ℤ) where
  -- each run starts where the runs may start, is some positions long, and ends where they end
  record IsRun (from : ℤ) (run : Run) : Type 0 where
    starts : from ≤ℤ run.first
    some : run.first ≤ℤ run.last
    ends : run.last ≤ℤ to

  each : (from : ℤ) (runs : List Run) → RunsOf Blocked from to runs → (k : ℕ) (d : Run) → k < length runs → IsRun from (slice_index_or runs k d)
  each from [] h k d inside = absurd (omega (inside, arith))
  each from (r ∷ rs) h zero d inside = record { starts = h.0.after; some = h.0.some; ends = h.0.within }
  each from (r ∷ rs) h (suc k) d inside =
      let later = each (r.last +ℤ pos 1) rs h.1 k d (omega (inside, arith)) in
      record {
        starts = through from (r.last +ℤ pos 1) _ (over from r.first r.last h.0.after h.0.some) later.starts;
        some = later.some;
        ends = later.ends;
      }
    where
      over : (a b c : ℤ) → a ≤ℤ b → b ≤ℤ c → a ≤ℤ (c +ℤ pos 1)
      over a b c h e = omega (h, e, arith, ints)

  -- a run's last is before the next's first
  rises : (from : ℤ) (runs : List Run) → RunsOf Blocked from to runs → (i j : ℕ) (d : Run) → i < j → j < length runs → (slice_index_or runs i d).last <ℤ (slice_index_or runs j d).first
  rises from [] h i j d less inside = absurd (omega (inside, arith))
  rises from (r ∷ rs) h i zero d less inside = absurd (omega (less, arith))
  rises from (r ∷ rs) h zero (suc j) d less inside = past r.last _ (each (r.last +ℤ pos 1) rs h.1 j d (omega (inside, arith))).starts
    where
      past : (a b : ℤ) → (a +ℤ pos 1) ≤ℤ b → a <ℤ b
      past a b h = omega (h, arith, ints)
  rises from (r ∷ rs) h (suc i) (suc j) d less inside = rises (r.last +ℤ pos 1) rs h.1 i j d (omega (less, arith)) (omega (inside, arith))

  pub ascends : (from : ℤ) (runs : List Run) → RunsOf Blocked from to runs → Within MAX_COORDINATE from → Within MAX_COORDINATE to → AreAscending runs
  ascends from runs h low high = record {
    firsts = λ i j d order inside. at_most_later (λ (k : ℕ). (slice_index_or runs k d).first) i j order (λ less. over (each from runs h i d (before i j (length runs) less inside)).some (rises from runs h i j d less inside));
    lasts = λ i j d order inside. at_most_later (λ (k : ℕ). (slice_index_or runs k d).last) i j order (λ less. under (rises from runs h i j d less inside) (each from runs h j d inside).some);
    some = λ k d inside. (each from runs h k d inside).some;
    first_ok = λ k d inside. let e = each from runs h k d inside in within_between from _ to low high e.starts (through _ _ to e.some e.ends);
    last_ok = λ k d inside. let e = each from runs h k d inside in within_between from _ to low high (through from _ _ e.starts e.some) e.ends;
  }
    where
      over : {a b c : ℤ} → a ≤ℤ b → b <ℤ c → a ≤ℤ c
      over h e = omega (h, e, arith, ints)

      under : {a b c : ℤ} → a <ℤ b → b ≤ℤ c → a ≤ℤ c
      under h e = omega (h, e, arith, ints)

      before : (i j n : ℕ) → i < j → j < n → i < n
      before i j n h e = omega (h, e, arith)
