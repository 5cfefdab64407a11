-- The blocked positions are those that stand in a run.
use Rattle.std.specs.Prelude.{◌≡◌, ℕ, zero, suc, ◌<◌, ℤ, pos, ◌+ℤ◌, ◌≤ℤ◌, int_lt, Bool, true, false, List, [], ◌∷◌, length, slice_index_or, refl}
use Rattle.std.proofs.Common.{sym, subst, arith}
use Rattle.std.proofs.lemmas.Int.{ints}
use Rattle.mill_push.specs.Fibers.{IsBlocked}
use Rattle.mill_push.specs.Runs.{RunsOf, StandsIn, RunsHoldBlocked}
use Rattle.mill_push.specs.declared.fiber.Run.{Run}

module _ (blocked : ℤ → Type 0) (to v : ℤ) where
  later : (r : Run) (rs : List Run) → StandsIn rs v → StandsIn (r ∷ rs) v
  later r rs s = record { run = s.run; member = (suc s.member.0, omega (s.member.1, arith), s.member.2); first = s.first; last = s.last }

  in_run : (from : ℤ) (runs : List Run) → RunsOf blocked from to runs → from ≤ℤ v → v ≤ℤ to → blocked v → StandsIn runs v
  in_run from [] h a c b = absurd (h v a (omega (c, arith, ints)) b)
  in_run from (r ∷ rs) h a c b = by (λ n. in_run (r.last +ℤ pos 1) rs h.1 n c b) (int_lt v r.first) (int_lt r.last v) refl refl
    where
      by : ((r.last +ℤ pos 1) ≤ℤ v → StandsIn rs v) → (s t : Bool) → int_lt v r.first ≡ s → int_lt r.last v ≡ t → StandsIn (r ∷ rs) v
      by rest true t e f = absurd (h.0.before v a (omega (e, arith, ints)) b)
      by rest false false e f = record { run = r; member = (0, omega arith, refl); first = omega (e, arith, ints); last = omega (f, arith, ints) }
      by rest false true e f = later r rs (rest (omega (f, arith, ints)))

  holds : (from : ℤ) (runs : List Run) → RunsOf blocked from to runs → (k : ℕ) (run : Run) → k < length runs → slice_index_or runs k run ≡ run → run.first ≤ℤ v → v ≤ℤ run.last → blocked v
  holds from [] h k run less e a b = absurd (omega (less, arith))
  holds from (r ∷ rs) h zero run less e a b = h.0.blocks v (subst (λ (x : Run). x.first ≤ℤ v) (sym e) a) (subst (λ (x : Run). v ≤ℤ x.last) (sym e) b)
  holds from (r ∷ rs) h (suc k) run less e a b = holds (r.last +ℤ pos 1) rs h.1 k run (omega (less, arith)) e a b

pub runs_hold_blocked : RunsHoldBlocked
runs_hold_blocked tool part fiber from to v runs h a c =
    (in_run (IsBlocked tool part fiber) to v from runs h a c, λ s. holds (IsBlocked tool part fiber) to v from runs h s.member.0 s.run s.member.1 s.member.2 s.first s.last)
