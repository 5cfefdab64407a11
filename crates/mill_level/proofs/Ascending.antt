-- Runs that ascend, and the positions that stand in them.
use Rattle.std.specs.Prelude.{◌≡◌, ℕ, ◌≤◌, ◌<◌, ℤ, ◌<ℤ◌, ◌≤ℤ◌, int_le, Bool, true, false, List, length, slice_index_or, MatchBool, refl}
use Rattle.std.proofs.Common.{inl, inr, arith, sym, subst}
use Rattle.std.proofs.lemmas.Bool.{cases_lt}
use Rattle.std.proofs.lemmas.Int.{ints, by_lt_z}
use Rattle.std.proofs.lemmas.List.{get_or_default}
use Rattle.mill_push.specs.declared.fiber.Run.{Run}
use Rattle.mill_push.specs.Runs.{StandsIn}
use Rattle.mill_push.proofs.Stored.{through}
use Rattle.mill_level.specs.inner.Fibers.{AreAscending, EndBefore, IsBefore}

pub not_both : (a b : ℤ) → a <ℤ b → b ≤ℤ a → ⊥
not_both a b h k = omega (h, k, arith, ints)

pub beyond : (a b : ℤ) → (a ≤ℤ b → ⊥) → b <ℤ a
beyond a b refuted = by_lt_z b a (λ less. less) (λ more. absurd (refuted more))

pub from : (i k : ℕ) → (k < i → ⊥) → i ≤ k
from i k refuted = omega (refuted, arith)

pub less : (i k n : ℕ) → i ≤ k → k < n → i < n
less i k n h e = omega (h, e, arith)

-- what rises from one number to each later one is nowhere less at a later one
pub at_most_later : (f : ℕ → ℤ) (i j : ℕ) → i ≤ j → (i < j → f i ≤ℤ f j) → f i ≤ℤ f j
at_most_later f i j order h = elim (cases_lt i j) [
  | inl less ↦ h less
  | inr more ↦ subst (λ (k : ℕ). f i ≤ℤ f k) (equal order more) (kept (f i))
]
  where
    equal : i ≤ j → j ≤ i → i ≡ j
    equal a b = omega (a, b, arith)

    kept : (a : ℤ) → a ≤ℤ a
    kept a = omega (arith, ints)

-- no run ends before a position, and what ends before one ends before a later one
pub none_before : (runs : List Run) (v : ℤ) → EndBefore runs v 0
none_before runs v = record { few = omega arith; each = λ k run below. absurd (omega (below, arith)) }

pub later_too : (runs : List Run) (v w : ℤ) (i : ℕ) → v <ℤ w → EndBefore runs v i → EndBefore runs w i
later_too runs v w i order h = record { few = h.few; each = λ k run below. chain (slice_index_or runs k run).last (h.each k run below) }
  where
    chain : (a : ℤ) → a <ℤ v → a <ℤ w
    chain a h = omega (h, order, arith, ints)

-- the next run doesn't end before it: no later one does
pub stops_before : (runs : List Run) (v : ℤ) (i : ℕ) (d : Run) → AreAscending runs → v ≤ℤ (slice_index_or runs i d).last → EndBefore runs v i → IsBefore runs v i
stops_before runs v i d ascend ends h = record {
  before = h;
  after = λ k run over inside.
      through v _ _ (subst (λ (r : Run). v ≤ℤ r.last) (get_or_default runs i d run (less i k (length runs) over inside)) ends) (ascend.lasts i k run over inside);
}

-- the run of this number is one that a position stands in
pub record IsAt (runs : List Run) (v : ℤ) (k : ℕ) (run : Run) : Type 0 where
  pub inside : k < length runs
  pub first : (slice_index_or runs k run).first ≤ℤ v
  pub last : v ≤ℤ (slice_index_or runs k run).last

pub at_from : (runs : List Run) (v : ℤ) (s : StandsIn runs v) → IsAt runs v s.member.0 s.run
at_from runs v s = record {
  inside = s.member.1;
  first = subst (λ (r : Run). r.first ≤ℤ v) (sym s.member.2) s.first;
  last = subst (λ (r : Run). v ≤ℤ r.last) (sym s.member.2) s.last;
}

pub stands_at : (runs : List Run) (v : ℤ) (k : ℕ) (run : Run) → IsAt runs v k run → StandsIn runs v
stands_at runs v k run h = record {
  run = slice_index_or runs k run;
  member = (k, h.inside, get_or_default runs k (slice_index_or runs k run) run h.inside);
  first = h.first;
  last = h.last;
}

module _ (runs : List Run) (ascend : AreAscending runs) (v : ℤ) (i : ℕ) (is : IsBefore runs v i) where
  -- the position stands in no run before that one
  pub not_before : (k : ℕ) (run : Run) → IsAt runs v k run → i ≤ k
  not_before k run h = from i k (λ less. not_both _ v (is.before.each k run less) h.last)

  pub held_at : (run : Run) → i < length runs → (slice_index_or runs i run).first ≤ℤ v → StandsIn runs v
  held_at run inside first = stands_at runs v i run (record { inside = inside; first = first; last = is.after i run (omega arith) inside })

  -- if it stands in a run, it stands in that one
  pub held_there : StandsIn runs v → (run : Run) → IsAt runs v i run
  held_there s run =
      let h = at_from runs v s in
      let k = s.member.0 in
      let order : i ≤ k = not_before k s.run h in
      let inside : i < length runs = less i k (length runs) order h.inside in
      let same = get_or_default runs i s.run run inside in
      let first = through (slice_index_or runs i s.run).first (slice_index_or runs k s.run).first v (ascend.firsts i k s.run order h.inside) h.first in
      record {
        inside = inside;
        first = subst (λ (r : Run). r.first ≤ℤ v) same first;
        last = is.after i run (omega arith) inside;
      }

  -- what the test of that run's first position tells
  pub told_from : (run : Run) → i < length runs → MatchBool (int_le (slice_index_or runs i run).first v) (StandsIn runs v) (¬ StandsIn runs v)
  told_from run inside = by (int_le (slice_index_or runs i run).first v) refl
    where
      test : (a b : ℤ) → int_le a b ≡ true → a ≤ℤ b
      test a b h = omega (h, arith, ints)

      tested : (a b : ℤ) → int_le a b ≡ false → b <ℤ a
      tested a b h = omega (h, arith, ints)

      by : (b : Bool) → int_le (slice_index_or runs i run).first v ≡ b → MatchBool b (StandsIn runs v) (¬ StandsIn runs v)
      by true e = held_at run inside (test _ v e)
      by false e = λ s. not_both v _ (tested _ v e) (held_there s run).first
