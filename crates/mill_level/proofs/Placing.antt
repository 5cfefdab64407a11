-- The place between a free position and a blocked one.
use Rattle.std.specs.Prelude.{◌≡◌, ℕ, ◌-◌, ◌≤◌, ◌<◌, ℤ, pos, ◌+ℤ◌, ◌-ℤ◌, ◌<ℤ◌, ◌≤ℤ◌, nat_abs, List, length, slice_index_or}
use Rattle.std.proofs.Common.{arith, subst, FitsSigned, w32}
use Rattle.std.proofs.lemmas.Int.{ints, fits_signed_from_abs}
use Rattle.std.proofs.lemmas.List.{get_or_default}
use Rattle.mill_base.specs.Numbers.{Within}
use Rattle.mill_base.specs.declared.limits.TheConstants.{MAX_COORDINATE}
use Rattle.mill_push.specs.declared.fiber.Run.{Run}
use Rattle.mill_push.specs.Runs.{StandsIn}
use Rattle.mill_push.proofs.Stored.{through}
use Rattle.mill_level.specs.inner.Fibers.{AreAscending, IsBefore, IsPlaceBetween}
use Rattle.mill_level.proofs.Ascending.{at_from, stands_at, held_at, not_both, beyond, from, less}

below : (a b c : ℤ) → a <ℤ b → b ≤ℤ c → a ≤ℤ c
below a b c h e = omega (h, e, arith, ints)

to_before : (a b : ℤ) → a <ℤ b → a ≤ℤ (b -ℤ pos 1)
to_before a b h = omega (h, arith, ints)

before_it : (a b : ℤ) → a ≤ℤ b → (a -ℤ pos 1) <ℤ b
before_it a b h = omega (h, arith, ints)

after_it : (a b : ℤ) → a ≤ℤ b → a <ℤ (b +ℤ pos 1)
after_it a b h = omega (h, arith, ints)

to_after : (a b : ℤ) → a <ℤ b → (a +ℤ pos 1) ≤ℤ b
to_after a b h = omega (h, arith, ints)

and_back : (a : ℤ) → a ≡ (a -ℤ pos 1) +ℤ pos 1
and_back a = omega (arith, ints)

back_again : (a : ℤ) → a ≡ (a +ℤ pos 1) -ℤ pos 1
back_again a = omega (arith, ints)

end_kept : (a : ℤ) → a ≤ℤ a
end_kept a = omega (arith, ints)

-- a run's own positions stand in it
start_stands : (runs : List Run) → AreAscending runs → (k : ℕ) (run : Run) → k < length runs → StandsIn runs (slice_index_or runs k run).first
start_stands runs ascend k run inside = stands_at runs _ k run (record { inside = inside; first = end_kept _; last = ascend.some k run inside })

end_stands : (runs : List Run) → AreAscending runs → (k : ℕ) (run : Run) → k < length runs → StandsIn runs (slice_index_or runs k run).last
end_stands runs ascend k run inside = stands_at runs _ k run (record { inside = inside; first = ascend.some k run inside; last = end_kept _ })

-- up from a free position to a blocked one: the run where the search for the free one ends is the first on the way
module _ (runs : List Run) (ascend : AreAscending runs) (low high : ℤ) (i : ℕ) (is : IsBefore runs low i) (order : low <ℤ high) (free : ¬ StandsIn runs low) (blocked : StandsIn runs high) where
  later : i ≤ blocked.member.0
  later =
      let h = at_from runs high blocked in
      from i blocked.member.0 (λ k. not_both _ low (is.before.each blocked.member.0 blocked.run k) (below low high _ order h.last))

  inside_up : i < length runs
  inside_up = less i blocked.member.0 (length runs) later blocked.member.1

  pub start_ok : (run : Run) → Within MAX_COORDINATE (slice_index_or runs i run).first
  start_ok run = ascend.first_ok i run inside_up

  start_over : (run : Run) → low <ℤ (slice_index_or runs i run).first
  start_over run = beyond _ low (λ at. free (held_at runs ascend low i is run inside_up at))

  start_to : (run : Run) → (slice_index_or runs i run).first ≤ℤ high
  start_to run =
      let h = at_from runs high blocked in
      subst (λ (r : Run). r.first ≤ℤ high) (get_or_default runs i blocked.run run inside_up)
      (through _ _ high (ascend.firsts i blocked.member.0 blocked.run later h.inside) h.first)

  -- before that run's start nothing is blocked
  passes : (run : Run) (w : ℤ) → low ≤ℤ w → w ≤ℤ ((slice_index_or runs i run).first -ℤ pos 1) → ¬ StandsIn runs w
  passes run w a b s =
      let h = at_from runs w s in
      let k = s.member.0 in
      let over : i ≤ k = from i k (λ e. not_both _ low (is.before.each k s.run e) (through low w _ a h.last)) in
      let first = through _ _ w (ascend.firsts i k s.run over h.inside) h.first in
      clash _ w (subst (λ (r : Run). r.first ≤ℤ w) (get_or_default runs i s.run run inside_up) first) b
    where
      clash : (a w : ℤ) → a ≤ℤ w → w ≤ℤ (a -ℤ pos 1) → ⊥
      clash a w h e = omega (h, e, arith, ints)

  pub place_up : (run : Run) → IsPlaceBetween (StandsIn runs) low high ((slice_index_or runs i run).first -ℤ pos 1)
  place_up run = record {
    up = λ _ _. record {
      from = to_before low _ (start_over run);
      to = before_it _ high (start_to run);
      free = passes run;
      blocked = subst (StandsIn runs) (and_back _) (start_stands runs ascend i run inside_up);
    };
    down = λ held _. absurd (free held);
  }

-- down from a free position to a blocked one: the run before the place where the search for the free one ends is the first on the way
module _ (runs : List Run) (ascend : AreAscending runs) (low high : ℤ) (i : ℕ) (is : IsBefore runs high i) (order : low <ℤ high) (blocked : StandsIn runs low) (free : ¬ StandsIn runs high) where
  sooner : blocked.member.0 < i
  sooner =
      let h = at_from runs low blocked in
      let k = blocked.member.0 in
      not_from i k (λ e. free (stands_at runs high k blocked.run (record {
        inside = h.inside;
        first = through _ low high h.first (below low high high order (end_kept high));
        last = is.after k blocked.run e h.inside;
      })))
    where
      not_from : (i k : ℕ) → (i ≤ k → ⊥) → k < i
      not_from i k refuted = omega (refuted, arith)

  inside_down : i - 1 < length runs
  inside_down = let h = sooner in omega (h, is.before.few, arith)

  pub end_ok : (run : Run) → Within MAX_COORDINATE (slice_index_or runs (i - 1) run).last
  end_ok run = ascend.last_ok (i - 1) run inside_down

  ends_before : (run : Run) → (slice_index_or runs (i - 1) run).last <ℤ high
  ends_before run = let h = sooner in is.before.each (i - 1) run (omega (h, arith))

  ends_after : (run : Run) → low ≤ℤ (slice_index_or runs (i - 1) run).last
  ends_after run =
      let h = at_from runs low blocked in
      let k = sooner in
      subst (λ (r : Run). low ≤ℤ r.last) (get_or_default runs (i - 1) blocked.run run inside_down)
      (through low _ _ h.last (ascend.lasts blocked.member.0 (i - 1) blocked.run (omega (k, arith)) inside_down))

  -- after that run's end nothing is blocked
  passed : (run : Run) (w : ℤ) → ((slice_index_or runs (i - 1) run).last +ℤ pos 1) ≤ℤ w → w ≤ℤ high → ¬ StandsIn runs w
  passed run w a b s =
      let h = at_from runs w s in
      let k = s.member.0 in
      let mine : Run = slice_index_or runs k s.run in
      let over : high ≤ℤ mine.last = is.after k s.run (from i k (λ e. clash (slice_index_or runs (i - 1) s.run).last w (start s.run a) (through w _ _ h.last (lasts k e)))) h.inside in
      free (stands_at runs high k s.run (record { inside = h.inside; first = through mine.first w high h.first b; last = over }))
    where
      start : (other : Run) → ((slice_index_or runs (i - 1) run).last +ℤ pos 1) ≤ℤ w → ((slice_index_or runs (i - 1) other).last +ℤ pos 1) ≤ℤ w
      start other a = subst (λ (r : Run). (r.last +ℤ pos 1) ≤ℤ w) (get_or_default runs (i - 1) run other inside_down) a

      lasts : (k : ℕ) → k < i → (slice_index_or runs k s.run).last ≤ℤ (slice_index_or runs (i - 1) s.run).last
      lasts k e = ascend.lasts k (i - 1) s.run (omega (e, arith)) inside_down

      clash : (a w : ℤ) → (a +ℤ pos 1) ≤ℤ w → w ≤ℤ a → ⊥
      clash a w h e = omega (h, e, arith, ints)

  pub place_down : (run : Run) → IsPlaceBetween (StandsIn runs) low high ((slice_index_or runs (i - 1) run).last +ℤ pos 1)
  place_down run = record {
    up = λ held _. absurd (held blocked);
    down = λ _ _. record {
      from = after_it low _ (ends_after run);
      to = to_after _ high (ends_before run);
      free = passed run;
      blocked = subst (StandsIn runs) (back_again _) (end_stands runs ascend (i - 1) run inside_down);
    };
  }

-- between two positions that are both free or both blocked there is no such place
pub none_placed : (runs : List Run) (low high place : ℤ) → (StandsIn runs low → StandsIn runs high) → (StandsIn runs high → StandsIn runs low) → IsPlaceBetween (StandsIn runs) low high place
none_placed runs low high place there back = record { up = λ free held. absurd (free (back held)); down = λ held free. absurd (free (there held)) }

-- the neighbours of a run's ends fit
pub more_fits : (v : ℤ) → Within MAX_COORDINATE v → FitsSigned w32 (v +ℤ pos 1)
more_fits v h = fits_signed_from_abs w32 (v +ℤ pos 1) small
  where
    small : nat_abs (v +ℤ pos 1) < 2147483648
    small = let w = h.within in omega (arith, ints)

pub less_fits : (v : ℤ) → Within MAX_COORDINATE v → FitsSigned w32 (v -ℤ pos 1)
less_fits v h = fits_signed_from_abs w32 (v -ℤ pos 1) small
  where
    small : nat_abs (v -ℤ pos 1) < 2147483648
    small = let w = h.within in omega (arith, ints)
