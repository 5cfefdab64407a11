-- There is at most one list of runs.
use Rattle.std.specs.Prelude.{◌≡◌, ℤ, pos, ◌+ℤ◌, ◌<ℤ◌, int_lt, Bool, true, false, List, [], ◌∷◌, refl}
use Rattle.std.proofs.Common.{sym, ◌∙◌, ap, subst, arith}
use Rattle.std.proofs.lemmas.Int.{ints}
use Rattle.mill_push.specs.Runs.{IsNextRun, RunsOf}
use Rattle.mill_push.specs.declared.fiber.Run.{Run}

module _ (blocked : ℤ → Type 0) (to : ℤ) where
  same_place : (a b : ℤ) → ¬ (a <ℤ b) → ¬ (b <ℤ a) → a ≡ b
  same_place a b h g = by (int_lt a b) (int_lt b a) refl refl
    where
      by : (s t : Bool) → int_lt a b ≡ s → int_lt b a ≡ t → a ≡ b
      by true t e f = absurd (h (omega (e, arith, ints)))
      by false true e f = absurd (g (omega (f, arith, ints)))
      by false false e f = omega (e, f, arith, ints)

  not_sooner : (from : ℤ) (a b : Run) → IsNextRun blocked from to a → IsNextRun blocked from to b → ¬ (a.first <ℤ b.first)
  not_sooner from a b h g less = g.before a.first h.after less (h.blocks a.first (omega (arith, ints)) h.some)

  not_shorter : (from : ℤ) (a b : Run) → a.first ≡ b.first → IsNextRun blocked from to a → IsNextRun blocked from to b → ¬ (a.last <ℤ b.last)
  not_shorter from a b e h g less = h.stops (omega (less, g.within, arith, ints)) (g.blocks (a.last +ℤ pos 1) (omega (e, h.some, arith, ints)) (omega (less, arith, ints)))

  same_run : (from : ℤ) (a b : Run) → IsNextRun blocked from to a → IsNextRun blocked from to b → a ≡ b
  same_run from a b h g =
      let e : a.first ≡ b.first = same_place a.first b.first (not_sooner from a b h g) (not_sooner from b a g h) in
      let f : a.last ≡ b.last = same_place a.last b.last (not_shorter from a b e h g) (not_shorter from b a (sym e) g h) in
      ap (λ (n : ℤ). record { first = n; last = a.last }) e ∙ ap (λ (n : ℤ). record { first = b.first; last = n }) f

  not_none : (from : ℤ) (a : Run) → IsNextRun blocked from to a → ¬ RunsOf blocked from to []
  not_none from a h free = free a.first h.after (omega (h.some, h.within, arith, ints)) (h.blocks a.first (omega (arith, ints)) h.some)

  pub one_list : (from : ℤ) (runs others : List Run) → RunsOf blocked from to runs → RunsOf blocked from to others → runs ≡ others
  one_list from [] [] h g = refl
  one_list from [] (b ∷ others) h g = absurd (not_none from b g.0 h)
  one_list from (a ∷ runs) [] h g = absurd (not_none from a h.0 g)
  one_list from (a ∷ runs) (b ∷ others) h g =
      let e : a ≡ b = same_run from a b h.0 g.0 in
      let g2 : RunsOf blocked (a.last +ℤ pos 1) to others = subst (λ (r : Run). RunsOf blocked (r.last +ℤ pos 1) to others) (sym e) g.1 in
      ap (λ (r : Run). r ∷ runs) e ∙ ap (λ (rs : List Run). b ∷ rs) (one_list (a.last +ℤ pos 1) runs others h.1 g2)
