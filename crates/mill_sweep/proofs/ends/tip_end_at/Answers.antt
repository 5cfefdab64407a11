use Rattle.std.proofs.Common.{◌≡◌, ◌∙◌, ◌-◌, ◌^◌, ◌≤◌, ◌-ℤ◌, ◌*ℤ◌, ℕ, pos, [], ◌∷◌, refl, w32, w64, arith}
use Rattle.std.proofs.lemmas.Int.{ints}
use Rattle.mill_base.proofs.Machine.{Read, Sum, exact, kept}
use Rattle.mill_sweep.proofs.Spans.{parts_most, tip_end_small, tip_end_within}
use Rattle.mill_sweep.specs.Widths.{highest_end, highest_tip}
use Rattle.mill_sweep.proofs.ends.tip_end_at.Goals as goal

pub weighed-requires-clause-weight_ok : goal.weighed-requires-clause-weight_ok
weighed-requires-clause-weight_ok c = let small = parts_most c.args.d c.requires.d_ok in let parts = c.power_of_two.ensures in omega arith

pub weighed-requires-2-clause-weight_ok : goal.weighed-requires-2-clause-weight_ok
weighed-requires-2-clause-weight_ok c = let small = parts_most c.args.d c.requires.d_ok in let under = c.requires.k_ok in omega arith

-- the parts that are left, as a difference
rest : (n k : ℕ) → k ≤ n → pos (n - k) ≡ pos n -ℤ pos k
rest n k h = omega (arith, ints)

pub returns-clause-value : goal.returns-clause-value
returns-clause-value c =
    let keep_from = kept w32 c.args.from highest_tip c.requires.from_ok.within refl in
    let keep_to = kept w32 c.args.to highest_tip c.requires.to_ok.within refl in
    let first : c.weighed.result ≡ (pos (2 ^ c.args.d) -ℤ pos c.args.k) *ℤ c.args.from = rw (keep_from, c.power_of_two.ensures, rest (2 ^ c.args.d) c.args.k c.requires.k_ok) at c.weighed.ensures.value in
    let last : c.weighed-2.result ≡ pos c.args.k *ℤ c.args.to = rw keep_to at c.weighed-2.ensures.value in
    exact (c.weighed.result ∷ c.weighed-2.result ∷ []) (highest_end ∷ highest_end ∷ []) (Sum w64 (Read w64 0) (Read w64 1)) (c.weighed.ensures.bound.within, (c.weighed-2.ensures.bound.within, tt)) refl ∙ rw (first, last) refl

pub returns-clause-within : goal.returns-clause-within
returns-clause-within c = rw (returns-clause-value c) (tip_end_within c.args.from c.args.to c.args.d c.args.k c.requires.from_ok.within c.requires.to_ok.within c.requires.k_ok)

pub returns-clause-bound : goal.returns-clause-bound
returns-clause-bound c = record { within = tip_end_small _ c.args.d c.requires.d_ok (returns-clause-within c) }
