-- Which numbers stand in the lists of the seats, where a view changes, and what the rule says of them.
use Rattle.std.proofs.Common.{◌≡◌, ◌⊎◌, ℕ, zero, suc, ◌<◌, min, List, [], ◌∷◌, set, refl, sym, ap, subst, ◌∙◌, arith, inl, inr, ⊎_elim, lt_of_not-le}
use Rattle.std.specs.Prelude.{sum_by}
use Rattle.std.proofs.lemmas.Bool.Decides.{nat_tests}
use Rattle.std.proofs.lemmas.List.Sums.{sum_by-cons}
use mathlib.Core.Logic.{dite}
use mathlib.Core.Option.{some, some-injective}
use native.Mathlib.Decide.{dec_le, ℕ_discrete}
use lib.ListN.{get_elem?}
use Rattle.atomic_table.proofs.Lists.{set_else}
use Rattle.mill_board.specs.declared.work.Terms.{Terms}
use Rattle.mill_board.specs.declared.view.View.{View}
use Rattle.mill_board.specs.Works.{Means, FailsAt, IsFailure}
use Rattle.mill_board.specs.Kept.{BoardState, IsListed, IsListedFailure, Kept, claim_of, once_under, times}
use Rattle.mill_board.specs.Rules.{DrawsAll, DrawsOnce, NoneTwice}
use Rattle.mill_board.proofs.Sums.{here, once_at_most, once_in, sum_has, sum_has_two}

-- where a sum is more than nothing, one of its parts is
sum_some : {A : Type 0} (f : A → ℕ) (vs : List A) → 0 < sum_by f vs → (i : ℕ) × (v : A) × (get_elem? vs i ≡ some v) × (0 < f v)
sum_some f [] lt = absurd (omega (arith, lt))
sum_some f (x ∷ xs) lt = dite (dec_le 1 (f x)) (λ le. (zero, x, refl, omega (arith, le)))
    (λ gt. let few = lt_of_not-le gt in let a = sum_by-cons f x xs in let t = sum_some f xs (omega (arith, lt, few, a)) in (suc t.0, t.1, t.2, t.3))

once_one : (n c k : ℕ) → n < c → n < k → 0 < once_under n (min c k)
once_one n c k lt lt' = grind (arith, nat_tests)

module _ {W : Type 0} where
  -- a number stands in the list of one of these views
  abbrev pub Listed : List (View W) → ℕ → Type 0
  Listed vs n = (seat : ℕ) × (v : View W) × (get_elem? vs seat ≡ some v) × (0 < times n v.drawn)

  -- a number that was listed still is, where a view is set whose list has it if it had it
  pub listed_set : (vs : List (View W)) (id : ℕ) (v w : View W) (n : ℕ) → get_elem? vs id ≡ some v → (0 < times n v.drawn → 0 < times n w.drawn) → Listed vs n → Listed (set vs id w) n
  listed_set vs id v w n at more q = dite (ℕ_discrete q.0 id)
      (λ x. let y : some q.1 ≡ some v = sym q.2 ∙ ap (get_elem? vs) x ∙ at in
      (id, w, here vs id v w at, more (subst (λ (k : View W). 0 < times n k.drawn) (some-injective q.1 v y) q.3)))
      (λ ne. (q.0, q.1, set_else vs id q.0 w ne ∙ q.2, q.3))

  -- the number of turns, or a turn at which a listed piece fails
  abbrev pub FailsIn : {P : Type 0} → Means W P → Terms W → List (View W) → ℕ → Type 0
  FailsIn M terms vs t = (t ≡ terms.turns) ⊎ ((n : ℕ) × Listed vs n × FailsAt M terms.work n t)

  pub fails_more : {P : Type 0} (M : Means W P) (terms : Terms W) (vs ws : List (View W)) (t : ℕ) → ((n : ℕ) → Listed vs n → Listed ws n) → FailsIn M terms vs t → FailsIn M terms ws t
  fails_more M terms vs ws t more f = ⊎_elim inl (λ (q : (n : ℕ) × Listed vs n × FailsAt M terms.work n t). inr (q.0, more q.0 q.1, q.2)) f

module _ {W P : Type 0} (M : Means W P) (terms : Terms W) (s : BoardState W P) (h : Kept M terms s) where
  -- a listed number is under the claim and the count of pieces
  pub listed_in : (n : ℕ) → IsListed s n → (n < claim_of s) × (n < M.pieces terms.work)
  listed_in n q =
      let all = sum_has (λ (u : View W). times n u.drawn) s.views q.0 q.1 q.2 in let sum = h.numbers n in let one = q.3 in
      once_in n (claim_of s) (M.pieces terms.work) (omega (arith, one, all, sum))

  pub in_list : (n : ℕ) → (n < claim_of s) × (n < M.pieces terms.work) → IsListed s n
  in_list n under =
      let sum = h.numbers n in let one = once_one n (claim_of s) (M.pieces terms.work) under.0 under.1 in
      sum_some (λ (u : View W). times n u.drawn) s.views (omega (arith, sum, one))

  -- a turn at which a listed piece fails is one at which a piece fails
  pub is_failure : (t : ℕ) → IsListedFailure M terms s t → IsFailure M terms t
  is_failure t f = ⊎_elim inl (λ (q : (n : ℕ) × IsListed s n × FailsAt M terms.work n t). inr (q.0, (listed_in q.0 q.1).1, q.2)) f

  pub none_twice : NoneTwice s
  none_twice = record {
    once = λ seat v n at. let all = sum_has (λ (u : View W). times n u.drawn) s.views seat v at in let sum = h.numbers n in let most = once_at_most n (min (claim_of s) (M.pieces terms.work)) in
        omega (arith, all, sum, most);
    apart = λ i j v w n at at' a b. dite (ℕ_discrete i j) (λ (e : i ≡ j). e)
        (λ ne. let two = sum_has_two (λ (u : View W). times n u.drawn) s.views i j v w ne at at' in let sum = h.numbers n in let most = once_at_most n (min (claim_of s) (M.pieces terms.work)) in
        absurd (omega (arith, a, b, two, sum, most)));
  }

pub draws_once : {W P : Type 0} (M : Means W P) → DrawsOnce (Kept M)
draws_once M terms s h = none_twice M terms s h

pub draws_all : {W P : Type 0} (M : Means W P) → DrawsAll M (Kept M)
draws_all M terms s h n = (listed_in M terms s h n, in_list M terms s h n)
