-- Sums over views and slots of which one is set, and how often a number stands in a list.
use Rattle.std.proofs.Common.{◌≡◌, ◌≢◌, ℕ, zero, suc, ◌+◌, ◌<◌, ◌≤◌, ◌==◌, min, Bool, true, false, cond, List, [], ◌∷◌, ◌++◌, length, set, take, refl, sym, ap, ◌∙◌, arith}
use Rattle.std.specs.Prelude.{sum_by}
use Rattle.std.proofs.lemmas.Bool.Decides.{nat_tests}
use Rattle.std.proofs.lemmas.List.Sums.{sum_by-cons, sum_by_push}
use mathlib.Core.Option.{some, some-injective, some-ne-none, none, Option}
use lib.ListN.{get_elem?}
use Rattle.mill_board.specs.Kept.{times, once_under, is_home}

pub times_push : (n c : ℕ) (xs : List ℕ) → times n (xs ++ c ∷ []) ≡ times n xs + cond (c == n) 1 0
times_push n c xs = sum_by_push (λ m. cond (m == n) 1 0) xs c

module _ {A : Type 0} (f : A → ℕ) where
  pub sum_set : (vs : List A) (i : ℕ) (v w : A) → get_elem? vs i ≡ some v → sum_by f (set vs i w) + f v ≡ sum_by f vs + f w
  sum_set [] i v w e = absurd (some-ne-none v (sym e))
  sum_set (x ∷ xs) zero v w e = let a : f x ≡ f v = ap f (some-injective x v e) in let b = sum_by-cons f w xs in let c = sum_by-cons f x xs in omega (arith, a, b, c)
  sum_set (x ∷ xs) (suc i) v w e = let a = sum_set xs i v w e in let b = sum_by-cons f x (set xs i w) in let c = sum_by-cons f x xs in omega (arith, a, b, c)

  pub sum_has : (vs : List A) (i : ℕ) (v : A) → get_elem? vs i ≡ some v → f v ≤ sum_by f vs
  sum_has [] i v e = absurd (some-ne-none v (sym e))
  sum_has (x ∷ xs) zero v e = let a : f x ≡ f v = ap f (some-injective x v e) in let b = sum_by-cons f x xs in omega (arith, a, b)
  sum_has (x ∷ xs) (suc i) v e = let a = sum_has xs i v e in let b = sum_by-cons f x xs in omega (arith, a, b)

  -- two of them together are at most the sum
  pub sum_has_two : (vs : List A) (i j : ℕ) (v w : A) → i ≢ j → get_elem? vs i ≡ some v → get_elem? vs j ≡ some w → f v + f w ≤ sum_by f vs
  sum_has_two [] i j v w ne e g = absurd (some-ne-none v (sym e))
  sum_has_two (x ∷ xs) zero zero v w ne e g = absurd (ne refl)
  sum_has_two (x ∷ xs) zero (suc j) v w ne e g = let a : f x ≡ f v = ap f (some-injective x v e) in let b = sum_has xs j w g in let c = sum_by-cons f x xs in omega (arith, a, b, c)
  sum_has_two (x ∷ xs) (suc i) zero v w ne e g = let a : f x ≡ f w = ap f (some-injective x w g) in let b = sum_has xs i v e in let c = sum_by-cons f x xs in omega (arith, a, b, c)
  sum_has_two (x ∷ xs) (suc i) (suc j) v w ne e g = let b = sum_has_two xs i j v w (λ q. ne (ap suc q)) e g in let c = sum_by-cons f x xs in omega (arith, b, c)

  pub sum_under : (g : A → ℕ) → ((v : A) → f v ≤ g v) → (vs : List A) → sum_by f vs ≤ sum_by g vs
  sum_under g le [] = omega arith
  sum_under g le (x ∷ xs) = let a = le x in let b = sum_under g le xs in let c = sum_by-cons f x xs in let d = sum_by-cons g x xs in omega (arith, a, b, c, d)

-- where the claim rises by one, exactly its old number is drawn
pub once_more : (n c k : ℕ) → c < k → once_under n (min c k) + cond (c == n) 1 0 ≡ once_under n (min (c + 1) k)
once_more n c k lt = grind (arith, nat_tests)

pub once_same : (n c k : ℕ) → k ≤ c → once_under n (min c k) ≡ once_under n (min (c + 1) k)
once_same n c k le = grind (arith, nat_tests)

pub once_none : (c k : ℕ) → once_under c (min c k) ≡ 0
once_none c k = grind (arith, nat_tests)

pub once_some : (n c k : ℕ) → 0 < once_under n (min c k) → n < c
once_some n c k lt = grind (arith, nat_tests)

pub once_in : (n c k : ℕ) → 0 < once_under n (min c k) → (n < c) × (n < k)
once_in n c k lt = let a : n < c = grind (arith, nat_tests) in let b : n < k = grind (arith, nat_tests) in (a, b)

pub once_at_most : (n k : ℕ) → once_under n k ≤ 1
once_at_most n k = grind (arith, nat_tests)

pub once_least : (n k : ℕ) → once_under n (min 0 k) ≡ 0
once_least n k = grind (arith, nat_tests)

pub some_or_none : (b : Bool) (n : ℕ) → cond b n 0 ≤ n
some_or_none true n = omega arith
some_or_none false n = omega arith

module _ {A : Type 0} where
  pub here : (l : List A) (i : ℕ) (v a : A) → get_elem? l i ≡ some v → get_elem? (set l i a) i ≡ some a
  here [] i v a e = absurd (some-ne-none v (sym e))
  here (x ∷ xs) zero v a e = refl
  here (x ∷ xs) (suc i) v a e = here xs i v a e

  -- how many of the slots under a bound are at home
  abbrev pub homes : List (Option A) → ℕ → ℕ
  homes hs c = sum_by is_home (take c hs)

  homes_more : (x : Option A) (xs : List (Option A)) (c : ℕ) → homes (x ∷ xs) (suc c) ≡ is_home x + homes xs c
  homes_more x xs c = sum_by-cons is_home x (take c xs)

  -- a slot that is taken doesn't count, and the bound passes it
  pub homes_taken : (hs : List (Option A)) (c : ℕ) → homes (set hs c none) (suc c) ≡ homes hs c
  homes_taken [] zero = refl
  homes_taken [] (suc c) = refl
  homes_taken (x ∷ xs) zero = refl
  homes_taken (x ∷ xs) (suc c) = homes_more x (set xs c none) (suc c) ∙ ap (λ n. is_home x + n) (homes_taken xs c) ∙ sym (homes_more x xs c)

  -- past the last slot nothing more is counted
  pub homes_past : (hs : List (Option A)) (c : ℕ) → length hs ≤ c → homes hs (suc c) ≡ homes hs c
  homes_past [] zero le = refl
  homes_past [] (suc c) le = refl
  homes_past (x ∷ xs) zero le = absurd (omega arith)
  homes_past (x ∷ xs) (suc c) le = homes_more x xs (suc c) ∙ ap (λ n. is_home x + n) (homes_past xs c (omega arith)) ∙ sym (homes_more x xs c)

  -- a slot that is given back counts
  pub homes_back : (hs : List (Option A)) (c n : ℕ) (a : A) → n < c → get_elem? hs n ≡ some none → homes (set hs n (some a)) c ≡ homes hs c + 1
  homes_back hs zero n a lt e = absurd (omega arith)
  homes_back [] (suc c) n a lt e = absurd (some-ne-none none (sym e))
  homes_back (x ∷ xs) (suc c) zero a lt e = let t : is_home x ≡ 0 = ap is_home (some-injective x none e) in let b = homes_more x xs c in let d = homes_more (some a) xs c in omega (arith, t, b, d)
  homes_back (x ∷ xs) (suc c) (suc n) a lt e = let t = homes_back xs c n a (omega arith) e in let b = homes_more x xs c in let d = homes_more x (set xs n (some a)) c in omega (arith, t, b, d)

  home_one : (x : Option A) → is_home x ≤ 1
  home_one none = omega arith
  home_one (some x) = omega arith

  pub homes_most : (hs : List (Option A)) (c : ℕ) → homes hs c ≤ min c (length hs)
  homes_most hs zero = omega arith
  homes_most [] (suc c) = omega arith
  homes_most (x ∷ xs) (suc c) = let t = homes_most xs c in let a = home_one x in let b = homes_more x xs c in omega (arith, t, a, b)

  -- where as many are at home as can be, each is
  pub all_home : (hs : List (Option A)) (c n : ℕ) → homes hs c ≡ min c (length hs) → n < min c (length hs) → (x : A) × (get_elem? hs n ≡ some (some x))
  all_home [] c n e lt = absurd (omega arith)
  all_home (x ∷ xs) zero n e lt = absurd (omega arith)
  all_home (none ∷ xs) (suc c) n e lt = absurd (let t = homes_most xs c in let b = homes_more none xs c in omega (arith, t, e, b))
  all_home (some x ∷ xs) (suc c) zero e lt = (x, refl)
  all_home (some x ∷ xs) (suc c) (suc n) e lt = all_home xs c n (let b = homes_more (some x) xs c in omega (arith, e, b)) (omega arith)
