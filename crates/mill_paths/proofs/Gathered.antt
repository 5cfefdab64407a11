-- The answers at numbers, gathered up: all at once, or one after another.
use Rattle.std.proofs.Common.{◌≡◌, ℕ, zero, suc, ◌+◌, ◌-◌, ◌<◌, ◌≤◌, List, [], ◌∷◌, ◌++◌, length, map, take, get_or, sym, ap, ◌∙◌, subst, subst₂, arith}
use Rattle.std.specs.Prelude.{Contains, IfOk, MatchResult, Result, Ok, Err}
use Rattle.std.specs.List.{AllZip, range_with_len}
use Rattle.std.proofs.lemmas.List.{map_push}
use Rattle.std.proofs.lemmas.Slice.Zip.{all_zipped_more}
use Rattle.mill_drop.proofs.Listed.{AllZip-listed}
use Rattle.mill_drop.proofs.RowLemmas.{zip_more}

module _ {V E : Type 0} (R : ℕ → Result V E → Type 0) where
  -- what is known of each of the answers, where all are there
  each_made : {Y : Type 0} (S : ℕ → Y → Type 0) (f : V → Y) → ((k : ℕ) (v : V) → R k (Ok v) → S k (f v)) → (ks : List ℕ) (vs : List V)
      → AllZip R ks (map Ok vs) → AllZip S ks (map f vs)
  each_made S f give [] [] h = tt
  each_made S f give [] (v ∷ vs) h = absurd h
  each_made S f give (k ∷ ks) [] h = absurd h
  each_made S f give (k ∷ ks) (v ∷ vs) h = (give k v h.0, each_made S f give ks vs h.1)

  module _ {C : Type 0} (items : C → List V) (ks : List ℕ) (xs : List (Result V E)) (each : AllZip R ks xs) where
    -- the answers of all numbers of a list's items are those of its items
    pub when_made : {X Y : Type 0} (S : X → Y → Type 0) (f : V → Y) (zs : List X) (d : X) → ks ≡ range_with_len 0 (length zs) → ((k : ℕ) (v : V) → R k (Ok v) → S (get_or zs k d) (f v))
        → (r : Result C E) → MatchResult r (λ c. (vs : List V) × (xs ≡ map Ok vs) × (items c ≡ vs)) (λ e. Contains xs (Err e)) → IfOk r (λ c. AllZip S zs (map f (items c)))
    when_made S f zs d numbers give (Ok c) h =
        let made : AllZip (λ k y. S (get_or zs k d) y) ks (map f h.0) = each_made (λ k y. S (get_or zs k d) y) f give ks h.0 (subst (λ rs. AllZip R ks rs) h.1 each) in
        subst (λ vs. AllZip S zs (map f vs)) (sym h.2) (AllZip-listed S zs d (map f h.0) (subst (λ ns. AllZip (λ k y. S (get_or zs k d) y) ns (map f h.0)) numbers made))
    when_made S f zs d numbers give (Err e) h = tt

    -- and so they are by these numbers themselves
    pub when_counted : {Y : Type 0} (S : ℕ → Y → Type 0) (f : V → Y) → ((k : ℕ) (v : V) → R k (Ok v) → S k (f v))
        → (r : Result C E) → MatchResult r (λ c. (vs : List V) × (xs ≡ map Ok vs) × (items c ≡ vs)) (λ e. Contains xs (Err e)) → IfOk r (λ c. AllZip S ks (map f (items c)))
    when_counted S f give (Ok c) h =
        subst (λ vs. AllZip S ks (map f vs)) (sym h.2) (each_made S f give ks h.0 (subst (λ rs. AllZip R ks rs) h.1 each))
    when_counted S f give (Err e) h = tt

-- one more number after those before it
pub numbers_more : (a n : ℕ) → range_with_len a (suc n) ≡ range_with_len a n ++ (a + n) ∷ []
numbers_more a zero = ap (λ (m : ℕ). m ∷ []) (plain a)
  where
    plain : (a : ℕ) → a ≡ a + 0
    plain a = omega arith
numbers_more a (suc n) = ap (λ (ks : List ℕ). a ∷ ks) (numbers_more (a + 1) n ∙ ap (λ (m : ℕ). range_with_len (a + 1) n ++ m ∷ []) (next a n))
  where
    next : (a n : ℕ) → a + 1 + n ≡ a + suc n
    next a n = omega arith

-- of the numbers from one on, one more after those up to it
numbers_to : (a k : ℕ) → a ≤ k → range_with_len a (k + 1 - a) ≡ range_with_len a (k - a) ++ k ∷ []
numbers_to a k after = ap (range_with_len a) (one a k after) ∙ numbers_more a (k - a) ∙ ap (λ (m : ℕ). range_with_len a (k - a) ++ m ∷ []) (up a k after)
  where
    one : (a k : ℕ) → a ≤ k → k + 1 - a ≡ suc (k - a)
    one a k h = omega (h, arith)

    up : (a k : ℕ) → a ≤ k → a + (k - a) ≡ k
    up a k h = omega (h, arith)

-- no answers, of no numbers
pub counted_none : {V Y : Type 0} (S : ℕ → Y → Type 0) (f : V → Y) (a : ℕ) (vs : List V) → vs ≡ [] → AllZip S (range_with_len a (a - a)) (map f vs)
counted_none S f a vs none = subst₂ (λ ks ys. AllZip S ks ys) (sym (ap (range_with_len a) (same a))) (sym (ap (map f) none)) tt
  where
    same : (a : ℕ) → a - a ≡ 0
    same a = omega arith

-- one more answer after those of the numbers before it
pub counted_more : {V Y : Type 0} (S : ℕ → Y → Type 0) (f : V → Y) (a k : ℕ) (vs ws : List V) (v : V) → a ≤ k
    → AllZip S (range_with_len a (k - a)) (map f vs) → S k (f v) → ws ≡ vs ++ v ∷ [] → AllZip S (range_with_len a (k + 1 - a)) (map f ws)
counted_more S f a k vs ws v after before here more =
    subst₂ (λ ks ys. AllZip S ks ys) (sym (numbers_to a k after)) (sym (ap (map f) more ∙ map_push f vs v)) (all_zipped_more S (range_with_len a (k - a)) (map f vs) k (f v) before here)

-- and after those of the items before it of a list
pub made_more : {X V Y : Type 0} (S : X → Y → Type 0) (f : V → Y) (zs : List X) (vs ws : List V) (k : ℕ) (d : X) (v : V) → k < length zs
    → AllZip S (take k zs) (map f vs) → S (get_or zs k d) (f v) → ws ≡ vs ++ v ∷ [] → AllZip S (take (k + 1) zs) (map f ws)
made_more S f zs vs ws k d v inside before here more = zip_more S zs (map f vs) (map f ws) k d (f v) inside before here (ap (map f) more ∙ map_push f vs v)
