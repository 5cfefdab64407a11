-- The places of a path, found by halving: there are halvings enough, and from place to place the tool goes straight.
use Rattle.std.proofs.Common.{◌≡◌, inl, inr, ℕ, zero, suc, ◌+◌, ◌-◌, ◌<◌, ◌≤◌, ◌==◌, if◌then◌else◌, Bool, true, false, List, [], ◌∷◌, ◌++◌, refl, sym, ap, ap₂, ◌∙◌, subst, arith}
use Rattle.std.specs.List.{All, list_all, range_with_len}
use Rattle.std.proofs.lemmas.Bool.{cases_lt, eqb-true, eqb-false, both_ways}
use Rattle.std.proofs.lemmas.List.Elements.{All-nil, All-cons}
use lib.IntN.{ℤ}
use Rattle.mill_drop.specs.Paths.{is_kept_at, is_straight, middle, places_by, places_after, path_places, PathsAreHalved}

-- between neighbours there is no place, so the tool goes straight
none_between : (heights : List ℤ) (tol : ℤ) (p q : ℕ) → q ≤ p + 1 → is_straight heights tol p q ≡ true
none_between heights tol p q near = ap (λ n. list_all (is_kept_at heights tol p q) (range_with_len (p + 1) n)) none
  where
    none : q - p - 1 ≡ 0
    none = omega arith

-- so where it doesn't there is a place between, and the middle is one
pub has_between : (heights : List ℤ) (tol : ℤ) (p q : ℕ) → is_straight heights tol p q ≡ false → p + 1 < q
has_between heights tol p q bent = elim (cases_lt (p + 1) q) [
  | inl h ↦ h
  | inr h ↦ absurd (both_ways (is_straight heights tol p q) bent (none_between heights tol p q h))
]

pub middle_after : (p q : ℕ) → p + 1 < q → p < middle p q
middle_after p q h = omega arith

pub middle_before : (p q : ℕ) → p + 1 < q → middle p q < q
middle_before p q h = omega arith

-- what is left to halve of either half
first_fewer : (p q m n : ℕ) → p < m → m < q → q - p ≤ suc n → m - p ≤ n
first_fewer p q m n a b h = omega arith

second_fewer : (p q m n : ℕ) → p < m → m < q → q - p ≤ suc n → q - m ≤ n
second_fewer p q m n a b h = omega arith

none_left : (p q : ℕ) → p < q → q - p ≤ 0 → ⊥
none_left p q h e = omega arith

-- more halvings than there are steps change nothing
enough : (n m : ℕ) (heights : List ℤ) (tol : ℤ) (p q : ℕ) → p < q → q - p ≤ n → q - p ≤ m → places_by n heights tol p q ≡ places_by m heights tol p q
enough zero m heights tol p q order h k = absurd (none_left p q order h)
enough (suc n) zero heights tol p q order h k = absurd (none_left p q order k)
enough (suc n) (suc m) heights tol p q order h k =
    let mid = middle p q in
    by (is_straight heights tol p q) refl
    (λ b. let a = middle_after p q b in let z = middle_before p q b in
    ap₂ (λ (xs ys : List ℕ). xs ++ ys)
    (enough n m heights tol p mid a (first_fewer p q mid n a z h) (first_fewer p q mid m a z k))
    (enough n m heights tol mid q z (second_fewer p q mid n a z h) (second_fewer p q mid m a z k)))
  where
    by : (t : Bool) → is_straight heights tol p q ≡ t
        → (p + 1 < q → places_by n heights tol p (middle p q) ++ places_by n heights tol (middle p q) q ≡ places_by m heights tol p (middle p q) ++ places_by m heights tol (middle p q) q)
        → (if t then q ∷ [] else places_by n heights tol p (middle p q) ++ places_by n heights tol (middle p q) q)
        ≡ (if t then q ∷ [] else places_by m heights tol p (middle p q) ++ places_by m heights tol (middle p q) q)
    by true e both = refl
    by false e both = both (has_between heights tol p q e)

-- the first halving of a place and a later one
once : (heights : List ℤ) (tol : ℤ) (p q : ℕ) (t : Bool) → p < q → is_straight heights tol p q ≡ t
    → places_after heights tol p q ≡ (if t then q ∷ [] else places_by (q - p - 1) heights tol p (middle p q) ++ places_by (q - p - 1) heights tol (middle p q) q)
once heights tol p q t order e =
    ap (λ n. places_by n heights tol p q) some
    ∙ ap (λ b. if b then q ∷ [] else places_by (q - p - 1) heights tol p (middle p q) ++ places_by (q - p - 1) heights tol (middle p q) q) e
  where
    some : q - p ≡ suc (q - p - 1)
    some = omega arith

pub halved : PathsAreHalved
halved heights tol p q order = record {
  straight = λ e. once heights tol p q true order e;
  halved = λ e.
      let b = has_between heights tol p q e in
      let m = middle p q in
      let a = middle_after p q b in
      let z = middle_before p q b in
      once heights tol p q false order e
      ∙ ap₂ (λ (xs ys : List ℕ). xs ++ ys)
      (enough (q - p - 1) (m - p) heights tol p m a (first_half m a z) (level (m - p)))
      (enough (q - p - 1) (q - m) heights tol m q z (second_half m a z) (level (q - m)));
}
  where
    level : (n : ℕ) → n ≤ n
    level n = omega arith

    first_half : (m : ℕ) → p < m → m < q → m - p ≤ q - p - 1
    first_half m a z = omega arith

    second_half : (m : ℕ) → p < m → m < q → q - m ≤ q - p - 1
    second_half m a z = omega arith

-- ---- from place to place

-- from place p on the tool goes straight to the first of these places, from it to the next, and so on to place n
abbrev pub GoStraight : List ℤ → ℤ → ℕ → ℕ → List ℕ → Type 0
GoStraight heights tol n p [] = p ≡ n
GoStraight heights tol n p (q ∷ places) = ((p < q) × (is_straight heights tol p q ≡ true)) × GoStraight heights tol n q places

-- up to place m, and from it on
straight_twice : (heights : List ℤ) (tol : ℤ) (n m p : ℕ) (xs ys : List ℕ) → GoStraight heights tol m p xs → GoStraight heights tol n m ys → GoStraight heights tol n p (xs ++ ys)
straight_twice heights tol n m p [] ys h k = subst (λ a. GoStraight heights tol n a ys) (sym h) k
straight_twice heights tol n m p (q ∷ xs) ys h k = (h.0, straight_twice heights tol n m q xs ys h.1 k)

-- so the tool goes over the places that halving finds
straight_by : (n : ℕ) (heights : List ℤ) (tol : ℤ) (p q : ℕ) → p < q → q - p ≤ n → GoStraight heights tol q p (places_by n heights tol p q)
straight_by zero heights tol p q order h = absurd (none_left p q order h)
straight_by (suc n) heights tol p q order h =
    let mid = middle p q in
    by (is_straight heights tol p q) refl
    (λ b. let a = middle_after p q b in let z = middle_before p q b in
    straight_twice heights tol q mid p (places_by n heights tol p mid) (places_by n heights tol mid q)
    (straight_by n heights tol p mid a (first_fewer p q mid n a z h))
    (straight_by n heights tol mid q z (second_fewer p q mid n a z h)))
  where
    by : (t : Bool) → is_straight heights tol p q ≡ t
        → (p + 1 < q → GoStraight heights tol q p (places_by n heights tol p (middle p q) ++ places_by n heights tol (middle p q) q))
        → GoStraight heights tol q p (if t then q ∷ [] else places_by n heights tol p (middle p q) ++ places_by n heights tol (middle p q) q)
    by true e both = ((order, e), refl)
    by false e both = both (has_between heights tol p q e)

-- the places after the first
abbrev pub later_places : List ℤ → ℤ → ℕ → List ℕ
later_places heights tol n = if n == 0 then [] else places_after heights tol 0 n

-- from the first place to the last the tool goes over them
pub path_goes : (heights : List ℤ) (tol : ℤ) (n : ℕ) → GoStraight heights tol n 0 (later_places heights tol n)
path_goes heights tol n = by (n == 0) refl
  where
    level : n - 0 ≤ n - 0
    level = omega arith

    by : (t : Bool) → (n == 0) ≡ t → GoStraight heights tol n 0 (if t then [] else places_after heights tol 0 n)
    by true e = sym (eqb-true n 0 e)
    by false e = let ne = eqb-false n 0 e in straight_by (n - 0) heights tol 0 n (some n ne) level
      where
        some : (n : ℕ) → (n ≡ 0 → ⊥) → 0 < n
        some n ne = omega arith

-- each of them is at most the last
at_most : (heights : List ℤ) (tol : ℤ) (n p : ℕ) (places : List ℕ) → GoStraight heights tol n p places → p ≤ n
at_most heights tol n p [] h = omega (arith, h)
at_most heights tol n p (q ∷ places) h = let less = h.0.0 in let rest = at_most heights tol n q places h.1 in omega arith

later_within : (heights : List ℤ) (tol : ℤ) (n p : ℕ) (places : List ℕ) → GoStraight heights tol n p places → All (λ k. k ≤ n) places
later_within heights tol n p [] h = All-nil (λ k. k ≤ n)
later_within heights tol n p (q ∷ places) h = All-cons (λ k. k ≤ n) q places (at_most heights tol n q places h.1) (later_within heights tol n q places h.1)

pub places_within : (heights : List ℤ) (tol : ℤ) (n : ℕ) → All (λ k. k ≤ n) (path_places heights tol n)
places_within heights tol n = All-cons (λ k. k ≤ n) 0 (later_places heights tol n) first (later_within heights tol n 0 (later_places heights tol n) (path_goes heights tol n))
  where
    first : 0 ≤ n
    first = omega arith
