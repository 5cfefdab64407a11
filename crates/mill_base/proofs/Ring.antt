-- Polynomial identities over ℤ by computation: `ring ρ e f refl` proves den e ρ ≡ den f ρ where e and f have the same normal form.
use Rattle.std.proofs.Common.{◌≡◌, ℕ, suc, zero, Bool, true, false, eqb, leb, List, [], ◌∷◌, refl, sym, ap, ◌∙◌, arith}
use lib.IntN.{ℤ, pos, negsuc, neg_ℤ, ◌+ℤ◌, ◌-ℤ◌, ◌*ℤ◌, *ℤ_comm, +ℤ_comm, +ℤ_assoc, +ℤ_idl, +ℤ_idr, neg_ℤ-+ℤ}
use Rattle.std.proofs.lemmas.Int.{ints}
use Rattle.std.proofs.lemmas.Bool.{eqb-true}
use Rattle.mill_base.proofs.Integers.{mul-add-ℤ, mul_assoc-ℤ, add-mul-ℤ, neg-mul-ℤ, one-mul-ℤ, zero-mul-ℤ}

pub data E : Type 0 where
  Var : ℕ → E
  Num : ℤ → E
  Add : E → E → E
  Sub : E → E → E
  Mul : E → E → E
  Neg : E → E

pub data P : Type 0 where
  nil : P
  term : ℤ → List ℕ → P → P

abbrev pub at : List ℤ → ℕ → ℤ
at [] i = pos 0
at (x ∷ ρ) zero = x
at (x ∷ ρ) (suc i) = at ρ i

abbrev pub den : List ℤ → E → ℤ
den ρ (Var i) = at ρ i
den ρ (Num c) = c
den ρ (Add a b) = den ρ a +ℤ den ρ b
den ρ (Sub a b) = den ρ a -ℤ den ρ b
den ρ (Mul a b) = den ρ a *ℤ den ρ b
den ρ (Neg a) = neg_ℤ (den ρ a)

abbrev pub denM : List ℤ → List ℕ → ℤ
denM ρ [] = pos 1
denM ρ (i ∷ m) = at ρ i *ℤ denM ρ m

abbrev pub denP : List ℤ → P → ℤ
denP ρ nil = pos 0
denP ρ (term c m p) = c *ℤ denM ρ m +ℤ denP ρ p

-- ---- monomials: sorted lists of variables
abbrev pub put : ℕ → List ℕ → List ℕ
put i [] = i ∷ []
put i (j ∷ m) = elim (leb i j) [ true ↦ i ∷ (j ∷ m) | false ↦ j ∷ put i m ]

abbrev pub join : List ℕ → List ℕ → List ℕ
join [] n = n
join (i ∷ m) n = put i (join m n)

swap-mul : (x y z : ℤ) → x *ℤ (y *ℤ z) ≡ y *ℤ (x *ℤ z)
swap-mul x y z = sym (mul_assoc-ℤ x y z) ∙ ap (λ t. t *ℤ z) (*ℤ_comm x y) ∙ mul_assoc-ℤ y x z

put_is : (ρ : List ℤ) (i : ℕ) (m : List ℕ) → denM ρ (put i m) ≡ at ρ i *ℤ denM ρ m
put_is ρ i [] = refl
put_is ρ i (j ∷ m) = elim (leb i j) as (λ b. denM ρ (elim b [ true ↦ i ∷ (j ∷ m) | false ↦ j ∷ put i m ]) ≡ at ρ i *ℤ (at ρ j *ℤ denM ρ m))
    [ true ↦ refl | false ↦ ap (λ t. at ρ j *ℤ t) (put_is ρ i m) ∙ swap-mul (at ρ j) (at ρ i) (denM ρ m) ]

join_is : (ρ : List ℤ) (m n : List ℕ) → denM ρ (join m n) ≡ denM ρ m *ℤ denM ρ n
join_is ρ [] n = sym (one-mul-ℤ (denM ρ n))
join_is ρ (i ∷ m) n = put_is ρ i (join m n) ∙ ap (λ t. at ρ i *ℤ t) (join_is ρ m n) ∙ sym (mul_assoc-ℤ (at ρ i) (denM ρ m) (denM ρ n))

abbrev pub same_list : List ℕ → List ℕ → Bool
same_list [] [] = true
same_list [] (j ∷ n) = false
same_list (i ∷ m) [] = false
same_list (i ∷ m) (j ∷ n) = elim (eqb i j) [ true ↦ same_list m n | false ↦ false ]

same_list_is : (m n : List ℕ) → same_list m n ≡ true → m ≡ n
same_list_is [] [] e = refl
same_list_is [] (j ∷ n) e = cc
same_list_is (i ∷ m) [] e = cc
same_list_is (i ∷ m) (j ∷ n) e = by (same_list_is m n) (eqb i j) refl e
  where
    by : (same_list m n ≡ true → m ≡ n) → (b : Bool) → eqb i j ≡ b → (elim b as (λ _. Bool) [ true ↦ same_list m n | false ↦ false ]) ≡ true → (i ∷ m) ≡ (j ∷ n)
    by ih true q r = let h : i ≡ j = eqb-true i j q in let l = ih r in cc
    by ih false q r = cc

-- ---- sums
abbrev pub ins : ℤ → List ℕ → P → P
ins c m nil = term c m nil
ins c m (term d n p) = elim (same_list m n) [ true ↦ term (c +ℤ d) n p | false ↦ term d n (ins c m p) ]

swap-add : (x y z : ℤ) → x +ℤ (y +ℤ z) ≡ y +ℤ (x +ℤ z)
swap-add x y z = sym (+ℤ_assoc x y z) ∙ ap (λ t. t +ℤ z) (+ℤ_comm x y) ∙ +ℤ_assoc y x z

ins_is : (ρ : List ℤ) (c : ℤ) (m : List ℕ) (p : P) → denP ρ (ins c m p) ≡ c *ℤ denM ρ m +ℤ denP ρ p
ins_is ρ c m nil = refl
ins_is ρ c m (term d n p) = by (ins_is ρ c m p) (same_list m n) refl
  where
    by : denP ρ (ins c m p) ≡ c *ℤ denM ρ m +ℤ denP ρ p → (b : Bool) → same_list m n ≡ b → denP ρ (elim b as (λ _. P) [ true ↦ term (c +ℤ d) n p | false ↦ term d n (ins c m p) ]) ≡ c *ℤ denM ρ m +ℤ (d *ℤ denM ρ n +ℤ denP ρ p)
    by ih true q =
        ap (λ t. t +ℤ denP ρ p) (add-mul-ℤ c d (denM ρ n)) ∙ +ℤ_assoc (c *ℤ denM ρ n) (d *ℤ denM ρ n) (denP ρ p)
        ∙ ap (λ t. c *ℤ denM ρ t +ℤ (d *ℤ denM ρ n +ℤ denP ρ p)) (sym (same_list_is m n q))
    by ih false q = ap (λ t. d *ℤ denM ρ n +ℤ t) ih ∙ swap-add (d *ℤ denM ρ n) (c *ℤ denM ρ m) (denP ρ p)

abbrev pub addP : P → P → P
addP nil q = q
addP (term c m p) q = ins c m (addP p q)

addP_is : (ρ : List ℤ) (p q : P) → denP ρ (addP p q) ≡ denP ρ p +ℤ denP ρ q
addP_is ρ nil q = sym (+ℤ_idl (denP ρ q))
addP_is ρ (term c m p) q =
    ins_is ρ c m (addP p q) ∙ ap (λ t. c *ℤ denM ρ m +ℤ t) (addP_is ρ p q) ∙ sym (+ℤ_assoc (c *ℤ denM ρ m) (denP ρ p) (denP ρ q))

abbrev pub mulT : ℤ → List ℕ → P → P → P
mulT c m nil acc = acc
mulT c m (term d n p) acc = ins (c *ℤ d) (join m n) (mulT c m p acc)

shuffle : (c d m n : ℤ) → (c *ℤ d) *ℤ (m *ℤ n) ≡ (c *ℤ m) *ℤ (d *ℤ n)
shuffle c d m n = mul_assoc-ℤ c d (m *ℤ n) ∙ ap (λ t. c *ℤ t) (swap-mul d m n) ∙ sym (mul_assoc-ℤ c m (d *ℤ n))

mulT_is : (ρ : List ℤ) (c : ℤ) (m : List ℕ) (p acc : P) → denP ρ (mulT c m p acc) ≡ (c *ℤ denM ρ m) *ℤ denP ρ p +ℤ denP ρ acc
mulT_is ρ c m nil acc = sym (ap (λ t. t +ℤ denP ρ acc) (*ℤ_comm (c *ℤ denM ρ m) (pos 0) ∙ zero-mul-ℤ (c *ℤ denM ρ m)) ∙ +ℤ_idl (denP ρ acc))
mulT_is ρ c m (term d n p) acc =
    ins_is ρ (c *ℤ d) (join m n) (mulT c m p acc)
    ∙ ap (λ t. (c *ℤ d) *ℤ t +ℤ denP ρ (mulT c m p acc)) (join_is ρ m n)
    ∙ ap (λ t. t +ℤ denP ρ (mulT c m p acc)) (shuffle c d (denM ρ m) (denM ρ n))
    ∙ ap (λ t. (c *ℤ denM ρ m) *ℤ (d *ℤ denM ρ n) +ℤ t) (mulT_is ρ c m p acc)
    ∙ sym (+ℤ_assoc ((c *ℤ denM ρ m) *ℤ (d *ℤ denM ρ n)) ((c *ℤ denM ρ m) *ℤ denP ρ p) (denP ρ acc))
    ∙ ap (λ t. t +ℤ denP ρ acc) (sym (mul-add-ℤ (c *ℤ denM ρ m) (d *ℤ denM ρ n) (denP ρ p)))

abbrev pub mulP : P → P → P
mulP nil q = nil
mulP (term c m p) q = mulT c m q (mulP p q)

mulP_is : (ρ : List ℤ) (p q : P) → denP ρ (mulP p q) ≡ denP ρ p *ℤ denP ρ q
mulP_is ρ nil q = sym (zero-mul-ℤ (denP ρ q))
mulP_is ρ (term c m p) q =
    mulT_is ρ c m q (mulP p q) ∙ ap (λ t. (c *ℤ denM ρ m) *ℤ denP ρ q +ℤ t) (mulP_is ρ p q) ∙ sym (add-mul-ℤ (c *ℤ denM ρ m) (denP ρ p) (denP ρ q))

abbrev pub negP : P → P
negP nil = nil
negP (term c m p) = term (neg_ℤ c) m (negP p)

negP_is : (ρ : List ℤ) (p : P) → denP ρ (negP p) ≡ neg_ℤ (denP ρ p)
negP_is ρ nil = refl
negP_is ρ (term c m p) = ap (λ t. t +ℤ denP ρ (negP p)) (neg-mul-ℤ c (denM ρ m)) ∙ ap (λ t. neg_ℤ (c *ℤ denM ρ m) +ℤ t) (negP_is ρ p) ∙ sym (neg_ℤ-+ℤ (c *ℤ denM ρ m) (denP ρ p))

-- ---- the normal form
abbrev pub norm : E → P
norm (Var i) = term (pos 1) (i ∷ []) nil
norm (Num c) = term c [] nil
norm (Add a b) = addP (norm a) (norm b)
norm (Sub a b) = addP (norm a) (negP (norm b))
norm (Mul a b) = mulP (norm a) (norm b)
norm (Neg a) = negP (norm a)

mul-one-ℤ : (x : ℤ) → x *ℤ pos 1 ≡ x
mul-one-ℤ x = *ℤ_comm x (pos 1) ∙ one-mul-ℤ x

norm_is : (ρ : List ℤ) (e : E) → denP ρ (norm e) ≡ den ρ e
norm_is ρ (Var i) = +ℤ_idr (pos 1 *ℤ (at ρ i *ℤ pos 1)) ∙ one-mul-ℤ (at ρ i *ℤ pos 1) ∙ mul-one-ℤ (at ρ i)
norm_is ρ (Num c) = +ℤ_idr (c *ℤ pos 1) ∙ mul-one-ℤ c
norm_is ρ (Add a b) = addP_is ρ (norm a) (norm b) ∙ ap (λ t. t +ℤ denP ρ (norm b)) (norm_is ρ a) ∙ ap (λ t. den ρ a +ℤ t) (norm_is ρ b)
norm_is ρ (Sub a b) = addP_is ρ (norm a) (negP (norm b)) ∙ ap (λ t. t +ℤ denP ρ (negP (norm b))) (norm_is ρ a) ∙ ap (λ t. den ρ a +ℤ t) (negP_is ρ (norm b) ∙ ap neg_ℤ (norm_is ρ b))
norm_is ρ (Mul a b) = mulP_is ρ (norm a) (norm b) ∙ ap (λ t. t *ℤ denP ρ (norm b)) (norm_is ρ a) ∙ ap (λ t. den ρ a *ℤ t) (norm_is ρ b)
norm_is ρ (Neg a) = negP_is ρ (norm a) ∙ ap neg_ℤ (norm_is ρ a)

-- every coefficient is zero
abbrev pub is_zero : ℤ → Bool
is_zero (pos zero) = true
is_zero (pos (suc n)) = false
is_zero (negsuc n) = false

abbrev pub all_zero : P → Bool
all_zero nil = true
all_zero (term c m p) = elim (is_zero c) [ true ↦ all_zero p | false ↦ false ]

is_zero_is : (c : ℤ) → is_zero c ≡ true → c ≡ pos 0
is_zero_is (pos zero) e = refl
is_zero_is (pos (suc n)) e = cc
is_zero_is (negsuc n) e = cc

all_zero_is : (ρ : List ℤ) (p : P) → all_zero p ≡ true → denP ρ p ≡ pos 0
all_zero_is ρ nil e = refl
all_zero_is ρ (term c m p) e = by (all_zero_is ρ p) (is_zero c) refl e
  where
    by : (all_zero p ≡ true → denP ρ p ≡ pos 0) → (b : Bool) → is_zero c ≡ b → (elim b as (λ _. Bool) [ true ↦ all_zero p | false ↦ false ]) ≡ true → c *ℤ denM ρ m +ℤ denP ρ p ≡ pos 0
    by ih true q r = ap (λ t. t *ℤ denM ρ m +ℤ denP ρ p) (is_zero_is c q) ∙ ap (λ t. t +ℤ denP ρ p) (zero-mul-ℤ (denM ρ m)) ∙ +ℤ_idl (denP ρ p) ∙ ih r
    by ih false q r = cc

-- den ρ e ≡ den ρ f, where the two agree as polynomials
pub ring : (ρ : List ℤ) (e f : E) → all_zero (norm (Sub e f)) ≡ true → den ρ e ≡ den ρ f
ring ρ e f h = from (den ρ e) (den ρ f) (sym (norm_is ρ (Sub e f)) ∙ all_zero_is ρ (norm (Sub e f)) h)
  where
    from : (a b : ℤ) → a -ℤ b ≡ pos 0 → a ≡ b
    from a b h = omega (arith, ints)
