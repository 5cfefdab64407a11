-- What a program's expression over signed numbers computes: each result is stored in its width and read again.
-- `exact` says that nothing is lost, and `fits` answers a goal of an overflow, both by computing bounds.
use Rattle.std.proofs.Common.{◌≡◌, ℕ, ◌^◌, ◌≤◌, ◌↔◌, Bool, true, false, ltb, leb, List, [], ◌∷◌, refl, sym, ap, ◌∙◌, subst, arith, FitsSigned, IsTrue, to_z, of_z}
use lib.Dec.{leb→le, T}
use lib.IntN.{ℤ, neg_ℤ, ◌+ℤ◌, ◌-ℤ◌, ◌*ℤ◌, nat_abs}
use lib.Signed.{◌<ℤ◌, lt_z}
use mir.Syntax.{Width}
use mir.Val.{hbits}
use Rattle.std.proofs.lemmas.Int.{ints, to_z-of_z}
use Rattle.mill_base.proofs.Ring.{E, Var, Num, Add, Sub, Mul, Neg, at, den}
use Rattle.mill_base.proofs.Range.{bound, bound_is, Bounded, fits}

pub data X : Type 0 where
  Read : Width → ℕ → X  -- an argument, a field or a local
  Lit : ℤ → X
  Cast : Width → X → X
  Sum : Width → X → X → X
  Diff : Width → X → X → X
  Prod : Width → X → X → X
  Opp : Width → X → X

abbrev pub stored : Width → ℤ → ℤ
stored w z = to_z w (of_z w z)

abbrev pub run : List ℤ → X → ℤ
run ρ (Read w i) = stored w (at ρ i)
run ρ (Lit z) = z
run ρ (Cast w a) = stored w (run ρ a)
run ρ (Sum w a b) = stored w (run ρ a +ℤ run ρ b)
run ρ (Diff w a b) = stored w (run ρ a -ℤ run ρ b)
run ρ (Prod w a b) = stored w (run ρ a *ℤ run ρ b)
run ρ (Opp w a) = stored w (neg_ℤ (run ρ a))

abbrev pub meant : X → E
meant (Read w i) = Var i
meant (Lit z) = Num z
meant (Cast w a) = meant a
meant (Sum w a b) = Add (meant a) (meant b)
meant (Diff w a b) = Sub (meant a) (meant b)
meant (Prod w a b) = Mul (meant a) (meant b)
meant (Opp w a) = Neg (meant a)

abbrev pub room : Width → List ℕ → E → Bool
room w bs e = ltb (bound bs e) (2 ^ hbits w)

abbrev pub both : Bool → Bool → Bool
both true b = b
both false b = false

-- each part stays in its width
abbrev pub roomy : List ℕ → X → Bool
roomy bs (Read w i) = room w bs (Var i)
roomy bs (Lit z) = true
roomy bs (Cast w a) = both (roomy bs a) (room w bs (meant a))
roomy bs (Sum w a b) = both (roomy bs a) (both (roomy bs b) (room w bs (Add (meant a) (meant b))))
roomy bs (Diff w a b) = both (roomy bs a) (both (roomy bs b) (room w bs (Sub (meant a) (meant b))))
roomy bs (Prod w a b) = both (roomy bs a) (both (roomy bs b) (room w bs (Mul (meant a) (meant b))))
roomy bs (Opp w a) = both (roomy bs a) (room w bs (Neg (meant a)))

left : (a b : Bool) → both a b ≡ true → a ≡ true
left true b e = refl
left false b e = cc

right : (a b : Bool) → both a b ≡ true → b ≡ true
right true b e = e
right false b e = cc

keeps : (w : Width) (ρ : List ℤ) (bs : List ℕ) (e : E) → Bounded ρ bs → room w bs e ≡ true → stored w (den ρ e) ≡ den ρ e
keeps w ρ bs e h r = to_z-of_z w (den ρ e) (fits w ρ bs e h r)

pub exact : (ρ : List ℤ) (bs : List ℕ) (e : X) → Bounded ρ bs → roomy bs e ≡ true → run ρ e ≡ den ρ (meant e)
exact ρ bs (Read w i) h r = keeps w ρ bs (Var i) h r
exact ρ bs (Lit z) h r = refl
exact ρ bs (Cast w a) h r = ap (stored w) (exact ρ bs a h (left (roomy bs a) _ r)) ∙ keeps w ρ bs (meant a) h (right (roomy bs a) _ r)
exact ρ bs (Sum w a b) h r =
    let q = right (roomy bs a) (both (roomy bs b) (room w bs (Add (meant a) (meant b)))) r in
    ap (λ t. stored w (t +ℤ run ρ b)) (exact ρ bs a h (left (roomy bs a) _ r)) ∙ ap (λ t. stored w (den ρ (meant a) +ℤ t)) (exact ρ bs b h (left (roomy bs b) _ q)) ∙ keeps w ρ bs (Add (meant a) (meant b)) h (right (roomy bs b) _ q)
exact ρ bs (Diff w a b) h r =
    let q = right (roomy bs a) (both (roomy bs b) (room w bs (Sub (meant a) (meant b)))) r in
    ap (λ t. stored w (t -ℤ run ρ b)) (exact ρ bs a h (left (roomy bs a) _ r)) ∙ ap (λ t. stored w (den ρ (meant a) -ℤ t)) (exact ρ bs b h (left (roomy bs b) _ q)) ∙ keeps w ρ bs (Sub (meant a) (meant b)) h (right (roomy bs b) _ q)
exact ρ bs (Prod w a b) h r =
    let q = right (roomy bs a) (both (roomy bs b) (room w bs (Mul (meant a) (meant b)))) r in
    ap (λ t. stored w (t *ℤ run ρ b)) (exact ρ bs a h (left (roomy bs a) _ r)) ∙ ap (λ t. stored w (den ρ (meant a) *ℤ t)) (exact ρ bs b h (left (roomy bs b) _ q)) ∙ keeps w ρ bs (Mul (meant a) (meant b)) h (right (roomy bs b) _ q)
exact ρ bs (Opp w a) h r = ap (λ t. stored w (neg_ℤ t)) (exact ρ bs a h (left (roomy bs a) _ r)) ∙ keeps w ρ bs (Neg (meant a)) h (right (roomy bs a) _ r)

-- a sum, a difference, a product of two expressions fits
module _ (w : Width) (ρ : List ℤ) (bs : List ℕ) (a b : X) (h : Bounded ρ bs) where
  pub sum_fits : roomy bs (Sum w a b) ≡ true → FitsSigned w (run ρ a +ℤ run ρ b)
  sum_fits r =
      let q = right (roomy bs a) (both (roomy bs b) (room w bs (Add (meant a) (meant b)))) r in
      let p = exact ρ bs a h (left (roomy bs a) _ r) in
      let s = exact ρ bs b h (left (roomy bs b) _ q) in
      subst (λ t. FitsSigned w (t +ℤ run ρ b)) (sym p) (subst (λ t. FitsSigned w (den ρ (meant a) +ℤ t)) (sym s) (fits w ρ bs (Add (meant a) (meant b)) h (right (roomy bs b) _ q)))

  pub diff_fits : roomy bs (Diff w a b) ≡ true → FitsSigned w (run ρ a -ℤ run ρ b)
  diff_fits r =
      let q = right (roomy bs a) (both (roomy bs b) (room w bs (Sub (meant a) (meant b)))) r in
      let p = exact ρ bs a h (left (roomy bs a) _ r) in
      let s = exact ρ bs b h (left (roomy bs b) _ q) in
      subst (λ t. FitsSigned w (t -ℤ run ρ b)) (sym p) (subst (λ t. FitsSigned w (den ρ (meant a) -ℤ t)) (sym s) (fits w ρ bs (Sub (meant a) (meant b)) h (right (roomy bs b) _ q)))

  pub prod_fits : roomy bs (Prod w a b) ≡ true → FitsSigned w (run ρ a *ℤ run ρ b)
  prod_fits r =
      let q = right (roomy bs a) (both (roomy bs b) (room w bs (Mul (meant a) (meant b)))) r in
      let p = exact ρ bs a h (left (roomy bs a) _ r) in
      let s = exact ρ bs b h (left (roomy bs b) _ q) in
      subst (λ t. FitsSigned w (t *ℤ run ρ b)) (sym p) (subst (λ t. FitsSigned w (den ρ (meant a) *ℤ t)) (sym s) (fits w ρ bs (Mul (meant a) (meant b)) h (right (roomy bs b) _ q)))

-- the result is at most m away from 0
pub stays : (ρ : List ℤ) (bs : List ℕ) (e : X) (m : ℕ) → Bounded ρ bs → both (roomy bs e) (leb (bound bs (meant e)) m) ≡ true → nat_abs (run ρ e) ≤ m
stays ρ bs e m h r =
    let p = exact ρ bs e h (left (roomy bs e) _ r) in
    let k = bound_is ρ bs (meant e) h in
    let l : bound bs (meant e) ≤ m = leb→le _ _ (subst T (sym (right (roomy bs e) (leb (bound bs (meant e)) m) r)) tt) in
    subst (λ t. nat_abs t ≤ m) (sym p) (omega arith)

-- a comparison of two expressions
pub less : (ρ : List ℤ) (bs : List ℕ) (a b : X) → Bounded ρ bs → both (roomy bs a) (roomy bs b) ≡ true → IsTrue (lt_z (run ρ a) (run ρ b)) ↔ (den ρ (meant a) <ℤ den ρ (meant b))
less ρ bs a b h r =
    let p = exact ρ bs a h (left (roomy bs a) _ r) in
    let s = exact ρ bs b h (right (roomy bs a) _ r) in
    subst (λ t. IsTrue (lt_z t (run ρ b)) ↔ (den ρ (meant a) <ℤ den ρ (meant b))) (sym p) (subst (λ t. IsTrue (lt_z (den ρ (meant a)) t) ↔ (den ρ (meant a) <ℤ den ρ (meant b))) (sym s) (plain (den ρ (meant a)) (den ρ (meant b))))
  where
    plain : (x y : ℤ) → IsTrue (lt_z x y) ↔ (x <ℤ y)
    plain x y = grind (arith, ints)

-- a bounded number is stored as it is
pub kept : (w : Width) (z : ℤ) (m : ℕ) → nat_abs z ≤ m → ltb m (2 ^ hbits w) ≡ true → stored w z ≡ z
kept w z m h r = keeps w (z ∷ []) (m ∷ []) (Var 0) (h, tt) r

-- an expression fits another width, as a cast asks
pub cast_fits : (w : Width) (ρ : List ℤ) (bs : List ℕ) (a : X) → Bounded ρ bs → roomy bs (Cast w a) ≡ true → FitsSigned w (run ρ a)
cast_fits w ρ bs a h r =
    subst (λ t. FitsSigned w t) (sym (exact ρ bs a h (left (roomy bs a) _ r))) (fits w ρ bs (meant a) h (right (roomy bs a) _ r))
