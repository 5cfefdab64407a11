-- Polynomial facts behind the greatest height that a cutter leaves.
-- Written by tools/certificates.py from tools/certificates/mill_shape_cut.spec.
use Rattle.std.proofs.Common.{[], ◌∷◌, refl}
use lib.IntN.{ℤ, pos, ◌+ℤ◌, ◌-ℤ◌, ◌*ℤ◌}
use lib.Signed.{◌<ℤ◌, ◌≤ℤ◌}
use Rattle.mill_base.proofs.Ring.{Var, Num, Add, Sub, Mul}
use Rattle.mill_base.proofs.Cert.{Le, Lt, Hyp, Sq, Lit, Plus, Times, refute, prove_le_by, prove_lt_by}

-- vars s r; hyp h: s < r*r; goal s < (r*r)*(1*1)
pub unit_near : (s r : ℤ) → s <ℤ (r *ℤ r) → s <ℤ ((r *ℤ r) *ℤ ((pos 1) *ℤ (pos 1)))
unit_near s r h = prove_lt_by (s ∷ r ∷ []) (Lt (Var 0) (Mul (Var 1) (Var 1)) ∷ []) (Var 0) (Mul (Mul (Var 1) (Var 1)) (Mul (Num (pos 1)) (Num (pos 1)))) (Plus (Hyp 0) (Hyp 1)) 0 (h, tt) refl

-- vars r c; hyp hc: 1 <= c; hyp high: r*1 <= r-c; goal false
pub ball_high_free : (r c : ℤ) → (pos 1) ≤ℤ c → (r *ℤ (pos 1)) ≤ℤ (r -ℤ c) → ⊥
ball_high_free r c hc high = refute (r ∷ c ∷ []) (Le (Num (pos 1)) (Var 1) ∷ Le (Mul (Var 0) (Num (pos 1))) (Sub (Var 0) (Var 1)) ∷ []) (Plus (Hyp 0) (Hyp 1)) 0 (hc, (high, tt)) refl

-- vars s r c; hyp h: r*r - s <= c*c; hyp deep: s + ((r-c)-r*1)*((r-c)-r*1) < (r*r)*(1*1); goal false
pub ball_deep_free : (s r c : ℤ) → ((r *ℤ r) -ℤ s) ≤ℤ (c *ℤ c) → (s +ℤ (((r -ℤ c) -ℤ (r *ℤ (pos 1))) *ℤ ((r -ℤ c) -ℤ (r *ℤ (pos 1))))) <ℤ ((r *ℤ r) *ℤ ((pos 1) *ℤ (pos 1))) → ⊥
ball_deep_free s r c h deep = refute (s ∷ r ∷ c ∷ []) (Le (Sub (Mul (Var 1) (Var 1)) (Var 0)) (Mul (Var 2) (Var 2)) ∷ Lt (Add (Var 0) (Mul (Sub (Sub (Var 1) (Var 2)) (Mul (Var 1) (Num (pos 1)))) (Sub (Sub (Var 1) (Var 2)) (Mul (Var 1) (Num (pos 1)))))) (Mul (Mul (Var 1) (Var 1)) (Mul (Num (pos 1)) (Num (pos 1)))) ∷ []) (Plus (Hyp 0) (Hyp 1)) 0 (h, (deep, tt)) refl

-- vars s r c z; hyp h: (c-1)*(c-1) < r*r - s; hyp high: r - c < z; hyp low: z < r*1; goal s + (z-r*1)*(z-r*1) < (r*r)*(1*1); mul high * low; mul high * low+; mul high * high; mul high+ * low; mul low * low
pub ball_held : (s r c z : ℤ) → ((c -ℤ (pos 1)) *ℤ (c -ℤ (pos 1))) <ℤ ((r *ℤ r) -ℤ s) → (r -ℤ c) <ℤ z → z <ℤ (r *ℤ (pos 1)) → (s +ℤ ((z -ℤ (r *ℤ (pos 1))) *ℤ (z -ℤ (r *ℤ (pos 1))))) <ℤ ((r *ℤ r) *ℤ ((pos 1) *ℤ (pos 1)))
ball_held s r c z h high low = prove_lt_by (s ∷ r ∷ c ∷ z ∷ []) (Lt (Mul (Sub (Var 2) (Num (pos 1))) (Sub (Var 2) (Num (pos 1)))) (Sub (Mul (Var 1) (Var 1)) (Var 0)) ∷ Lt (Sub (Var 1) (Var 2)) (Var 3) ∷ Lt (Var 3) (Mul (Var 1) (Num (pos 1))) ∷ []) (Add (Var 0) (Mul (Sub (Var 3) (Mul (Var 1) (Num (pos 1)))) (Sub (Var 3) (Mul (Var 1) (Num (pos 1)))))) (Mul (Mul (Var 1) (Var 1)) (Mul (Num (pos 1)) (Num (pos 1)))) (Plus (Hyp 0) (Plus (Hyp 1) (Plus (Times (Lit 2) (Times (Hyp 2) (Plus (Hyp 3) (Lit 1)))) (Times (Hyp 2) (Hyp 2))))) 0 (h, (high, (low, tt))) refl

-- vars t b f z; hyp h: t < (b*b)*((f+1)*(f+1)); hyp hf: 0 <= f; hyp high: f < z; goal t < (b*b)*(z*z); mul high * high * sq(b); mul high * hf * sq(b); mul high * sq(b)
pub wall_held : (t b f z : ℤ) → t <ℤ ((b *ℤ b) *ℤ ((f +ℤ (pos 1)) *ℤ (f +ℤ (pos 1)))) → (pos 0) ≤ℤ f → f <ℤ z → t <ℤ ((b *ℤ b) *ℤ (z *ℤ z))
wall_held t b f z h hf high = prove_lt_by (t ∷ b ∷ f ∷ z ∷ []) (Lt (Var 0) (Mul (Mul (Var 1) (Var 1)) (Mul (Add (Var 2) (Num (pos 1))) (Add (Var 2) (Num (pos 1))))) ∷ Le (Num (pos 0)) (Var 2) ∷ Lt (Var 2) (Var 3) ∷ []) (Var 0) (Mul (Mul (Var 1) (Var 1)) (Mul (Var 3) (Var 3))) (Plus (Hyp 0) (Plus (Hyp 1) (Plus (Times (Times (Hyp 3) (Hyp 3)) (Sq (Var 1))) (Plus (Times (Lit 2) (Times (Times (Hyp 3) (Hyp 2)) (Sq (Var 1)))) (Times (Lit 2) (Times (Hyp 3) (Sq (Var 1)))))))) 0 (h, (hf, (high, tt))) refl

-- vars f b p t; hyp hb: 0 <= b; hyp h: p*b <= t; hyp root: f*f <= p; goal b*(f*f) <= t; mul hb * root
pub wall_low : (f b p t : ℤ) → (pos 0) ≤ℤ b → (p *ℤ b) ≤ℤ t → (f *ℤ f) ≤ℤ p → (b *ℤ (f *ℤ f)) ≤ℤ t
wall_low f b p t hb h root = prove_le_by (f ∷ b ∷ p ∷ t ∷ []) (Le (Num (pos 0)) (Var 1) ∷ Le (Mul (Var 2) (Var 1)) (Var 3) ∷ Le (Mul (Var 0) (Var 0)) (Var 2) ∷ []) (Mul (Var 1) (Mul (Var 0) (Var 0))) (Var 3) (Plus (Hyp 0) (Plus (Hyp 2) (Times (Hyp 1) (Hyp 3)))) 0 (hb, (h, (root, tt))) refl

-- vars f b p t; hyp hb: 0 <= b; hyp h: t < b*(p+1); hyp root: p < (f+1)*(f+1); goal t < b*((f+1)*(f+1)); mul hb * root
pub wall_high : (f b p t : ℤ) → (pos 0) ≤ℤ b → t <ℤ (b *ℤ (p +ℤ (pos 1))) → p <ℤ ((f +ℤ (pos 1)) *ℤ (f +ℤ (pos 1))) → t <ℤ (b *ℤ ((f +ℤ (pos 1)) *ℤ (f +ℤ (pos 1))))
wall_high f b p t hb h root = prove_lt_by (f ∷ b ∷ p ∷ t ∷ []) (Le (Num (pos 0)) (Var 1) ∷ Lt (Var 3) (Mul (Var 1) (Add (Var 2) (Num (pos 1)))) ∷ Lt (Var 2) (Mul (Add (Var 0) (Num (pos 1))) (Add (Var 0) (Num (pos 1)))) ∷ []) (Var 3) (Mul (Var 1) (Mul (Add (Var 0) (Num (pos 1))) (Add (Var 0) (Num (pos 1))))) (Plus (Hyp 0) (Plus (Hyp 2) (Times (Hyp 1) (Hyp 3)))) 0 (hb, (h, (root, tt))) refl
