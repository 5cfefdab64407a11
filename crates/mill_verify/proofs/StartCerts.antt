-- Polynomial facts behind the law that a tool comes safely to the place where its moves begin.
-- Written by tools/certificates.py from tools/certificates/mill_verify_starts.spec.
use Rattle.std.proofs.Common.{◌≡◌, [], ◌∷◌, refl}
use lib.IntN.{ℤ, pos, ◌+ℤ◌, ◌-ℤ◌, ◌*ℤ◌}
use lib.Signed.{◌<ℤ◌, ◌≤ℤ◌}
use Rattle.mill_base.proofs.Ring.{Var, Num, Add, Sub, Mul, ring}
use Rattle.mill_base.proofs.Cert.{Le, Lt, Hyp, Lit, Plus, Times, prove_le_by, refute}

-- vars d n p q l; hyp h: d*p <= q; goal d*(p+n*l) <= q+(d*n)*l
pub lifted_lower : (d n p q l : ℤ) → (d *ℤ p) ≤ℤ q → (d *ℤ (p +ℤ (n *ℤ l))) ≤ℤ (q +ℤ ((d *ℤ n) *ℤ l))
lifted_lower d n p q l h = prove_le_by (d ∷ n ∷ p ∷ q ∷ l ∷ []) (Le (Mul (Var 0) (Var 2)) (Var 3) ∷ []) (Mul (Var 0) (Add (Var 2) (Mul (Var 1) (Var 4)))) (Add (Var 3) (Mul (Mul (Var 0) (Var 1)) (Var 4))) (Plus (Hyp 0) (Hyp 1)) 0 (h, tt) refl

pub lower_denominator : (n d m : ℤ) → (n *ℤ (d *ℤ m)) ≡ ((pos 1) *ℤ ((d *ℤ n) *ℤ m))
lower_denominator n d m = ring (n ∷ d ∷ m ∷ []) (Mul (Var 0) (Mul (Var 1) (Var 2))) (Mul (Num (pos 1)) (Mul (Mul (Var 1) (Var 0)) (Var 2))) refl

pub lower_offset : (n d m r p : ℤ) → ((n *ℤ (d *ℤ r)) -ℤ ((d *ℤ m) *ℤ p)) ≡ ((pos 1) *ℤ (((d *ℤ n) *ℤ r) -ℤ (m *ℤ (d *ℤ p))))
lower_offset n d m r p = ring (n ∷ d ∷ m ∷ r ∷ p ∷ []) (Sub (Mul (Var 0) (Mul (Var 1) (Var 3))) (Mul (Mul (Var 1) (Var 2)) (Var 4))) (Mul (Num (pos 1)) (Sub (Mul (Mul (Var 1) (Var 0)) (Var 3)) (Mul (Var 2) (Mul (Var 1) (Var 4))))) refl

-- vars n d m r p q; hyp hm: 0 < m; hyp h: d*p <= q; goal 1*((d*n)*r-m*q) <= n*(d*r)-(d*m)*p; mul hm * h; mul hm+ * h
pub lower_height : (n d m r p q : ℤ) → (pos 0) <ℤ m → (d *ℤ p) ≤ℤ q → ((pos 1) *ℤ (((d *ℤ n) *ℤ r) -ℤ (m *ℤ q))) ≤ℤ ((n *ℤ (d *ℤ r)) -ℤ ((d *ℤ m) *ℤ p))
lower_height n d m r p q hm h = prove_le_by (n ∷ d ∷ m ∷ r ∷ p ∷ q ∷ []) (Lt (Num (pos 0)) (Var 2) ∷ Le (Mul (Var 1) (Var 4)) (Var 5) ∷ []) (Mul (Num (pos 1)) (Sub (Mul (Mul (Var 1) (Var 0)) (Var 3)) (Mul (Var 2) (Var 5)))) (Sub (Mul (Var 0) (Mul (Var 1) (Var 3))) (Mul (Mul (Var 1) (Var 2)) (Var 4))) (Plus (Hyp 0) (Plus (Hyp 2) (Times (Hyp 1) (Hyp 2)))) 0 (hm, (h, tt)) refl

pub scaled_weights : (d u v w : ℤ) → (d *ℤ ((u +ℤ v) +ℤ w)) ≡ (((d *ℤ u) +ℤ (d *ℤ v)) +ℤ (d *ℤ w))
scaled_weights d u v w = ring (d ∷ u ∷ v ∷ w ∷ []) (Mul (Var 0) (Add (Add (Var 1) (Var 2)) (Var 3))) (Add (Add (Mul (Var 0) (Var 1)) (Mul (Var 0) (Var 2))) (Mul (Var 0) (Var 3))) refl

pub scaled_place : (d u v w a b c : ℤ) → (d *ℤ (((u *ℤ a) +ℤ (v *ℤ b)) +ℤ (w *ℤ c))) ≡ ((((d *ℤ u) *ℤ a) +ℤ ((d *ℤ v) *ℤ b)) +ℤ ((d *ℤ w) *ℤ c))
scaled_place d u v w a b c = ring (d ∷ u ∷ v ∷ w ∷ a ∷ b ∷ c ∷ []) (Mul (Var 0) (Add (Add (Mul (Var 1) (Var 4)) (Mul (Var 2) (Var 5))) (Mul (Var 3) (Var 6)))) (Add (Add (Mul (Mul (Var 0) (Var 1)) (Var 4)) (Mul (Mul (Var 0) (Var 2)) (Var 5))) (Mul (Mul (Var 0) (Var 3)) (Var 6))) refl

-- vars d n a p; hyp hd: 0 < d; hyp h: n*a <= p; goal (d*n)*a <= d*p; mul hd * h; mul hd+ * h
pub scaled_least : (d n a p : ℤ) → (pos 0) <ℤ d → (n *ℤ a) ≤ℤ p → ((d *ℤ n) *ℤ a) ≤ℤ (d *ℤ p)
scaled_least d n a p hd h = prove_le_by (d ∷ n ∷ a ∷ p ∷ []) (Lt (Num (pos 0)) (Var 0) ∷ Le (Mul (Var 1) (Var 2)) (Var 3) ∷ []) (Mul (Mul (Var 0) (Var 1)) (Var 2)) (Mul (Var 0) (Var 3)) (Plus (Hyp 0) (Plus (Hyp 2) (Times (Hyp 1) (Hyp 2)))) 0 (hd, (h, tt)) refl

-- vars d n a p; hyp hd: 0 < d; hyp h: p <= n*a; goal d*p <= (d*n)*a; mul hd * h; mul hd+ * h
pub scaled_most : (d n a p : ℤ) → (pos 0) <ℤ d → p ≤ℤ (n *ℤ a) → (d *ℤ p) ≤ℤ ((d *ℤ n) *ℤ a)
scaled_most d n a p hd h = prove_le_by (d ∷ n ∷ a ∷ p ∷ []) (Lt (Num (pos 0)) (Var 0) ∷ Le (Var 3) (Mul (Var 1) (Var 2)) ∷ []) (Mul (Var 0) (Var 3)) (Mul (Mul (Var 0) (Var 1)) (Var 2)) (Plus (Hyp 0) (Plus (Hyp 2) (Times (Hyp 1) (Hyp 2)))) 0 (hd, (h, tt)) refl

-- vars m n c l top q p; hyp hm: 0 < m; hyp hn: 0 < n; hyp hq: m*c <= q; hyp hl: top <= c+l; hyp hp: p <= n*top; hyp h: n*(q+m*l) < m*p; goal false; mul hn+ * hq; mul hm+ * hp; mul hm+ * hn+ * hl
pub over_clear : (m n c l top q p : ℤ) → (pos 0) <ℤ m → (pos 0) <ℤ n → (m *ℤ c) ≤ℤ q → top ≤ℤ (c +ℤ l) → p ≤ℤ (n *ℤ top) → (n *ℤ (q +ℤ (m *ℤ l))) <ℤ (m *ℤ p) → ⊥
over_clear m n c l top q p hm hn hq hl hp h = refute (m ∷ n ∷ c ∷ l ∷ top ∷ q ∷ p ∷ []) (Lt (Num (pos 0)) (Var 0) ∷ Lt (Num (pos 0)) (Var 1) ∷ Le (Mul (Var 0) (Var 2)) (Var 5) ∷ Le (Var 4) (Add (Var 2) (Var 3)) ∷ Le (Var 6) (Mul (Var 1) (Var 4)) ∷ Lt (Mul (Var 1) (Add (Var 5) (Mul (Var 0) (Var 3)))) (Mul (Var 0) (Var 6)) ∷ []) (Plus (Hyp 5) (Plus (Times (Plus (Hyp 1) (Lit 1)) (Hyp 2)) (Plus (Times (Plus (Hyp 0) (Lit 1)) (Hyp 4)) (Times (Times (Plus (Hyp 0) (Lit 1)) (Plus (Hyp 1) (Lit 1))) (Hyp 3))))) 0 (hm, (hn, (hq, (hl, (hp, (h, tt)))))) refl

pub stays_at : (d k p : ℤ) → (((d -ℤ k) *ℤ p) +ℤ (k *ℤ p)) ≡ (d *ℤ p)
stays_at d k p = ring (d ∷ k ∷ p ∷ []) (Add (Mul (Sub (Var 0) (Var 1)) (Var 2)) (Mul (Var 1) (Var 2))) (Mul (Var 0) (Var 2)) refl

-- vars d k n p z; hyp hk: 0 <= k; hyp h: p <= n*z; goal d*p <= (d-k)*p+k*(n*z); mul hk * h
pub rises_from : (d k n p z : ℤ) → (pos 0) ≤ℤ k → p ≤ℤ (n *ℤ z) → (d *ℤ p) ≤ℤ (((d -ℤ k) *ℤ p) +ℤ (k *ℤ (n *ℤ z)))
rises_from d k n p z hk h = prove_le_by (d ∷ k ∷ n ∷ p ∷ z ∷ []) (Le (Num (pos 0)) (Var 1) ∷ Le (Var 3) (Mul (Var 2) (Var 4)) ∷ []) (Mul (Var 0) (Var 3)) (Add (Mul (Sub (Var 0) (Var 1)) (Var 3)) (Mul (Var 1) (Mul (Var 2) (Var 4)))) (Plus (Hyp 0) (Times (Hyp 1) (Hyp 2))) 0 (hk, (h, tt)) refl

-- vars d k n c p z; hyp hk: 0 <= k; hyp hd: k <= d; hyp hn: 0 < n; hyp hp: n*c <= p; hyp hz: c <= z; goal (d*n)*c <= (d-k)*p+k*(n*z); mul hd * hp; mul hk * hn+ * hz
pub stays_clear : (d k n c p z : ℤ) → (pos 0) ≤ℤ k → k ≤ℤ d → (pos 0) <ℤ n → (n *ℤ c) ≤ℤ p → c ≤ℤ z → ((d *ℤ n) *ℤ c) ≤ℤ (((d -ℤ k) *ℤ p) +ℤ (k *ℤ (n *ℤ z)))
stays_clear d k n c p z hk hd hn hp hz = prove_le_by (d ∷ k ∷ n ∷ c ∷ p ∷ z ∷ []) (Le (Num (pos 0)) (Var 1) ∷ Le (Var 1) (Var 0) ∷ Lt (Num (pos 0)) (Var 2) ∷ Le (Mul (Var 2) (Var 3)) (Var 4) ∷ Le (Var 3) (Var 5) ∷ []) (Mul (Mul (Var 0) (Var 2)) (Var 3)) (Add (Mul (Sub (Var 0) (Var 1)) (Var 4)) (Mul (Var 1) (Mul (Var 2) (Var 5)))) (Plus (Hyp 0) (Plus (Times (Hyp 2) (Hyp 4)) (Times (Times (Hyp 1) (Plus (Hyp 3) (Lit 1))) (Hyp 5)))) 0 (hk, (hd, (hn, (hp, (hz, tt))))) refl
