-- Polynomial facts behind a move that is raised.
-- Written by tools/certificates.py from tools/certificates/mill_gouge_rising.spec.
use Rattle.std.proofs.Common.{[], ◌∷◌, refl}
use lib.IntN.{ℤ, pos, ◌+ℤ◌, ◌-ℤ◌, ◌*ℤ◌}
use lib.Signed.{◌<ℤ◌, ◌≤ℤ◌}
use Rattle.mill_base.proofs.Ring.{Var, Num, Add, Sub, Mul}
use Rattle.mill_base.proofs.Cert.{Le, Lt, Hyp, Lit, Plus, Times, prove_le_by}

-- vars n k f t h; hyp hn: 0 <= n; hyp hh: 0 <= h; goal (n-k)*f + k*t <= (n-k)*(f+h) + k*(t+h); mul hn * hh
pub end_rises : (n k f t h : ℤ) → (pos 0) ≤ℤ n → (pos 0) ≤ℤ h → (((n -ℤ k) *ℤ f) +ℤ (k *ℤ t)) ≤ℤ (((n -ℤ k) *ℤ (f +ℤ h)) +ℤ (k *ℤ (t +ℤ h)))
end_rises n k f t h hn hh = prove_le_by (n ∷ k ∷ f ∷ t ∷ h ∷ []) (Le (Num (pos 0)) (Var 0) ∷ Le (Num (pos 0)) (Var 4) ∷ []) (Add (Mul (Sub (Var 0) (Var 1)) (Var 2)) (Mul (Var 1) (Var 3))) (Add (Mul (Sub (Var 0) (Var 1)) (Add (Var 2) (Var 4))) (Mul (Var 1) (Add (Var 3) (Var 4)))) (Plus (Hyp 0) (Times (Hyp 1) (Hyp 2))) 0 (hn, (hh, tt)) refl

-- vars n q p y z; hyp hn: 0 < n; hyp hq: n*q <= y; hyp hyz: y <= z; hyp hp: z < n*p+n; goal q <= p; mul goal * hn; mul goal * hn+
pub quotient_rises : (n q p y z : ℤ) → (pos 0) <ℤ n → (n *ℤ q) ≤ℤ y → y ≤ℤ z → z <ℤ ((n *ℤ p) +ℤ n) → q ≤ℤ p
quotient_rises n q p y z hn hq hyz hp = prove_le_by (n ∷ q ∷ p ∷ y ∷ z ∷ []) (Lt (Num (pos 0)) (Var 0) ∷ Le (Mul (Var 0) (Var 1)) (Var 3) ∷ Le (Var 3) (Var 4) ∷ Lt (Var 4) (Add (Mul (Var 0) (Var 2)) (Var 0)) ∷ []) (Var 1) (Var 2) (Plus (Hyp 0) (Plus (Hyp 2) (Plus (Hyp 3) (Plus (Hyp 4) (Times (Hyp 0) (Hyp 1)))))) 0 (hn, (hq, (hyz, (hp, tt)))) refl

-- vars n a l z s; hyp hn: 0 < n; hyp hz: l <= z; goal 1*a - n*(z - s) <= 1*a - n*(l - s); mul hn+ * hz
pub lower_tip : (n a l z s : ℤ) → (pos 0) <ℤ n → l ≤ℤ z → (((pos 1) *ℤ a) -ℤ (n *ℤ (z -ℤ s))) ≤ℤ (((pos 1) *ℤ a) -ℤ (n *ℤ (l -ℤ s)))
lower_tip n a l z s hn hz = prove_le_by (n ∷ a ∷ l ∷ z ∷ s ∷ []) (Lt (Num (pos 0)) (Var 0) ∷ Le (Var 2) (Var 3) ∷ []) (Sub (Mul (Num (pos 1)) (Var 1)) (Mul (Var 0) (Sub (Var 3) (Var 4)))) (Sub (Mul (Num (pos 1)) (Var 1)) (Mul (Var 0) (Sub (Var 2) (Var 4)))) (Plus (Hyp 0) (Times (Plus (Hyp 1) (Lit 1)) (Hyp 2))) 0 (hn, (hz, tt)) refl
