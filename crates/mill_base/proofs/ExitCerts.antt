-- Polynomial facts behind the first moment at which a quantity that changes linearly comes to 0.
-- Written by tools/certificates.py from tools/certificates/mill_base_exit.spec.
use Rattle.std.proofs.Common.{◌≡◌, [], ◌∷◌, refl}
use lib.IntN.{ℤ, pos, ◌+ℤ◌, ◌-ℤ◌, ◌*ℤ◌}
use lib.Signed.{◌<ℤ◌, ◌≤ℤ◌}
use Rattle.mill_base.proofs.Ring.{Var, Num, Add, Sub, Mul, ring}
use Rattle.mill_base.proofs.Cert.{Le, Lt, Hyp, Lit, Plus, Times, prove_le_by, prove_lt_by}

-- vars q v p r w s; hyp hv: 0 <= v; hyp hs: s < 0; hyp ht: 0 <= q*v+p*s; hyp hq: 0 < q; hyp hw: 0 <= w; hyp hn: q*w+p*r < 0; hyp hr: r < 0; goal 0 <= (0-r)*v + w*s; mul goal * hq+; mul goal * hq; mul hr+ * ht; mul hs+ * hn+; mul hr * ht; mul hs * hn
pub exit_keep : (q v p r w s : ℤ) → (pos 0) ≤ℤ v → s <ℤ (pos 0) → (pos 0) ≤ℤ ((q *ℤ v) +ℤ (p *ℤ s)) → (pos 0) <ℤ q → (pos 0) ≤ℤ w → ((q *ℤ w) +ℤ (p *ℤ r)) <ℤ (pos 0) → r <ℤ (pos 0) → (pos 0) ≤ℤ ((((pos 0) -ℤ r) *ℤ v) +ℤ (w *ℤ s))
exit_keep q v p r w s hv hs ht hq hw hn hr = prove_le_by (q ∷ v ∷ p ∷ r ∷ w ∷ s ∷ []) (Le (Num (pos 0)) (Var 1) ∷ Lt (Var 5) (Num (pos 0)) ∷ Le (Num (pos 0)) (Add (Mul (Var 0) (Var 1)) (Mul (Var 2) (Var 5))) ∷ Lt (Num (pos 0)) (Var 0) ∷ Le (Num (pos 0)) (Var 4) ∷ Lt (Add (Mul (Var 0) (Var 4)) (Mul (Var 2) (Var 3))) (Num (pos 0)) ∷ Lt (Var 3) (Num (pos 0)) ∷ []) (Num (pos 0)) (Add (Mul (Sub (Num (pos 0)) (Var 3)) (Var 1)) (Mul (Var 4) (Var 5))) (Plus (Hyp 2) (Plus (Hyp 4) (Plus (Hyp 6) (Plus (Times (Hyp 0) (Plus (Hyp 4) (Lit 1))) (Plus (Times (Plus (Hyp 7) (Lit 1)) (Hyp 3)) (Times (Hyp 2) (Hyp 6))))))) 1 (hv, (hs, (ht, (hq, (hw, (hn, (hr, tt))))))) refl

-- vars v w r s; hyp hv: 0 <= v; hyp hw: 0 <= w; hyp hr: r < 0; hyp hs: 0 <= s; goal 0 <= (0-r)*v + w*s; mul hr+ * hv; mul hw * hs
pub exit_rise : (v w r s : ℤ) → (pos 0) ≤ℤ v → (pos 0) ≤ℤ w → r <ℤ (pos 0) → (pos 0) ≤ℤ s → (pos 0) ≤ℤ ((((pos 0) -ℤ r) *ℤ v) +ℤ (w *ℤ s))
exit_rise v w r s hv hw hr hs = prove_le_by (v ∷ w ∷ r ∷ s ∷ []) (Le (Num (pos 0)) (Var 0) ∷ Le (Num (pos 0)) (Var 1) ∷ Lt (Var 2) (Num (pos 0)) ∷ Le (Num (pos 0)) (Var 3) ∷ []) (Num (pos 0)) (Add (Mul (Sub (Num (pos 0)) (Var 2)) (Var 0)) (Mul (Var 1) (Var 3))) (Plus (Hyp 0) (Plus (Times (Plus (Hyp 3) (Lit 1)) (Hyp 1)) (Times (Hyp 2) (Hyp 4)))) 0 (hv, (hw, (hr, (hs, tt)))) refl

pub exit_zero : (w r : ℤ) → ((((pos 0) -ℤ r) *ℤ w) +ℤ (w *ℤ r)) ≡ (pos 0)
exit_zero w r = ring (w ∷ r ∷ []) (Add (Mul (Sub (Num (pos 0)) (Var 1)) (Var 0)) (Mul (Var 0) (Var 1))) (Num (pos 0)) refl

-- vars q w p r; hyp hq: 0 < q; hyp hw: 0 <= w; hyp hp: 0 <= p; hyp hn: q*w+p*r < 0; goal r < 0; mul hq * hw; mul hp * goal; mul hw * hq+
pub exit_falls : (q w p r : ℤ) → (pos 0) <ℤ q → (pos 0) ≤ℤ w → (pos 0) ≤ℤ p → ((q *ℤ w) +ℤ (p *ℤ r)) <ℤ (pos 0) → r <ℤ (pos 0)
exit_falls q w p r hq hw hp hn = prove_lt_by (q ∷ w ∷ p ∷ r ∷ []) (Lt (Num (pos 0)) (Var 0) ∷ Le (Num (pos 0)) (Var 1) ∷ Le (Num (pos 0)) (Var 2) ∷ Lt (Add (Mul (Var 0) (Var 1)) (Mul (Var 2) (Var 3))) (Num (pos 0)) ∷ []) (Var 3) (Num (pos 0)) (Plus (Hyp 2) (Plus (Hyp 4) (Plus (Times (Hyp 1) (Hyp 2)) (Times (Hyp 3) (Hyp 0))))) 0 (hq, (hw, (hp, (hn, tt)))) refl
