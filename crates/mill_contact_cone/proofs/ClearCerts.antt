-- Polynomial facts behind the lemmas on what the box and the corners alone show.
-- Written by tools/certificates.py from tools/certificates/mill_contact_cone_clears.spec.
use Rattle.std.proofs.Common.{◌≡◌, [], ◌∷◌, refl}
use lib.IntN.{ℤ, pos, ◌+ℤ◌, ◌*ℤ◌}
use lib.Signed.{◌<ℤ◌, ◌≤ℤ◌}
use Rattle.mill_base.proofs.Ring.{Var, Num, Add, Mul, ring}
use Rattle.mill_base.proofs.Cert.{Le, Lt, Hyp, Sq, Lit, Plus, Times, refute, prove_lt_by}

-- vars z t s; hyp hs: 0 < s; hyp ht: t <= 0; hyp hz: 0 < z; hyp h: z <= t*s; goal false; mul hs+ * ht
pub low_box : (z t s : ℤ) → (pos 0) <ℤ s → t ≤ℤ (pos 0) → (pos 0) <ℤ z → z ≤ℤ (t *ℤ s) → ⊥
low_box z t s hs ht hz h = refute (z ∷ t ∷ s ∷ []) (Lt (Num (pos 0)) (Var 2) ∷ Le (Var 1) (Num (pos 0)) ∷ Lt (Num (pos 0)) (Var 0) ∷ Le (Var 0) (Mul (Var 1) (Var 2)) ∷ []) (Plus (Hyp 2) (Plus (Hyp 3) (Times (Plus (Hyp 0) (Lit 1)) (Hyp 1)))) 0 (hs, (ht, (hz, (h, tt)))) refl

-- vars X Y g r s; hyp hg: r*r <= g; hyp h: g*(s*s) <= X*X+Y*Y; hyp near: X*X+Y*Y < (r*r)*(s*s); goal false; mul hg * sq(s)
pub far_box : (X Y g r s : ℤ) → (r *ℤ r) ≤ℤ g → (g *ℤ (s *ℤ s)) ≤ℤ ((X *ℤ X) +ℤ (Y *ℤ Y)) → ((X *ℤ X) +ℤ (Y *ℤ Y)) <ℤ ((r *ℤ r) *ℤ (s *ℤ s)) → ⊥
far_box X Y g r s hg h near = refute (X ∷ Y ∷ g ∷ r ∷ s ∷ []) (Le (Mul (Var 3) (Var 3)) (Var 2) ∷ Le (Mul (Var 2) (Mul (Var 4) (Var 4))) (Add (Mul (Var 0) (Var 0)) (Mul (Var 1) (Var 1))) ∷ Lt (Add (Mul (Var 0) (Var 0)) (Mul (Var 1) (Var 1))) (Mul (Mul (Var 3) (Var 3)) (Mul (Var 4) (Var 4))) ∷ []) (Plus (Hyp 1) (Plus (Hyp 2) (Times (Hyp 0) (Sq (Var 4))))) 0 (hg, (h, (near, tt))) refl

-- vars X Y z g t s a b; hyp hz: 0 < z; hyp ht: z <= t*s; hyp hg: g*(s*s) <= X*X+Y*Y; hyp hw: (b*b)*(t*t) <= (a*a)*g; hyp hs: (a*a)*(X*X+Y*Y) < (b*b)*(z*z); goal false; mul hg * sq(a); mul hw * sq(s); mul ht * ht * sq(b); mul ht * hz+ * sq(b)
pub wall_box : (X Y z g t s a b : ℤ) → (pos 0) <ℤ z → z ≤ℤ (t *ℤ s) → (g *ℤ (s *ℤ s)) ≤ℤ ((X *ℤ X) +ℤ (Y *ℤ Y)) → ((b *ℤ b) *ℤ (t *ℤ t)) ≤ℤ ((a *ℤ a) *ℤ g) → ((a *ℤ a) *ℤ ((X *ℤ X) +ℤ (Y *ℤ Y))) <ℤ ((b *ℤ b) *ℤ (z *ℤ z)) → ⊥
wall_box X Y z g t s a b hz ht hg hw hs = refute (X ∷ Y ∷ z ∷ g ∷ t ∷ s ∷ a ∷ b ∷ []) (Lt (Num (pos 0)) (Var 2) ∷ Le (Var 2) (Mul (Var 4) (Var 5)) ∷ Le (Mul (Var 3) (Mul (Var 5) (Var 5))) (Add (Mul (Var 0) (Var 0)) (Mul (Var 1) (Var 1))) ∷ Le (Mul (Mul (Var 7) (Var 7)) (Mul (Var 4) (Var 4))) (Mul (Mul (Var 6) (Var 6)) (Var 3)) ∷ Lt (Mul (Mul (Var 6) (Var 6)) (Add (Mul (Var 0) (Var 0)) (Mul (Var 1) (Var 1)))) (Mul (Mul (Var 7) (Var 7)) (Mul (Var 2) (Var 2))) ∷ []) (Plus (Hyp 4) (Plus (Times (Hyp 2) (Sq (Var 6))) (Plus (Times (Hyp 3) (Sq (Var 5))) (Plus (Times (Times (Hyp 1) (Hyp 1)) (Sq (Var 7))) (Times (Lit 2) (Times (Times (Hyp 1) (Plus (Hyp 0) (Lit 1))) (Sq (Var 7)))))))) 0 (hz, (ht, (hg, (hw, (hs, tt))))) refl

pub corner_weights : (x y z : ℤ) → ((((pos 1) *ℤ x) +ℤ ((pos 0) *ℤ y)) +ℤ ((pos 0) *ℤ z)) ≡ x
corner_weights x y z = ring (x ∷ y ∷ z ∷ []) (Add (Add (Mul (Num (pos 1)) (Var 0)) (Mul (Num (pos 0)) (Var 1))) (Mul (Num (pos 0)) (Var 2))) (Var 0) refl

-- vars q r; hyp h: q < r*r; goal q < (r*r)*(1*1)
pub corner_near : (q r : ℤ) → q <ℤ (r *ℤ r) → q <ℤ ((r *ℤ r) *ℤ ((pos 1) *ℤ (pos 1)))
corner_near q r h = prove_lt_by (q ∷ r ∷ []) (Lt (Var 0) (Mul (Var 1) (Var 1)) ∷ []) (Var 0) (Mul (Mul (Var 1) (Var 1)) (Mul (Num (pos 1)) (Num (pos 1)))) (Plus (Hyp 0) (Hyp 1)) 0 (h, tt) refl

pub edge_weights : (x y : ℤ) → (((pos 1) *ℤ x) +ℤ ((pos 0) *ℤ y)) ≡ x
edge_weights x y = ring (x ∷ y ∷ []) (Add (Mul (Num (pos 1)) (Var 0)) (Mul (Num (pos 0)) (Var 1))) (Var 0) refl
