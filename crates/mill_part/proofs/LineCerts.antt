-- Written by tools/certificates.py from tools/certificates/mill_part_line.spec.
-- Polynomial facts behind the lemmas on edges, and on triangles that are seen as a line.
use Rattle.std.proofs.Common.{◌≡◌, [], ◌∷◌, refl}
use lib.IntN.{ℤ, pos, negsuc, neg_ℤ, ◌+ℤ◌, ◌-ℤ◌, ◌*ℤ◌}
use lib.Signed.{◌<ℤ◌, ◌≤ℤ◌}
use Rattle.mill_base.proofs.Ring.{Var, Num, Add, Sub, Mul, Neg, ring}
use Rattle.mill_base.proofs.Cert.{Le, Lt, Eq, Hyp, TimesEq, Lit, Plus, Times, refute, prove_le_by, prove_lt_by}

-- vars a b u v; hyp uo: 0 <= u; hyp vo: 0 <= v; hyp some: 0 < u+v; hyp ha: 0 < a; hyp hab: a <= b; hyp on: u*a+v*b == 0; goal false; mul uo * ha; mul vo * ha; mul vo * hab
pub both_over : (a b u v : ℤ) → (pos 0) ≤ℤ u → (pos 0) ≤ℤ v → (pos 0) <ℤ (u +ℤ v) → (pos 0) <ℤ a → a ≤ℤ b → ((u *ℤ a) +ℤ (v *ℤ b)) ≡ (pos 0) → ⊥
both_over a b u v uo vo some ha hab on = refute (a ∷ b ∷ u ∷ v ∷ []) (Le (Num (pos 0)) (Var 2) ∷ Le (Num (pos 0)) (Var 3) ∷ Lt (Num (pos 0)) (Add (Var 2) (Var 3)) ∷ Lt (Num (pos 0)) (Var 0) ∷ Le (Var 0) (Var 1) ∷ Eq (Add (Mul (Var 2) (Var 0)) (Mul (Var 3) (Var 1))) (Num (pos 0)) ∷ []) (Plus (Hyp 2) (Plus (TimesEq 5 (Num (pos 1))) (Plus (Times (Hyp 0) (Hyp 3)) (Plus (Times (Hyp 1) (Hyp 3)) (Times (Hyp 1) (Hyp 4)))))) 0 (uo, (vo, (some, (ha, (hab, (on, tt)))))) refl

-- vars a b u v; hyp uo: 0 <= u; hyp vo: 0 <= v; hyp some: 0 < u+v; hyp hb: b < 0; hyp hab: a <= b; hyp on: u*a+v*b == 0; goal false; mul uo * hb; mul vo * hb; mul uo * hab
pub both_under : (a b u v : ℤ) → (pos 0) ≤ℤ u → (pos 0) ≤ℤ v → (pos 0) <ℤ (u +ℤ v) → b <ℤ (pos 0) → a ≤ℤ b → ((u *ℤ a) +ℤ (v *ℤ b)) ≡ (pos 0) → ⊥
both_under a b u v uo vo some hb hab on = refute (a ∷ b ∷ u ∷ v ∷ []) (Le (Num (pos 0)) (Var 2) ∷ Le (Num (pos 0)) (Var 3) ∷ Lt (Num (pos 0)) (Add (Var 2) (Var 3)) ∷ Lt (Var 1) (Num (pos 0)) ∷ Le (Var 0) (Var 1) ∷ Eq (Add (Mul (Var 2) (Var 0)) (Mul (Var 3) (Var 1))) (Num (pos 0)) ∷ []) (Plus (Hyp 2) (Plus (TimesEq 5 (Num (negsuc 0))) (Plus (Times (Hyp 0) (Hyp 3)) (Plus (Times (Hyp 1) (Hyp 3)) (Times (Hyp 0) (Hyp 4)))))) 0 (uo, (vo, (some, (hb, (hab, (on, tt)))))) refl

-- vars u v y z m h; hyp uo: 0 <= u; hyp vo: 0 <= v; hyp some: 0 < u+v; hyp hy: y <= m; hyp hz: z <= m; hyp high: (u+v)*h <= u*y+v*z; goal h <= m; mul uo * hy; mul vo * hz; mul some+ * goal
pub edge_under : (u v y z m h : ℤ) → (pos 0) ≤ℤ u → (pos 0) ≤ℤ v → (pos 0) <ℤ (u +ℤ v) → y ≤ℤ m → z ≤ℤ m → ((u +ℤ v) *ℤ h) ≤ℤ ((u *ℤ y) +ℤ (v *ℤ z)) → h ≤ℤ m
edge_under u v y z m h uo vo some hy hz high = prove_le_by (u ∷ v ∷ y ∷ z ∷ m ∷ h ∷ []) (Le (Num (pos 0)) (Var 0) ∷ Le (Num (pos 0)) (Var 1) ∷ Lt (Num (pos 0)) (Add (Var 0) (Var 1)) ∷ Le (Var 2) (Var 4) ∷ Le (Var 3) (Var 4) ∷ Le (Mul (Add (Var 0) (Var 1)) (Var 5)) (Add (Mul (Var 0) (Var 2)) (Mul (Var 1) (Var 3))) ∷ []) (Var 5) (Var 4) (Plus (Hyp 3) (Plus (Hyp 6) (Plus (Times (Hyp 1) (Hyp 4)) (Plus (Times (Hyp 2) (Hyp 5)) (Times (Plus (Hyp 3) (Lit 1)) (Hyp 0)))))) 0 (uo, (vo, (some, (hy, (hz, (high, tt)))))) refl

-- vars a b y z u v h q; hyp some: 0 < u+v; hyp apart: a < b; hyp on: u*a+v*b == 0; hyp next: b*y-a*z < (b-a)*(q+1); hyp high: (u+v)*h <= u*y+v*z; goal h <= q; mul some+ * next; mul apart+ * high; mul some+ * apart+ * goal; eqmul on * y; eqmul on * z; eqmul on * h; eqmul on * q
pub edge_greatest : (a b y z u v h q : ℤ) → (pos 0) <ℤ (u +ℤ v) → a <ℤ b → ((u *ℤ a) +ℤ (v *ℤ b)) ≡ (pos 0) → ((b *ℤ y) -ℤ (a *ℤ z)) <ℤ ((b -ℤ a) *ℤ (q +ℤ (pos 1))) → ((u +ℤ v) *ℤ h) ≤ℤ ((u *ℤ y) +ℤ (v *ℤ z)) → h ≤ℤ q
edge_greatest a b y z u v h q some apart on next high = prove_le_by (a ∷ b ∷ y ∷ z ∷ u ∷ v ∷ h ∷ q ∷ []) (Lt (Num (pos 0)) (Add (Var 4) (Var 5)) ∷ Lt (Var 0) (Var 1) ∷ Eq (Add (Mul (Var 4) (Var 0)) (Mul (Var 5) (Var 1))) (Num (pos 0)) ∷ Lt (Sub (Mul (Var 1) (Var 2)) (Mul (Var 0) (Var 3))) (Mul (Sub (Var 1) (Var 0)) (Add (Var 7) (Num (pos 1)))) ∷ Le (Mul (Add (Var 4) (Var 5)) (Var 6)) (Add (Mul (Var 4) (Var 2)) (Mul (Var 5) (Var 3))) ∷ []) (Var 6) (Var 7) (Plus (Hyp 1) (Plus (Times (Plus (Hyp 1) (Lit 1)) (Hyp 4)) (Plus (Times (Plus (Hyp 2) (Lit 1)) (Hyp 5)) (Plus (Times (Times (Plus (Hyp 1) (Lit 1)) (Plus (Hyp 2) (Lit 1))) (Hyp 0)) (Plus (TimesEq 3 (Neg (Var 2))) (TimesEq 3 (Var 3))))))) 0 (some, (apart, (on, (next, (high, tt))))) refl

pub between_on : (a b : ℤ) → ((b *ℤ a) +ℤ ((neg_ℤ a) *ℤ b)) ≡ (pos 0)
between_on a b = ring (a ∷ b ∷ []) (Add (Mul (Var 1) (Var 0)) (Mul (Neg (Var 0)) (Var 1))) (Num (pos 0)) refl

-- vars a b y z h; hyp below: (b-a)*h <= b*y-a*z; goal (b+(-a))*h <= b*y+(-a)*z
pub between_high : (a b y z h : ℤ) → ((b -ℤ a) *ℤ h) ≤ℤ ((b *ℤ y) -ℤ (a *ℤ z)) → ((b +ℤ (neg_ℤ a)) *ℤ h) ≤ℤ ((b *ℤ y) +ℤ ((neg_ℤ a) *ℤ z))
between_high a b y z h below = prove_le_by (a ∷ b ∷ y ∷ z ∷ h ∷ []) (Le (Mul (Sub (Var 1) (Var 0)) (Var 4)) (Sub (Mul (Var 1) (Var 2)) (Mul (Var 0) (Var 3))) ∷ []) (Mul (Add (Var 1) (Neg (Var 0))) (Var 4)) (Add (Mul (Var 1) (Var 2)) (Mul (Neg (Var 0)) (Var 3))) (Plus (Hyp 0) (Hyp 1)) 0 (below, tt) refl

-- vars a b y z m; hyp ha: a <= 0; hyp hb: 0 <= b; hyp hy: y <= m; hyp hz: z <= m; goal b*y-a*z <= m*(b-a); mul hb * hy; mul ha * hz
pub between_most : (a b y z m : ℤ) → a ≤ℤ (pos 0) → (pos 0) ≤ℤ b → y ≤ℤ m → z ≤ℤ m → ((b *ℤ y) -ℤ (a *ℤ z)) ≤ℤ (m *ℤ (b -ℤ a))
between_most a b y z m ha hb hy hz = prove_le_by (a ∷ b ∷ y ∷ z ∷ m ∷ []) (Le (Var 0) (Num (pos 0)) ∷ Le (Num (pos 0)) (Var 1) ∷ Le (Var 2) (Var 4) ∷ Le (Var 3) (Var 4) ∷ []) (Sub (Mul (Var 1) (Var 2)) (Mul (Var 0) (Var 3))) (Mul (Var 4) (Sub (Var 1) (Var 0))) (Plus (Hyp 0) (Plus (Times (Hyp 2) (Hyp 3)) (Times (Hyp 1) (Hyp 4)))) 0 (ha, (hb, (hy, (hz, tt)))) refl

-- vars a b y z m; hyp ha: a <= 0; hyp hb: 0 <= b; hyp hy: m <= y; hyp hz: m <= z; goal m*(b-a) <= b*y-a*z; mul hb * hy; mul ha * hz
pub between_least : (a b y z m : ℤ) → a ≤ℤ (pos 0) → (pos 0) ≤ℤ b → m ≤ℤ y → m ≤ℤ z → (m *ℤ (b -ℤ a)) ≤ℤ ((b *ℤ y) -ℤ (a *ℤ z))
between_least a b y z m ha hb hy hz = prove_le_by (a ∷ b ∷ y ∷ z ∷ m ∷ []) (Le (Var 0) (Num (pos 0)) ∷ Le (Num (pos 0)) (Var 1) ∷ Le (Var 4) (Var 2) ∷ Le (Var 4) (Var 3) ∷ []) (Mul (Var 4) (Sub (Var 1) (Var 0))) (Sub (Mul (Var 1) (Var 2)) (Mul (Var 0) (Var 3))) (Plus (Hyp 0) (Plus (Times (Hyp 2) (Hyp 3)) (Times (Hyp 1) (Hyp 4)))) 0 (ha, (hb, (hy, (hz, tt)))) refl

pub first_on : (a b : ℤ) → (((pos 1) *ℤ a) +ℤ ((pos 0) *ℤ b)) ≡ a
first_on a b = ring (a ∷ b ∷ []) (Add (Mul (Num (pos 1)) (Var 0)) (Mul (Num (pos 0)) (Var 1))) (Var 0) refl

-- vars y z h; hyp le: h <= y; goal (1+0)*h <= 1*y+0*z
pub first_high : (y z h : ℤ) → h ≤ℤ y → (((pos 1) +ℤ (pos 0)) *ℤ h) ≤ℤ (((pos 1) *ℤ y) +ℤ ((pos 0) *ℤ z))
first_high y z h le = prove_le_by (y ∷ z ∷ h ∷ []) (Le (Var 2) (Var 0) ∷ []) (Mul (Add (Num (pos 1)) (Num (pos 0))) (Var 2)) (Add (Mul (Num (pos 1)) (Var 0)) (Mul (Num (pos 0)) (Var 1))) (Plus (Hyp 0) (Hyp 1)) 0 (le, tt) refl

-- vars a b u v; hyp on: u*a+v*b == 0; goal v*b+u*a <= 0
pub turned_on : (a b u v : ℤ) → ((u *ℤ a) +ℤ (v *ℤ b)) ≡ (pos 0) → ((v *ℤ b) +ℤ (u *ℤ a)) ≤ℤ (pos 0)
turned_on a b u v on = prove_le_by (a ∷ b ∷ u ∷ v ∷ []) (Eq (Add (Mul (Var 2) (Var 0)) (Mul (Var 3) (Var 1))) (Num (pos 0)) ∷ []) (Add (Mul (Var 3) (Var 1)) (Mul (Var 2) (Var 0))) (Num (pos 0)) (Plus (Hyp 0) (TimesEq 1 (Num (pos 1)))) 0 (on, tt) refl

-- vars a b u v; hyp on: u*a+v*b == 0; goal 0 <= v*b+u*a
pub turned_on_least : (a b u v : ℤ) → ((u *ℤ a) +ℤ (v *ℤ b)) ≡ (pos 0) → (pos 0) ≤ℤ ((v *ℤ b) +ℤ (u *ℤ a))
turned_on_least a b u v on = prove_le_by (a ∷ b ∷ u ∷ v ∷ []) (Eq (Add (Mul (Var 2) (Var 0)) (Mul (Var 3) (Var 1))) (Num (pos 0)) ∷ []) (Num (pos 0)) (Add (Mul (Var 3) (Var 1)) (Mul (Var 2) (Var 0))) (Plus (Hyp 0) (TimesEq 1 (Num (negsuc 0)))) 0 (on, tt) refl

-- vars y z u v h; hyp high: (u+v)*h <= u*y+v*z; goal (v+u)*h <= v*z+u*y
pub turned_high : (y z u v h : ℤ) → ((u +ℤ v) *ℤ h) ≤ℤ ((u *ℤ y) +ℤ (v *ℤ z)) → ((v +ℤ u) *ℤ h) ≤ℤ ((v *ℤ z) +ℤ (u *ℤ y))
turned_high y z u v h high = prove_le_by (y ∷ z ∷ u ∷ v ∷ h ∷ []) (Le (Mul (Add (Var 2) (Var 3)) (Var 4)) (Add (Mul (Var 2) (Var 0)) (Mul (Var 3) (Var 1))) ∷ []) (Mul (Add (Var 3) (Var 2)) (Var 4)) (Add (Mul (Var 3) (Var 1)) (Mul (Var 2) (Var 0))) (Plus (Hyp 0) (Hyp 1)) 0 (high, tt) refl

-- vars a b c u v; hyp on: u*a+v*b == 0; goal (u*a+v*b)+0*c <= 0
pub third_on : (a b c u v : ℤ) → ((u *ℤ a) +ℤ (v *ℤ b)) ≡ (pos 0) → (((u *ℤ a) +ℤ (v *ℤ b)) +ℤ ((pos 0) *ℤ c)) ≤ℤ (pos 0)
third_on a b c u v on = prove_le_by (a ∷ b ∷ c ∷ u ∷ v ∷ []) (Eq (Add (Mul (Var 3) (Var 0)) (Mul (Var 4) (Var 1))) (Num (pos 0)) ∷ []) (Add (Add (Mul (Var 3) (Var 0)) (Mul (Var 4) (Var 1))) (Mul (Num (pos 0)) (Var 2))) (Num (pos 0)) (Plus (Hyp 0) (TimesEq 1 (Num (pos 1)))) 0 (on, tt) refl

-- vars a b c u v; hyp on: u*a+v*b == 0; goal 0 <= (u*a+v*b)+0*c
pub third_on_least : (a b c u v : ℤ) → ((u *ℤ a) +ℤ (v *ℤ b)) ≡ (pos 0) → (pos 0) ≤ℤ (((u *ℤ a) +ℤ (v *ℤ b)) +ℤ ((pos 0) *ℤ c))
third_on_least a b c u v on = prove_le_by (a ∷ b ∷ c ∷ u ∷ v ∷ []) (Eq (Add (Mul (Var 3) (Var 0)) (Mul (Var 4) (Var 1))) (Num (pos 0)) ∷ []) (Num (pos 0)) (Add (Add (Mul (Var 3) (Var 0)) (Mul (Var 4) (Var 1))) (Mul (Num (pos 0)) (Var 2))) (Plus (Hyp 0) (TimesEq 1 (Num (negsuc 0)))) 0 (on, tt) refl

-- vars y z t u v h; hyp high: (u+v)*h <= u*y+v*z; goal ((u+v)+0)*h <= (u*y+v*z)+0*t
pub third_high : (y z t u v h : ℤ) → ((u +ℤ v) *ℤ h) ≤ℤ ((u *ℤ y) +ℤ (v *ℤ z)) → (((u +ℤ v) +ℤ (pos 0)) *ℤ h) ≤ℤ (((u *ℤ y) +ℤ (v *ℤ z)) +ℤ ((pos 0) *ℤ t))
third_high y z t u v h high = prove_le_by (y ∷ z ∷ t ∷ u ∷ v ∷ h ∷ []) (Le (Mul (Add (Var 3) (Var 4)) (Var 5)) (Add (Mul (Var 3) (Var 0)) (Mul (Var 4) (Var 1))) ∷ []) (Mul (Add (Add (Var 3) (Var 4)) (Num (pos 0))) (Var 5)) (Add (Add (Mul (Var 3) (Var 0)) (Mul (Var 4) (Var 1))) (Mul (Num (pos 0)) (Var 2))) (Plus (Hyp 0) (Hyp 1)) 0 (high, tt) refl

-- vars a b c u v w; hyp on: (u*a+v*b)+w*c == 0; goal (v*b+w*c)+u*a <= 0
pub rotated_on : (a b c u v w : ℤ) → (((u *ℤ a) +ℤ (v *ℤ b)) +ℤ (w *ℤ c)) ≡ (pos 0) → (((v *ℤ b) +ℤ (w *ℤ c)) +ℤ (u *ℤ a)) ≤ℤ (pos 0)
rotated_on a b c u v w on = prove_le_by (a ∷ b ∷ c ∷ u ∷ v ∷ w ∷ []) (Eq (Add (Add (Mul (Var 3) (Var 0)) (Mul (Var 4) (Var 1))) (Mul (Var 5) (Var 2))) (Num (pos 0)) ∷ []) (Add (Add (Mul (Var 4) (Var 1)) (Mul (Var 5) (Var 2))) (Mul (Var 3) (Var 0))) (Num (pos 0)) (Plus (Hyp 0) (TimesEq 1 (Num (pos 1)))) 0 (on, tt) refl

-- vars a b c u v w; hyp on: (u*a+v*b)+w*c == 0; goal 0 <= (v*b+w*c)+u*a
pub rotated_on_least : (a b c u v w : ℤ) → (((u *ℤ a) +ℤ (v *ℤ b)) +ℤ (w *ℤ c)) ≡ (pos 0) → (pos 0) ≤ℤ (((v *ℤ b) +ℤ (w *ℤ c)) +ℤ (u *ℤ a))
rotated_on_least a b c u v w on = prove_le_by (a ∷ b ∷ c ∷ u ∷ v ∷ w ∷ []) (Eq (Add (Add (Mul (Var 3) (Var 0)) (Mul (Var 4) (Var 1))) (Mul (Var 5) (Var 2))) (Num (pos 0)) ∷ []) (Num (pos 0)) (Add (Add (Mul (Var 4) (Var 1)) (Mul (Var 5) (Var 2))) (Mul (Var 3) (Var 0))) (Plus (Hyp 0) (TimesEq 1 (Num (negsuc 0)))) 0 (on, tt) refl

-- vars x y z u v w h; hyp high: ((u+v)+w)*h <= (u*x+v*y)+w*z; goal ((v+w)+u)*h <= (v*y+w*z)+u*x
pub rotated_high : (x y z u v w h : ℤ) → (((u +ℤ v) +ℤ w) *ℤ h) ≤ℤ (((u *ℤ x) +ℤ (v *ℤ y)) +ℤ (w *ℤ z)) → (((v +ℤ w) +ℤ u) *ℤ h) ≤ℤ (((v *ℤ y) +ℤ (w *ℤ z)) +ℤ (u *ℤ x))
rotated_high x y z u v w h high = prove_le_by (x ∷ y ∷ z ∷ u ∷ v ∷ w ∷ h ∷ []) (Le (Mul (Add (Add (Var 3) (Var 4)) (Var 5)) (Var 6)) (Add (Add (Mul (Var 3) (Var 0)) (Mul (Var 4) (Var 1))) (Mul (Var 5) (Var 2))) ∷ []) (Mul (Add (Add (Var 4) (Var 5)) (Var 3)) (Var 6)) (Add (Add (Mul (Var 4) (Var 1)) (Mul (Var 5) (Var 2))) (Mul (Var 3) (Var 0))) (Plus (Hyp 0) (Hyp 1)) 0 (high, tt) refl

-- vars a b c u v w; hyp on: (u*a+v*b)+w*c == 0; goal (u*(-a)+v*(-b))+w*(-c) <= 0
pub mirrored_on : (a b c u v w : ℤ) → (((u *ℤ a) +ℤ (v *ℤ b)) +ℤ (w *ℤ c)) ≡ (pos 0) → (((u *ℤ (neg_ℤ a)) +ℤ (v *ℤ (neg_ℤ b))) +ℤ (w *ℤ (neg_ℤ c))) ≤ℤ (pos 0)
mirrored_on a b c u v w on = prove_le_by (a ∷ b ∷ c ∷ u ∷ v ∷ w ∷ []) (Eq (Add (Add (Mul (Var 3) (Var 0)) (Mul (Var 4) (Var 1))) (Mul (Var 5) (Var 2))) (Num (pos 0)) ∷ []) (Add (Add (Mul (Var 3) (Neg (Var 0))) (Mul (Var 4) (Neg (Var 1)))) (Mul (Var 5) (Neg (Var 2)))) (Num (pos 0)) (Plus (Hyp 0) (TimesEq 1 (Num (negsuc 0)))) 0 (on, tt) refl

-- vars a b c u v w; hyp on: (u*a+v*b)+w*c == 0; goal 0 <= (u*(-a)+v*(-b))+w*(-c)
pub mirrored_on_least : (a b c u v w : ℤ) → (((u *ℤ a) +ℤ (v *ℤ b)) +ℤ (w *ℤ c)) ≡ (pos 0) → (pos 0) ≤ℤ (((u *ℤ (neg_ℤ a)) +ℤ (v *ℤ (neg_ℤ b))) +ℤ (w *ℤ (neg_ℤ c)))
mirrored_on_least a b c u v w on = prove_le_by (a ∷ b ∷ c ∷ u ∷ v ∷ w ∷ []) (Eq (Add (Add (Mul (Var 3) (Var 0)) (Mul (Var 4) (Var 1))) (Mul (Var 5) (Var 2))) (Num (pos 0)) ∷ []) (Num (pos 0)) (Add (Add (Mul (Var 3) (Neg (Var 0))) (Mul (Var 4) (Neg (Var 1)))) (Mul (Var 5) (Neg (Var 2)))) (Plus (Hyp 0) (TimesEq 1 (Num (pos 1)))) 0 (on, tt) refl

-- vars a b y z h; hyp across: a*z-b*y < (a-b)*h; goal (-b)*y-(-a)*z < ((-b)-(-a))*h
pub mirrored_across : (a b y z h : ℤ) → ((a *ℤ z) -ℤ (b *ℤ y)) <ℤ ((a -ℤ b) *ℤ h) → (((neg_ℤ b) *ℤ y) -ℤ ((neg_ℤ a) *ℤ z)) <ℤ (((neg_ℤ b) -ℤ (neg_ℤ a)) *ℤ h)
mirrored_across a b y z h across = prove_lt_by (a ∷ b ∷ y ∷ z ∷ h ∷ []) (Lt (Sub (Mul (Var 0) (Var 3)) (Mul (Var 1) (Var 2))) (Mul (Sub (Var 0) (Var 1)) (Var 4)) ∷ []) (Sub (Mul (Neg (Var 1)) (Var 2)) (Mul (Neg (Var 0)) (Var 3))) (Mul (Sub (Neg (Var 1)) (Neg (Var 0))) (Var 4)) (Plus (Hyp 0) (Hyp 1)) 0 (across, tt) refl

-- vars p q r x y z u v w h; hyp vo: 0 <= v; hyp wo: 0 <= w; hyp up: 0 < p; hyp mq: p*y-q*x < (p-q)*h; hyp mr: p*z-r*x < (p-r)*h; hyp on: (u*p+v*q)+w*r == 0; hyp high: ((u+v)+w)*h <= (u*x+v*y)+w*z; goal v+w <= 0; mul vo * mq; mul wo * mr; mul up+ * high; eqmul on * x; eqmul on * h
pub apex_rest : (p q r x y z u v w h : ℤ) → (pos 0) ≤ℤ v → (pos 0) ≤ℤ w → (pos 0) <ℤ p → ((p *ℤ y) -ℤ (q *ℤ x)) <ℤ ((p -ℤ q) *ℤ h) → ((p *ℤ z) -ℤ (r *ℤ x)) <ℤ ((p -ℤ r) *ℤ h) → (((u *ℤ p) +ℤ (v *ℤ q)) +ℤ (w *ℤ r)) ≡ (pos 0) → (((u +ℤ v) +ℤ w) *ℤ h) ≤ℤ (((u *ℤ x) +ℤ (v *ℤ y)) +ℤ (w *ℤ z)) → (v +ℤ w) ≤ℤ (pos 0)
apex_rest p q r x y z u v w h vo wo up mq mr on high = prove_le_by (p ∷ q ∷ r ∷ x ∷ y ∷ z ∷ u ∷ v ∷ w ∷ h ∷ []) (Le (Num (pos 0)) (Var 7) ∷ Le (Num (pos 0)) (Var 8) ∷ Lt (Num (pos 0)) (Var 0) ∷ Lt (Sub (Mul (Var 0) (Var 4)) (Mul (Var 1) (Var 3))) (Mul (Sub (Var 0) (Var 1)) (Var 9)) ∷ Lt (Sub (Mul (Var 0) (Var 5)) (Mul (Var 2) (Var 3))) (Mul (Sub (Var 0) (Var 2)) (Var 9)) ∷ Eq (Add (Add (Mul (Var 6) (Var 0)) (Mul (Var 7) (Var 1))) (Mul (Var 8) (Var 2))) (Num (pos 0)) ∷ Le (Mul (Add (Add (Var 6) (Var 7)) (Var 8)) (Var 9)) (Add (Add (Mul (Var 6) (Var 3)) (Mul (Var 7) (Var 4))) (Mul (Var 8) (Var 5))) ∷ []) (Add (Var 7) (Var 8)) (Num (pos 0)) (Plus (Hyp 0) (Plus (Times (Hyp 1) (Hyp 4)) (Plus (Times (Hyp 2) (Hyp 5)) (Plus (Times (Plus (Hyp 3) (Lit 1)) (Hyp 7)) (Plus (TimesEq 6 (Var 3)) (TimesEq 6 (Neg (Var 9)))))))) 0 (vo, (wo, (up, (mq, (mr, (on, (high, tt))))))) refl

-- vars p q r u v w; hyp up: 0 < p; hyp ql: q <= 0; hyp rl: r <= 0; hyp u1: 0 < u; hyp v0: v == 0; hyp w0: w == 0; hyp on: (u*p+v*q)+w*r == 0; goal false; mul u1 * up; eqmul v0 * q; eqmul w0 * r
pub apex_none : (p q r u v w : ℤ) → (pos 0) <ℤ p → q ≤ℤ (pos 0) → r ≤ℤ (pos 0) → (pos 0) <ℤ u → v ≡ (pos 0) → w ≡ (pos 0) → (((u *ℤ p) +ℤ (v *ℤ q)) +ℤ (w *ℤ r)) ≡ (pos 0) → ⊥
apex_none p q r u v w up ql rl u1 v0 w0 on = refute (p ∷ q ∷ r ∷ u ∷ v ∷ w ∷ []) (Lt (Num (pos 0)) (Var 0) ∷ Le (Var 1) (Num (pos 0)) ∷ Le (Var 2) (Num (pos 0)) ∷ Lt (Num (pos 0)) (Var 3) ∷ Eq (Var 4) (Num (pos 0)) ∷ Eq (Var 5) (Num (pos 0)) ∷ Eq (Add (Add (Mul (Var 3) (Var 0)) (Mul (Var 4) (Var 1))) (Mul (Var 5) (Var 2))) (Num (pos 0)) ∷ []) (Plus (Hyp 0) (Plus (Hyp 3) (Plus (TimesEq 6 (Num (pos 1))) (Plus (Times (Hyp 3) (Hyp 0)) (Plus (TimesEq 4 (Neg (Var 1))) (TimesEq 5 (Neg (Var 2)))))))) 0 (up, (ql, (rl, (u1, (v0, (w0, (on, tt))))))) refl

-- vars p q r u v w; hyp vo: 0 <= v; hyp wo: 0 <= w; hyp level: p == 0; hyp uq: 0 < q; hyp ur: 0 < r; hyp on: (u*p+v*q)+w*r == 0; goal v+w <= 0; mul vo * uq; mul wo * ur; eqmul level * u
pub lone_rest : (p q r u v w : ℤ) → (pos 0) ≤ℤ v → (pos 0) ≤ℤ w → p ≡ (pos 0) → (pos 0) <ℤ q → (pos 0) <ℤ r → (((u *ℤ p) +ℤ (v *ℤ q)) +ℤ (w *ℤ r)) ≡ (pos 0) → (v +ℤ w) ≤ℤ (pos 0)
lone_rest p q r u v w vo wo level uq ur on = prove_le_by (p ∷ q ∷ r ∷ u ∷ v ∷ w ∷ []) (Le (Num (pos 0)) (Var 4) ∷ Le (Num (pos 0)) (Var 5) ∷ Eq (Var 0) (Num (pos 0)) ∷ Lt (Num (pos 0)) (Var 1) ∷ Lt (Num (pos 0)) (Var 2) ∷ Eq (Add (Add (Mul (Var 3) (Var 0)) (Mul (Var 4) (Var 1))) (Mul (Var 5) (Var 2))) (Num (pos 0)) ∷ []) (Add (Var 4) (Var 5)) (Num (pos 0)) (Plus (Hyp 0) (Plus (TimesEq 6 (Num (pos 1))) (Plus (Times (Hyp 1) (Hyp 4)) (Plus (Times (Hyp 2) (Hyp 5)) (TimesEq 3 (Neg (Var 3))))))) 0 (vo, (wo, (level, (uq, (ur, (on, tt)))))) refl

-- vars x y z u v w h; hyp u1: 0 < u; hyp v0: v == 0; hyp w0: w == 0; hyp miss: x < h; hyp high: ((u+v)+w)*h <= (u*x+v*y)+w*z; goal false; mul u1+ * miss; eqmul v0 * h; eqmul v0 * y; eqmul w0 * h; eqmul w0 * z
pub lone_none : (x y z u v w h : ℤ) → (pos 0) <ℤ u → v ≡ (pos 0) → w ≡ (pos 0) → x <ℤ h → (((u +ℤ v) +ℤ w) *ℤ h) ≤ℤ (((u *ℤ x) +ℤ (v *ℤ y)) +ℤ (w *ℤ z)) → ⊥
lone_none x y z u v w h u1 v0 w0 miss high = refute (x ∷ y ∷ z ∷ u ∷ v ∷ w ∷ h ∷ []) (Lt (Num (pos 0)) (Var 3) ∷ Eq (Var 4) (Num (pos 0)) ∷ Eq (Var 5) (Num (pos 0)) ∷ Lt (Var 0) (Var 6) ∷ Le (Mul (Add (Add (Var 3) (Var 4)) (Var 5)) (Var 6)) (Add (Add (Mul (Var 3) (Var 0)) (Mul (Var 4) (Var 1))) (Mul (Var 5) (Var 2))) ∷ []) (Plus (Hyp 0) (Plus (Hyp 4) (Plus (Times (Plus (Hyp 0) (Lit 1)) (Hyp 3)) (Plus (TimesEq 1 (Neg (Var 6))) (Plus (TimesEq 1 (Var 1)) (Plus (TimesEq 2 (Neg (Var 6))) (TimesEq 2 (Var 2)))))))) 0 (u1, (v0, (w0, (miss, (high, tt))))) refl

-- vars p q r u v w; hyp uo: 0 <= u; hyp vo: 0 <= v; hyp wo: 0 <= w; hyp some: 0 < (u+v)+w; hyp up: 0 < p; hyp uq: 0 < q; hyp ur: 0 < r; hyp on: (u*p+v*q)+w*r == 0; goal false; mul uo * up; mul vo * uq; mul wo * ur
pub all_over : (p q r u v w : ℤ) → (pos 0) ≤ℤ u → (pos 0) ≤ℤ v → (pos 0) ≤ℤ w → (pos 0) <ℤ ((u +ℤ v) +ℤ w) → (pos 0) <ℤ p → (pos 0) <ℤ q → (pos 0) <ℤ r → (((u *ℤ p) +ℤ (v *ℤ q)) +ℤ (w *ℤ r)) ≡ (pos 0) → ⊥
all_over p q r u v w uo vo wo some up uq ur on = refute (p ∷ q ∷ r ∷ u ∷ v ∷ w ∷ []) (Le (Num (pos 0)) (Var 3) ∷ Le (Num (pos 0)) (Var 4) ∷ Le (Num (pos 0)) (Var 5) ∷ Lt (Num (pos 0)) (Add (Add (Var 3) (Var 4)) (Var 5)) ∷ Lt (Num (pos 0)) (Var 0) ∷ Lt (Num (pos 0)) (Var 1) ∷ Lt (Num (pos 0)) (Var 2) ∷ Eq (Add (Add (Mul (Var 3) (Var 0)) (Mul (Var 4) (Var 1))) (Mul (Var 5) (Var 2))) (Num (pos 0)) ∷ []) (Plus (Hyp 3) (Plus (TimesEq 7 (Num (pos 1))) (Plus (Times (Hyp 0) (Hyp 4)) (Plus (Times (Hyp 1) (Hyp 5)) (Times (Hyp 2) (Hyp 6)))))) 0 (uo, (vo, (wo, (some, (up, (uq, (ur, (on, tt)))))))) refl
