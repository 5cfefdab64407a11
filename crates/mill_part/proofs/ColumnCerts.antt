-- Written by tools/certificates.py from tools/certificates/mill_part_column.spec.
-- Polynomial facts behind the lemmas on triangles over a column.
use Rattle.std.proofs.Common.{◌≡◌, [], ◌∷◌, refl}
use lib.IntN.{ℤ, pos, negsuc, ◌+ℤ◌, ◌-ℤ◌, ◌*ℤ◌}
use lib.Signed.{◌<ℤ◌, ◌≤ℤ◌}
use Rattle.mill_base.proofs.Ring.{Var, Num, Add, Sub, Mul, Neg, ring}
use Rattle.mill_base.proofs.Cert.{Le, Lt, Eq, Hyp, TimesEq, Sq, Lit, Plus, Times, refute, prove_le_by}

-- vars n h l z; hyp some: 0 < n; hyp le: l <= h; hyp high: n*h <= z; goal n*l <= z; mul some+ * le
pub lower_too : (n h l z : ℤ) → (pos 0) <ℤ n → l ≤ℤ h → (n *ℤ h) ≤ℤ z → (n *ℤ l) ≤ℤ z
lower_too n h l z some le high = prove_le_by (n ∷ h ∷ l ∷ z ∷ []) (Lt (Num (pos 0)) (Var 0) ∷ Le (Var 2) (Var 1) ∷ Le (Mul (Var 0) (Var 1)) (Var 3) ∷ []) (Mul (Var 0) (Var 2)) (Var 3) (Plus (Hyp 0) (Plus (Hyp 3) (Times (Plus (Hyp 1) (Lit 1)) (Hyp 2)))) 0 (some, (le, (high, tt))) refl

-- vars u v w za zb zc m h; hyp uo: 0 <= u; hyp vo: 0 <= v; hyp wo: 0 <= w; hyp some: 0 < (u+v)+w; hyp ha: za <= m; hyp hb: zb <= m; hyp hc: zc <= m; hyp high: ((u+v)+w)*h <= (u*za+v*zb)+w*zc; goal h <= m; mul uo * ha; mul vo * hb; mul wo * hc; mul some+ * goal
pub mean_under : (u v w za zb zc m h : ℤ) → (pos 0) ≤ℤ u → (pos 0) ≤ℤ v → (pos 0) ≤ℤ w → (pos 0) <ℤ ((u +ℤ v) +ℤ w) → za ≤ℤ m → zb ≤ℤ m → zc ≤ℤ m → (((u +ℤ v) +ℤ w) *ℤ h) ≤ℤ (((u *ℤ za) +ℤ (v *ℤ zb)) +ℤ (w *ℤ zc)) → h ≤ℤ m
mean_under u v w za zb zc m h uo vo wo some ha hb hc high = prove_le_by (u ∷ v ∷ w ∷ za ∷ zb ∷ zc ∷ m ∷ h ∷ []) (Le (Num (pos 0)) (Var 0) ∷ Le (Num (pos 0)) (Var 1) ∷ Le (Num (pos 0)) (Var 2) ∷ Lt (Num (pos 0)) (Add (Add (Var 0) (Var 1)) (Var 2)) ∷ Le (Var 3) (Var 6) ∷ Le (Var 4) (Var 6) ∷ Le (Var 5) (Var 6) ∷ Le (Mul (Add (Add (Var 0) (Var 1)) (Var 2)) (Var 7)) (Add (Add (Mul (Var 0) (Var 3)) (Mul (Var 1) (Var 4))) (Mul (Var 2) (Var 5))) ∷ []) (Var 7) (Var 6) (Plus (Hyp 4) (Plus (Hyp 8) (Plus (Times (Hyp 1) (Hyp 5)) (Plus (Times (Hyp 2) (Hyp 6)) (Plus (Times (Hyp 3) (Hyp 7)) (Times (Plus (Hyp 4) (Lit 1)) (Hyp 0))))))) 0 (uo, (vo, (wo, (some, (ha, (hb, (hc, (high, tt)))))))) refl

-- vars u v w za zb zc m; hyp uo: 0 <= u; hyp vo: 0 <= v; hyp wo: 0 <= w; hyp ha: za <= m; hyp hb: zb <= m; hyp hc: zc <= m; goal (u*za+v*zb)+w*zc <= m*((u+v)+w); mul uo * ha; mul vo * hb; mul wo * hc
pub mean_most : (u v w za zb zc m : ℤ) → (pos 0) ≤ℤ u → (pos 0) ≤ℤ v → (pos 0) ≤ℤ w → za ≤ℤ m → zb ≤ℤ m → zc ≤ℤ m → (((u *ℤ za) +ℤ (v *ℤ zb)) +ℤ (w *ℤ zc)) ≤ℤ (m *ℤ ((u +ℤ v) +ℤ w))
mean_most u v w za zb zc m uo vo wo ha hb hc = prove_le_by (u ∷ v ∷ w ∷ za ∷ zb ∷ zc ∷ m ∷ []) (Le (Num (pos 0)) (Var 0) ∷ Le (Num (pos 0)) (Var 1) ∷ Le (Num (pos 0)) (Var 2) ∷ Le (Var 3) (Var 6) ∷ Le (Var 4) (Var 6) ∷ Le (Var 5) (Var 6) ∷ []) (Add (Add (Mul (Var 0) (Var 3)) (Mul (Var 1) (Var 4))) (Mul (Var 2) (Var 5))) (Mul (Var 6) (Add (Add (Var 0) (Var 1)) (Var 2))) (Plus (Hyp 0) (Plus (Times (Hyp 1) (Hyp 4)) (Plus (Times (Hyp 2) (Hyp 5)) (Times (Hyp 3) (Hyp 6))))) 0 (uo, (vo, (wo, (ha, (hb, (hc, tt)))))) refl

-- vars u v w za zb zc m; hyp uo: 0 <= u; hyp vo: 0 <= v; hyp wo: 0 <= w; hyp ha: m <= za; hyp hb: m <= zb; hyp hc: m <= zc; goal m*((u+v)+w) <= (u*za+v*zb)+w*zc; mul uo * ha; mul vo * hb; mul wo * hc
pub mean_least : (u v w za zb zc m : ℤ) → (pos 0) ≤ℤ u → (pos 0) ≤ℤ v → (pos 0) ≤ℤ w → m ≤ℤ za → m ≤ℤ zb → m ≤ℤ zc → (m *ℤ ((u +ℤ v) +ℤ w)) ≤ℤ (((u *ℤ za) +ℤ (v *ℤ zb)) +ℤ (w *ℤ zc))
mean_least u v w za zb zc m uo vo wo ha hb hc = prove_le_by (u ∷ v ∷ w ∷ za ∷ zb ∷ zc ∷ m ∷ []) (Le (Num (pos 0)) (Var 0) ∷ Le (Num (pos 0)) (Var 1) ∷ Le (Num (pos 0)) (Var 2) ∷ Le (Var 6) (Var 3) ∷ Le (Var 6) (Var 4) ∷ Le (Var 6) (Var 5) ∷ []) (Mul (Var 6) (Add (Add (Var 0) (Var 1)) (Var 2))) (Add (Add (Mul (Var 0) (Var 3)) (Mul (Var 1) (Var 4))) (Mul (Var 2) (Var 5))) (Plus (Hyp 0) (Plus (Times (Hyp 1) (Hyp 4)) (Plus (Times (Hyp 2) (Hyp 5)) (Times (Hyp 3) (Hyp 6))))) 0 (uo, (vo, (wo, (ha, (hb, (hc, tt)))))) refl

-- vars n d q h; hyp some: 0 < d; hyp next: n < d*(q+1); hyp high: d*h <= n; goal h <= q; mul some+ * goal
pub floor_greatest : (n d q h : ℤ) → (pos 0) <ℤ d → n <ℤ (d *ℤ (q +ℤ (pos 1))) → (d *ℤ h) ≤ℤ n → h ≤ℤ q
floor_greatest n d q h some next high = prove_le_by (n ∷ d ∷ q ∷ h ∷ []) (Lt (Num (pos 0)) (Var 1) ∷ Lt (Var 0) (Mul (Var 1) (Add (Var 2) (Num (pos 1)))) ∷ Le (Mul (Var 1) (Var 3)) (Var 0) ∷ []) (Var 3) (Var 2) (Plus (Hyp 2) (Plus (Hyp 3) (Times (Plus (Hyp 1) (Lit 1)) (Hyp 0)))) 0 (some, (next, (high, tt))) refl

-- vars n d q m; hyp some: 0 < d; hyp most: n <= m*d; hyp below: d*q <= n; goal q <= m; mul some+ * goal
pub floor_most : (n d q m : ℤ) → (pos 0) <ℤ d → n ≤ℤ (m *ℤ d) → (d *ℤ q) ≤ℤ n → q ≤ℤ m
floor_most n d q m some most below = prove_le_by (n ∷ d ∷ q ∷ m ∷ []) (Lt (Num (pos 0)) (Var 1) ∷ Le (Var 0) (Mul (Var 3) (Var 1)) ∷ Le (Mul (Var 1) (Var 2)) (Var 0) ∷ []) (Var 2) (Var 3) (Plus (Hyp 1) (Plus (Hyp 2) (Plus (Hyp 3) (Times (Plus (Hyp 1) (Lit 1)) (Hyp 0))))) 0 (some, (most, (below, tt))) refl

-- vars n d q m; hyp some: 0 < d; hyp least: m*d <= n; hyp next: n < d*(q+1); goal m <= q; mul some+ * goal
pub floor_least : (n d q m : ℤ) → (pos 0) <ℤ d → (m *ℤ d) ≤ℤ n → n <ℤ (d *ℤ (q +ℤ (pos 1))) → m ≤ℤ q
floor_least n d q m some least next = prove_le_by (n ∷ d ∷ q ∷ m ∷ []) (Lt (Num (pos 0)) (Var 1) ∷ Le (Mul (Var 3) (Var 1)) (Var 0) ∷ Lt (Var 0) (Mul (Var 1) (Add (Var 2) (Num (pos 1)))) ∷ []) (Var 3) (Var 2) (Plus (Hyp 2) (Plus (Hyp 3) (Times (Plus (Hyp 1) (Lit 1)) (Hyp 0)))) 0 (some, (least, (next, tt))) refl

-- vars a b c t u v w; hyp uo: 0 <= u; hyp vo: 0 <= v; hyp wo: 0 <= w; hyp some: 0 < (u+v)+w; hyp ha: t < a; hyp hb: t < b; hyp hc: t < c; hyp on: (u*a+v*b)+w*c == ((u+v)+w)*t; goal false; mul uo * ha; mul vo * hb; mul wo * hc
pub apart_over : (a b c t u v w : ℤ) → (pos 0) ≤ℤ u → (pos 0) ≤ℤ v → (pos 0) ≤ℤ w → (pos 0) <ℤ ((u +ℤ v) +ℤ w) → t <ℤ a → t <ℤ b → t <ℤ c → (((u *ℤ a) +ℤ (v *ℤ b)) +ℤ (w *ℤ c)) ≡ (((u +ℤ v) +ℤ w) *ℤ t) → ⊥
apart_over a b c t u v w uo vo wo some ha hb hc on = refute (a ∷ b ∷ c ∷ t ∷ u ∷ v ∷ w ∷ []) (Le (Num (pos 0)) (Var 4) ∷ Le (Num (pos 0)) (Var 5) ∷ Le (Num (pos 0)) (Var 6) ∷ Lt (Num (pos 0)) (Add (Add (Var 4) (Var 5)) (Var 6)) ∷ Lt (Var 3) (Var 0) ∷ Lt (Var 3) (Var 1) ∷ Lt (Var 3) (Var 2) ∷ Eq (Add (Add (Mul (Var 4) (Var 0)) (Mul (Var 5) (Var 1))) (Mul (Var 6) (Var 2))) (Mul (Add (Add (Var 4) (Var 5)) (Var 6)) (Var 3)) ∷ []) (Plus (Hyp 3) (Plus (TimesEq 7 (Num (pos 1))) (Plus (Times (Hyp 0) (Hyp 4)) (Plus (Times (Hyp 1) (Hyp 5)) (Times (Hyp 2) (Hyp 6)))))) 0 (uo, (vo, (wo, (some, (ha, (hb, (hc, (on, tt)))))))) refl

-- vars a b c t u v w; hyp uo: 0 <= u; hyp vo: 0 <= v; hyp wo: 0 <= w; hyp some: 0 < (u+v)+w; hyp ha: a < t; hyp hb: b < t; hyp hc: c < t; hyp on: (u*a+v*b)+w*c == ((u+v)+w)*t; goal false; mul uo * ha; mul vo * hb; mul wo * hc
pub apart_under : (a b c t u v w : ℤ) → (pos 0) ≤ℤ u → (pos 0) ≤ℤ v → (pos 0) ≤ℤ w → (pos 0) <ℤ ((u +ℤ v) +ℤ w) → a <ℤ t → b <ℤ t → c <ℤ t → (((u *ℤ a) +ℤ (v *ℤ b)) +ℤ (w *ℤ c)) ≡ (((u +ℤ v) +ℤ w) *ℤ t) → ⊥
apart_under a b c t u v w uo vo wo some ha hb hc on = refute (a ∷ b ∷ c ∷ t ∷ u ∷ v ∷ w ∷ []) (Le (Num (pos 0)) (Var 4) ∷ Le (Num (pos 0)) (Var 5) ∷ Le (Num (pos 0)) (Var 6) ∷ Lt (Num (pos 0)) (Add (Add (Var 4) (Var 5)) (Var 6)) ∷ Lt (Var 0) (Var 3) ∷ Lt (Var 1) (Var 3) ∷ Lt (Var 2) (Var 3) ∷ Eq (Add (Add (Mul (Var 4) (Var 0)) (Mul (Var 5) (Var 1))) (Mul (Var 6) (Var 2))) (Mul (Add (Add (Var 4) (Var 5)) (Var 6)) (Var 3)) ∷ []) (Plus (Hyp 3) (Plus (TimesEq 7 (Num (negsuc 0))) (Plus (Times (Hyp 0) (Hyp 4)) (Plus (Times (Hyp 1) (Hyp 5)) (Times (Hyp 2) (Hyp 6)))))) 0 (uo, (vo, (wo, (some, (ha, (hb, (hc, (on, tt)))))))) refl

-- vars a b c t u v w; hyp on: (u*a+v*b)+w*c == ((u+v)+w)*t; goal (u*(a-t)+v*(b-t))+w*(c-t) <= 0
pub offsets_most : (a b c t u v w : ℤ) → (((u *ℤ a) +ℤ (v *ℤ b)) +ℤ (w *ℤ c)) ≡ (((u +ℤ v) +ℤ w) *ℤ t) → (((u *ℤ (a -ℤ t)) +ℤ (v *ℤ (b -ℤ t))) +ℤ (w *ℤ (c -ℤ t))) ≤ℤ (pos 0)
offsets_most a b c t u v w on = prove_le_by (a ∷ b ∷ c ∷ t ∷ u ∷ v ∷ w ∷ []) (Eq (Add (Add (Mul (Var 4) (Var 0)) (Mul (Var 5) (Var 1))) (Mul (Var 6) (Var 2))) (Mul (Add (Add (Var 4) (Var 5)) (Var 6)) (Var 3)) ∷ []) (Add (Add (Mul (Var 4) (Sub (Var 0) (Var 3))) (Mul (Var 5) (Sub (Var 1) (Var 3)))) (Mul (Var 6) (Sub (Var 2) (Var 3)))) (Num (pos 0)) (Plus (Hyp 0) (TimesEq 1 (Num (pos 1)))) 0 (on, tt) refl

-- vars a b c t u v w; hyp on: (u*a+v*b)+w*c == ((u+v)+w)*t; goal 0 <= (u*(a-t)+v*(b-t))+w*(c-t)
pub offsets_least : (a b c t u v w : ℤ) → (((u *ℤ a) +ℤ (v *ℤ b)) +ℤ (w *ℤ c)) ≡ (((u +ℤ v) +ℤ w) *ℤ t) → (pos 0) ≤ℤ (((u *ℤ (a -ℤ t)) +ℤ (v *ℤ (b -ℤ t))) +ℤ (w *ℤ (c -ℤ t)))
offsets_least a b c t u v w on = prove_le_by (a ∷ b ∷ c ∷ t ∷ u ∷ v ∷ w ∷ []) (Eq (Add (Add (Mul (Var 4) (Var 0)) (Mul (Var 5) (Var 1))) (Mul (Var 6) (Var 2))) (Mul (Add (Add (Var 4) (Var 5)) (Var 6)) (Var 3)) ∷ []) (Num (pos 0)) (Add (Add (Mul (Var 4) (Sub (Var 0) (Var 3))) (Mul (Var 5) (Sub (Var 1) (Var 3)))) (Mul (Var 6) (Sub (Var 2) (Var 3)))) (Plus (Hyp 0) (TimesEq 1 (Num (negsuc 0)))) 0 (on, tt) refl

-- vars a b c t u v w; hyp on: (u*(a-t)+v*(b-t))+w*(c-t) == 0; goal (u*a+v*b)+w*c <= ((u+v)+w)*t
pub places_most : (a b c t u v w : ℤ) → (((u *ℤ (a -ℤ t)) +ℤ (v *ℤ (b -ℤ t))) +ℤ (w *ℤ (c -ℤ t))) ≡ (pos 0) → (((u *ℤ a) +ℤ (v *ℤ b)) +ℤ (w *ℤ c)) ≤ℤ (((u +ℤ v) +ℤ w) *ℤ t)
places_most a b c t u v w on = prove_le_by (a ∷ b ∷ c ∷ t ∷ u ∷ v ∷ w ∷ []) (Eq (Add (Add (Mul (Var 4) (Sub (Var 0) (Var 3))) (Mul (Var 5) (Sub (Var 1) (Var 3)))) (Mul (Var 6) (Sub (Var 2) (Var 3)))) (Num (pos 0)) ∷ []) (Add (Add (Mul (Var 4) (Var 0)) (Mul (Var 5) (Var 1))) (Mul (Var 6) (Var 2))) (Mul (Add (Add (Var 4) (Var 5)) (Var 6)) (Var 3)) (Plus (Hyp 0) (TimesEq 1 (Num (pos 1)))) 0 (on, tt) refl

-- vars a b c t u v w; hyp on: (u*(a-t)+v*(b-t))+w*(c-t) == 0; goal ((u+v)+w)*t <= (u*a+v*b)+w*c
pub places_least : (a b c t u v w : ℤ) → (((u *ℤ (a -ℤ t)) +ℤ (v *ℤ (b -ℤ t))) +ℤ (w *ℤ (c -ℤ t))) ≡ (pos 0) → (((u +ℤ v) +ℤ w) *ℤ t) ≤ℤ (((u *ℤ a) +ℤ (v *ℤ b)) +ℤ (w *ℤ c))
places_least a b c t u v w on = prove_le_by (a ∷ b ∷ c ∷ t ∷ u ∷ v ∷ w ∷ []) (Eq (Add (Add (Mul (Var 4) (Sub (Var 0) (Var 3))) (Mul (Var 5) (Sub (Var 1) (Var 3)))) (Mul (Var 6) (Sub (Var 2) (Var 3)))) (Num (pos 0)) ∷ []) (Mul (Add (Add (Var 4) (Var 5)) (Var 6)) (Var 3)) (Add (Add (Mul (Var 4) (Var 0)) (Mul (Var 5) (Var 1))) (Mul (Var 6) (Var 2))) (Plus (Hyp 0) (TimesEq 1 (Num (negsuc 0)))) 0 (on, tt) refl

pub face_x : (s a d b e c f : ℤ) → ((((s *ℤ ((b *ℤ f) -ℤ (e *ℤ c))) *ℤ a) +ℤ ((s *ℤ ((c *ℤ d) -ℤ (f *ℤ a))) *ℤ b)) +ℤ ((s *ℤ ((a *ℤ e) -ℤ (d *ℤ b))) *ℤ c)) ≡ (pos 0)
face_x s a d b e c f = ring (s ∷ a ∷ d ∷ b ∷ e ∷ c ∷ f ∷ []) (Add (Add (Mul (Mul (Var 0) (Sub (Mul (Var 3) (Var 6)) (Mul (Var 4) (Var 5)))) (Var 1)) (Mul (Mul (Var 0) (Sub (Mul (Var 5) (Var 2)) (Mul (Var 6) (Var 1)))) (Var 3))) (Mul (Mul (Var 0) (Sub (Mul (Var 1) (Var 4)) (Mul (Var 2) (Var 3)))) (Var 5))) (Num (pos 0)) refl

pub face_y : (s a d b e c f : ℤ) → ((((s *ℤ ((b *ℤ f) -ℤ (e *ℤ c))) *ℤ d) +ℤ ((s *ℤ ((c *ℤ d) -ℤ (f *ℤ a))) *ℤ e)) +ℤ ((s *ℤ ((a *ℤ e) -ℤ (d *ℤ b))) *ℤ f)) ≡ (pos 0)
face_y s a d b e c f = ring (s ∷ a ∷ d ∷ b ∷ e ∷ c ∷ f ∷ []) (Add (Add (Mul (Mul (Var 0) (Sub (Mul (Var 3) (Var 6)) (Mul (Var 4) (Var 5)))) (Var 2)) (Mul (Mul (Var 0) (Sub (Mul (Var 5) (Var 2)) (Mul (Var 6) (Var 1)))) (Var 4))) (Mul (Mul (Var 0) (Sub (Mul (Var 1) (Var 4)) (Mul (Var 2) (Var 3)))) (Var 6))) (Num (pos 0)) refl

-- vars s a d b e c f p q r; hyp onx: (p*a+q*b)+r*c == 0; hyp ony: (p*d+q*e)+r*f == 0; goal ((p+q)+r)*(s*(b*f-e*c)) <= p*((s*(b*f-e*c)+s*(c*d-f*a))+s*(a*e-d*b)); eqmul onx * (s*(f-e)); eqmul ony * (s*(b-c))
pub first_share_most : (s a d b e c f p q r : ℤ) → (((p *ℤ a) +ℤ (q *ℤ b)) +ℤ (r *ℤ c)) ≡ (pos 0) → (((p *ℤ d) +ℤ (q *ℤ e)) +ℤ (r *ℤ f)) ≡ (pos 0) → (((p +ℤ q) +ℤ r) *ℤ (s *ℤ ((b *ℤ f) -ℤ (e *ℤ c)))) ≤ℤ (p *ℤ (((s *ℤ ((b *ℤ f) -ℤ (e *ℤ c))) +ℤ (s *ℤ ((c *ℤ d) -ℤ (f *ℤ a)))) +ℤ (s *ℤ ((a *ℤ e) -ℤ (d *ℤ b)))))
first_share_most s a d b e c f p q r onx ony = prove_le_by (s ∷ a ∷ d ∷ b ∷ e ∷ c ∷ f ∷ p ∷ q ∷ r ∷ []) (Eq (Add (Add (Mul (Var 7) (Var 1)) (Mul (Var 8) (Var 3))) (Mul (Var 9) (Var 5))) (Num (pos 0)) ∷ Eq (Add (Add (Mul (Var 7) (Var 2)) (Mul (Var 8) (Var 4))) (Mul (Var 9) (Var 6))) (Num (pos 0)) ∷ []) (Mul (Add (Add (Var 7) (Var 8)) (Var 9)) (Mul (Var 0) (Sub (Mul (Var 3) (Var 6)) (Mul (Var 4) (Var 5))))) (Mul (Var 7) (Add (Add (Mul (Var 0) (Sub (Mul (Var 3) (Var 6)) (Mul (Var 4) (Var 5)))) (Mul (Var 0) (Sub (Mul (Var 5) (Var 2)) (Mul (Var 6) (Var 1))))) (Mul (Var 0) (Sub (Mul (Var 1) (Var 4)) (Mul (Var 2) (Var 3)))))) (Plus (Hyp 0) (Plus (TimesEq 1 (Mul (Var 0) (Sub (Var 6) (Var 4)))) (TimesEq 2 (Mul (Var 0) (Sub (Var 3) (Var 5)))))) 0 (onx, (ony, tt)) refl

-- vars s a d b e c f p q r; hyp onx: (p*a+q*b)+r*c == 0; hyp ony: (p*d+q*e)+r*f == 0; goal p*((s*(b*f-e*c)+s*(c*d-f*a))+s*(a*e-d*b)) <= ((p+q)+r)*(s*(b*f-e*c)); eqmul onx * (s*(f-e)); eqmul ony * (s*(b-c))
pub first_share_least : (s a d b e c f p q r : ℤ) → (((p *ℤ a) +ℤ (q *ℤ b)) +ℤ (r *ℤ c)) ≡ (pos 0) → (((p *ℤ d) +ℤ (q *ℤ e)) +ℤ (r *ℤ f)) ≡ (pos 0) → (p *ℤ (((s *ℤ ((b *ℤ f) -ℤ (e *ℤ c))) +ℤ (s *ℤ ((c *ℤ d) -ℤ (f *ℤ a)))) +ℤ (s *ℤ ((a *ℤ e) -ℤ (d *ℤ b))))) ≤ℤ (((p +ℤ q) +ℤ r) *ℤ (s *ℤ ((b *ℤ f) -ℤ (e *ℤ c))))
first_share_least s a d b e c f p q r onx ony = prove_le_by (s ∷ a ∷ d ∷ b ∷ e ∷ c ∷ f ∷ p ∷ q ∷ r ∷ []) (Eq (Add (Add (Mul (Var 7) (Var 1)) (Mul (Var 8) (Var 3))) (Mul (Var 9) (Var 5))) (Num (pos 0)) ∷ Eq (Add (Add (Mul (Var 7) (Var 2)) (Mul (Var 8) (Var 4))) (Mul (Var 9) (Var 6))) (Num (pos 0)) ∷ []) (Mul (Var 7) (Add (Add (Mul (Var 0) (Sub (Mul (Var 3) (Var 6)) (Mul (Var 4) (Var 5)))) (Mul (Var 0) (Sub (Mul (Var 5) (Var 2)) (Mul (Var 6) (Var 1))))) (Mul (Var 0) (Sub (Mul (Var 1) (Var 4)) (Mul (Var 2) (Var 3)))))) (Mul (Add (Add (Var 7) (Var 8)) (Var 9)) (Mul (Var 0) (Sub (Mul (Var 3) (Var 6)) (Mul (Var 4) (Var 5))))) (Plus (Hyp 0) (Plus (TimesEq 1 (Neg (Mul (Var 0) (Sub (Var 6) (Var 4))))) (TimesEq 2 (Neg (Mul (Var 0) (Sub (Var 3) (Var 5))))))) 0 (onx, (ony, tt)) refl

-- vars s a d b e c f p q r; hyp onx: (p*a+q*b)+r*c == 0; hyp ony: (p*d+q*e)+r*f == 0; goal ((p+q)+r)*(s*(c*d-f*a)) <= q*((s*(b*f-e*c)+s*(c*d-f*a))+s*(a*e-d*b)); eqmul onx * (s*(d-f)); eqmul ony * (s*(c-a))
pub second_share_most : (s a d b e c f p q r : ℤ) → (((p *ℤ a) +ℤ (q *ℤ b)) +ℤ (r *ℤ c)) ≡ (pos 0) → (((p *ℤ d) +ℤ (q *ℤ e)) +ℤ (r *ℤ f)) ≡ (pos 0) → (((p +ℤ q) +ℤ r) *ℤ (s *ℤ ((c *ℤ d) -ℤ (f *ℤ a)))) ≤ℤ (q *ℤ (((s *ℤ ((b *ℤ f) -ℤ (e *ℤ c))) +ℤ (s *ℤ ((c *ℤ d) -ℤ (f *ℤ a)))) +ℤ (s *ℤ ((a *ℤ e) -ℤ (d *ℤ b)))))
second_share_most s a d b e c f p q r onx ony = prove_le_by (s ∷ a ∷ d ∷ b ∷ e ∷ c ∷ f ∷ p ∷ q ∷ r ∷ []) (Eq (Add (Add (Mul (Var 7) (Var 1)) (Mul (Var 8) (Var 3))) (Mul (Var 9) (Var 5))) (Num (pos 0)) ∷ Eq (Add (Add (Mul (Var 7) (Var 2)) (Mul (Var 8) (Var 4))) (Mul (Var 9) (Var 6))) (Num (pos 0)) ∷ []) (Mul (Add (Add (Var 7) (Var 8)) (Var 9)) (Mul (Var 0) (Sub (Mul (Var 5) (Var 2)) (Mul (Var 6) (Var 1))))) (Mul (Var 8) (Add (Add (Mul (Var 0) (Sub (Mul (Var 3) (Var 6)) (Mul (Var 4) (Var 5)))) (Mul (Var 0) (Sub (Mul (Var 5) (Var 2)) (Mul (Var 6) (Var 1))))) (Mul (Var 0) (Sub (Mul (Var 1) (Var 4)) (Mul (Var 2) (Var 3)))))) (Plus (Hyp 0) (Plus (TimesEq 1 (Mul (Var 0) (Sub (Var 2) (Var 6)))) (TimesEq 2 (Mul (Var 0) (Sub (Var 5) (Var 1)))))) 0 (onx, (ony, tt)) refl

-- vars s a d b e c f p q r; hyp onx: (p*a+q*b)+r*c == 0; hyp ony: (p*d+q*e)+r*f == 0; goal q*((s*(b*f-e*c)+s*(c*d-f*a))+s*(a*e-d*b)) <= ((p+q)+r)*(s*(c*d-f*a)); eqmul onx * (s*(d-f)); eqmul ony * (s*(c-a))
pub second_share_least : (s a d b e c f p q r : ℤ) → (((p *ℤ a) +ℤ (q *ℤ b)) +ℤ (r *ℤ c)) ≡ (pos 0) → (((p *ℤ d) +ℤ (q *ℤ e)) +ℤ (r *ℤ f)) ≡ (pos 0) → (q *ℤ (((s *ℤ ((b *ℤ f) -ℤ (e *ℤ c))) +ℤ (s *ℤ ((c *ℤ d) -ℤ (f *ℤ a)))) +ℤ (s *ℤ ((a *ℤ e) -ℤ (d *ℤ b))))) ≤ℤ (((p +ℤ q) +ℤ r) *ℤ (s *ℤ ((c *ℤ d) -ℤ (f *ℤ a))))
second_share_least s a d b e c f p q r onx ony = prove_le_by (s ∷ a ∷ d ∷ b ∷ e ∷ c ∷ f ∷ p ∷ q ∷ r ∷ []) (Eq (Add (Add (Mul (Var 7) (Var 1)) (Mul (Var 8) (Var 3))) (Mul (Var 9) (Var 5))) (Num (pos 0)) ∷ Eq (Add (Add (Mul (Var 7) (Var 2)) (Mul (Var 8) (Var 4))) (Mul (Var 9) (Var 6))) (Num (pos 0)) ∷ []) (Mul (Var 8) (Add (Add (Mul (Var 0) (Sub (Mul (Var 3) (Var 6)) (Mul (Var 4) (Var 5)))) (Mul (Var 0) (Sub (Mul (Var 5) (Var 2)) (Mul (Var 6) (Var 1))))) (Mul (Var 0) (Sub (Mul (Var 1) (Var 4)) (Mul (Var 2) (Var 3)))))) (Mul (Add (Add (Var 7) (Var 8)) (Var 9)) (Mul (Var 0) (Sub (Mul (Var 5) (Var 2)) (Mul (Var 6) (Var 1))))) (Plus (Hyp 0) (Plus (TimesEq 1 (Neg (Mul (Var 0) (Sub (Var 2) (Var 6))))) (TimesEq 2 (Neg (Mul (Var 0) (Sub (Var 5) (Var 1))))))) 0 (onx, (ony, tt)) refl

-- vars s a d b e c f p q r; hyp onx: (p*a+q*b)+r*c == 0; hyp ony: (p*d+q*e)+r*f == 0; goal ((p+q)+r)*(s*(a*e-d*b)) <= r*((s*(b*f-e*c)+s*(c*d-f*a))+s*(a*e-d*b)); eqmul onx * (s*(e-d)); eqmul ony * (s*(a-b))
pub third_share_most : (s a d b e c f p q r : ℤ) → (((p *ℤ a) +ℤ (q *ℤ b)) +ℤ (r *ℤ c)) ≡ (pos 0) → (((p *ℤ d) +ℤ (q *ℤ e)) +ℤ (r *ℤ f)) ≡ (pos 0) → (((p +ℤ q) +ℤ r) *ℤ (s *ℤ ((a *ℤ e) -ℤ (d *ℤ b)))) ≤ℤ (r *ℤ (((s *ℤ ((b *ℤ f) -ℤ (e *ℤ c))) +ℤ (s *ℤ ((c *ℤ d) -ℤ (f *ℤ a)))) +ℤ (s *ℤ ((a *ℤ e) -ℤ (d *ℤ b)))))
third_share_most s a d b e c f p q r onx ony = prove_le_by (s ∷ a ∷ d ∷ b ∷ e ∷ c ∷ f ∷ p ∷ q ∷ r ∷ []) (Eq (Add (Add (Mul (Var 7) (Var 1)) (Mul (Var 8) (Var 3))) (Mul (Var 9) (Var 5))) (Num (pos 0)) ∷ Eq (Add (Add (Mul (Var 7) (Var 2)) (Mul (Var 8) (Var 4))) (Mul (Var 9) (Var 6))) (Num (pos 0)) ∷ []) (Mul (Add (Add (Var 7) (Var 8)) (Var 9)) (Mul (Var 0) (Sub (Mul (Var 1) (Var 4)) (Mul (Var 2) (Var 3))))) (Mul (Var 9) (Add (Add (Mul (Var 0) (Sub (Mul (Var 3) (Var 6)) (Mul (Var 4) (Var 5)))) (Mul (Var 0) (Sub (Mul (Var 5) (Var 2)) (Mul (Var 6) (Var 1))))) (Mul (Var 0) (Sub (Mul (Var 1) (Var 4)) (Mul (Var 2) (Var 3)))))) (Plus (Hyp 0) (Plus (TimesEq 1 (Mul (Var 0) (Sub (Var 4) (Var 2)))) (TimesEq 2 (Mul (Var 0) (Sub (Var 1) (Var 3)))))) 0 (onx, (ony, tt)) refl

-- vars s a d b e c f p q r; hyp onx: (p*a+q*b)+r*c == 0; hyp ony: (p*d+q*e)+r*f == 0; goal r*((s*(b*f-e*c)+s*(c*d-f*a))+s*(a*e-d*b)) <= ((p+q)+r)*(s*(a*e-d*b)); eqmul onx * (s*(e-d)); eqmul ony * (s*(a-b))
pub third_share_least : (s a d b e c f p q r : ℤ) → (((p *ℤ a) +ℤ (q *ℤ b)) +ℤ (r *ℤ c)) ≡ (pos 0) → (((p *ℤ d) +ℤ (q *ℤ e)) +ℤ (r *ℤ f)) ≡ (pos 0) → (r *ℤ (((s *ℤ ((b *ℤ f) -ℤ (e *ℤ c))) +ℤ (s *ℤ ((c *ℤ d) -ℤ (f *ℤ a)))) +ℤ (s *ℤ ((a *ℤ e) -ℤ (d *ℤ b))))) ≤ℤ (((p +ℤ q) +ℤ r) *ℤ (s *ℤ ((a *ℤ e) -ℤ (d *ℤ b))))
third_share_least s a d b e c f p q r onx ony = prove_le_by (s ∷ a ∷ d ∷ b ∷ e ∷ c ∷ f ∷ p ∷ q ∷ r ∷ []) (Eq (Add (Add (Mul (Var 7) (Var 1)) (Mul (Var 8) (Var 3))) (Mul (Var 9) (Var 5))) (Num (pos 0)) ∷ Eq (Add (Add (Mul (Var 7) (Var 2)) (Mul (Var 8) (Var 4))) (Mul (Var 9) (Var 6))) (Num (pos 0)) ∷ []) (Mul (Var 9) (Add (Add (Mul (Var 0) (Sub (Mul (Var 3) (Var 6)) (Mul (Var 4) (Var 5)))) (Mul (Var 0) (Sub (Mul (Var 5) (Var 2)) (Mul (Var 6) (Var 1))))) (Mul (Var 0) (Sub (Mul (Var 1) (Var 4)) (Mul (Var 2) (Var 3)))))) (Mul (Add (Add (Var 7) (Var 8)) (Var 9)) (Mul (Var 0) (Sub (Mul (Var 1) (Var 4)) (Mul (Var 2) (Var 3))))) (Plus (Hyp 0) (Plus (TimesEq 1 (Neg (Mul (Var 0) (Sub (Var 4) (Var 2))))) (TimesEq 2 (Neg (Mul (Var 0) (Sub (Var 1) (Var 3))))))) 0 (onx, (ony, tt)) refl

-- vars n t p u; hyp count: 0 < n; hyp to: 0 < t; hyp po: 0 <= p; hyp pu: n*u == p*t; goal 0 <= u; mul goal * count+; mul po * to+
pub share_positive : (n t p u : ℤ) → (pos 0) <ℤ n → (pos 0) <ℤ t → (pos 0) ≤ℤ p → (n *ℤ u) ≡ (p *ℤ t) → (pos 0) ≤ℤ u
share_positive n t p u count to po pu = prove_le_by (n ∷ t ∷ p ∷ u ∷ []) (Lt (Num (pos 0)) (Var 0) ∷ Lt (Num (pos 0)) (Var 1) ∷ Le (Num (pos 0)) (Var 2) ∷ Eq (Mul (Var 0) (Var 3)) (Mul (Var 2) (Var 1)) ∷ []) (Num (pos 0)) (Var 3) (Plus (Hyp 1) (Plus (TimesEq 4 (Num (negsuc 0))) (Plus (Times (Hyp 0) (Plus (Hyp 1) (Lit 1))) (Times (Hyp 3) (Plus (Hyp 2) (Lit 1)))))) 0 (count, (to, (po, (pu, tt)))) refl

-- vars n p u; hyp count: 0 < n; hyp pu: n*u == p*0; goal u <= 0; mul goal * count+
pub share_zero_most : (n p u : ℤ) → (pos 0) <ℤ n → (n *ℤ u) ≡ (p *ℤ (pos 0)) → u ≤ℤ (pos 0)
share_zero_most n p u count pu = prove_le_by (n ∷ p ∷ u ∷ []) (Lt (Num (pos 0)) (Var 0) ∷ Eq (Mul (Var 0) (Var 2)) (Mul (Var 1) (Num (pos 0))) ∷ []) (Var 2) (Num (pos 0)) (Plus (Hyp 1) (Plus (TimesEq 2 (Num (pos 1))) (Times (Hyp 0) (Plus (Hyp 1) (Lit 1))))) 0 (count, (pu, tt)) refl

-- vars n p u; hyp count: 0 < n; hyp pu: n*u == p*0; goal 0 <= u; mul goal * count+
pub share_zero_least : (n p u : ℤ) → (pos 0) <ℤ n → (n *ℤ u) ≡ (p *ℤ (pos 0)) → (pos 0) ≤ℤ u
share_zero_least n p u count pu = prove_le_by (n ∷ p ∷ u ∷ []) (Lt (Num (pos 0)) (Var 0) ∷ Eq (Mul (Var 0) (Var 2)) (Mul (Var 1) (Num (pos 0))) ∷ []) (Num (pos 0)) (Var 2) (Plus (Hyp 1) (Plus (TimesEq 2 (Num (negsuc 0))) (Times (Hyp 0) (Plus (Hyp 1) (Lit 1))))) 0 (count, (pu, tt)) refl

-- vars n t p q r u v w za zb zc h; hyp count: 0 < n; hyp to: 0 < t; hyp pu: n*u == p*t; hyp qv: n*v == q*t; hyp rv: n*w == r*t; hyp high: n*h <= (p*za+q*zb)+r*zc; goal t*h <= (u*za+v*zb)+w*zc; mul goal * count+; mul to+ * high; eqmul pu * za; eqmul qv * zb; eqmul rv * zc
pub share_high : (n t p q r u v w za zb zc h : ℤ) → (pos 0) <ℤ n → (pos 0) <ℤ t → (n *ℤ u) ≡ (p *ℤ t) → (n *ℤ v) ≡ (q *ℤ t) → (n *ℤ w) ≡ (r *ℤ t) → (n *ℤ h) ≤ℤ (((p *ℤ za) +ℤ (q *ℤ zb)) +ℤ (r *ℤ zc)) → (t *ℤ h) ≤ℤ (((u *ℤ za) +ℤ (v *ℤ zb)) +ℤ (w *ℤ zc))
share_high n t p q r u v w za zb zc h count to pu qv rv high = prove_le_by (n ∷ t ∷ p ∷ q ∷ r ∷ u ∷ v ∷ w ∷ za ∷ zb ∷ zc ∷ h ∷ []) (Lt (Num (pos 0)) (Var 0) ∷ Lt (Num (pos 0)) (Var 1) ∷ Eq (Mul (Var 0) (Var 5)) (Mul (Var 2) (Var 1)) ∷ Eq (Mul (Var 0) (Var 6)) (Mul (Var 3) (Var 1)) ∷ Eq (Mul (Var 0) (Var 7)) (Mul (Var 4) (Var 1)) ∷ Le (Mul (Var 0) (Var 11)) (Add (Add (Mul (Var 2) (Var 8)) (Mul (Var 3) (Var 9))) (Mul (Var 4) (Var 10))) ∷ []) (Mul (Var 1) (Var 11)) (Add (Add (Mul (Var 5) (Var 8)) (Mul (Var 6) (Var 9))) (Mul (Var 7) (Var 10))) (Plus (Hyp 1) (Plus (Times (Hyp 0) (Plus (Hyp 1) (Lit 1))) (Plus (Times (Plus (Hyp 2) (Lit 1)) (Hyp 6)) (Plus (TimesEq 3 (Neg (Var 8))) (Plus (TimesEq 4 (Neg (Var 9))) (TimesEq 5 (Neg (Var 10)))))))) 0 (count, (to, (pu, (qv, (rv, (high, tt)))))) refl

-- vars a d b e c f p q r; hyp onx: (p*a+q*b)+r*c == 0; hyp ca: c*d-f*a == 0; hyp ab: a*e-d*b == 0; goal a*((p*d+q*e)+r*f) <= 0; eqmul onx * d; eqmul ca * r; eqmul ab * q
pub first_across_most : (a d b e c f p q r : ℤ) → (((p *ℤ a) +ℤ (q *ℤ b)) +ℤ (r *ℤ c)) ≡ (pos 0) → ((c *ℤ d) -ℤ (f *ℤ a)) ≡ (pos 0) → ((a *ℤ e) -ℤ (d *ℤ b)) ≡ (pos 0) → (a *ℤ (((p *ℤ d) +ℤ (q *ℤ e)) +ℤ (r *ℤ f))) ≤ℤ (pos 0)
first_across_most a d b e c f p q r onx ca ab = prove_le_by (a ∷ d ∷ b ∷ e ∷ c ∷ f ∷ p ∷ q ∷ r ∷ []) (Eq (Add (Add (Mul (Var 6) (Var 0)) (Mul (Var 7) (Var 2))) (Mul (Var 8) (Var 4))) (Num (pos 0)) ∷ Eq (Sub (Mul (Var 4) (Var 1)) (Mul (Var 5) (Var 0))) (Num (pos 0)) ∷ Eq (Sub (Mul (Var 0) (Var 3)) (Mul (Var 1) (Var 2))) (Num (pos 0)) ∷ []) (Mul (Var 0) (Add (Add (Mul (Var 6) (Var 1)) (Mul (Var 7) (Var 3))) (Mul (Var 8) (Var 5)))) (Num (pos 0)) (Plus (Hyp 0) (Plus (TimesEq 1 (Var 1)) (Plus (TimesEq 2 (Neg (Var 8))) (TimesEq 3 (Var 7))))) 0 (onx, (ca, (ab, tt))) refl

-- vars a d b e c f p q r; hyp onx: (p*a+q*b)+r*c == 0; hyp ca: c*d-f*a == 0; hyp ab: a*e-d*b == 0; goal 0 <= a*((p*d+q*e)+r*f); eqmul onx * d; eqmul ca * r; eqmul ab * q
pub first_across_least : (a d b e c f p q r : ℤ) → (((p *ℤ a) +ℤ (q *ℤ b)) +ℤ (r *ℤ c)) ≡ (pos 0) → ((c *ℤ d) -ℤ (f *ℤ a)) ≡ (pos 0) → ((a *ℤ e) -ℤ (d *ℤ b)) ≡ (pos 0) → (pos 0) ≤ℤ (a *ℤ (((p *ℤ d) +ℤ (q *ℤ e)) +ℤ (r *ℤ f)))
first_across_least a d b e c f p q r onx ca ab = prove_le_by (a ∷ d ∷ b ∷ e ∷ c ∷ f ∷ p ∷ q ∷ r ∷ []) (Eq (Add (Add (Mul (Var 6) (Var 0)) (Mul (Var 7) (Var 2))) (Mul (Var 8) (Var 4))) (Num (pos 0)) ∷ Eq (Sub (Mul (Var 4) (Var 1)) (Mul (Var 5) (Var 0))) (Num (pos 0)) ∷ Eq (Sub (Mul (Var 0) (Var 3)) (Mul (Var 1) (Var 2))) (Num (pos 0)) ∷ []) (Num (pos 0)) (Mul (Var 0) (Add (Add (Mul (Var 6) (Var 1)) (Mul (Var 7) (Var 3))) (Mul (Var 8) (Var 5)))) (Plus (Hyp 0) (Plus (TimesEq 1 (Neg (Var 1))) (Plus (TimesEq 2 (Var 8)) (TimesEq 3 (Neg (Var 7)))))) 0 (onx, (ca, (ab, tt))) refl

-- vars a d b e c f p q r; hyp onx: (p*a+q*b)+r*c == 0; hyp ab: a*e-d*b == 0; hyp bc: b*f-e*c == 0; goal b*((p*d+q*e)+r*f) <= 0; eqmul onx * e; eqmul ab * p; eqmul bc * r
pub second_across_most : (a d b e c f p q r : ℤ) → (((p *ℤ a) +ℤ (q *ℤ b)) +ℤ (r *ℤ c)) ≡ (pos 0) → ((a *ℤ e) -ℤ (d *ℤ b)) ≡ (pos 0) → ((b *ℤ f) -ℤ (e *ℤ c)) ≡ (pos 0) → (b *ℤ (((p *ℤ d) +ℤ (q *ℤ e)) +ℤ (r *ℤ f))) ≤ℤ (pos 0)
second_across_most a d b e c f p q r onx ab bc = prove_le_by (a ∷ d ∷ b ∷ e ∷ c ∷ f ∷ p ∷ q ∷ r ∷ []) (Eq (Add (Add (Mul (Var 6) (Var 0)) (Mul (Var 7) (Var 2))) (Mul (Var 8) (Var 4))) (Num (pos 0)) ∷ Eq (Sub (Mul (Var 0) (Var 3)) (Mul (Var 1) (Var 2))) (Num (pos 0)) ∷ Eq (Sub (Mul (Var 2) (Var 5)) (Mul (Var 3) (Var 4))) (Num (pos 0)) ∷ []) (Mul (Var 2) (Add (Add (Mul (Var 6) (Var 1)) (Mul (Var 7) (Var 3))) (Mul (Var 8) (Var 5)))) (Num (pos 0)) (Plus (Hyp 0) (Plus (TimesEq 1 (Var 3)) (Plus (TimesEq 2 (Neg (Var 6))) (TimesEq 3 (Var 8))))) 0 (onx, (ab, (bc, tt))) refl

-- vars a d b e c f p q r; hyp onx: (p*a+q*b)+r*c == 0; hyp ab: a*e-d*b == 0; hyp bc: b*f-e*c == 0; goal 0 <= b*((p*d+q*e)+r*f); eqmul onx * e; eqmul ab * p; eqmul bc * r
pub second_across_least : (a d b e c f p q r : ℤ) → (((p *ℤ a) +ℤ (q *ℤ b)) +ℤ (r *ℤ c)) ≡ (pos 0) → ((a *ℤ e) -ℤ (d *ℤ b)) ≡ (pos 0) → ((b *ℤ f) -ℤ (e *ℤ c)) ≡ (pos 0) → (pos 0) ≤ℤ (b *ℤ (((p *ℤ d) +ℤ (q *ℤ e)) +ℤ (r *ℤ f)))
second_across_least a d b e c f p q r onx ab bc = prove_le_by (a ∷ d ∷ b ∷ e ∷ c ∷ f ∷ p ∷ q ∷ r ∷ []) (Eq (Add (Add (Mul (Var 6) (Var 0)) (Mul (Var 7) (Var 2))) (Mul (Var 8) (Var 4))) (Num (pos 0)) ∷ Eq (Sub (Mul (Var 0) (Var 3)) (Mul (Var 1) (Var 2))) (Num (pos 0)) ∷ Eq (Sub (Mul (Var 2) (Var 5)) (Mul (Var 3) (Var 4))) (Num (pos 0)) ∷ []) (Num (pos 0)) (Mul (Var 2) (Add (Add (Mul (Var 6) (Var 1)) (Mul (Var 7) (Var 3))) (Mul (Var 8) (Var 5)))) (Plus (Hyp 0) (Plus (TimesEq 1 (Neg (Var 3))) (Plus (TimesEq 2 (Var 6)) (TimesEq 3 (Neg (Var 8)))))) 0 (onx, (ab, (bc, tt))) refl

-- vars a d b e c f p q r; hyp onx: (p*a+q*b)+r*c == 0; hyp ca: c*d-f*a == 0; hyp bc: b*f-e*c == 0; goal c*((p*d+q*e)+r*f) <= 0; eqmul onx * f; eqmul ca * p; eqmul bc * q
pub third_across_most : (a d b e c f p q r : ℤ) → (((p *ℤ a) +ℤ (q *ℤ b)) +ℤ (r *ℤ c)) ≡ (pos 0) → ((c *ℤ d) -ℤ (f *ℤ a)) ≡ (pos 0) → ((b *ℤ f) -ℤ (e *ℤ c)) ≡ (pos 0) → (c *ℤ (((p *ℤ d) +ℤ (q *ℤ e)) +ℤ (r *ℤ f))) ≤ℤ (pos 0)
third_across_most a d b e c f p q r onx ca bc = prove_le_by (a ∷ d ∷ b ∷ e ∷ c ∷ f ∷ p ∷ q ∷ r ∷ []) (Eq (Add (Add (Mul (Var 6) (Var 0)) (Mul (Var 7) (Var 2))) (Mul (Var 8) (Var 4))) (Num (pos 0)) ∷ Eq (Sub (Mul (Var 4) (Var 1)) (Mul (Var 5) (Var 0))) (Num (pos 0)) ∷ Eq (Sub (Mul (Var 2) (Var 5)) (Mul (Var 3) (Var 4))) (Num (pos 0)) ∷ []) (Mul (Var 4) (Add (Add (Mul (Var 6) (Var 1)) (Mul (Var 7) (Var 3))) (Mul (Var 8) (Var 5)))) (Num (pos 0)) (Plus (Hyp 0) (Plus (TimesEq 1 (Var 5)) (Plus (TimesEq 2 (Var 6)) (TimesEq 3 (Neg (Var 7)))))) 0 (onx, (ca, (bc, tt))) refl

-- vars a d b e c f p q r; hyp onx: (p*a+q*b)+r*c == 0; hyp ca: c*d-f*a == 0; hyp bc: b*f-e*c == 0; goal 0 <= c*((p*d+q*e)+r*f); eqmul onx * f; eqmul ca * p; eqmul bc * q
pub third_across_least : (a d b e c f p q r : ℤ) → (((p *ℤ a) +ℤ (q *ℤ b)) +ℤ (r *ℤ c)) ≡ (pos 0) → ((c *ℤ d) -ℤ (f *ℤ a)) ≡ (pos 0) → ((b *ℤ f) -ℤ (e *ℤ c)) ≡ (pos 0) → (pos 0) ≤ℤ (c *ℤ (((p *ℤ d) +ℤ (q *ℤ e)) +ℤ (r *ℤ f)))
third_across_least a d b e c f p q r onx ca bc = prove_le_by (a ∷ d ∷ b ∷ e ∷ c ∷ f ∷ p ∷ q ∷ r ∷ []) (Eq (Add (Add (Mul (Var 6) (Var 0)) (Mul (Var 7) (Var 2))) (Mul (Var 8) (Var 4))) (Num (pos 0)) ∷ Eq (Sub (Mul (Var 4) (Var 1)) (Mul (Var 5) (Var 0))) (Num (pos 0)) ∷ Eq (Sub (Mul (Var 2) (Var 5)) (Mul (Var 3) (Var 4))) (Num (pos 0)) ∷ []) (Num (pos 0)) (Mul (Var 4) (Add (Add (Mul (Var 6) (Var 1)) (Mul (Var 7) (Var 3))) (Mul (Var 8) (Var 5)))) (Plus (Hyp 0) (Plus (TimesEq 1 (Neg (Var 5))) (Plus (TimesEq 2 (Neg (Var 6))) (TimesEq 3 (Var 7))))) 0 (onx, (ca, (bc, tt))) refl

-- vars a s; hyp so: 0 < s; hyp on: a*s == 0; goal a <= 0; mul goal * so+
pub zero_by_over : (a s : ℤ) → (pos 0) <ℤ s → (a *ℤ s) ≡ (pos 0) → a ≤ℤ (pos 0)
zero_by_over a s so on = prove_le_by (a ∷ s ∷ []) (Lt (Num (pos 0)) (Var 1) ∷ Eq (Mul (Var 0) (Var 1)) (Num (pos 0)) ∷ []) (Var 0) (Num (pos 0)) (Plus (Hyp 1) (Plus (TimesEq 2 (Num (pos 1))) (Times (Hyp 0) (Plus (Hyp 1) (Lit 1))))) 0 (so, (on, tt)) refl

-- vars a s; hyp so: 0 < s; hyp on: a*s == 0; goal 0 <= a; mul goal * so+
pub zero_by_over_least : (a s : ℤ) → (pos 0) <ℤ s → (a *ℤ s) ≡ (pos 0) → (pos 0) ≤ℤ a
zero_by_over_least a s so on = prove_le_by (a ∷ s ∷ []) (Lt (Num (pos 0)) (Var 1) ∷ Eq (Mul (Var 0) (Var 1)) (Num (pos 0)) ∷ []) (Num (pos 0)) (Var 0) (Plus (Hyp 1) (Plus (TimesEq 2 (Num (negsuc 0))) (Times (Hyp 0) (Plus (Hyp 1) (Lit 1))))) 0 (so, (on, tt)) refl

-- vars a s; hyp so: s < 0; hyp on: a*s == 0; goal a <= 0; mul goal * so+
pub zero_by_under : (a s : ℤ) → s <ℤ (pos 0) → (a *ℤ s) ≡ (pos 0) → a ≤ℤ (pos 0)
zero_by_under a s so on = prove_le_by (a ∷ s ∷ []) (Lt (Var 1) (Num (pos 0)) ∷ Eq (Mul (Var 0) (Var 1)) (Num (pos 0)) ∷ []) (Var 0) (Num (pos 0)) (Plus (Hyp 1) (Plus (TimesEq 2 (Num (negsuc 0))) (Times (Hyp 0) (Plus (Hyp 1) (Lit 1))))) 0 (so, (on, tt)) refl

-- vars a s; hyp so: s < 0; hyp on: a*s == 0; goal 0 <= a; mul goal * so+
pub zero_by_under_least : (a s : ℤ) → s <ℤ (pos 0) → (a *ℤ s) ≡ (pos 0) → (pos 0) ≤ℤ a
zero_by_under_least a s so on = prove_le_by (a ∷ s ∷ []) (Lt (Var 1) (Num (pos 0)) ∷ Eq (Mul (Var 0) (Var 1)) (Num (pos 0)) ∷ []) (Num (pos 0)) (Var 0) (Plus (Hyp 1) (Plus (TimesEq 2 (Num (pos 1))) (Times (Hyp 0) (Plus (Hyp 1) (Lit 1))))) 0 (so, (on, tt)) refl

pub upright_on : (u v w t : ℤ) → (((u *ℤ t) +ℤ (v *ℤ t)) +ℤ (w *ℤ t)) ≡ (((u +ℤ v) +ℤ w) *ℤ t)
upright_on u v w t = ring (u ∷ v ∷ w ∷ t ∷ []) (Add (Add (Mul (Var 0) (Var 3)) (Mul (Var 1) (Var 3))) (Mul (Var 2) (Var 3))) (Mul (Add (Add (Var 0) (Var 1)) (Var 2)) (Var 3)) refl

pub minus_one : (u : ℤ) → ((pos 0) -ℤ u) ≡ ((negsuc 0) *ℤ u)
minus_one u = ring (u ∷ []) (Sub (Num (pos 0)) (Var 0)) (Mul (Num (negsuc 0)) (Var 0)) refl

-- vars a b n; hyp near: a*a+b*b < (n*0)*(n*0); goal false; square a; square b
pub never_near : (a b n : ℤ) → ((a *ℤ a) +ℤ (b *ℤ b)) <ℤ ((n *ℤ (pos 0)) *ℤ (n *ℤ (pos 0))) → ⊥
never_near a b n near = refute (a ∷ b ∷ n ∷ []) (Lt (Add (Mul (Var 0) (Var 0)) (Mul (Var 1) (Var 1))) (Mul (Mul (Var 2) (Num (pos 0))) (Mul (Var 2) (Num (pos 0)))) ∷ []) (Plus (Hyp 0) (Plus (Sq (Var 0)) (Sq (Var 1)))) 0 (near, tt) refl
