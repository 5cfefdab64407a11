-- A direction lies on one of the two parts of a turn exactly where it lies on the whole, by the signs of products alone.
use Rattle.std.specs.Prelude.{◌≡◌, ◌+◌, Bool, true, false, not, ◌&&◌, ◌||◌, if◌then◌else◌, ℤ, pos, ◌+ℤ◌, ◌-ℤ◌, ◌*ℤ◌, ◌<ℤ◌, ◌≤ℤ◌, int_le, int_lt}
use Rattle.std.proofs.Common.{refl, sym, ap, ◌∙◌, arith}
use Rattle.std.proofs.lemmas.Int.{ints}
use Rattle.mill_arc.proofs.Counts.{number, count_first, count_less, count_more, count_second, first_low, first_none, first_up, half_low, half_none, half_up, second_low, second_none, second_up, whole_first, whole_low, whole_none, whole_second, whole_up}
use Rattle.mill_arc.proofs.Decided.{false_le, false_lt, lt_false, lt_true, true_le, true_lt}
use Rattle.mill_arc.proofs.SignCerts.{along_high, along_low, b_high, b_low, back_high, back_low, end_high, end_low, end_none, first_neg, first_pos, first_side, half_c_high, half_c_low, half_c_none, last_high, last_low, line_high, line_least, line_low, line_most, middle_high, middle_low, second_high_side, second_low_side, second_neg, second_none_least, second_none_most, second_pos, second_side}
use Rattle.mill_arc.proofs.TurnCerts.{all_none, comb_neg, comb_pos, more_all, more_none_a, more_none_b, off_least, off_most}

abbrev up : ℤ → Bool
up z = int_lt (pos 0) z

abbrev sect : ℤ → ℤ → Bool
sect a c = up a && not (up c)

abbrev half : ℤ → ℤ → Bool
half a o = up a || (int_le (pos 0) a && int_lt o (pos 0))

-- x lies on the turn from u to v: n and d are the products of u and v, a and o those of u and x, and c is v's first with x
abbrev pub on : ℤ → ℤ → ℤ → ℤ → ℤ → Bool
on n d a c o = if up n then sect a c else (if int_lt n (pos 0) then not (sect c a) else (if up d then true else half a o))

on_less : (n d a c o : ℤ) → (pos 0) <ℤ n → on n d a c o ≡ sect a c
on_less n d a c o h = ap (λ (t : Bool). if t then sect a c else (if int_lt n (pos 0) then not (sect c a) else (if up d then true else half a o))) (true_lt (pos 0) n h)

on_rest : (n d a c o : ℤ) → n ≤ℤ (pos 0) → on n d a c o ≡ (if int_lt n (pos 0) then not (sect c a) else (if up d then true else half a o))
on_rest n d a c o h = ap (λ (t : Bool). if t then sect a c else (if int_lt n (pos 0) then not (sect c a) else (if up d then true else half a o))) (false_lt (pos 0) n h)

up_to : (a b : ℤ) → a <ℤ b → a ≤ℤ b
up_to a b h = omega (arith, ints)

none_most : (a : ℤ) → a ≡ pos 0 → a ≤ℤ (pos 0)
none_most a e = omega (arith, ints)

none_least : (a : ℤ) → a ≡ pos 0 → (pos 0) ≤ℤ a
none_least a e = omega (arith, ints)

none_of : (a : ℤ) → a ≤ℤ (pos 0) → (pos 0) ≤ℤ a → a ≡ pos 0
none_of a h k = omega (arith, ints)

second_none_side : (p d n f g r : ℤ) → (pos 0) <ℤ p → n ≡ pos 0 → f ≡ pos 0 → p *ℤ g ≡ r *ℤ n -ℤ f *ℤ d → g ≡ pos 0
second_none_side p d n f g r h n_none f_none e = none_of g (second_none_most p d n f g r h n_none f_none e) (second_none_least p d n f g r h n_none f_none e)

line_none : (p f r a b o : ℤ) → (pos 0) <ℤ p → f ≡ pos 0 → a ≡ pos 0 → p *ℤ b ≡ r *ℤ a -ℤ f *ℤ o → b ≡ pos 0
line_none p f r a b o h f_none a_none e = none_of b (line_most p f r a b o h f_none a_none e) (line_least p f r a b o h f_none a_none e)

clash : (a : ℤ) → (pos 0) <ℤ a → a ≤ℤ (pos 0) → ⊥
clash a h k = omega (arith, ints)

on_more : (n d a c o : ℤ) → n <ℤ (pos 0) → on n d a c o ≡ not (sect c a)
on_more n d a c o h = on_rest n d a c o (up_to n (pos 0) h) ∙ ap (λ (t : Bool). if t then not (sect c a) else (if up d then true else half a o)) (true_lt n (pos 0) h)

on_line : (n d a c o : ℤ) → n ≡ pos 0 → on n d a c o ≡ (if up d then true else half a o)
on_line n d a c o e = on_rest n d a c o (none_most n e) ∙ ap (λ (t : Bool). if t then not (sect c a) else (if up d then true else half a o)) (false_lt n (pos 0) (none_least n e))

on_whole : (n d a c o : ℤ) → n ≡ pos 0 → (pos 0) <ℤ d → on n d a c o ≡ true
on_whole n d a c o e h = on_line n d a c o e ∙ ap (λ (t : Bool). if t then true else half a o) (true_lt (pos 0) d h)

on_half : (n d a c o : ℤ) → n ≡ pos 0 → d <ℤ (pos 0) → on n d a c o ≡ half a o
on_half n d a c o e h = on_line n d a c o e ∙ ap (λ (t : Bool). if t then true else half a o) (false_lt (pos 0) d (up_to d (pos 0) h))

combine : (s t u x y z : Bool) → s ≡ x → t ≡ y → u ≡ z → number x ≡ number y + number z → number s ≡ number t + number u
combine s t u x y z p q r e = cc

same_and : (s t u : Bool) → s ≡ true → t ≡ not u → (s && t) ≡ not u
same_and true t u p q = q
same_and false t u p q = cc

-- a number's sign
data Sign (z : ℤ) : Type 0 where
  low : z <ℤ (pos 0) → Sign z
  none : z ≡ pos 0 → Sign z
  high : (pos 0) <ℤ z → Sign z

sign : (z : ℤ) → Sign z
sign z = by (int_lt (pos 0) z) refl (int_lt z (pos 0)) refl
  where
    by : (s : Bool) → int_lt (pos 0) z ≡ s → (t : Bool) → int_lt z (pos 0) ≡ t → Sign z
    by true e t k = high (lt_true (pos 0) z e)
    by false e true k = low (lt_true z (pos 0) k)
    by false e false k = none (none_of z (lt_false (pos 0) z e) (lt_false z (pos 0) k))

-- the products of the start u, the middle m, the end v and a direction x: p, m and x are the squares of u, m and x; n, f and g how far v lies ahead of u, m of u and v of m, and d, r, s their
-- dot products; a, b, c how far x lies ahead of u, m and v, and o, l its dot products with u and m
pub record Quad : Type 0 where
  pub p : ℤ
  pub m : ℤ
  pub x : ℤ
  pub n : ℤ
  pub d : ℤ
  pub f : ℤ
  pub g : ℤ
  pub r : ℤ
  pub s : ℤ
  pub a : ℤ
  pub b : ℤ
  pub c : ℤ
  pub o : ℤ
  pub l : ℤ
  pub p_some : (pos 0) <ℤ p
  pub m_some : (pos 0) <ℤ m
  pub x_some : (pos 0) <ℤ x
  pub three : f *ℤ c +ℤ g *ℤ a ≡ n *ℤ b
  pub at_v : p *ℤ g ≡ r *ℤ n -ℤ f *ℤ d
  pub at_b : p *ℤ b ≡ r *ℤ a -ℤ f *ℤ o
  pub at_l : p *ℤ l ≡ r *ℤ o +ℤ f *ℤ a
  pub at_c : p *ℤ c ≡ d *ℤ a -ℤ n *ℤ o
  pub at_a : m *ℤ a ≡ r *ℤ b +ℤ f *ℤ l
  pub by_u : p *ℤ x ≡ o *ℤ o +ℤ a *ℤ a
  pub by_m : m *ℤ x ≡ l *ℤ l +ℤ b *ℤ b

-- x lies on one of the parts exactly where it lies on the whole, and never on both
abbrev pub IsParted : Quad → Type 0
IsParted q = number (on q.n q.d q.a q.c q.o) ≡ number (on q.f q.r q.a q.b q.o) + number (on q.g q.s q.b q.c q.l)

-- where a is nothing, o isn't
o_some : (q : Quad) → q.a ≡ pos 0 → q.o ≡ pos 0 → ⊥
o_some q a o = all_none q.p q.x q.o q.a q.p_some q.x_some o a q.by_u

l_some : (q : Quad) → q.b ≡ pos 0 → q.l ≡ pos 0 → ⊥
l_some q b l = all_none q.m q.x q.l q.b q.m_some q.x_some l b q.by_m

-- ---- less than half a turn

less : (q : Quad) → (pos 0) <ℤ q.n → (pos 0) <ℤ q.f → (pos 0) <ℤ q.g → IsParted q
less q n f g = combine _ _ _ _ _ _ (on_less q.n q.d q.a q.c q.o n) (on_less q.f q.r q.a q.b q.o f) (on_less q.g q.s q.b q.c q.l g)
    (count_less (up q.a) (up q.b) (up q.c)
    (λ a b c. clash q.b (lt_true (pos 0) q.b b) (comb_neg q.f q.g q.n q.c q.a q.b f g n (lt_false (pos 0) q.c c) (lt_false (pos 0) q.a a) q.three))
    (λ a b c. clash q.b (comb_pos q.f q.g q.n q.c q.a q.b f g n (lt_true (pos 0) q.c c) (lt_true (pos 0) q.a a) q.three) (lt_false (pos 0) q.b b)))

-- ---- more, in two parts of less

more : (q : Quad) → q.n <ℤ (pos 0) → (pos 0) <ℤ q.f → (pos 0) <ℤ q.g → IsParted q
more q n f g = combine _ _ _ _ _ _ (on_more q.n q.d q.a q.c q.o n) (on_less q.f q.r q.a q.b q.o f) (on_less q.g q.s q.b q.c q.l g)
    (count_more (up q.a) (up q.b) (up q.c) (λ a b c. nothing (lt_false (pos 0) q.a a) (lt_false (pos 0) q.b b) (lt_false (pos 0) q.c c))
    (λ a b c. more_all q.f q.g q.n q.a q.b q.c f g n (lt_true (pos 0) q.a a) (lt_true (pos 0) q.b b) (lt_true (pos 0) q.c c) q.three))
  where
    off : q.a ≡ pos 0 → q.b ≡ pos 0 → q.o ≡ pos 0
    off a b = none_of q.o (off_most q.p q.f q.r q.a q.b q.o f a b q.at_b) (off_least q.p q.f q.r q.a q.b q.o f a b q.at_b)

    nothing : q.a ≤ℤ (pos 0) → q.b ≤ℤ (pos 0) → q.c ≤ℤ (pos 0) → ⊥
    nothing ha hb hc =
        let a = none_of q.a ha (more_none_a q.f q.g q.n q.a q.b q.c f g n hb hc q.three) in
        let b = none_of q.b hb (more_none_b q.f q.g q.n q.a q.b q.c f g n ha hc q.three) in
        o_some q a (off a b)

-- ---- half a turn, in two parts of less

half_turn : (q : Quad) → q.n ≡ pos 0 → q.d <ℤ (pos 0) → (pos 0) <ℤ q.f → (pos 0) <ℤ q.g → IsParted q
half_turn q n d f g = combine _ _ _ _ _ _ (on_half q.n q.d q.a q.c q.o n d) (on_less q.f q.r q.a q.b q.o f) (on_less q.g q.s q.b q.c q.l g) (by (sign q.a))
  where
    c_low : (pos 0) <ℤ q.a → q.c <ℤ (pos 0)
    c_low a = half_c_low q.f q.g q.n q.a q.b q.c f g n a q.three

    c_high : q.a <ℤ (pos 0) → (pos 0) <ℤ q.c
    c_high a = half_c_high q.f q.g q.n q.a q.b q.c f g n a q.three

    c_none : q.a ≡ pos 0 → q.c ≤ℤ (pos 0)
    c_none a = half_c_none q.f q.g q.n q.a q.b q.c f g n a q.three

    same : q.a ≡ pos 0 → Sign q.o → up q.b ≡ int_lt q.o (pos 0)
    same a (low h) = true_lt (pos 0) q.b (b_high q.p q.f q.r q.a q.b q.o q.p_some f a h q.at_b) ∙ sym (true_lt q.o (pos 0) h)
    same a (none h) = absurd (o_some q a h)
    same a (high h) = false_lt (pos 0) q.b (up_to q.b (pos 0) (b_low q.p q.f q.r q.a q.b q.o q.p_some f a h q.at_b)) ∙ sym (false_lt q.o (pos 0) (up_to (pos 0) q.o h))

    by : Sign q.a → number (half q.a q.o) ≡ number (sect q.a q.b) + number (sect q.b q.c)
    by (high a) = half_up (up q.a) (up q.c) (up q.b) (int_le (pos 0) q.a) (int_lt q.o (pos 0)) (true_lt (pos 0) q.a a) (false_lt (pos 0) q.c (up_to q.c (pos 0) (c_low a)))
    by (low a) = half_low (up q.a) (up q.c) (up q.b) (int_le (pos 0) q.a) (int_lt q.o (pos 0)) (false_lt (pos 0) q.a (up_to q.a (pos 0) a)) (false_le (pos 0) q.a a) (true_lt (pos 0) q.c (c_high a))
    by (none a) = half_none (up q.a) (up q.c) (up q.b) (int_le (pos 0) q.a) (int_lt q.o (pos 0)) (false_lt (pos 0) q.a (none_most q.a a)) (true_le (pos 0) q.a (none_least q.a a))
        (false_lt (pos 0) q.c (c_none a)) (same a (sign q.o))

-- ---- a whole turn

module _ (q : Quad) (n : q.n ≡ pos 0) (d : (pos 0) <ℤ q.d) where
  ends_same : up q.c ≡ up q.a
  ends_same = by (sign q.a)
    where
      by : Sign q.a → up q.c ≡ up q.a
      by (high a) = true_lt (pos 0) q.c (along_high q.p q.d q.n q.a q.c q.o q.p_some d n a q.at_c) ∙ sym (true_lt (pos 0) q.a a)
      by (low a) = false_lt (pos 0) q.c (along_low q.p q.d q.n q.a q.c q.o q.p_some d n (up_to q.a (pos 0) a) q.at_c) ∙ sym (false_lt (pos 0) q.a (up_to q.a (pos 0) a))
      by (none a) = false_lt (pos 0) q.c (along_low q.p q.d q.n q.a q.c q.o q.p_some d n (none_most q.a a) q.at_c) ∙ sym (false_lt (pos 0) q.a (none_most q.a a))

  whole_more : (pos 0) <ℤ q.f → IsParted q
  whole_more f = combine _ _ _ _ _ _ (on_whole q.n q.d q.a q.c q.o n d) (on_less q.f q.r q.a q.b q.o f) (on_more q.g q.s q.b q.c q.l (second_low_side q.p q.d q.n q.f q.g q.r q.p_some d n f q.at_v))
      (whole_second (up q.a) (up q.b) (up q.c) ends_same)

  whole_less : q.f <ℤ (pos 0) → IsParted q
  whole_less f = combine _ _ _ _ _ _ (on_whole q.n q.d q.a q.c q.o n d) (on_more q.f q.r q.a q.b q.o f) (on_less q.g q.s q.b q.c q.l (second_high_side q.p q.d q.n q.f q.g q.r q.p_some d n f q.at_v))
      (whole_first (up q.a) (up q.b) (up q.c) ends_same)

  whole_line : q.f ≡ pos 0 → q.r <ℤ (pos 0) → q.s <ℤ (pos 0) → IsParted q
  whole_line f r s = combine _ _ _ _ _ _ (on_whole q.n q.d q.a q.c q.o n d) (on_half q.f q.r q.a q.b q.o f r) (on_half q.g q.s q.b q.c q.l (second_none_side q.p q.d q.n q.f q.g q.r q.p_some n f q.at_v) s) (by (sign q.a))
    where
      turned : q.a ≡ pos 0 → q.b ≡ pos 0 → Sign q.o → (int_le (pos 0) q.b && int_lt q.l (pos 0)) ≡ not (int_lt q.o (pos 0))
      turned a b (none h) = absurd (o_some q a h)
      turned a b (low h) = same_and (int_le (pos 0) q.b) (int_lt q.l (pos 0)) (int_lt q.o (pos 0)) (true_le (pos 0) q.b (none_least q.b b))
          (false_lt q.l (pos 0) (up_to (pos 0) q.l (back_high q.p q.f q.r q.a q.l q.o q.p_some r f h q.at_l)) ∙ ap not (sym (true_lt q.o (pos 0) h)))
      turned a b (high h) = same_and (int_le (pos 0) q.b) (int_lt q.l (pos 0)) (int_lt q.o (pos 0)) (true_le (pos 0) q.b (none_least q.b b))
          (true_lt q.l (pos 0) (back_low q.p q.f q.r q.a q.l q.o q.p_some r f h q.at_l) ∙ ap not (sym (false_lt q.o (pos 0) (up_to (pos 0) q.o h))))

      by : Sign q.a → 1 ≡ number (half q.a q.o) + number (half q.b q.l)
      by (high a) =
          let b = line_low q.p q.f q.r q.a q.b q.o q.p_some r f a q.at_b in
          whole_up (up q.a) (up q.b) (int_le (pos 0) q.a) (int_lt q.o (pos 0)) (int_le (pos 0) q.b) (int_lt q.l (pos 0)) (true_lt (pos 0) q.a a) (false_lt (pos 0) q.b (up_to q.b (pos 0) b)) (false_le (pos 0) q.b b)
      by (low a) =
          whole_low (up q.a) (up q.b) (int_le (pos 0) q.a) (int_lt q.o (pos 0)) (int_le (pos 0) q.b) (int_lt q.l (pos 0)) (false_lt (pos 0) q.a (up_to q.a (pos 0) a)) (false_le (pos 0) q.a a)
          (true_lt (pos 0) q.b (line_high q.p q.f q.r q.a q.b q.o q.p_some r f a q.at_b))
      by (none a) =
          let b = line_none q.p q.f q.r q.a q.b q.o q.p_some f a q.at_b in
          whole_none (up q.a) (up q.b) (int_le (pos 0) q.a) (int_le (pos 0) q.b) (int_lt q.o (pos 0)) (int_lt q.l (pos 0)) (false_lt (pos 0) q.a (none_most q.a a)) (true_le (pos 0) q.a (none_least q.a a))
          (false_lt (pos 0) q.b (none_most q.b b)) (turned a b (sign q.o))

-- ---- more than half a turn, one of whose parts is half a turn or more

module _ (q : Quad) (n : q.n <ℤ (pos 0)) where
  more_second : (pos 0) <ℤ q.f → q.g <ℤ (pos 0) → IsParted q
  more_second f g = combine _ _ _ _ _ _ (on_more q.n q.d q.a q.c q.o n) (on_less q.f q.r q.a q.b q.o f) (on_more q.g q.s q.b q.c q.l g)
      (count_second (up q.a) (up q.b) (up q.c)
      (λ a b c. clash q.a (second_pos q.f q.g q.n q.a q.b q.c f g n (lt_true (pos 0) q.b b) (lt_true (pos 0) q.c c) q.three) (lt_false (pos 0) q.a a))
      (λ a b c. clash q.a (lt_true (pos 0) q.a a) (second_neg q.f q.g q.n q.a q.b q.c f g n (lt_false (pos 0) q.b b) (lt_false (pos 0) q.c c) q.three)))

  more_first : q.f <ℤ (pos 0) → (pos 0) <ℤ q.g → IsParted q
  more_first f g = combine _ _ _ _ _ _ (on_more q.n q.d q.a q.c q.o n) (on_more q.f q.r q.a q.b q.o f) (on_less q.g q.s q.b q.c q.l g)
      (count_first (up q.a) (up q.b) (up q.c)
      (λ a b c. clash q.c (lt_true (pos 0) q.c c) (first_neg q.f q.g q.n q.a q.b q.c f g n (lt_false (pos 0) q.a a) (lt_false (pos 0) q.b b) q.three))
      (λ a b c. clash q.c (first_pos q.f q.g q.n q.a q.b q.c f g n (lt_true (pos 0) q.a a) (lt_true (pos 0) q.b b) q.three) (lt_false (pos 0) q.c c)))

  half_second : (pos 0) <ℤ q.f → q.g ≡ pos 0 → q.s <ℤ (pos 0) → IsParted q
  half_second f g s = combine _ _ _ _ _ _ (on_more q.n q.d q.a q.c q.o n) (on_less q.f q.r q.a q.b q.o f) (on_half q.g q.s q.b q.c q.l g s) (by (sign q.b))
    where
      turned : q.b ≡ pos 0 → Sign q.l → int_lt q.l (pos 0) ≡ not (up q.a)
      turned b (none h) = absurd (l_some q b h)
      turned b (low h) = true_lt q.l (pos 0) h ∙ ap not (sym (false_lt (pos 0) q.a (up_to q.a (pos 0) (middle_low q.m q.f q.r q.a q.b q.l q.m_some f b h q.at_a))))
      turned b (high h) = false_lt q.l (pos 0) (up_to (pos 0) q.l h) ∙ ap not (sym (true_lt (pos 0) q.a (middle_high q.m q.f q.r q.a q.b q.l q.m_some f b h q.at_a)))

      by : Sign q.b → number (not (sect q.c q.a)) ≡ number (sect q.a q.b) + number (half q.b q.l)
      by (high b) = second_up (up q.a) (up q.b) (up q.c) (int_le (pos 0) q.b) (int_lt q.l (pos 0)) (true_lt (pos 0) q.b b) (false_lt (pos 0) q.c (up_to q.c (pos 0) (end_low q.f q.g q.n q.a q.b q.c f g n b q.three)))
      by (low b) = second_low (up q.a) (up q.b) (up q.c) (int_le (pos 0) q.b) (int_lt q.l (pos 0)) (false_lt (pos 0) q.b (up_to q.b (pos 0) b)) (false_le (pos 0) q.b b) (true_lt (pos 0) q.c (end_high q.f q.g q.n q.a q.b q.c f g n b q.three))
      by (none b) = second_none (up q.a) (up q.b) (up q.c) (int_le (pos 0) q.b) (int_lt q.l (pos 0)) (false_lt (pos 0) q.b (none_most q.b b)) (true_le (pos 0) q.b (none_least q.b b))
          (false_lt (pos 0) q.c (end_none q.f q.g q.n q.a q.b q.c f g b q.three)) (turned b (sign q.l))

  half_first : q.f ≡ pos 0 → q.r <ℤ (pos 0) → IsParted q
  half_first f r = combine _ _ _ _ _ _ (on_more q.n q.d q.a q.c q.o n) (on_half q.f q.r q.a q.b q.o f r) (on_less q.g q.s q.b q.c q.l (second_side q.p q.d q.n q.f q.g q.r q.p_some n f r q.at_v)) (by (sign q.a))
    where
      turned : q.a ≡ pos 0 → Sign q.o → int_lt q.o (pos 0) ≡ not (up q.c)
      turned a (none h) = absurd (o_some q a h)
      turned a (low h) = true_lt q.o (pos 0) h ∙ ap not (sym (false_lt (pos 0) q.c (up_to q.c (pos 0) (last_low q.p q.d q.n q.a q.c q.o q.p_some n a h q.at_c))))
      turned a (high h) = false_lt q.o (pos 0) (up_to (pos 0) q.o h) ∙ ap not (sym (true_lt (pos 0) q.c (last_high q.p q.d q.n q.a q.c q.o q.p_some n a h q.at_c)))

      by : Sign q.a → number (not (sect q.c q.a)) ≡ number (half q.a q.o) + number (sect q.b q.c)
      by (high a) = first_up (up q.a) (up q.b) (up q.c) (int_le (pos 0) q.a) (int_lt q.o (pos 0)) (true_lt (pos 0) q.a a) (false_lt (pos 0) q.b (up_to q.b (pos 0) (line_low q.p q.f q.r q.a q.b q.o q.p_some r f a q.at_b)))
      by (low a) = first_low (up q.a) (up q.b) (up q.c) (int_le (pos 0) q.a) (int_lt q.o (pos 0)) (false_lt (pos 0) q.a (up_to q.a (pos 0) a)) (false_le (pos 0) q.a a) (true_lt (pos 0) q.b (line_high q.p q.f q.r q.a q.b q.o q.p_some r f a q.at_b))
      by (none a) = first_none (up q.a) (up q.b) (up q.c) (int_le (pos 0) q.a) (int_lt q.o (pos 0)) (false_lt (pos 0) q.a (none_most q.a a)) (true_le (pos 0) q.a (none_least q.a a))
          (false_lt (pos 0) q.b (none_most q.b (line_none q.p q.f q.r q.a q.b q.o q.p_some f a q.at_b))) (turned a (sign q.o))

-- ---- any turn whose middle is one

-- the middle lies inside, by what the three kinds of middles keep
pub data IsMiddle (q : Quad) : Type 0 where
  near : (pos 0) <ℤ q.n → (pos 0) <ℤ q.f → (pos 0) <ℤ q.g → IsMiddle q
  round : q.d <ℤ (pos 0) → (pos 0) <ℤ q.f → (pos 0) <ℤ q.g → IsMiddle q
  back : (pos 0) ≤ℤ q.d → q.n ≤ℤ (pos 0) → (q.n ≡ pos 0 → (pos 0) <ℤ q.d) → q.r <ℤ (pos 0) → q.s <ℤ (pos 0) → IsMiddle q

pub parted : (q : Quad) → IsMiddle q → IsParted q
parted q (near n f g) = less q n f g
parted q (round d f g) = by (sign q.n)
  where
    by : Sign q.n → IsParted q
    by (high n) = less q n f g
    by (low n) = more q n f g
    by (none n) = half_turn q n d f g
parted q (back d n some r s) = by (sign q.n)
  where
    whole : q.n ≡ pos 0 → Sign q.f → IsParted q
    whole n (high f) = whole_more q n (some n) f
    whole n (low f) = whole_less q n (some n) f
    whole n (none f) = whole_line q n (some n) f r s

    behind : q.n <ℤ (pos 0) → (pos 0) <ℤ q.f → Sign q.g → IsParted q
    behind n f (high g) = more q n f g
    behind n f (low g) = more_second q n f g
    behind n f (none g) = half_second q n f g s

    over : q.n <ℤ (pos 0) → Sign q.f → IsParted q
    over n (high f) = behind n f (sign q.g)
    over n (low f) = more_first q n f (first_side q.p q.d q.n q.f q.g q.r q.p_some d n f r q.at_v)
    over n (none f) = half_first q n f r

    by : Sign q.n → IsParted q
    by (high h) = absurd (clash q.n h n)
    by (low n) = over n (sign q.f)
    by (none n) = whole n (sign q.f)
