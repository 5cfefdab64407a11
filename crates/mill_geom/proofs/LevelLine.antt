-- The line in which a triangle meets the level: with no touch on the edges, it comes near the axis exactly where its form is negative and it is near.
use Rattle.std.proofs.Common.{◌≡◌, ◌⊎◌, inl, inr, refl, sym, subst, arith}
use lib.IntN.{ℤ, pos, ◌+ℤ◌, ◌-ℤ◌, ◌*ℤ◌}
use lib.Signed.{◌<ℤ◌, ◌≤ℤ◌}
use Rattle.std.proofs.lemmas.Int.{ints}
use Rattle.mill_base.specs.Numbers.{square}
use Rattle.mill_base.proofs.Exit.{split_lt}
use Rattle.mill_geom.specs.declared.offset.Offset.{Offset}
use Rattle.mill_geom.specs.Offsets.{mean2, mean3}
use Rattle.mill_geom.specs.Forms.{level_form_of, volume_of, slope_x_of, slope_y_of, IsLineNear, IsAlone, IsOver}
use Rattle.mill_geom.specs.Contacts.{TouchesTriangle, OnLevel, EdgesClear}
use Rattle.mill_geom.proofs.Descend.{V4, Hit}
use Rattle.mill_geom.proofs.Segments.{turned}
use Rattle.mill_geom.proofs.Cut.{line_form, CutHits, cut_shows, cut_found}
use Rattle.mill_geom.proofs.CutCerts.{nonneg_sum}
use Rattle.mill_geom.proofs.Corners.{corner, weak, at_zero, near_hit, opened, turn_touch, turn_closed, turn_level, turn_clear, gone_first, segment_opened}
use Rattle.mill_geom.proofs.LevelCerts.{near_to, near_from, near_same, time_ok, level_up, level_down, minor_up, minor_down, minor_yes, minor_no, square_above, square_below, end_near, end_near_turned, end_level, end_level_turned, mirror_ge, mirror_back_le, mirror_back_ge, zero_first}

-- the corner with its height turned over
abbrev mirrored : ℤ → Offset → V4
mirrored r p = record { x = p.x; y = p.y; n = r; l = pos 0 -ℤ p.z }

both_ways : (x : ℤ) → x ≤ℤ pos 0 → (pos 0) ≤ℤ x → x ≡ pos 0
both_ways x h k = omega (arith, ints)

twice : (x : ℤ) → x ≡ pos 0 -ℤ (pos 0 -ℤ x)
twice x = omega (arith, ints)

opposite : (x : ℤ) → x ≤ℤ pos 0 → (pos 0) ≤ℤ (pos 0 -ℤ x)
opposite x h = omega (arith, ints)

over_zero : (x : ℤ) → x <ℤ pos 0 → (pos 0) <ℤ (pos 0 -ℤ x)
over_zero x h = omega (arith, ints)

-- the test finds a point over the level: from the one corner over the level, or from the one under it
pub level_touch : (r : ℤ) (p q s : Offset) → (pos 0) <ℤ r → IsAlone p q s → level_form_of r p q s <ℤ pos 0 → IsLineNear r p q s → TouchesTriangle r p q s
level_touch r p q s hr (inl a) form near =
    let b = pos 0 -ℤ q.z in
    let c = pos 0 -ℤ s.z in
    let P = corner r p in
    let Q = corner r q in
    let S = corner r s in
    let negative : line_form P Q S b c <ℤ pos 0 = subst (λ t. t <ℤ pos 0) (sym (level_up p.x p.y p.z q.x q.y q.z s.x s.y s.z r)) form in
    let minor = minor_yes (line_form P Q S b c *ℤ line_form P Q S b c) (line_form P Q Q b b) (line_form P S S c c) (p.z *ℤ p.z)
    ((r *ℤ r) *ℤ (square (slope_x_of p q s) +ℤ square (slope_y_of p q s))) (square (volume_of p q s))
    (minor_up p.x p.y p.z q.x q.y q.z s.x s.y s.z r) (square_above p.z a.0) near in
    let o = cut_found P Q S b c a.0 (opposite q.z a.1.0) (opposite s.z a.1.1) (twice q.z) (twice s.z) (inr (inr (negative, minor))) in
    opened r p q s hr a.0 (record {
      u = o.u;
      v = o.v;
      w = o.w;
      u_ok = o.weights.u_ok;
      v_ok = o.weights.v_ok;
      w_ok = o.weights.w_ok;
      near = near_from (mean3 o.u o.v o.w p q s).x (mean3 o.u o.v o.w p q s).y (mean3 o.u o.v o.w p q s).x (mean3 o.u o.v o.w p q s).y ((o.u *ℤ r +ℤ o.v *ℤ r) +ℤ o.w *ℤ r) o.u o.v o.w r refl refl refl o.near;
      level = at_zero _ o.level;
    })
level_touch r p q s hr (inr a) form near =
    let P = mirrored r p in
    let Q = mirrored r q in
    let S = mirrored r s in
    let negative : line_form P Q S q.z s.z <ℤ pos 0 = subst (λ t. t <ℤ pos 0) (sym (level_down p.x p.y p.z q.x q.y q.z s.x s.y s.z r)) form in
    let minor = minor_yes (line_form P Q S q.z s.z *ℤ line_form P Q S q.z s.z) (line_form P Q Q q.z q.z) (line_form P S S s.z s.z) (p.z *ℤ p.z)
    ((r *ℤ r) *ℤ (square (slope_x_of p q s) +ℤ square (slope_y_of p q s))) (square (volume_of p q s))
    (minor_down p.x p.y p.z q.x q.y q.z s.x s.y s.z r) (square_below p.z a.0) near in
    let o = cut_found P Q S q.z s.z (over_zero p.z a.0) (weak q.z a.1.0) (weak s.z a.1.1) refl refl (inr (inr (negative, minor))) in
    turn_touch r p q s (opened r q s p hr a.1.0 (turn_closed r q s p (turn_closed r s p q (record {
      u = o.u;
      v = o.v;
      w = o.w;
      u_ok = o.weights.u_ok;
      v_ok = o.weights.v_ok;
      w_ok = o.weights.w_ok;
      near = near_from (mean3 o.u o.v o.w p q s).x (mean3 o.u o.v o.w p q s).y (mean3 o.u o.v o.w p q s).x (mean3 o.u o.v o.w p q s).y ((o.u *ℤ r +ℤ o.v *ℤ r) +ℤ o.w *ℤ r) o.u o.v o.w r refl refl refl o.near;
      level = mirror_ge o.u o.v o.w p.z q.z s.z o.level;
    }))))

-- with the edges clear, a near point on the level shows in the test
pub level_clear : (r : ℤ) (p q s : Offset) → (pos 0) <ℤ r → IsAlone p q s → (level_form_of r p q s <ℤ pos 0 → IsLineNear r p q s → ⊥) → EdgesClear r p q s → OnLevel r p q s → ⊥
level_clear r p q s hr (inl a) free k t =
    let b = pos 0 -ℤ q.z in
    let c = pos 0 -ℤ s.z in
    let P = corner r p in
    let Q = corner r q in
    let S = corner r s in
    let hit = near_hit r p q s t.u t.v t.w hr t.u_ok t.v_ok t.w_ok t.near (at_zero _ t.level) in
    let shown : CutHits P Q S b c = cut_shows P Q S b c t.u t.v t.w a.0 (twice q.z) (twice s.z) (record { u_ok = t.u_ok; v_ok = t.v_ok; w_ok = t.w_ok }) hit t.level in
    elim shown [
      | inl h ↦ k.ab (segment_opened r p q b p.z hr a.0 (opposite q.z a.1.0) (weak p.z a.0) (end_near p.x p.y q.x q.y b p.z r h) (end_level p.z q.z))
      | inr more ↦ elim more [
        | inl h ↦ k.ca (turned r p s (segment_opened r p s c p.z hr a.0 (opposite s.z a.1.1) (weak p.z a.0) (end_near p.x p.y s.x s.y c p.z r h) (end_level p.z s.z)))
        | inr h ↦ free (subst (λ t. t <ℤ pos 0) (level_up p.x p.y p.z q.x q.y q.z s.x s.y s.z r) h.0)
            (minor_no (line_form P Q S b c *ℤ line_form P Q S b c) (line_form P Q Q b b) (line_form P S S c c) (p.z *ℤ p.z)
            ((r *ℤ r) *ℤ (square (slope_x_of p q s) +ℤ square (slope_y_of p q s))) (square (volume_of p q s))
            (minor_up p.x p.y p.z q.x q.y q.z s.x s.y s.z r) (square_above p.z a.0) h.1)
      ]
    ]
level_clear r p q s hr (inr a) free k t =
    let P = mirrored r p in
    let Q = mirrored r q in
    let S = mirrored r s in
    let d = pos 0 -ℤ p.z in
    let level = both_ways _ (mirror_back_le t.u t.v t.w p.z q.z s.z t.level) (mirror_back_ge t.u t.v t.w p.z q.z s.z t.level) in
    let hit : Hit P Q S t.u t.v t.w = record {
      near = near_to (mean3 t.u t.v t.w p q s).x (mean3 t.u t.v t.w p q s).y t.u t.v t.w r t.near;
      time = time_ok t.u t.v t.w r t.u_ok t.v_ok t.w_ok hr;
      side = at_zero _ level;
    } in
    let shown : CutHits P Q S q.z s.z = cut_shows P Q S q.z s.z t.u t.v t.w (over_zero p.z a.0) refl refl (record { u_ok = t.u_ok; v_ok = t.v_ok; w_ok = t.w_ok }) hit level in
    elim shown [
      | inl h ↦ k.ab (turned r q p (segment_opened r q p d q.z hr a.1.0 (weak d (over_zero p.z a.0)) (weak q.z a.1.0) (end_near_turned p.x p.y q.x q.y q.z d r h) (end_level_turned p.z q.z)))
      | inr more ↦ elim more [
        | inl h ↦ k.ca (segment_opened r s p d s.z hr a.1.1 (weak d (over_zero p.z a.0)) (weak s.z a.1.1) (end_near_turned p.x p.y s.x s.y s.z d r h) (end_level_turned p.z s.z))
        | inr h ↦ free (subst (λ t. t <ℤ pos 0) (level_down p.x p.y p.z q.x q.y q.z s.x s.y s.z r) h.0)
            (minor_no (line_form P Q S q.z s.z *ℤ line_form P Q S q.z s.z) (line_form P Q Q q.z q.z) (line_form P S S s.z s.z) (p.z *ℤ p.z)
            ((r *ℤ r) *ℤ (square (slope_x_of p q s) +ℤ square (slope_y_of p q s))) (square (volume_of p q s))
            (minor_down p.x p.y p.z q.x q.y q.z s.x s.y s.z r) (square_below p.z a.0) h.1)
      ]
    ]

-- two corners over the level and none under it: only the third corner or an edge can be on the level
two_up : (r : ℤ) (a b c : Offset) → (pos 0) <ℤ r → (pos 0) <ℤ a.z → (pos 0) <ℤ b.z → (pos 0) ≤ℤ c.z → EdgesClear r a b c → OnLevel r a b c → ⊥
two_up r a b c hr ha hb hc k t =
    let u_zero : t.u ≡ pos 0 = both_ways t.u (zero_first t.u t.v t.w a.z b.z c.z t.u_ok t.v_ok t.w_ok ha hb hc t.level) t.u_ok in
    k.bc (segment_opened r b c t.v t.w hr hb t.v_ok t.w_ok
    (near_same (mean2 t.v t.w b c).x (mean2 t.v t.w b c).y (t.v +ℤ t.w) (mean3 t.u t.v t.w a b c).x (mean3 t.u t.v t.w a b c).y ((t.u +ℤ t.v) +ℤ t.w) r
    (sym (gone_first a.x (t.v *ℤ b.x) (t.w *ℤ c.x) t.u u_zero)) (sym (gone_first a.y (t.v *ℤ b.y) (t.w *ℤ c.y) t.u u_zero)) (without t.u t.v t.w u_zero) t.near)
    (nonneg_sum t.v b.z t.w c.z t.v_ok (weak b.z hb) t.w_ok hc))
  where
    without : (u v w : ℤ) → u ≡ pos 0 → v +ℤ w ≡ (u +ℤ v) +ℤ w
    without u v w e = omega (arith, ints)

-- with no corner alone on its side of the level and the edges clear, no near point is on the level
pub none_alone : (r : ℤ) (a b c : Offset) → (pos 0) <ℤ r → (IsAlone a b c → ⊥) → (IsAlone b c a → ⊥) → (IsAlone c a b → ⊥) → IsOver a b c → EdgesClear r a b c → OnLevel r a b c → ⊥
none_alone r a b c hr na nb nc over k t = by (split_lt (pos 0) a.z) (split_lt (pos 0) b.z) (split_lt (pos 0) c.z)
  where
    kb : EdgesClear r b c a
    kb = turn_clear r a b c k

    kc : EdgesClear r c a b
    kc = turn_clear r b c a kb

    tc : OnLevel r c a b
    tc = turn_level r c a b t

    tb : OnLevel r b c a
    tb = turn_level r b c a tc

    by : ((pos 0) <ℤ a.z) ⊎ (a.z ≤ℤ pos 0) → ((pos 0) <ℤ b.z) ⊎ (b.z ≤ℤ pos 0) → ((pos 0) <ℤ c.z) ⊎ (c.z ≤ℤ pos 0) → ⊥
    by (inl x) (inl y) z = elim (split_lt c.z (pos 0)) [ inl h ↦ nc (inr (h, (x, y))) | inr h ↦ two_up r a b c hr x y h k t ]
    by (inl x) (inr y) (inl z) = elim (split_lt b.z (pos 0)) [ inl h ↦ nb (inr (h, (z, x))) | inr h ↦ two_up r c a b hr z x h kc tc ]
    by (inr x) (inl y) (inl z) = elim (split_lt a.z (pos 0)) [ inl h ↦ na (inr (h, (y, z))) | inr h ↦ two_up r b c a hr y z h kb tb ]
    by (inl x) (inr y) (inr z) = na (inl (x, (y, z)))
    by (inr x) (inl y) (inr z) = nb (inl (y, (z, x)))
    by (inr x) (inr y) (inl z) = nc (inl (z, (x, y)))
    by (inr x) (inr y) (inr z) = elim over [ inl h ↦ clash a.z h x | inr o ↦ elim o [ inl h ↦ clash b.z h y | inr h ↦ clash c.z h z ] ]
      where
        clash : (x : ℤ) → (pos 0) <ℤ x → x ≤ℤ pos 0 → ⊥
        clash x h k = omega (arith, ints)
