-- A triangle over a column: its weights are the areas that the column makes with the edges.
use Rattle.std.proofs.Common.{◌≡◌, inl, inr, sym, ap, ◌∙◌, arith}
use Rattle.std.specs.Prelude.{Option}
use Rattle.std.proofs.lemmas.Int.{ints}
use Rattle.mill_base.proofs.Integers.{one-mul-ℤ}
use Rattle.mill_base.specs.declared.points.Tri.{Tri}
use Rattle.mill_part.specs.inner.Columns.{weigh, Reaches, StandsOver, IsGreatest, turn_of, AreApart}
use Rattle.mill_part.proofs.ColumnCerts as cert
use Rattle.mill_part.proofs.Greatest.{greatest_same}
use lib.IntN.{ℤ, pos, negsuc, ◌+ℤ◌, ◌-ℤ◌, ◌*ℤ◌}
use lib.Signed.{◌<ℤ◌, ◌≤ℤ◌}

pub both_ways : (x y : ℤ) → x ≤ℤ y → y ≤ℤ x → x ≡ y
both_ways x y h k = omega (arith, ints)

-- from the mean of places to the mean of their offsets, and back
pub to_offsets : (a b c t u v w : ℤ) → weigh u v w a b c ≡ ((u +ℤ v) +ℤ w) *ℤ t → weigh u v w (a -ℤ t) (b -ℤ t) (c -ℤ t) ≡ pos 0
to_offsets a b c t u v w on = both_ways _ _ (cert.offsets_most a b c t u v w on) (cert.offsets_least a b c t u v w on)

pub from_offsets : (a b c t u v w : ℤ) → weigh u v w (a -ℤ t) (b -ℤ t) (c -ℤ t) ≡ pos 0 → weigh u v w a b c ≡ ((u +ℤ v) +ℤ w) *ℤ t
from_offsets a b c t u v w on = both_ways _ _ (cert.places_most a b c t u v w on) (cert.places_least a b c t u v w on)

-- the weights are the three turns, each times the same number
pub record AreFace (tri : Tri) (x y u v w : ℤ) : Type 0 where
  pub s : ℤ
  pub u_is : u ≡ s *ℤ turn_of tri.b tri.c x y
  pub v_is : v ≡ s *ℤ turn_of tri.c tri.a x y
  pub w_is : w ≡ s *ℤ turn_of tri.a tri.b x y

-- a point with such weights stands on the column
pub face_stands : (tri : Tri) (x y u v w h : ℤ) → AreFace tri x y u v w → (pos 0) <ℤ ((u +ℤ v) +ℤ w) → Reaches tri u v w h → StandsOver tri x y h
face_stands tri x y u v w h face some reaches = record {
  u = u;
  v = v;
  w = w;
  some = some;
  on_x = from_offsets tri.a.x tri.b.x tri.c.x x u v w (rw (face.u_is, face.v_is, face.w_is)
      (cert.face_x face.s (tri.a.x -ℤ x) (tri.a.y -ℤ y) (tri.b.x -ℤ x) (tri.b.y -ℤ y) (tri.c.x -ℤ x) (tri.c.y -ℤ y)));
  on_y = from_offsets tri.a.y tri.b.y tri.c.y y u v w (rw (face.u_is, face.v_is, face.w_is)
      (cert.face_y face.s (tri.a.x -ℤ x) (tri.a.y -ℤ y) (tri.b.x -ℤ x) (tri.b.y -ℤ y) (tri.c.x -ℤ x) (tri.c.y -ℤ y)));
  reaches = reaches;
}

-- u, v and w have the proportions of p, q and r; n and t are the sums of these and of those
record AreShares (n t p q r u v w : ℤ) : Type 0 where
  first : n *ℤ u ≡ p *ℤ t
  second : n *ℤ v ≡ q *ℤ t
  third : n *ℤ w ≡ r *ℤ t

-- the weights of every point on the column have the proportions of the turns
shares : (tri : Tri) (x y u v w h : ℤ) → AreFace tri x y u v w → (over : StandsOver tri x y h)
    → AreShares ((over.u +ℤ over.v) +ℤ over.w) ((u +ℤ v) +ℤ w) over.u over.v over.w u v w
shares tri x y u v w h face over =
    let a = tri.a.x -ℤ x in
    let d = tri.a.y -ℤ y in
    let b = tri.b.x -ℤ x in
    let e = tri.b.y -ℤ y in
    let c = tri.c.x -ℤ x in
    let f = tri.c.y -ℤ y in
    let on_x = to_offsets tri.a.x tri.b.x tri.c.x x over.u over.v over.w over.on_x in
    let on_y = to_offsets tri.a.y tri.b.y tri.c.y y over.u over.v over.w over.on_y in
    record {
      first = rw (face.u_is, face.v_is, face.w_is) (both_ways _ _
          (cert.first_share_most face.s a d b e c f over.u over.v over.w on_x on_y) (cert.first_share_least face.s a d b e c f over.u over.v over.w on_x on_y));
      second = rw (face.u_is, face.v_is, face.w_is) (both_ways _ _
          (cert.second_share_most face.s a d b e c f over.u over.v over.w on_x on_y) (cert.second_share_least face.s a d b e c f over.u over.v over.w on_x on_y));
      third = rw (face.u_is, face.v_is, face.w_is) (both_ways _ _
          (cert.third_share_most face.s a d b e c f over.u over.v over.w on_x on_y) (cert.third_share_least face.s a d b e c f over.u over.v over.w on_x on_y));
    }

-- where the turns' sum is positive, every point on the column has their height
pub face_reaches : (tri : Tri) (x y u v w h : ℤ) → AreFace tri x y u v w → (pos 0) <ℤ ((u +ℤ v) +ℤ w) → StandsOver tri x y h → Reaches tri u v w h
face_reaches tri x y u v w h face some over =
    let s = shares tri x y u v w h face over in
    let n = (over.u +ℤ over.v) +ℤ over.w in
    let t = (u +ℤ v) +ℤ w in
    record {
      u_ok = cert.share_positive n t over.u u over.some some over.reaches.u_ok s.first;
      v_ok = cert.share_positive n t over.v v over.some some over.reaches.v_ok s.second;
      w_ok = cert.share_positive n t over.w w over.some some over.reaches.w_ok s.third;
      high = cert.share_high n t over.u over.v over.w u v w tri.a.z tri.b.z tri.c.z h over.some some s.first s.second s.third over.reaches.high;
    }

pub face_greatest : (tri : Tri) (x y u v w : ℤ) (o : Option ℤ) → AreFace tri x y u v w → (pos 0) <ℤ ((u +ℤ v) +ℤ w) → IsGreatest (Reaches tri u v w) o
    → IsGreatest (StandsOver tri x y) o
face_greatest tri x y u v w o face some g = greatest_same (Reaches tri u v w) (StandsOver tri x y) o g
    (λ h. face_stands tri x y u v w h face some) (λ h. face_reaches tri x y u v w h face some)

-- where the turns' sum is 0 and a point stands on the column, each turn is 0
pub turns_are_0 : (tri : Tri) (x y u v w h : ℤ) → AreFace tri x y u v w → ((u +ℤ v) +ℤ w) ≡ pos 0 → StandsOver tri x y h → (u ≡ pos 0) × (v ≡ pos 0)
turns_are_0 tri x y u v w h face none over =
    let s = shares tri x y u v w h face over in
    let n = (over.u +ℤ over.v) +ℤ over.w in
    let first : n *ℤ u ≡ over.u *ℤ pos 0 = s.first ∙ ap (λ t. over.u *ℤ t) none in
    let second : n *ℤ v ≡ over.v *ℤ pos 0 = s.second ∙ ap (λ t. over.v *ℤ t) none in (
      both_ways _ _ (cert.share_zero_most n over.u u over.some first) (cert.share_zero_least n over.u u over.some first),
      both_ways _ _ (cert.share_zero_most n over.v v over.some second) (cert.share_zero_least n over.v v over.some second),
    )

apart_none : (a b c t u v w : ℤ) → (pos 0) ≤ℤ u → (pos 0) ≤ℤ v → (pos 0) ≤ℤ w → (pos 0) <ℤ ((u +ℤ v) +ℤ w) → weigh u v w a b c ≡ ((u +ℤ v) +ℤ w) *ℤ t
    → AreApart a b c t → ⊥
apart_none a b c t u v w uo vo wo some on (inl over) = cert.apart_over a b c t u v w uo vo wo some over.0 over.1 over.2 on
apart_none a b c t u v w uo vo wo some on (inr under) = cert.apart_under a b c t u v w uo vo wo some under.0 under.1 under.2 on

-- no point of a triangle that lies to one side of the column stands on it
pub none_over_x : (tri : Tri) (x y h : ℤ) → AreApart tri.a.x tri.b.x tri.c.x x → StandsOver tri x y h → ⊥
none_over_x tri x y h apart over = apart_none tri.a.x tri.b.x tri.c.x x over.u over.v over.w over.reaches.u_ok over.reaches.v_ok over.reaches.w_ok over.some over.on_x apart

pub none_over_y : (tri : Tri) (x y h : ℤ) → AreApart tri.a.y tri.b.y tri.c.y y → StandsOver tri x y h → ⊥
none_over_y tri x y h apart over = apart_none tri.a.y tri.b.y tri.c.y y over.u over.v over.w over.reaches.u_ok over.reaches.v_ok over.reaches.w_ok over.some over.on_y apart

-- the turns themselves and their opposites, as the program passes them
pub face_of : (tri : Tri) (x y u v w U V W : ℤ) → U ≡ u → V ≡ v → W ≡ w → u ≡ turn_of tri.b tri.c x y → v ≡ turn_of tri.c tri.a x y → w ≡ turn_of tri.a tri.b x y
    → AreFace tri x y U V W
face_of tri x y u v w U V W eu ev ew tu tv tw = record {
  s = pos 1;
  u_is = eu ∙ tu ∙ sym (one-mul-ℤ (turn_of tri.b tri.c x y));
  v_is = ev ∙ tv ∙ sym (one-mul-ℤ (turn_of tri.c tri.a x y));
  w_is = ew ∙ tw ∙ sym (one-mul-ℤ (turn_of tri.a tri.b x y));
}

pub opposite_face_of : (tri : Tri) (x y u v w U V W : ℤ) → U ≡ pos 0 -ℤ u → V ≡ pos 0 -ℤ v → W ≡ pos 0 -ℤ w
    → u ≡ turn_of tri.b tri.c x y → v ≡ turn_of tri.c tri.a x y → w ≡ turn_of tri.a tri.b x y → AreFace tri x y U V W
opposite_face_of tri x y u v w U V W eu ev ew tu tv tw = record {
  s = negsuc 0;
  u_is = eu ∙ cert.minus_one u ∙ ap (λ t. negsuc 0 *ℤ t) tu;
  v_is = ev ∙ cert.minus_one v ∙ ap (λ t. negsuc 0 *ℤ t) tv;
  w_is = ew ∙ cert.minus_one w ∙ ap (λ t. negsuc 0 *ℤ t) tw;
}
