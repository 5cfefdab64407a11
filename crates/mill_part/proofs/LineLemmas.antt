-- A triangle that is seen as a line from above stands no higher over the column than its edges.
use Rattle.std.proofs.Common.{◌≡◌, ◌⊎◌, inl, inr, arith}
use Rattle.std.specs.Prelude.{Option}
use Rattle.std.specs.Option.{option_cmp}
use Rattle.std.specs.Ordering.{int_cmp, ord_max}
use Rattle.std.proofs.lemmas.Int.{ints, by_lt_z}
use Rattle.mill_base.proofs.Cert.{by_opposite_lt}
use Rattle.mill_part.specs.inner.Columns.{IsGreatest, weigh}
use Rattle.mill_part.specs.inner.Lines.{EdgeOver, LineOver}
use Rattle.mill_part.specs.declared.line.LineCorner.{LineCorner}
use Rattle.mill_part.proofs.LineCerts as cert
use Rattle.mill_part.proofs.ColumnCerts.{mean_under}
use Rattle.mill_part.proofs.FaceLemmas.{both_ways}
use Rattle.mill_part.proofs.EdgeLemmas.{first_over, second_over, across_over, turned}
use Rattle.mill_part.proofs.Greatest.{greatest_by, greatest_max}
use lib.IntN.{ℤ, pos, neg_ℤ, ◌+ℤ◌, ◌-ℤ◌, ◌*ℤ◌}
use lib.Signed.{◌<ℤ◌, ◌≤ℤ◌}

-- places p, q and r at the heights x, y and z have a mean on the column that is at least as high as h
pub record Weighs (p x q y r z h : ℤ) : Type 0 where
  pub u : ℤ
  pub v : ℤ
  pub w : ℤ
  pub u_ok : (pos 0) ≤ℤ u
  pub v_ok : (pos 0) ≤ℤ v
  pub w_ok : (pos 0) ≤ℤ w
  pub some : (pos 0) <ℤ ((u +ℤ v) +ℤ w)
  pub on : weigh u v w p q r ≡ pos 0
  pub high : (((u +ℤ v) +ℤ w) *ℤ h) ≤ℤ weigh u v w x y z

-- the edge from p to q is under h wherever it is on the column
pub record Misses (p x q y h : ℤ) : Type 0 where
  pub first : p ≡ pos 0 → x <ℤ h
  pub second : q ≡ pos 0 → y <ℤ h
  pub across : p ≤ℤ pos 0 → (pos 0) ≤ℤ q → p <ℤ q → (q *ℤ x -ℤ p *ℤ y) <ℤ ((q -ℤ p) *ℤ h)
  pub back : q ≤ℤ pos 0 → (pos 0) ≤ℤ p → q <ℤ p → (p *ℤ y -ℤ q *ℤ x) <ℤ ((p -ℤ q) *ℤ h)

misses : (p q : LineCorner) (h : ℤ) → ¬ EdgeOver p q h → Misses p.at p.z q.at q.z h
misses p q h none = record {
  first = λ level. by_opposite_lt p.z h (λ le. none (first_over p q h level le));
  second = λ level. by_opposite_lt q.z h (λ le. none (second_over p q h level le));
  across = λ lo hi apart. by_opposite_lt (q.at *ℤ p.z -ℤ p.at *ℤ q.z) ((q.at -ℤ p.at) *ℤ h) (λ le. none (across_over p q h lo hi apart le));
  back = λ lo hi apart. by_opposite_lt (p.at *ℤ q.z -ℤ q.at *ℤ p.z) ((p.at -ℤ q.at) *ℤ h) (λ le. none (turned q p h (across_over q p h lo hi apart le)));
}

-- a mean that no edge explains; that there is none is shown below, by the signs of the places
record Stray (p x q y r z h : ℤ) : Type 0 where
  mean : Weighs p x q y r z h
  pq : Misses p x q y h
  qr : Misses q y r z h
  rp : Misses r z p x h

moved : (u v w : ℤ) → (pos 0) <ℤ ((u +ℤ v) +ℤ w) → (pos 0) <ℤ ((v +ℤ w) +ℤ u)
moved u v w some = omega (arith, ints)

rotated : (p x q y r z h : ℤ) → Stray p x q y r z h → Stray q y r z p x h
rotated p x q y r z h s = record { mean = turned_mean s.mean; pq = s.qr; qr = s.rp; rp = s.pq }
  where
    turned_mean : Weighs p x q y r z h → Weighs q y r z p x h
    turned_mean m = record {
      u = m.v;
      v = m.w;
      w = m.u;
      u_ok = m.v_ok;
      v_ok = m.w_ok;
      w_ok = m.u_ok;
      some = moved m.u m.v m.w m.some;
      on = both_ways _ _ (cert.rotated_on p q r m.u m.v m.w m.on) (cert.rotated_on_least p q r m.u m.v m.w m.on);
      high = cert.rotated_high x y z m.u m.v m.w h m.high;
    }

-- seen from the other side
mirrored_edge : (p x q y h : ℤ) → Misses p x q y h → Misses (neg_ℤ p) x (neg_ℤ q) y h
mirrored_edge p x q y h m = record {
  first = λ level. m.first (omega (arith, ints, level));
  second = λ level. m.second (omega (arith, ints, level));
  across = λ lo hi apart. cert.mirrored_across p q x y h (m.back (omega (arith, ints, hi)) (omega (arith, ints, lo)) (omega (arith, ints, apart)));
  back = λ lo hi apart. cert.mirrored_across q p y x h (m.across (omega (arith, ints, hi)) (omega (arith, ints, lo)) (omega (arith, ints, apart)));
}

mirrored : (p x q y r z h : ℤ) → Stray p x q y r z h → Stray (neg_ℤ p) x (neg_ℤ q) y (neg_ℤ r) z h
mirrored p x q y r z h s = record { mean = seen s.mean; pq = mirrored_edge p x q y h s.pq; qr = mirrored_edge q y r z h s.qr; rp = mirrored_edge r z p x h s.rp }
  where
    seen : Weighs p x q y r z h → Weighs (neg_ℤ p) x (neg_ℤ q) y (neg_ℤ r) z h
    seen m = record {
      u = m.u;
      v = m.v;
      w = m.w;
      u_ok = m.u_ok;
      v_ok = m.v_ok;
      w_ok = m.w_ok;
      some = m.some;
      on = both_ways _ _ (cert.mirrored_on p q r m.u m.v m.w m.on) (cert.mirrored_on_least p q r m.u m.v m.w m.on);
      high = m.high;
    }

from_strict : (a : ℤ) → (pos 0) <ℤ a → (pos 0) ≤ℤ a
from_strict a h = omega (arith, ints)

apart : (a b : ℤ) → a ≤ℤ pos 0 → (pos 0) <ℤ b → a <ℤ b
apart a b h k = omega (arith, ints)

alone_is : (u v w : ℤ) → (pos 0) ≤ℤ v → (pos 0) ≤ℤ w → (v +ℤ w) ≤ℤ pos 0 → (pos 0) <ℤ ((u +ℤ v) +ℤ w) → ((pos 0) <ℤ u) × (v ≡ pos 0) × (w ≡ pos 0)
alone_is u v w vo wo rest some = (omega (arith, ints), omega (arith, ints), omega (arith, ints))

flipped : (a : ℤ) → a <ℤ pos 0 → (pos 0) <ℤ neg_ℤ a
flipped a h = omega (arith, ints)

flipped_le : (a : ℤ) → (pos 0) <ℤ a → neg_ℤ a ≤ℤ pos 0
flipped_le a h = omega (arith, ints)

level : (a : ℤ) → a ≤ℤ pos 0 → (pos 0) ≤ℤ a → a ≡ pos 0
level a h k = omega (arith, ints)

-- one place on one side, and the others on the other side or on the column: the mean is one of means of two edges
apex : (p x q y r z h : ℤ) → Stray p x q y r z h → (pos 0) <ℤ p → q ≤ℤ pos 0 → r ≤ℤ pos 0 → ⊥
apex p x q y r z h s up ql rl =
    let m = s.mean in
    let pq = s.pq.back ql (from_strict p up) (apart q p ql up) in
    let pr = s.rp.across rl (from_strict p up) (apart r p rl up) in
    let rest = cert.apex_rest p q r x y z m.u m.v m.w h m.v_ok m.w_ok up pq pr m.on m.high in
    let alone = alone_is m.u m.v m.w m.v_ok m.w_ok rest m.some in
    cert.apex_none p q r m.u m.v m.w up ql rl alone.0 alone.1 alone.2 m.on

-- one place on the column, and the others on one side: only the first can count
lone : (p x q y r z h : ℤ) → Stray p x q y r z h → p ≡ pos 0 → (pos 0) <ℤ q → (pos 0) <ℤ r → ⊥
lone p x q y r z h s level uq ur =
    let m = s.mean in
    let rest = cert.lone_rest p q r m.u m.v m.w m.v_ok m.w_ok level uq ur m.on in
    let alone = alone_is m.u m.v m.w m.v_ok m.w_ok rest m.some in
    cert.lone_none x y z m.u m.v m.w h alone.0 alone.1 alone.2 (s.pq.first level) m.high

-- the first place is on the right
rising : (p x q y r z h : ℤ) → Stray p x q y r z h → (pos 0) <ℤ p → ⊥
rising p x q y r z h s up =
    let second = rotated p x q y r z h s in
    let third = rotated q y r z p x h second in
    by_lt_z (pos 0) q
    (λ uq. by_lt_z (pos 0) r
    (λ ur. let m = s.mean in cert.all_over p q r m.u m.v m.w m.u_ok m.v_ok m.w_ok m.some up uq ur m.on)
    (λ rl. by_lt_z r (pos 0)
    (λ rn. apex (neg_ℤ r) z (neg_ℤ p) x (neg_ℤ q) y h (mirrored r z p x q y h third) (flipped r rn) (flipped_le p up) (flipped_le q uq))
    (λ rn. lone r z p x q y h third (level r rl rn) up uq)))
    (λ ql. by_lt_z (pos 0) r
    (λ ur. by_lt_z q (pos 0)
    (λ qn. apex (neg_ℤ q) y (neg_ℤ r) z (neg_ℤ p) x h (mirrored q y r z p x h second) (flipped q qn) (flipped_le r ur) (flipped_le p up))
    (λ qn. lone q y r z p x h second (level q ql qn) ur up))
    (λ rl. apex p x q y r z h s up ql rl))

-- the first place isn't on the column
beside : (p x q y r z h : ℤ) → Stray p x q y r z h → (p ≡ pos 0 → ⊥) → ⊥
beside p x q y r z h s off =
    by_lt_z (pos 0) p (λ up. rising p x q y r z h s up)
    (λ pl. by_lt_z p (pos 0)
    (λ pn. rising (neg_ℤ p) x (neg_ℤ q) y (neg_ℤ r) z h (mirrored p x q y r z h s) (flipped p pn))
    (λ pn. off (level p pl pn)))

-- no place is beside the column, so all are on it, and all are under h
no_stray : (p x q y r z h : ℤ) → Stray p x q y r z h → ⊥
no_stray p x q y r z h s =
    let second = rotated p x q y r z h s in
    let third = rotated q y r z p x h second in
    beside p x q y r z h s (λ pz. beside q y r z p x h second (λ qz. beside r z p x q y h third (λ rz.
    let m = s.mean in
    under_all x y z h m.u m.v m.w m.u_ok m.v_ok m.w_ok m.some (s.pq.first pz) (s.pq.second qz) (s.qr.second rz) m.high)))
  where
    one_under : (a h : ℤ) → a <ℤ h → a ≤ℤ (h -ℤ pos 1)
    one_under a h k = omega (arith, ints)

    not_under : (h : ℤ) → h ≤ℤ (h -ℤ pos 1) → ⊥
    not_under h k = omega (arith, ints)

    under_all : (x y z h u v w : ℤ) → (pos 0) ≤ℤ u → (pos 0) ≤ℤ v → (pos 0) ≤ℤ w → (pos 0) <ℤ ((u +ℤ v) +ℤ w) → x <ℤ h → y <ℤ h → z <ℤ h
        → (((u +ℤ v) +ℤ w) *ℤ h) ≤ℤ weigh u v w x y z → ⊥
    under_all x y z h u v w uo vo wo some hx hy hz high =
        not_under h (mean_under u v w x y z (h -ℤ pos 1) h uo vo wo some (one_under x h hx) (one_under y h hy) (one_under z h hz) high)

-- an edge's points are the triangle's
edge_of_line : (a b c : LineCorner) (h : ℤ) → EdgeOver a b h → LineOver a b c h
edge_of_line a b c h e = record {
  u = e.u;
  v = e.v;
  w = pos 0;
  u_ok = e.u_ok;
  v_ok = e.v_ok;
  w_ok = omega (arith, ints);
  some = with_none e.u e.v e.some;
  on = both_ways _ _ (cert.third_on a.at b.at c.at e.u e.v e.on) (cert.third_on_least a.at b.at c.at e.u e.v e.on);
  high = cert.third_high a.z b.z c.z e.u e.v h e.high;
}
  where
    with_none : (u v : ℤ) → (pos 0) <ℤ (u +ℤ v) → (pos 0) <ℤ ((u +ℤ v) +ℤ pos 0)
    with_none u v some = omega (arith, ints)

rotated_line : (a b c : LineCorner) (h : ℤ) → LineOver a b c h → LineOver b c a h
rotated_line a b c h m = record {
  u = m.v;
  v = m.w;
  w = m.u;
  u_ok = m.v_ok;
  v_ok = m.w_ok;
  w_ok = m.u_ok;
  some = moved m.u m.v m.w m.some;
  on = both_ways _ _ (cert.rotated_on a.at b.at c.at m.u m.v m.w m.on) (cert.rotated_on_least a.at b.at c.at m.u m.v m.w m.on);
  high = cert.rotated_high a.z b.z c.z m.u m.v m.w h m.high;
}

mean_of : (a b c : LineCorner) (h : ℤ) → LineOver a b c h → Weighs a.at a.z b.at b.z c.at c.z h
mean_of a b c h m = record { u = m.u; v = m.v; w = m.w; u_ok = m.u_ok; v_ok = m.v_ok; w_ok = m.w_ok; some = m.some; on = m.on; high = m.high }

-- the greatest height of the three edges is the triangle's
pub line_greatest : (a b c : LineCorner) (ab bc ca : Option ℤ) → IsGreatest (EdgeOver a b) ab → IsGreatest (EdgeOver b c) bc → IsGreatest (EdgeOver c a) ca
    → IsGreatest (LineOver a b c) (ord_max (option_cmp int_cmp) (ord_max (option_cmp int_cmp) ab bc) ca)
line_greatest a b c ab bc ca gab gbc gca =
    greatest_by (λ h. (EdgeOver a b h ⊎ EdgeOver b c h) ⊎ EdgeOver c a h) (LineOver a b c) (ord_max (option_cmp int_cmp) (ord_max (option_cmp int_cmp) ab bc) ca)
    (greatest_max (λ h. EdgeOver a b h ⊎ EdgeOver b c h) (EdgeOver c a) (ord_max (option_cmp int_cmp) ab bc) ca
    (greatest_max (EdgeOver a b) (EdgeOver b c) ab bc gab gbc) gca)
    from_edge to_edge
  where
    from_edge : (h : ℤ) → ((EdgeOver a b h ⊎ EdgeOver b c h) ⊎ EdgeOver c a h) → LineOver a b c h
    from_edge h (inl (inl e)) = edge_of_line a b c h e
    from_edge h (inl (inr e)) = rotated_line c a b h (rotated_line b c a h (edge_of_line b c a h e))
    from_edge h (inr e) = rotated_line c a b h (edge_of_line c a b h e)

    to_edge : (h : ℤ) → LineOver a b c h → ¬ ¬ ((EdgeOver a b h ⊎ EdgeOver b c h) ⊎ EdgeOver c a h)
    to_edge h m none = no_stray a.at a.z b.at b.z c.at c.z h (record {
      mean = mean_of a b c h m;
      pq = misses a b h (λ e. none (inl (inl e)));
      qr = misses b c h (λ e. none (inl (inr e)));
      rp = misses c a h (λ e. none (inr e));
    })
