-- A triangle whose three turns are 0 stands over the column as it does seen along one axis.
use Rattle.std.proofs.Common.{◌≡◌, arith}
use Rattle.std.specs.Prelude.{Option}
use Rattle.std.proofs.lemmas.Int.{ints, by_lt_z}
use Rattle.mill_base.specs.declared.points.Tri.{Tri}
use Rattle.mill_part.specs.inner.Columns.{weigh, Reaches, StandsOver, IsGreatest, IsUpright, turn_of}
use Rattle.mill_part.specs.inner.Lines.{LineOver}
use Rattle.mill_part.specs.declared.line.LineCorner.{LineCorner}
use Rattle.mill_part.proofs.ColumnCerts as cert
use Rattle.mill_part.proofs.FaceLemmas.{both_ways, to_offsets, from_offsets}
use Rattle.mill_part.proofs.Greatest.{greatest_same}
use lib.IntN.{ℤ, pos, ◌+ℤ◌, ◌-ℤ◌, ◌*ℤ◌}
use lib.Signed.{◌<ℤ◌}

-- the places are the corners, at these offsets from the column
pub record AreAlong (a b c : LineCorner) (tri : Tri) (p q r : ℤ) : Type 0 where
  pub a_at : a.at ≡ p
  pub b_at : b.at ≡ q
  pub c_at : c.at ≡ r
  pub a_z : a.z ≡ tri.a.z
  pub b_z : b.z ≡ tri.b.z
  pub c_z : c.z ≡ tri.c.z

line_of : (a b c : LineCorner) (tri : Tri) (p q r u v w h : ℤ) → AreAlong a b c tri p q r → (pos 0) <ℤ ((u +ℤ v) +ℤ w) → weigh u v w p q r ≡ pos 0 → Reaches tri u v w h
    → LineOver a b c h
line_of a b c tri p q r u v w h along some on reaches = record {
  u = u;
  v = v;
  w = w;
  u_ok = reaches.u_ok;
  v_ok = reaches.v_ok;
  w_ok = reaches.w_ok;
  some = some;
  on = rw (along.a_at, along.b_at, along.c_at) on;
  high = rw (along.a_z, along.b_z, along.c_z) reaches.high;
}

on_line : (a b c : LineCorner) (tri : Tri) (p q r h : ℤ) → AreAlong a b c tri p q r → (l : LineOver a b c h) → weigh l.u l.v l.w p q r ≡ pos 0
on_line a b c tri p q r h along l = rw (along.a_at, along.b_at, along.c_at) at l.on

reaches_line : (a b c : LineCorner) (tri : Tri) (p q r h : ℤ) → AreAlong a b c tri p q r → (l : LineOver a b c h) → Reaches tri l.u l.v l.w h
reaches_line a b c tri p q r h along l =
    record { u_ok = l.u_ok; v_ok = l.v_ok; w_ok = l.w_ok; high = rw (along.a_z, along.b_z, along.c_z) at l.high }

-- seen along y, where all corners have the column's x
pub upright_greatest : (tri : Tri) (x y : ℤ) (a b c : LineCorner) (o : Option ℤ) → IsUpright tri x → AreAlong a b c tri (tri.a.y -ℤ y) (tri.b.y -ℤ y) (tri.c.y -ℤ y)
    → IsGreatest (LineOver a b c) o → IsGreatest (StandsOver tri x y) o
upright_greatest tri x y a b c o upright along g = greatest_same (LineOver a b c) (StandsOver tri x y) o g stands lies
  where
    stands : (h : ℤ) → LineOver a b c h → StandsOver tri x y h
    stands h l = record {
      u = l.u;
      v = l.v;
      w = l.w;
      some = l.some;
      on_x = rw (upright.0, upright.1, upright.2) (cert.upright_on l.u l.v l.w x);
      on_y = from_offsets tri.a.y tri.b.y tri.c.y y l.u l.v l.w (on_line a b c tri _ _ _ h along l);
      reaches = reaches_line a b c tri _ _ _ h along l;
    }

    lies : (h : ℤ) → StandsOver tri x y h → LineOver a b c h
    lies h s = line_of a b c tri _ _ _ s.u s.v s.w h along s.some (to_offsets tri.a.y tri.b.y tri.c.y y s.u s.v s.w s.on_y) s.reaches

-- the corners' places along x and along y, from the column, are in the same proportions
record AreLevel (a d b e c f : ℤ) : Type 0 where
  bc : (b *ℤ f -ℤ e *ℤ c) ≡ pos 0
  ca : (c *ℤ d -ℤ f *ℤ a) ≡ pos 0
  ab : (a *ℤ e -ℤ d *ℤ b) ≡ pos 0

-- a mean that is on the column along x is on it along y, if some corner isn't
other_axis : (a d b e c f p q r : ℤ) → AreLevel a d b e c f → weigh p q r a b c ≡ pos 0 → ((a ≡ pos 0) × (b ≡ pos 0) × (c ≡ pos 0) → ⊥) → weigh p q r d e f ≡ pos 0
other_axis a d b e c f p q r level on off =
    let s = weigh p q r d e f in
    let first : a *ℤ s ≡ pos 0 = both_ways _ _ (cert.first_across_most a d b e c f p q r on level.ca level.ab) (cert.first_across_least a d b e c f p q r on level.ca level.ab) in
    let second : b *ℤ s ≡ pos 0 = both_ways _ _ (cert.second_across_most a d b e c f p q r on level.ab level.bc) (cert.second_across_least a d b e c f p q r on level.ab level.bc) in
    let third : c *ℤ s ≡ pos 0 = both_ways _ _ (cert.third_across_most a d b e c f p q r on level.ca level.bc) (cert.third_across_least a d b e c f p q r on level.ca level.bc) in
    by_lt_z (pos 0) s
    (λ over. absurd (off (zero_over a s over first, zero_over b s over second, zero_over c s over third)))
    (λ le. by_lt_z s (pos 0)
    (λ under. absurd (off (zero_under a s under first, zero_under b s under second, zero_under c s under third)))
    (λ ge. both_ways s (pos 0) le ge))
  where
    zero_over : (a s : ℤ) → (pos 0) <ℤ s → a *ℤ s ≡ pos 0 → a ≡ pos 0
    zero_over a s over on = both_ways a (pos 0) (cert.zero_by_over a s over on) (cert.zero_by_over_least a s over on)

    zero_under : (a s : ℤ) → s <ℤ pos 0 → a *ℤ s ≡ pos 0 → a ≡ pos 0
    zero_under a s under on = both_ways a (pos 0) (cert.zero_by_under a s under on) (cert.zero_by_under_least a s under on)

-- seen along x, where some corner hasn't the column's x
pub aslant_greatest : (tri : Tri) (x y : ℤ) (a b c : LineCorner) (o : Option ℤ) → ¬ IsUpright tri x
    → turn_of tri.b tri.c x y ≡ pos 0 → turn_of tri.c tri.a x y ≡ pos 0 → turn_of tri.a tri.b x y ≡ pos 0
    → AreAlong a b c tri (tri.a.x -ℤ x) (tri.b.x -ℤ x) (tri.c.x -ℤ x) → IsGreatest (LineOver a b c) o → IsGreatest (StandsOver tri x y) o
aslant_greatest tri x y a b c o slanted bc ca ab along g = greatest_same (LineOver a b c) (StandsOver tri x y) o g stands lies
  where
    same : (p x : ℤ) → p -ℤ x ≡ pos 0 → p ≡ x
    same p x e = omega (arith, ints)

    off : ((tri.a.x -ℤ x) ≡ pos 0) × ((tri.b.x -ℤ x) ≡ pos 0) × ((tri.c.x -ℤ x) ≡ pos 0) → ⊥
    off e = slanted (same tri.a.x x e.0, same tri.b.x x e.1, same tri.c.x x e.2)

    stands : (h : ℤ) → LineOver a b c h → StandsOver tri x y h
    stands h l =
        let on = on_line a b c tri (tri.a.x -ℤ x) (tri.b.x -ℤ x) (tri.c.x -ℤ x) h along l in
        record {
          u = l.u;
          v = l.v;
          w = l.w;
          some = l.some;
          on_x = from_offsets tri.a.x tri.b.x tri.c.x x l.u l.v l.w on;
          on_y = from_offsets tri.a.y tri.b.y tri.c.y y l.u l.v l.w
              (other_axis (tri.a.x -ℤ x) (tri.a.y -ℤ y) (tri.b.x -ℤ x) (tri.b.y -ℤ y) (tri.c.x -ℤ x) (tri.c.y -ℤ y) l.u l.v l.w (record { bc = bc; ca = ca; ab = ab }) on off);
          reaches = reaches_line a b c tri (tri.a.x -ℤ x) (tri.b.x -ℤ x) (tri.c.x -ℤ x) h along l;
        }

    lies : (h : ℤ) → StandsOver tri x y h → LineOver a b c h
    lies h s = line_of a b c tri (tri.a.x -ℤ x) (tri.b.x -ℤ x) (tri.c.x -ℤ x) s.u s.v s.w h along s.some (to_offsets tri.a.x tri.b.x tri.c.x x s.u s.v s.w s.on_x) s.reaches
