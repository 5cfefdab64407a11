-- A tool comes safely to the place where its moves begin: raised from a tip at which it is free it stays free, and so it is at or over the clear height.
use Rattle.std.specs.Prelude.{◌≡◌, ◌⊎◌, zero, suc, Bool, true, false, cond, int_lt, ℤ, pos, negsuc, ◌+ℤ◌, ◌-ℤ◌, ◌*ℤ◌, ◌<ℤ◌, ◌≤ℤ◌, List, Contains, Option, Some, None, MatchOption, refl}
use Rattle.std.proofs.Common.{sym, subst, ap, inl, inr, ◌∙◌, arith}
use Rattle.std.proofs.lemmas.Int.{ints}
use Rattle.std.proofs.lemmas.List.Elements.{All-contains}
use Rattle.mill_base.proofs.Extremes.{greater_least}
use Rattle.mill_base.proofs.Integers.{mul_assoc-ℤ, mul_pos-ℤ, one-mul-ℤ}
use Rattle.mill_base.specs.Covers.{IsUnder}
use Rattle.mill_base.proofs.Tips.{moment_in_box}
use Rattle.mill_base.specs.Motion.{IsInBox, IsMoment, tip_at}
use Rattle.mill_base.specs.Numbers.{greater, lesser}
use Rattle.mill_base.specs.Points.{IsPointOf, highest, minus, point_at, times}
use Rattle.mill_base.specs.Sizes.{radius_of}
use Rattle.mill_base.specs.Solids.{IsSolid, Solid, SolidGouges, SolidHolds, higher, solid_tip}
use Rattle.mill_base.specs.declared.motion.Move.{Move}
use Rattle.mill_base.specs.declared.points.Pt3.{Pt3}
use Rattle.mill_base.specs.declared.points.Tri.{Tri}
use Rattle.mill_job.specs.Fixtures.{IsUnder as StandsUnder}
use Rattle.mill_job.specs.Jobs.{IsJob}
use Rattle.mill_job.specs.Solids.{holder_solid_of, outer_of}
use Rattle.mill_job.specs.declared.fields.JobFields.{JobFields}
use Rattle.mill_job.specs.declared.fixtures.Fixture.{Fixture}
use Rattle.mill_job.specs.declared.habits.Rapids.{Rapids}
use Rattle.mill_job.specs.declared.habits.Rapids.TheVariants.{Straight, Axes}
use Rattle.mill_job.proofs.Room.{over_fixtures, over_stock}
use Rattle.mill_job.proofs.SolidFacts.{holder_lift, holder_solid_ok, outer_ok}
use Rattle.mill_margin.proofs.Offsets.{offset_bounds}
use Rattle.mill_margin.specs.Margins.{offset_of}
use Rattle.mill_shape.proofs.Holding.{holds_over_tip}
use Rattle.mill_shape.proofs.Over.{inside_raised}
use Rattle.mill_sweep.proofs.Halves.{under_highest}
use Rattle.mill_sweep.proofs.Passing.{radius_least}
use Rattle.mill_verify.specs.Claims.{HitsFixture, IsPointOfFixture}
use Rattle.mill_verify.specs.Starts.{IsFree, MayBeAt, MayBegin, StartIsSafe, across, upright}
use Rattle.mill_verify.proofs.Mounted.{of_some}
use Rattle.mill_verify.proofs.StartCerts.{lifted_lower, lower_denominator, lower_height, lower_offset, over_clear, rises_from, scaled_least, scaled_most, scaled_place, scaled_weights, stays_at, stays_clear}

-- ---- a tip that is no lower

-- over a denominator d times as great, the tip q stands straight over p, or is p
record IsOver (d n : ℤ) (p q : Pt3) : Type 0 where
  d_some : (pos 0) <ℤ d
  n_some : (pos 0) <ℤ n
  x_same : q.x ≡ d *ℤ p.x
  y_same : q.y ≡ d *ℤ p.y
  z_least : (d *ℤ p.z) ≤ℤ q.z

-- so does a solid's tip over the solid's
tip_over : (d n z w lift : ℤ) → (d *ℤ z) ≤ℤ w → (d *ℤ higher n z lift) ≤ℤ higher (d *ℤ n) w lift
tip_over d n z w (pos zero) h = h
tip_over d n z w (pos (suc l)) h = lifted_lower d n z w (pos (suc l)) h
tip_over d n z w (negsuc l) h = lifted_lower d n z w (negsuc l) h

offset_is : (n d m r p q : ℤ) → q ≡ d *ℤ p → n *ℤ (d *ℤ r) -ℤ (d *ℤ m) *ℤ p ≡ pos 1 *ℤ ((d *ℤ n) *ℤ r -ℤ m *ℤ q)
offset_is n d m r p q same = lower_offset n d m r p ∙ ap (λ (v : ℤ). pos 1 *ℤ ((d *ℤ n) *ℤ r -ℤ m *ℤ v)) (sym same)

-- what a solid holds with its tool's tip there, it holds with it at p
held_lower : (solid : Solid) (d n m : ℤ) (p q r : Pt3) → IsOver d n p q → (pos 0) <ℤ m → SolidHolds solid (d *ℤ n) q m r → SolidHolds solid n p (d *ℤ m) (times d r)
held_lower solid d n m p q r over hm held =
    let low = solid_tip solid n p in
    let high = solid_tip solid (d *ℤ n) q in
    rw (offset_is n d m r.x p.x q.x over.x_same, offset_is n d m r.y p.y q.y over.y_same, lower_denominator n d m)
    (inside_raised solid.cutter ((d *ℤ n) *ℤ m) (pos 1) (n *ℤ (d *ℤ r.z) -ℤ (d *ℤ m) *ℤ low.z) (minus (times (d *ℤ n) r) (times m high)) (omega (arith, ints))
    (lower_height n d m r.z low.z high.z hm (tip_over d n p.z q.z solid.lift over.z_least)) held)

-- a point of a triangle is one over that denominator too, and so is one of a fixture
place_is : (x y z a b c : ℤ) → x ≡ a → y ≡ b → z ≡ c → point_at x y z ≡ point_at a b c
place_is x y z a b c e f g = rw (e, f, g) refl

nonneg : (d u : ℤ) → (pos 0) <ℤ d → (pos 0) ≤ℤ u → (pos 0) ≤ℤ (d *ℤ u)
nonneg (pos d) (pos u) h k = omega (arith, ints)
nonneg (pos d) (negsuc u) h k = absurd (omega (arith, ints))
nonneg (negsuc d) u h k = absurd (omega (arith, ints))

scaled_point : (tri : Tri) (d m : ℤ) (r : Pt3) → (pos 0) <ℤ d → IsPointOf tri m r → IsPointOf tri (d *ℤ m) (times d r)
scaled_point tri d m r hd point = record {
  u = d *ℤ point.u;
  v = d *ℤ point.v;
  w = d *ℤ point.w;
  u_ok = nonneg d point.u hd point.u_ok;
  v_ok = nonneg d point.v hd point.v_ok;
  w_ok = nonneg d point.w hd point.w_ok;
  some = mul_pos-ℤ d m hd point.some;
  weights = ap (λ (n : ℤ). d *ℤ n) point.weights ∙ scaled_weights d point.u point.v point.w;
  place = ap (times d) point.place ∙ place_is _ _ _ _ _ _
      (scaled_place d point.u point.v point.w tri.a.x tri.b.x tri.c.x) (scaled_place d point.u point.v point.w tri.a.y tri.b.y tri.c.y) (scaled_place d point.u point.v point.w tri.a.z tri.b.z tri.c.z);
}

scaled_fixture : (f : Fixture) (d m : ℤ) (r : Pt3) → (pos 0) <ℤ d → IsPointOfFixture f m r → IsPointOfFixture f (d *ℤ m) (times d r)
scaled_fixture f d m r hd point = record {
  some = mul_pos-ℤ d m hd point.some;
  west = scaled_least d m f.area.x0 r.x hd point.west;
  east = scaled_most d m f.area.x1 r.x hd point.east;
  south = scaled_least d m f.area.y0 r.y hd point.south;
  north = scaled_most d m f.area.y1 r.y hd point.north;
  under = scaled_most d m f.height r.z hd point.under;
}

gouges_lower : (solid : Solid) (part : List Tri) (d n : ℤ) (p q : Pt3) → IsOver d n p q → SolidGouges solid (d *ℤ n) q part → SolidGouges solid n p part
gouges_lower solid part d n p q over g = record {
  tri = g.tri;
  member = g.member;
  touches = record {
    n = d *ℤ g.touches.n;
    p = times d g.touches.p;
    point = scaled_point g.tri d g.touches.n g.touches.p over.d_some g.touches.point;
    inside = held_lower solid d n g.touches.n p q g.touches.p over g.touches.point.some g.touches.inside;
  };
}

hits_lower : (solid : Solid) (fixtures : List Fixture) (d n : ℤ) (p q : Pt3) → IsOver d n p q → HitsFixture solid (d *ℤ n) q fixtures → HitsFixture solid n p fixtures
hits_lower solid fixtures d n p q over hit = record {
  fixture = hit.fixture;
  member = hit.member;
  n = d *ℤ hit.n;
  p = times d hit.p;
  point = scaled_fixture hit.fixture d hit.n hit.p over.d_some hit.point;
  inside = held_lower solid d n hit.n p q hit.p over hit.point.some hit.inside;
}

-- of a tool's two solids
either : {A B : Type 0} (C D : Solid → Type 0) (holder : Option Solid) → (A → B) → ((s : Solid) → C s → D s) → A ⊎ MatchOption holder ⊥ C → B ⊎ MatchOption holder ⊥ D
either C D holder cutter held (inl a) = inl (cutter a)
either C D None cutter held (inr none) = absurd none
either C D (Some h) cutter held (inr c) = inr (held h c)

free_over : (job : JobFields) (part : List Tri) (d n : ℤ) (p q : Pt3) → IsOver d n p q → IsFree job part n p → IsFree job part (d *ℤ n) q
free_over job part d n p q over free = record {
  part_free = λ gouges. free.part_free (either (λ s. SolidGouges s (d *ℤ n) q part) (λ s. SolidGouges s n p part) (holder_solid_of job)
      (gouges_lower (outer_of job) part d n p q over) (λ s. gouges_lower s part d n p q over) gouges);
  fixtures_free = λ hits. free.fixtures_free (either (λ s. HitsFixture s (d *ℤ n) q job.keep_out) (λ s. HitsFixture s n p job.keep_out) (holder_solid_of job)
      (hits_lower (outer_of job) job.keep_out d n p q over) (λ s. hits_lower s job.keep_out d n p q over) hits);
}

-- ---- at or over the clear height

-- with its tip so high a solid holds nothing that comes only as high as its lift leaves
holds_none : (solid : Solid) (m n clear top : ℤ) (t p : Pt3) → (pos 1) ≤ℤ radius_of solid.cutter → (pos 0) <ℤ m → (pos 0) <ℤ n → (m *ℤ clear) ≤ℤ t.z → top ≤ℤ (clear +ℤ solid.lift)
    → p.z ≤ℤ (n *ℤ top) → ¬ SolidHolds solid m t n p
holds_none solid m n clear top t p wide hm hn high low under held =
    over_clear m n clear solid.lift top t.z p.z hm hn high low under
    (lifted_tip m n t.z (m *ℤ p.z) solid.lift (holds_over_tip solid.cutter m (solid_tip solid m t) n p wide hm hn held))
  where
    by_none : (a b : ℤ) → a ≡ a +ℤ b *ℤ pos 0
    by_none a b = omega (arith, ints)

    lifted_tip : (m n z w lift : ℤ) → (n *ℤ higher m z lift) <ℤ w → (n *ℤ (z +ℤ m *ℤ lift)) <ℤ w
    lifted_tip m n z w (pos zero) h = subst (λ (v : ℤ). (n *ℤ v) <ℤ w) (by_none z m) h
    lifted_tip m n z w (pos (suc l)) h = h
    lifted_tip m n z w (negsuc l) h = h

-- ---- the way

-- a height by a denominator
one_times : (n a : ℤ) → (n *ℤ pos 1) *ℤ a ≡ n *ℤ a
one_times n a = mul_assoc-ℤ n (pos 1) a ∙ ap (λ (v : ℤ). n *ℤ v) (one-mul-ℤ a)

scaled_height : (n a b : ℤ) → (pos 0) <ℤ n → a ≤ℤ b → (n *ℤ a) ≤ℤ (n *ℤ b)
scaled_height n a b some h = subst (λ (v : ℤ). v ≤ℤ (n *ℤ b)) (one_times n a) (scaled_least n (pos 1) a b some (subst (λ (v : ℤ). v ≤ℤ b) (sym (one-mul-ℤ a)) h))

lesser_same : (a : ℤ) → lesser a a ≡ a
lesser_same a = by (int_lt a a)
  where
    by : (t : Bool) → cond t a a ≡ a
    by true = refl
    by false = refl

-- the machine may have the tip nowhere but in the box of a move's two ends
in_box : (rapids : Rapids) (m : Move) (d : ℤ) (t : Pt3) → MayBeAt rapids m d t → IsInBox m d t
in_box Straight m d t way = subst (λ (v : Pt3). IsInBox m d v) (sym way.place) (moment_in_box m way.k d way.moment)
in_box Axes m d t box = box

at_least : (a b c : ℤ) → a ≤ℤ b → b ≤ℤ c → a ≤ℤ c
at_least a b c h g = omega (arith, ints)

left_over : (top low clear : ℤ) → (top +ℤ low) ≤ℤ clear → top ≤ℤ (clear +ℤ (pos 0 -ℤ low))
left_over top low clear h = omega (arith, ints)

over_by : (top clear lift : ℤ) → top ≤ℤ clear → (pos 0) <ℤ lift → top ≤ℤ (clear +ℤ lift)
over_by top clear lift h g = omega (arith, ints)

without : (height low clear : ℤ) → (pos 0) ≤ℤ low → (height +ℤ low) ≤ℤ clear → height ≤ℤ clear
without height low clear h g = omega (arith, ints)

all_low : (a b c top : ℤ) → a ≤ℤ top → b ≤ℤ top → c ≤ℤ top → greater a (greater b c) ≤ℤ top
all_low a b c top h k g = greater_least a (greater b c) top h (greater_least b c top k g)

module _ (job : JobFields) (part : List Tri) (ok : IsJob job) (under : IsUnder part job.top) where
  -- how far the cutter reaches under the tool's tip
  abbrev low : ℤ
  low = offset_of job.cutter job.slack

  low_least : (pos 0) ≤ℤ low
  low_least =
      let slack = ok.slack_ok in
      at_least (pos 0) job.slack low slack.low (offset_bounds job.cutter job.slack ok.cutter_ok (record { least = slack.low; most = omega (arith, ints) })).0

  fixture_low : (f : Fixture) → Contains job.keep_out f → (f.height +ℤ low) ≤ℤ job.clear
  fixture_low f member = (All-contains (StandsUnder job.clear low) job.keep_out f (over_fixtures job job.cutter ok.room) member).under

  -- at the clear height a solid is over the part and over the fixtures
  record IsOverAll (solid : Solid) : Type 0 where
    wide : (pos 1) ≤ℤ radius_of solid.cutter
    part_low : job.top ≤ℤ (job.clear +ℤ solid.lift)
    fixtures_low : (f : Fixture) → Contains job.keep_out f → f.height ≤ℤ (job.clear +ℤ solid.lift)

  cutter_over : IsOverAll (outer_of job)
  cutter_over = record {
    wide = radius_least (outer_of job).cutter (outer_ok job ok).cutter_ok;
    part_low = left_over job.top low job.clear (over_stock job job.cutter ok.room);
    fixtures_low = λ f member. left_over f.height low job.clear (fixture_low f member);
  }

  holder_over : (holder : Solid) → holder_solid_of job ≡ Some holder → IsOverAll holder
  holder_over holder mounted =
      let lifted = of_some (λ (h : Solid). (pos 0) <ℤ h.lift) (holder_solid_of job) holder mounted (holder_lift job ok) in
      record {
        wide = radius_least holder.cutter (of_some IsSolid (holder_solid_of job) holder mounted (holder_solid_ok job ok)).cutter_ok;
        part_low = over_by job.top job.clear holder.lift ok.over_stock lifted;
        fixtures_low = λ f member. over_by f.height job.clear holder.lift (without f.height low job.clear low_least (fixture_low f member)) lifted;
      }

  tri_low : (tri : Tri) (n : ℤ) (p : Pt3) → Contains part tri → IsPointOf tri n p → p.z ≤ℤ (n *ℤ job.top)
  tri_low tri n p member point =
      let corners = under tri member in
      at_least p.z (n *ℤ highest tri) (n *ℤ job.top) (under_highest tri n p point) (scaled_height n (highest tri) job.top point.some (all_low tri.a.z tri.b.z tri.c.z job.top corners.0 corners.1 corners.2))

  -- with the tool's tip t over m so high
  module _ (m : ℤ) (t : Pt3) (some : (pos 0) <ℤ m) (high : (m *ℤ job.clear) ≤ℤ t.z) where
    gouges_none : (solid : Solid) → IsOverAll solid → ¬ SolidGouges solid m t part
    gouges_none solid over g =
        holds_none solid m g.touches.n job.clear job.top t g.touches.p over.wide some g.touches.point.some high over.part_low
        (tri_low g.tri g.touches.n g.touches.p g.member g.touches.point) g.touches.inside

    hits_none : (solid : Solid) → IsOverAll solid → ¬ HitsFixture solid m t job.keep_out
    hits_none solid over hit =
        holds_none solid m hit.n job.clear hit.fixture.height t hit.p over.wide some hit.point.some high (over.fixtures_low hit.fixture hit.member) hit.point.under hit.inside

    neither : {A : Type 0} (C : Solid → Type 0) (holder : Option Solid) → (A → ⊥) → ((s : Solid) → holder ≡ Some s → C s → ⊥) → A ⊎ MatchOption holder ⊥ C → ⊥
    neither C holder cutter held (inl a) = cutter a
    neither C None cutter held (inr none) = none
    neither C (Some h) cutter held (inr c) = held h refl c

    free_high : IsFree job part m t
    free_high = record {
      part_free = neither (λ s. SolidGouges s m t part) (holder_solid_of job) (gouges_none (outer_of job) cutter_over) (λ s mounted. gouges_none s (holder_over s mounted));
      fixtures_free = neither (λ s. HitsFixture s m t job.keep_out) (holder_solid_of job) (hits_none (outer_of job) cutter_over) (λ s mounted. hits_none s (holder_over s mounted));
    }

  module _ (at : Pt3) (over : job.clear ≤ℤ at.z) (n : ℤ) (p : Pt3) (some : (pos 0) <ℤ n) (free : IsFree job part n p) where
    -- at a moment k/d of the way up or down
    upright_at : (k d : ℤ) → IsMoment k d → MayBegin job at n p → IsFree job part (d *ℤ n) (tip_at (upright at n p) k d)
    upright_at k d moment (inl high) =
        free_high (d *ℤ n) (tip_at (upright at n p) k d) (mul_pos-ℤ d n moment.some some) (stays_clear d k n job.clear p.z at.z moment.after moment.before some high over)
    upright_at k d moment (inr raised) = free_over job part d n p (tip_at (upright at n p) k d) (record {
      d_some = moment.some;
      n_some = some;
      x_same = stays_at d k p.x;
      y_same = stays_at d k p.y;
      z_least = rises_from d k n p.z at.z moment.after raised;
    }) free

    -- across, anywhere in the box, which is as flat as both ends are high
    across_at : (d : ℤ) (t : Pt3) → IsInBox (across at n p) d t → IsFree job part (d *ℤ n) t
    across_at d t box = free_high (d *ℤ n) t (mul_pos-ℤ d n box.some some)
        (at_least ((d *ℤ n) *ℤ job.clear) (d *ℤ lesser (n *ℤ at.z) (n *ℤ at.z)) t.z
        (rw (mul_assoc-ℤ d n job.clear) (scaled_height d (n *ℤ job.clear) (lesser (n *ℤ at.z) (n *ℤ at.z)) box.some
        (subst (λ (v : ℤ). (n *ℤ job.clear) ≤ℤ v) (sym (lesser_same (n *ℤ at.z))) (scaled_height n job.clear at.z some over))))
        box.z.least)

pub start_is_safe : StartIsSafe
start_is_safe job part at ok under over n p some free may = record {
  upright_free = λ k d moment. upright_at job part ok under at over n p some free k d moment may;
  across_free = λ d t there. across_at job part ok under at over n p some free d t (in_box job.rapids (across at n p) d t there);
}
