-- What passes for a solid passes for each that lies in it: so a tool that passes the part passes it by what of it is tested against the part, too.
use Rattle.std.specs.Prelude.{◌≡◌, ℕ, zero, suc, ◌+◌, ◌*◌, ℤ, pos, ◌+ℤ◌, ◌-ℤ◌, ◌*ℤ◌, ◌<ℤ◌, ◌≤ℤ◌, List}
use Rattle.std.proofs.Common.{inl, inr, refl, subst, sym, arith}
use Rattle.std.proofs.lemmas.Int.{ints}
use Rattle.mill_base.proofs.SolidLemmas.{higher_once}
use Rattle.mill_base.specs.Contact.{Holds}
use Rattle.mill_base.specs.Points.{minus, times, tri_at}
use Rattle.mill_base.specs.Sizes.{outer, radius_of, with_radius}
use Rattle.mill_base.specs.Solids.{Solid, higher, lifted}
use Rattle.mill_base.specs.declared.cutter.Cutter.{Cutter}
use Rattle.mill_base.specs.declared.cutter.Cutter.TheVariants.{Flat, Ball, Cone}
use Rattle.mill_base.specs.declared.motion.Kind.{Kind}
use Rattle.mill_base.specs.declared.motion.Kind.TheVariants.{Rapid, Feed, Dogleg}
use Rattle.mill_base.specs.declared.motion.Move.{Move}
use Rattle.mill_base.specs.declared.points.Pt3.{Pt3}
use Rattle.mill_base.specs.declared.points.Tri.{Tri}
use Rattle.mill_gouge.proofs.Rising.{passes_rises}
use Rattle.mill_gouge.specs.Gouges.{PassesPart, ToolPassesPart}
use Rattle.mill_job.proofs.SolidFacts.{part_in_outer}
use Rattle.mill_job.specs.Jobs.{IsJob, part_tool_of, tool_of}
use Rattle.mill_job.specs.Solids.{outer_of, part_solid_of}
use Rattle.mill_job.specs.declared.fields.JobFields.{JobFields}
use Rattle.mill_margin.proofs.Nesting.{wider_inside}
use Rattle.mill_margin.specs.Laws.{LiesIn}
use Rattle.mill_sweep.specs.Apart.{LieApart}
use Rattle.mill_sweep.specs.Halving.{Blocks, IsFree, LeafPasses}
use Rattle.mill_sweep.specs.Leaves.{depth_of, outer_tip, reach_of, span_of}
use Rattle.mill_sweep.specs.Passing.{BoxPasses, Passes, PassesBy}
use Rattle.mill_sweep.specs.Solids.{SolidPasses}
use Rattle.mill_sweep.specs.declared.leaf.Span.{Span}

-- the outer cutter of a narrower cutter is that of the wider one with a radius that is as much less, at the same place
outer_narrower : (cutter : Cutter) (r q : ℤ) → outer (with_radius cutter r) q ≡ with_radius (outer cutter q) (r +ℤ q)
outer_narrower (Flat R) r q = refl
outer_narrower (Ball R) r q = refl
outer_narrower (Cone R a b) r q = refl

as_low : (cutter : Cutter) (r : ℤ) (s : Span) → outer_tip (with_radius cutter r) s ≡ outer_tip cutter s
as_low (Flat R) r s = refl
as_low (Ball R) r s = refl
as_low (Cone R a b) r s = refl

radius_is : (cutter : Cutter) (r : ℤ) → radius_of (with_radius cutter r) ≡ r
radius_is (Flat R) r = refl
radius_is (Ball R) r = refl
radius_is (Cone R a b) r = refl

less_both : (r R q : ℤ) → r ≤ℤ R → (r +ℤ q) ≤ℤ (R +ℤ q)
less_both r R q h = omega (h, arith, ints)

outer_wider : (cutter : Cutter) (r q : ℤ) → r ≤ℤ radius_of cutter → (r +ℤ q) ≤ℤ radius_of (outer cutter q)
outer_wider (Flat R) r q narrow = less_both r R q narrow
outer_wider (Ball R) r q narrow = less_both r R q narrow
outer_wider (Cone R a b) r q narrow = less_both r R q narrow

module _ (cutter : Cutter) (r : ℤ) (some : (pos 0) ≤ℤ r) (narrow : r ≤ℤ radius_of cutter) where
  -- what the outer cutter of the narrower one holds, that of the wider one holds
  held_wider : (s : Span) (n : ℤ) (p : Pt3) → (pos 0) ≤ℤ s.reach → (pos 0) <ℤ n → Holds (outer (with_radius cutter r) s.reach) (pos 1) (outer_tip (with_radius cutter r) s) n p
      → Holds (outer cutter s.reach) (pos 1) (outer_tip cutter s) n p
  held_wider s n p least above held =
      let d : Pt3 = minus (times (pos 1) p) (times n (outer_tip cutter s)) in
      wider_inside (outer cutter s.reach) (r +ℤ s.reach) (pos 1 *ℤ n) d.z d (once n above) (both r s.reach some least) (outer_wider cutter r s.reach narrow) (itself d.z)
      (subst (λ (t : Pt3). Holds (with_radius (outer cutter s.reach) (r +ℤ s.reach)) (pos 1) t n p) (as_low cutter r s)
      (subst (λ (c : Cutter). Holds c (pos 1) (outer_tip (with_radius cutter r) s) n p) (outer_narrower cutter r s.reach) held))
    where
      once : (n : ℤ) → (pos 0) <ℤ n → (pos 0) <ℤ (pos 1 *ℤ n)
      once n h = omega (h, arith, ints)

      both : (a b : ℤ) → (pos 0) ≤ℤ a → (pos 0) ≤ℤ b → (pos 0) ≤ℤ (a +ℤ b)
      both a b h k = omega (h, k, arith, ints)

      itself : (z : ℤ) → z ≤ℤ z
      itself z = omega (arith, ints)

  -- so what blocks the narrower cutter blocks the wider one
  blocks_wider : (s : Span) (tri : Tri) → (pos 0) ≤ℤ s.reach → Blocks (with_radius cutter r) s tri → Blocks cutter s tri
  blocks_wider s tri least blocks = let touches = blocks.touches in record {
    over = blocks.over;
    touches = record {
      n = touches.n;
      p = touches.p;
      point = touches.point;
      inside = held_wider s touches.n touches.p least touches.point.some touches.inside;
    };
  }

  -- and the narrower one passes what the wider one passes on the same move
  free_narrower : (m : Move) (tri : Tri) (d k : ℕ) → IsFree cutter m tri d k → IsFree (with_radius cutter r) m tri d k
  free_narrower m tri d k (inl free) = inl (free.0, λ blocks. free.1 (blocks_wider (span_of m d k) tri (none_less (reach_of m d k)) blocks))
    where
      none_less : (n : ℕ) → (pos 0) ≤ℤ pos n
      none_less n = omega (arith, ints)
  free_narrower m tri d k (inr under) = inr under

  leaf_narrower : (m : Move) (tri : Tri) (more d k : ℕ) → LeafPasses cutter m tri more d k → LeafPasses (with_radius cutter r) m tri more d k
  leaf_narrower m tri zero d k free = free_narrower m tri d k free
  leaf_narrower m tri (suc more) d k (inl free) = inl (free_narrower m tri d k free)
  leaf_narrower m tri (suc more) d k (inr both) = inr (leaf_narrower m tri more (d + 1) (2 * k) both.0, leaf_narrower m tri more (d + 1) (2 * k + 1) both.1)

  -- what lies a radius away lies a lesser one away
  apart_narrower : (f t a b c : ℤ) → LieApart (radius_of cutter) f t a b c → LieApart (radius_of (with_radius cutter r)) f t a b c
  apart_narrower f t a b c (inl l) = inl (record { a_e = up f a l.a_e; b_e = up f b l.b_e; c_e = up f c l.c_e; a_f = up t a l.a_f; b_f = up t b l.b_f; c_f = up t c l.c_f })
    where
      up : (e x : ℤ) → (e +ℤ radius_of cutter) ≤ℤ x → (e +ℤ radius_of (with_radius cutter r)) ≤ℤ x
      up e x h = rw (radius_is cutter r) (less (radius_of cutter) e x narrow h)
        where
          less : (R e x : ℤ) → r ≤ℤ R → (e +ℤ R) ≤ℤ x → (e +ℤ r) ≤ℤ x
          less R e x n h = omega (n, h, arith, ints)
  apart_narrower f t a b c (inr l) = inr (record { a_e = down f a l.a_e; b_e = down f b l.b_e; c_e = down f c l.c_e; a_f = down t a l.a_f; b_f = down t b l.b_f; c_f = down t c l.c_f })
    where
      down : (e x : ℤ) → (x +ℤ radius_of cutter) ≤ℤ e → (x +ℤ radius_of (with_radius cutter r)) ≤ℤ e
      down e x h = rw (radius_is cutter r) (less (radius_of cutter) e x narrow h)
        where
          less : (R e x : ℤ) → r ≤ℤ R → (x +ℤ R) ≤ℤ e → (x +ℤ r) ≤ℤ e
          less R e x n h = omega (n, h, arith, ints)

  box_narrower : (m : Move) (tri : Tri) → BoxPasses cutter m tri → BoxPasses (with_radius cutter r) m tri
  box_narrower m tri (inl low) = inl low
  box_narrower m tri (inr (inl x)) = inr (inl (apart_narrower m.from.x m.to.x tri.a.x tri.b.x tri.c.x x))
  box_narrower m tri (inr (inr y)) = inr (inr (apart_narrower m.from.y m.to.y tri.a.y tri.b.y tri.c.y y))

  passes_narrower : (m : Move) (tri : Tri) → Passes cutter m tri → Passes (with_radius cutter r) m tri
  passes_narrower m tri = by m.kind
    where
      by : (kind : Kind) → PassesBy kind cutter m tri → PassesBy kind (with_radius cutter r) m tri
      by Rapid passes = leaf_narrower m tri (depth_of m) 0 0 passes
      by Feed passes = leaf_narrower m tri (depth_of m) 0 0 passes
      by Dogleg passes = box_narrower m tri passes

module _ (inside outside : Solid) (lies : LiesIn inside outside) where
  -- the inner solid's tip is as much higher as its lift is greater
  lift_more : (z : ℤ) → higher (pos 1) z inside.lift ≡ higher (pos 1) z outside.lift +ℤ (inside.lift -ℤ outside.lift)
  lift_more z = rw (higher_once z inside.lift, higher_once z outside.lift) (plain z inside.lift outside.lift)
    where
      plain : (z a b : ℤ) → (z +ℤ a) ≡ ((z +ℤ b) +ℤ (a -ℤ b))
      plain z a b = omega (arith, ints)

  pub solid_nested : (m : Move) (tri : Tri) → SolidPasses outside m tri → SolidPasses inside m tri
  solid_nested m tri passes =
      subst (λ (cutter : Cutter). Passes cutter (lifted inside m) tri) (sym lies.kind)
      (passes_narrower outside.cutter (radius_of inside.cutter) lies.some lies.narrow (lifted inside m) tri
      (passes_rises m (higher (pos 1) m.from.z outside.lift) (higher (pos 1) m.to.z outside.lift) (higher (pos 1) m.from.z inside.lift) (higher (pos 1) m.to.z inside.lift)
      (inside.lift -ℤ outside.lift) (no_less inside.lift outside.lift lies.high) (lift_more m.from.z) (lift_more m.to.z) outside.cutter tri passes))
    where
      no_less : (a b : ℤ) → b ≤ℤ a → (pos 0) ≤ℤ (a -ℤ b)
      no_less a b h = omega (h, arith, ints)

  pub part_nested : (m : Move) (part : List Tri) → PassesPart outside m part → PassesPart inside m part
  part_nested m part passes t there = solid_nested m (tri_at part t) (passes t there)

-- a job's tool passes the part only where what of it is tested against the part does
pub part_tool_passes : (job : JobFields) (m : Move) (part : List Tri) → IsJob job → ToolPassesPart (tool_of job) m part → ToolPassesPart (part_tool_of job) m part
part_tool_passes job m part ok passes = record { cutter = part_nested (part_solid_of job) (outer_of job) (part_in_outer job ok) m part passes.cutter; holder = passes.holder }
