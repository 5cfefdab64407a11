-- A tool's two solids along a fiber: where one of them gouges, and the touches of both.
use Rattle.std.proofs.Common.{◌≡◌, ◌↔◌, ◌⊎◌, inl, inr, refl, ℕ, ◌+◌, ◌*◌, ◌≤◌, List, [], ◌++◌, length, sym, subst, true, false, arith}
use Rattle.std.specs.Prelude.{Option, None, Some, MatchOption, IfSome, IsNone}
use Rattle.std.specs.Option.{option_map_or, unwrap_or}
use Rattle.std.proofs.lemmas.Int.{ints}
use Rattle.std.proofs.lemmas.List.Elements.{Contains-append_left, Contains-append_right, Contains-append_cases}
use lib.IntN.{ℤ, pos}
use lib.Signed.{◌<ℤ◌, ◌≤ℤ◌, le_z}
use Rattle.mill_base.specs.Contact.{Gouges}
use Rattle.mill_base.specs.Covers.{IsUnder}
use Rattle.mill_base.specs.Numbers.{Within}
use Rattle.mill_base.specs.Points.{highest}
use Rattle.mill_base.specs.Ranges.{TrisInRange}
use Rattle.mill_base.specs.Sizes.{IsCutter}
use Rattle.mill_base.specs.Solids.{Solid, higher, raised}
use Rattle.mill_base.specs.declared.limits.TheConstants.{MAX_COORDINATE}
use Rattle.mill_base.specs.declared.cutter.Cutter.{Cutter}
use Rattle.mill_base.specs.declared.points.Pt3.{Pt3}
use Rattle.mill_base.specs.declared.points.Tri.{Tri}
use Rattle.mill_base.specs.declared.tool.Tool.{Tool}
use Rattle.mill_cells.proofs.Lists.{nothing_in_nil, distinct-nil}
use Rattle.mill_geom.specs.declared.touch.Axis.{Axis}
use Rattle.mill_geom.specs.declared.touch.Axis.TheVariants.{X, Y}
use Rattle.mill_part.specs.Tops.{HasCornerAt, IsTop}
use Rattle.mill_push.specs.declared.fiber.Fiber.{Fiber}
use Rattle.mill_push.specs.declared.fiber.Run.{Run}
use Rattle.mill_push.specs.Fibers.{IsBlocked, place_on}
use Rattle.mill_push.specs.Runs.{StandsIn}
use Rattle.mill_push.specs.Touches.{SolidTouchesFew, ToolTouchesFew, TouchesFew, lifted, most_touches}
use Rattle.mill_push.specs.inner.Solids.{IsCutterBlocked, IsSolidBlocked}
use Rattle.mill_push.specs.inner.Unions.{AreStretches}
use Rattle.mill_push.proofs.Collecting.{few_touches}
use Rattle.mill_push.proofs.Meeting.{touched_over}
use Rattle.mill_push.proofs.Reaching.{top_or}

-- a counter that stays as it is
pub touches_none : (cutter : Cutter) (part : List Tri) (fiber : Fiber) (from to : ℤ) (old : ℕ) → TouchesFew cutter part fiber from to old old
touches_none cutter part fiber from to old = record { numbers = []; once = distinct-nil; tried = λ i c. absurd (nothing_in_nil i c); bound = λ n u. omega arith }

-- ---- where the tool gouges

-- the tip of a solid, with the tool's on a fiber, is on the lifted one
tip_up : (axis : Axis) (across z v s : ℤ) → raised s (pos 1) (place_on axis across z v) ≡ place_on axis across (higher (pos 1) z s) v
tip_up X across z v s = refl
tip_up Y across z v s = refl

-- so the stretches of its cutter there are those of the solid
pub stretches_lifted : (solid : Solid) (part : List Tri) (fiber : Fiber) (from to : ℤ) (xs : List Run) → AreStretches (IsCutterBlocked solid.cutter part (lifted solid fiber)) from to xs
    → AreStretches (IsSolidBlocked solid part fiber) from to xs
stretches_lifted solid part fiber from to xs s = record {
  spans = s.spans;
  blocked = λ v a b.
      let tip = tip_up fiber.axis fiber.at fiber.z v solid.lift in
      (λ g. (s.blocked v a b).0 (subst (λ (t : Pt3). Gouges solid.cutter (pos 1) t part) tip g), λ c. subst (λ (t : Pt3). Gouges solid.cutter (pos 1) t part) (sym tip) ((s.blocked v a b).1 c));
}

module _ (tool : Tool) (part : List Tri) (fiber : Fiber) where
  -- without a holder, where the cutter does
  blocked_bare : tool.holder ≡ None → (v : ℤ) → IsSolidBlocked tool.cutter part fiber v ↔ IsBlocked tool part fiber v
  blocked_bare e v = (λ c. inl c, λ b. elim b [ inl c ↦ c | inr h ↦ absurd (subst (λ (o : Option Solid). MatchOption o ⊥ (λ h. IsSolidBlocked h part fiber v)) e h) ])

  -- with one, where the cutter or the holder does
  blocked_held : (holder : Solid) → tool.holder ≡ Some holder → (v : ℤ) → (IsSolidBlocked tool.cutter part fiber v ⊎ IsSolidBlocked holder part fiber v) ↔ IsBlocked tool part fiber v
  blocked_held holder e v = (
    λ b. elim b [ inl c ↦ inl c | inr h ↦ inr (subst (λ (o : Option Solid). MatchOption o ⊥ (λ h. IsSolidBlocked h part fiber v)) (sym e) h) ],
    λ b. elim b [ inl c ↦ inl c | inr h ↦ inr (subst (λ (o : Option Solid). MatchOption o ⊥ (λ h. IsSolidBlocked h part fiber v)) e h) ],
  )

  -- ---- the stretches of both

  pub stretches_bare : (from to : ℤ) (xs : List Run) → tool.holder ≡ None → AreStretches (IsSolidBlocked tool.cutter part fiber) from to xs → AreStretches (IsBlocked tool part fiber) from to xs
  stretches_bare from to xs e s = record {
    spans = s.spans;
    blocked = λ v a b. (λ g. (s.blocked v a b).0 ((blocked_bare e v).1 g), λ c. (blocked_bare e v).0 ((s.blocked v a b).1 c));
  }

  pub stretches_held : (from to : ℤ) (xs ys : List Run) (holder : Solid) → tool.holder ≡ Some holder → AreStretches (IsSolidBlocked tool.cutter part fiber) from to xs
      → AreStretches (IsSolidBlocked holder part fiber) from to ys → AreStretches (IsBlocked tool part fiber) from to (xs ++ ys)
  stretches_held from to xs ys holder e s t = record {
    spans = λ r c. elim (Contains-append_cases xs ys r c) [ inl x ↦ s.spans r x | inr y ↦ t.spans r y ];
    blocked = λ v a b. (λ g. joined v a b ((blocked_held holder e v).1 g), λ c. (blocked_held holder e v).0 (parted v a b c));
  }
    where
      joined : (v : ℤ) → from ≤ℤ v → v ≤ℤ to → IsSolidBlocked tool.cutter part fiber v ⊎ IsSolidBlocked holder part fiber v → StandsIn (xs ++ ys) v
      joined v a b (inl c) = let x = (s.blocked v a b).0 c in record { run = x.run; member = Contains-append_left xs ys x.run x.member; first = x.first; last = x.last }
      joined v a b (inr h) = let y = (t.blocked v a b).0 h in record { run = y.run; member = Contains-append_right xs ys y.run y.member; first = y.first; last = y.last }

      parted : (v : ℤ) → from ≤ℤ v → v ≤ℤ to → StandsIn (xs ++ ys) v → IsSolidBlocked tool.cutter part fiber v ⊎ IsSolidBlocked holder part fiber v
      parted v a b c = elim (Contains-append_cases xs ys c.run c.member) [
        | inl x ↦ inl ((s.blocked v a b).1 (record { run = c.run; member = x; first = c.first; last = c.last }))
        | inr y ↦ inr ((t.blocked v a b).1 (record { run = c.run; member = y; first = c.first; last = c.last }))
      ]

  -- ---- the touches of both

  pub touches_held : (from to : ℤ) (old middle new : ℕ) (holder : Solid) → tool.holder ≡ Some holder → SolidTouchesFew tool.cutter part fiber from to old middle
      → SolidTouchesFew holder part fiber from to middle new → ToolTouchesFew tool part fiber from to old new
  touches_held from to old middle new holder e t u = record {
    middle = middle;
    cutter = t;
    holder = subst (λ (o : Option Solid). MatchOption o (new ≡ middle) (λ h. SolidTouchesFew h part fiber from to middle new)) (sym e) u;
  }

  -- none of the holder
  pub touches_first : (from to : ℤ) (old new : ℕ) → SolidTouchesFew tool.cutter part fiber from to old new → ToolTouchesFew tool part fiber from to old new
  touches_first from to old new t = record { middle = new; cutter = t; holder = none tool.holder }
    where
      none : (o : Option Solid) → MatchOption o (new ≡ new) (λ h. SolidTouchesFew h part fiber from to new new)
      none None = refl
      none (Some h) = touches_none h.cutter part (lifted h fiber) from to new

  pub few_of_both : (from to : ℤ) (old new : ℕ) → Within MAX_COORDINATE from → Within MAX_COORDINATE to → ToolTouchesFew tool part fiber from to old new
      → new ≤ old + most_touches tool * length part
  few_of_both from to old new h k t = by tool.holder t.holder
    where
      first : t.middle ≤ old + 40 * length part
      first = few_touches tool.cutter.cutter part (lifted tool.cutter fiber) from to old t.middle h k t.cutter

      sum : (n m : ℕ) → n ≤ t.middle + 40 * m → t.middle ≤ old + 40 * m → n ≤ old + 80 * m
      sum n m a b = omega arith

      by : (o : Option Solid) → MatchOption o (new ≡ t.middle) (λ h. SolidTouchesFew h part fiber from to t.middle new) → new ≤ old + option_map_or (λ _. 80) o 40 * length part
      by None e = subst (λ n. n ≤ old + 40 * length part) (sym e) first
      by (Some holder) u = sum new (length part) (few_touches holder.cutter part (lifted holder fiber) from to t.middle new h k u) first

-- ---- a solid that is over the whole part

-- nothing stands over a height that no corner is over
not_over_it : (tri : Tri) (z : ℤ) → (tri.a.z ≤ℤ z) × (tri.b.z ≤ℤ z) × (tri.c.z ≤ℤ z) → z <ℤ highest tri → ⊥
not_over_it tri z h k = let a = h.0 in let b = h.1 in let c = h.2 in grind (arith, ints)

pub stretches_over : (cutter : Cutter) (part : List Tri) (fiber : Fiber) (from to : ℤ) → IsCutter cutter → IsUnder part fiber.z → AreStretches (IsCutterBlocked cutter part fiber) from to []
stretches_over cutter part fiber from to ok under = record {
  spans = λ r c. absurd (omega (arith, c.1));
  blocked = λ v a b. (
    λ g. absurd (not_over_it g.tri fiber.z (under g.tri g.member) (touched_over cutter g.tri fiber v ok g.touches)),
    λ c. absurd (omega (arith, c.member.1)),
  );
}

-- where the part's top isn't over a height, no corner is
pub under_top : (part : List Tri) (top : Option ℤ) (z t : ℤ) → (IsNone top → length part ≡ 0) → IfSome top (IsTop part) → t ≡ unwrap_or top z → le_z t z ≡ true → IsUnder part z
under_top part top z t none some e h tri m = weaker (subst (IsUnder part) (sym e) (top_or part top z none some) tri m)
  where
    less : {a : ℤ} → a ≤ℤ t → a ≤ℤ z
    less k = omega (k, h, arith, ints)

    weaker : (tri.a.z ≤ℤ t) × (tri.b.z ≤ℤ t) × (tri.c.z ≤ℤ t) → (tri.a.z ≤ℤ z) × (tri.b.z ≤ℤ z) × (tri.c.z ≤ℤ z)
    weaker k = (less k.0, less k.1, less k.2)

-- and where it is, the height is under the greatest coordinate
pub under_most : (part : List Tri) (top : Option ℤ) (z t : ℤ) → TrisInRange part → IfSome top (IsTop part) → t ≡ unwrap_or top z → le_z t z ≡ false → z <ℤ pos MAX_COORDINATE
under_most part None z t ok h e less = absurd (omega (e, less, arith, ints))
under_most part (Some top) z t ok h e less = by h.corner
  where
    most : (w : ℤ) → Within MAX_COORDINATE w → w ≡ top → z <ℤ pos MAX_COORDINATE
    most w k is = let a = k.within in omega (e, less, is, arith, ints)

    by : HasCornerAt h.tri top → z <ℤ pos MAX_COORDINATE
    by (inl is) = most h.tri.a.z (ok h.tri h.member).a_ok.z_ok is
    by (inr (inl is)) = most h.tri.b.z (ok h.tri h.member).b_ok.z_ok is
    by (inr (inr is)) = most h.tri.c.z (ok h.tri h.member).c_ok.z_ok is
