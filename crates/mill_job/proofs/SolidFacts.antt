-- The solids of a job are solids, and what is tested against the stock lies in what is cut for sure.
use Rattle.std.proofs.Common.{refl, arith}
use Rattle.std.proofs.lemmas.Int.{ints}
use Rattle.std.specs.Prelude.{◌≡◌, Bool, true, false, if◌then◌else◌, int_lt, ℤ, pos, ◌+ℤ◌, ◌-ℤ◌, ◌*ℤ◌, ◌<ℤ◌, ◌≤ℤ◌, Option, Some, None, IfSome, unwrap_or}
use Rattle.mill_base.specs.Sizes.{IsCutter, radius_of, with_radius}
use Rattle.mill_base.specs.Solids.{IsLift, IsSolid, Solid, at_tip}
use Rattle.mill_base.specs.declared.cutter.Cutter.{Cutter}
use Rattle.mill_base.specs.declared.cutter.Cutter.TheVariants.{Flat, Ball, Cone}
use Rattle.mill_base.specs.declared.limits.TheConstants.{MAX_COORDINATE, MAX_RADIUS}
use Rattle.mill_margin.specs.Laws.{LiesIn}
use Rattle.mill_margin.specs.Margins.{IsMargin, cone_offset_of, grown, offset_of, shrunk}
use Rattle.mill_margin.proofs.Offsets.{offset_bounds}
use Rattle.mill_job.specs.Jobs.{IsFrom, IsHeldOff, IsJob, IsRoomy}
use Rattle.mill_job.specs.Slack.{graze_by, graze_of}
use Rattle.mill_job.specs.Solids.{deeper_in, held_with, holder_solid_of, inner_of, outer_of, part_solid_of, stock_solid_of}
use Rattle.mill_job.specs.declared.fields.JobFields.{JobFields}
use Rattle.mill_job.specs.declared.limits.TheConstants.{MAX_GRAZE, MAX_OVERCUT, MAX_SLACK, SPARE_GRAZE}
use Rattle.mill_job.proofs.Room.{holder_room_of, room_of}

-- each of the three is a margin
slack_margin : {s : ℤ} → IsFrom (pos 0) MAX_SLACK s → IsMargin s
slack_margin h = record { least = omega (arith, ints, h); most = omega (arith, ints, h) }

overcut_margin : {s : ℤ} → IsFrom (pos 0) MAX_OVERCUT s → IsMargin s
overcut_margin h = record { least = omega (arith, ints, h); most = omega (arith, ints, h) }

graze_by_margin : (s : ℤ) → IsFrom (pos 0) MAX_SLACK s → IsMargin (graze_by s)
graze_by_margin s h = by (int_lt (pos 0) s)
  where
    by : (t : Bool) → IsMargin (if t then (pos 2 *ℤ s) +ℤ SPARE_GRAZE else pos 0)
    by true = record { least = omega (arith, ints, h); most = omega (arith, ints, h) }
    by false = record { least = omega (arith, ints); most = omega (arith, ints) }

graze_margin : (job : JobFields) → IsJob job → IsMargin (graze_of job)
unfolding graze_of
graze_margin job ok = by job.graze ok.graze_ok
  where
    by : (graze : Option ℤ) → IfSome graze (IsFrom (pos 0) MAX_GRAZE) → IsMargin (unwrap_or graze (graze_by job.slack))
    by None h = graze_by_margin job.slack ok.slack_ok
    by (Some g) h = record { least = omega (arith, ints, h); most = omega (arith, ints, h) }

-- a cutter shrunk by less than its radius is one
pub core_is_cutter : (cutter : Cutter) (depth : ℤ) → IsCutter cutter → (pos 0) ≤ℤ depth → depth <ℤ radius_of cutter → IsCutter (shrunk (at_tip cutter) depth).cutter
core_is_cutter (Flat r) depth ok least inside = record { least = omega (arith, ints, inside); within = omega (arith, ints, ok, least) }
core_is_cutter (Ball r) depth ok least inside = record { least = omega (arith, ints, inside); within = omega (arith, ints, ok, least) }
core_is_cutter (Cone r a b) depth ok least inside = (record { least = omega (arith, ints, inside); within = let w = ok.0 in omega (arith, ints, w, least) }, ok.1)

-- its tip is in range, and with a slack around it it is no wider than with that around the cutter
pub core_lift : (cutter : Cutter) (depth : ℤ) → IsCutter cutter → IsMargin depth → ((pos 0) +ℤ offset_of cutter depth) ≤ℤ pos MAX_COORDINATE
core_lift cutter depth ok margin = low (offset_of cutter depth) (offset_bounds cutter depth ok margin).1
  where
    low : (u : ℤ) → u ≤ℤ (pos 17 *ℤ depth) → ((pos 0) +ℤ u) ≤ℤ pos MAX_COORDINATE
    low u most = omega (arith, ints, most, margin)

pub core_around : (cutter : Cutter) (depth slack : ℤ) → (pos 0) ≤ℤ depth → (radius_of cutter +ℤ slack) ≤ℤ MAX_RADIUS → (radius_of (shrunk (at_tip cutter) depth).cutter +ℤ slack) ≤ℤ MAX_RADIUS
core_around (Flat r) depth slack least around = omega (arith, ints, least, around)
core_around (Ball r) depth slack least around = omega (arith, ints, least, around)
core_around (Cone r a b) depth slack least around = omega (arith, ints, least, around)

-- what is deeper than a margin in a cutter, with a slack, is a solid
pub deeper_is_solid : (cutter : Cutter) (depth slack : ℤ) → IsCutter cutter → IsMargin depth → depth <ℤ radius_of cutter → IsFrom (pos 0) MAX_SLACK slack → (radius_of cutter +ℤ slack) ≤ℤ MAX_RADIUS
    → IsSolid (deeper_in cutter depth slack)
deeper_is_solid (Flat r) depth slack ok margin inside from around = record {
  cutter_ok = record { least = omega (arith, ints, inside, from); within = omega (arith, ints, margin, around) };
  lift_ok = record { least = omega (arith, ints, margin, from); within = omega (arith, ints, margin, from) };
}
deeper_is_solid (Ball r) depth slack ok margin inside from around = record {
  cutter_ok = record { least = omega (arith, ints, inside, from); within = omega (arith, ints, margin, around) };
  lift_ok = record { least = omega (arith, ints, margin, from); within = omega (arith, ints, margin, from) };
}
deeper_is_solid (Cone r a b) depth slack ok margin inside from around =
    let up = offset_bounds (Cone r a b) depth ok margin in
    let down = offset_bounds (Cone r a b) slack ok (slack_margin from) in
    record {
      cutter_ok = (record { least = omega (arith, ints, inside, from); within = omega (arith, ints, margin, around) }, ok.1);
      lift_ok = lift (cone_offset_of a b depth) (cone_offset_of a b slack) up.0 up.1 down.0 down.1;
    }
  where
    lift : (u d : ℤ) → depth ≤ℤ u → u ≤ℤ (pos 17 *ℤ depth) → slack ≤ℤ d → d ≤ℤ (pos 17 *ℤ slack) → IsLift (((pos 0) +ℤ u) -ℤ d)
    lift u d ul um dl dm = record { least = omega (arith, ints, ul, um, dl, dm, margin, from); within = omega (arith, ints, ul, um, dl, dm, margin, from) }

-- so is a holder with a slack around it
held_is_solid : (holder : Option Solid) (slack : ℤ) → IfSome holder IsSolid → IfSome holder (λ h. (pos 1) ≤ℤ h.lift) → IfSome holder (IsHeldOff slack) → IsFrom (pos 0) MAX_SLACK slack
    → IfSome (held_with slack holder) IsSolid
held_is_solid None slack solid over off from = tt
held_is_solid (Some holder) slack solid over off from =
    record { cutter_ok = wider holder.cutter solid.cutter_ok off.slack_around; lift_ok = lift (offset_of holder.cutter slack) bounds.0 bounds.1 }
  where
    bounds : (slack ≤ℤ offset_of holder.cutter slack) × (offset_of holder.cutter slack ≤ℤ (pos 17 *ℤ slack))
    bounds = offset_bounds holder.cutter slack solid.cutter_ok (slack_margin from)

    lift : (d : ℤ) → slack ≤ℤ d → d ≤ℤ (pos 17 *ℤ slack) → IsLift (holder.lift -ℤ d)
    lift d least most = let l = solid.lift_ok in record { least = omega (arith, ints, least, most, over, from); within = omega (arith, ints, least, l, from) }

    wider : (cutter : Cutter) → IsCutter cutter → (radius_of cutter +ℤ slack) ≤ℤ MAX_RADIUS → IsCutter (with_radius cutter (radius_of cutter +ℤ slack))
    wider (Flat r) ok around = record { least = omega (arith, ints, ok, from); within = around }
    wider (Ball r) ok around = record { least = omega (arith, ints, ok, from); within = around }
    wider (Cone r a b) ok around = (record { least = let w = ok.0 in omega (arith, ints, w, from); within = around }, ok.1)

-- and it is over the tip
held_over_tip : (holder : Option Solid) (slack : ℤ) → IfSome holder (IsHeldOff slack) → IfSome (held_with slack holder) (λ h. (pos 0) <ℤ h.lift)
held_over_tip None slack off = tt
held_over_tip (Some holder) slack off = over holder.lift (offset_of holder.cutter slack) off.over_tip
  where
    over : (l d : ℤ) → d <ℤ l → (pos 0) <ℤ (l -ℤ d)
    over l d h = omega (arith, ints, h)

-- what is deeper than a margin in a cutter lies in the cutter, both with a slack around them
deeper_lies_in : (cutter : Cutter) (s o : ℤ) → IsCutter cutter → IsMargin o → o <ℤ radius_of cutter → (pos 0) ≤ℤ s → LiesIn (deeper_in cutter o s) (grown (at_tip cutter) s)
deeper_lies_in (Flat r) s o ok margin inside least = record { kind = refl; some = omega (arith, ints, inside, least); narrow = omega (arith, ints, margin); high = omega (arith, ints, margin) }
deeper_lies_in (Ball r) s o ok margin inside least = record { kind = refl; some = omega (arith, ints, inside, least); narrow = omega (arith, ints, margin); high = omega (arith, ints, margin) }
deeper_lies_in (Cone r a b) s o ok margin inside least = record {
  kind = refl;
  some = omega (arith, ints, inside, least);
  narrow = omega (arith, ints, margin);
  high = over (cone_offset_of a b s) (cone_offset_of a b o) margin.least (offset_bounds (Cone r a b) o ok margin).0;
}
  where
    over : (d u : ℤ) → (pos 0) ≤ℤ o → o ≤ℤ u → ((pos 0) -ℤ d) ≤ℤ (((pos 0) +ℤ u) -ℤ d)
    over d u h k = omega (arith, ints, h, k)

-- the cutter with its slack around it, or taken off, is a solid
outer_is_solid : (cutter : Cutter) (slack : ℤ) → IsCutter cutter → IsFrom (pos 0) MAX_SLACK slack → (radius_of cutter +ℤ slack) ≤ℤ MAX_RADIUS → IsSolid (grown (at_tip cutter) slack)
outer_is_solid (Flat r) slack ok from around = record { cutter_ok = record { least = omega (arith, ints, ok, from); within = around }; lift_ok = record { least = omega (arith, ints, from); within = omega (arith, ints, from) } }
outer_is_solid (Ball r) slack ok from around = record { cutter_ok = record { least = omega (arith, ints, ok, from); within = around }; lift_ok = record { least = omega (arith, ints, from); within = omega (arith, ints, from) } }
outer_is_solid (Cone r a b) slack ok from around =
    let bounds = offset_bounds (Cone r a b) slack ok (slack_margin from) in
    record { cutter_ok = (record { least = let w = ok.0 in omega (arith, ints, w, from); within = around }, ok.1); lift_ok = lift (cone_offset_of a b slack) bounds.0 bounds.1 }
  where
    lift : (d : ℤ) → slack ≤ℤ d → d ≤ℤ (pos 17 *ℤ slack) → IsLift ((pos 0) -ℤ d)
    lift d least most = record { least = omega (arith, ints, least, most, from); within = omega (arith, ints, least, from) }

inner_is_solid : (cutter : Cutter) (slack : ℤ) → IsCutter cutter → IsFrom (pos 0) MAX_SLACK slack → slack <ℤ radius_of cutter → IsSolid (shrunk (at_tip cutter) slack)
inner_is_solid cutter slack ok from inside = record { cutter_ok = core_is_cutter cutter slack ok from.low inside; lift_ok = lift (offset_of cutter slack) bounds.0 bounds.1 }
  where
    bounds : (slack ≤ℤ offset_of cutter slack) × (offset_of cutter slack ≤ℤ (pos 17 *ℤ slack))
    bounds = offset_bounds cutter slack ok (slack_margin from)

    lift : (u : ℤ) → slack ≤ℤ u → u ≤ℤ (pos 17 *ℤ slack) → IsLift ((pos 0) +ℤ u)
    lift u least most = record { least = omega (arith, ints, least, from); within = omega (arith, ints, most, from) }

module _ (job : JobFields) (ok : IsJob job) where
  abbrev room : IsRoomy job.slack job.overcut (graze_of job) job.cutter
  room = room_of job job.cutter ok.room

  pub outer_ok : IsSolid (outer_of job)
  outer_ok = outer_is_solid job.cutter job.slack ok.cutter_ok ok.slack_ok room.slack_around

  pub inner_ok : IsSolid (inner_of job)
  inner_ok = inner_is_solid job.cutter job.slack ok.cutter_ok ok.slack_ok room.slack_in

  pub part_solid_ok : IsSolid (part_solid_of job)
  part_solid_ok = deeper_is_solid job.cutter job.overcut job.slack ok.cutter_ok (overcut_margin ok.overcut_ok) room.overcut_in ok.slack_ok room.slack_around

  pub stock_solid_ok : IsSolid (stock_solid_of job)
  stock_solid_ok = deeper_is_solid job.cutter (graze_of job) job.slack ok.cutter_ok (graze_margin job ok) room.graze_in ok.slack_ok room.slack_around

  pub holder_solid_ok : IfSome (holder_solid_of job) IsSolid
  holder_solid_ok = held_is_solid job.holder job.slack ok.holder_ok ok.stickout (holder_room_of job ok.holder_room) ok.slack_ok

  -- the holder is over the tip
  pub holder_lift : IfSome (holder_solid_of job) (λ h. (pos 0) <ℤ h.lift)
  holder_lift = held_over_tip job.holder job.slack (holder_room_of job ok.holder_room)

  -- what lies deeper than the overcut, or than the graze, in the cutter is a cutter
  pub overcut_core_ok : IsCutter (shrunk (at_tip job.cutter) job.overcut).cutter
  overcut_core_ok = core_is_cutter job.cutter job.overcut ok.cutter_ok ok.overcut_ok.low room.overcut_in

  pub graze_core_ok : IsCutter (shrunk (at_tip job.cutter) (graze_of job)).cutter
  graze_core_ok = core_is_cutter job.cutter (graze_of job) ok.cutter_ok (graze_margin job ok).least room.graze_in

  -- the lift of what is cut for sure is small
  pub inner_lift : IsFrom (pos 0) (pos 3400) (inner_of job).lift
  inner_lift = by (offset_of job.cutter job.slack) bounds.0 bounds.1
    where
      bounds : (job.slack ≤ℤ offset_of job.cutter job.slack) × (offset_of job.cutter job.slack ≤ℤ (pos 17 *ℤ job.slack))
      bounds = offset_bounds job.cutter job.slack ok.cutter_ok (slack_margin ok.slack_ok)

      by : (u : ℤ) → job.slack ≤ℤ u → u ≤ℤ (pos 17 *ℤ job.slack) → IsFrom (pos 0) (pos 3400) ((pos 0) +ℤ u)
      by u least most = let s = ok.slack_ok in record { low = omega (arith, ints, least, s); high = omega (arith, ints, most, s) }

  -- and what is tested against the stock isn't under the tool's tip
  pub stock_lift : (pos 0) ≤ℤ (stock_solid_of job).lift
  stock_lift = by job.cutter (graze_of job) job.slack room.graze_high bounds.0 ok.slack_ok.low
    where
      bounds : (job.slack ≤ℤ offset_of job.cutter job.slack) × (offset_of job.cutter job.slack ≤ℤ (pos 17 *ℤ job.slack))
      bounds = offset_bounds job.cutter job.slack ok.cutter_ok (slack_margin ok.slack_ok)

      by : (cutter : Cutter) (g s : ℤ) → (pos 2 *ℤ offset_of cutter s) ≤ℤ offset_of cutter g → s ≤ℤ offset_of cutter s → (pos 0) ≤ℤ s → (pos 0) ≤ℤ (deeper_in cutter g s).lift
      by (Flat r) g s high over least = omega (arith, ints, high, over, least)
      by (Ball r) g s high over least = omega (arith, ints, high, over, least)
      by (Cone r a b) g s high over least = up (cone_offset_of a b g) (cone_offset_of a b s) high over least
        where
          up : (u d : ℤ) → (pos 2 *ℤ d) ≤ℤ u → s ≤ℤ d → (pos 0) ≤ℤ s → (pos 0) ≤ℤ (((pos 0) +ℤ u) -ℤ d)
          up u d h k l = omega (arith, ints, h, k, l)

  -- what is tested against the stock lies in what is cut for sure
  pub stock_in_inner : LiesIn (stock_solid_of job) (inner_of job)
  stock_in_inner = lies_in job.cutter job.slack (graze_of job) ok.cutter_ok ok.slack_ok room.graze_in room.graze_wide room.graze_high
    where
      lies_in : (cutter : Cutter) (s g : ℤ) → IsCutter cutter → IsFrom (pos 0) MAX_SLACK s → g <ℤ radius_of cutter → (pos 2 *ℤ s) ≤ℤ g → (pos 2 *ℤ offset_of cutter s) ≤ℤ offset_of cutter g
          → LiesIn (deeper_in cutter g s) (shrunk (at_tip cutter) s)
      lies_in (Flat r) s g ok from inside wide high = record { kind = refl; some = omega (arith, ints, inside, from); narrow = omega (arith, ints, wide); high = omega (arith, ints, high) }
      lies_in (Ball r) s g ok from inside wide high = record { kind = refl; some = omega (arith, ints, inside, from); narrow = omega (arith, ints, wide); high = omega (arith, ints, high) }
      lies_in (Cone r a b) s g ok from inside wide high =
          record { kind = refl; some = omega (arith, ints, inside, from); narrow = omega (arith, ints, wide); high = over (cone_offset_of a b g) (cone_offset_of a b s) high }
        where
          over : (u d : ℤ) → (pos 2 *ℤ d) ≤ℤ u → ((pos 0) +ℤ d) ≤ℤ (((pos 0) +ℤ u) -ℤ d)
          over u d h = omega (arith, ints, h)

  -- what is tested against the part lies in what the cutter may touch
  pub part_in_outer : LiesIn (part_solid_of job) (outer_of job)
  part_in_outer = deeper_lies_in job.cutter job.slack job.overcut ok.cutter_ok (overcut_margin ok.overcut_ok) room.overcut_in ok.slack_ok.low

  -- the holder is wider than what is cut for sure
  pub held_wider : IfSome (holder_solid_of job) (λ h. radius_of (inner_of job).cutter <ℤ radius_of h.cutter)
  held_wider = by job.holder ok.wider
    where
      narrow : (cutter : Cutter) (s : ℤ) → radius_of (shrunk (at_tip cutter) s).cutter ≡ radius_of cutter -ℤ s
      narrow (Flat r) s = refl
      narrow (Ball r) s = refl
      narrow (Cone r a b) s = refl

      wide : (holder : Solid) (s : ℤ) → radius_of (grown holder s).cutter ≡ radius_of holder.cutter +ℤ s
      wide holder s = of_cutter holder.cutter
        where
          of_cutter : (cutter : Cutter) → radius_of (with_radius cutter (radius_of cutter +ℤ s)) ≡ radius_of cutter +ℤ s
          of_cutter (Flat r) = refl
          of_cutter (Ball r) = refl
          of_cutter (Cone r a b) = refl

      less : (q r s : ℤ) → q <ℤ r → (pos 0) ≤ℤ s → (q -ℤ s) <ℤ (r +ℤ s)
      less q r s h k = omega (h, k, arith, ints)

      by : (holder : Option Solid) → IfSome holder (λ h. radius_of job.cutter <ℤ radius_of h.cutter) → IfSome (held_with job.slack holder) (λ h. radius_of (inner_of job).cutter <ℤ radius_of h.cutter)
      by None h = tt
      by (Some holder) h = rw (narrow job.cutter job.slack, wide holder job.slack) (less (radius_of job.cutter) (radius_of holder.cutter) job.slack h ok.slack_ok.low)
