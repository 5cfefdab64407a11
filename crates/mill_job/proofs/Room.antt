-- The facts that the tests of a job's slack, its overcut, its graze and its fixtures tell.
use Rattle.std.proofs.Common.{◌≡◌, refl, Bool, true, false, ◌||◌, arith}
use Rattle.std.proofs.lemmas.Int.{ints}
use Rattle.std.specs.Prelude.{ℤ, ◌+ℤ◌, ◌<ℤ◌, ◌≤ℤ◌, All, IfSome, int_le, int_lt}
use Rattle.mill_base.specs.Sizes.{radius_of}
use Rattle.mill_base.specs.declared.cutter.Cutter.{Cutter}
use Rattle.mill_job.specs.Fixtures.{IsUnder}
use Rattle.mill_job.specs.Jobs.{HasRoom, HolderHasRoom, IsHeldOff, IsRoomy}
use Rattle.mill_job.specs.Slack.{graze_of, is_shallow, is_tight}
use Rattle.mill_job.specs.declared.fields.JobFields.{JobFields}
use Rattle.mill_margin.specs.Margins.{offset_of}

both_false : (a b : Bool) → (a || b) ≡ false → (a ≡ false) × (b ≡ false)
both_false false b e = (refl, e)
both_false true b e = absurd (cc)

pub under : (a b : ℤ) → int_le a b ≡ false → b <ℤ a
under a b e = omega (e, arith, ints)

pub at_most : (a b : ℤ) → int_lt a b ≡ false → b ≤ℤ a
at_most a b e = omega (e, arith, ints)

-- what holds of a cutter for which no test does
pub is_roomy : (job : JobFields) (cutter : Cutter) → is_tight (radius_of cutter) job.slack ≡ false → int_le (radius_of cutter) job.overcut ≡ false → int_le (radius_of cutter) (graze_of job) ≡ false
    → is_shallow cutter job.slack (graze_of job) ≡ false → IsRoomy job.slack job.overcut (graze_of job) cutter
is_roomy job cutter tight overcut graze shallow =
    let (in_, around) = both_false _ _ tight in
    let (wide, high) = both_false _ _ shallow in
    record {
      slack_in = under _ _ in_;
      slack_around = at_most _ _ around;
      overcut_in = under _ _ overcut;
      graze_in = under _ _ graze;
      graze_wide = at_most _ _ wide;
      graze_high = at_most _ _ high;
    }

-- what it is to have room
pub has_room : (job : JobFields) (cutter : Cutter) → IsRoomy job.slack job.overcut (graze_of job) cutter → (job.top +ℤ offset_of cutter job.slack) ≤ℤ job.clear
    → All (IsUnder job.clear (offset_of cutter job.slack)) job.keep_out → HasRoom job cutter
unfolding HasRoom
has_room job cutter roomy over fixtures = (roomy, (over, fixtures))

pub room_of : (job : JobFields) (cutter : Cutter) → HasRoom job cutter → IsRoomy job.slack job.overcut (graze_of job) cutter
unfolding HasRoom
room_of job cutter room = room.0

pub over_stock : (job : JobFields) (cutter : Cutter) → HasRoom job cutter → (job.top +ℤ offset_of cutter job.slack) ≤ℤ job.clear
unfolding HasRoom
over_stock job cutter room = room.1.0

pub over_fixtures : (job : JobFields) (cutter : Cutter) → HasRoom job cutter → All (IsUnder job.clear (offset_of cutter job.slack)) job.keep_out
unfolding HasRoom
over_fixtures job cutter room = room.1.1

pub holder_room_of : (job : JobFields) → HolderHasRoom job → IfSome job.holder (IsHeldOff job.slack)
unfolding HolderHasRoom
holder_room_of job room = room

-- the job has as much room with another cutter in the place of its own
pub room_with : (job : JobFields) (cutter other : Cutter) → HasRoom job cutter → HasRoom (record job { cutter = other }) cutter
unfolding HasRoom graze_of
room_with job cutter other room = room

pub holder_room_with : (job : JobFields) (other : Cutter) → HolderHasRoom job → HolderHasRoom (record job { cutter = other })
unfolding HolderHasRoom
holder_room_with job other room = room
