-- What a document says of the tool's holder, and what is wrong with it.
use Rattle.std.specs.Prelude.{Bool, false, ◌||◌, if◌then◌else◌, ℤ, pos, int_le, [], ◌∷◌, Option, Some, None, is_some}
use Rattle.toml.specs.Data.{Members, get_member}
use Rattle.mill_base.specs.Sizes.{radius_of}
use Rattle.mill_base.specs.Solids.{Solid}
use Rattle.mill_base.specs.Units.{greatest_of}
use Rattle.mill_base.specs.declared.cutter.Cutter.TheVariants.{Flat}
use Rattle.mill_base.specs.declared.limits.TheConstants.{MAX_RADIUS}
use Rattle.mill_base.specs.declared.unit.Unit.{Unit}
use Rattle.mill_job.specs.Keys.{name_of}
use Rattle.mill_job.specs.Tables.{first, number_at, number_fault}
use Rattle.mill_job.specs.declared.fault.JobFault.{JobFault}
use Rattle.mill_job.specs.declared.key.Key.{Key}
use Rattle.mill_job.specs.declared.key.Key.TheVariants as key

-- the document has a value at the key
abbrev pub has : Key → Members → Bool
has key ms = is_some (get_member (name_of key) ms)

-- the document has one of the holder's keys, or both
unfoldable pub names_holder : Members → Bool
names_holder ms = has key.HolderRadius ms || has key.Stickout ms

-- what is wrong with the holder's keys, in order: where one of them is there, both must be
unfoldable pub holder_fault : Unit → Members → Option JobFault
holder_fault unit ms =
    if names_holder ms then first (number_fault key.HolderRadius (pos 1) MAX_RADIUS ms ∷ number_fault key.Stickout (pos 1) (pos (greatest_of unit)) ms ∷ []) else None

-- the holder of a document with whose keys nothing is wrong, none where it has neither of the holder's: it is flat, and its lower face is the stickout over the cutter's tip
unfoldable pub holder_of : Members → Option Solid
holder_of ms = if names_holder ms then Some (record { cutter = Flat (number_at key.HolderRadius ms); lift = number_at key.Stickout ms }) else None

-- there is a holder, and it isn't wider than a cutter of this radius
abbrev pub is_narrow : ℤ → Option Solid → Bool
is_narrow radius None = false
is_narrow radius (Some holder) = int_le (radius_of holder.cutter) radius
