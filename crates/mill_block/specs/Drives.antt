-- What a feed needs beside its end: a spindle that turns, its speed, and a feed rate.
use Rattle.std.specs.Prelude.{ℕ, ⊤, Option, Bool, true, false, not, ◌&&◌, unwrap_or, if◌then◌else◌, Result, Ok, Err}
use Rattle.mill_base.specs.declared.motion.Kind.{Kind}
use Rattle.mill_base.specs.declared.motion.Kind.TheVariants.{Rapid, Feed, Dogleg}
use Rattle.mill_said.specs.declared.fault.NgcFault.{NgcFault}
use Rattle.mill_said.specs.declared.fault.NgcFault.TheVariants as fault
use Rattle.mill_block.specs.declared.progress.Drive.{Drive}
use Rattle.mill_said.specs.declared.said.Said.{Said}

-- before the first line there is none of it
abbrev pub no_drive : Drive
no_drive = record { turns = false; speed = false; rate = false }

abbrev pub full_drive : Drive
full_drive = record { turns = true; speed = true; rate = true }

-- what there is behind a line that says this: a change of the tool stops the spindle, before the line's own word starts it
abbrev pub driven_by : Drive → Bool → Option Bool → Option Bool → Option Bool → Drive
driven_by d changes spindle speed rate = record { turns = unwrap_or spindle (d.turns && not changes); speed = unwrap_or speed d.speed; rate = unwrap_or rate d.rate }

abbrev pub driven : Drive → Said → Drive
driven d s = driven_by d s.changes s.spindle s.speed s.rate

abbrev pub drive_fault : Kind → Drive → ℕ → Result ⊤ NgcFault
drive_fault Rapid d line = Ok tt
drive_fault Dogleg d line = Ok tt
drive_fault Feed d line =
    if not (d.turns && d.speed) then Err (fault.NoSpindle line) else
    (if not d.rate then Err (fault.NoFeed line) else Ok tt)

-- a move of this kind may come with so much of it, where it is asked for
abbrev pub driven_or_fault : Bool → Kind → Drive → ℕ → Result ⊤ NgcFault
driven_or_fault asked kind d line = if asked then drive_fault kind d line else Ok tt
