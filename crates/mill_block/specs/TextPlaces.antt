-- Where a program's own numbers lead, before they are rounded: places in parts of 10^18 of a unit, in which every number of a text is whole.
use Rattle.std.specs.Prelude.{ℕ, ℤ, ◌+ℤ◌, ◌-ℤ◌, ◌*ℤ◌, Option, Some, None}
use Rattle.mill_base.specs.Numbers.{greater}
use Rattle.mill_base.specs.declared.points.Pt3.{Pt3}
use Rattle.mill_words.specs.declared.word.Num.{Num}
use Rattle.mill_control.specs.Unrounded.{parts, text_units}
use Rattle.mill_block.specs.MachineSettings.{per_of}
use Rattle.mill_said.specs.declared.machine_said.MachineSaid.{MachineSaid}
use Rattle.mill_block.specs.declared.progress.Progress.{Progress}

-- the tool's place by the numbers that named it
abbrev pub exact_here : Progress → Pt3
exact_here p = record { x = (parts *ℤ p.here.x) +ℤ p.machine.finer.x; y = (parts *ℤ p.here.y) +ℤ p.machine.finer.y; z = (parts *ℤ p.here.z) +ℤ p.machine.finer.z }

-- it is this place
abbrev pub exactly_at : Pt3 → Progress → Progress
exactly_at t p = record p { machine = record p.machine { finer = record { x = t.x -ℤ (parts *ℤ p.here.x); y = t.y -ℤ (parts *ℤ p.here.y); z = t.z -ℤ (parts *ℤ p.here.z) } } }

-- a coordinate of a way's end: the line's own number, or that of the place before
abbrev pub text_or : ℕ → ℤ → Option Num → ℤ
text_or per before None = before
text_or per before (Some n) = text_units per n

-- where the line's own numbers lead
abbrev pub text_target : Progress → Pt3 → MachineSaid → Pt3
text_target p at s = record { x = text_or (per_of p) at.x s.x; y = text_or (per_of p) at.y s.y; z = text_or (per_of p) at.z s.z }

-- straight up to the machine's place: to the safe height, where that is higher
abbrev pub text_above : Progress → Pt3 → Pt3
text_above p at = record { x = at.x; y = at.y; z = greater at.z (parts *ℤ p.clear) }
