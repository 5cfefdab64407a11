-- What a caller's numbers stand for.
use Rattle.std.specs.Prelude.{ℕ, ℤ, pos, ◌≤ℤ◌, ◌&&◌, if◌then◌else◌, List, map, Option, Some, None, option_map, IfSome, IsSomeAnd}
use Rattle.std.specs.Ordering.{int_eq}
use Rattle.mill_base.specs.Lattices.{node_count}
use Rattle.mill_base.specs.Numbers.{Within}
use Rattle.mill_base.specs.Ranges.{TriInRange}
use Rattle.mill_base.specs.Sizes.{IsCutter}
use Rattle.mill_base.specs.Solids.{Solid, at_tip}
use Rattle.mill_base.specs.declared.lattice.Lattice.{Lattice}
use Rattle.mill_base.specs.declared.limits.TheConstants.{MAX_COORDINATE}
use Rattle.mill_base.specs.declared.points.Pt3.{Pt3}
use Rattle.mill_base.specs.declared.points.Tri.{Tri}
use Rattle.mill_base.specs.declared.cutter.Cutter.{Cutter}
use Rattle.mill_base.specs.declared.cutter.Cutter.TheVariants.{Flat, Ball, Cone}
use Rattle.mill_base.specs.declared.tool.Tool.{Tool}
use Rattle.mill_ffi_data.specs.declared.raw.RawLattice.{RawLattice}
use Rattle.mill_ffi_data.specs.declared.raw.RawPlace.{RawPlace}
use Rattle.mill_ffi_data.specs.declared.raw.RawPoint.{RawPoint}
use Rattle.mill_ffi_data.specs.declared.raw.RawTool.{RawTool}
use Rattle.mill_ffi_data.specs.declared.raw.RawTriangle.{RawTriangle}

-- a corner, a triangle and a part of these coordinates
abbrev pub corner_of : RawPoint → Pt3
corner_of raw = record { x = raw.x; y = raw.y; z = raw.z }

abbrev pub tri_of : RawTriangle → Tri
tri_of raw = record { a = corner_of raw.a; b = corner_of raw.b; c = corner_of raw.c }

abbrev pub tris_of : List RawTriangle → List Tri
tris_of raws = map tri_of raws

-- each coordinate of the triangle is in range
abbrev pub IsTriangle : RawTriangle → Type 0
IsTriangle raw = TriInRange (tri_of raw)

-- both coordinates of the place are in range
pub record IsPlace (raw : RawPlace) : Type 0 where
  pub x_ok : Within MAX_COORDINATE raw.x
  pub y_ok : Within MAX_COORDINATE raw.y

-- the cutter of these numbers; none where the kind is none
abbrev pub cutter_of : RawTool → Option Cutter
cutter_of raw = if int_eq raw.kind (pos 1) then Some (Flat raw.radius) else if int_eq raw.kind (pos 2) then Some (Ball raw.radius) else if int_eq raw.kind (pos 3) then Some (Cone raw.radius raw.rise raw.run) else None

-- the holder of these numbers, a flat whose lower face is the stickout over the cutter's tip; none where both are 0
abbrev pub holder_of : RawTool → Option Solid
holder_of raw = if int_eq raw.holder_radius (pos 0) && int_eq raw.stickout (pos 0) then None else Some (record { cutter = Flat raw.holder_radius; lift = raw.stickout })

-- the tool of these numbers
abbrev pub tool_of : RawTool → Option Tool
tool_of raw = option_map (λ cutter. record { cutter = at_tip cutter; holder = holder_of raw }) (cutter_of raw)

-- a holder's lower face is in range over the cutter's tip
pub record IsStickout (stickout : ℤ) : Type 0 where
  pub some : (pos 1) ≤ℤ stickout
  pub within : stickout ≤ℤ pos MAX_COORDINATE

-- the holder is as wide as a cutter may be, and all of it is over the cutter's tip
pub record IsOverTip (holder : Solid) : Type 0 where
  pub cutter_ok : IsCutter holder.cutter
  pub stickout_ok : IsStickout holder.lift

-- the numbers are those of a cutter of a job, and of a holder or none
abbrev pub SaysCutter : RawTool → Type 0
SaysCutter raw = IsSomeAnd (cutter_of raw) IsCutter

abbrev pub SaysHolder : RawTool → Type 0
SaysHolder raw = IfSome (holder_of raw) IsOverTip

-- the tool's numbers are those of a tool
pub record IsSoundTool (tool : RawTool) : Type 0 where
  pub cutter_ok : SaysCutter tool
  pub holder_ok : SaysHolder tool

-- the lattice of these numbers
abbrev pub lattice_of : RawLattice → Lattice
lattice_of raw = record { area = record { x0 = raw.x0; y0 = raw.y0; x1 = raw.x1; y1 = raw.y1 }; step = raw.step }

-- how many nodes it has
abbrev pub nodes_in : RawLattice → ℕ
nodes_in raw = node_count (lattice_of raw)
