-- The positions of a lattice, its nodes, and which lattices calls take.
use Rattle.std.specs.Prelude.{ℕ, ◌+◌, ◌*◌, ◌/◌, ◌≤◌, nat_abs, if◌then◌else◌, ℤ, pos, ◌+ℤ◌, ◌-ℤ◌, ◌*ℤ◌, ◌≤ℤ◌, List, [], ◌∷◌, ◌++◌, map, length, slice_index_or}
use Rattle.std.specs.List.{flat_map, range_with_len}
use Rattle.mill_base.specs.Numbers.{Within, divides}
use Rattle.mill_base.specs.declared.limits.TheConstants.{MAX_COORDINATE, MAX_NODES}
use Rattle.mill_base.specs.declared.lattice.Lattice.{Lattice}

-- from lo on by steps up to hi, and hi itself where it isn't one of them
abbrev pub lattice_positions : ℤ → ℤ → ℤ → List ℤ
lattice_positions lo hi step =
    map (λ i. lo +ℤ pos i *ℤ step) (range_with_len 0 (nat_abs (hi -ℤ lo) / nat_abs step + 1))
    ++ (if divides (nat_abs step) (hi -ℤ lo) then [] else hi ∷ [])

-- the x positions of a lattice, and its y positions
abbrev pub lattice_xs : Lattice → List ℤ
lattice_xs lattice = lattice_positions lattice.area.x0 lattice.area.x1 lattice.step

abbrev pub lattice_ys : Lattice → List ℤ
lattice_ys lattice = lattice_positions lattice.area.y0 lattice.area.y1 lattice.step

-- how many nodes a lattice has: each x position with each y position
abbrev pub node_count : Lattice → ℕ
node_count lattice = length (lattice_xs lattice) * length (lattice_ys lattice)

-- each x with each y, row by row: y in its order from row to row, and x in its order along each row
abbrev pub rows_of : List ℤ → List ℤ → List (ℤ × ℤ)
rows_of xs ys = flat_map (λ y. map (λ x. (x, y)) xs) ys

-- the nodes of a lattice, row by row
abbrev pub nodes_of : Lattice → List (ℤ × ℤ)
nodes_of lattice = rows_of (lattice_xs lattice) (lattice_ys lattice)

-- the node of number k
abbrev pub node_at : Lattice → ℕ → ℤ × ℤ
node_at lattice k = slice_index_or (nodes_of lattice) k (pos 0, pos 0)

-- the lattice's ends are in range and the right way round, and its step is at least one unit
pub record IsLattice (lattice : Lattice) : Type 0 where
  pub x0_ok : Within MAX_COORDINATE lattice.area.x0
  pub x1_ok : Within MAX_COORDINATE lattice.area.x1
  pub y0_ok : Within MAX_COORDINATE lattice.area.y0
  pub y1_ok : Within MAX_COORDINATE lattice.area.y1
  pub x_order : lattice.area.x0 ≤ℤ lattice.area.x1
  pub y_order : lattice.area.y0 ≤ℤ lattice.area.y1
  pub step_ok : (pos 1) ≤ℤ lattice.step

-- so is it, and it has no more nodes than a lattice may have
pub record IsMapLattice (lattice : Lattice) : Type 0 where
  pub lattice_ok : IsLattice lattice
  pub few : node_count lattice ≤ MAX_NODES
