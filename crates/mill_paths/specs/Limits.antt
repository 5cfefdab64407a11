-- How many nodes a lattice may have, and how many moves a list of visits may be.
use Rattle.std.specs.Prelude.{◌≡◌, ℕ, ◌+◌, ◌<◌, ◌≤◌, Bool, ◌&&◌, if◌then◌else◌, List, [], ◌∷◌, ⊤}
use Rattle.std.specs.Ordering.{int_eq}
use Rattle.mill_base.specs.Lattices.{node_count}
use Rattle.mill_base.specs.declared.limits.TheConstants.{MAX_MOVES, MAX_NODES}
use Rattle.mill_base.specs.declared.lattice.Lattice.{Lattice}
use Rattle.mill_links.specs.Links.{is_same_point}
use Rattle.mill_links.specs.declared.visit.Visit.{Visit}
use Rattle.mill_paths.specs.declared.fault.PathFault.{PathFault}
use Rattle.mill_paths.specs.declared.fault.PathFault.TheVariants.{TooManyNodes, TooManyVisits, WantOfMemory}

-- the most visits of a list that differ from the one before them
abbrev pub most_changes : ℕ
most_changes = MAX_MOVES

-- two visits are at one place, and on lattices of one step
abbrev pub is_same_visit : Visit → Visit → Bool
is_same_visit v w = is_same_point v.at w.at && int_eq v.step w.step

-- how many of the visits, which come after v, differ from the one before them
abbrev pub changes_after : Visit → List Visit → ℕ
changes_after v [] = 0
changes_after v (w ∷ ws) = (if is_same_visit v w then 0 else 1) + changes_after w ws

-- how many visits differ from the one before them; the first has none before it
abbrev pub change_count : List Visit → ℕ
change_count [] = 0
change_count (v ∷ vs) = changes_after v vs

-- what a fault tells of the list that was to be made: it is too long, or nothing
abbrev pub IsListFault : List Visit → PathFault → Type 0
IsListFault visits (TooManyNodes nodes) = ⊥
IsListFault visits TooManyVisits = most_changes < change_count visits
IsListFault visits WantOfMemory = ⊤

-- the lattice has so many nodes, and that is too many
pub record HasManyNodes (lattice : Lattice) (nodes : ℕ) : Type 0 where
  pub all : nodes ≡ node_count lattice
  pub many : MAX_NODES < nodes

-- what a fault tells of the drop heights over a lattice: it has too many nodes, or hasn't
abbrev pub IsHeightsFault : Lattice → PathFault → Type 0
IsHeightsFault lattice (TooManyNodes nodes) = HasManyNodes lattice nodes
IsHeightsFault lattice TooManyVisits = ⊥
IsHeightsFault lattice WantOfMemory = node_count lattice ≤ MAX_NODES
