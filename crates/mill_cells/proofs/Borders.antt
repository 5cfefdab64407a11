-- The borders of a cell tell which of its boxes it is the first cell of.
use Rattle.std.proofs.Common.{◌≡◌, ℕ, ◌+◌, ◌*◌, ◌<◌, ◌≤◌, max, ◌&&◌, Bool, true, false, not, cond, length, get_or, refl, sym, ap, ◌∙◌, inl, inr, FitsSigned, arith}
use Rattle.std.specs.Prelude.{◌==◌, nat_abs}
use Rattle.std.proofs.lemmas.Bool.{cases_lt, eqb-true, eqb-false, eq-eqb, ne_eqb}
use Rattle.std.proofs.lemmas.Int.{ints, to_z-of_z}
use Rattle.std.proofs.lemmas.Nat.{le-div, div_below}
use Rattle.std.proofs.lemmas.List.Elements.{Contains-get_or}
use lib.IntN.{ℤ, pos, ◌+ℤ◌, ◌-ℤ◌}
use lib.Signed.{◌≤ℤ◌, lt_z}
use mir.Syntax.{w32}
use Rattle.mill_base.proofs.Machine.{stored, kept}
use Rattle.mill_base.specs.Numbers.{Within}
use Rattle.mill_base.specs.declared.limits.TheConstants.{MAX_COORDINATE}
use Rattle.mill_base.specs.declared.points.Box2.{Box2}
use Rattle.mill_cells.specs.Boxes.{box_at}
use Rattle.mill_cells.specs.Frames.{cell_of, border_of, block_of, covers}
use Rattle.mill_cells.specs.Grids.{numbers_in, IsGrid}
use Rattle.mill_cells.specs.Walks.{TellFirst}
use Rattle.mill_cells.specs.declared.grid.Grid.{Grid}
use Rattle.mill_cells.proofs.FrameLemmas.{covers_at, has_cell_tells}
use Rattle.mill_cells.proofs.Passing.{in_passing}

before_it : (low x : ℤ) (t : ℕ) → low ≤ℤ x → nat_abs (x -ℤ low) < t → not (lt_z x (low +ℤ pos t)) ≡ false
before_it low x t h k = grind (arith, ints)

from_it : (low x : ℤ) (t : ℕ) → low ≤ℤ x → t ≤ nat_abs (x -ℤ low) → not (lt_z x (low +ℤ pos t)) ≡ true
from_it low x t h k = grind (arith, ints)

at_lowest : (low x : ℤ) → low ≤ℤ x → not (lt_z x low) ≡ true
at_lowest low x h = grind (arith, ints)

-- a coordinate as it is stored
pub coordinate : (z : ℤ) → Within MAX_COORDINATE z → stored w32 z ≡ z
coordinate z h = kept w32 z 524287 h.within refl

pub border_stored : (r low : ℤ) (size first at : ℕ) → FitsSigned w32 r → Within MAX_COORDINATE low → r ≡ border_of (stored w32 low) size first at → stored w32 r ≡ border_of low size first at
border_stored r low size first at fits h e = to_z-of_z w32 r fits ∙ (e ∙ ap (λ (z : ℤ). border_of z size first at) (coordinate low h))

-- a coordinate in a column or before it is at its border or further on exactly where the column is the first one that it and the area cover
pub border_tells : (low : ℤ) (size first at : ℕ) (x : ℤ) → 0 < size → low ≤ℤ x → cell_of low size x ≤ at → first ≤ at
    → not (lt_z x (border_of low size first at)) ≡ (at == max first (cell_of low size x))
border_tells low size first at x some from under after = by (at == first) refl
  where
    later : (at == first) ≡ false → first < at
    later e = let other = eqb-false at first e in elim (cases_lt first at) [
      | inl less ↦ less
      | inr more ↦ absurd (other (omega arith))
    ]

    by : (b : Bool) → (at == first) ≡ b → not (lt_z x (cond b low (low +ℤ pos (at * size)))) ≡ (at == max first (cell_of low size x))
    by true e = let same = eqb-true at first e in at_lowest low x from ∙ sym (eq-eqb at (max first (cell_of low size x)) (omega arith))
    by false e = let less = later e in elim (cases_lt (nat_abs (x -ℤ low)) (at * size)) [
      | inl before ↦ let k = div_below (nat_abs (x -ℤ low)) size at some before in before_it low x (at * size) from before ∙ sym (ne_eqb at (max first (cell_of low size x)) (λ same. omega arith))
      | inr onward ↦ let k = le-div at (nat_abs (x -ℤ low)) size some onward in from_it low x (at * size) from onward ∙ sym (eq-eqb at (max first (cell_of low size x)) (omega arith))
    ]

both_same : (a b c d : Bool) → a ≡ c → b ≡ d → (a && b) ≡ (c && d)
both_same a b c d p q = rw (p, q) refl

-- the borders of a cell of an area tell it of each number in the cell
pub borders_tell : (g : Grid) (area : Box2) (column row : ℕ) (west south : ℤ) → IsGrid g → column < g.frame.columns
    → (block_of g.frame area).first_column ≤ column → (block_of g.frame area).first_row ≤ row
    → west ≡ border_of g.frame.bounds.x0 g.frame.size (block_of g.frame area).first_column column → south ≡ border_of g.frame.bounds.y0 g.frame.size (block_of g.frame area).first_row row
    → TellFirst g.frame g.boxes.items area column row west south (numbers_in g.frame g.boxes.items (row * g.frame.columns + column))
borders_tell g area column row west south h narrow after_c after_r ew es k d less =
    let f = g.frame in
    let i = get_or (numbers_in f g.boxes.items (row * f.columns + column)) k d in
    let b = box_at g.boxes.items i in
    let n = in_passing (λ j. covers f (box_at g.boxes.items j) (row * f.columns + column)) (length g.boxes.items) i (Contains-get_or (numbers_in f g.boxes.items (row * f.columns + column)) k d less) in
    let at = has_cell_tells (block_of f b) column row (sym (covers_at f b column row narrow) ∙ n.1) in
    let inside = h.inside i n.0 in
    both_same _ _ _ _
    (ap (λ (z : ℤ). not (lt_z b.x0 z)) ew ∙ border_tells f.bounds.x0 f.size (block_of f area).first_column column b.x0 h.frame.some inside.west at.0.0 after_c)
    (ap (λ (z : ℤ). not (lt_z b.y0 z)) es ∙ border_tells f.bounds.y0 f.size (block_of f area).first_row row b.y0 h.frame.some inside.south at.1.0 after_r)
