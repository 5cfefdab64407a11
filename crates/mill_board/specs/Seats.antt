-- What a board and a seat show, and what each of them keeps.
use Rattle.std.specs.Prelude.{◌≡◌, ◌⊎◌, ◌≤◌, ◌-◌, ◌/◌, ℕ, Bool, List, [], ◌∷◌, Option, Some, None, IsSome, is_some}
use Rattle.atomic_table.specs.Seated.{TableId}
use Rattle.mill_board.specs.declared.work.Held.{Held}
use Rattle.mill_board.specs.declared.work.Terms.{Terms}
use Rattle.mill_board.specs.declared.view.View.{View}
use Rattle.mill_board.specs.Works.{Means}

-- a board: which table it is, and the work with its number of turns
pub record BoardShown (W : Type 0) : Type 0 where
  pub table : TableId
  pub terms : Terms W

-- a seat: of which table it is, and its view
pub record SeatShown (W : Type 0) : Type 0 where
  pub table : TableId
  pub view : View W

-- the seat is one of the board's
pub record IsSeatOf {W : Type 0} (board : BoardShown W) (seat : SeatShown W) : Type 0 where
  pub table : seat.table ≡ board.table
  pub terms : seat.view.terms ≡ board.terms

-- the seat is one of the board's, and holds no piece
pub record IsFree {W : Type 0} (board : BoardShown W) (seat : SeatShown W) : Type 0 where
  pub owner : IsSeatOf board seat
  pub free : seat.view.out ≡ None

-- the view of the first seat: nothing is drawn, and the least turn that it has seen is the number of turns
abbrev pub first_view : {W : Type 0} → Terms W → View W
first_view terms = record { drawn = []; seen = terms.turns; ended = None; spare = 4611686018427387904; out = None; terms = terms }

-- what is left of a view that is split
abbrev pub kept_half : {W : Type 0} → View W → View W
kept_half v = record v { spare = v.spare - v.spare / 2 }

-- what the new seat of a split has: no number, and half of what there is to spare, rounded down
abbrev pub given_half : {W : Type 0} → View W → View W
given_half v = record v { drawn = []; spare = v.spare / 2; out = None }

-- a seat is as before, but for the least turn that it has seen, which has not risen
pub record OnlySees {W : Type 0} (old new : SeatShown W) : Type 0 where
  pub table : new.table ≡ old.table
  pub view : new.view ≡ record old.view { seen = new.view.seen }
  pub falls : new.view.seen ≤ old.view.seen

-- a seat finds no piece left: it had ended, and is as it was, or it draws this number, which is no piece's, and has ended at it
abbrev pub FindsNone : {W P : Type 0} → Means W P → View W → View W → Type 0
FindsNone M old new = (IsSome old.ended × (new ≡ old)) ⊎ ((n : ℕ) × (M.pieces old.terms.work ≤ n) × (new ≡ record old { ended = Some n }))

-- the slots that a seat carries between two calls: the one whose piece it has out, emptied
abbrev pub carried_of : {P : Type 0} → Option ℕ → List (ℕ × Option (Held P))
carried_of None = []
carried_of (Some n) = (n, None) ∷ []

-- a seat's flag is as its view has it, and it carries what it has out
pub record IsSeat {W P : Type 0} (ended : Bool) (view : View W) (carried : List (ℕ × Option (Held P))) : Type 0 where
  pub ended_is : is_some view.ended ≡ ended
  pub carries : carried ≡ carried_of view.out

-- a board's table has three words and a slot for each piece, and is told the board's terms
pub record IsBoard {W : Type 0} (table : TableId) (key : Terms W) (pieces : ℕ) (terms : Terms W) : Type 0 where
  pub words : table.words ≡ 3
  pub slots : table.slots ≡ pieces
  pub told : key ≡ terms
