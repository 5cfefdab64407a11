-- A row through the moves of a program, one turn a move: the move is tested first, and what passes cuts.
use Rattle.std.specs.Prelude.{◌≡◌, ℕ, ◌+◌, ◌<◌, ◌≤◌, ℤ, pos, List, length, fold, Option, Some, None, MatchOption, slice_index_or, slice_range}
use Rattle.mill_base.specs.Points.{point_at}
use Rattle.mill_base.specs.declared.motion.Move.{Move}
use Rattle.mill_base.specs.declared.motion.Kind.TheVariants.{Feed}
use Rattle.mill_job.specs.declared.fields.JobFields.{JobFields}
use Rattle.mill_dexel.specs.Tops.{IsTested, tops_after_move}
use Rattle.mill_dexel.specs.Rows.{RowState, cutting, PassesRow, HolderClearsRow, IsFirstStop, IsColumnBlocked, IsFirstHolderStop}
use Rattle.mill_dexel.specs.declared.fail.RowFail.{RowFail}
use Rattle.mill_dexel.specs.declared.fail.RowTest.{RowTest}
use Rattle.mill_dexel.specs.declared.fail.RowTest.TheVariants.{Cut, Holder}
use Rattle.mill_sweep.specs.declared.leaf.Leaf.{Leaf}

-- move k; there is none past the end, so what stands there is never looked at
abbrev pub move_at : List Move → ℕ → Move
move_at moves k = slice_index_or moves k (record { kind = Feed; from = point_at (pos 0) (pos 0) (pos 0); to = point_at (pos 0) (pos 0) (pos 0) })

-- the test of a move's kind by a row: the cutter passes each column, a rapid at the column's top, and a feed, if the depth of cut is limited, as low as it may cut
abbrev pub CutClearsRow : JobFields → RowState → Move → Type 0
CutClearsRow job r m = IsTested job m.kind → PassesRow job (cutting job m.kind m) r

-- a move passes a row: the test of its kind, and the holder's
pub record ClearsRow (job : JobFields) (r : RowState) (m : Move) : Type 0 where
  pub cut : CutClearsRow job r m
  pub holder : HolderClearsRow job r m

-- the row after its next move, which passed
abbrev pub turned : JobFields → Move → RowState → RowState
turned job m r = record r { tops = tops_after_move job r.row 0 m r.tops; done = r.done + 1 }

-- the test of a move's kind is made, column i is the first that the cutter doesn't pass, and it blocks this segment
pub record CutStopsAt (job : JobFields) (r : RowState) (m : Move) (i : ℕ) (leaf : Leaf) : Type 0 where
  pub tested : IsTested job m.kind
  pub column : IsFirstStop job (cutting job m.kind m) r i leaf
  pub blocked : IsColumnBlocked job (cutting job m.kind m) r i leaf

-- the cutter passes each column, if it is tested, and column i is the first that the holder doesn't pass
pub record HolderStopsAt (job : JobFields) (r : RowState) (m : Move) (i : ℕ) (leaf : Leaf) : Type 0 where
  pub cut : CutClearsRow job r m
  pub holder : IsFirstHolderStop job r m i leaf

-- the test that fails, with the first column that it doesn't pass, and the segment
abbrev pub StopsAt : RowTest → JobFields → RowState → Move → ℕ → Leaf → Type 0
StopsAt Cut job r m i leaf = CutStopsAt job r m i leaf
StopsAt Holder job r m i leaf = HolderStopsAt job r m i leaf

-- the row's next move fails a test, and the failure names the move and all that
pub record StopsRow (job : JobFields) (r : RowState) (m : Move) (fail : RowFail) : Type 0 where
  pub move : fail.at ≡ r.done
  pub stops : StopsAt fail.test job r m fail.col fail.leaf

-- the row's next move was stopped: the failure is noted, and the rest is as it was
pub record IsRowStopped (job : JobFields) (m : Move) (old new : RowState) : Type 0 where
  pub fail : RowFail
  pub stops : StopsRow job old m fail
  pub noted : new ≡ record old { failed = Some fail }

-- the tops of row j after a list of moves
abbrev pub tops_after : JobFields → ℕ → List Move → List ℤ → List ℤ
tops_after job j moves tops = fold (λ ts m. tops_after_move job j 0 m ts) tops moves

-- a row as move k meets it: all moves from the row's next one on, before k, have cut
abbrev pub row_before : JobFields → List Move → RowState → ℕ → RowState
row_before job moves r k = record r { tops = tops_after job r.row (slice_range moves r.done k) r.tops; done = k }

-- the row is what all moves before move t have left of some row, which none before the first had cut
pub record IsLeftBy (job : JobFields) (moves : List Move) (t : ℕ) (r : RowState) : Type 0 where
  pub start : RowState
  pub fresh : start.done ≡ 0
  pub is : r ≡ row_before job moves start t

-- there is a move k, and the row lets it pass
pub record PassesTurn (job : JobFields) (moves : List Move) (r : RowState) (k : ℕ) : Type 0 where
  pub there : k < length moves
  pub clears : ClearsRow job (row_before job moves r k) (move_at moves k)

-- why a row's turns end before move k: there are no more moves, or that move fails
abbrev pub TurnsEndAt : JobFields → List Move → RowState → ℕ → Option RowFail → Type 0
TurnsEndAt job moves r k None = length moves ≤ k
TurnsEndAt job moves r k (Some fail) = (k < length moves) × StopsRow job (row_before job moves r k) (move_at moves k) fail

-- the row went through its turns, from its next move on, to the end of the moves or to the first one that failed
pub record IsRunOn (job : JobFields) (moves : List Move) (old new : RowState) : Type 0 where
  pub onward : old.done ≤ new.done
  pub passed : (k : ℕ) → old.done ≤ k → k < new.done → PassesTurn job moves old k
  pub ends : TurnsEndAt job moves old new.done new.failed
  pub row : new.row ≡ old.row
  pub tops : new.tops ≡ tops_after job old.row (slice_range moves old.done new.done) old.tops

-- a row that had failed is as it was, and each other went through its turns
abbrev pub IsTurned : JobFields → List Move → RowState → RowState → Type 0
IsTurned job moves old new = MatchOption old.failed (IsRunOn job moves old new) (λ fail. new ≡ old)

-- why a row's turns end before move k, where they go up to move limit: that move is next, or move k fails
abbrev pub TurnsEndBy : JobFields → List Move → RowState → ℕ → ℕ → Option RowFail → Type 0
TurnsEndBy job moves r limit k None = limit ≤ k
TurnsEndBy job moves r limit k (Some fail) = (k < length moves) × StopsRow job (row_before job moves r k) (move_at moves k) fail

-- the row went through its turns, from its next move on, up to move limit or to the first one that failed
pub record IsRunUpTo (job : JobFields) (moves : List Move) (limit : ℕ) (old new : RowState) : Type 0 where
  pub onward : old.done ≤ new.done
  pub passed : (k : ℕ) → old.done ≤ k → k < new.done → PassesTurn job moves old k
  pub ends : TurnsEndBy job moves old limit new.done new.failed
  pub is : new ≡ record (row_before job moves old new.done) { failed = new.failed }

-- a row that had failed is as it was, and each other went through its turns up to move limit
abbrev pub IsTurnedUpTo : JobFields → List Move → ℕ → RowState → RowState → Type 0
IsTurnedUpTo job moves limit old new = MatchOption old.failed (IsRunUpTo job moves limit old new) (λ fail. new ≡ old)

-- the moves determine what a row comes to
abbrev pub OneOutcome : Type 0
OneOutcome = (job : JobFields) (moves : List Move) (row a b : RowState) → IsTurned job moves row a → IsTurned job moves row b → a ≡ b
