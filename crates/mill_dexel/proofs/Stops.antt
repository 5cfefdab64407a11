-- The tests of a move by a row, and the first of them that it fails.
use Rattle.std.proofs.Common.{◌≡◌, ℕ, refl, sym, subst}
use Rattle.std.specs.Prelude.{Option, Some, None, IfSome, MatchOption}
use Rattle.mill_base.specs.Solids.{Solid}
use Rattle.mill_base.specs.declared.motion.Move.{Move}
use Rattle.mill_base.specs.declared.motion.Kind.{Kind}
use Rattle.mill_base.specs.declared.motion.Kind.TheVariants.{Rapid, Dogleg}
use Rattle.mill_job.specs.Solids.{holder_solid_of}
use Rattle.mill_job.specs.declared.fields.JobFields.{JobFields}
use Rattle.mill_sweep.specs.declared.leaf.Leaf.{Leaf}
use Rattle.mill_dexel.specs.Tops.{IsTested}
use Rattle.mill_dexel.specs.Rows.{RowState, cutting, holding, PassesRow, HolderPassesRow, HolderClearsRow, IsFirstStop, IsColumnBlocked, IsFirstHolderStop}
use Rattle.mill_dexel.specs.Turns.{ClearsRow, CutClearsRow, CutStopsAt, StopsAt, StopsRow}
use Rattle.mill_dexel.specs.declared.fail.RowFail.{RowFail}
use Rattle.mill_dexel.specs.declared.fail.RowTest.{RowTest}
use Rattle.mill_dexel.specs.declared.fail.RowTest.TheVariants as test

-- a dogleg is tested where a straight rapid is
pub at_top : (job : JobFields) (r : RowState) (m : Move) (o : Option (ℕ × Leaf)) → MatchOption o (PassesRow job (cutting job Rapid m) r) (λ s. IsFirstStop job (cutting job Rapid m) r s.0 s.1)
    → MatchOption o (PassesRow job (cutting job Dogleg m) r) (λ s. IsFirstStop job (cutting job Dogleg m) r s.0 s.1)
at_top job r m None passes = passes
at_top job r m (Some s) stop = record { column = stop.column; before = stop.before; fails = stop.fails }

-- what the test of a kind finds, for a move of that kind
module _ (job : JobFields) (r : RowState) (m : Move) (kind : Kind) (is : m.kind ≡ kind) where
  abbrev Finds : Kind → Option (ℕ × Leaf) → Type 0
  Finds k o = MatchOption o (IsTested job k → PassesRow job (cutting job k m) r) (λ s. IsTested job k × IsFirstStop job (cutting job k m) r s.0 s.1 × IsColumnBlocked job (cutting job k m) r s.0 s.1)

  by_kind : (o : Option (ℕ × Leaf)) → Finds m.kind o → MatchOption o (CutClearsRow job r m) (λ s. CutStopsAt job r m s.0 s.1)
  by_kind None clears = clears
  by_kind (Some s) stops = record { tested = stops.0; column = stops.1; blocked = stops.2 }

  pub rapid_found : (o : Option (ℕ × Leaf)) → IsTested job kind → MatchOption o (PassesRow job (cutting job kind m) r) (λ s. IsFirstStop job (cutting job kind m) r s.0 s.1)
      → IfSome o (λ s. IsColumnBlocked job (cutting job kind m) r s.0 s.1) → MatchOption o (CutClearsRow job r m) (λ s. CutStopsAt job r m s.0 s.1)
  rapid_found o tested first blocked = by_kind o (subst (λ (k : Kind). Finds k o) (sym is) (found o first blocked))
    where
      found : (o : Option (ℕ × Leaf)) → MatchOption o (PassesRow job (cutting job kind m) r) (λ s. IsFirstStop job (cutting job kind m) r s.0 s.1) → IfSome o (λ s. IsColumnBlocked job (cutting job kind m) r s.0 s.1) → Finds kind o
      found None passes none = λ tested. passes
      found (Some s) first blocked = (tested, first, blocked)

  pub feed_found : (o : Option (ℕ × Leaf)) → (o ≡ None → IsTested job kind → PassesRow job (cutting job kind m) r) → IfSome o (λ s. IsTested job kind)
      → IfSome o (λ s. IsFirstStop job (cutting job kind m) r s.0 s.1) → IfSome o (λ s. IsColumnBlocked job (cutting job kind m) r s.0 s.1) → MatchOption o (CutClearsRow job r m) (λ s. CutStopsAt job r m s.0 s.1)
  feed_found o none tested first blocked = by_kind o (subst (λ (k : Kind). Finds k o) (sym is) (found o none tested first blocked))
    where
      found : (o : Option (ℕ × Leaf)) → (o ≡ None → IsTested job kind → PassesRow job (cutting job kind m) r) → IfSome o (λ s. IsTested job kind)
          → IfSome o (λ s. IsFirstStop job (cutting job kind m) r s.0 s.1) → IfSome o (λ s. IsColumnBlocked job (cutting job kind m) r s.0 s.1) → Finds kind o
      found None none tested first blocked = none refl
      found (Some s) none tested first blocked = (tested, first, blocked)

-- what a job's holder finds
pub held_found : (job : JobFields) (r : RowState) (m : Move) (holder : Solid) (o : Option (ℕ × Leaf)) → holder_solid_of job ≡ Some holder
    → MatchOption o (HolderPassesRow holder job r m) (λ s. IsFirstStop job (holding holder m) r s.0 s.1) → IfSome o (λ s. IsColumnBlocked job (holding holder m) r s.0 s.1)
    → MatchOption o (HolderClearsRow job r m) (λ s. IsFirstHolderStop job r m s.0 s.1)
held_found job r m holder None there passes none = subst (λ (h : Option Solid). IfSome h (λ holder. HolderPassesRow holder job r m)) (sym there) passes
held_found job r m holder (Some s) there first blocked = record { holder = holder; there = there; column = first; blocked = blocked }

-- a test that fails isn't passed, so a move that a row stops doesn't pass it
pub holder_stop_fails : (job : JobFields) (r : RowState) (m : Move) (i : ℕ) (leaf : Leaf) → IsFirstHolderStop job r m i leaf → ¬ HolderClearsRow job r m
holder_stop_fails job r m i leaf stop clears =
    stop.column.fails.fails (subst (λ (h : Option Solid). IfSome h (λ holder. HolderPassesRow holder job r m)) stop.there clears i stop.column.column)

pub cut_stop_fails : (job : JobFields) (r : RowState) (m : Move) (i : ℕ) (leaf : Leaf) → CutStopsAt job r m i leaf → ¬ CutClearsRow job r m
cut_stop_fails job r m i leaf stop clears = stop.column.fails.fails (clears stop.tested i stop.column.column)

pub stop_fails : (job : JobFields) (r : RowState) (m : Move) (fail : RowFail) → StopsRow job r m fail → ¬ ClearsRow job r m
stop_fails job r m fail stop clears = by fail.test stop.stops
  where
    by : (t : RowTest) → StopsAt t job r m fail.col fail.leaf → ⊥
    by test.Cut h = cut_stop_fails job r m fail.col fail.leaf h clears.cut
    by test.Holder h = holder_stop_fails job r m fail.col fail.leaf h.holder clears.holder
