-- What each step of a seat tells it.
use Rattle.std.specs.Prelude.{◌≡◌, ℕ, min, ◌<◌, ◌≤◌, ◌⊎◌, [], ◌∷◌, ◌++◌, Option, Some, None}
use Rattle.atomic_table.specs.Table.{Me, Step}
use Rattle.mill_board.specs.declared.work.Held.{Held}
use Rattle.mill_board.specs.declared.view.View.{View}
use Rattle.mill_board.specs.Works.{Means, IsFailure, IsTrueHeld, started}
use Rattle.mill_board.specs.Kept.{times}

-- what a seat knows and carries
abbrev pub Mine : Type 0 → Type 0 → Type 0
Mine W P = Me (Option (Held P)) (View W)

-- a number was drawn that is a piece's, and its slot is taken
pub record Drew {W P : Type 0} (M : Means W P) (me : Mine W P) (found : ℕ) (after : Mine W P) : Type 0 where
  pub under : found < M.pieces me.0.terms.work
  pub view : after.0 ≡ record me.0 { drawn = me.0.drawn ++ found ∷ []; out = Some found }
  pub taken : after.1 ≡ (found, Some (started M me.0.terms.work found)) ∷ me.1
  pub fresh : times found me.0.drawn ≡ 0
  pub is_true : IsTrueHeld M me.0.terms.work (started M me.0.terms.work found)

-- no piece was left
pub record Ended {W P : Type 0} (M : Means W P) (me : Mine W P) (found : ℕ) (after : Mine W P) : Type 0 where
  pub over : M.pieces me.0.terms.work ≤ found
  pub view : after.0 ≡ record me.0 { ended = Some found }
  pub carried : after.1 ≡ me.1

-- what drawing tells
abbrev pub Draws : {W P : Type 0} → Means W P → Step (Option (Held P)) → Mine W P → ℕ → Mine W P → Type 0
Draws M step me found after = (step.slots ≡ M.pieces me.0.terms.work) × (Drew M me found after ⊎ Ended M me found after)

-- what putting tells
abbrev pub Puts : {W P : Type 0} → Means W P → Step (Option (Held P)) → Mine W P → ℕ → Mine W P → Type 0
Puts M step me found after = (after.0 ≡ record me.0 { out = None }) × (after.1 ≡ [])

-- what looking tells: a turn that no worker has lowered under what the seat had seen, and that is the number of turns or one at which a piece fails
pub record Looked {W P : Type 0} (M : Means W P) (me : Mine W P) (found : ℕ) (after : Mine W P) : Type 0 where
  pub falls : found ≤ me.0.seen
  pub failure : IsFailure M me.0.terms found
  pub view : after.0 ≡ record me.0 { seen = found }
  pub carried : after.1 ≡ me.1

-- the same, as the table has it
abbrev pub Looks : {W P : Type 0} → Means W P → Step (Option (Held P)) → Mine W P → ℕ → Mine W P → Type 0
Looks M step me found after = Looked M me found after

-- what lowering tells: the seat has seen the lesser of what it found and the turn to which it lowers
pub record Lowered {W P : Type 0} (M : Means W P) (me : Mine W P) (turn found : ℕ) (after : Mine W P) : Type 0 where
  pub falls : min found turn ≤ me.0.seen
  pub failure : IsFailure M me.0.terms (min found turn)
  pub view : after.0 ≡ record me.0 { seen = min found turn }
  pub carried : after.1 ≡ me.1

-- the same, as the table has it
abbrev pub Lowers : {W P : Type 0} → Means W P → Step (Option (Held P)) → Mine W P → ℕ → Mine W P → Type 0
Lowers M step me found after = Lowered M me step.first found after
