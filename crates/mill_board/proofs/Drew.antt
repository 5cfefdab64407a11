-- What a seat knows that has drawn a number.
use Rattle.std.proofs.Common.{◌≡◌, ℕ, ◌<◌, false, List, [], ◌∷◌, refl, sym, ap, ◌∙◌, arith, ⊎_elim, Option, Some, None}
use Rattle.std.specs.Prelude.{is_some}
use mathlib.Core.Option.{none}
use Rattle.atomic_table.specs.Table.{step, rest}
use Rattle.mill_board.specs.declared.work.Held.{Held}
use Rattle.mill_board.specs.Works.{Means, started}
use Rattle.mill_board.specs.inner.Plays.{Draws, Drew, Mine}

-- what there is none of
pub none_of : {A : Type 0} (o : Option A) → is_some o ≡ false → o ≡ None
none_of None e = refl
none_of (Some x) e = absurd (cc)

-- a number under the count of slots is a piece's
pub drew_piece : {W P : Type 0} (M : Means W P) (slots found : ℕ) (me after : Mine W P) → Draws M (step slots 0 1 0 none) me found after → found < slots → Drew M me found after
drew_piece M slots found me after d lt = let n = d.0 in ⊎_elim (λ t. t) (λ t. absurd (let le = t.over in omega (arith, n, le, lt))) d.1

module _ {W P : Type 0} (M : Means W P) (me : Mine W P) (found : ℕ) (after : Mine W P) (d : Drew M me found after) where
  -- the slot that was taken is the first that the seat carries
  pub drew_slot : (x : Option (Held P)) × (after.1 ≡ (found, x) ∷ rest after.1)
  drew_slot = (Some (started M me.0.terms.work found), d.taken ∙ ap (λ (l : List (ℕ × Option (Held P))). let y : List (ℕ × Option (Held P)) = (found, Some (started M me.0.terms.work found)) ∷ l in y) (sym (ap rest d.taken)))
