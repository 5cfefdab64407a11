-- Whether a piece has failed at a turn, as a row by the holder's test or in another way.
use Rattle.std.specs.Prelude.{◌≡◌, ◌⊎◌, ℕ, Bool, true, false, refl}
use Rattle.std.proofs.Common.{sym, ◌∙◌, inl, inr}
use Rattle.std.proofs.lemmas.Bool.{cases_eq}
use Rattle.mill_board.specs.declared.work.Held.{Held}
use Rattle.mill_dexel.specs.declared.fail.RowTest.{RowTest}
use Rattle.mill_dexel.specs.declared.fail.RowTest.TheVariants as test
use Rattle.mill_verify.specs.declared.piece.Piece.{Piece}
use Rattle.mill_verify.specs.inner.Failures.{HasFailed, HasFailedBy, test_of}

not_both : false ≡ true → ⊥
not_both e = cc

-- a piece has failed at a turn, or it hasn't
pub failed_or_not : (t : ℕ) (h : Held Piece) → HasFailed t h ⊎ (¬ HasFailed t h)
failed_or_not t h = by h.failed refl
  where
    by : (b : Bool) → h.failed ≡ b → HasFailed t h ⊎ (¬ HasFailed t h)
    by false e = inr (λ f. not_both (sym e ∙ f.0))
    by true e = elim (cases_eq h.next t) [ inl same ↦ inl (e, same) | inr other ↦ inr (λ f. other f.1) ]

-- where it has failed in neither way, it hasn't failed
pub in_one_way : (t : ℕ) (h : Held Piece) → ¬ HasFailedBy test.Cut t h → ¬ HasFailedBy test.Holder t h → ¬ HasFailed t h
in_one_way t h other held f = by (test_of h.piece) refl
  where
    by : (u : RowTest) → test_of h.piece ≡ u → ⊥
    by test.Cut e = other (f, e)
    by test.Holder e = held (f, e)
