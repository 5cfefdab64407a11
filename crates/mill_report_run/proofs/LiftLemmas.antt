-- The lifts of the findings.
use Rattle.std.proofs.Common.{◌≡◌, ℕ, ◌+◌, ◌*◌, ◌<◌, ◌≤◌, Bool, true, false, cond, List, [], ◌∷◌, ◌++◌, length, get_or, take, sym, subst, arith}
use Rattle.std.proofs.lemmas.Int.{ints}
use Rattle.std.proofs.lemmas.List.{take_more}
use Rattle.std.proofs.lemmas.Slice.Zip.{all_zipped_more}
use Rattle.std.specs.List.{AllZip}
use Rattle.std.specs.Prelude.{ℤ, pos, ◌+ℤ◌, ◌-ℤ◌, ◌≤ℤ◌, int_lt, nat_abs, Option, None, Some}
use Rattle.mill_base.specs.Numbers.{lesser}
use Rattle.mill_base.specs.Ranges.{MoveInRange}
use Rattle.mill_base.specs.declared.limits.TheConstants.{MAX_COORDINATE}
use Rattle.mill_base.specs.declared.motion.Move.{Move}
use Rattle.mill_base.specs.declared.points.Tri.{Tri}
use Rattle.mill_base.specs.declared.tool.Tool.{Tool}
use Rattle.mill_dexel.specs.Turns.{move_at}
use Rattle.mill_job.specs.declared.fields.JobFields.{JobFields}
use Rattle.mill_gouge.specs.Laws.{OverPartPasses, PassesFromLift}
use Rattle.mill_gouge.specs.Lifts.{HasRoom, IsLeastLift, ceiling_of, low_of, raised}
use Rattle.mill_report.specs.Findings.{move_of}
use Rattle.mill_report_run.specs.Reports.{IsLift, IsLiftOf}
use Rattle.mill_report_run.specs.inner.Lifts.{lifted_move}
use Rattle.mill_sweep.specs.Leaves.{length_z}
use Rattle.mill_sweep.specs.Apart.{low_end_of}
use Rattle.mill_verify.specs.declared.verdict.Reason.{Reason}
use Rattle.mill_verify.specs.declared.verdict.Reason.TheVariants.{Floor, Gouge, Holder, Fixture, HolderFixture, Rapid, Cut, HolderStock, Left}

-- ---- whose lift it is

some_same : (a b : ℕ) → Some a ≡ Some b → a ≡ b
some_same a b e = cc

none_is_not_some : (a : ℕ) → None ≡ Some a → ⊥
none_is_not_some a e = cc

-- the move is that of the finding
pub number_is : (reason : Reason) (number : ℕ) → lifted_move reason ≡ Some number → move_of reason ≡ number
number_is (Floor k) number e = absurd (none_is_not_some number e)
number_is (Gouge k t leaf) number e = some_same k number e
number_is (Holder k t leaf) number e = some_same k number e
number_is (Fixture k b leaf) number e = absurd (none_is_not_some number e)
number_is (HolderFixture k b leaf) number e = absurd (none_is_not_some number e)
number_is (Rapid k j i leaf) number e = absurd (none_is_not_some number e)
number_is (Cut k j i leaf) number e = absurd (none_is_not_some number e)
number_is (HolderStock k j i leaf) number e = absurd (none_is_not_some number e)
number_is (Left j i top) number e = absurd (none_is_not_some number e)

module _ (job : JobFields) (part : List Tri) (moves : List Move) where
  lift_at : (k number : ℕ) (lift : Option ℤ) → Some k ≡ Some number → IsLiftOf job part (move_at moves number) lift → IsLiftOf job part (move_at moves k) lift
  lift_at k number lift e is = subst (λ (n : ℕ). IsLiftOf job part (move_at moves n) lift) (sym (some_same k number e)) is

  -- the lift of a finding against the part is that of its move
  pub lift_is : (reason : Reason) (number : ℕ) (lift : Option ℤ) → lifted_move reason ≡ Some number → IsLiftOf job part (move_at moves number) lift → IsLift job part moves reason lift
  lift_is (Floor k) number lift e is = absurd (none_is_not_some number e)
  lift_is (Gouge k t leaf) number lift e is = lift_at k number lift e is
  lift_is (Holder k t leaf) number lift e is = lift_at k number lift e is
  lift_is (Fixture k b leaf) number lift e is = absurd (none_is_not_some number e)
  lift_is (HolderFixture k b leaf) number lift e is = absurd (none_is_not_some number e)
  lift_is (Rapid k j i leaf) number lift e is = absurd (none_is_not_some number e)
  lift_is (Cut k j i leaf) number lift e is = absurd (none_is_not_some number e)
  lift_is (HolderStock k j i leaf) number lift e is = absurd (none_is_not_some number e)
  lift_is (Left j i top) number lift e is = absurd (none_is_not_some number e)

-- ---- how great a lift is

-- raised so far, the lower end is over the part's highest corner
high : (a b : ℤ) (long : ℕ) → nat_abs a ≤ MAX_COORDINATE → nat_abs b ≤ MAX_COORDINATE → (pos MAX_COORDINATE -ℤ pos long) ≤ℤ lesser (a +ℤ pos (2 * MAX_COORDINATE)) (b +ℤ pos (2 * MAX_COORDINATE))
high a b long a_ok b_ok = by (int_lt (b +ℤ pos (2 * MAX_COORDINATE)) (a +ℤ pos (2 * MAX_COORDINATE)))
  where
    by : (t : Bool) → (pos MAX_COORDINATE -ℤ pos long) ≤ℤ cond t (b +ℤ pos (2 * MAX_COORDINATE)) (a +ℤ pos (2 * MAX_COORDINATE))
    by true = omega (a_ok, b_ok, arith, ints)
    by false = omega (a_ok, b_ok, arith, ints)

-- so no least lift is greater
pub lift_small : OverPartPasses → PassesFromLift → (tool : Tool) (part : List Tri) (m : Move) (n : ℕ) → MoveInRange m → HasRoom tool part m → IsLeastLift tool part m n → n ≤ 2 * MAX_COORDINATE
lift_small over from tool part m n range room least =
    (from tool part m n (2 * MAX_COORDINATE) least).0
    (over tool part (raised (2 * MAX_COORDINATE) m) (ceiling_of tool m) room
    (less (pos MAX_COORDINATE -ℤ pos (length_z m)) (low_end_of (raised (2 * MAX_COORDINATE) m)) (low_of tool) (high m.from.z m.to.z (length_z m) range.from_ok.z_ok.within range.to_ok.z_ok.within)))
  where
    less : (a b l : ℤ) → a ≤ℤ b → (a -ℤ l) ≤ℤ (b -ℤ l)
    less a b l h = omega (h, arith, ints)

-- ---- one lift after another

pub zip_more : {A B : Type 0} (R : A → B → Type 0) (xs : List A) (ys zs : List B) (i : ℕ) (d : A) (y : B) → i < length xs → AllZip R (take i xs) ys → R (get_or xs i d) y → zs ≡ ys ++ y ∷ [] → AllZip R (take (i + 1) xs) zs
zip_more {A} {B} R xs ys zs i d y there so_far is pushed =
    subst (λ (bs : List B). AllZip R (take (i + 1) xs) bs) (sym pushed)
    (subst (λ (zs : List A). AllZip R zs (ys ++ y ∷ [])) (sym (take_more xs i d there)) (all_zipped_more R (take i xs) ys (get_or xs i d) y so_far is))
