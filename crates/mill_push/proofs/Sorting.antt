-- What a sort by the first positions gives.
use Rattle.std.proofs.Common.{◌≡◌, ℕ, zero, suc, ◌+◌, ◌-◌, ◌<◌, Bool, true, false, cond, Bor, List, length, get_or, refl, ap, subst, arith}
use Rattle.std.specs.Prelude.{int_lt, ◌↔◌, IsPermutation, Result, Ok, Err, IfOk}
use Rattle.std.specs.Fn.{Called, ComputesKey}
use Rattle.std.specs.List.{Contains}
use Rattle.std.specs.List.Sorted.{IsSortedByKey}
use Rattle.std.specs.Ordering.{int_cmp, is_lt}
use Rattle.std.specs.declared.cmp.Ordering.TheVariants.{Less, Equal, Greater}
use Rattle.std.proofs.lemmas.Fn.{always_returns_same}
use Rattle.std.proofs.lemmas.Int.{ints}
use Rattle.std.proofs.lemmas.List.Sorted.{Contains-permutation, IsPermutation-sym}
use denote.Param.Members.{Mut}
use lib.IntN.{ℤ}
use lib.Signed.{◌≤ℤ◌}
use Rattle.mill_push.specs.declared.fiber.Run.{Run}
use Rattle.mill_push.specs.Runs.{StandsIn}
use Rattle.mill_base.specs.Numbers.{Within}
use Rattle.mill_base.specs.declared.limits.TheConstants.{MAX_COORDINATE}
use Rattle.mill_push.specs.Runs.{RunsOf}
use Rattle.mill_push.specs.inner.Unions.{AreOrdered, AreSpans, AreStretches}
use Rattle.mill_push.proofs.Joining.{runs_as}
use Rattle.mill_push.proofs.Stored.{within_between, through}

not_before : (a b : ℤ) → is_lt (int_cmp a b) ≡ false → b ≤ℤ a
not_before a b h = by (int_lt a b) (int_lt b a) refl refl h
  where
    by : (s t : Bool) → int_lt a b ≡ s → int_lt b a ≡ t → is_lt (cond s Less (cond t Greater Equal)) ≡ false → b ≤ℤ a
    by true t e f k = cc
    by false t e f k = omega (e, arith, ints)

far : (xs : List Run) → IsSortedByKey (λ (r : Run). r.first) int_cmp xs → (i m : ℕ) (d : Run) → i + m < length xs → (get_or xs i d).first ≤ℤ (get_or xs (i + m) d).first
far xs h i zero d less = same (ap (λ k. (get_or xs k d).first) (omega arith))
  where
    same : {a b : ℤ} → a ≡ b → a ≤ℤ b
    same e = omega (arith, ints)
far xs h i (suc m) d less =
    let on : i + m + 1 ≡ i + suc m = omega arith in
    let step = not_before (get_or xs (i + m + 1) d).first (get_or xs (i + m) d).first (h (i + m) d (omega arith) (omega arith)) in
    subst (λ k. (get_or xs i d).first ≤ℤ (get_or xs k d).first) on (through (get_or xs i d).first (get_or xs (i + m) d).first (get_or xs (i + m + 1) d).first (far xs h i m d (omega arith)) step)

ordered : (xs : List Run) → IsSortedByKey (λ (r : Run). r.first) int_cmp xs → AreOrdered xs
ordered xs h i j d le less =
    let at : i + (j - i) ≡ j = omega arith in
    subst (λ k. (get_or xs i d).first ≤ℤ (get_or xs k d).first) at (far xs h i (j - i) d (omega arith))

-- from the clause of `sort_by_key`, where each call gives the first position
pub ordered_from_sort : {F : Type 0} {g : Mut F (Bor Run × Unit {0}) ℤ} {f : F} (xs : List Run) → ((key : Run → ℤ) → ComputesKey g key f → IsSortedByKey key int_cmp xs)
    → ((a : Bor Run × Unit {0}) (r : ℤ) (f' : F) → Called g f a r f' → (r ≡ a.0.now.first) × (f' ≡ f)) → AreOrdered xs
ordered_from_sort {g = g} {f = f} xs up h = ordered xs (up (λ (r : Run). r.first) (always_returns_same g (λ a r. r ≡ a.0.now.first) f h))

-- the same positions stand in the same runs in another order
pub stand_moved : (xs ys : List Run) (v : ℤ) → IsPermutation xs ys → StandsIn xs v ↔ StandsIn ys v
stand_moved xs ys v p = (go xs ys p, go ys xs (IsPermutation-sym xs ys p))
  where
    go : (rs others : List Run) → IsPermutation rs others → StandsIn rs v → StandsIn others v
    go rs others q s = record { run = s.run; member = Contains-permutation rs others s.run q s.member; first = s.first; last = s.last }

pub spans_moved : (xs ys : List Run) (from to : ℤ) → IsPermutation xs ys → AreSpans from to xs → AreSpans from to ys
spans_moved xs ys from to p spans run c = spans run (Contains-permutation ys xs run (IsPermutation-sym xs ys p) c)

-- the ends of runs between two positions in range are in range
pub first_within : (xs : List Run) (from to : ℤ) → Within MAX_COORDINATE from → Within MAX_COORDINATE to → AreSpans from to xs → (run : Run) → Contains xs run → Within MAX_COORDINATE run.first
first_within xs from to h k spans run c = let s = spans run c in within_between from run.first to h k s.after (through run.first run.last to s.some s.within)

pub last_within : (xs : List Run) (from to : ℤ) → Within MAX_COORDINATE from → Within MAX_COORDINATE to → AreSpans from to xs → (run : Run) → Contains xs run → Within MAX_COORDINATE run.last
last_within xs from to h k spans run c = let s = spans run c in within_between from run.last to h k (through from run.first run.last s.after s.some) s.within

-- the runs of the stretches, in whatever order, are those of the blocked positions
pub runs_from_stretches : (Blocked : ℤ → Type 0) (from to : ℤ) (xs ys runs : List Run) → AreStretches Blocked from to xs → IsPermutation xs ys
    → RunsOf (StandsIn ys) from to runs → RunsOf Blocked from to runs
runs_from_stretches Blocked from to xs ys runs s p h =
    runs_as (StandsIn ys) Blocked from to runs (λ v a b. (λ c. (s.blocked v a b).1 ((stand_moved xs ys v p).1 c), λ g. (stand_moved xs ys v p).0 ((s.blocked v a b).0 g))) h

-- what follows from a fact of the value, if there is one
pub IfOk-more : {T E : Type 0} (r : Result T E) (P Q : T → Type 0) → ((v : T) → P v → Q v) → IfOk r P → IfOk r Q
IfOk-more (Ok v) P Q go h = go v h
IfOk-more (Err e) P Q go h = h
