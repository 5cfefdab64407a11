-- The positions that stand in the runs of a fiber are those that are blocked.
use Rattle.std.specs.Prelude.{◌↔◌, ℕ, ◌+◌, ◌-◌, ◌≤◌, ◌<◌, ℤ, pos, ◌+ℤ◌, ◌-ℤ◌, ◌<ℤ◌, ◌≤ℤ◌, Bool, true, false, List, length, slice_index_or, IfOk, MatchBool}
use Rattle.std.specs.declared.result.Result.{Result}
use Rattle.std.specs.declared.result.Result.TheVariants.{Ok, Err}
use Rattle.std.proofs.Common.{arith, subst}
use Rattle.std.proofs.lemmas.Int.{ints}
use Rattle.std.proofs.lemmas.List.{get_or_default}
use Rattle.mill_push.specs.declared.fiber.Run.{Run}
use Rattle.mill_push.specs.Runs.{StandsIn}
use Rattle.mill_level.specs.inner.Fibers.{AreAdded, ArePositions, HoldBlocked, IsDown, IsPlaceBetween, IsUp, Places, Tells}
use Rattle.mill_level.proofs.Adding.{added_as}
use Rattle.mill_level.proofs.Ascending.{at_most_later}

pub last_one : (n : ℕ) → 0 < n → n - 1 < n
last_one n h = omega (h, arith)

-- a position is not before one of a lower number
pub rises : (positions : List ℤ) → ArePositions positions → (i j : ℕ) (v : ℤ) → i ≤ j → j < length positions → slice_index_or positions i v ≤ℤ slice_index_or positions j v
rises positions ok i j v order inside = at_most_later (λ (k : ℕ). slice_index_or positions k v) i j order (λ less. weaken (ok.rising i j v less inside))
  where
    weaken : {a b : ℤ} → a <ℤ b → a ≤ℤ b
    weaken h = omega (h, arith, ints)

module _ (Here There : ℤ → Type 0) (from to : ℤ) (same : (v : ℤ) → from ≤ℤ v → v ≤ℤ to → There v ↔ Here v) where
  within : (low high v : ℤ) → from ≤ℤ low → high ≤ℤ to → low ≤ℤ v → v ≤ℤ high → There v ↔ Here v
  within low high v a b c d = same v (through a c) (through d b)
    where
      through : {a b c : ℤ} → a ≤ℤ b → b ≤ℤ c → a ≤ℤ c
      through h k = omega (h, k, arith, ints)

  told : (b : Bool) (v : ℤ) → from ≤ℤ v → v ≤ℤ to → MatchBool b (Here v) (¬ Here v) → MatchBool b (There v) (¬ There v)
  told true v a b h = (same v a b).1 h
  told false v a b h = λ t. h ((same v a b).0 t)

  up_there : (low high place : ℤ) → from ≤ℤ low → high ≤ℤ to → IsUp Here low high place → IsUp There low high place
  up_there low high place a b h = record {
    from = h.from;
    to = h.to;
    free = λ v c d t. h.free v c d ((within low high v a b c (under h.to d)).0 t);
    blocked = (within low high (place +ℤ pos 1) a b (more h.from) (up h.to)).1 h.blocked;
  }
    where
      under : {p q v : ℤ} → p <ℤ q → v ≤ℤ p → v ≤ℤ q
      under h k = omega (h, k, arith, ints)

      more : {p q : ℤ} → p ≤ℤ q → p ≤ℤ (q +ℤ pos 1)
      more h = omega (h, arith, ints)

      up : {p q : ℤ} → p <ℤ q → (p +ℤ pos 1) ≤ℤ q
      up h = omega (h, arith, ints)

  down_there : (low high place : ℤ) → from ≤ℤ low → high ≤ℤ to → IsDown Here low high place → IsDown There low high place
  down_there low high place a b h = record {
    from = h.from;
    to = h.to;
    free = λ v c d t. h.free v c d ((within low high v a b (over h.from c) d).0 t);
    blocked = (within low high (place -ℤ pos 1) a b (down h.from) (less h.to)).1 h.blocked;
  }
    where
      over : {p q v : ℤ} → p <ℤ q → q ≤ℤ v → p ≤ℤ v
      over h k = omega (h, k, arith, ints)

      down : {p q : ℤ} → p <ℤ q → p ≤ℤ (q -ℤ pos 1)
      down h = omega (h, arith, ints)

      less : {p q : ℤ} → p ≤ℤ q → (p -ℤ pos 1) ≤ℤ q
      less h = omega (h, arith, ints)

  placed : (low high place : ℤ) → from ≤ℤ low → low ≤ℤ high → high ≤ℤ to → IsPlaceBetween Here low high place → IsPlaceBetween There low high place
  placed low high place a order b h = record {
    up = λ free held. up_there low high place a b (h.up (λ s. free ((within low high low a b (kept low) order).1 s)) ((within low high high a b order (kept high)).0 held));
    down = λ held free. down_there low high place a b (h.down ((within low high low a b (kept low) order).0 held) (λ s. free ((within low high high a b order (kept high)).1 s)));
  }
    where
      kept : (a : ℤ) → a ≤ℤ a
      kept a = omega (arith, ints)

module _ (positions : List ℤ) (ok : ArePositions positions) where
  abbrev first : ℤ
  first = slice_index_or positions 0 (pos 0)

  abbrev last : ℤ
  last = slice_index_or positions (length positions - 1) (pos 0)

  up_to_last : (k n : ℕ) → k < n → k ≤ n - 1
  up_to_last k n h = omega (h, arith)

  from_first : (k : ℕ) (v : ℤ) → k < length positions → first ≤ℤ slice_index_or positions k v
  from_first k v inside = subst (λ z. z ≤ℤ slice_index_or positions k v) (get_or_default positions 0 v (pos 0) ok.some) (rises positions ok 0 k v (omega arith) inside)

  to_last : (k : ℕ) (v : ℤ) → k < length positions → slice_index_or positions k v ≤ℤ last
  to_last k v inside =
      let end = last_one (length positions) ok.some in
      subst (λ z. slice_index_or positions k v ≤ℤ z) (get_or_default positions (length positions - 1) v (pos 0) end)
      (rises positions ok k (length positions - 1) v (up_to_last k (length positions) inside) end)

  module _ (Blocked : ℤ → Type 0) (runs : List Run) (held : HoldBlocked Blocked positions runs) where
    pub tell_blocked : (old new : List Bool) → AreAdded (Tells (StandsIn runs) positions) (length positions) old new → AreAdded (Tells Blocked positions) (length positions) old new
    tell_blocked old new = added_as (Tells (StandsIn runs) positions) (Tells Blocked positions) (length positions) old new
        (λ k b inside h v. told (StandsIn runs) Blocked first last held b (slice_index_or positions k v) (from_first k v inside) (to_last k v inside) (h v))

    pub place_blocked : (old new : List ℤ) → AreAdded (Places (StandsIn runs) positions) (length positions) old new → AreAdded (Places Blocked positions) (length positions) old new
    place_blocked old new = added_as (Places (StandsIn runs) positions) (Places Blocked positions) (length positions) old new
        (λ k place inside h v more. placed (StandsIn runs) Blocked first last held (slice_index_or positions k v) (slice_index_or positions (k + 1) v) place
        (from_first k v inside) (rises positions ok k (k + 1) v (omega arith) more) (to_last (k + 1) v more) (h v more))

pub IfOk-any : {T E : Type 0} (r : Result T E) (P : Type 0) → P → IfOk r (λ _. P)
IfOk-any (Ok v) P h = h
IfOk-any (Err e) P h = tt
