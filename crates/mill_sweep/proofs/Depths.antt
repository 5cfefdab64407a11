-- The depth of a move: the least number of halvings that makes its lengths small.
use Rattle.std.specs.Prelude.{◌≡◌, ℕ, zero, suc, ◌+◌, ◌-◌, ◌*◌, ◌^◌, ◌<◌, ◌≤◌, max, nat_le, ◌&&◌, Bool, true, false}
use Rattle.std.proofs.Common.{inl, inr, refl, subst, arith}
use Rattle.std.proofs.Math.Nat.{pow-le-pow_right}
use Rattle.std.proofs.lemmas.Bool.{cases_lt}
use Rattle.std.proofs.lemmas.Grind.{pow_more}
use Rattle.std.proofs.lemmas.Int.{ints}
use Rattle.std.proofs.lemmas.Nat.{leading_length}
use Rattle.std.specs.Int.Count.{count_leading_zeros}
use Rattle.mill_base.specs.Numbers.{least_from}
use Rattle.mill_base.specs.declared.motion.Move.{Move}
use Rattle.mill_base.specs.declared.limits.TheConstants.{MAX_DEPTH}
use Rattle.mill_sweep.specs.Lifted.{IsLiftedMove}
use Rattle.mill_sweep.specs.Leaves.{depth_of, length_x, length_y, length_z}
use Rattle.mill_sweep.specs.Widths.{longest}

-- a number that passes the test, where none before it does, is the least
pub least_is : (test : ℕ → Bool) (more start e : ℕ) → start ≤ e → e < start + more → test e ≡ true → ((i : ℕ) → i < e → test i ≡ false) → e ≡ least_from test more start
least_is test zero start e low high passes others = absurd (omega arith)
least_is test (suc more) start e low high passes others = by (least_is test more) (test start) refl
  where
    differ : (b : Bool) → b ≡ true → b ≡ false → ⊥
    differ true p q = cc
    differ false p q = cc

    by : ((s i : ℕ) → s ≤ i → i < s + more → test i ≡ true → ((j : ℕ) → j < i → test j ≡ false) → i ≡ least_from test more s)
        → (b : Bool) → test start ≡ b → e ≡ (elim b as (λ _. ℕ) [ true ↦ start | false ↦ least_from test more (start + 1) ])
    by rest true q = elim (cases_lt start e) [ inl less ↦ absurd (differ (test start) q (others start less)) | inr same ↦ omega arith ]
    by rest false q = elim (cases_lt start e) [
      | inl less ↦ rest (start + 1) e (omega arith) (omega arith) passes others
      | inr same ↦ let at : e ≡ start = omega arith in absurd (differ (test start) (subst (λ i. test i ≡ true) at passes) q)
    ]

-- three lengths are at most a number, or one of them is over it
all_within : (x y z n : ℕ) → max (max x y) z ≤ n → (nat_le x n && nat_le y n && nat_le z n) ≡ true
all_within x y z n h = grind arith

one_over : (x y z n : ℕ) → n < max (max x y) z → (nat_le x n && nat_le y n && nat_le z n) ≡ false
one_over x y z n h = grind arith

within_all : (x y z n : ℕ) → (nat_le x n && nat_le y n && nat_le z n) ≡ true → (x ≤ n) × (y ≤ n) × (z ≤ n)
within_all x y z n h = grind arith

-- the greatest of a move's lengths
abbrev pub length_of : Move → ℕ
length_of m = max (max (length_x m) (length_y m)) (length_z m)

-- so the least power of 2 that is at least the greatest length gives the depth
pub depth_is : (m : Move) (d : ℕ) → length_of m ≤ 2 ^ d → (0 < d → 2 ^ d < 2 * length_of m) → d ≤ 32 → d ≡ depth_of m
depth_is m d reaches least most =
    least_is (λ i. nat_le (length_x m) (2 ^ i) && nat_le (length_y m) (2 ^ i) && nat_le (length_z m) (2 ^ i)) 64 0 d (omega arith) (omega arith) (all_within (length_x m) (length_y m) (length_z m) (2 ^ d) reaches)
    (λ i less. one_over (length_x m) (length_y m) (length_z m) (2 ^ i) (shorter i less))
  where
    shorter : (i : ℕ) → i < d → 2 ^ i < length_of m
    shorter i less =
        let more = pow_more 2 i in
        let up : 2 ^ (i + 1) ≤ 2 ^ d = pow-le-pow_right {n = 2} (omega arith) {i = i + 1} {j = d} (omega arith) in
        let under = least (omega arith) in
        omega arith

-- the number of binary digits of the length less 1
pub halvings_are : (length : ℕ) → 1 < length → length < 2 ^ 32 → (length ≤ 2 ^ (32 - count_leading_zeros 32 (length - 1))) × (2 ^ (32 - count_leading_zeros 32 (length - 1)) < 2 * length)
halvings_are length h l = by (leading_length 32 (length - 1) (let top : length < 4294967296 = l in omega arith))
  where
    by : ((m : ℕ) × (count_leading_zeros 32 (length - 1) + m ≡ 32) × (length - 1 < 2 ^ m) × (2 ^ m ≤ 2 * (length - 1) + 1))
        → (length ≤ 2 ^ (32 - count_leading_zeros 32 (length - 1))) × (2 ^ (32 - count_leading_zeros 32 (length - 1)) < 2 * length)
    by (m, whole, low, high) =
        let digits : 32 - count_leading_zeros 32 (length - 1) ≡ m = omega arith in
        rw digits (omega arith, omega arith)

-- what passes the test at or after the start makes the least pass it, and bounds it
least_passes : (test : ℕ → Bool) (more start e : ℕ) → start ≤ e → e < start + more → test e ≡ true → (test (least_from test more start) ≡ true) × (least_from test more start ≤ e)
least_passes test zero start e low high passes = absurd (omega arith)
least_passes test (suc more) start e low high passes = by (least_passes test more) (test start) refl
  where
    differ : (b : Bool) → b ≡ true → b ≡ false → ⊥
    differ true p q = cc
    differ false p q = cc

    by : ((s i : ℕ) → s ≤ i → i < s + more → test i ≡ true → (test (least_from test more s) ≡ true) × (least_from test more s ≤ i))
        → (b : Bool) → test start ≡ b → (test (elim b as (λ _. ℕ) [ true ↦ start | false ↦ least_from test more (start + 1) ]) ≡ true) × ((elim b as (λ _. ℕ) [ true ↦ start | false ↦ least_from test more (start + 1) ]) ≤ e)
    by rest true q = (q, low)
    by rest false q = elim (cases_lt start e) [
      | inl less ↦ rest (start + 1) e (omega arith) (omega arith) passes
      | inr same ↦ let at : e ≡ start = omega arith in absurd (differ (test start) (subst (λ i. test i ≡ true) at passes) q)
    ]

-- a tip's move is no longer along an axis than two coordinates, so its depth is a move's
length_within : (m : Move) → IsLiftedMove m → length_of m ≤ 2 ^ MAX_DEPTH
length_within m range =
    let a = range.from_ok.x_ok.within in
    let b = range.to_ok.x_ok.within in
    let c = range.from_ok.y_ok.within in
    let d = range.to_ok.y_ok.within in
    joined (length_x m) (length_y m) (length_z m) (omega (arith, ints)) (omega (arith, ints)) range.rise_ok
  where
    joined : (x y z : ℕ) → x ≤ longest → y ≤ longest → z ≤ longest → max (max x y) z ≤ 2 ^ MAX_DEPTH
    joined x y z h k l = omega arith

depth_within : (m : Move) → IsLiftedMove m → (nat_le (length_x m) (2 ^ depth_of m) && nat_le (length_y m) (2 ^ depth_of m) && nat_le (length_z m) (2 ^ depth_of m) ≡ true) × (depth_of m ≤ MAX_DEPTH)
depth_within m range = least_passes (λ i. nat_le (length_x m) (2 ^ i) && nat_le (length_y m) (2 ^ i) && nat_le (length_z m) (2 ^ i)) 64 0 MAX_DEPTH (omega arith) (omega arith) (all_within (length_x m) (length_y m) (length_z m) (2 ^ MAX_DEPTH) (length_within m range))

pub depth_most : (m : Move) → IsLiftedMove m → depth_of m ≤ MAX_DEPTH
depth_most m range = (depth_within m range).1

-- at the depth each length is at most the number of parts
pub lengths_at_depth : (m : Move) → IsLiftedMove m → (length_x m ≤ 2 ^ depth_of m) × (length_y m ≤ 2 ^ depth_of m) × (length_z m ≤ 2 ^ depth_of m)
lengths_at_depth m range = within_all (length_x m) (length_y m) (length_z m) (2 ^ depth_of m) (depth_within m range).0
