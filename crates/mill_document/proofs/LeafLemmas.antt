-- A leaf to which a move's failing halves lead is one of the last halving, or of one before.
use Rattle.std.proofs.Common.{◌≡◌, ℕ, zero, suc, ◌+◌, ◌*◌, ◌^◌, ◌≤◌, ◌<◌, Bool, true, false, refl, sym, subst, inl, inr, arith}
use Rattle.std.proofs.lemmas.Bool.{cases_lt}
use Rattle.std.proofs.lemmas.Bool.Decides.{nat_tests}
use Rattle.std.proofs.lemmas.Grind.{pow_more}
use Rattle.std.proofs.lemmas.Int.{ints}
use Rattle.std.specs.Prelude.{ℤ, pos, ◌+ℤ◌, ◌-ℤ◌, ◌&&◌, nat_abs, nat_le}
use Rattle.mill_base.proofs.SolidLemmas.{higher_once}
use Rattle.mill_base.specs.Numbers.{least_from}
use Rattle.mill_base.specs.Ranges.{MoveInRange}
use Rattle.mill_base.specs.Solids.{Solid, higher, lifted}
use Rattle.mill_base.specs.declared.cutter.Cutter.{Cutter}
use Rattle.mill_base.specs.declared.limits.TheConstants.{MAX_COORDINATE, MAX_DEPTH}
use Rattle.mill_base.specs.declared.motion.Kind.{Kind}
use Rattle.mill_base.specs.declared.motion.Kind.TheVariants.{Rapid, Feed, Dogleg}
use Rattle.mill_base.specs.declared.motion.Move.{Move}
use Rattle.mill_base.specs.declared.points.Tri.{Tri}
use Rattle.mill_document.specs.inner.Leaves.{IsLeaf}
use Rattle.mill_sweep.specs.Halving.{LeadsTo}
use Rattle.mill_sweep.specs.Leaves.{depth_of, length_x, length_y, length_z}
use Rattle.mill_sweep.specs.Passing.{LeadsBy}
use Rattle.mill_sweep.specs.Solids.{SolidFailsAt}
use Rattle.mill_sweep.specs.declared.leaf.Leaf.{Leaf}

-- ---- how deep a move is halved

differ : (b : Bool) → b ≡ true → b ≡ false → ⊥
differ true p q = cc
differ false p q = cc

-- the least number that passes a test is no more than one that does
least_at : (test : ℕ → Bool) (more start e : ℕ) → start ≤ e → e < start + more → test e ≡ true → least_from test more start ≤ e
least_at test zero start e low high passes = absurd (omega arith)
least_at test (suc more) start e low high passes = by (least_at test more) (test start) refl
  where
    by : ((s i : ℕ) → s ≤ i → i < s + more → test i ≡ true → least_from test more s ≤ i)
        → (b : Bool) → test start ≡ b → (elim b as (λ _. ℕ) [ true ↦ start | false ↦ least_from test more (start + 1) ]) ≤ e
    by rest true q = low
    by rest false q = elim (cases_lt start e) [
      | inl less ↦ rest (start + 1) e (omega arith) (omega arith) passes
      | inr same ↦ let at : e ≡ start = omega arith in absurd (differ (test start) (subst (λ i. test i ≡ true) at passes) q)
    ]

all_within : (x y z n : ℕ) → x ≤ n → y ≤ n → z ≤ n → (nat_le x n && nat_le y n && nat_le z n) ≡ true
all_within x y z n h k l = grind (arith, nat_tests)

depth_by : (m : Move) → length_x m ≤ 2 ^ MAX_DEPTH → length_y m ≤ 2 ^ MAX_DEPTH → length_z m ≤ 2 ^ MAX_DEPTH → depth_of m ≤ MAX_DEPTH
depth_by m x y z =
    least_at (λ d. nat_le (length_x m) (2 ^ d) && nat_le (length_y m) (2 ^ d) && nat_le (length_z m) (2 ^ d)) 64 0 MAX_DEPTH (omega arith) (omega arith)
    (all_within (length_x m) (length_y m) (length_z m) (2 ^ MAX_DEPTH) x y z)

near : (a b : ℤ) → nat_abs a ≤ MAX_COORDINATE → nat_abs b ≤ MAX_COORDINATE → nat_abs (b -ℤ a) ≤ 2 ^ MAX_DEPTH
near a b a_ok b_ok = omega (arith, ints)

near_higher : (a b lift : ℤ) → nat_abs a ≤ MAX_COORDINATE → nat_abs b ≤ MAX_COORDINATE → nat_abs (higher (pos 1) b lift -ℤ higher (pos 1) a lift) ≤ 2 ^ MAX_DEPTH
near_higher a b lift a_ok b_ok = rw (higher_once b lift, higher_once a lift) (both_higher a b lift a_ok b_ok)
  where
    both_higher : (a b h : ℤ) → nat_abs a ≤ MAX_COORDINATE → nat_abs b ≤ MAX_COORDINATE → nat_abs ((b +ℤ h) -ℤ (a +ℤ h)) ≤ 2 ^ MAX_DEPTH
    both_higher a b h a_ok b_ok = omega (arith, ints)

depth_most : (solid : Solid) (m : Move) → MoveInRange m → depth_of (lifted solid m) ≤ MAX_DEPTH
depth_most solid m range =
    depth_by (lifted solid m) (near m.from.x m.to.x range.from_ok.x_ok.within range.to_ok.x_ok.within) (near m.from.y m.to.y range.from_ok.y_ok.within range.to_ok.y_ok.within)
    (near_higher m.from.z m.to.z solid.lift range.from_ok.z_ok.within range.to_ok.z_ok.within)

-- ---- the leaf

half : (d k : ℕ) → k < 2 ^ d → 2 * k + 1 < 2 ^ (d + 1)
half d k lt = let twice = pow_more 2 d in omega arith

leads_within : (cutter : Cutter) (m : Move) (tri : Tri) (more d k : ℕ) (leaf : Leaf) → LeadsTo cutter m tri more d k leaf → k < 2 ^ d → (leaf.d ≤ d + more) × (leaf.k < 2 ^ leaf.d)
leads_within cutter m tri zero d k leaf h lt =
    let deep = h.0 in
    let number = h.1 in
    (omega arith, subst (λ e. leaf.k < 2 ^ e) (sym deep) (omega arith))
leads_within cutter m tri (suc more) d k leaf (inl left) lt =
    let next = half d k lt in
    let h = leads_within cutter m tri more (d + 1) (2 * k) leaf left.1 (omega arith) in
    let deep = h.0 in
    (omega arith, h.1)
leads_within cutter m tri (suc more) d k leaf (inr right) lt =
    let next = half d k lt in
    let h = leads_within cutter m tri more (d + 1) (2 * k + 1) leaf right.1 (omega arith) in
    let deep = h.0 in
    (omega arith, h.1)

pub failing_leaf : (solid : Solid) (m : Move) (tri : Tri) (leaf : Leaf) → MoveInRange m → SolidFailsAt solid m tri leaf → IsLeaf leaf
failing_leaf solid m tri leaf range fails = by m.kind fails.leads
  where
    halved : LeadsTo solid.cutter (lifted solid m) tri (depth_of (lifted solid m)) 0 0 leaf → IsLeaf leaf
    halved leads =
        let deep = depth_most solid m range in
        let h = leads_within solid.cutter (lifted solid m) tri (depth_of (lifted solid m)) 0 0 leaf leads (omega arith) in
        let least = h.0 in
        record { depth = omega arith; number = h.1 }

    whole : (d k : ℕ) → d ≡ 0 → k ≡ 0 → (d ≤ MAX_DEPTH) × (k < 2 ^ d)
    whole d k e g = rw (e, g) (omega arith, omega arith)

    by : (kind : Kind) → LeadsBy kind solid.cutter (lifted solid m) tri leaf → IsLeaf leaf
    by Rapid leads = halved leads
    by Feed leads = halved leads
    by Dogleg h = let w = whole leaf.d leaf.k h.d h.k in record { depth = w.0; number = w.1 }
