-- The heights of roughing's layers, by their numbers.
use Rattle.std.proofs.Common.{◌≡◌, ℕ, ◌+◌, ◌-◌, ◌*◌, ◌/◌, ◌<◌, ◌≤◌, Bool, true, false, List, [], length, map, get_or, refl, sym, ap, ◌∙◌, subst, mul_comm, FitsSigned, w32, arith}
use Rattle.std.specs.Prelude.{if◌then◌else◌, nat_abs, int_lt, ℤ, pos, ◌-ℤ◌, ◌*ℤ◌, ◌<ℤ◌, ◌≤ℤ◌}
use Rattle.std.specs.List.{range_with_len}
use Rattle.std.proofs.Math.Nat.{mul-le-mul_right, div-mul-le_self}
use Rattle.std.proofs.lemmas.Int.{ints, fits_signed_from_abs}
use Rattle.std.proofs.lemmas.List.FromFn.{length-map-range_with_len, get_or-map-range_with_len}
use Rattle.mill_base.specs.Numbers.{Within}
use Rattle.mill_base.specs.Units.{greatest_of}
use Rattle.mill_base.specs.declared.limits.TheConstants.{MAX_COORDINATE}
use Rattle.mill_base.proofs.Ranges.{within_of_unit}
use Rattle.mill_job.specs.Jobs.{IsJob}
use Rattle.mill_job.specs.declared.fields.JobFields.{JobFields}
use Rattle.mill_paths.specs.Visits.{layer_count, layer_heights}

-- a height over the floor and under the top
pub record IsLayerHeight (job : JobFields) (z : ℤ) : Type 0 where
  pub over : job.floor <ℤ z
  pub under : z <ℤ job.top

-- how much lower than the top the layer of number k is, k counted from 0
abbrev pub lowering : JobFields → ℕ → ℕ
lowering job k = (k + 1) * nat_abs job.layer

-- it is some, less than the stock's height, and small
pub record IsLowered (job : JobFields) (k : ℕ) : Type 0 where
  pub counted : k + 1 ≤ lowering job k
  pub most : lowering job k < nat_abs (job.top -ℤ job.floor)
  pub small : lowering job k ≤ 1048574

layered : (job : JobFields) → (pos 0) <ℤ job.layer → int_lt (pos 0) job.layer ≡ true
layered job some = by (int_lt (pos 0) job.layer) refl
  where
    by : (t : Bool) → int_lt (pos 0) job.layer ≡ t → t ≡ true
    by true e = refl
    by false e = absurd (omega (arith, ints))

-- the layers' heights by their numbers
pub numbered : (job : JobFields) → (pos 0) <ℤ job.layer → layer_heights job ≡ map (λ k. job.top -ℤ pos k *ℤ job.layer) (range_with_len 1 (layer_count job))
numbered job some = ap (λ (t : Bool). if t then map (λ k. job.top -ℤ pos k *ℤ job.layer) (range_with_len 1 (layer_count job)) else []) (layered job some)

pub length-layer_heights : (job : JobFields) → (pos 0) <ℤ job.layer → length (layer_heights job) ≡ layer_count job
length-layer_heights job some =
    ap (λ (zs : List ℤ). length zs) (numbered job some) ∙ length-map-range_with_len (λ k. job.top -ℤ pos k *ℤ job.layer) 1 (layer_count job)

pub get_or-layer_heights : (job : JobFields) (k : ℕ) → (pos 0) <ℤ job.layer → k < length (layer_heights job)
    → get_or (layer_heights job) k (pos 0) ≡ job.top -ℤ pos (k + 1) *ℤ job.layer
get_or-layer_heights job k some inside =
    ap (λ (zs : List ℤ). get_or zs k (pos 0)) (numbered job some)
    ∙ get_or-map-range_with_len (λ k. job.top -ℤ pos k *ℤ job.layer) 1 (layer_count job) k (k + 1) (pos 0) (subst (λ n. k < n) (length-layer_heights job some) inside) (turned k)
  where
    turned : (n : ℕ) → 1 + n ≡ n + 1
    turned n = omega arith

lowered : (k d l : ℕ) → 0 < l → d ≤ 1048574 → k < (d - 1) / l → (k + 1 ≤ (k + 1) * l) × (((k + 1) * l < d) × ((k + 1) * l ≤ 1048574))
lowered k d l some small inside =
    let low : k + 1 ≤ (k + 1) * l = subst (λ n. k + 1 ≤ n) (mul_comm l (k + 1)) (least l (k + 1) some) in
    let high : (k + 1) * l ≤ (d - 1) / l * l = mul-le-mul_right l (omega arith) in
    let all : (d - 1) / l * l ≤ d - 1 = div-mul-le_self (d - 1) l in
    (low, within k ((k + 1) * l) ((d - 1) / l * l) d low high all small)
  where
    least : (l n : ℕ) → 0 < l → n ≤ l * n
    least l n some = subst (λ m. m ≤ l * n) (plain n) (mul-le-mul_right n some)
      where
        plain : (n : ℕ) → 1 * n ≡ n
        plain n = omega arith

    within : (k p q d : ℕ) → k + 1 ≤ p → p ≤ q → q ≤ d - 1 → d ≤ 1048574 → (p < d) × (p ≤ 1048574)
    within k p q d low high all small = (omega arith, omega arith)

pub is_lowered : (job : JobFields) (k : ℕ) → IsJob job → (pos 0) <ℤ job.layer → k < length (layer_heights job) → IsLowered job k
is_lowered job k ok some inside =
    let h = lowered k (nat_abs (job.top -ℤ job.floor)) (nat_abs job.layer) (least job.layer some) (height job.floor job.top (within_of_unit job.unit job.floor ok.floor_ok) (within_of_unit job.unit job.top ok.top_ok)) (subst (λ n. k < n) (length-layer_heights job some) inside) in
    record { counted = h.0; most = h.1.0; small = h.1.1 }
  where
    least : (l : ℤ) → (pos 0) <ℤ l → 0 < nat_abs l
    least l h = omega (arith, ints)

    height : (a b : ℤ) → Within MAX_COORDINATE a → Within MAX_COORDINATE b → nat_abs (b -ℤ a) ≤ 1048574
    height a b h e = let low = h.within in let high = e.within in omega (arith, ints)

-- a product with the layer
pub layers : (k : ℕ) (l : ℤ) → (pos 0) <ℤ l → pos k *ℤ l ≡ pos (k * nat_abs l)
layers k l some = ap (λ z. pos k *ℤ z) (whole l some)
  where
    whole : (l : ℤ) → (pos 0) <ℤ l → l ≡ pos (nat_abs l)
    whole l h = omega (arith, ints)

-- the height of the layer of number k
pub layer_height_is : (job : JobFields) (k : ℕ) → (pos 0) <ℤ job.layer → k < length (layer_heights job) → get_or (layer_heights job) k (pos 0) ≡ job.top -ℤ pos (lowering job k)
layer_height_is job k some inside = get_or-layer_heights job k some inside ∙ ap (λ z. job.top -ℤ z) (layers (k + 1) job.layer some)

pub layer_height_fits : (job : JobFields) (k : ℕ) → IsJob job → IsLowered job k → FitsSigned w32 (job.top -ℤ pos (lowering job k))
layer_height_fits job k ok h = fits_signed_from_abs w32 (job.top -ℤ pos (lowering job k)) (small job.top (lowering job k) (within_of_unit job.unit job.top ok.top_ok) h.small)
  where
    small : (t : ℤ) (n : ℕ) → Within MAX_COORDINATE t → n ≤ 1048574 → nat_abs (t -ℤ pos n) < 2147483648
    small t n top h = let high = top.within in omega (arith, ints)

pub layer_within : (job : JobFields) → IsJob job → Within (greatest_of job.unit) job.layer
layer_within job ok = within (greatest_of job.unit) job.layer ok.layer_ok.low ok.layer_ok.high
  where
    within : (most : ℕ) (l : ℤ) → (pos 0) ≤ℤ l → l ≤ℤ pos most → Within most l
    within most l low high = record { within = omega (arith, ints) }

-- each layer's height is over the floor and under the top
pub is_layer_height : (job : JobFields) (k : ℕ) → IsJob job → (pos 0) <ℤ job.layer → k < length (layer_heights job) → IsLayerHeight job (get_or (layer_heights job) k (pos 0))
is_layer_height job k ok some inside =
    let h : IsLowered job k = is_lowered job k ok some inside in
    subst (λ z. IsLayerHeight job z) (sym (layer_height_is job k some inside)) (record {
      over = over job.floor job.top (lowering job k) ok.stock h.most;
      under = under job.top k (lowering job k) h.counted;
    })
  where
    over : (floor top : ℤ) (n : ℕ) → floor ≤ℤ top → n < nat_abs (top -ℤ floor) → floor <ℤ (top -ℤ pos n)
    over floor top n stock less = omega (arith, ints)

    under : (top : ℤ) (k n : ℕ) → k + 1 ≤ n → (top -ℤ pos n) <ℤ top
    under top k n some = omega (arith, ints)

-- where the job has no layer there is none
pub no_layers : (job : JobFields) → job.layer ≡ pos 0 → layer_heights job ≡ []
no_layers job none = ap (λ (l : ℤ). if int_lt (pos 0) l then map (λ k. job.top -ℤ pos k *ℤ job.layer) (range_with_len 1 (layer_count job)) else []) none
