-- On the way to its first place the tool gets no lower.
use Rattle.std.proofs.Common.{◌≡◌, ℕ, ◌+◌, ◌-◌, ◌*◌, ◌/◌, ◌%◌, ◌^◌, ◌<◌, ◌≤◌, Bool, true, false, eqb, Option, Some, None, Result, Ok, Err, refl, sym, ap, subst, ◌∙◌, arith, inl, inr}
use Rattle.std.proofs.Math.Nat.{div-add-mod, mul_assoc, mul_comm, one-le-pow}
use Rattle.std.proofs.lemmas.Bool.{eqb-true}
use Rattle.std.proofs.lemmas.Bool.Decides.{nat_tests}
use Rattle.std.proofs.lemmas.Int.{ints}
use Rattle.std.proofs.lemmas.Nat.{pow-add}
use Rattle.std.specs.Prelude.{ℤ, pos, ◌*ℤ◌, ◌≤ℤ◌, ◌⊎◌, ◌||◌, ◌&&◌, int_le, nat_le, nat_lt, not, is_some, if◌then◌else◌}
use Rattle.mill_base.proofs.Integers.{neg-mul-ℤ}
use Rattle.mill_base.specs.Units.{places_of, greatest_of}
use Rattle.mill_base.specs.declared.points.Pt3.{Pt3}
use Rattle.mill_base.specs.declared.unit.Unit.{Unit as LengthUnit}
use Rattle.mill_words.specs.declared.word.Num.{Num}
use Rattle.mill_block.specs.Motion.{coordinate, is_rapid, known_of, may_come, reaches, target}
use Rattle.mill_said.specs.Numbers.{axis_units, is_at_or_over, is_on_grid, signed, whole_units}
use Rattle.mill_said.specs.Said.{◌>>=◌}
use Rattle.mill_said.specs.declared.fault.NgcFault.{NgcFault}
use Rattle.mill_said.specs.declared.fault.NgcFault.TheVariants as fault
use Rattle.mill_block.specs.declared.progress.Known.{Known}
use Rattle.mill_block.specs.declared.progress.Known.TheVariants.{Nothing, Height, All}
use Rattle.mill_block.specs.declared.progress.Progress.{Progress}
use Rattle.mill_said.specs.declared.said.Said.{Said}
use Rattle.mill_block.proofs.RiseCerts.{unscaled}

-- ---- a number on the grid

powers : (d k s : ℕ) → d + k ≡ s → 10 ^ s ≡ 10 ^ d * 10 ^ k
powers d k s sum = ap (λ (n : ℕ). 10 ^ n) (sym sum) ∙ pow-add 10 d k

whole_of_rest : (m d : ℕ) → m % d ≡ 0 → m / d * d ≡ m
whole_of_rest m d none =
    let parts = div-add-mod m d in
    let turned = mul_comm (m / d) d in
    omega (arith, parts, turned)

-- its units, in parts of 10^scale, are the parts that its digits give
parts_by : (test : Bool) (m s p : ℕ) → nat_le s p ≡ test → (if test then true else eqb (m % 10 ^ (s - p)) 0) ≡ true
    → (if test then m * 10 ^ (p - s) else m / 10 ^ (s - p)) * 10 ^ s ≡ m * 10 ^ p
parts_by true m s p is grid =
    let few : s ≤ p = grind (arith, nat_tests) in
    mul_assoc m (10 ^ (p - s)) (10 ^ s) ∙ ap (λ (n : ℕ). m * n) (sym (powers (p - s) s p (omega arith)))
parts_by false m s p is grid =
    let many : p < s = grind (arith, nat_tests) in
    ap (λ (n : ℕ). m / 10 ^ (s - p) * n) (powers (s - p) p s (omega arith))
    ∙ sym (mul_assoc (m / 10 ^ (s - p)) (10 ^ (s - p)) (10 ^ p))
    ∙ ap (λ (n : ℕ). n * 10 ^ p) (whole_of_rest m (10 ^ (s - p)) (eqb-true (m % 10 ^ (s - p)) 0 grid))

pub parts_whole : (unit : LengthUnit) (n : Num) → is_on_grid unit n ≡ true → whole_units unit n * 10 ^ n.scale ≡ n.mant * 10 ^ places_of unit
parts_whole unit n grid = parts_by (nat_le n.scale (places_of unit)) n.mant n.scale (places_of unit) refl grid

pub signed-times : (neg : Bool) (a b : ℕ) → signed neg (a * b) ≡ signed neg a *ℤ pos b
signed-times false a b = refl
signed-times true a b = sym (neg-mul-ℤ (pos a) (pos b))

pub some_power : (k : ℕ) → 0 < 10 ^ k
some_power k = omega (arith, one-le-pow k 10 (omega arith))

pub at_most : (a b : ℤ) → int_le a b ≡ true → a ≤ℤ b
at_most a b e = omega (e, arith, ints)

-- so it is no lower than a height that its digits reach
over-whole : (unit : LengthUnit) (height : ℤ) (n : Num) → int_le (height *ℤ pos (10 ^ n.scale)) (signed n.neg (n.mant * 10 ^ places_of unit)) ≡ true → is_on_grid unit n ≡ true
    → height ≤ℤ signed n.neg (whole_units unit n)
over-whole unit height n over grid =
    let parts : signed n.neg (n.mant * 10 ^ places_of unit) ≡ signed n.neg (whole_units unit n) *ℤ pos (10 ^ n.scale) =
    ap (signed n.neg) (sym (parts_whole unit n grid)) ∙ signed-times n.neg (whole_units unit n) (10 ^ n.scale) in
    let high : (height *ℤ pos (10 ^ n.scale)) ≤ℤ (signed n.neg (whole_units unit n) *ℤ pos (10 ^ n.scale)) =
    subst (λ (z : ℤ). (height *ℤ pos (10 ^ n.scale)) ≤ℤ z) parts (at_most (height *ℤ pos (10 ^ n.scale)) (signed n.neg (n.mant * 10 ^ places_of unit)) over) in
    let power = some_power n.scale in
    unscaled height (signed n.neg (whole_units unit n)) (pos (10 ^ n.scale)) (omega (arith, ints)) high

-- ---- an axis number

units_over : (height z : ℤ) (grid over : Bool) (w : ℤ) (f g : NgcFault) → (grid ≡ true → height ≤ℤ w)
    → (if not grid then Err f else (if over then Err g else Ok w)) ≡ Ok z → height ≤ℤ z
units_over height z false over w f g high e = absurd cc
units_over height z true true w f g high e = absurd cc
units_over height z true false w f g high e =
    let same : w ≡ z = cc in
    subst (λ (v : ℤ). height ≤ℤ v) same (high refl)

axis_over : (unit : LengthUnit) (line : ℕ) (height z : ℤ) (n : Num) → is_at_or_over unit height n ≡ true → axis_units unit line n ≡ Ok z → height ≤ℤ z
unfolding axis_units
axis_over unit line height z n over e =
    units_over height z (is_on_grid unit n) (nat_lt (greatest_of unit) (whole_units unit n)) (signed n.neg (whole_units unit n)) (fault.OffGrid line) (fault.OutOfRange line)
    (over-whole unit height n over) e

-- ---- the move's end

all_true : (a b c : Bool) → ((a && b) && not c) ≡ true → b ≡ true
all_true true true c e = refl
all_true true false c e = absurd cc
all_true false b c e = absurd cc

none_named : (a b c : Bool) → ((a && b) && not c) ≡ true → c ≡ false
none_named true true false e = refl
none_named true true true e = absurd cc
none_named true false c e = absurd cc
none_named false b c e = absurd cc

over_named : (unit : LengthUnit) (line : ℕ) (here z : ℤ) (n : Option Num) → reaches unit here n ≡ true → coordinate unit line here n ≡ Ok z → here ≤ℤ z
over_named unit line here z None high e = absurd cc
over_named unit line here z (Some n) high e = axis_over unit line here z n high e

over_unnamed : (unit : LengthUnit) (line : ℕ) (here z : ℤ) (n : Option Num) → is_some n ≡ false → coordinate unit line here n ≡ Ok z → here ≤ℤ z
over_unnamed unit line here z None none e =
    let same : here ≡ z = cc in
    subst (λ (v : ℤ). here ≤ℤ v) same (omega (arith, ints))
over_unnamed unit line here z (Some n) none e = absurd cc

over_by : (known : Known) (p : Progress) (s : Said) (z : ℤ) → may_come known p s ≡ true → coordinate p.unit p.line p.here.z s.z ≡ Ok z → (known ≡ All) ⊎ (p.here.z ≤ℤ z)
over_by All p s z may e = inl refl
over_by Height p s z may e = inr (over_unnamed p.unit p.line p.here.z z s.z (none_named (is_rapid p.mode) (is_some s.x && is_some s.y) (is_some s.z) may) e)
over_by Nothing p s z may e = inr (over_named p.unit p.line p.here.z z s.z (all_true (is_rapid p.mode) (reaches p.unit p.here.z s.z) (is_some s.x || is_some s.y) may) e)

-- the third coordinate is the end's z
pub end_z : (rx ry rz : Result ℤ NgcFault) (to : Pt3) → (rx >>= λ x. ry >>= λ y. rz >>= λ z. Ok (record { x = x; y = y; z = z })) ≡ Ok to → rz ≡ Ok to.z
end_z (Err f) ry rz to e = absurd cc
end_z (Ok x) (Err f) rz to e = absurd cc
end_z (Ok x) (Ok y) (Err f) to e = absurd cc
end_z (Ok x) (Ok y) (Ok z) to e = cc

-- where such a line may come, it leads to no lower place, unless the place is known already
pub rises : (p : Progress) (s : Said) (to : Pt3) → may_come (known_of p) p s ≡ true → target p s ≡ Ok to → (known_of p ≡ All) ⊎ (p.here.z ≤ℤ to.z)
unfolding target
rises p s to may e =
    over_by (known_of p) p s to.z may (end_z (coordinate p.unit p.line p.here.x s.x) (coordinate p.unit p.line p.here.y s.y) (coordinate p.unit p.line p.here.z s.z) to e)
