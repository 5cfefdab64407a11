-- A hole that a line may drill is one that goes down in range, and its moves are kept.
use Rattle.std.proofs.Common.{Err, ◌≡◌, ℕ, ◌+◌, ◌≤◌, Bool, true, false, Option, Some, None, Result, Ok, List, [], ◌∷◌, ◌++◌, length, refl, sym, subst, ◌∙◌, arith, inl}
use Rattle.std.proofs.lemmas.Bool.Decides.{nat_tests}
use Rattle.std.proofs.lemmas.Int.{ints}
use Rattle.std.specs.Prelude.{⊤, ℤ, pos, ◌≤ℤ◌, ◌&&◌, ◌||◌, cond, int_lt, nat_lt, not}
use Rattle.mill_base.specs.Motion.{Follow}
use Rattle.mill_base.specs.Numbers.{Within, greater}
use Rattle.mill_base.specs.Ranges.{IsInUnitRange, MovesInUnitRange}
use Rattle.mill_base.specs.Units.{greatest_of}
use Rattle.mill_base.specs.declared.limits.TheConstants.{MAX_MOVES}
use Rattle.mill_base.specs.declared.motion.Move.{Move}
use Rattle.mill_base.specs.declared.points.Pt3.{Pt3}
use Rattle.mill_base.specs.declared.unit.Unit.{Unit as LengthUnit}
use Rattle.mill_words.specs.declared.word.Num.{Num}
use Rattle.mill_control.proofs.Going.{hole_goes_on}
use Rattle.mill_control.specs.Drilled.{GoesOn, IsHole, ends_at}
use Rattle.mill_control.specs.Holes.{crosses_alike, clearance_of, goes_down, hole_end, hole_moves, is_positive, is_whole_series, may_drill, pecks, returns_alike}
use Rattle.mill_control.specs.Lengths.{exact, rounded}
use Rattle.mill_control.specs.declared.hole.Hole.{Hole}
use Rattle.mill_control.specs.declared.series.Cycle.{Cycle}
use Rattle.mill_control.specs.declared.series.Return.{Return}
use Rattle.mill_control.specs.declared.series.Return.TheVariants.{Level, Clearance}
use Rattle.mill_control.specs.declared.series.Series.{Series}
use Rattle.mill_control.specs.Drilled.{FitsSeries}
use Rattle.mill_block.specs.Kept.{Adds, begins}
use Rattle.mill_block.specs.MachineLines.{coordinate_for, drilled, hole_for, hole_of, hole_z, peck_fits, returns_or}
use Rattle.mill_block.specs.MachineSettings.{per_of}
use Rattle.mill_said.specs.Said.{◌>>=◌}
use Rattle.mill_said.specs.declared.fault.NgcFault.{NgcFault}
use Rattle.mill_said.specs.declared.machine_said.MachineSaid.{MachineSaid}
use Rattle.mill_block.specs.Motion.{known_of}
use Rattle.mill_block.specs.declared.progress.Known.TheVariants.{All}
use Rattle.mill_block.specs.declared.progress.Progress.{Progress}
use Rattle.mill_said.specs.declared.rules.Control.{Control}
use Rattle.mill_block.proofs.NamingLemmas.{units-are}
use Rattle.mill_block.proofs.RiseLemmas.{at_most}

-- ---- what may be drilled

first-of : (a b : Bool) → (a && b) ≡ true → a ≡ true
first-of true b e = refl
first-of false b e = absurd cc

second-of : (a b : Bool) → (a && b) ≡ true → b ≡ true
second-of true b e = e
second-of false b e = absurd cc

bites : (a b : Bool) → (not a || b) ≡ true → a ≡ true → b ≡ true
bites true b e is = e
bites false b e is = absurd cc

greater-within : (g : ℕ) (a b : ℤ) → Within g a → Within g b → Within g (greater a b)
greater-within g a b one two = by (int_lt a b)
  where
    by : (c : Bool) → Within g (cond c b a)
    by true = two
    by false = one

-- back to the level only where the tool is there
end-within : (g : ℕ) (returns : Option Return) (level z top : ℤ) → returns_alike returns level z ≡ true → Within g z → Within g top → Within g (hole_z level (returns_or returns) top)
end-within g None level z top alike here high = absurd cc
end-within g (Some Clearance) level z top alike here high = high
end-within g (Some Level) level z top alike here high =
    let same : z ≡ level = grind (arith, ints) in
    greater-within g top level high (subst (λ (a : ℤ). Within g a) same here)

rounded-within : (c : Control) (p : Progress) (g : ℕ) (here z : ℤ) (n : Num) → coordinate_for c p here (Some n) ≡ Ok z → Within g z → Within g (rounded (per_of p) n)
rounded-within c p g here z n is within = subst (λ (a : ℤ). Within g a) (sym (units-are c p n z is)) within

hole-by : (c : Control) (p : Progress) (level : ℤ) (cycle : Cycle) (r z q : Option Num) (x y bottom top : ℤ) (cross alike : Bool)
    → FitsSeries (record { level = level; cycle = cycle; r = r; z = z; q = q }) → IsInUnitRange p.unit p.here → pos c.peck_clearance ≤ℤ pos 65535
    → goes_down r z ≡ true → (pecks cycle ≡ true → is_positive q ≡ true) → returns_alike p.machine.returns level p.here.z ≡ true
    → Within (greatest_of p.unit) x → Within (greatest_of p.unit) y → coordinate_for c p p.here.z z ≡ Ok bottom → Within (greatest_of p.unit) bottom
    → coordinate_for c p p.here.z r ≡ Ok top → Within (greatest_of p.unit) top → IsHole (hole_of c p (record { level = level; cycle = cycle; r = r; z = z; q = q }) x y top)
hole-by c p level cycle None z q x y bottom top cross alike fits here most down bite back xw yw zi zw ti tw = absurd cc
hole-by c p level cycle (Some r) None q x y bottom top cross alike fits here most down bite back xw yw zi zw ti tw = absurd cc
hole-by c p level cycle (Some r) (Some z) q x y bottom top cross alike fits here most down bite back xw yw zi zw ti tw =
    let high : Within (greatest_of p.unit) (rounded (per_of p) r) = rounded-within c p (greatest_of p.unit) p.here.z top r ti tw in
    record {
      r_fits = fits.r_fits;
      z_fits = fits.z_fits;
      q_fits = fits.q_fits;
      down = at_most (exact z) (exact r) down;
      bite = bite;
      from = here;
      over = record { x_ok = xw; y_ok = yw; z_ok = greater-within (greatest_of p.unit) p.here.z (rounded (per_of p) r) here.z_ok high };
      top = high;
      bottom = rounded-within c p (greatest_of p.unit) p.here.z bottom z zi zw;
      end = end-within (greatest_of p.unit) p.machine.returns level p.here.z top back here.z_ok tw;
      least = omega (arith, ints);
      most = most;
    }

-- where a line may drill, and its numbers are in range, its hole is one
pub is_hole : (c : Control) (p : Progress) (v : Series) (rx ry x y bottom top : ℤ) → FitsSeries v → IsInUnitRange p.unit p.here → pos c.peck_clearance ≤ℤ pos 65535
    → may_drill v p.machine.returns (per_of p) p.here rx ry ≡ true
    → Within (greatest_of p.unit) x → Within (greatest_of p.unit) y → coordinate_for c p p.here.z v.z ≡ Ok bottom → Within (greatest_of p.unit) bottom
    → coordinate_for c p p.here.z v.r ≡ Ok top → Within (greatest_of p.unit) top → IsHole (hole_of c p v x y top)
is_hole c p v rx ry x y bottom top fits here most may xw yw zi zw ti tw =
    let cross = crosses_alike (clearance_of (per_of p) v.r) p.here rx ry in
    let alike = returns_alike p.machine.returns v.level p.here.z in
    let whole : is_whole_series v ≡ true = first-of (is_whole_series v) (cross && alike) may in
    let back : returns_alike p.machine.returns v.level p.here.z ≡ true = second-of cross alike (second-of (is_whole_series v) (cross && alike) may) in
    let down : goes_down v.r v.z ≡ true = first-of (goes_down v.r v.z) (not (pecks v.cycle) || is_positive v.q) whole in
    let bite : pecks v.cycle ≡ true → is_positive v.q ≡ true = bites (pecks v.cycle) (is_positive v.q) (second-of (goes_down v.r v.z) (not (pecks v.cycle) || is_positive v.q) whole) in
    hole-by c p v.level v.cycle v.r v.z v.q x y bottom top cross alike fits here most down bite back xw yw zi zw ti tw

-- it is that of the line
pub hole_is : (c : Control) (p : Progress) (s : MachineSaid) (v : Series) (x y bottom top : ℤ) → coordinate_for c p p.here.x s.x ≡ Ok x → coordinate_for c p p.here.y s.y ≡ Ok y
    → coordinate_for c p p.here.z v.z ≡ Ok bottom → coordinate_for c p p.here.z v.r ≡ Ok top → peck_fits c p s.q ≡ Ok tt → hole_for c p s v ≡ Ok (hole_of c p v x y top)
unfolding hole_for
hole_is c p s v x y bottom top at-x at-y low high peck =
    by (coordinate_for c p p.here.x s.x) (coordinate_for c p p.here.y s.y) (coordinate_for c p p.here.z v.z) (coordinate_for c p p.here.z v.r) (peck_fits c p s.q) at-x at-y low high peck
  where
    by : (a b d e : Result ℤ NgcFault) (q : Result ⊤ NgcFault) → a ≡ Ok x → b ≡ Ok y → d ≡ Ok bottom → e ≡ Ok top → q ≡ Ok tt
        → (a >>= λ x. b >>= λ y. d >>= λ z. e >>= λ top. q >>= λ _. Ok (hole_of c p v x y top)) ≡ Ok (hole_of c p v x y top)
    by a b d e q i j k l m = rw (i, j, k, l, m) refl

pub hole_off : (c : Control) (p : Progress) (s : MachineSaid) (v : Series) (x y bottom top : ℤ) (f : NgcFault) → coordinate_for c p p.here.x s.x ≡ Ok x → coordinate_for c p p.here.y s.y ≡ Ok y
    → coordinate_for c p p.here.z v.z ≡ Ok bottom → coordinate_for c p p.here.z v.r ≡ Ok top → peck_fits c p s.q ≡ Err f → hole_for c p s v ≡ Err f
unfolding hole_for
hole_off c p s v x y bottom top f at-x at-y low high peck =
    by (coordinate_for c p p.here.x s.x) (coordinate_for c p p.here.y s.y) (coordinate_for c p p.here.z v.z) (coordinate_for c p p.here.z v.r) (peck_fits c p s.q) at-x at-y low high peck
  where
    by : (a b d e : Result ℤ NgcFault) (q : Result ⊤ NgcFault) → a ≡ Ok x → b ≡ Ok y → d ≡ Ok bottom → e ≡ Ok top → q ≡ Err f
        → (a >>= λ x. b >>= λ y. d >>= λ z. e >>= λ top. q >>= λ _. Ok (hole_of c p v x y top)) ≡ Err f
    by a b d e q i j k l m = rw (i, j, k, l, m) refl

-- ---- its moves

begins-all : (p : Progress) (there : Pt3) → known_of p ≡ All → begins (known_of p) p.here there ≡ p.here
begins-all p there known = rw known refl

-- they are added to those before
pub drilled_adds : (old new : Progress) (v : Series) (h : Hole) (moves more : List Move) → IsHole h → known_of old ≡ All → h.from ≡ old.here → h.unit ≡ old.unit
    → old.moves + length (hole_moves h) ≤ MAX_MOVES
    → new ≡ record old { here = hole_end h; positioned = true; moves = old.moves + length (hole_moves h); machine = record old.machine { series = Some v } }
    → more ≡ moves ++ hole_moves h → Adds (drilled old v h) old moves new more
drilled_adds old new v h moves more is known from unit few new_is more_is =
    let goes : GoesOn h = hole_goes_on h is in
    let fit : nat_lt MAX_MOVES (old.moves + length (hole_moves h)) ≡ false = grind (arith, nat_tests) in
    let begin : begins (known_of old) old.here (hole_end h) ≡ old.here = begins-all old (hole_end h) known in
    rw new_is (record {
      made = hole_moves h;
      told = rw fit refl;
      added = more_is;
      keeps = record {
        follow = rw begin (subst (λ (at : Pt3). Follow at (hole_moves h)) from goes.follow);
        end = rw begin (subst (λ (at : Pt3). ends_at at (hole_moves h) ≡ hole_end h) from goes.last);
        known = λ _. known;
        none = inl known;
        rises = inl known;
        same_clear = refl;
        same_rules = refl;
        in_range = subst (λ (u : LengthUnit). MovesInUnitRange u (hole_moves h)) unit goes.in_range;
        here = subst (λ (u : LengthUnit). IsInUnitRange u (hole_end h)) unit (record { x_ok = is.over.x_ok; y_ok = is.over.y_ok; z_ok = is.end });
        count = refl;
        few = λ _. few;
        same_unit = refl;
        same_line = refl;
      };
    })
