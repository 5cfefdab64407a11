-- An arc's line leads to where its numbers are rounded to: its last chord ends there.
use Rattle.std.proofs.Common.{◌≡◌, ℕ, zero, suc, ◌+◌, ◌-◌, ◌*◌, ◌/◌, ◌%◌, ◌^◌, ◌<◌, ◌≤◌, Bool, true, false, Option, Some, None, Result, Ok, Err, List, [], ◌∷◌, refl, sym, ap, ◌∙◌, arith, inl, inr}
use Rattle.std.proofs.Math.Nat.{div-div-eq-div-mul, div-eq_of_lt-le, mod-eq-sub-mul-div, mul-div-le, mul-div_cancel}
use Rattle.std.proofs.lemmas.Bool.{and_parts}
use Rattle.std.proofs.lemmas.Bool.Decides.{nat_tests}
use Rattle.std.proofs.lemmas.Int.{ints}
use Rattle.std.specs.Prelude.{ℤ, pos, negsuc, nat_abs, neg_ℤ, ◌+ℤ◌, ◌-ℤ◌, ◌*ℤ◌, ◌<ℤ◌, ◌≤ℤ◌, ◌⊎◌, ◌==◌, ◌&&◌, ◌||◌, not, if◌then◌else◌, int_le, int_lt, map, IfSome}
use Rattle.mill_base.specs.Numbers.{Within}
use Rattle.mill_base.specs.declared.motion.Move.{Move}
use Rattle.mill_base.specs.declared.points.Pt3.{Pt3}
use Rattle.mill_base.specs.declared.unit.Unit.{Unit}
use Rattle.mill_base.specs.declared.unit.Unit.TheVariants.{Hundredth, Thousandth}
use Rattle.mill_words.specs.Words.{FitsNum}
use Rattle.mill_words.specs.declared.word.Num.{Num}
use Rattle.mill_arc.proofs.Evenness.{parts_are_turn}
use Rattle.mill_arc.proofs.Heights.{last_height_is_end}
use Rattle.mill_arc.proofs.Parted.{arc_parted, parted_end}
use Rattle.mill_arc.proofs.Decided.{lt_true}
use Rattle.mill_arc.specs.Arcs.{is_sound, nanometres_of}
use Rattle.mill_arc.specs.Chords.{chords_of, end_of, start_of, turn_of}
use Rattle.mill_arc.specs.Places.{height_of, nearest_up, place_of}
use Rattle.mill_arc.specs.Places.{nearest as near}
use Rattle.mill_arc.specs.Sectors.{end_from}
use Rattle.mill_arc.specs.Turns.{GoesOn}
use Rattle.mill_arc.specs.declared.chords.Chord.{Chord}
use Rattle.mill_arc.specs.declared.vectors.Vector.{Vector}
use Rattle.mill_control.proofs.Nearest.{nearest-zero, rounded-parts}
use Rattle.mill_control.specs.Drilled.{ends_at}
use Rattle.mill_control.specs.Lengths.{exact, is_below_zero, rounded, rounded_parts, signed}
use Rattle.mill_control.specs.Unrounded.{is_nano, nano_of, nano_parts, parts, text_units}
use Rattle.mill_control.specs.declared.turn.Plane.{Plane}
use Rattle.mill_control.specs.declared.turn.Plane.TheVariants.{Xy, Yz, Zx}
use Rattle.mill_control.specs.Planes.{first_of, second_of}
use Rattle.mill_control.specs.declared.turn.Turn.{Turn}
use Rattle.mill_block.proofs.ArcNumbers.{ends_are, words_show}
use Rattle.mill_block.proofs.NamingLemmas.{units-are}
use Rattle.mill_block.specs.Kept.{FitsFiner, HALF}
use Rattle.mill_block.specs.MachineArcs.{along, chord_end, fed, half, in_plane, is_rounded, minus, nano_place, out_of, place_in, sweep_of, words_fit}
use Rattle.mill_block.specs.MachineLines.{chords_or, coordinate_for, points_of, target_for, turned, went_round}
use Rattle.mill_block.specs.MachineSettings.{per_of}
use Rattle.mill_block.specs.TextPlaces.{exact_here, text_or, text_target}
use Rattle.mill_block.specs.declared.machine_arc.Sweep.{Sweep}
use Rattle.mill_block.specs.declared.progress.Progress.{Progress}
use Rattle.mill_said.specs.Bounds.{FitsTold}
use Rattle.mill_said.specs.Said.{◌>>=◌}
use Rattle.mill_said.specs.declared.fault.NgcFault.{NgcFault}
use Rattle.mill_said.specs.declared.fault.NgcFault.TheVariants as fault
use Rattle.mill_said.specs.declared.machine_said.MachineSaid.{MachineSaid}
use Rattle.mill_said.specs.declared.rules.Control.{Control}

-- ---- numbers rounded to the nearest, over denominators

up-wider : (a n c : ℕ) → 0 < n → 0 < c → nearest_up (a * c) (c * n) ≡ nearest_up a n
up-wider a n c some more =
    let over : 2 * (a * c) + c * n ≡ (2 * a + n) * c = omega arith in
    let under : 2 * (c * n) ≡ c * (2 * n) = omega arith in
    ap (λ t. t / (2 * (c * n))) over ∙ ap (λ t. ((2 * a + n) * c) / t) under ∙ sym (div-div-eq-div-mul ((2 * a + n) * c) c (2 * n))
    ∙ ap (λ t. t / (2 * n)) (mul-div_cancel (2 * a + n) {n = c} more)

near-neg : (k m : ℕ) → 0 < m → near (neg_ℤ (pos k)) m ≡ neg_ℤ (pos (nearest_up k m))
unfolding near
near-neg zero m some = ap pos (nearest-zero m some) ∙ sym (ap (λ (t : ℕ). neg_ℤ (pos t)) (nearest-zero m some))
near-neg (suc k) m some = refl

near-wider : (z : ℤ) (n c : ℕ) → 0 < n → 0 < c → 0 < c * n → near (z *ℤ pos c) (c * n) ≡ near z n
unfolding near
near-wider (pos a) n c some more both = ap pos (up-wider a n c some more)
near-wider (negsuc a) n c some more both = near-neg (suc a * c) (c * n) both ∙ ap (λ (t : ℕ). neg_ℤ (pos t)) (up-wider (suc a) n c some more)

-- ---- of whole nanometres

div-times : (k g : ℕ) → (k % g == 0) ≡ true → (k / g) * g ≡ k
div-times k g e = by k (k / g) g (k % g) (mul-div-le k g) (mod-eq-sub-mul-div k g) e
  where
    by : (k q g r : ℕ) → g * q ≤ k → r ≡ k - g * q → (r == 0) ≡ true → q * g ≡ k
    by k q g r le is none = let over : r ≡ 0 = zero-is r none in omega arith
      where
        zero-is : (r : ℕ) → (r == 0) ≡ true → r ≡ 0
        zero-is r e = grind (arith, nat_tests)

neg-times : (q g k : ℕ) → q * g ≡ suc k → neg_ℤ (pos q) *ℤ pos g ≡ negsuc k
neg-times zero g k e = absurd (omega arith)
neg-times (suc q) g k e = ap (λ (t : ℕ). neg_ℤ (pos t)) e

parts-times : (g : ℕ) (t : ℤ) → (nat_abs t % g == 0) ≡ true → signed (is_below_zero t) (nat_abs t / g) *ℤ pos g ≡ t
parts-times g (pos k) e = ap pos (div-times k g e)
parts-times g (negsuc k) e = neg-times (suc k / g) g k (div-times (suc k) g e)

abbrev in_nano : Unit → ℕ
in_nano unit = nat_abs (nanometres_of unit)

near-nano : (unit : Unit) (t : ℤ) → is_nano unit t ≡ true → near (nano_of unit t) (in_nano unit) ≡ near t (10 ^ 18)
near-nano unit t e =
    sym (near-wider (nano_of unit t) (in_nano unit) (nano_parts unit) (some unit) (more unit) (both unit))
    ∙ ap (λ z. near z (nano_parts unit * in_nano unit)) (parts-times (nano_parts unit) t e) ∙ ap (λ (n : ℕ). near t n) (whole unit)
  where
    some : (unit : Unit) → 0 < in_nano unit
    some Hundredth = omega arith
    some Thousandth = omega arith

    more : (unit : Unit) → 0 < nano_parts unit
    more Hundredth = omega arith
    more Thousandth = omega arith

    both : (unit : Unit) → 0 < nano_parts unit * in_nano unit
    both Hundredth = omega arith
    both Thousandth = omega arith

    whole : (unit : Unit) → nano_parts unit * in_nano unit ≡ 10 ^ 18
    whole Hundredth = refl
    whole Thousandth = refl

near-parts : (per : ℕ) (z : ℤ) → rounded_parts per z ≡ near (z *ℤ pos per) (10 ^ 18)
unfolding rounded_parts near
near-parts per (pos a) = refl
near-parts per (negsuc a) = sym (near-neg (suc a * per) (10 ^ 18) (omega arith))

-- ---- of a coordinate that stays

either : (a b : Bool) → (a || b) ≡ true → (a ≡ true) ⊎ (b ≡ true)
either true b e = inl refl
either false b e = inr e

-- units with so much beside them
pub record StaysAt (u f : ℤ) : Type 0 where
  pub least : neg_ℤ half ≤ℤ f
  pub most : f ≤ℤ half
  pub over : ((pos 0) ≤ℤ u) → f <ℤ half
  pub under : (u ≤ℤ pos 0) → neg_ℤ half <ℤ f

stays-at : (u f : ℤ) → Within HALF f → is_rounded u f ≡ true → StaysAt u f
unfolding is_rounded
stays-at u f h e =
    let both = and_parts (int_lt f half || int_lt u (pos 0)) (int_lt (neg_ℤ half) f || int_lt (pos 0) u) e in
    record {
      least = omega (arith, ints, h.within);
      most = omega (arith, ints, h.within);
      over = λ some. elim (either (int_lt f half) (int_lt u (pos 0)) both.0) [ inl a ↦ lt_true f half a | inr b ↦ absurd (never u (lt_true u (pos 0) b) some) ];
      under = λ none. elim (either (int_lt (neg_ℤ half) f) (int_lt (pos 0) u) both.1) [ inl a ↦ lt_true (neg_ℤ half) f a | inr b ↦ absurd (ever u (lt_true (pos 0) u b) none) ];
    }
  where
    never : (u : ℤ) → u <ℤ pos 0 → (pos 0) ≤ℤ u → ⊥
    never u a b = omega (arith, ints)

    ever : (u : ℤ) → (pos 0) <ℤ u → u ≤ℤ pos 0 → ⊥
    ever u a b = omega (arith, ints)

near-at : (t u f : ℤ) → t ≡ (parts *ℤ u) +ℤ f → StaysAt u f → near t (10 ^ 18) ≡ u
unfolding near
near-at (pos m) (pos a) f e h =
    let least = h.least in
    let less = h.over (omega (arith, ints)) in
    ap pos (div-eq_of_lt-le {k = a} (2 * 10 ^ 18) {m = 2 * m + 10 ^ 18} (omega (arith, ints)) (omega (arith, ints)))
near-at (pos m) (negsuc a) f e h = let most = h.most in absurd (omega (arith, ints))
near-at (negsuc m) (pos zero) f e h =
    let more = h.under (omega (arith, ints)) in
    ap (λ (n : ℕ). neg_ℤ (pos n)) (div-eq_of_lt-le {k = 0} (2 * 10 ^ 18) {m = 2 * suc m + 10 ^ 18} (omega (arith, ints)) (omega (arith, ints)))
near-at (negsuc m) (pos (suc a)) f e h = let least = h.least in absurd (omega (arith, ints))
near-at (negsuc m) (negsuc a) f e h =
    let most = h.most in
    let more = h.under (omega (arith, ints)) in
    ap (λ (n : ℕ). neg_ℤ (pos n)) (div-eq_of_lt-le {k = suc a} (2 * 10 ^ 18) {m = 2 * suc m + 10 ^ 18} (omega (arith, ints)) (omega (arith, ints)))

-- a coordinate of the line's end
near-end : (c : Control) (p : Progress) (here f z : ℤ) (num : Option Num) → IfSome num (FitsNum 18) → Within HALF f → is_rounded here f ≡ true → coordinate_for c p here num ≡ Ok z
    → is_nano p.unit (text_or (per_of p) ((parts *ℤ here) +ℤ f) num) ≡ true → near (nano_of p.unit (text_or (per_of p) ((parts *ℤ here) +ℤ f) num)) (in_nano p.unit) ≡ z
near-end c p here f z None fits beside stays e nano =
    let same : here ≡ z = cc in
    near-nano p.unit ((parts *ℤ here) +ℤ f) nano ∙ near-at ((parts *ℤ here) +ℤ f) here f refl (stays-at here f beside stays) ∙ same
near-end c p here f z (Some n) fits beside stays e nano =
    near-nano p.unit (text_units (per_of p) n) nano ∙ sym (near-parts (per_of p) (exact n)) ∙ sym (rounded-parts (per_of p) n fits) ∙ units-are c p n z e

-- ---- the last chord

record Last (f : Chord → Pt3) (p : Pt3) (u : Vector) (cs : List Chord) : Type 0 where
  chord : Chord
  here : ends_at p (fed p (map f cs)) ≡ f chord
  node : chord.node ≡ end_from u cs
  part : chord.part ≡ 2 ^ chord.depth

last-of : (f : Chord → Pt3) (p : Pt3) (u : Vector) (part depth : ℕ) (c : Chord) (cs : List Chord) → GoesOn part depth (c ∷ cs) → Last f p u (c ∷ cs)
last-of f p u part depth c [] on = record { chord = c; here = refl; node = refl; part = on.1 }
last-of f p u part depth c (d ∷ cs) on =
    let more = last-of f (f c) c.node c.part c.depth d cs on.1 in
    record { chord = more.chord; here = more.here; node = more.node; part = more.part }

last-chord : (f : Chord → Pt3) (p : Pt3) (u : Vector) (cs : List Chord) → GoesOn 0 0 cs → Last f p u cs
last-chord f p u [] on = absurd (none on)
  where
    none : 0 ≡ 2 ^ 0 → ⊥
    none e = omega arith
last-chord f p u (c ∷ cs) on = last-of f p u 0 0 c cs on

abbrev point : ℤ → ℤ → ℤ → Pt3
point x y z = record { x = x; y = y; z = z }

point-by : {a b d e f g : ℤ} → a ≡ e → b ≡ f → d ≡ g → point a b d ≡ point e f g
point-by i j k = rw (i, j, k) refl

back : (k e : ℤ) → k +ℤ (e -ℤ k) ≡ e
back k e = omega (arith, ints)

abbrev rounded_at : Unit → Pt3 → Pt3
rounded_at unit q = point (near q.x (in_nano unit)) (near q.y (in_nano unit)) (near q.z (in_nano unit))

-- the end of a chord that leads to the end of the turn
ends-there : (unit : Unit) (plane : Plane) (q : Pt3) (k : Vector) (from : ℤ) (node : Vector) (part depth : ℕ) → node ≡ minus (in_plane plane q) k → part ≡ 2 ^ depth
    → out_of plane (place_in unit k node) (height_of unit from (along plane q) part depth) ≡ rounded_at unit q
ends-there unit plane q k from node part depth at whole =
    let first : place_of unit k.first node.first ≡ near (first_of plane q.x q.y q.z) (in_nano unit) =
    ap (λ (v : Vector). place_of unit k.first v.first) at ∙ ap (λ z. near z (in_nano unit)) (back k.first (first_of plane q.x q.y q.z)) in
    let second : place_of unit k.second node.second ≡ near (second_of plane q.x q.y q.z) (in_nano unit) =
    ap (λ (v : Vector). place_of unit k.second v.second) at ∙ ap (λ z. near z (in_nano unit)) (back k.second (second_of plane q.x q.y q.z)) in
    let third : height_of unit from (along plane q) part depth ≡ near (along plane q) (in_nano unit) =
    ap (λ (n : ℕ). height_of unit from (along plane q) n depth) whole ∙ last_height_is_end unit from (along plane q) depth in
    by plane first second third
  where
    by : (plane : Plane) {a b d : ℤ} → a ≡ near (first_of plane q.x q.y q.z) (in_nano unit) → b ≡ near (second_of plane q.x q.y q.z) (in_nano unit) → d ≡ near (along plane q) (in_nano unit)
        → out_of plane (record { first = a; second = b }) d ≡ rounded_at unit q
    by Xy i j l = point-by i j l
    by Zx i j l = point-by j l i
    by Yz i j l = point-by l i j

-- ---- what an arc's line has done

record Chorded (p : Progress) (w : Sweep) (o : Option (List Chord)) (points : List Pt3) : Type 0 where
  chords : List Chord
  some : o ≡ Some chords
  are : map (chord_end p.machine.plane w) chords ≡ points

ok-same : {A : Type 0} (a b : A) (f : NgcFault) (t : Bool) → (if t then Ok a else Err f) ≡ Ok b → a ≡ b
ok-same a b f true e = cc
ok-same a b f false e = absurd cc

chorded : (p : Progress) (w : Sweep) (sound : Bool) (o : Option (List Chord)) (points : List Pt3) → (if not sound then Err (fault.Arc p.line) else chords_or p w o) ≡ Ok points → Chorded p w o points
chorded p w false o points e = absurd cc
chorded p w true None points e = absurd cc
chorded p w true (Some chords) points e =
    record { chords = chords; some = refl; are = ok-same (map (chord_end p.machine.plane w) chords) points (fault.OutOfRange p.line) _ e }

points-chorded : (p : Progress) (w : Sweep) (points : List Pt3) → points_of p w ≡ Ok points → Chorded p w (chords_of w.arc) points
unfolding points_of
points-chorded p w points e = chorded p w (is_sound w.arc) (chords_of w.arc) points e

record Turned (words : Bool) (r : Result Pt3 NgcFault) (q : Result (List Pt3) NgcFault) (k : List Pt3 → Result (Progress × List Move) NgcFault) (done : Progress × List Move) : Type 0 where
  to : Pt3
  points : List Pt3
  fit : words ≡ true
  leads : r ≡ Ok to
  are : q ≡ Ok points
  went : k points ≡ Ok done

turned-by : (wide words : Bool) (f g : NgcFault) (r : Result Pt3 NgcFault) (q : Result (List Pt3) NgcFault) (k : List Pt3 → Result (Progress × List Move) NgcFault) (done : Progress × List Move)
    → (if wide then Err f else (if not words then Err g else (r >>= λ to. q >>= λ points. k points))) ≡ Ok done → Turned words r q k done
turned-by true words f g r q k done e = absurd cc
turned-by false false f g r q k done e = absurd cc
turned-by false true f g (Err h) q k done e = absurd cc
turned-by false true f g (Ok to) (Err h) k done e = absurd cc
turned-by false true f g (Ok to) (Ok points) k done e = record { to = to; points = points; fit = refl; leads = refl; are = refl; went = e }

has-turned : (c : Control) (p : Progress) (s : MachineSaid) (turn : Turn) (done : Progress × List Move) → turned c p s turn ≡ Ok done
    → Turned (words_fit c p s) (target_for c p s) (points_of p (sweep_of c p s turn)) (λ points. went_round p points) done
unfolding turned
has-turned c p s turn done e =
    turned-by (int_le (pos 0) c.arc_room && p.machine.wide_path) (words_fit c p s) (fault.PathControl p.line) (fault.Arc p.line) (target_for c p s) (points_of p (sweep_of c p s turn)) (λ points. went_round p points) done e

ok-here : (a b : Progress × List Move) (f : NgcFault) (t : Bool) → (if t then Err f else Ok a) ≡ Ok b → b.0.here ≡ a.0.here
ok-here a b f true e = absurd cc
ok-here a b f false e = let same : b ≡ a = cc in ap (λ (d : Progress × List Move). d.0.here) same

went-here : (p : Progress) (points : List Pt3) (done : Progress × List Move) → went_round p points ≡ Ok done → done.0.here ≡ ends_at p.here (fed p.here points)
went-here p points done e = ok-here _ done (fault.TooManyMoves p.line) _ e

-- its end by its own numbers
rounds-to : (c : Control) (p : Progress) (s : MachineSaid) (to : Pt3) → FitsTold s → FitsFiner p.machine.finer → words_fit c p s ≡ true → target_for c p s ≡ Ok to
    → rounded_at p.unit (nano_place p.unit (text_target p (exact_here p) s)) ≡ to
rounds-to c p s to told finer fit leads =
    let shows = words_show c p s fit in
    let ends = ends_are c p s to leads in
    let at = text_target p (exact_here p) s in
    let f = p.machine.finer in
    let nano-x = and_parts (is_nano p.unit at.x) (is_nano p.unit at.y && is_nano p.unit at.z) shows.«end» in
    let nano-yz = and_parts (is_nano p.unit at.y) (is_nano p.unit at.z) nano-x.1 in
    let stay-x = and_parts (is_rounded p.here.x f.x) (is_rounded p.here.y f.y && is_rounded p.here.z f.z) shows.rounded in
    let stay-yz = and_parts (is_rounded p.here.y f.y) (is_rounded p.here.z f.z) stay-x.1 in
    point-by (near-end c p p.here.x f.x to.x s.x told.x_fits finer.x_fits stay-x.0 ends.x_is nano-x.0)
    (near-end c p p.here.y f.y to.y s.y told.y_fits finer.y_fits stay-yz.0 ends.y_is nano-yz.0)
    (near-end c p p.here.z f.z to.z s.z told.z_fits finer.z_fits stay-yz.1 ends.z_is nano-yz.1)

pub arc_ends : (c : Control) (p : Progress) (s : MachineSaid) (turn : Turn) (done : Progress × List Move) → FitsTold s → FitsFiner p.machine.finer → turned c p s turn ≡ Ok done → target_for c p s ≡ Ok done.0.here
arc_ends c p s turn done told finer e =
    let w = sweep_of c p s turn in
    let it = has-turned c p s turn done e in
    let chain = points-chorded p w it.points it.are in
    let last = last-chord (chord_end p.machine.plane w) p.here w.arc.start chain.chords (parts_are_turn w.arc chain.chords chain.some) in
    let q = nano_place p.unit (text_target p (exact_here p) s) in
    let node = last.node ∙ parted_end (turn_of w.arc) (start_of w.arc) (end_of w.arc) chain.chords (arc_parted w.arc chain.chords chain.some) in
    let there = ends-there p.unit p.machine.plane q w.centre w.from last.chord.node last.chord.part last.chord.depth node last.part in
    let here : done.0.here ≡ it.to =
    went-here p it.points done it.went ∙ ap (λ (ps : List Pt3). ends_at p.here (fed p.here ps)) (sym chain.are) ∙ last.here ∙ there ∙ rounds-to c p s it.to told finer it.fit it.leads in
    it.leads ∙ ap Ok (sym here)
