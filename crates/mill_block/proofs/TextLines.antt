-- The list's moves of a whole line for a machine are the ways that its own numbers give, rounded, or exactly these where nothing is rounded.
use Rattle.std.proofs.Common.{◌≡◌, ℕ, ◌+◌, ◌^◌, Bool, true, false, Option, Some, None, Result, Ok, Err, List, [], length, refl, sym, subst, arith}
use Rattle.std.proofs.lemmas.Int.{ints}
use Rattle.std.specs.Prelude.{⊤, ℤ, pos, int_le, nat_le, not, ◌&&◌, ◌||◌, nat_lt, IfSome, if◌then◌else◌}
use Rattle.mill_base.specs.Rounded.{AreRounded, IsRounded, IsRoundedTo}
use Rattle.mill_base.specs.declared.limits.TheConstants.{MAX_MOVES}
use Rattle.mill_base.specs.declared.motion.Kind.TheVariants.{Feed}
use Rattle.mill_base.specs.declared.motion.Move.{Move}
use Rattle.mill_base.specs.declared.points.Pt3.{Pt3}
use Rattle.mill_words.specs.Words.{FitsNum}
use Rattle.mill_words.specs.declared.word.Num.{Num}
use Rattle.mill_control.specs.Drilled.{FitsSeries, ends_at}
use Rattle.mill_control.specs.Holes.{begun, clearance_of, crosses_alike, goes_down, hole_end, hole_moves, is_positive, is_whole_series, later, pecks, returns_alike, same_cycle}
use Rattle.mill_control.specs.Offsets.{may_name}
use Rattle.mill_control.specs.Places.{allows}
use Rattle.mill_control.specs.declared.hole.Hole.{Hole}
use Rattle.mill_control.specs.declared.series.Cycle.{Cycle}
use Rattle.mill_control.specs.declared.series.Return.{Return}
use Rattle.mill_control.specs.declared.series.Return.TheVariants.{Level, Clearance}
use Rattle.mill_control.specs.declared.series.Series.{Series}
use Rattle.mill_block.specs.Drives.{driven_or_fault}
use Rattle.mill_block.specs.Kept.{FitsProgress}
use Rattle.mill_block.specs.MachineLines.{Done, acts_by, axis_done, coordinate_for, drilled, drills_hole, hole_for, hole_of, hole_z, idles, is_drillable, is_idle, acts, exact_to, exactly, is_level, is_taken, machine_behind, machine_done, names_by, names_height, naming_of, number_or, parks, peck_fits, place_of, points_of, returns_or, rounded_or, series_for, stands, target_for, text_end, text_over_hole, turned, went, went_round, with_place}
use Rattle.mill_block.specs.MachineSettings.{has_lengths, per_of}
use Rattle.mill_block.specs.Motion.{known_of}
use Rattle.mill_said.specs.Said.{◌>>=◌}
use Rattle.mill_block.specs.MachineArcs.{centre_fits, ends_fit, fed, holds_arcs, names_one_centre, sweep_of, words_fit}
use Rattle.mill_block.specs.declared.machine_arc.Sweep.{Sweep}
use Rattle.mill_arc.specs.declared.arc.TheConstants.{MAX_TOLERANCE}
use Rattle.mill_block.specs.TextPaths.{FitsText, IsTextOf, KeepsPeck, LineIsTextOf, Way, text_acts, text_done, text_drilled, text_gone, text_hole, text_named, text_top, text_turned}
use Rattle.mill_block.specs.TextPlaces.{exact_here, text_or, text_target}
use Rattle.mill_control.specs.Unrounded.{text_units}
use Rattle.mill_control.specs.declared.turn.Turn.{Turn}
use Rattle.mill_said.specs.declared.fault.NgcFault.{NgcFault}
use Rattle.mill_said.specs.declared.fault.NgcFault.TheVariants as fault
use Rattle.mill_said.specs.declared.machine_said.MachineSaid.{MachineSaid}
use Rattle.mill_said.specs.declared.machine_said.Up.{Up}
use Rattle.mill_said.specs.declared.profile.Mode.{Mode}
use Rattle.mill_said.specs.declared.profile.Mode.TheVariants.{Off, On}
use Rattle.mill_block.specs.declared.progress.Progress.{Progress}
use Rattle.mill_said.specs.declared.rules.Control.{Control}
use Rattle.mill_said.specs.Bounds.{FitsTold}
use Rattle.mill_block.proofs.NamingLemmas.{units-are}
use Rattle.mill_block.proofs.TextHoles.{TakesHole, hole_near}
use Rattle.mill_block.proofs.TextLemmas.{near_greater, number_near}
use Rattle.mill_block.proofs.TextWays.{Leads, Reads, leads_if, leads_went, leads_with, near_exact, near_or, near_target, ok_is, reads_if, reads_placed, reads_up, units_taken}
use Rattle.mill_block.proofs.ArcEnds.{arc_ends}
use Rattle.mill_block.proofs.TextArcs.{turn_near}

-- ---- the hole of a line

-- the coordinates that make a line's hole
record HoleOf (c : Control) (p : Progress) (s : MachineSaid) (v : Series) (h : Hole) : Type 0 where
  x : ℤ
  y : ℤ
  bottom : ℤ
  top : ℤ
  x_is : coordinate_for c p p.here.x s.x ≡ Ok x
  y_is : coordinate_for c p p.here.y s.y ≡ Ok y
  bottom_is : coordinate_for c p p.here.z v.z ≡ Ok bottom
  top_is : coordinate_for c p p.here.z v.r ≡ Ok top
  peck_is : peck_fits c p s.q ≡ Ok tt
  same : hole_of c p v x y top ≡ h

hole-of : (c : Control) (p : Progress) (s : MachineSaid) (v : Series) (h : Hole) → hole_for c p s v ≡ Ok h → HoleOf c p s v h
unfolding hole_for
hole-of c p s v h is =
    by (coordinate_for c p p.here.x s.x) (coordinate_for c p p.here.y s.y) (coordinate_for c p p.here.z v.z) (coordinate_for c p p.here.z v.r) (peck_fits c p s.q) refl refl refl refl refl is
  where
    by : (rx ry rz rt : Result ℤ NgcFault) (rq : Result ⊤ NgcFault) → coordinate_for c p p.here.x s.x ≡ rx → coordinate_for c p p.here.y s.y ≡ ry → coordinate_for c p p.here.z v.z ≡ rz → coordinate_for c p p.here.z v.r ≡ rt → peck_fits c p s.q ≡ rq
        → (rx >>= λ x. ry >>= λ y. rz >>= λ z. rt >>= λ top. rq >>= λ _. Ok (hole_of c p v x y top)) ≡ Ok h → HoleOf c p s v h
    by (Err e) ry rz rt rq i j k l m is = absurd cc
    by (Ok x) (Err e) rz rt rq i j k l m is = absurd cc
    by (Ok x) (Ok y) (Err e) rt rq i j k l m is = absurd cc
    by (Ok x) (Ok y) (Ok z) (Err e) rq i j k l m is = absurd cc
    by (Ok x) (Ok y) (Ok z) (Ok top) (Err e) i j k l m is = absurd cc
    by (Ok x) (Ok y) (Ok z) (Ok top) (Ok u) i j k l m is = record { x = x; y = y; bottom = z; top = top; x_is = i; y_is = j; bottom_is = k; top_is = l; peck_is = m; same = ok_is (hole_of c p v x y top) h is }

first-of : (a b : Bool) → (a && b) ≡ true → a ≡ true
first-of true b e = refl
first-of false b e = absurd cc

second-of : (a b : Bool) → (a && b) ≡ true → b ≡ true
second-of true b e = e
second-of false b e = absurd cc

-- back to where the tool is, or to R
end-near : (rounds : Bool) (returns : Option Return) (level here top t at : ℤ) → returns_alike returns level here ≡ true → IsRoundedTo rounds (10 ^ 18) t top → IsRoundedTo rounds (10 ^ 18) at here
    → IsRoundedTo rounds (10 ^ 18) (text_end (returns_or returns) t at) (hole_z level (returns_or returns) top)
end-near rounds None level here top t at alike high near = absurd cc
end-near rounds (Some Clearance) level here top t at alike high near = high
end-near rounds (Some Level) level here top t at alike high near =
    let same : here ≡ level = grind (arith, ints) in
    near_greater rounds (10 ^ 18) t at top level high (subst (λ (z : ℤ). IsRoundedTo rounds (10 ^ 18) at z) same near)

-- the peck of a line is taken, and so is the one that stays
taken-peck : (c : Control) (p : Progress) (q : Option Num) → peck_fits c p q ≡ Ok tt → IfSome q (λ n. is_taken c.rounds (per_of p) n ≡ true)
taken-peck c p None is = tt
taken-peck c p (Some n) is = by (is_taken c.rounds (per_of p) n) is
  where
    by : (b : Bool) → (let r : Result ⊤ NgcFault = if not b then Err (fault.OffGrid p.line) else Ok tt in r) ≡ Ok tt → b ≡ true
    by true is = refl
    by false is = absurd cc

later-taken : (rounds : Bool) (per : ℕ) (new old : Option Num) → IfSome new (λ n. is_taken rounds per n ≡ true) → IfSome old (λ n. is_taken rounds per n ≡ true) → IfSome (later new old) (λ n. is_taken rounds per n ≡ true)
later-taken rounds per (Some n) old is was = is
later-taken rounds per None old is was = was

begun-taken : (rounds positioned lengths : Bool) (per : ℕ) (series : Option Series) (cycle : Cycle) (z : ℤ) → IfSome series (KeepsPeck rounds positioned lengths per) → IfSome (begun series cycle z).q (λ n. is_taken rounds per n ≡ true)
begun-taken rounds positioned lengths per None cycle z keeps = tt
begun-taken rounds positioned lengths per (Some s) cycle z keeps = by (same_cycle s.cycle cycle)
  where
    by : (b : Bool) → IfSome (if b then s else record { level = s.level; cycle = cycle; r = None; z = None; q = None }).q (λ n. is_taken rounds per n ≡ true)
    by true = keeps.q_taken
    by false = tt

series-taken : (c : Control) (p : Progress) (s : MachineSaid) (cycle : Cycle) → FitsText c p → peck_fits c p s.q ≡ Ok tt → IfSome (series_for p s cycle).q (λ n. is_taken c.rounds (per_of p) n ≡ true)
series-taken c p s cycle fits is =
    later-taken c.rounds (per_of p) s.q (begun p.machine.series cycle p.here.z).q (taken-peck c p s.q is)
    (begun-taken c.rounds p.positioned (has_lengths p) (per_of p) p.machine.series cycle p.here.z fits.peck_fits)

pub hole_taken : (c : Control) (p : Progress) (s : MachineSaid) (cycle : Cycle) (h : Hole) → FitsText c p → hole_for c p s (series_for p s cycle) ≡ Ok h → IfSome (series_for p s cycle).q (λ n. is_taken c.rounds (per_of p) n ≡ true)
hole_taken c p s cycle h fits is = let o = hole-of c p s (series_for p s cycle) h is in series-taken c p s cycle fits o.peck_is

drilled-by : (c : Control) (p : Progress) (at : Pt3) (level : ℤ) (cycle : Cycle) (r z q : Option Num) (x y a b bottom top : ℤ)
    → FitsSeries (record { level = level; cycle = cycle; r = r; z = z; q = q }) → IfSome q (λ n. is_taken c.rounds (per_of p) n ≡ true) → IsRounded c.rounds (10 ^ 18) at p.here → goes_down r z ≡ true
    → returns_alike p.machine.returns level p.here.z ≡ true → IsRoundedTo c.rounds (10 ^ 18) a x → IsRoundedTo c.rounds (10 ^ 18) b y → coordinate_for c p p.here.z z ≡ Ok bottom → coordinate_for c p p.here.z r ≡ Ok top
    → (let h : Hole = hole_of c p (record { level = level; cycle = cycle; r = r; z = z; q = q }) x y top in
    Leads c.rounds (record { x = a; y = b; z = text_end (returns_or p.machine.returns) (text_units (per_of p) (number_or r)) at.z })
    (text_hole h at a b (text_end (returns_or p.machine.returns) (text_top h) at.z)) (drilled p (record { level = level; cycle = cycle; r = r; z = z; q = q }) h))
unfolding text_hole
drilled-by c p at level cycle None z q x y a b bottom top fits peck here down alike x_near y_near bottom_is top_is = absurd cc
drilled-by c p at level cycle (Some r) None q x y a b bottom top fits peck here down alike x_near y_near bottom_is top_is = absurd cc
drilled-by c p at level cycle (Some r) (Some z) q x y a b bottom top fits peck here down alike x_near y_near bottom_is top_is =
    let v : Series = record { level = level; cycle = cycle; r = Some r; z = Some z; q = q } in
    let h : Hole = hole_of c p v x y top in
    let takes : TakesHole c.rounds h = record { r_fits = fits.r_fits; z_fits = fits.z_fits; q_fits = fits.q_fits; r_taken = units_taken c p r top top_is; z_taken = units_taken c p z bottom bottom_is; q_taken = peck } in
    let high : IsRoundedTo c.rounds (10 ^ 18) (text_top h) top =
    subst (λ (w : ℤ). IsRoundedTo c.rounds (10 ^ 18) (text_units (per_of p) r) w) (units-are c p r top top_is) (number_near c.rounds (per_of p) r fits.r_fits takes.r_taken) in
    let end = end-near c.rounds p.machine.returns level p.here.z top (text_top h) at.z alike high here.z_near in
    let way : Way = text_hole h at a b (text_end (returns_or p.machine.returns) (text_top h) at.z) in
    leads_if c.rounds way.0 way (nat_lt MAX_MOVES (p.moves + length (hole_moves h))) (Err (fault.TooManyMoves p.line))
    (Ok (record p { here = hole_end h; positioned = true; moves = p.moves + length (hole_moves h); machine = record p.machine { series = Some v } }, hole_moves h)) tt
    (record { «end» = refl; near = record { x_near = x_near; y_near = y_near; z_near = end }; moves = hole_near c.rounds h at a b (text_end (returns_or p.machine.returns) (text_top h) at.z) takes here x_near y_near end })

-- a line whose hole every control makes alike
hole-reads : (c : Control) (p : Progress) (at : Pt3) (s : MachineSaid) (v : Series) (h : Hole) → FitsTold s → FitsSeries v → IfSome v.q (λ n. is_taken c.rounds (per_of p) n ≡ true) → IsRounded c.rounds (10 ^ 18) at p.here
    → is_drillable p s v ≡ true → hole_for c p s v ≡ Ok h → Leads c.rounds (text_over_hole p at s v) (text_drilled p at s (Ok h)) (drilled p v h)
hole-reads c p at s v h told fits peck here may is =
    let o = hole-of c p s v h is in
    let cross = crosses_alike (clearance_of (per_of p) v.r) p.here (rounded_or p p.here.x s.x) (rounded_or p p.here.y s.y) in
    let alike = returns_alike p.machine.returns v.level p.here.z in
    let drills = second-of (is_level p.machine.plane) (is_whole_series v && (cross && alike)) may in
    let whole = first-of (is_whole_series v) (cross && alike) drills in
    let back = second-of cross alike (second-of (is_whole_series v) (cross && alike) drills) in
    let down = first-of (goes_down v.r v.z) (not (pecks v.cycle) || is_positive v.q) whole in
    subst (λ (g : Hole). Leads c.rounds (text_over_hole p at s v) (text_drilled p at s (Ok g)) (drilled p v g)) o.same
    (drilled-by c p at v.level v.cycle v.r v.z v.q o.x o.y (text_or (per_of p) at.x s.x) (text_or (per_of p) at.y s.y) o.bottom o.top fits peck here down back
    (near_or c p at.x p.here.x o.x s.x told.x_fits here.x_near o.x_is) (near_or c p at.y p.here.y o.y s.y told.y_fits here.y_near o.y_is) o.bottom_is o.top_is)

leads-unless : (rounds : Bool) (t : Pt3) (way : Way) (b : Bool) (x y : Done) → Leads rounds t way x → (b ≡ true → Leads rounds t way y) → Leads rounds t way (if not b then x else y)
leads-unless rounds t way true x y h g = g refl
leads-unless rounds t way false x y h g = h

leads-hole : (rounds : Bool) (p : Progress) (at : Pt3) (s : MachineSaid) (v : Series) (r : Result Hole NgcFault) → ((h : Hole) → r ≡ Ok h → Leads rounds (text_over_hole p at s v) (text_drilled p at s (Ok h)) (drilled p v h))
    → Leads rounds (text_over_hole p at s v) (text_drilled p at s r) (r >>= λ h. drilled p v h)
leads-hole rounds p at s v (Ok h) leads = leads h refl
leads-hole rounds p at s v (Err e) leads = tt

-- the numbers of a series are those of its lines
later-fits : (new old : Option Num) → IfSome new (FitsNum 18) → IfSome old (FitsNum 18) → IfSome (later new old) (FitsNum 18)
later-fits (Some n) old new-fits old-fits = new-fits
later-fits None old new-fits old-fits = old-fits

begun-fits : (series : Option Series) (cycle : Cycle) (z : ℤ) → IfSome series FitsSeries → FitsSeries (begun series cycle z)
begun-fits None cycle z fits = record { r_fits = tt; z_fits = tt; q_fits = tt }
begun-fits (Some s) cycle z fits = by (same_cycle s.cycle cycle)
  where
    by : (b : Bool) → FitsSeries (if b then s else record { level = s.level; cycle = cycle; r = None; z = None; q = None })
    by true = fits
    by false = record { r_fits = tt; z_fits = tt; q_fits = tt }

pub series-fits : (p : Progress) (s : MachineSaid) (cycle : Cycle) → FitsTold s → FitsProgress p → FitsSeries (series_for p s cycle)
series-fits p s cycle told fits =
    let old = begun-fits p.machine.series cycle p.here.z fits.series_fits in
    record { r_fits = later-fits s.r _ told.r_fits old.r_fits; z_fits = later-fits s.z _ told.z_fits old.z_fits; q_fits = later-fits s.q _ told.q_fits old.q_fits }

leads-drills : (c : Control) (p : Progress) (at : Pt3) (s : MachineSaid) (cycle : Cycle) → FitsTold s → FitsText c p → IsRounded c.rounds (10 ^ 18) at p.here
    → Leads c.rounds (text_over_hole p at s (series_for p s cycle)) (text_drilled p at s (hole_for c p s (series_for p s cycle))) (drills_hole c p s cycle)
unfolding drills_hole
leads-drills c p at s cycle told fits here =
    let v : Series = series_for p s cycle in
    leads-unless c.rounds (text_over_hole p at s v) (text_drilled p at s (hole_for c p s v)) (is_drillable p s v) (Err (fault.Cycle p.line)) (hole_for c p s v >>= λ h. drilled p v h) tt
    (λ may. leads-hole c.rounds p at s v (hole_for c p s v) (λ h is. hole-reads c p at s v h told (series-fits p s cycle told fits.fits) (hole_taken c p s cycle h fits is) here may is))

-- ---- the arc of a line

-- arcs come only where numbers are rounded, as the ends of chords are
words-round : (c : Control) (p : Progress) (s : MachineSaid) → words_fit c p s ≡ true → c.rounds ≡ true
words-round c p s fit =
    let words = first-of (holds_arcs c && names_one_centre p s) (centre_fits p s && ends_fit p s) fit in
    let holds = first-of (holds_arcs c) (names_one_centre p s) words in
    first-of c.rounds (int_le (pos 0) c.arc_room) (first-of (c.rounds && int_le (pos 0) c.arc_room) (nat_le 1 c.arc_tolerance && nat_le c.arc_tolerance MAX_TOLERANCE) holds)

-- where the line has no fault its moves are these ways, rounded
Moves : Bool → List Move → Done → Type 0
Moves rounds ways (Ok done) = AreRounded rounds (10 ^ 18) ways done.1
Moves rounds ways (Err f) = ⊤

moves-if : (rounds : Bool) (ways : List Move) (b : Bool) (x y : Done) → Moves rounds ways x → Moves rounds ways y → Moves rounds ways (if b then x else y)
moves-if rounds ways true x y h g = h
moves-if rounds ways false x y h g = g

moves-unless : (rounds : Bool) (ways : List Move) (b : Bool) (x y : Done) → Moves rounds ways x → (b ≡ true → Moves rounds ways y) → Moves rounds ways (if not b then x else y)
moves-unless rounds ways true x y h g = g refl
moves-unless rounds ways false x y h g = h

moves-with : {A : Type 0} (rounds : Bool) (ways : List Move) (r : Result A NgcFault) (f : A → Done) → ((a : A) → r ≡ Ok a → Moves rounds ways (f a)) → Moves rounds ways (r >>= f)
unfolding Moves
moves-with rounds ways (Ok x) f h = h x refl
moves-with rounds ways (Err e) f h = tt

moves-round : (rounds : Bool) (p : Progress) (ways : List Move) (points : List Pt3) → AreRounded rounds (10 ^ 18) ways (fed p.here points) → Moves rounds ways (went_round p points)
unfolding Moves
moves-round rounds p ways points near =
    moves-if rounds ways (nat_lt MAX_MOVES (p.moves + length points)) (Err (fault.TooManyMoves p.line))
    (Ok (record p { here = ends_at p.here (fed p.here points); positioned = true; moves = p.moves + length points }, fed p.here points)) tt near

turn-moves : (c : Control) (p : Progress) (at : Pt3) (s : MachineSaid) (turn : Turn) → IsRounded c.rounds (10 ^ 18) at p.here → Moves c.rounds (text_turned c p at s turn).1 (turned c p s turn)
unfolding turned Moves
turn-moves c p at s turn here =
    let ways : List Move = (text_turned c p at s turn).1 in
    let w : Sweep = sweep_of c p s turn in
    let goes : Done = target_for c p s >>= λ to. points_of p w >>= λ points. went_round p points in
    moves-if c.rounds ways (int_le (pos 0) c.arc_room && p.machine.wide_path) (Err (fault.PathControl p.line)) (if not (words_fit c p s) then Err (fault.Arc p.line) else goes) tt
    (moves-unless c.rounds ways (words_fit c p s) (Err (fault.Arc p.line)) goes tt
    (λ fit. let rounds = words-round c p s fit in
    moves-with c.rounds ways (target_for c p s) (λ to. points_of p w >>= λ points. went_round p points)
    (λ to _. moves-with c.rounds ways (points_of p w) (λ points. went_round p points)
    (λ points is. moves-round c.rounds p ways points
    (subst (λ (b : Bool). AreRounded b (10 ^ 18) ways (fed p.here points)) (sym rounds)
    (turn_near p at w points refl (subst (λ (b : Bool). IsRounded b (10 ^ 18) at p.here) rounds here) is))))))

leads-turned : (c : Control) (p : Progress) (at : Pt3) (s : MachineSaid) (turn : Turn) → FitsTold s → FitsText c p → IsRounded c.rounds (10 ^ 18) at p.here
    → Leads c.rounds (text_target p at s) (text_turned c p at s turn) (turned c p s turn)
unfolding Moves
leads-turned c p at s turn told fits here = by (turned c p s turn) refl (turn-moves c p at s turn here)
  where
    by : (d : Done) → turned c p s turn ≡ d → Moves c.rounds (text_turned c p at s turn).1 d → Leads c.rounds (text_target p at s) (text_turned c p at s turn) d
    by (Ok done) is moves = record { «end» = refl; near = near_target c p at s done.0.here told here (arc_ends c p s turn done told fits.fits.finer_fits is); moves = moves }
    by (Err f) is moves = tt

-- ---- the line

leads-then : {A : Type 0} (rounds : Bool) (t : Pt3) (way : Way) (r : Result A NgcFault) (d : Done) → Leads rounds t way d → Leads rounds t way (r >>= λ _. d)
leads-then rounds t way (Ok x) d h = h
leads-then rounds t way (Err e) d h = tt

pub leads_acts : (c : Control) (p : Progress) (s : MachineSaid) (mode : Mode) (cycle : Option Cycle) (turn : Option Turn) → FitsTold s → FitsText c p
    → Leads c.rounds (exact_to p s cycle) (text_acts c p (exact_here p) s mode cycle turn) (acts_by c p s mode cycle turn)
leads_acts c p s mode (Some cycle) turn told fits =
    let at : Pt3 = exact_here p in
    leads-then c.rounds (exact_to p s (Some cycle)) (text_drilled p at s (hole_for c p s (series_for p s cycle))) (driven_or_fault p.rules.needs_spindle Feed p.drive p.line) (drills_hole c p s cycle)
    (leads-drills c p at s cycle told fits (near_exact c.rounds p fits.finer_fits))
leads_acts c p s mode None (Some turn) told fits =
    let at : Pt3 = exact_here p in
    leads-then c.rounds (text_target p at s) (text_turned c p at s turn) (driven_or_fault p.rules.needs_spindle Feed p.drive p.line) (turned c p s turn)
    (leads-turned c p at s turn told fits (near_exact c.rounds p fits.finer_fits))
leads_acts c p s Off None None told fits = tt
leads_acts c p s (On kind) None None told fits =
    let at : Pt3 = exact_here p in
    leads-then c.rounds (text_target p at s) (text_gone (known_of p) p kind (parks s) at (text_target p at s)) (driven_or_fault p.rules.needs_spindle kind p.drive p.line) (went c p s kind)
    (leads_went c p at s kind told (near_exact c.rounds p fits.finer_fits))

reads-names : (c : Control) (p : Progress) (s : MachineSaid) → FitsTold s → FitsText c p → Reads c.rounds (text_acts c p (exact_here p) s p.mode p.machine.cycle p.machine.turn) (names_by c p s)
unfolding names_by
reads-names c p s told fits =
    let way : Way = text_acts c p (exact_here p) s p.mode p.machine.cycle p.machine.turn in
    let goes : Done = acts_by c p s p.mode p.machine.cycle p.machine.turn >>= λ done. Ok (exactly (exact_to p s p.machine.cycle) (with_place (machine_behind p s) done)) in
    let measured : Done = if not p.absolute then Err (fault.NoAbsolute p.line) else goes in
    let lengths : Done = if not (has_lengths p) then Err (fault.NoUnits p.line) else measured in
    let offset : Done = if not (may_name p.machine.named p.machine.offsets (names_height p.machine.cycle s) (parks s)) then Err (fault.LateOffset p.line) else lengths in
    let placed : Done = if not (allows (place_of p) (naming_of p s)) then Err (fault.Start p.line) else offset in
    reads_if c.rounds way p.machine.late (Err (fault.LateTool p.line)) placed tt
    (reads_if c.rounds way (not (allows (place_of p) (naming_of p s))) (Err (fault.Start p.line)) offset tt
    (reads_if c.rounds way (not (may_name p.machine.named p.machine.offsets (names_height p.machine.cycle s) (parks s))) (Err (fault.LateOffset p.line)) lengths tt
    (reads_if c.rounds way (not (has_lengths p)) (Err (fault.NoUnits p.line)) measured tt
    (reads_if c.rounds way (not p.absolute) (Err (fault.NoAbsolute p.line)) goes tt
    (reads_placed c.rounds (exact_to p s p.machine.cycle) way (acts_by c p s p.mode p.machine.cycle p.machine.turn) (machine_behind p s) (leads_acts c p s p.mode p.machine.cycle p.machine.turn told fits))))))

reads-still : (rounds : Bool) (p : Progress) (s : MachineSaid) (up : Option Up) → Reads rounds (exact_here p, []) (stands p s up)
reads-still rounds p s None = reads_if rounds (exact_here p, []) (is_idle s) (Ok (p, [])) (Err (fault.Cycle p.line)) (record { here = refl; moves = tt }) tt
reads-still rounds p s (Some u) =
    reads_if rounds (exact_here p, []) u.by_machine (idles p s) (Err (fault.NotInProfile p.line 71 u.num)) (reads_if rounds (exact_here p, []) (is_idle s) (Ok (p, [])) (Err (fault.Cycle p.line)) (record { here = refl; moves = tt }) tt) tt

reads-axis : (c : Control) (p : Progress) (s : MachineSaid) (up : Option Up) → FitsTold s → FitsText c p → Reads c.rounds (text_named c p (exact_here p) s up) (axis_done c p s up)
reads-axis c p s None told fits = reads-names c p s told fits
reads-axis c p s (Some u) told fits = reads_up c.rounds p s u (near_exact c.rounds p fits.finer_fits)

reads-line : (c : Control) (p : Progress) (s : MachineSaid) → FitsTold s → FitsText c p → Reads c.rounds (text_done c p (exact_here p) s) (machine_done c p s)
reads-line c p s told fits = by (acts p s)
  where
    by : (b : Bool) → Reads c.rounds (if b then text_named c p (exact_here p) s s.up else (exact_here p, [])) (if b then axis_done c p s s.up else stands p s s.up)
    by true = reads-axis c p s s.up told fits
    by false = reads-still c.rounds p s s.up

pub line_is_text_of : LineIsTextOf
line_is_text_of c p at s done told fits here is =
    subst (λ (a : Pt3). IsTextOf c.rounds (text_done c p a s) done) (sym here)
    (subst (λ (d : Done). Reads c.rounds (text_done c p (exact_here p) s) d) is (reads-line c p s told fits))
