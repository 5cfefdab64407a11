-- A line that is only a move, where words for a machine have settled all that it needs: it makes its move, and changes nothing else.
use Rattle.std.proofs.Common.{◌≡◌, ℕ, ℤ, ◌+◌, ◌*◌, ◌+ℤ◌, ◌-ℤ◌, ◌*ℤ◌, pos, ◌/◌, ◌%◌, ◌^◌, ◌<◌, arith, ◌≤◌, Bool, true, false, Option, Some, None, is_some, unwrap_or, Ok, Err, refl, sym, ap, ◌∙◌}
use Rattle.std.proofs.Math.Nat.{mul-mod_left}
use Rattle.std.proofs.lemmas.Bool.Decides.{Decides-eqb, Decides-int_eq, nat_tests}
use Rattle.std.proofs.lemmas.Int.{ints}
use Rattle.std.proofs.lemmas.Nat.{div-mul-add}
use Rattle.std.specs.Prelude.{◌==◌, ◌||◌, not, nat_abs, nat_le, nat_lt, if◌then◌else◌}
use Rattle.mill_base.specs.Rounded.{IsRoundedTo}
use Rattle.mill_base.specs.Units.{greatest_of, places_of}
use Rattle.mill_base.specs.declared.limits.TheConstants.{MAX_MOVES}
use Rattle.mill_base.specs.declared.motion.Kind.{Kind}
use Rattle.mill_base.specs.declared.points.Pt3.{Pt3}
use Rattle.mill_base.specs.declared.unit.Unit.{Unit as LengthUnit}
use Rattle.mill_words.specs.declared.word.Num.{Num}
use Rattle.mill_control.specs.Lengths.{is_whole, nearest, rounded}
use Rattle.mill_control.specs.Unrounded.{parts, text_units}
use Rattle.mill_control.specs.declared.series.Cycle.{Cycle}
use Rattle.mill_control.specs.declared.turn.Turn.{Turn}
use Rattle.mill_control.specs.Offsets.{may_name, named, same_length, same_offsets}
use Rattle.mill_control.specs.Places.{allows, behind}
use Rattle.mill_control.specs.declared.offsets.Offsets.{Offsets}
use Rattle.mill_control.specs.declared.offsets.ToolLength.{ToolLength}
use Rattle.mill_control.specs.declared.offsets.ToolLength.TheVariants.{Beginning, Cancelled, Unnumbered, Numbered}
use Rattle.mill_control.specs.declared.place.Height.TheVariants.{Known as KnownHeight}
use Rattle.mill_control.specs.declared.place.Naming.{Naming}
use Rattle.mill_said.specs.declared.fault.NgcFault.{NgcFault}
use Rattle.mill_said.specs.declared.fault.NgcFault.TheVariants as fault
use Rattle.mill_block.specs.declared.machine.Machine.{Machine}
use Rattle.mill_said.specs.declared.machine_said.MachineSaid.{MachineSaid}
use Rattle.mill_block.specs.declared.plain_move.PlainLine.{PlainLine}
use Rattle.mill_block.specs.declared.plain_move.PlainMove.{PlainMove}
use Rattle.mill_said.specs.declared.profile.Mode.{Mode}
use Rattle.mill_said.specs.declared.profile.Mode.TheVariants.{On}
use Rattle.mill_block.specs.declared.progress.Drive.{Drive}
use Rattle.mill_block.specs.declared.progress.Known.TheVariants.{All}
use Rattle.mill_block.specs.declared.progress.Progress.{Progress}
use Rattle.mill_said.specs.declared.rules.Control.{Control}
use Rattle.mill_said.specs.declared.said.Said.{Said}
use Rattle.mill_block.specs.Drives.{driven_by, driven_or_fault}
use Rattle.mill_block.specs.MachineLines.{acts_by, coordinate_for, exact_to, is_taken, machine_acted, machine_behind, names_by, names_height, naming_of, parks, place_of, target_for, units_for}
use Rattle.mill_block.specs.MachineSettings.{cycle_behind, has_lengths, machine_settled, mode_behind, nothing_finer, offsets_behind, path_per, per_of, place_behind, series_behind, settled_for, turn_behind}
use Rattle.mill_block.specs.Motion.{known_of, made_move}
use Rattle.mill_said.specs.Numbers.{axis_units, is_on_grid, signed, whole_units}
use Rattle.mill_block.specs.TextPlaces.{exact_here, text_or, text_target}
use Rattle.mill_block.specs.declared.machine.Finer.{Finer}
use Rattle.mill_block.specs.inner.PlainMoves.{HasDrive, IsAxis, IsEnd, IsReady, IsSettled, IsUnits, Says, made_plain, mode_of, motion_of, plain_target, rate_of, told_as}
use Rattle.mill_block.proofs.RiseLemmas.{parts_whole, some_power}
use Rattle.mill_block.proofs.TextLemmas.{number_near}

-- ---- a number on the grid is a whole number of units

nearest-whole : (w d : ℕ) → 0 < d → nearest (w * d) d ≡ w
nearest-whole w d some =
    let parts : 2 * (w * d) + d ≡ w * (2 * d) + d = omega arith in
    ap (λ t. t / (2 * d)) parts ∙ div-mul-add w (2 * d) d (omega arith)

whole-on-grid : (unit : LengthUnit) (n : Num) → is_on_grid unit n ≡ true → is_whole (10 ^ places_of unit) n ≡ true
unfolding is_whole
whole-on-grid unit n grid =
    let none : (n.mant * 10 ^ places_of unit) % 10 ^ n.scale ≡ 0 =
    ap (λ t. t % 10 ^ n.scale) (sym (parts_whole unit n grid)) ∙ mul-mod_left (whole_units unit n) (10 ^ n.scale) in
    rw none refl

rounded-on-grid : (unit : LengthUnit) (n : Num) → is_on_grid unit n ≡ true → rounded (10 ^ places_of unit) n ≡ signed n.neg (whole_units unit n)
unfolding rounded
rounded-on-grid unit n grid =
    ap (λ t. signed n.neg (nearest t (10 ^ n.scale))) (sym (parts_whole unit n grid)) ∙ ap (signed n.neg) (nearest-whole (whole_units unit n) (10 ^ n.scale) (some_power n.scale))

magnitude : (neg : Bool) (w : ℕ) → nat_abs (signed neg w) ≡ w
magnitude false w = refl
magnitude true w = omega (arith, ints)

-- so it is in units as it is with strict words
taken-whole : (rounds whole grid large over : Bool) (f g h i : NgcFault) (r w u : ℤ) → (grid ≡ true → whole ≡ true) → (grid ≡ true → r ≡ w) → (grid ≡ true → over ≡ large)
    → (if not grid then Err f else (if large then Err g else Ok w)) ≡ Ok u
    → (if not (rounds || whole) then Err h else (if over then Err i else Ok r)) ≡ Ok u
taken-whole rounds whole false large over f g h i r w u is same alike e = absurd cc
taken-whole rounds whole true true over f g h i r w u is same alike e = absurd cc
taken-whole false whole true false over f g h i r w u is same alike e = rw (is refl, alike refl, same refl) e
taken-whole true whole true false over f g h i r w u is same alike e = rw (alike refl, same refl) e

units-whole : (c : Control) (p : Progress) (n : Num) (u : ℤ) → p.machine.inches ≡ false → axis_units p.unit p.line n ≡ Ok u → units_for c p n ≡ Ok u
unfolding axis_units
units-whole c p n u inches e =
    let per = 10 ^ places_of p.unit in
    let most = greatest_of p.unit in
    let same : is_on_grid p.unit n ≡ true → nat_lt most (nat_abs (rounded per n)) ≡ nat_lt most (whole_units p.unit n) =
    λ grid. ap (λ t. nat_lt most (nat_abs t)) (rounded-on-grid p.unit n grid) ∙ ap (nat_lt most) (magnitude n.neg (whole_units p.unit n)) in
    rw inches (taken-whole c.rounds (is_whole per n) (is_on_grid p.unit n) (nat_lt most (whole_units p.unit n)) (nat_lt most (nat_abs (rounded per n)))
    (fault.OffGrid p.line) (fault.OutOfRange p.line) (fault.OffGrid p.line) (fault.OutOfRange p.line) (rounded per n) (signed n.neg (whole_units p.unit n)) u
    (whole-on-grid p.unit n) (rounded-on-grid p.unit n) same e)

coordinate-at : (c : Control) (p : Progress) (here : ℤ) (units : Option ℤ) (n : Option Num) → p.machine.inches ≡ false → IsAxis p.unit p.line units n
    → coordinate_for c p here n ≡ Ok (unwrap_or units here)
coordinate-at c p here None None inches axis = refl
coordinate-at c p here (Some units) (Some n) inches axis = units-whole c p n units inches axis.value
coordinate-at c p here None (Some n) inches axis = absurd axis
coordinate-at c p here (Some units) None inches axis = absurd axis

-- the same point as with strict words
target-at : (c : Control) (p : Progress) (t : MachineSaid) (plain : PlainLine) → p.machine.inches ≡ false
    → IsAxis p.unit p.line plain.x t.x → IsAxis p.unit p.line plain.y t.y → IsAxis p.unit p.line plain.z t.z → target_for c p t ≡ Ok (plain_target p.here plain)
unfolding target_for
target-at c p t plain inches x y z =
    rw (coordinate-at c p p.here.x plain.x t.x inches x, coordinate-at c p p.here.y plain.y t.y inches y, coordinate-at c p p.here.z plain.z t.z inches z) refl

-- ---- a number on the grid has nothing finer

-- so far it is in units as it is rounded
units-of : (unit : LengthUnit) (line : ℕ) (n : Num) (u : ℤ) → axis_units unit line n ≡ Ok u → (is_on_grid unit n ≡ true) × (signed n.neg (whole_units unit n) ≡ u)
unfolding axis_units
units-of unit line n u e = by (is_on_grid unit n) (nat_lt (greatest_of unit) (whole_units unit n)) (fault.OffGrid line) (fault.OutOfRange line) (signed n.neg (whole_units unit n)) e
  where
    by : (grid large : Bool) (f g : NgcFault) (w : ℤ) → (if not grid then Err f else (if large then Err g else Ok w)) ≡ Ok u → (grid ≡ true) × (w ≡ u)
    by false large f g w e = absurd cc
    by true true f g w e = absurd cc
    by true false f g w e = (refl, cc)

exact-on-grid : (unit : LengthUnit) (line : ℕ) (n : Num) (u : ℤ) → IsUnits unit line u n → text_units (10 ^ places_of unit) n ≡ parts *ℤ u
exact-on-grid unit line n u units =
    let is = units-of unit line n u units.value in
    let near = number_near false (10 ^ places_of unit) n units.fits (whole-on-grid unit n is.0) in
    same (text_units (10 ^ places_of unit) n) (parts *ℤ rounded (10 ^ places_of unit) n) near ∙ ap (λ (r : ℤ). parts *ℤ r) (rounded-on-grid unit n is.0 ∙ is.1)
  where
    same : (a b : ℤ) → 2 * nat_abs (a -ℤ b) ≤ 0 → a ≡ b
    same a b h = omega (arith, ints)

nothing-left : (t : ℤ) → (t -ℤ t) ≡ pos 0
nothing-left t = omega (arith, ints)

nothing-more : (t : ℤ) → ((t +ℤ pos 0) -ℤ t) ≡ pos 0
nothing-more t = omega (arith, ints)

axis-exact : (unit : LengthUnit) (line : ℕ) (here : ℤ) (units : Option ℤ) (n : Option Num) → IsAxis unit line units n
    → (text_or (10 ^ places_of unit) ((parts *ℤ here) +ℤ pos 0) n -ℤ (parts *ℤ unwrap_or units here)) ≡ pos 0
axis-exact unit line here None None axis = nothing-more (parts *ℤ here)
axis-exact unit line here (Some u) (Some n) axis = rw (exact-on-grid unit line n u axis) (nothing-left (parts *ℤ u))
axis-exact unit line here None (Some n) axis = absurd axis
axis-exact unit line here (Some u) None axis = absurd axis

-- what a place has beside its units, behind a line to there
abbrev finer_to : Progress → MachineSaid → Pt3 → Finer
finer_to p t to = record { x = (exact_to p t p.machine.cycle).x -ℤ (parts *ℤ to.x); y = (exact_to p t p.machine.cycle).y -ℤ (parts *ℤ to.y); z = (exact_to p t p.machine.cycle).z -ℤ (parts *ℤ to.z) }

-- the line's end has nothing finer either
finer-behind : (p : Progress) (t : MachineSaid) (plain : PlainLine) → p.machine.inches ≡ false → p.machine.finer ≡ nothing_finer → p.machine.cycle ≡ None
    → IsAxis p.unit p.line plain.x t.x → IsAxis p.unit p.line plain.y t.y → IsAxis p.unit p.line plain.z t.z → finer_to p t (plain_target p.here plain) ≡ p.machine.finer
finer-behind p t plain inches finer cycle x y z =
    rw (cycle, inches, finer, axis-exact p.unit p.line p.here.x plain.x t.x x, axis-exact p.unit p.line p.here.y plain.y t.y y, axis-exact p.unit p.line p.here.z plain.z t.z z) refl

-- ---- the same offsets

same-number : (n : ℕ) → (n == n) ≡ true
same-number n = (Decides-eqb n n).1 refl

length-itself : (l : ToolLength) → same_length l l ≡ true
length-itself Beginning = refl
length-itself Cancelled = refl
length-itself Unnumbered = refl
length-itself (Numbered a) = (Decides-int_eq a a).1 refl

offsets-themselves : (o : Offsets) → same_offsets o o ≡ true
offsets-themselves o = rw (length-itself o.length, same-number o.zero) refl

-- what was named under the offsets in force may be named again
may-name-again : (o : Offsets) (height across : Bool) → may_name (record { height = Some o; across = Some o.zero }) o height across ≡ true
may-name-again o true true = rw (offsets-themselves o, same-number o.zero) refl
may-name-again o true false = rw (offsets-themselves o) refl
may-name-again o false true = rw (same-number o.zero) refl
may-name-again o false false = refl

named-again : (o : Offsets) (height across : Bool) → named (record { height = Some o; across = Some o.zero }) o height across ≡ record { height = Some o; across = Some o.zero }
named-again o true true = refl
named-again o true false = refl
named-again o false true = refl
named-again o false false = refl

-- ---- the place, which is known

allowed : (rapid x y : Bool) (z : Option Bool) → allows (record { across = true; height = KnownHeight }) (record { rapid = rapid; needs_place = false; x = x; y = y; z = z }) ≡ true
allowed rapid x y None = refl
allowed rapid x y (Some true) = refl
allowed rapid x y (Some false) = refl

still-known : (n : Naming) (z : Option Bool) → n.z ≡ z → behind (record { across = true; height = KnownHeight }) n ≡ record { across = true; height = KnownHeight }
still-known n None e = rw e refl
still-known n (Some over) e = rw e refl

-- ---- what the line settles

mode-is : (kind : Option Kind) (mode : Mode) → mode_behind (motion_of (mode_of kind)) false mode ≡ unwrap_or (mode_of kind) mode
mode-is None mode = refl
mode-is (Some kind) mode = refl

no-cycle : (kind : Option Kind) → cycle_behind (motion_of (mode_of kind)) false None ≡ None
no-cycle None = refl
no-cycle (Some kind) = refl

offsets-stay : (one_length begun : Bool) (s : Said) (o : Offsets) → offsets_behind one_length (told_as begun s) o ≡ o
offsets-stay true begun s o = refl
offsets-stay false begun s o = refl

same-either : {A : Type 0} (b : Bool) (x : A) → (if b then x else x) ≡ x
same-either true x = refl
same-either false x = refl

place-stays : (c : Control) (raises begun : Bool) (s : Said) (m : Machine) → c.change_raises ≡ raises → place_behind c (told_as begun s) m ≡ m.place
place-stays c true begun s m e = rw (e, same-either c.one_length m.offsets.length, length-itself m.offsets.length, same-number m.offsets.zero) refl
place-stays c false begun s m e = rw (e, same-either c.one_length m.offsets.length, length-itself m.offsets.length, same-number m.offsets.zero) refl

no-turn : (kind : Option Kind) → turn_behind (motion_of (mode_of kind)) false None ≡ None
no-turn None = refl
no-turn (Some kind) = refl

machine-stays : (c : Control) (path : ℕ) (begun : Bool) (s : Said) (m : Machine) (kind : Option Kind) → IsSettled m → s.mode ≡ mode_of kind → machine_settled c path (told_as begun s) m ≡ m
machine-stays c path begun s m kind settled mode =
    let turn : turn_behind (motion_of s.mode) false m.turn ≡ m.turn = rw (mode, settled.turn) (no-turn kind) in
    let cycle : cycle_behind (motion_of s.mode) false m.cycle ≡ m.cycle = rw (mode, settled.cycle) (no-cycle kind) in
    let series : series_behind m.cycle m.series ≡ m.series = rw (settled.cycle, settled.series) refl in
    let late : (m.late || false) ≡ m.late = rw settled.late refl in
    rw (cycle, turn, series, late, place-stays c c.change_raises begun s m refl, offsets-stay c.one_length begun s m.offsets) refl

-- what a feed needs stays, where it is all there
drive-stays : (asked : Bool) (d : Drive) (rate : Option Bool) (feed : Bool) → rate ≡ rate_of feed → HasDrive asked d → (if asked then driven_by d false None None rate else d) ≡ d
drive-stays false d rate feed is full = refl
drive-stays true d rate true is full = rw (full, is) refl
drive-stays true d rate false is full = rw (full, is) refl

settled-plain : (c : Control) (p : Progress) (begun : Bool) (s : Said) (plain : PlainLine) (m : PlainMove) → IsReady p → IsSettled p.machine → Says p.unit p.line plain s → IsEnd p plain m
    → settled_for c p (told_as begun s) ≡ record p { mode = On m.kind; ended = false }
unfolding settled_for
settled-plain c p begun s plain m ready settled says end =
    let mode : mode_behind (motion_of s.mode) false p.mode ≡ On m.kind = rw says.mode (mode-is plain.kind p.mode ∙ end.mode) in
    rw (mode, drive-stays p.rules.needs_spindle p.drive s.rate plain.feed says.rate ready.drive, machine-stays c (path_per p.unit (told_as begun s) p.millimetres) begun s p.machine plain.kind settled says.mode) refl

-- ---- its move

machine-same : (p : Progress) (t : MachineSaid) → known_of p ≡ All → IsSettled p.machine → machine_behind p t p.machine ≡ p.machine
machine-same p t known settled =
    let place : behind (place_of p) (naming_of p t) ≡ p.machine.place = rw (known, settled.place) (still-known (naming_of p t) (naming_of p t).z refl) in
    let names : named p.machine.named p.machine.offsets (names_height p.machine.cycle t) (parks t) ≡ p.machine.named = rw settled.named (named-again p.machine.offsets (names_height p.machine.cycle t) (parks t)) in
    rw (place, names, settled.has_named) refl

-- the checks before it hold
acts-plain : (c : Control) (p : Progress) (t : MachineSaid) (kind : Kind) (to : Pt3) → p.mode ≡ On kind → p.machine.cycle ≡ None → p.machine.turn ≡ None → driven_or_fault p.rules.needs_spindle kind p.drive p.line ≡ Ok tt
    → target_for c p t ≡ Ok to → known_of p ≡ All → acts_by c p t p.mode p.machine.cycle p.machine.turn ≡ made_move p kind to
unfolding target_for
acts-plain c p t kind to mode cycle turn drive target known = rw (mode, cycle, turn, drive, target, known) refl

names-plain : (c : Control) (p : Progress) (t : MachineSaid) (kind : Kind) (to : Pt3) → acts_by c p t p.mode p.machine.cycle p.machine.turn ≡ made_move p kind to → nat_le MAX_MOVES p.moves ≡ false
    → machine_behind p t p.machine ≡ p.machine → finer_to p t to ≡ p.machine.finer → p.machine.late ≡ false → allows (place_of p) (naming_of p t) ≡ true
    → may_name p.machine.named p.machine.offsets (names_height p.machine.cycle t) (parks t) ≡ true → has_lengths p ≡ true → p.absolute ≡ true → names_by c p t ≡ made_move p kind to
unfolding names_by
names-plain c p t kind to acts few same finer late may names lengths absolute =
    rw (acts, few, late, may, names, lengths, absolute, ap (λ (m : Machine). m.place) same, ap (λ (m : Machine). m.named) same, ap (λ (m : Machine). m.has_named) same, finer) refl

moved-plain : (c : Control) (p : Progress) (t : MachineSaid) (plain : PlainLine) (kind : Kind) → p.mode ≡ On kind → IsReady p → IsSettled p.machine
    → driven_or_fault p.rules.needs_spindle kind p.drive p.line ≡ Ok tt
    → IsAxis p.unit p.line plain.x t.x → IsAxis p.unit p.line plain.y t.y → IsAxis p.unit p.line plain.z t.z
    → names_by c p t ≡ made_move p kind (plain_target p.here plain)
moved-plain c p t plain kind mode ready settled drive x y z =
    let few : nat_le MAX_MOVES p.moves ≡ false = grind (arith, nat_tests, ready.few) in
    let may : allows (place_of p) (naming_of p t) ≡ true = rw (ready.place, settled.place, settled.cycle, settled.turn) (allowed (naming_of p t).rapid (is_some t.x) (is_some t.y) (naming_of p t).z) in
    let names : may_name p.machine.named p.machine.offsets (names_height p.machine.cycle t) (parks t) ≡ true = rw settled.named (may-name-again p.machine.offsets (names_height p.machine.cycle t) (parks t)) in
    let lengths : has_lengths p ≡ true = rw ready.millimetres refl in
    let acts : acts_by c p t p.mode p.machine.cycle p.machine.turn ≡ made_move p kind (plain_target p.here plain) =
    acts-plain c p t kind (plain_target p.here plain) mode settled.cycle settled.turn drive (target-at c p t plain settled.inches x y z) ready.place in
    names-plain c p t kind (plain_target p.here plain) acts few (machine-same p t ready.place settled) (finer-behind p t plain settled.inches settled.finer settled.cycle x y z) settled.late may names lengths ready.absolute

ready-on : (p : Progress) (kind : Kind) → IsReady p → IsReady (record p { mode = On kind; ended = false })
ready-on p kind ready = record { words = ready.words; place = ready.place; drive = ready.drive; few = ready.few; frame = ready.frame; millimetres = ready.millimetres; absolute = ready.absolute }

-- what the line tells is its move
pub acted-settled : (c : Control) (p : Progress) (s : Said) (begun : Bool) (plain : PlainLine) (m : PlainMove) → IsReady p → IsSettled p.machine → Says p.unit p.line plain s → IsEnd p plain m
    → ((is_some s.x || is_some s.y) || is_some s.z) ≡ true → driven_or_fault p.rules.needs_spindle m.kind p.drive p.line ≡ Ok tt
    → machine_acted c p (told_as begun s) ≡ made_plain p m
unfolding machine_acted
acted-settled c p s begun plain m ready settled says end some drive =
    let q : Progress = record p { mode = On m.kind; ended = false } in
    let few : nat_le MAX_MOVES p.moves ≡ false = grind (arith, nat_tests, ready.few) in
    let moves : names_by c q (told_as begun s) ≡ made_move q m.kind (plain_target p.here plain) =
    moved-plain c q (told_as begun s) plain m.kind refl (ready-on p m.kind ready) settled drive says.x says.y says.z in
    rw (settled-plain c p begun s plain m ready settled says end, some, moves, few, end.to) refl
