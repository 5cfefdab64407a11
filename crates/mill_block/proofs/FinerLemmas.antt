-- Where a line's way ends by the text's own numbers, it has so much beside its units.
use Rattle.std.proofs.Common.{◌≡◌, ℕ, Bool, true, false, Option, Some, None, Result, Ok, Err, List, length, ◌+◌, int_eq, refl, sym, ap, subst, ◌∙◌, arith}
use Rattle.std.proofs.lemmas.Bool.Decides.{nat_tests}
use Rattle.std.proofs.lemmas.Int.{ints}
use Rattle.std.specs.Prelude.{⊤, ℤ, pos, ◌+ℤ◌, ◌-ℤ◌, ◌*ℤ◌, ◌&&◌, ◌||◌, nat_abs, nat_lt, nat_le, not, is_some, if◌then◌else◌}
use mir.Syntax.{w64}
use Rattle.mill_base.proofs.Machine.{kept, stored}
use Rattle.mill_base.specs.Numbers.{Within, greater}
use Rattle.mill_base.specs.Units.{greatest_of}
use Rattle.mill_base.specs.declared.limits.TheConstants.{MAX_MOVES}
use Rattle.mill_base.specs.declared.motion.Kind.{Kind}
use Rattle.mill_base.specs.declared.motion.Kind.TheVariants.{Feed}
use Rattle.mill_base.specs.declared.motion.Move.{Move}
use Rattle.mill_base.specs.declared.points.Pt3.{Pt3}
use Rattle.mill_words.specs.declared.word.Num.{Num}
use Rattle.mill_control.specs.Holes.{clearance_of, crosses_alike, goes_down, hole_end, hole_moves, is_positive, is_whole_series, pecks, returns_alike}
use Rattle.mill_control.specs.Lengths.{is_whole, rounded}
use Rattle.mill_control.specs.Unrounded.{finer, parts, text_units}
use Rattle.mill_control.specs.declared.hole.Hole.{Hole}
use Rattle.mill_control.specs.declared.series.Cycle.{Cycle}
use Rattle.mill_control.specs.declared.series.Return.{Return}
use Rattle.mill_control.specs.declared.series.Return.TheVariants.{Level, Clearance}
use Rattle.mill_control.specs.declared.series.Series.{Series}
use Rattle.mill_control.specs.declared.turn.Turn.{Turn}
use Rattle.mill_block.specs.Kept.{FitsFiner, HALF}
use Rattle.mill_block.specs.Drives.{driven_or_fault}
use Rattle.mill_block.specs.MachineLines.{acts_by, arrived, coordinate_for, drilled, drills_hole, exact_to, gone_to, hole_for, hole_of, hole_z, is_drillable, is_level, is_taken, number_or, parks, peck_fits, returns_or, rounded_or, series_for, target_for, text_end, text_over_hole, turned, units_for, waits, went}
use Rattle.mill_block.specs.MachineSettings.{per_of}
use Rattle.mill_block.specs.Motion.{known_of, made_move}
use Rattle.mill_block.specs.TextPlaces.{exact_here, text_or, text_target}
use Rattle.mill_block.specs.inner.Finers.{IsExactly, finer_or}
use Rattle.mill_said.specs.Bounds.{FitsTold}
use Rattle.mill_said.specs.Said.{◌>>=◌}
use Rattle.mill_said.specs.declared.fault.NgcFault.{NgcFault}
use Rattle.mill_said.specs.declared.fault.NgcFault.TheVariants as fault
use Rattle.mill_said.specs.declared.machine_said.MachineSaid.{MachineSaid}
use Rattle.mill_said.specs.declared.profile.Mode.{Mode}
use Rattle.mill_said.specs.declared.profile.Mode.TheVariants.{Off, On}
use Rattle.mill_said.specs.declared.rules.Control.{Control}
use Rattle.mill_block.specs.declared.machine.Finer.{Finer}
use Rattle.mill_block.specs.declared.progress.Known.{Known}
use Rattle.mill_block.specs.declared.progress.Known.TheVariants.{Nothing, Height, All}
use Rattle.mill_block.specs.declared.progress.Progress.{Progress}
use Rattle.mill_block.proofs.ArcEnds.{arc_ends}
use Rattle.mill_block.proofs.NamingLemmas.{units-are}

-- ---- a coordinate

pub half_kept : (z : ℤ) → Within HALF z → stored w64 z ≡ z
half_kept z h = kept w64 z HALF h.within refl

pub no_more : (a : ℤ) → (a +ℤ pos 0) ≡ a
no_more a = omega (arith, ints)

whole-again : (a t : ℤ) → (a +ℤ (t -ℤ a)) ≡ t
whole-again a t = omega (arith, ints)

pub number_is : (c : Control) (p : Progress) (n : Num) (z : ℤ) → units_for c p n ≡ Ok z → ((parts *ℤ z) +ℤ finer (per_of p) n) ≡ text_units (per_of p) n
number_is c p n z e =
    subst (λ (v : ℤ). ((parts *ℤ v) +ℤ finer (per_of p) n) ≡ text_units (per_of p) n) (units-are c p n z e) (whole-again (parts *ℤ rounded (per_of p) n) (text_units (per_of p) n))

coordinate-is : (c : Control) (p : Progress) (here f z : ℤ) (n : Option Num) → coordinate_for c p here n ≡ Ok z → ((parts *ℤ z) +ℤ finer_or (per_of p) f n) ≡ text_or (per_of p) ((parts *ℤ here) +ℤ f) n
coordinate-is c p here f z None e =
    let same : here ≡ z = cc in
    ap (λ (v : ℤ). (parts *ℤ v) +ℤ f) (sym same)
coordinate-is c p here f z (Some n) e = number_is c p n z e

-- ---- a straight way, or an arc's

record AreOk (rx ry rz : Result ℤ NgcFault) (to : Pt3) : Type 0 where
  x : rx ≡ Ok to.x
  y : ry ≡ Ok to.y
  z : rz ≡ Ok to.z

are-ok : (rx ry rz : Result ℤ NgcFault) (to : Pt3) → (rx >>= λ x. ry >>= λ y. rz >>= λ z. Ok (record { x = x; y = y; z = z })) ≡ Ok to → AreOk rx ry rz to
are-ok (Err f) ry rz to e = absurd cc
are-ok (Ok x) (Err f) rz to e = absurd cc
are-ok (Ok x) (Ok y) (Err f) to e = absurd cc
are-ok (Ok x) (Ok y) (Ok z) to e = record { x = cc; y = cc; z = cc }

abbrev pub finer-to : Progress → MachineSaid → Finer
finer-to p s = record { x = finer_or (per_of p) p.machine.finer.x s.x; y = finer_or (per_of p) p.machine.finer.y s.y; z = finer_or (per_of p) p.machine.finer.z s.z }

target-is : (c : Control) (p : Progress) (s : MachineSaid) (to : Pt3) → target_for c p s ≡ Ok to → IsExactly (finer-to p s) to (text_target p (exact_here p) s)
unfolding target_for
target-is c p s to e =
    let ok = are-ok (coordinate_for c p p.here.x s.x) (coordinate_for c p p.here.y s.y) (coordinate_for c p p.here.z s.z) to e in
    record {
      x_is = coordinate-is c p p.here.x p.machine.finer.x to.x s.x ok.x;
      y_is = coordinate-is c p p.here.y p.machine.finer.y to.y s.y ok.y;
      z_is = coordinate-is c p p.here.z p.machine.finer.z to.z s.z ok.z;
    }

-- what is done behind another thing that is done
behind : {A B : Type 0} (r : Result A NgcFault) (f : A → Result B NgcFault) (b : B) (P : Type 0) → (r >>= f) ≡ Ok b → ((a : A) → r ≡ Ok a → f a ≡ Ok b → P) → P
behind (Err g) f b P e next = absurd cc
behind (Ok a) f b P e next = next a refl e

unless : {A : Type 0} (t : Bool) (g : NgcFault) (r : Result A NgcFault) (a : A) → (if t then Err g else r) ≡ Ok a → r ≡ Ok a
unless true g r a e = absurd cc
unless false g r a e = e

here-of : (q : Progress) (made : List Move) (done : Progress × List Move) → ◌≡◌ {A = Result (Progress × List Move) NgcFault} (Ok (q, made)) (Ok done) → q.here ≡ done.0.here
here-of q made done e =
    let same : (q, made) ≡ done = cc in
    ap (λ (d : Progress × List Move). d.0.here) same

moved-there : (p : Progress) (kind : Kind) (to : Pt3) (done : Progress × List Move) → made_move p kind to ≡ Ok done → done.0.here ≡ to
moved-there p kind to done e =
    let made = unless (nat_le MAX_MOVES p.moves) (fault.TooManyMoves p.line) _ done e in
    sym (here-of _ _ done made)

arrived-there : (p : Progress) (to : Pt3) (done : Progress × List Move) → arrived p to ≡ Ok done → done.0.here ≡ to
arrived-there p to done e =
    let made = unless (nat_lt MAX_MOVES (p.moves + (p.machine.waiting + 1))) (fault.TooManyMoves p.line) _ done e in
    sym (here-of _ _ done made)

waits-there : (p : Progress) (to : Pt3) (done : Progress × List Move) → waits p to ≡ Ok done → done.0.here ≡ to
waits-there p to done e =
    let made = unless (nat_le MAX_MOVES (p.moves + p.machine.waiting)) (fault.TooManyMoves p.line) _ done e in
    sym (here-of _ _ done made)

pub goes_there : (known : Known) (p : Progress) (kind : Kind) (across : Bool) (to : Pt3) (done : Progress × List Move) → gone_to known p kind across to ≡ Ok done → done.0.here ≡ to
goes_there All p kind across to done e = moved-there p kind to done e
goes_there Height p kind true to done e = arrived-there p to done e
goes_there Height p kind false to done e = waits-there p to done e
goes_there Nothing p kind true to done e = arrived-there p to done e
goes_there Nothing p kind false to done e = waits-there p to done e

pub went_there : (c : Control) (p : Progress) (s : MachineSaid) (kind : Kind) (done : Progress × List Move) → went c p s kind ≡ Ok done → target_for c p s ≡ Ok done.0.here
went_there c p s kind done e =
    behind (target_for c p s) (λ to. gone_to (known_of p) p kind (parks s) to) done (target_for c p s ≡ Ok done.0.here) e
    (λ to is gone. is ∙ ap Ok (sym (goes_there (known_of p) p kind (parks s) to done gone)))

to-target : (c : Control) (p : Progress) (s : MachineSaid) (mode : Mode) (turn : Option Turn) (done : Progress × List Move) → FitsTold s → FitsFiner p.machine.finer
    → acts_by c p s mode None turn ≡ Ok done → target_for c p s ≡ Ok done.0.here
to-target c p s mode (Some turn) done told fits e =
    behind (driven_or_fault p.rules.needs_spindle Feed p.drive p.line) (λ _. turned c p s turn) done (target_for c p s ≡ Ok done.0.here) e (λ _ is round. arc_ends c p s turn done told fits round)
to-target c p s Off None done told fits e = absurd cc
to-target c p s (On kind) None done told fits e =
    behind (driven_or_fault p.rules.needs_spindle kind p.drive p.line) (λ _. went c p s kind) done (target_for c p s ≡ Ok done.0.here) e (λ _ is straight. went_there c p s kind done straight)

-- behind a line of no cycle
pub straight_finer : (c : Control) (p : Progress) (s : MachineSaid) (done : Progress × List Move) → FitsTold s → FitsFiner p.machine.finer → p.machine.cycle ≡ None
    → acts_by c p s p.mode p.machine.cycle p.machine.turn ≡ Ok done → IsExactly (finer-to p s) done.0.here (exact_to p s p.machine.cycle)
straight_finer c p s done told fits none e =
    let acts : acts_by c p s p.mode None p.machine.turn ≡ Ok done = subst (λ (cycle : Option Cycle). acts_by c p s p.mode cycle p.machine.turn ≡ Ok done) none e in
    subst (λ (cycle : Option Cycle). IsExactly (finer-to p s) done.0.here (exact_to p s cycle)) (sym none) (target-is c p s done.0.here (to-target c p s p.mode p.machine.turn done told fits acts))

-- ---- a hole

record IsHoleOf (c : Control) (p : Progress) (s : MachineSaid) (v : Series) (h : Hole) : Type 0 where
  x : coordinate_for c p p.here.x s.x ≡ Ok h.x
  y : coordinate_for c p p.here.y s.y ≡ Ok h.y
  top : ℤ
  over : coordinate_for c p p.here.z v.r ≡ Ok top
  end : h.«end» ≡ hole_z v.level (returns_or p.machine.returns) top

hole-of : (c : Control) (p : Progress) (s : MachineSaid) (v : Series) (h : Hole) → hole_for c p s v ≡ Ok h → IsHoleOf c p s v h
unfolding hole_for
hole-of c p s v h e =
    by (coordinate_for c p p.here.x s.x) (coordinate_for c p p.here.y s.y) (coordinate_for c p p.here.z v.z) (coordinate_for c p p.here.z v.r) (peck_fits c p s.q) refl refl refl e
  where
    by : (a b d o : Result ℤ NgcFault) (q : Result ⊤ NgcFault) → a ≡ coordinate_for c p p.here.x s.x → b ≡ coordinate_for c p p.here.y s.y → o ≡ coordinate_for c p p.here.z v.r
        → (a >>= λ x. b >>= λ y. d >>= λ z. o >>= λ top. q >>= λ _. Ok (hole_of c p v x y top)) ≡ Ok h → IsHoleOf c p s v h
    by (Err f) b d o q i j k e = absurd cc
    by (Ok x) (Err f) d o q i j k e = absurd cc
    by (Ok x) (Ok y) (Err f) o q i j k e = absurd cc
    by (Ok x) (Ok y) (Ok z) (Err f) q i j k e = absurd cc
    by (Ok x) (Ok y) (Ok z) (Ok top) (Err f) i j k e = absurd cc
    by (Ok x) (Ok y) (Ok z) (Ok top) (Ok t) i j k e =
        let is : hole_of c p v x y top ≡ h = cc in
        subst (IsHoleOf c p s v) is (record { x = sym i; y = sym j; top = top; over = sym k; end = refl })

first-of : (a b : Bool) → (a && b) ≡ true → a ≡ true
first-of true b e = refl
first-of false b e = absurd cc

second-of : (a b : Bool) → (a && b) ≡ true → b ≡ true
second-of true b e = e
second-of false b e = absurd cc

-- where it may be drilled R is known, and a hole ends at the level only where the tool is there
pub record HasTop (c : Control) (p : Progress) (v : Series) (h : Hole) : Type 0 where
  pub top : ℤ
  pub over : units_for c p (number_or v.r) ≡ Ok top
  pub end : h.«end» ≡ hole_z v.level (returns_or p.machine.returns) top
  pub alike : returns_alike p.machine.returns v.level p.here.z ≡ true

number-over : (c : Control) (p : Progress) (here top : ℤ) (r z : Option Num) → goes_down r z ≡ true → coordinate_for c p here r ≡ Ok top → units_for c p (number_or r) ≡ Ok top
number-over c p here top None z down e = absurd cc
number-over c p here top (Some n) z down e = e

pub has_top : (c : Control) (p : Progress) (s : MachineSaid) (v : Series) (h : Hole) → is_drillable p s v ≡ true → hole_for c p s v ≡ Ok h → HasTop c p v h
has_top c p s v h may e =
    let is = hole-of c p s v h e in
    let cross = crosses_alike (clearance_of (per_of p) v.r) p.here (rounded_or p p.here.x s.x) (rounded_or p p.here.y s.y) in
    let alike = returns_alike p.machine.returns v.level p.here.z in
    let drills : (is_whole_series v && (cross && alike)) ≡ true = second-of (is_level p.machine.plane) (is_whole_series v && (cross && alike)) may in
    let down : goes_down v.r v.z ≡ true = first-of (goes_down v.r v.z) (not (pecks v.cycle) || is_positive v.q) (first-of (is_whole_series v) (cross && alike) drills) in
    record {
      top = is.top;
      over = number-over c p p.here.z is.top v.r v.z down is.over;
      end = is.end;
      alike = second-of cross alike (second-of (is_whole_series v) (cross && alike) drills);
    }

same-level : (returns : Option Return) (level z top : ℤ) → returns_alike returns level z ≡ true → hole_z level (returns_or returns) top ≡ hole_z z (returns_or returns) top
same-level None level z top e = absurd cc
same-level (Some Clearance) level z top e = refl
same-level (Some Level) level z top e =
    let same : level ≡ z = grind (arith, ints) in
    ap (greater top) same

-- R, or the tool's own height where the hole ends at the level and that is higher
pub over_hole : (c : Control) (p : Progress) (s : MachineSaid) (v : Series) (h : Hole) (u f : ℤ) → is_drillable p s v ≡ true → hole_for c p s v ≡ Ok h
    → u ≡ hole_z p.here.z (returns_or p.machine.returns) (rounded (per_of p) (number_or v.r))
    → ((parts *ℤ u) +ℤ f) ≡ text_end (returns_or p.machine.returns) ((parts *ℤ rounded (per_of p) (number_or v.r)) +ℤ finer (per_of p) (number_or v.r)) ((parts *ℤ p.here.z) +ℤ p.machine.finer.z)
    → ((parts *ℤ h.«end») +ℤ f) ≡ (text_over_hole p (exact_here p) s v).z
over_hole c p s v h u f may e u_is text =
    let has = has_top c p s v h may e in
    let back = returns_or p.machine.returns in
    let top : rounded (per_of p) (number_or v.r) ≡ has.top = units-are c p (number_or v.r) has.top has.over in
    let ends : h.«end» ≡ u =
    has.end ∙ same-level p.machine.returns v.level p.here.z has.top has.alike ∙ ap (hole_z p.here.z back) (sym top) ∙ sym u_is in
    ap (λ (t : ℤ). (parts *ℤ t) +ℤ f) ends ∙ text
    ∙ ap (λ (t : ℤ). text_end back t ((parts *ℤ p.here.z) +ℤ p.machine.finer.z)) (whole-again (parts *ℤ rounded (per_of p) (number_or v.r)) (text_units (per_of p) (number_or v.r)))

within-by : (fine : Bool) (most : ℕ) (f g : NgcFault) (w z : ℤ) → (if not fine then Err f else (if nat_lt most (nat_abs w) then Err g else Ok w)) ≡ Ok z → Within most w
within-by false most f g w z e = absurd cc
within-by true most f g w z e = by (nat_lt most (nat_abs w)) refl e
  where
    by : (over : Bool) → over ≡ nat_lt most (nat_abs w) → (if over then Err g else Ok w) ≡ Ok z → Within most w
    by true is e = absurd cc
    by false is e = record { within = grind (arith, nat_tests) }

pub top_within : (c : Control) (p : Progress) (s : MachineSaid) (v : Series) (h : Hole) → is_drillable p s v ≡ true → hole_for c p s v ≡ Ok h → Within (greatest_of p.unit) (rounded (per_of p) (number_or v.r))
top_within c p s v h may e =
    let has = has_top c p s v h may e in
    within-by (is_taken c.rounds (per_of p) (number_or v.r)) (greatest_of p.unit) (fault.OffGrid p.line) (fault.OutOfRange p.line) (rounded (per_of p) (number_or v.r)) has.top has.over

hole-there : (p : Progress) (v : Series) (h : Hole) (done : Progress × List Move) → drilled p v h ≡ Ok done → done.0.here ≡ hole_end h
hole-there p v h done e =
    let made = unless (nat_lt MAX_MOVES (p.moves + length (hole_moves h))) (fault.TooManyMoves p.line) _ done e in
    sym (here-of _ _ done made)

-- what is beside x and y behind a hole, and beside z what the last clause says
pub hole_finer : (c : Control) (p : Progress) (s : MachineSaid) (cycle : Cycle) (f : ℤ) (done : Progress × List Move) → p.machine.cycle ≡ Some cycle
    → ((h : Hole) → is_drillable p s (series_for p s cycle) ≡ true → hole_for c p s (series_for p s cycle) ≡ Ok h
    → ((parts *ℤ h.«end») +ℤ f) ≡ (text_over_hole p (exact_here p) s (series_for p s cycle)).z)
    → acts_by c p s p.mode p.machine.cycle p.machine.turn ≡ Ok done
    → IsExactly (record { x = finer_or (per_of p) p.machine.finer.x s.x; y = finer_or (per_of p) p.machine.finer.y s.y; z = f }) done.0.here (exact_to p s p.machine.cycle)
unfolding drills_hole
hole_finer c p s cycle f done is over e =
    let v = series_for p s cycle in
    let acts : acts_by c p s p.mode (Some cycle) p.machine.turn ≡ Ok done = subst (λ (mode : Option Cycle). acts_by c p s p.mode mode p.machine.turn ≡ Ok done) is e in
    let Ends : Type 0 = IsExactly (record { x = finer_or (per_of p) p.machine.finer.x s.x; y = finer_or (per_of p) p.machine.finer.y s.y; z = f }) done.0.here (text_over_hole p (exact_here p) s v) in
    let drilled-so : is_drillable p s v ≡ true → (h : Hole) → hole_for c p s v ≡ Ok h → drilled p v h ≡ Ok done → Ends =
    λ may h hole drill.
    let of = hole-of c p s v h hole in
    subst (λ (at : Pt3). IsExactly (record { x = finer_or (per_of p) p.machine.finer.x s.x; y = finer_or (per_of p) p.machine.finer.y s.y; z = f }) at (text_over_hole p (exact_here p) s v))
    (sym (hole-there p v h done drill)) (record {
      x_is = coordinate-is c p p.here.x p.machine.finer.x h.x s.x of.x;
      y_is = coordinate-is c p p.here.y p.machine.finer.y h.y s.y of.y;
      z_is = over h may hole;
    }) in
    subst (λ (mode : Option Cycle). IsExactly (record { x = finer_or (per_of p) p.machine.finer.x s.x; y = finer_or (per_of p) p.machine.finer.y s.y; z = f }) done.0.here (exact_to p s mode)) (sym is)
    (behind (driven_or_fault p.rules.needs_spindle Feed p.drive p.line) (λ _. drills_hole c p s cycle) done Ends acts
    (λ _ ok drills. by (is_drillable p s v) refl Ends drills drilled-so))
  where
    by : (may : Bool) → may ≡ is_drillable p s (series_for p s cycle) → (P : Type 0)
        → (if not may then Err (fault.Cycle p.line) else (hole_for c p s (series_for p s cycle) >>= λ h. drilled p (series_for p s cycle) h)) ≡ Ok done
        → (is_drillable p s (series_for p s cycle) ≡ true → (h : Hole) → hole_for c p s (series_for p s cycle) ≡ Ok h → drilled p (series_for p s cycle) h ≡ Ok done → P) → P
    by false not-so P e next = absurd cc
    by true so P e next = behind (hole_for c p s (series_for p s cycle)) (λ h. drilled p (series_for p s cycle) h) done P e (λ h hole drill. next (sym so) h hole drill)
