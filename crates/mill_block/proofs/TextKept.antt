-- What stays from line to line fits behind each line, and so each line of a text is the ways of its own numbers, rounded, or exactly these where nothing is rounded.
use Rattle.std.proofs.Common.{◌≡◌, ℕ, ◌+◌, Bool, true, false, Option, Some, None, Result, Ok, Err, List, [], ◌∷◌, length, replicate, refl, sym, subst, arith}
use Rattle.std.proofs.lemmas.Int.{ints}
use Rattle.std.specs.Prelude.{⊤, ℤ, pos, ◌+ℤ◌, ◌*ℤ◌, int_le, ◌^◌, All, not, ◌&&◌, ◌||◌, nat_le, nat_lt, IfSome, if◌then◌else◌}
use Rattle.mill_base.specs.Numbers.{Within}
use Rattle.mill_base.specs.Units.{greatest_of}
use Rattle.mill_base.specs.declared.unit.Unit.{Unit}
use Rattle.mill_control.specs.Unrounded.{parts}
use Rattle.mill_said.specs.declared.rules.Rules.{Rules}
use Rattle.mill_base.specs.Rounded.{IsRounded, twice_off}
use Rattle.mill_base.specs.declared.limits.TheConstants.{MAX_MOVES}
use Rattle.mill_base.specs.declared.motion.Kind.{Kind}
use Rattle.mill_base.specs.declared.motion.Kind.TheVariants.{Rapid, Feed}
use Rattle.mill_base.specs.declared.points.Pt3.{Pt3}
use Rattle.mill_words.specs.Lines.{line_of}
use Rattle.mill_words.specs.Words.{FitsWord, Line, is_blank as is_blank_line}
use Rattle.mill_words.specs.declared.word.WordFault.{WordFault}
use Rattle.mill_words.proofs.LineFits.{line_fits}
use Rattle.mill_control.specs.Drilled.{FitsSeries, ends_at}
use Rattle.mill_control.specs.Holes.{hole_end, hole_moves}
use Rattle.mill_control.specs.Lengths.{per}
use Rattle.mill_control.specs.Offsets.{may_name}
use Rattle.mill_control.specs.Places.{allows, may_park, raised}
use Rattle.mill_control.specs.declared.hole.Hole.{Hole}
use Rattle.mill_control.specs.declared.lengths.LengthUnit.{LengthUnit}
use Rattle.mill_control.specs.declared.lengths.LengthUnit.TheVariants.{Millimetres, Inches}
use Rattle.mill_control.specs.declared.series.Cycle.{Cycle}
use Rattle.mill_control.specs.declared.series.Series.{Series}
use Rattle.mill_control.specs.declared.turn.Turn.{Turn}
use Rattle.mill_block.specs.Drives.{driven_or_fault}
use Rattle.mill_block.specs.Lines.{acted_by, after_line, after_words, has_frame, in_frame, is_percent, line_begun, line_in, settled_before, start_at, with_line, with_percent, words_or_fault}
use Rattle.mill_block.specs.Kept.{HALF}
use Rattle.mill_block.specs.MachineArcs.{fed, sweep_of, words_fit}
use Rattle.mill_block.specs.MachineLines.{Done, above_of, acts, acts_by, arrived, axis_done, drilled, drills_hole, exact_to, exactly, gone_to, gone_up, hole_for, idles, is_drillable, is_idle, is_safe, is_taken, machine_acted, machine_behind, machine_done, names_by, names_height, naming_of, park, parks, place_of, points_of, rise, series_for, stands, still_at, target_for, turned, up_fits, waits, went, went_round, with_place, with_stop}
use Rattle.mill_said.specs.MachineSaid.{other_lengths, told_line}
use Rattle.mill_block.specs.MachineSettings.{cycle_behind, has_lengths, inches_behind, millimetres_behind, per_of, series_behind, settled_for}
use Rattle.mill_block.specs.Motion.{known_of}
use Rattle.mill_said.specs.Said.{◌>>=◌}
use Rattle.mill_block.specs.TextPlaces.{exact_here, text_above}
use Rattle.mill_block.specs.declared.machine_arc.Sweep.{Sweep}
use Rattle.mill_block.specs.TextPaths.{FitsText, IsFiner, IsTextOf, KeepsPeck, TextLineIs, Way, text_acts, text_done, text_gone, text_in, text_line, text_told, text_words}
use Rattle.mill_said.specs.declared.fault.NgcFault.{NgcFault}
use Rattle.mill_said.specs.declared.fault.NgcFault.TheVariants as fault
use Rattle.mill_block.specs.declared.machine.Machine.{Machine}
use Rattle.mill_said.specs.declared.machine_said.MachineSaid.{MachineSaid}
use Rattle.mill_said.specs.declared.machine_said.Up.{Up}
use Rattle.mill_said.specs.declared.machine_table.Meaning.TheVariants.{Lengths}
use Rattle.mill_said.specs.declared.profile.Mode.{Mode}
use Rattle.mill_said.specs.declared.profile.Mode.TheVariants.{Off, On}
use Rattle.mill_block.specs.declared.progress.Frame.{Frame}
use Rattle.mill_block.specs.declared.progress.Frame.TheVariants.{Unknown, Framed, Plain}
use Rattle.mill_block.specs.declared.progress.Known.{Known}
use Rattle.mill_block.specs.declared.progress.Known.TheVariants.{Nothing, Height, All as Whole}
use Rattle.mill_block.specs.declared.progress.Progress.{Progress}
use Rattle.mill_said.specs.declared.rules.Control.{Control}
use Rattle.mill_said.specs.declared.rules.Words.{Words}
use Rattle.mill_said.specs.declared.rules.Words.TheVariants.{Machine as MachineWords}
use Rattle.mill_said.specs.Bounds.{FitsTold}
use Rattle.mill_said.proofs.TextFits.{LengthsStay, told_fits}
use Rattle.mill_block.proofs.TextLines.{hole_taken, leads_acts, line_is_text_of, series-fits}
use Rattle.mill_block.proofs.TextWays.{Leads, leads_up, near_exact}

-- ---- what stays

Kept : Control → Done → Type 0
Kept c (Ok done) = FitsText c done.0
Kept c (Err f) = ⊤

kept-if : (c : Control) (b : Bool) (x y : Done) → Kept c x → Kept c y → Kept c (if b then x else y)
kept-if c true x y h g = h
kept-if c false x y h g = g

kept-unless : (c : Control) (b : Bool) (x y : Done) → Kept c x → (b ≡ true → Kept c y) → Kept c (if not b then x else y)
kept-unless c true x y h g = g refl
kept-unless c false x y h g = h

kept-with : {A : Type 0} (c : Control) (r : Result A NgcFault) (f : A → Done) → ((a : A) → r ≡ Ok a → Kept c (f a)) → Kept c (r >>= f)
unfolding Kept
kept-with c (Ok x) f h = h x refl
kept-with c (Err e) f h = tt

-- what hangs on the place being known stays where it comes to be known
placed : (rounds positioned lengths : Bool) (per : ℕ) (series : Option Series) → IfSome series (KeepsPeck rounds positioned lengths per) → IfSome series (KeepsPeck rounds true lengths per)
placed rounds positioned lengths per None keeps = tt
placed rounds positioned lengths per (Some s) keeps = record { placed = refl; measured = keeps.measured; q_taken = keeps.q_taken }

-- behind a line that keeps the series and the lengths
stays : (c : Control) (p : Progress) → FitsText c p → IfSome p.machine.series (KeepsPeck c.rounds true (has_lengths p) (per_of p))
stays c p fits = placed c.rounds p.positioned (has_lengths p) (per_of p) p.machine.series fits.peck_fits

-- the same series, under the same lengths
record IsSeries (m n : Machine) : Type 0 where
  series : n.series ≡ m.series
  inches : n.inches ≡ m.inches

-- what a place near the list's has beside it
finer-within : (rounds : Bool) (t : ℤ) → IsFiner rounds t → Within HALF t
finer-within true t near = record { within = omega (near, arith, ints) }
finer-within false t near = record { within = omega (near, arith, ints) }

-- the text's own place is told, near the list's
kept-exactly : (c : Control) (t : Pt3) (way : Way) (d : Done) (f : Machine → Machine) → ((m : Machine) → IsSeries m (f m)) → Leads c.rounds t way d → Kept c d → Kept c (d >>= λ done. Ok (exactly t (with_place f done)))
unfolding Kept
kept-exactly c t way (Ok done) f same leads fits =
    let alike = same done.0.machine in
    record {
      fits = record {
        clear_fits = fits.fits.clear_fits;
        series_fits = subst (λ (s : Option Series). IfSome s FitsSeries) (sym alike.series) fits.fits.series_fits;
        finer_fits = record { x_fits = finer-within c.rounds _ leads.near.x_near; y_fits = finer-within c.rounds _ leads.near.y_near; z_fits = finer-within c.rounds _ leads.near.z_near };
      };
      finer_fits = record { x_finer = leads.near.x_near; y_finer = leads.near.y_near; z_finer = leads.near.z_near };
      peck_fits = subst (λ (i : Bool). IfSome (f done.0.machine).series (KeepsPeck c.rounds done.0.positioned (done.0.millimetres || i) (per (if i then Inches else Millimetres) done.0.unit))) (sym alike.inches)
          (subst (λ (s : Option Series). IfSome s (KeepsPeck c.rounds done.0.positioned (has_lengths done.0) (per_of done.0))) (sym alike.series) fits.peck_fits);
    }
kept-exactly c t way (Err e) f same leads fits = tt

kept-first : (c : Control) (p : Progress) (across : Bool) (to : Pt3) → FitsText c p → Kept c (if across then arrived p to else waits p to)
unfolding Kept
kept-first c p true to fits =
    kept-if c (nat_lt MAX_MOVES (p.moves + (p.machine.waiting + 1))) (Err (fault.TooManyMoves p.line))
    (Ok (record p { here = to; known = Whole; positioned = true; moves = p.moves + (p.machine.waiting + 1); machine = record p.machine { waiting = 0 } }, replicate (p.machine.waiting + 1) (still_at to))) tt
    (record { fits = record { clear_fits = fits.fits.clear_fits; series_fits = fits.fits.series_fits; finer_fits = fits.fits.finer_fits }; finer_fits = fits.finer_fits; peck_fits = stays c p fits })
kept-first c p false to fits =
    kept-if c (nat_le MAX_MOVES (p.moves + p.machine.waiting)) (Err (fault.TooManyMoves p.line))
    (Ok (record p { here = to; positioned = true; machine = record p.machine { waiting = p.machine.waiting + 1 } }, [])) tt
    (record { fits = record { clear_fits = fits.fits.clear_fits; series_fits = fits.fits.series_fits; finer_fits = fits.fits.finer_fits }; finer_fits = fits.finer_fits; peck_fits = stays c p fits })

kept-to : (c : Control) (k : Known) (p : Progress) (kind : Kind) (across : Bool) (to : Pt3) → FitsText c p → Kept c (gone_to k p kind across to)
unfolding Kept
kept-to c Whole p kind across to fits =
    kept-if c (nat_le MAX_MOVES p.moves) (Err (fault.TooManyMoves p.line))
    (Ok (record p { here = to; positioned = true; moves = p.moves + 1 }, record { kind = kind; from = p.here; to = to } ∷ [])) tt
    (record { fits = record { clear_fits = fits.fits.clear_fits; series_fits = fits.fits.series_fits; finer_fits = fits.fits.finer_fits }; finer_fits = fits.finer_fits; peck_fits = stays c p fits })
kept-to c Height p kind across to fits = kept-first c p across to fits
kept-to c Nothing p kind across to fits = kept-first c p across to fits

kept-up : (c : Control) (p : Progress) (s : MachineSaid) (u : Up) → FitsText c p → Kept c (gone_up p s u)
unfolding gone_up Kept
kept-up c p s u fits =
    let goes : Done = if parks s then park p s else rise p in
    let measured : Done = if u.by_machine && not p.absolute then Err (fault.NoAbsolute p.line) else goes in
    let told : Done = if not (has_lengths p) then Err (fault.NoUnits p.line) else measured in
    let safe : Done = if parks s && not (may_park p.machine.place.height (is_safe p)) then Err (fault.Start p.line) else told in
    kept-if c (not (up_fits p s u)) (Err (fault.NotInProfile p.line 71 u.num)) safe tt
    (kept-if c (parks s && not (may_park p.machine.place.height (is_safe p))) (Err (fault.Start p.line)) told tt
    (kept-if c (not (has_lengths p)) (Err (fault.NoUnits p.line)) measured tt
    (kept-if c (u.by_machine && not p.absolute) (Err (fault.NoAbsolute p.line)) goes tt
    (kept-if c (parks s) (park p s) (rise p) (record { fits = record { clear_fits = fits.fits.clear_fits; series_fits = fits.fits.series_fits; finer_fits = fits.fits.finer_fits }; finer_fits = fits.finer_fits; peck_fits = stays c p fits })
    (kept-exactly c (text_above p (exact_here p)) (text_gone (known_of p) p Rapid false (exact_here p) (text_above p (exact_here p))) (gone_to (known_of p) p Rapid false (above_of p)) (λ (m : Machine). record m { place = raised m.place }) (λ m. record { series = refl; inches = refl })
    (leads_up c.rounds p (exact_here p) (near_exact c.rounds p fits.finer_fits)) (kept-to c (known_of p) p Rapid false (above_of p) fits))))))

kept-drilled : (c : Control) (p : Progress) (v : Series) (h : Hole) → FitsText c p → FitsSeries v → has_lengths p ≡ true → IfSome v.q (λ n. is_taken c.rounds (per_of p) n ≡ true) → Kept c (drilled p v h)
unfolding Kept
kept-drilled c p v h fits series lengths peck =
    kept-if c (nat_lt MAX_MOVES (p.moves + length (hole_moves h))) (Err (fault.TooManyMoves p.line))
    (Ok (record p { here = hole_end h; positioned = true; moves = p.moves + length (hole_moves h); machine = record p.machine { series = Some v } }, hole_moves h)) tt
    (record { fits = record { clear_fits = fits.fits.clear_fits; series_fits = series; finer_fits = fits.fits.finer_fits }; finer_fits = fits.finer_fits; peck_fits = record { placed = refl; measured = lengths; q_taken = peck } })

kept-hole : (c : Control) (p : Progress) (s : MachineSaid) (cycle : Cycle) → FitsTold s → FitsText c p → has_lengths p ≡ true → Kept c (drills_hole c p s cycle)
unfolding drills_hole Kept
kept-hole c p s cycle told fits lengths =
    let v : Series = series_for p s cycle in
    kept-if c (not (is_drillable p s v)) (Err (fault.Cycle p.line)) (hole_for c p s v >>= λ h. drilled p v h) tt
    (kept-with c (hole_for c p s v) (λ h. drilled p v h) (λ h is. kept-drilled c p v h fits (series-fits p s cycle told fits.fits) lengths (hole_taken c p s cycle h fits is)))

kept-turned : (c : Control) (p : Progress) (s : MachineSaid) (turn : Turn) → FitsText c p → Kept c (turned c p s turn)
unfolding turned Kept
kept-turned c p s turn fits =
    let w : Sweep = sweep_of c p s turn in
    let goes : Done = target_for c p s >>= λ to. points_of p w >>= λ points. went_round p points in
    kept-if c (int_le (pos 0) c.arc_room && p.machine.wide_path) (Err (fault.PathControl p.line)) (if not (words_fit c p s) then Err (fault.Arc p.line) else goes) tt
    (kept-if c (not (words_fit c p s)) (Err (fault.Arc p.line)) goes tt
    (kept-with c (target_for c p s) (λ to. points_of p w >>= λ points. went_round p points)
    (λ to _. kept-with c (points_of p w) (λ points. went_round p points)
    (λ points _. kept-if c (nat_lt MAX_MOVES (p.moves + length points)) (Err (fault.TooManyMoves p.line))
    (Ok (record p { here = ends_at p.here (fed p.here points); positioned = true; moves = p.moves + length points }, fed p.here points)) tt
    (record { fits = record { clear_fits = fits.fits.clear_fits; series_fits = fits.fits.series_fits; finer_fits = fits.fits.finer_fits }; finer_fits = fits.finer_fits; peck_fits = stays c p fits })))))

kept-acts : (c : Control) (p : Progress) (s : MachineSaid) (mode : Mode) (cycle : Option Cycle) (turn : Option Turn) → FitsTold s → FitsText c p → has_lengths p ≡ true → Kept c (acts_by c p s mode cycle turn)
unfolding Kept
kept-acts c p s mode (Some cycle) turn told fits lengths = kept-with c (driven_or_fault p.rules.needs_spindle Feed p.drive p.line) (λ _. drills_hole c p s cycle) (λ _ _. kept-hole c p s cycle told fits lengths)
kept-acts c p s mode None (Some turn) told fits lengths = kept-with c (driven_or_fault p.rules.needs_spindle Feed p.drive p.line) (λ _. turned c p s turn) (λ _ _. kept-turned c p s turn fits)
kept-acts c p s Off None None told fits lengths = tt
kept-acts c p s (On kind) None None told fits lengths =
    kept-with c (driven_or_fault p.rules.needs_spindle kind p.drive p.line) (λ _. went c p s kind)
    (λ _ _. kept-with c (target_for c p s) (λ to. gone_to (known_of p) p kind (parks s) to) (λ to _. kept-to c (known_of p) p kind (parks s) to fits))

kept-names : (c : Control) (p : Progress) (s : MachineSaid) → FitsTold s → FitsText c p → Kept c (names_by c p s)
unfolding names_by Kept
kept-names c p s told fits =
    let way : Way = text_acts c p (exact_here p) s p.mode p.machine.cycle p.machine.turn in
    let goes : Done = acts_by c p s p.mode p.machine.cycle p.machine.turn >>= λ done. Ok (exactly (exact_to p s p.machine.cycle) (with_place (machine_behind p s) done)) in
    let measured : Done = if not p.absolute then Err (fault.NoAbsolute p.line) else goes in
    let lengths : Done = if not (has_lengths p) then Err (fault.NoUnits p.line) else measured in
    let offset : Done = if not (may_name p.machine.named p.machine.offsets (names_height p.machine.cycle s) (parks s)) then Err (fault.LateOffset p.line) else lengths in
    let placed : Done = if not (allows (place_of p) (naming_of p s)) then Err (fault.Start p.line) else offset in
    kept-if c p.machine.late (Err (fault.LateTool p.line)) placed tt
    (kept-if c (not (allows (place_of p) (naming_of p s))) (Err (fault.Start p.line)) offset tt
    (kept-if c (not (may_name p.machine.named p.machine.offsets (names_height p.machine.cycle s) (parks s))) (Err (fault.LateOffset p.line)) lengths tt
    (kept-unless c (has_lengths p) (Err (fault.NoUnits p.line)) measured tt
    (λ has. kept-if c (not p.absolute) (Err (fault.NoAbsolute p.line)) goes tt
    (kept-exactly c (exact_to p s p.machine.cycle) way (acts_by c p s p.mode p.machine.cycle p.machine.turn) (machine_behind p s) (λ m. record { series = refl; inches = refl })
    (leads_acts c p s p.mode p.machine.cycle p.machine.turn told fits) (kept-acts c p s p.mode p.machine.cycle p.machine.turn told fits has))))))

kept-still : (c : Control) (p : Progress) (s : MachineSaid) (up : Option Up) → FitsText c p → Kept c (stands p s up)
unfolding Kept
kept-still c p s None fits = kept-if c (is_idle s) (Ok (p, [])) (Err (fault.Cycle p.line)) fits tt
kept-still c p s (Some u) fits = kept-if c u.by_machine (idles p s) (Err (fault.NotInProfile p.line 71 u.num)) (kept-if c (is_idle s) (Ok (p, [])) (Err (fault.Cycle p.line)) fits tt) tt

kept-axis : (c : Control) (p : Progress) (s : MachineSaid) (up : Option Up) → FitsTold s → FitsText c p → Kept c (axis_done c p s up)
kept-axis c p s None told fits = kept-names c p s told fits
kept-axis c p s (Some u) told fits = kept-up c p s u fits

kept-done : (c : Control) (p : Progress) (s : MachineSaid) → FitsTold s → FitsText c p → Kept c (machine_done c p s)
kept-done c p s told fits = kept-if c (acts p s) (axis_done c p s s.up) (stands p s s.up) (kept-axis c p s s.up told fits) (kept-still c p s s.up fits)

-- ---- the settings of a line

series-stays : (F : Series → Type 0) (cycle : Option Cycle) (series : Option Series) → IfSome series F → IfSome (series_behind cycle series) F
series-stays F None series fits = tt
series-stays F (Some c) series fits = fits

-- lengths that are in force once an axis word has come stay in force
record HasLengths (inches millimetres was : Bool) : Type 0 where
  same : inches ≡ was
  has : (millimetres || inches) ≡ true

lengths-stay : (p : Progress) (lengths : Option LengthUnit) → p.positioned ≡ true → has_lengths p ≡ true → IfSome lengths (λ l. other_lengths (settled_before p) (Lengths l) ≡ false)
    → HasLengths (inches_behind lengths p.machine.inches) (millimetres_behind lengths p.millimetres) p.machine.inches
lengths-stay p None placed has free = record { same = refl; has = has }
lengths-stay p (Some Inches) placed has free = by p.positioned p.millimetres p.machine.inches placed has free
  where
    by : (positioned millimetres inches : Bool) → positioned ≡ true → (millimetres || inches) ≡ true → (positioned && millimetres) ≡ false → HasLengths true false inches
    by true true inches placed has free = absurd cc
    by true false true placed has free = record { same = refl; has = refl }
    by true false false placed has free = absurd cc
    by false millimetres inches placed has free = absurd cc
lengths-stay p (Some Millimetres) placed has free = by p.positioned p.machine.inches placed free
  where
    by : (positioned inches : Bool) → positioned ≡ true → (positioned && inches) ≡ false → HasLengths false true inches
    by true true placed free = absurd cc
    by true false placed free = record { same = refl; has = refl }
    by false inches placed free = absurd cc

peck-stays : (c : Control) (p : Progress) (s : MachineSaid) (series : Option Series) → LengthsStay (settled_before p) s → IfSome series (KeepsPeck c.rounds p.positioned (has_lengths p) (per_of p))
    → IfSome series (KeepsPeck c.rounds p.positioned (millimetres_behind s.lengths p.millimetres || inches_behind s.lengths p.machine.inches) (per (if inches_behind s.lengths p.machine.inches then Inches else Millimetres) p.unit))
unfolding LengthsStay
peck-stays c p s None free keeps = tt
peck-stays c p s (Some v) free keeps =
    let stay = lengths-stay p s.lengths keeps.placed keeps.measured free in
    record { placed = keeps.placed; measured = stay.has; q_taken = subst (λ (i : Bool). IfSome v.q (λ n. is_taken c.rounds (per (if i then Inches else Millimetres) p.unit) n ≡ true)) (sym stay.same) keeps.q_taken }

settled-fits : (c : Control) (p : Progress) (s : MachineSaid) → LengthsStay (settled_before p) s → FitsText c p → FitsText c (settled_for c p s)
unfolding settled_for
settled-fits c p s free fits =
    record {
      fits = record { clear_fits = fits.fits.clear_fits; series_fits = series-stays FitsSeries (cycle_behind s.motion s.still p.machine.cycle) p.machine.series fits.fits.series_fits; finer_fits = fits.fits.finer_fits };
      finer_fits = fits.finer_fits;
      peck_fits = series-stays (KeepsPeck c.rounds p.positioned (millimetres_behind s.lengths p.millimetres || inches_behind s.lengths p.machine.inches) (per (if inches_behind s.lengths p.machine.inches then Inches else Millimetres) p.unit))
          (cycle_behind s.motion s.still p.machine.cycle) p.machine.series (peck-stays c p s p.machine.series free fits.peck_fits);
    }

-- ---- a line

-- it is the ways of its own numbers, and what stays fits
Lands : Control → Way → Done → Type 0
Lands c way (Ok done) = IsTextOf c.rounds way done × FitsText c done.0
Lands c way (Err f) = ⊤

lands-if : (c : Control) (b : Bool) (v w : Way) (x y : Done) → Lands c v x → Lands c w y → Lands c (if b then v else w) (if b then x else y)
lands-if c true v w x y h g = h
lands-if c false v w x y h g = g

lands-stopped : (c : Control) (way : Way) (stops : Bool) (d : Done) → Lands c way d → Lands c way (d >>= λ done. Ok (with_stop stops done))
unfolding Lands
lands-stopped c way true (Ok done) h = (record { here = h.0.here; moves = h.0.moves }, record { fits = record { clear_fits = h.1.fits.clear_fits; series_fits = h.1.fits.series_fits; finer_fits = h.1.fits.finer_fits }; finer_fits = h.1.finer_fits; peck_fits = h.1.peck_fits })
lands-stopped c way false (Ok done) h = h
lands-stopped c way stops (Err e) h = tt

lands-done : (c : Control) (p : Progress) (at : Pt3) (s : MachineSaid) (d : Done) → FitsTold s → FitsText c p → at ≡ exact_here p → machine_done c p s ≡ d → Kept c d → Lands c (text_done c p at s) d
unfolding Lands Kept
lands-done c p at s (Ok done) told fits here is kept = (line_is_text_of c p at s done told fits here is, kept)
lands-done c p at s (Err f) told fits here is kept = tt

lands-acted : (c : Control) (p : Progress) (at : Pt3) (s : MachineSaid) → FitsTold s → LengthsStay (settled_before p) s → FitsText c p → at ≡ exact_here p → Lands c (text_done c (settled_for c p s) at s) (machine_acted c p s)
unfolding machine_acted settled_for
lands-acted c p at s told free fits here =
    let settled = settled-fits c p s free fits in
    lands-stopped c (text_done c (settled_for c p s) at s) s.stops (machine_done c (settled_for c p s) s)
    (lands-done c (settled_for c p s) at s (machine_done c (settled_for c p s) s) told settled here refl (kept-done c (settled_for c p s) s told settled))

lands-told : (c : Control) (p : Progress) (at : Pt3) (l : Line) (r : Result MachineSaid NgcFault) → All FitsWord l.words → FitsText c p → at ≡ exact_here p → told_line c (settled_before p) l ≡ r
    → Lands c (text_told c p at r) (r >>= machine_acted c p)
unfolding Lands
lands-told c p at l (Ok s) words fits here is = let told = told_fits c (settled_before p) l s words is in lands-acted c p at s told.0 told.1 fits here
lands-told c p at l (Err f) words fits here is = tt

lands-words : (c : Control) (p : Progress) (at : Pt3) (bytes : List ℕ) (r : Result Line WordFault) → p.rules.words ≡ MachineWords c → FitsText c p → at ≡ exact_here p → line_of bytes ≡ r
    → Lands c (text_words c p at r) (words_or_fault p.line r >>= after_words p)
unfolding Lands after_words
lands-words c p at bytes (Err f) is fits here read = tt
lands-words c p at bytes (Ok l) is fits here read =
    let q : Progress = with_line p (is_blank_line l) in
    subst (λ (w : Words). Lands c (text_words c p at (Ok l)) (acted_by w q l)) (sym is)
    (lands-told c q at l (told_line c (settled_before q) l) (line_fits bytes l read) (record { fits = record { clear_fits = fits.fits.clear_fits; series_fits = fits.fits.series_fits; finer_fits = fits.fits.finer_fits }; finer_fits = fits.finer_fits; peck_fits = fits.peck_fits }) here refl)

framed-fits : (c : Control) (frame : Frame) (p : Progress) (at : Pt3) → FitsText c p → at ≡ exact_here p → Lands c (at, []) (Ok (in_frame frame p, []))
unfolding Lands
framed-fits c Unknown p at fits here = (record { here = here; moves = tt }, record { fits = record { clear_fits = fits.fits.clear_fits; series_fits = fits.fits.series_fits; finer_fits = fits.fits.finer_fits }; finer_fits = fits.finer_fits; peck_fits = fits.peck_fits })
framed-fits c Framed p at fits here = (record { here = here; moves = tt }, record { fits = record { clear_fits = fits.fits.clear_fits; series_fits = fits.fits.series_fits; finer_fits = fits.fits.finer_fits }; finer_fits = fits.finer_fits; peck_fits = fits.peck_fits })
framed-fits c Plain p at fits here = (record { here = here; moves = tt }, record { fits = record { clear_fits = fits.fits.clear_fits; series_fits = fits.fits.series_fits; finer_fits = fits.fits.finer_fits }; finer_fits = fits.finer_fits; peck_fits = fits.peck_fits })

lands-in : (c : Control) (p : Progress) (at : Pt3) (line : List ℕ) → p.rules.words ≡ MachineWords c → FitsText c p → at ≡ exact_here p → Lands c (text_in c p at line) (line_in p line)
unfolding Lands
lands-in c p at line is fits here =
    lands-if c (nat_lt 256 (length line)) (at, []) (if has_frame p.frame (is_percent line) then (at, []) else text_words c p at (line_of line)) (Err (fault.LongLine p.line))
    (if has_frame p.frame (is_percent line) then Ok (with_percent p, []) else words_or_fault p.line (line_of line) >>= after_words p) (long-lands p at)
    (lands-if c (has_frame p.frame (is_percent line)) (at, []) (text_words c p at (line_of line)) (Ok (with_percent p, [])) (words_or_fault p.line (line_of line) >>= after_words p)
    (framed-fits c p.frame p at fits here) (lands-words c p at line (line_of line) is fits here refl))
  where
    long-lands : (p : Progress) (at : Pt3) → Lands c (at, []) (Err (fault.LongLine p.line))
    long-lands p at = tt

lands-line : (c : Control) (p : Progress) (at : Pt3) (line : List ℕ) → p.rules.words ≡ MachineWords c → FitsText c p → at ≡ exact_here p → Lands c (text_line c p at line) (after_line p line)
unfolding text_line after_line
lands-line c p at line is fits here = lands-in c (line_begun p) at line is (record { fits = record { clear_fits = fits.fits.clear_fits; series_fits = fits.fits.series_fits; finer_fits = fits.fits.finer_fits }; finer_fits = fits.finer_fits; peck_fits = fits.peck_fits }) here

pub text_line_is : TextLineIs
unfolding Lands
text_line_is c p at line done is fits here told = subst (λ (d : Done). Lands c (text_line c p at line) d) told (lands-line c p at line is fits here)

-- ---- before the first line

finer-nothing : (rounds : Bool) → IsFiner rounds (pos 0)
finer-nothing true = omega arith
finer-nothing false = omega arith

-- what stays from line to line fits
pub start_fits : (c : Control) (start : Pt3) (unit : Unit) (rules : Rules) → Within (greatest_of unit) start.z → FitsText c (start_at start unit rules)
start_fits c start unit rules clear =
    let none : Within HALF (pos 0) = record { within = omega arith } in
    let finer = finer-nothing c.rounds in
    record {
      fits = record { clear_fits = clear; series_fits = tt; finer_fits = record { x_fits = none; y_fits = none; z_fits = none } };
      finer_fits = record { x_finer = finer; y_finer = finer; z_finer = finer };
      peck_fits = tt;
    }

-- the tool is at a place of whole units
pub start_exact : (start : Pt3) (unit : Unit) (rules : Rules) → record { x = parts *ℤ start.x; y = parts *ℤ start.y; z = parts *ℤ start.z } ≡ exact_here (start_at start unit rules)
start_exact start unit rules = rw (same (parts *ℤ start.x), same (parts *ℤ start.y), same (parts *ℤ start.z)) refl
  where
    same : (w : ℤ) → w +ℤ pos 0 ≡ w
    same w = omega (arith, ints)
