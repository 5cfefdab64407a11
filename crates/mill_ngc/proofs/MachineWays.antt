-- The moves of a line for a machine go on from where the tool was.
use Rattle.std.proofs.Common.{◌≡◌, ℕ, zero, suc, List, [], ◌∷◌, Bool, true, false, Option, Some, None, Result, Ok, Err, refl, sym, subst, ◌∙◌, arith, inl, inr}
use Rattle.std.proofs.lemmas.Int.{ints}
use Rattle.std.specs.Prelude.{⊤, ℤ, ◌+◌, ◌≤ℤ◌, ◌⊎◌, ◌≢◌, ◌&&◌, ◌||◌, pos, int_le, int_lt, cond, length, nat_le, nat_lt, not, is_some, replicate, if◌then◌else◌}
use Rattle.mill_base.specs.Motion.{Follow}
use Rattle.mill_base.specs.Numbers.{greater}
use Rattle.mill_base.specs.declared.limits.TheConstants.{MAX_MOVES}
use Rattle.mill_base.specs.declared.motion.Kind.{Kind}
use Rattle.mill_base.specs.declared.motion.Kind.TheVariants.{Rapid, Feed}
use Rattle.mill_base.specs.declared.motion.Move.{Move}
use Rattle.mill_base.specs.declared.points.Pt3.{Pt3}
use Rattle.mill_control.proofs.Going.{ends, follows}
use Rattle.mill_control.specs.Drilled.{ends_at}
use Rattle.mill_control.specs.Holes.{hole_end, hole_moves, may_drill}
use Rattle.mill_control.specs.Offsets.{may_name}
use Rattle.mill_control.specs.Places.{allows, may_park, raised}
use Rattle.mill_control.specs.declared.hole.Hole.{Hole}
use Rattle.mill_control.specs.declared.series.Cycle.{Cycle}
use Rattle.mill_control.specs.declared.series.Series.{Series}
use Rattle.mill_block.proofs.NamingLemmas.{drills_known, named_rises}
use Rattle.mill_block.specs.Drives.{driven_or_fault}
use Rattle.mill_block.specs.Kept.{begins}
use Rattle.mill_block.specs.MachineLines.{Done, acts, acts_by, arrived, axis_done, coordinate_for, drilled, drills_hole, exact_to, exactly, gone_to, gone_up, hole_for, hole_of, idles, is_drillable, is_idle, is_safe, machine_acted, machine_behind, machine_done, names_by, names_height, naming_of, park, parks, peck_fits, place_of, points_of, rise, rounded_or, series_for, stands, still_at, target_for, turned, up_fits, waits, went, went_round, with_place, with_stop}
use Rattle.mill_block.specs.MachineArcs.{fed, sweep_of, words_fit}
use Rattle.mill_block.specs.TextPlaces.{exact_here, text_above}
use Rattle.mill_control.specs.declared.turn.Turn.{Turn}
use Rattle.mill_block.specs.MachineSettings.{has_lengths, per_of, settled_for}
use Rattle.mill_block.specs.Motion.{known_of, made_move}
use Rattle.mill_said.specs.Said.{◌>>=◌}
use Rattle.mill_said.specs.declared.fault.NgcFault.{NgcFault}
use Rattle.mill_said.specs.declared.fault.NgcFault.TheVariants as fault
use Rattle.mill_block.specs.declared.machine.Machine.{Machine}
use Rattle.mill_said.specs.declared.machine_said.MachineSaid.{MachineSaid}
use Rattle.mill_said.specs.declared.machine_said.Up.{Up}
use Rattle.mill_said.specs.declared.profile.Mode.{Mode}
use Rattle.mill_said.specs.declared.profile.Mode.TheVariants.{Off, On}
use Rattle.mill_block.specs.declared.progress.Known.{Known}
use Rattle.mill_block.specs.declared.progress.Known.TheVariants.{Nothing, Height, All}
use Rattle.mill_block.specs.declared.progress.Progress.{Progress}
use Rattle.mill_said.specs.declared.rules.Control.{Control}
use Rattle.mill_said.specs.declared.rules.Rules.{Rules}
use Rattle.mill_ngc.proofs.Goings.{Goes, all_known, goes_if, goes_made, goes_none, goes_then, goes_unless, goes_with}
use Rattle.mill_ngc.proofs.Ways.{GoesOn, same_height}

-- ---- what is settled beside

-- what it is behind its moves makes no other ones of them
goes_after : (k : Known) (here : Pt3) (clear : ℤ) (rules : Rules) (r : Done) (f : Progress × List Move → Progress × List Move)
    → ((q : Progress) (ms : List Move) → GoesOn k here clear rules q ms → GoesOn k here clear rules (f (q, ms)).0 (f (q, ms)).1) → Goes k here clear rules r → Goes k here clear rules (r >>= λ done. Ok (f done))
goes_after k here clear rules (Ok s) f stays goes = stays s.0 s.1 goes
goes_after k here clear rules (Err e) f stays goes = tt

goes_stopped : (k : Known) (here : Pt3) (clear : ℤ) (rules : Rules) (stops : Bool) (q : Progress) (ms : List Move) → GoesOn k here clear rules q ms
    → GoesOn k here clear rules (with_stop stops (q, ms)).0 (with_stop stops (q, ms)).1
goes_stopped k here clear rules true q ms goes = record { follow = goes.follow; end = goes.end; known = goes.known; none = goes.none; rises = goes.rises; clear_is = goes.clear_is; rules_are = goes.rules_are }
goes_stopped k here clear rules false q ms goes = goes

-- nor does where the text's own numbers lead
goes_exact : (k : Known) (here : Pt3) (clear : ℤ) (rules : Rules) (t : Pt3) (f : Machine → Machine) (q : Progress) (ms : List Move) → GoesOn k here clear rules q ms
    → GoesOn k here clear rules (exactly t (with_place f (q, ms))).0 (exactly t (with_place f (q, ms))).1
goes_exact k here clear rules t f q ms goes = record { follow = goes.follow; end = goes.end; known = goes.known; none = goes.none; rises = goes.rises; clear_is = goes.clear_is; rules_are = goes.rules_are }

-- ---- the first whole place

begins-there : (k : Known) (here there : Pt3) → k ≢ All → begins k here there ≡ there
begins-there All here there other = absurd (other refl)
begins-there Height here there other = refl
begins-there Nothing here there other = refl

stills-follow : (n : ℕ) (to : Pt3) → Follow to (replicate n (still_at to))
stills-follow zero to = tt
stills-follow (suc n) to = (refl, stills-follow n to)

stills-end : (n : ℕ) (to : Pt3) → ends_at to (replicate n (still_at to)) ≡ to
stills-end zero to = refl
stills-end (suc n) to = stills-end n to

goes_arrived : (k : Known) (p : Progress) (to : Pt3) → k ≢ All → ((p.here.z ≤ℤ to.z) ⊎ (p.clear ≤ℤ to.z)) → Goes k p.here p.clear p.rules (arrived p to)
goes_arrived k p to other high =
    let n = p.machine.waiting + 1 in
    goes_if k p.here p.clear p.rules (nat_lt MAX_MOVES (p.moves + (p.machine.waiting + 1))) (Err (fault.TooManyMoves p.line))
    (Ok (record p { here = to; known = All; positioned = true; moves = p.moves + (p.machine.waiting + 1); machine = record p.machine { waiting = 0 } }, replicate (p.machine.waiting + 1) (still_at to))) tt
    (record {
      follow = rw (begins-there k p.here to other) (stills-follow n to);
      end = rw (begins-there k p.here to other) (stills-end n to);
      known = λ e. absurd (other e);
      none = inl (all_known p.rules.from_anywhere);
      rises = inr high;
      clear_is = refl;
      rules_are = refl;
    })

goes_waits : (k : Known) (p : Progress) (to : Pt3) → k ≢ All → ((p.here.z ≤ℤ to.z) ⊎ (p.clear ≤ℤ to.z)) → Goes k p.here p.clear p.rules (waits p to)
goes_waits k p to other high =
    goes_if k p.here p.clear p.rules (nat_le MAX_MOVES (p.moves + p.machine.waiting)) (Err (fault.TooManyMoves p.line))
    (Ok (record p { here = to; positioned = true; machine = record p.machine { waiting = p.machine.waiting + 1 } }, [])) tt
    (record { follow = tt; end = begins-there k p.here to other; known = λ e. absurd (other e); none = inr refl; rises = inr high; clear_is = refl; rules_are = refl })

goes_first : (k : Known) (p : Progress) (across : Bool) (to : Pt3) → k ≢ All → ((p.here.z ≤ℤ to.z) ⊎ (p.clear ≤ℤ to.z)) → Goes k p.here p.clear p.rules (if across then arrived p to else waits p to)
goes_first k p across to other high = goes_if k p.here p.clear p.rules across (arrived p to) (waits p to) (goes_arrived k p to other high) (goes_waits k p to other high)

-- before it the tool gets no lower, or not under the safe height
higher : {A : Type 0} (k : Known) → k ≢ All → (k ≡ All) ⊎ A → A
higher k unknown (inl known) = absurd (unknown known)
higher k unknown (inr high) = high

goes_to : (k : Known) (p : Progress) (kind : Kind) (across : Bool) (to : Pt3) → known_of p ≡ k → (k ≡ All) ⊎ ((p.here.z ≤ℤ to.z) ⊎ (p.clear ≤ℤ to.z)) → Goes k p.here p.clear p.rules (gone_to k p kind across to)
goes_to All p kind across to known high = goes_made p kind to known
goes_to Height p kind across to known high = goes_first Height p across to (λ e. cc) (higher Height (λ e. cc) high)
goes_to Nothing p kind across to known high = goes_first Nothing p across to (λ e. cc) (higher Nothing (λ e. cc) high)

-- ---- up to the machine's place

over-greater : (a b : ℤ) → a ≤ℤ greater a b
over-greater a b = by (int_lt a b) refl
  where
    by : (c : Bool) → int_lt a b ≡ c → a ≤ℤ cond c b a
    by true e = omega (e, arith, ints)
    by false e = same_height a

goes_rise : (p : Progress) → Goes (known_of p) p.here p.clear p.rules (rise p)
goes_rise p =
    goes_after (known_of p) p.here p.clear p.rules (gone_to (known_of p) p Rapid false (record { x = p.here.x; y = p.here.y; z = greater p.here.z p.clear })) (λ done. exactly (text_above p (exact_here p)) (with_place (λ m. record m { place = raised m.place }) done))
    (goes_exact (known_of p) p.here p.clear p.rules (text_above p (exact_here p)) (λ m. record m { place = raised m.place }))
    (goes_to (known_of p) p Rapid false (record { x = p.here.x; y = p.here.y; z = greater p.here.z p.clear }) refl (inr (inl (over-greater p.here.z p.clear))))

goes_up : (p : Progress) (s : MachineSaid) (u : Up) → Goes (known_of p) p.here p.clear p.rules (gone_up p s u)
unfolding gone_up
goes_up p s u =
    let way : Done = if parks s then park p s else rise p in
    let measured : Done = if u.by_machine && not p.absolute then Err (fault.NoAbsolute p.line) else way in
    let told : Done = if not (has_lengths p) then Err (fault.NoUnits p.line) else measured in
    let safe : Done = if parks s && not (may_park p.machine.place.height (is_safe p)) then Err (fault.Start p.line) else told in
    goes_if (known_of p) p.here p.clear p.rules (not (up_fits p s u)) (Err (fault.NotInProfile p.line 71 u.num)) safe tt
    (goes_if (known_of p) p.here p.clear p.rules (parks s && not (may_park p.machine.place.height (is_safe p))) (Err (fault.Start p.line)) told tt
    (goes_if (known_of p) p.here p.clear p.rules (not (has_lengths p)) (Err (fault.NoUnits p.line)) measured tt
    (goes_if (known_of p) p.here p.clear p.rules (u.by_machine && not p.absolute) (Err (fault.NoAbsolute p.line)) way tt
    (goes_if (known_of p) p.here p.clear p.rules (parks s) (park p s) (rise p) (goes_none (known_of p) p.here p.clear p.rules _ refl refl refl refl) (goes_rise p)))))

-- ---- a hole

goes_drilled : (p : Progress) (v : Series) (h : Hole) → known_of p ≡ All → h.from ≡ p.here → Goes All p.here p.clear p.rules (drilled p v h)
goes_drilled p v h known from =
    goes_if All p.here p.clear p.rules (nat_lt MAX_MOVES (p.moves + length (hole_moves h))) (Err (fault.TooManyMoves p.line))
    (Ok (record p { here = hole_end h; positioned = true; moves = p.moves + length (hole_moves h); machine = record p.machine { series = Some v } }, hole_moves h)) tt
    (record {
      follow = subst (λ (at : Pt3). Follow at (hole_moves h)) from (follows h);
      end = subst (λ (at : Pt3). ends_at at (hole_moves h) ≡ hole_end h) from (ends h);
      known = λ e. known;
      none = inl known;
      rises = inl refl;
      clear_is = refl;
      rules_are = refl;
    })

from-here : (here : Pt3) (rx ry rz rt : Result ℤ NgcFault) (rq : Result ⊤ NgcFault) (f : ℤ → ℤ → ℤ → Hole) (h : Hole) → ((x y top : ℤ) → (f x y top).from ≡ here)
    → (rx >>= λ x. ry >>= λ y. rz >>= λ z. rt >>= λ top. rq >>= λ _. Ok (f x y top)) ≡ Ok h → h.from ≡ here
from-here here (Err e) ry rz rt rq f h from is = absurd cc
from-here here (Ok x) (Err e) rz rt rq f h from is = absurd cc
from-here here (Ok x) (Ok y) (Err e) rt rq f h from is = absurd cc
from-here here (Ok x) (Ok y) (Ok z) (Err e) rq f h from is = absurd cc
from-here here (Ok x) (Ok y) (Ok z) (Ok top) (Err e) f h from is = absurd cc
from-here here (Ok x) (Ok y) (Ok z) (Ok top) (Ok u) f h from is =
    let same : f x y top ≡ h = cc in
    subst (λ (g : Hole). g.from ≡ here) same (from x y top)

hole-from : (c : Control) (p : Progress) (s : MachineSaid) (v : Series) (h : Hole) → hole_for c p s v ≡ Ok h → h.from ≡ p.here
unfolding hole_for
hole-from c p s v h is =
    from-here p.here (coordinate_for c p p.here.x s.x) (coordinate_for c p p.here.y s.y) (coordinate_for c p p.here.z v.z) (coordinate_for c p p.here.z v.r) (peck_fits c p s.q)
    (λ x y top. hole_of c p v x y top) h (λ x y top. refl) is

goes_hole : (c : Control) (p : Progress) (s : MachineSaid) (cycle : Cycle) → known_of p ≡ All → Goes All p.here p.clear p.rules (drills_hole c p s cycle)
unfolding drills_hole
goes_hole c p s cycle known =
    let v : Series = series_for p s cycle in
    goes_if All p.here p.clear p.rules (not (is_drillable p s (series_for p s cycle))) (Err (fault.Cycle p.line))
    (hole_for c p s (series_for p s cycle) >>= λ h. drilled p (series_for p s cycle) h) tt
    (goes_with All p.here p.clear p.rules (hole_for c p s (series_for p s cycle)) (λ h. drilled p (series_for p s cycle) h)
    (λ h is. goes_drilled p (series_for p s cycle) h known (hole-from c p s (series_for p s cycle) h is)))

-- ---- an arc

fed_follows : (p : Pt3) (points : List Pt3) → Follow p (fed p points)
fed_follows p [] = tt
fed_follows p (q ∷ points) = (refl, fed_follows q points)

goes_round : (p : Progress) (points : List Pt3) → known_of p ≡ All → Goes All p.here p.clear p.rules (went_round p points)
goes_round p points known =
    goes_if All p.here p.clear p.rules (nat_lt MAX_MOVES (p.moves + length points)) (Err (fault.TooManyMoves p.line))
    (Ok (record p { here = ends_at p.here (fed p.here points); positioned = true; moves = p.moves + length points }, fed p.here points)) tt
    (record {
      follow = fed_follows p.here points;
      end = refl;
      known = λ e. known;
      none = inl known;
      rises = inl refl;
      clear_is = refl;
      rules_are = refl;
    })

goes_turned : (c : Control) (p : Progress) (s : MachineSaid) (turn : Turn) → known_of p ≡ All → Goes All p.here p.clear p.rules (turned c p s turn)
unfolding turned
goes_turned c p s turn known =
    let way : Done = target_for c p s >>= λ to. points_of p (sweep_of c p s turn) >>= λ points. went_round p points in
    let fits : Done = if not (words_fit c p s) then Err (fault.Arc p.line) else way in
    goes_if All p.here p.clear p.rules (int_le (pos 0) c.arc_room && p.machine.wide_path) (Err (fault.PathControl p.line)) fits tt
    (goes_if All p.here p.clear p.rules (not (words_fit c p s)) (Err (fault.Arc p.line)) way tt
    (goes_then All p.here p.clear p.rules (target_for c p s) (λ to. points_of p (sweep_of c p s turn) >>= λ points. went_round p points)
    (λ to. goes_then All p.here p.clear p.rules (points_of p (sweep_of c p s turn)) (λ points. went_round p points) (λ points. goes_round p points known))))

-- ---- a line that names coordinates

goes_went : (c : Control) (p : Progress) (s : MachineSaid) (kind : Kind) → allows (place_of p) (naming_of p s) ≡ true → Goes (known_of p) p.here p.clear p.rules (went c p s kind)
goes_went c p s kind may =
    goes_with (known_of p) p.here p.clear p.rules (target_for c p s) (λ to. gone_to (known_of p) p kind (parks s) to)
    (λ to leads. goes_to (known_of p) p kind (parks s) to refl (named_rises c p s to may leads))

goes_mode : (c : Control) (p : Progress) (s : MachineSaid) (mode : Mode) (cycle : Option Cycle) (turn : Option Turn) → p.machine.cycle ≡ cycle → p.machine.turn ≡ turn → allows (place_of p) (naming_of p s) ≡ true
    → Goes (known_of p) p.here p.clear p.rules (acts_by c p s mode cycle turn)
goes_mode c p s mode (Some cycle) turn is round may =
    let drills : (is_some p.machine.cycle || is_some p.machine.turn) ≡ true = rw is refl in
    let known : known_of p ≡ All = drills_known p s drills may in
    goes_then (known_of p) p.here p.clear p.rules (driven_or_fault p.rules.needs_spindle Feed p.drive p.line) (λ _. drills_hole c p s cycle)
    (λ _. subst (λ (k : Known). Goes k p.here p.clear p.rules (drills_hole c p s cycle)) (sym known) (goes_hole c p s cycle known))
goes_mode c p s mode None (Some turn) is round may =
    let turns : (is_some p.machine.cycle || is_some p.machine.turn) ≡ true = rw (is, round) refl in
    let known : known_of p ≡ All = drills_known p s turns may in
    goes_then (known_of p) p.here p.clear p.rules (driven_or_fault p.rules.needs_spindle Feed p.drive p.line) (λ _. turned c p s turn)
    (λ _. subst (λ (k : Known). Goes k p.here p.clear p.rules (turned c p s turn)) (sym known) (goes_turned c p s turn known))
goes_mode c p s Off None None is round may = tt
goes_mode c p s (On kind) None None is round may =
    goes_then (known_of p) p.here p.clear p.rules (driven_or_fault p.rules.needs_spindle kind p.drive p.line) (λ _. went c p s kind) (λ _. goes_went c p s kind may)

goes_names : (c : Control) (p : Progress) (s : MachineSaid) → Goes (known_of p) p.here p.clear p.rules (names_by c p s)
unfolding names_by
goes_names c p s =
    let way : Done = acts_by c p s p.mode p.machine.cycle p.machine.turn >>= λ done. Ok (exactly (exact_to p s p.machine.cycle) (with_place (machine_behind p s) done)) in
    let measured : Done = if not p.absolute then Err (fault.NoAbsolute p.line) else way in
    let told : Done = if not (has_lengths p) then Err (fault.NoUnits p.line) else measured in
    let offset : Done = if not (may_name p.machine.named p.machine.offsets (names_height p.machine.cycle s) (parks s)) then Err (fault.LateOffset p.line) else told in
    let placed : Done = if not (allows (place_of p) (naming_of p s)) then Err (fault.Start p.line) else offset in
    goes_if (known_of p) p.here p.clear p.rules p.machine.late (Err (fault.LateTool p.line)) placed tt
    (goes_unless (known_of p) p.here p.clear p.rules (allows (place_of p) (naming_of p s)) (Err (fault.Start p.line)) offset tt
    (λ may. goes_if (known_of p) p.here p.clear p.rules (not (may_name p.machine.named p.machine.offsets (names_height p.machine.cycle s) (parks s))) (Err (fault.LateOffset p.line)) told tt
    (goes_if (known_of p) p.here p.clear p.rules (not (has_lengths p)) (Err (fault.NoUnits p.line)) measured tt
    (goes_if (known_of p) p.here p.clear p.rules (not p.absolute) (Err (fault.NoAbsolute p.line)) way tt
    (goes_after (known_of p) p.here p.clear p.rules (acts_by c p s p.mode p.machine.cycle p.machine.turn) (λ done. exactly (exact_to p s p.machine.cycle) (with_place (machine_behind p s) done))
    (goes_exact (known_of p) p.here p.clear p.rules (exact_to p s p.machine.cycle) (machine_behind p s)) (goes_mode c p s p.mode p.machine.cycle p.machine.turn refl refl may))))))

-- ---- the whole

goes_idle : (p : Progress) (s : MachineSaid) → Goes (known_of p) p.here p.clear p.rules (idles p s)
goes_idle p s = goes_if (known_of p) p.here p.clear p.rules (is_idle s) (Ok (p, [])) (Err (fault.Cycle p.line)) (goes_none (known_of p) p.here p.clear p.rules p refl refl refl refl) tt

goes_stands : (p : Progress) (s : MachineSaid) (up : Option Up) → Goes (known_of p) p.here p.clear p.rules (stands p s up)
goes_stands p s None = goes_idle p s
goes_stands p s (Some u) = goes_if (known_of p) p.here p.clear p.rules u.by_machine (idles p s) (Err (fault.NotInProfile p.line 71 u.num)) (goes_idle p s) tt

goes_axis : (c : Control) (p : Progress) (s : MachineSaid) (up : Option Up) → Goes (known_of p) p.here p.clear p.rules (axis_done c p s up)
goes_axis c p s None = goes_names c p s
goes_axis c p s (Some u) = goes_up p s u

goes_done : (c : Control) (p : Progress) (s : MachineSaid) → Goes (known_of p) p.here p.clear p.rules (machine_done c p s)
goes_done c p s = goes_if (known_of p) p.here p.clear p.rules (acts p s) (axis_done c p s s.up) (stands p s s.up) (goes_axis c p s s.up) (goes_stands p s s.up)

pub goes_machine : (c : Control) (p : Progress) (s : MachineSaid) → Goes (known_of p) p.here p.clear p.rules (machine_acted c p s)
unfolding machine_acted settled_for
goes_machine c p s =
    goes_after (known_of p) p.here p.clear p.rules (machine_done c (settled_for c p s) s) (with_stop s.stops) (goes_stopped (known_of p) p.here p.clear p.rules s.stops)
    (goes_done c (settled_for c p s) s)
