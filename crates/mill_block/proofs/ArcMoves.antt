-- The moves of an arc: feeds from point to point.
use Rattle.std.proofs.Common.{◌≡◌, ℕ, zero, suc, ◌+◌, ◌<◌, ◌≤◌, Bool, true, false, Some, Ok, Err, List, [], ◌∷◌, ◌++◌, length, refl, sym, ap, ◌∙◌, arith, inl}
use Rattle.std.proofs.Math.Seq.{take-append_seam}
use Rattle.std.proofs.lemmas.Bool.{and_parts}
use Rattle.std.proofs.lemmas.Bool.Decides.{nat_tests}
use Rattle.std.proofs.lemmas.List.{map-append, append_assoc, take_more}
use Rattle.std.proofs.lemmas.List.Elements.{All-cons, All-contains, All-nil}
use Rattle.std.specs.List.{list_all}
use Rattle.std.specs.Prelude.{All, ℤ, pos, ◌&&◌, get_or, int_le, map, nat_abs, nat_le, nat_lt, take}
use Rattle.mill_base.specs.Motion.{Follow}
use Rattle.mill_base.specs.Numbers.{Within}
use Rattle.mill_base.specs.Ranges.{IsInUnitRange, MoveInUnitRange}
use Rattle.mill_base.specs.Units.{greatest_of}
use Rattle.mill_base.specs.declared.limits.TheConstants.{MAX_MOVES}
use Rattle.mill_base.specs.declared.motion.Kind.TheVariants.{Feed}
use Rattle.mill_base.specs.declared.motion.Move.{Move}
use Rattle.mill_base.specs.declared.points.Pt3.{Pt3}
use Rattle.mill_base.specs.declared.unit.Unit.{Unit as LengthUnit}
use Rattle.mill_arc.specs.Arcs.{is_sound}
use Rattle.mill_arc.specs.Chords.{chords_of}
use Rattle.mill_arc.specs.declared.chords.Chord.{Chord}
use Rattle.mill_control.specs.Drilled.{ends_at}
use Rattle.mill_control.specs.declared.turn.Turn.{Turn}
use Rattle.mill_block.specs.Kept.{Adds, begins}
use Rattle.mill_block.specs.MachineArcs.{chord_end, fed, sweep_of, words_fit}
use Rattle.mill_block.specs.MachineLines.{is_coordinate, is_in_range, points_of, target_for, turned, went_round}
use Rattle.mill_block.specs.Motion.{known_of}
use Rattle.mill_block.specs.declared.machine_arc.Sweep.{Sweep}
use Rattle.mill_block.specs.declared.progress.Known.TheVariants.{All as Whole}
use Rattle.mill_block.specs.declared.progress.Progress.{Progress}
use Rattle.mill_said.specs.declared.fault.NgcFault.{NgcFault}
use Rattle.mill_said.specs.declared.fault.NgcFault.TheVariants as fault
use Rattle.mill_said.specs.declared.machine_said.MachineSaid.{MachineSaid}
use Rattle.mill_said.specs.declared.rules.Control.{Control}

-- ---- feeds

abbrev feed : Pt3 → Pt3 → Move
feed from to = record { kind = Feed; from = from; to = to }

-- one point more
pub fed_more : (p q : Pt3) (points : List Pt3) → fed p (points ++ q ∷ []) ≡ fed p points ++ feed (ends_at p (fed p points)) q ∷ []
fed_more p q [] = refl
fed_more p q (r ∷ points) = ap (λ (ms : List Move). feed p r ∷ ms) (fed_more r q points)

pub fed_last : (p q : Pt3) (points : List Pt3) → ends_at p (fed p (points ++ q ∷ [])) ≡ q
fed_last p q [] = refl
fed_last p q (r ∷ points) = fed_last r q points

pub fed_length : (p : Pt3) (points : List Pt3) → length (fed p points) ≡ length points
fed_length p [] = refl
fed_length p (q ∷ points) = ap suc (fed_length q points)

fed-follow : (p : Pt3) (points : List Pt3) → Follow p (fed p points)
fed-follow p [] = tt
fed-follow p (q ∷ points) = (refl, fed-follow q points)

-- ---- in range

coordinate-in : (unit : LengthUnit) (z : ℤ) → is_coordinate unit z ≡ true → Within (greatest_of unit) z
coordinate-in unit z e = record { within = by (nat_abs z) (greatest_of unit) e }
  where
    by : (a b : ℕ) → nat_le a b ≡ true → a ≤ b
    by a b e = grind (arith, nat_tests)

pub point_in : (unit : LengthUnit) (q : Pt3) → is_in_range unit q ≡ true → IsInUnitRange unit q
point_in unit q e =
    let first = and_parts (is_coordinate unit q.x) _ e in
    let others = and_parts (is_coordinate unit q.y) (is_coordinate unit q.z) first.1 in
    record { x_ok = coordinate-in unit q.x first.0; y_ok = coordinate-in unit q.y others.0; z_ok = coordinate-in unit q.z others.1 }

fed-in : (unit : LengthUnit) (p : Pt3) (points : List Pt3) → IsInUnitRange unit p → list_all (is_in_range unit) points ≡ true → All (MoveInUnitRange unit) (fed p points)
fed-in unit p [] here e = All-nil (MoveInUnitRange unit)
fed-in unit p (q ∷ points) here e =
    let both = and_parts (is_in_range unit q) (list_all (is_in_range unit) points) e in
    let there = point_in unit q both.0 in
    All-cons (MoveInUnitRange unit) (feed p q) (fed q points) (record { from_ok = here; to_ok = there }) (fed-in unit q points there both.1)

fed-ends-in : (unit : LengthUnit) (p : Pt3) (points : List Pt3) → IsInUnitRange unit p → list_all (is_in_range unit) points ≡ true → IsInUnitRange unit (ends_at p (fed p points))
fed-ends-in unit p [] here e = here
fed-ends-in unit p (q ∷ points) here e =
    let both = and_parts (is_in_range unit q) (list_all (is_in_range unit) points) e in
    fed-ends-in unit q points (point_in unit q both.0) both.1

-- one of the points
pub point_at : (unit : LengthUnit) (f : Chord → Pt3) (chords : List Chord) (i : ℕ) (d : Chord) → i < length chords → list_all (is_in_range unit) (map f chords) ≡ true → IsInUnitRange unit (f (get_or chords i d))
point_at unit f [] i d less e = absurd (omega arith)
point_at unit f (c ∷ chords) zero d less e = point_in unit (f c) (and_parts (is_in_range unit (f c)) (list_all (is_in_range unit) (map f chords)) e).0
point_at unit f (c ∷ chords) (suc i) d less e = point_at unit f chords i d (omega arith) (and_parts (is_in_range unit (f c)) (list_all (is_in_range unit) (map f chords)) e).1

-- ---- chord by chord

pub chord_more : (f : Chord → Pt3) (p at to : Pt3) (chords : List Chord) (i : ℕ) (d : Chord) (old here new : List Move) → i < length chords → to ≡ f (get_or chords i d)
    → here ≡ old ++ fed p (map f (take i chords)) → at ≡ ends_at p (fed p (map f (take i chords))) → new ≡ here ++ feed at to ∷ []
    → (new ≡ old ++ fed p (map f (take (i + 1) chords))) × (to ≡ ends_at p (fed p (map f (take (i + 1) chords))))
chord_more f p at to chords i d old here new less to_is here_is at_is pushed =
    let before = map f (take i chords) in
    let more : map f (take (i + 1) chords) ≡ before ++ to ∷ [] = ap (λ (cs : List Chord). map f cs) (take_more chords i d less) ∙ map-append f (take i chords) (get_or chords i d ∷ []) ∙ ap (λ (q : Pt3). before ++ q ∷ []) (sym to_is) in (
      pushed ∙ ap (λ (ms : List Move). ms ++ feed at to ∷ []) here_is ∙ append_assoc old (fed p before) (feed at to ∷ []) ∙ ap (λ (q : Pt3). old ++ (fed p before ++ feed q to ∷ [])) at_is
          ∙ ap (λ (ms : List Move). old ++ ms) (sym (fed_more p to before) ∙ ap (λ (ps : List Pt3). fed p ps) (sym more)),
      sym (fed_last p to before) ∙ ap (λ (ps : List Pt3). ends_at p (fed p ps)) (sym more),
    )

pub taken_back : (old more here : List Move) → here ≡ old ++ more → take (length old) here ≡ old
taken_back old more here is = ap (λ (ms : List Move). take (length old) ms) is ∙ take-append_seam old more

-- ---- the points of an arc

pub points_are : (p : Progress) (w : Sweep) (chords : List Chord) → is_sound w.arc ≡ true → chords_of w.arc ≡ Some chords → list_all (is_in_range p.unit) (map (chord_end p.machine.plane w) chords) ≡ true
    → points_of p w ≡ Ok (map (chord_end p.machine.plane w) chords)
unfolding points_of
points_are p w chords sound are range = rw (sound, are, range) refl

pub points_off : (p : Progress) (w : Sweep) (chords : List Chord) → is_sound w.arc ≡ true → chords_of w.arc ≡ Some chords → list_all (is_in_range p.unit) (map (chord_end p.machine.plane w) chords) ≡ false
    → points_of p w ≡ Err (fault.OutOfRange p.line)
unfolding points_of
points_off p w chords sound are range = rw (sound, are, range) refl

-- ---- what an arc's line does

pub no_first : (a b : Bool) → a ≡ false → (a && b) ≡ false
no_first a b e = rw e refl

pub no_second : (a b : Bool) → b ≡ false → (a && b) ≡ false
no_second true b e = e
no_second false b e = refl

pub turned_off : (c : Control) (p : Progress) (s : MachineSaid) (turn : Turn) (to : Pt3) (w : Sweep) (f : NgcFault) → (int_le (pos 0) c.arc_room && p.machine.wide_path) ≡ false → words_fit c p s ≡ true → target_for c p s ≡ Ok to
    → w ≡ sweep_of c p s turn → points_of p w ≡ Err f → turned c p s turn ≡ Err f
unfolding turned
turned_off c p s turn to w f path words to_is sweep points = rw (path, words, to_is, sym sweep, points) refl

pub turned_is : (c : Control) (p : Progress) (s : MachineSaid) (turn : Turn) (to : Pt3) (w : Sweep) (points : List Pt3) → (int_le (pos 0) c.arc_room && p.machine.wide_path) ≡ false → words_fit c p s ≡ true → target_for c p s ≡ Ok to
    → w ≡ sweep_of c p s turn → points_of p w ≡ Ok points → turned c p s turn ≡ went_round p points
unfolding turned
turned_is c p s turn to w points path words to_is sweep are = rw (path, words, to_is, sym sweep, are) refl

-- ---- what is added

begins-all : (p : Progress) (there : Pt3) → known_of p ≡ Whole → begins (known_of p) p.here there ≡ p.here
begins-all p there known = rw known refl

pub round_adds : (old new : Progress) (points : List Pt3) (moves more : List Move) → known_of old ≡ Whole → IsInUnitRange old.unit old.here → list_all (is_in_range old.unit) points ≡ true
    → old.moves + length points ≤ MAX_MOVES
    → new ≡ record old { here = ends_at old.here (fed old.here points); positioned = true; moves = old.moves + length points }
    → more ≡ moves ++ fed old.here points → Adds (went_round old points) old moves new more
round_adds old new points moves more known here range few new_is more_is =
    let fit : nat_lt MAX_MOVES (old.moves + length points) ≡ false = grind (arith, nat_tests) in
    let begin : begins (known_of old) old.here (ends_at old.here (fed old.here points)) ≡ old.here = begins-all old (ends_at old.here (fed old.here points)) known in
    rw new_is (record {
      made = fed old.here points;
      told = rw fit refl;
      added = more_is;
      keeps = record {
        follow = rw begin (fed-follow old.here points);
        end = rw begin refl;
        known = λ _. known;
        none = inl known;
        rises = inl known;
        same_clear = refl;
        same_rules = refl;
        in_range = λ m inside. All-contains (MoveInUnitRange old.unit) (fed old.here points) m (fed-in old.unit old.here points here range) inside;
        here = fed-ends-in old.unit old.here points here range;
        count = ap (λ (n : ℕ). old.moves + n) (sym (fed_length old.here points));
        few = λ _. few;
        same_unit = refl;
        same_line = refl;
      };
    })

pub round_is : (p : Progress) (at : Pt3) (points : List Pt3) (n : ℕ) → at ≡ ends_at p.here (fed p.here points) → length points ≡ n
    → record p { here = at; positioned = true; moves = p.moves + n } ≡ record p { here = ends_at p.here (fed p.here points); positioned = true; moves = p.moves + length points }
round_is p at points n ends count = rw (ends, count) refl
