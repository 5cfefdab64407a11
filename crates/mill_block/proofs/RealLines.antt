-- A machine's ways on a line are foreseen by the list, and its tip may be where they end.
use Rattle.std.proofs.Common.{◌≡◌, ℕ, ◌+◌, ◌^◌, Bool, true, false, Option, Some, None, Result, Ok, Err, List, [], ◌∷◌, length, replicate, refl, sym, ap, subst, ◌∙◌, inl, inr}
use Rattle.std.proofs.lemmas.List.Elements.{All-cons, All-contains_itself, All-nil}
use Rattle.std.specs.Prelude.{⊤, ◌==◌, ℤ, pos, All, int_le, is_some, not, ◌&&◌, ◌||◌, nat_le, nat_lt, IfSome, if◌then◌else◌}
use Rattle.mill_base.specs.Rounded.{IsRounded}
use Rattle.mill_base.specs.declared.limits.TheConstants.{MAX_MOVES}
use Rattle.mill_base.specs.declared.motion.Kind.{Kind}
use Rattle.mill_base.specs.declared.motion.Kind.TheVariants.{Rapid, Feed}
use Rattle.mill_base.specs.declared.motion.Move.{Move}
use Rattle.mill_base.specs.declared.points.Pt3.{Pt3}
use Rattle.mill_words.specs.Lines.{line_of}
use Rattle.mill_words.specs.Words.{FitsNum, FitsWord, Line, is_blank as is_blank_line}
use Rattle.mill_words.specs.declared.word.Num.{Num}
use Rattle.mill_words.specs.declared.word.WordFault.{WordFault}
use Rattle.mill_words.proofs.LineFits.{line_fits}
use Rattle.mill_control.specs.Holes.{hole_end, hole_moves}
use Rattle.mill_control.specs.Lengths.{rounded}
use Rattle.mill_control.specs.Offsets.{may_name, same_length}
use Rattle.mill_control.specs.Places.{allows, behind, may_park, other_length, other_zero, parked, raised}
use Rattle.mill_control.specs.declared.hole.Hole.{Hole}
use Rattle.mill_control.specs.declared.place.Height.{Height}
use Rattle.mill_control.specs.declared.place.Height.TheVariants.{Unknown, High, Known}
use Rattle.mill_control.specs.declared.place.Naming.{Naming}
use Rattle.mill_control.specs.declared.place.Place.{Place}
use Rattle.mill_control.specs.declared.series.Cycle.{Cycle}
use Rattle.mill_control.specs.declared.series.Series.{Series}
use Rattle.mill_block.specs.Drives.{driven_or_fault}
use Rattle.mill_block.specs.Lines.{acted_by, after_line, after_words, has_frame, in_frame, is_percent, line_begun, line_in, settled_before, with_line, with_percent, words_or_fault}
use Rattle.mill_block.specs.MachineLines.{Done, above_of, acts, acts_by, arrived, axis_done, coordinate_for, drilled, drills_hole, exact_to, exactly, gone_to, gone_up, hole_for, idles, is_drillable, is_idle, is_safe, machine_acted, machine_behind, machine_done, names_by, names_height, naming_of, park, parks, place_in, place_of, points_of, rise, series_for, stands, still_at, target_for, turned, up_fits, waits, went, went_round, with_place, with_stop}
use Rattle.mill_said.specs.MachineSaid.{told_line}
use Rattle.mill_block.specs.MachineSettings.{has_lengths, is_of_tool, offsets_behind, per_of, settled_for, with_length, with_tool}
use Rattle.mill_block.specs.Motion.{known_of}
use Rattle.mill_block.specs.RealWays.{AxisGoes, GoesAcross, GoesAway, GoesUp, IsForeseen, IsHeight, IsHigh, LeavesTip, LineGoes, LineIsForeseen, MayBeAt, MayGo, SaidGoes, TellsWay, ToldGoes, WordsGo, real_acts}
use Rattle.mill_said.specs.Said.{◌>>=◌}
use Rattle.mill_block.specs.MachineArcs.{fed, sweep_of, words_fit}
use Rattle.mill_block.specs.TextPaths.{FitsText, Way, text_acts, text_done, text_drilled, text_gone, text_in, text_line, text_named, text_told, text_turned, text_words}
use Rattle.mill_block.specs.TextPlaces.{exact_here, text_above, text_target}
use Rattle.mill_block.specs.declared.machine_arc.Sweep.{Sweep}
use Rattle.mill_control.specs.Drilled.{ends_at}
use Rattle.mill_control.specs.Unrounded.{text_units}
use Rattle.mill_control.specs.declared.turn.Turn.{Turn}
use Rattle.mill_said.specs.declared.fault.NgcFault.{NgcFault}
use Rattle.mill_said.specs.declared.fault.NgcFault.TheVariants as fault
use Rattle.mill_block.specs.declared.machine.Machine.{Machine}
use Rattle.mill_said.specs.declared.machine_said.MachineSaid.{MachineSaid}
use Rattle.mill_said.specs.declared.machine_said.Up.{Up}
use Rattle.mill_said.specs.declared.profile.Mode.{Mode}
use Rattle.mill_said.specs.declared.profile.Mode.TheVariants.{Off, On}
use Rattle.mill_block.specs.declared.progress.Frame.{Frame}
use Rattle.mill_block.specs.declared.progress.Frame.TheVariants.{Unknown as Unframed, Framed, Plain}
use Rattle.mill_block.specs.declared.progress.Known.{Known as Knowing}
use Rattle.mill_block.specs.declared.progress.Known.TheVariants.{Nothing, Height as Upright, All as Whole}
use Rattle.mill_block.specs.declared.progress.Progress.{Progress}
use Rattle.mill_said.specs.declared.rules.Control.{Control}
use Rattle.mill_said.specs.declared.rules.Words.{Words}
use Rattle.mill_said.specs.declared.rules.Words.TheVariants.{Machine as MachineWords}
use Rattle.mill_said.specs.Bounds.{FitsTold}
use Rattle.mill_block.proofs.RealLemmas.{Allows, AreHigh, Sure, all_known, allowed, behind_far, choice_in, far_foreseen, high_near, high_over, leads_to, length_in, may_be, naming, parked_high, raised_in, same_place, sure_behind, sure_of, sure_there, tool_in, way_foreseen, zero_in}
use Rattle.mill_block.proofs.RiseLemmas.{at_most, end_z}
use Rattle.mill_block.proofs.TextLemmas.{number_near}
use Rattle.mill_block.proofs.TextWays.{near_exact, units_taken}
use Rattle.mill_said.proofs.TextFits.{told_fits}

-- ---- steps

-- where the line has no fault it is so of what it does
OnDone : {A : Type 0} → Result A NgcFault → (A → Type 0) → Type 0
OnDone (Ok done) P = P done
OnDone (Err f) P = ⊤

on-if : {A : Type 0} (b : Bool) (x y : Result A NgcFault) (P : A → Type 0) → (b ≡ true → OnDone x P) → (b ≡ false → OnDone y P) → OnDone (if b then x else y) P
on-if true x y P h g = h refl
on-if false x y P h g = g refl

on-then : {A B : Type 0} (r : Result A NgcFault) (f : A → Result B NgcFault) (P : B → Type 0) → ((a : A) → r ≡ Ok a → OnDone (f a) P) → OnDone (r >>= f) P
unfolding OnDone
on-then (Ok a) f P h = h a refl
on-then (Err e) f P h = tt

on-ok : {A B : Type 0} (r : Result A NgcFault) (f : A → B) (P : B → Type 0) → OnDone r (λ a. P (f a)) → OnDone (r >>= λ a. Ok (f a)) P
unfolding OnDone
on-ok (Ok a) f P h = h
on-ok (Err e) f P h = tt

-- the machine's ways are foreseen by these ways of the list, and its tip may be where they end
Lands : Control → ℤ → Way → Way → Progress × List Move → Type 0
Lands c clear text way done = MayBeAt c done.0 text.0 way.0 × All (IsForeseen c.rounds clear text.1) way.1

on-more : {A : Type 0} (r : Result A NgcFault) (P Q : A → Type 0) → ((a : A) → P a → Q a) → OnDone r P → OnDone r Q
unfolding OnDone
on-more (Ok a) P Q more h = more a h
on-more (Err e) P Q more h = tt

-- told where it leads by the text's own numbers, the reader knows no more of the machine's place
lands-exactly : (c : Control) (clear : ℤ) (text way : Way) (t : Pt3) (done : Progress × List Move) → Lands c clear text way done → Lands c clear text way (exactly t done)
unfolding Lands
lands-exactly c clear text way t done lands = (record { across = lands.0.across; height = lands.0.height; high = lands.0.high }, lands.1)

one : (rounds : Bool) (clear : ℤ) (ways : List Move) (w : Move) → IsForeseen rounds clear ways w → All (IsForeseen rounds clear ways) (w ∷ [])
one rounds clear ways w is = All-cons (IsForeseen rounds clear ways) w [] is (All-nil (IsForeseen rounds clear ways))

none : (rounds : Bool) (clear : ℤ) (ways : List Move) → All (IsForeseen rounds clear ways) []
none rounds clear ways = All-nil (IsForeseen rounds clear ways)

-- ---- numbers

-- a named height that counts as at or over the safe one is high
named-high : (c : Control) (p : Progress) (z : Option Num) (to : ℤ) → IfSome z (FitsNum 18) → coordinate_for c p p.here.z z ≡ Ok to → AreHigh c.rounds p.clear (per_of p) z (λ n. int_le p.clear (rounded (per_of p) n))
named-high c p None to fits is n names over = absurd cc
named-high c p (Some m) to fits is n names over =
    let same : m ≡ n = some-is m n names in
    subst (λ (t : Num). IsHigh c.rounds p.clear (text_units (per_of p) t)) same
    (high_near c.rounds p.clear (text_units (per_of p) m) (rounded (per_of p) m) (number_near c.rounds (per_of p) m fits (units_taken c p m to is)) (at_most p.clear (rounded (per_of p) m) (subst (λ (t : Num). int_le p.clear (rounded (per_of p) t) ≡ true) (sym same) over)))
  where
    some-is : (a b : Num) → Some a ≡ Some b → a ≡ b
    some-is a b e = cc

-- ---- what is known behind a line

known-now : (asked : Bool) → (if asked then Whole else Whole) ≡ Whole
known-now true = refl
known-now false = refl

far-of : (k : Knowing) (p : Progress) → known_of p ≡ k → (k ≡ Whole → ⊥) → (place_of p).across ≡ false
far-of k p is far = ap (λ (t : Knowing). (place_in t p.machine.place).across) is ∙ by k far
  where
    by : (k : Knowing) → (k ≡ Whole → ⊥) → (place_in k p.machine.place).across ≡ false
    by Whole far = absurd (far refl)
    by Upright far = refl
    by Nothing far = refl

whole-behind : (k : Knowing) (place : Place) → k ≡ Whole → place_in k place ≡ place
whole-behind Whole place is = refl
whole-behind Upright place is = absurd cc
whole-behind Nothing place is = absurd cc

upright-whole : (let k : Knowing = Upright in k) ≡ Whole → ⊥
upright-whole e = absurd cc

nothing-whole : (let k : Knowing = Nothing in k) ≡ Whole → ⊥
nothing-whole e = absurd cc

-- ---- a straight way

-- the line asks for all of the place
abbrev needs-all : Progress → Bool
needs-all p = is_some p.machine.cycle || is_some p.machine.turn

-- what the line names, where its mode is this
abbrev named-as : Progress → MachineSaid → Kind → Naming
named-as p s kind = naming kind (needs-all p) s.x s.y s.z (λ n. int_le p.clear (rounded (per_of p) n))

names-so : (p : Progress) (s : MachineSaid) (kind : Kind) → p.mode ≡ On kind → naming_of p s ≡ named-as p s kind
names-so p s kind mode = rw mode refl

few-named : (x y : Bool) → (x || y) ≡ false → (x && y) ≡ false
few-named true y e = absurd cc
few-named false y e = refl

far-any : (place : Place) (ways : List Move) (rounds : Bool) (clear : ℤ) (per : ℕ) (kind : Kind) (drills : Bool) (at q : Pt3) (x y z : Option Num) (over : Num → Bool) → AreHigh rounds clear per z over → place.across ≡ false
    → Sure place rounds clear at q → Allows place (naming kind drills x y z over) → IsForeseen rounds clear ways (record { kind = kind; from = q; to = leads_to per q x y z })
far-any place ways rounds clear per kind drills at q x y z over high far sure may = by place.across far sure may
  where
    by : (a : Bool) → a ≡ false → Sure (record { across = a; height = place.height }) rounds clear at q → Allows (record { across = a; height = place.height }) (naming kind drills x y z over)
        → IsForeseen rounds clear ways (record { kind = kind; from = q; to = leads_to per q x y z })
    by true e sure may = absurd cc
    by false e sure may = far_foreseen place.height ways rounds clear per kind drills at q x y z over high sure may

abbrev straight-way : Progress → Pt3 → MachineSaid → Kind → Move
straight-way p q s kind = record { kind = kind; from = q; to = text_target p q s }

-- where all of the place isn't known yet
goes-first : (c : Control) (p : Progress) (at q to : Pt3) (s : MachineSaid) (kind : Kind) (far : known_of p ≡ Whole → ⊥) (across : Bool) → parks s ≡ across → (place_of p).across ≡ false
    → Sure (behind (place_of p) (naming_of p s)) c.rounds p.clear (text_target p at s) (text_target p q s)
    → ((ways : List Move) → IsForeseen c.rounds p.clear ways (straight-way p q s kind))
    → OnDone (if across then arrived p to else waits p to)
    (λ done. Lands c p.clear (text_target p at s, if across then replicate (p.machine.waiting + 1) (record { kind = Rapid; from = text_target p at s; to = text_target p at s }) else [])
    (text_target p q s, straight-way p q s kind ∷ []) (with_place (machine_behind p s) done))
unfolding OnDone Lands
goes-first c p at q to s kind far true is apart sure foreseen =
    let ways : List Move = replicate (p.machine.waiting + 1) (record { kind = Rapid; from = text_target p at s; to = text_target p at s }) in
    let new : Progress × List Move = (record p { here = to; known = Whole; positioned = true; moves = p.moves + (p.machine.waiting + 1); machine = record p.machine { waiting = 0 } }, replicate (p.machine.waiting + 1) (still_at to)) in
    on-if (nat_lt MAX_MOVES (p.moves + (p.machine.waiting + 1))) (Err (fault.TooManyMoves p.line)) (Ok new) (λ done. Lands c p.clear (text_target p at s, ways) (text_target p q s, straight-way p q s kind ∷ []) (with_place (machine_behind p s) done))
    (λ _. tt)
    (λ _. (
      may_be c (with_place (machine_behind p s) new).0 (behind (place_of p) (naming_of p s)) p.clear (text_target p at s) (text_target p q s)
          (whole-behind (if p.rules.from_anywhere then Whole else Whole) (behind (place_of p) (naming_of p s)) (known-now p.rules.from_anywhere)) refl sure,
      one c.rounds p.clear ways (straight-way p q s kind) (foreseen ways),
    ))
goes-first c p at q to s kind far false is apart sure foreseen =
    let new : Progress × List Move = (record p { here = to; positioned = true; machine = record p.machine { waiting = p.machine.waiting + 1 } }, []) in
    on-if (nat_le MAX_MOVES (p.moves + p.machine.waiting)) (Err (fault.TooManyMoves p.line)) (Ok new) (λ done. Lands c p.clear (text_target p at s, []) (text_target p q s, straight-way p q s kind ∷ []) (with_place (machine_behind p s) done))
    (λ _. tt)
    (λ _. (
      may_be c (with_place (machine_behind p s) new).0 (behind (place_of p) (naming_of p s)) p.clear (text_target p at s) (text_target p q s)
          (behind_far (known_of p) (place_of p) (naming_of p s) far apart (few-named (is_some s.x) (is_some s.y) is)) refl sure,
      one c.rounds p.clear [] (straight-way p q s kind) (foreseen []),
    ))

goes-straight : (c : Control) (p : Progress) (at q to : Pt3) (s : MachineSaid) (kind : Kind) → AreHigh c.rounds p.clear (per_of p) s.z (λ n. int_le p.clear (rounded (per_of p) n)) → p.mode ≡ On kind
    → Sure (place_of p) c.rounds p.clear at q → Allows (place_of p) (naming_of p s) → (k : Knowing) → known_of p ≡ k
    → OnDone (gone_to k p kind (parks s) to) (λ done. Lands c p.clear (text_gone k p kind (parks s) at (text_target p at s)) (text_target p q s, straight-way p q s kind ∷ []) (with_place (machine_behind p s) done))
unfolding OnDone Lands
goes-straight c p at q to s kind high mode sure may k known = by k known
  where
    names : naming_of p s ≡ naming kind (needs-all p) s.x s.y s.z (λ n. int_le p.clear (rounded (per_of p) n))
    names = names-so p s kind mode

    may-so : Allows (place_of p) (naming kind (needs-all p) s.x s.y s.z (λ n. int_le p.clear (rounded (per_of p) n)))
    may-so = subst (λ (n : Naming). Allows (place_of p) n) names may

    there : Sure (behind (place_of p) (naming_of p s)) c.rounds p.clear (text_target p at s) (text_target p q s)
    there = subst (λ (n : Naming). Sure (behind (place_of p) n) c.rounds p.clear (text_target p at s) (text_target p q s)) (sym names)
        (sure_behind (place_of p) c.rounds p.clear (per_of p) kind (needs-all p) at q s.x s.y s.z (λ n. int_le p.clear (rounded (per_of p) n)) high sure may-so)

    apart : (k : Knowing) → known_of p ≡ k → (k ≡ Whole → ⊥) → (ways : List Move) → IsForeseen c.rounds p.clear ways (straight-way p q s kind)
    apart k known far ways = far-any (place_of p) ways c.rounds p.clear (per_of p) kind (needs-all p) at q s.x s.y s.z (λ n. int_le p.clear (rounded (per_of p) n)) high (far-of k p known far) sure may-so

    by : (k : Knowing) → known_of p ≡ k
        → OnDone (gone_to k p kind (parks s) to) (λ done. Lands c p.clear (text_gone k p kind (parks s) at (text_target p at s)) (text_target p q s, straight-way p q s kind ∷ []) (with_place (machine_behind p s) done))
    by Whole known =
        let ways : List Move = record { kind = kind; from = at; to = text_target p at s } ∷ [] in
        let new : Progress × List Move = (record p { here = to; positioned = true; moves = p.moves + 1 }, record { kind = kind; from = p.here; to = to } ∷ []) in
        on-if (nat_le MAX_MOVES p.moves) (Err (fault.TooManyMoves p.line)) (Ok new) (λ done. Lands c p.clear (text_target p at s, ways) (text_target p q s, straight-way p q s kind ∷ []) (with_place (machine_behind p s) done))
        (λ _. tt)
        (λ _. (
          may_be c (with_place (machine_behind p s) new).0 (behind (place_of p) (naming_of p s)) p.clear (text_target p at s) (text_target p q s) (whole-behind (known_of p) (behind (place_of p) (naming_of p s)) known) refl there,
          one c.rounds p.clear ways (straight-way p q s kind)
              (way_foreseen (place_of p) c.rounds p.clear (per_of p) kind (needs-all p) at q s.x s.y s.z (λ n. int_le p.clear (rounded (per_of p) n)) high sure may-so),
        ))
    by Upright known = goes-first c p at q to s kind (λ e. upright-whole (sym known ∙ e)) (parks s) refl (far-of Upright p known upright-whole) there (apart Upright known upright-whole)
    by Nothing known = goes-first c p at q to s kind (λ e. nothing-whole (sym known ∙ e)) (parks s) refl (far-of Nothing p known nothing-whole) there (apart Nothing known nothing-whole)

-- ---- a hole

own : (rounds : Bool) (clear : ℤ) (ways : List Move) → All (IsForeseen rounds clear ways) ways
own rounds clear ways = λ k d lt. inl (All-contains_itself ways k d lt)

whole-of : (k : Knowing) (place : Place) → (place_in k place).across ≡ true → k ≡ Whole
whole-of Whole place e = refl
whole-of Upright place e = absurd cc
whole-of Nothing place e = absurd cc

goes-hole : (c : Control) (p : Progress) (s : MachineSaid) (cycle : Cycle) (way : Way) → (place_of p).across ≡ true → (place_of p).height ≡ Known
    → OnDone (drills_hole c p s cycle) (λ done. Lands c p.clear way way (with_place (machine_behind p s) done))
unfolding drills_hole OnDone Lands
goes-hole c p s cycle way across height =
    let v : Series = series_for p s cycle in
    on-if (not (is_drillable p s v)) (Err (fault.Cycle p.line)) (hole_for c p s v >>= λ h. drilled p v h) (λ done. Lands c p.clear way way (with_place (machine_behind p s) done)) (λ _. tt)
    (λ _. on-then (hole_for c p s v) (λ h. drilled p v h) (λ done. Lands c p.clear way way (with_place (machine_behind p s) done)) (λ h _. by h v))
  where
    by : (h : Hole) (v : Series) → OnDone (drilled p v h) (λ done. Lands c p.clear way way (with_place (machine_behind p s) done))
    by h v =
        let new : Progress × List Move = (record p { here = hole_end h; positioned = true; moves = p.moves + length (hole_moves h); machine = record p.machine { series = Some v } }, hole_moves h) in
        on-if (nat_lt MAX_MOVES (p.moves + length (hole_moves h))) (Err (fault.TooManyMoves p.line)) (Ok new) (λ done. Lands c p.clear way way (with_place (machine_behind p s) done)) (λ _. tt)
        (λ _. (
          may_be c (with_place (machine_behind p s) new).0 (behind (place_of p) (naming_of p s)) p.clear way.0 way.0
              (whole-behind (known_of p) (behind (place_of p) (naming_of p s)) (whole-of (known_of p) p.machine.place across)) refl (sure_there (place_of p) (naming_of p s) c.rounds p.clear way.0 across height),
          own c.rounds p.clear way.1,
        ))

height-is : (c : Control) (p : Progress) (s : MachineSaid) (to : Pt3) → target_for c p s ≡ Ok to → coordinate_for c p p.here.z s.z ≡ Ok to.z
unfolding target_for
height-is c p s to is = end_z (coordinate_for c p p.here.x s.x) (coordinate_for c p p.here.y s.y) (coordinate_for c p p.here.z s.z) to is

goes-turned : (c : Control) (p : Progress) (s : MachineSaid) (turn : Turn) (way : Way) → (place_of p).across ≡ true → (place_of p).height ≡ Known
    → OnDone (turned c p s turn) (λ done. Lands c p.clear way way (with_place (machine_behind p s) done))
unfolding turned OnDone Lands
goes-turned c p s turn way across height =
    let w : Sweep = sweep_of c p s turn in
    let goes : Done = target_for c p s >>= λ to. points_of p w >>= λ points. went_round p points in
    on-if (int_le (pos 0) c.arc_room && p.machine.wide_path) (Err (fault.PathControl p.line)) (if not (words_fit c p s) then Err (fault.Arc p.line) else goes) told (λ _. tt)
    (λ _. on-if (not (words_fit c p s)) (Err (fault.Arc p.line)) goes told (λ _. tt)
    (λ _. on-then (target_for c p s) (λ to. points_of p w >>= λ points. went_round p points) told
    (λ to _. on-then (points_of p w) (λ points. went_round p points) told (λ points _. by points))))
  where
    told : Progress × List Move → Type 0
    told done = Lands c p.clear way way (with_place (machine_behind p s) done)

    by : (points : List Pt3) → OnDone (went_round p points) (λ done. Lands c p.clear way way (with_place (machine_behind p s) done))
    by points =
        let new : Progress × List Move = (record p { here = ends_at p.here (fed p.here points); positioned = true; moves = p.moves + length points }, fed p.here points) in
        on-if (nat_lt MAX_MOVES (p.moves + length points)) (Err (fault.TooManyMoves p.line)) (Ok new) (λ done. Lands c p.clear way way (with_place (machine_behind p s) done)) (λ _. tt)
        (λ _. (
          may_be c (with_place (machine_behind p s) new).0 (behind (place_of p) (naming_of p s)) p.clear way.0 way.0
              (whole-behind (known_of p) (behind (place_of p) (naming_of p s)) (whole-of (known_of p) p.machine.place across)) refl (sure_there (place_of p) (naming_of p s) c.rounds p.clear way.0 across height),
          own c.rounds p.clear way.1,
        ))

needs-cycle : (a b : Bool) → a ≡ true → (a || b) ≡ true
needs-cycle true b e = refl
needs-cycle false b e = absurd cc

needs-turn : (a b : Bool) → b ≡ true → (a || b) ≡ true
needs-turn true b e = refl
needs-turn false b e = e

-- where all of the place is known the tip is where the list has it
place-known : (place : Place) (rounds : Bool) (clear : ℤ) (at q : Pt3) → place.across ≡ true → place.height ≡ Known → Sure place rounds clear at q → q ≡ at
place-known place rounds clear at q known high sure =
    let across = sure.across known in
    let height : q.z ≡ at.z = subst (λ (h : Height). IsHeight h rounds clear at.z q.z) high sure.height in
    same_place at q across.0 across.1 height

goes-acts : (c : Control) (p : Progress) (at q : Pt3) (s : MachineSaid) (mode : Mode) (cycle : Option Cycle) (turn : Option Turn) → p.mode ≡ mode → p.machine.cycle ≡ cycle → p.machine.turn ≡ turn → FitsTold s
    → Sure (place_of p) c.rounds p.clear at q → Allows (place_of p) (naming_of p s)
    → OnDone (acts_by c p s mode cycle turn) (λ done. Lands c p.clear (text_acts c p at s mode cycle turn) (real_acts c p q s mode cycle turn) (with_place (machine_behind p s) done))
unfolding OnDone
goes-acts c p at q s mode (Some cycle) turn mode_is cycle_is turn_is fits sure may =
    let all = all_known (needs-all p) (place_of p).across (place_of p).height (needs-cycle (is_some p.machine.cycle) (is_some p.machine.turn) (ap (λ (o : Option Cycle). is_some o) cycle_is)) may.hole in
    let same = place-known (place_of p) c.rounds p.clear at q all.0 all.1 sure in
    let way : Way = text_drilled p at s (hole_for c p s (series_for p s cycle)) in
    subst (λ (t : Pt3). OnDone (driven_or_fault p.rules.needs_spindle Feed p.drive p.line >>= λ _. drills_hole c p s cycle)
    (λ done. Lands c p.clear way (text_drilled p t s (hole_for c p s (series_for p s cycle))) (with_place (machine_behind p s) done))) (sym same)
    (on-then (driven_or_fault p.rules.needs_spindle Feed p.drive p.line) (λ _. drills_hole c p s cycle) (λ done. Lands c p.clear way way (with_place (machine_behind p s) done)) (λ _ _. goes-hole c p s cycle way all.0 all.1))
goes-acts c p at q s mode None (Some turn) mode_is cycle_is turn_is fits sure may =
    let all = all_known (needs-all p) (place_of p).across (place_of p).height (needs-turn (is_some p.machine.cycle) (is_some p.machine.turn) (ap (λ (o : Option Turn). is_some o) turn_is)) may.hole in
    let same = place-known (place_of p) c.rounds p.clear at q all.0 all.1 sure in
    let way : Way = text_turned c p at s turn in
    subst (λ (t : Pt3). OnDone (driven_or_fault p.rules.needs_spindle Feed p.drive p.line >>= λ _. turned c p s turn)
    (λ done. Lands c p.clear way (text_turned c p t s turn) (with_place (machine_behind p s) done))) (sym same)
    (on-then (driven_or_fault p.rules.needs_spindle Feed p.drive p.line) (λ _. turned c p s turn) (λ done. Lands c p.clear way way (with_place (machine_behind p s) done)) (λ _ _. goes-turned c p s turn way all.0 all.1))
goes-acts c p at q s Off None None mode_is cycle_is turn_is fits sure may = tt
goes-acts c p at q s (On kind) None None mode_is cycle_is turn_is fits sure may =
    on-then (driven_or_fault p.rules.needs_spindle kind p.drive p.line) (λ _. went c p s kind) told
    (λ _ _. on-then (target_for c p s) (λ to. gone_to (known_of p) p kind (parks s) to) told
    (λ to is. goes-straight c p at q to s kind (named-high c p s.z to.z fits.z_fits (height-is c p s to is)) mode_is sure may (known_of p) refl))
  where
    told : Progress × List Move → Type 0
    told done = Lands c p.clear (text_gone (known_of p) p kind (parks s) at (text_target p at s)) (text_target p q s, straight-way p q s kind ∷ []) (with_place (machine_behind p s) done)

true-unless : (b : Bool) → not b ≡ false → b ≡ true
true-unless true e = refl
true-unless false e = absurd cc

goes-names : (c : Control) (p : Progress) (at q : Pt3) (s : MachineSaid) → FitsTold s → Sure (place_of p) c.rounds p.clear at q
    → OnDone (names_by c p s) (Lands c p.clear (text_acts c p at s p.mode p.machine.cycle p.machine.turn) (real_acts c p q s p.mode p.machine.cycle p.machine.turn))
unfolding names_by OnDone
goes-names c p at q s fits sure =
    let goes : Done = acts_by c p s p.mode p.machine.cycle p.machine.turn >>= λ done. Ok (exactly (exact_to p s p.machine.cycle) (with_place (machine_behind p s) done)) in
    let measured : Done = if not p.absolute then Err (fault.NoAbsolute p.line) else goes in
    let lengths : Done = if not (has_lengths p) then Err (fault.NoUnits p.line) else measured in
    let offset : Done = if not (may_name p.machine.named p.machine.offsets (names_height p.machine.cycle s) (parks s)) then Err (fault.LateOffset p.line) else lengths in
    let placed : Done = if not (allows (place_of p) (naming_of p s)) then Err (fault.Start p.line) else offset in
    on-if p.machine.late (Err (fault.LateTool p.line)) placed told (λ _. tt)
    (λ _. on-if (not (allows (place_of p) (naming_of p s))) (Err (fault.Start p.line)) offset told (λ _. tt)
    (λ may. on-if (not (may_name p.machine.named p.machine.offsets (names_height p.machine.cycle s) (parks s))) (Err (fault.LateOffset p.line)) lengths told (λ _. tt)
    (λ _. on-if (not (has_lengths p)) (Err (fault.NoUnits p.line)) measured told (λ _. tt)
    (λ _. on-if (not p.absolute) (Err (fault.NoAbsolute p.line)) goes told (λ _. tt)
    (λ _. on-ok (acts_by c p s p.mode p.machine.cycle p.machine.turn) (λ done. exactly (exact_to p s p.machine.cycle) (with_place (machine_behind p s) done)) told
    (on-more (acts_by c p s p.mode p.machine.cycle p.machine.turn) (λ done. told (with_place (machine_behind p s) done)) (λ done. told (exactly (exact_to p s p.machine.cycle) (with_place (machine_behind p s) done)))
    (λ done. lands-exactly c p.clear text real (exact_to p s p.machine.cycle) (with_place (machine_behind p s) done))
    (goes-acts c p at q s p.mode p.machine.cycle p.machine.turn refl refl refl fits sure (allowed (place_of p) (naming_of p s) (true-unless (allows (place_of p) (naming_of p s)) may)))))))))
  where
    text : Way
    text = text_acts c p at s p.mode p.machine.cycle p.machine.turn

    real : Way
    real = real_acts c p q s p.mode p.machine.cycle p.machine.turn

    told : Progress × List Move → Type 0
    told done = Lands c p.clear (text_acts c p at s p.mode p.machine.cycle p.machine.turn) (real_acts c p q s p.mode p.machine.cycle p.machine.turn) done

-- ---- up to the machine's own place, and across to it

height-in : (k : Knowing) (place : Place) → (place_in k place).height ≡ place.height
height-in Whole place = refl
height-in Upright place = refl
height-in Nothing place = refl

parked-in : (k : Knowing) (place : Place) (up : Bool) → place_in k (parked place up) ≡ parked place up
parked-in Whole place up = refl
parked-in Upright place up = refl
parked-in Nothing place up = refl

may-so : (may : Bool) → (true && not may) ≡ false → may ≡ true
may-so true e = refl
may-so false e = absurd cc

not-unknown : (h : Height) (over : Bool) → may_park h over ≡ true → h ≡ Unknown → ⊥
not-unknown Unknown over e is = absurd cc
not-unknown High over e is = absurd cc
not-unknown Known over e is = absurd cc

safe-known : (h : Height) (over : Bool) → may_park h over ≡ true → h ≡ Known → over ≡ true
safe-known Unknown over e is = absurd cc
safe-known High over e is = absurd cc
safe-known Known over e is = e

across-high : (up rounds : Bool) (clear : ℤ) (q to : Pt3) → GoesAcross up clear q to → IsHigh rounds clear q.z → IsHigh rounds clear to.z
across-high true rounds clear q to goes high = high_over rounds clear to.z goes.high
across-high false rounds clear q to goes high = subst (λ (z : ℤ). IsHigh rounds clear z) (sym goes) high

across-height : (up : Bool) (h : Height) (rounds : Bool) (clear listed : ℤ) (q to : Pt3) → GoesAcross up clear q to → IsHigh rounds clear to.z → IsHeight h rounds clear listed q.z
    → IsHeight (if up then High else h) rounds clear listed to.z
across-height true h rounds clear listed q to goes high is = high
across-height false h rounds clear listed q to goes high is = subst (λ (z : ℤ). IsHeight h rounds clear listed z) (sym goes) is

across-known : (up : Bool) (h : Height) → (if up then High else h) ≡ Known → h ≡ Known
across-known true h e = absurd cc
across-known false h e = e

ways-are : (c : Control) (clear : ℤ) (ways made : List Move) (w : Move) → made ≡ w ∷ [] → IsForeseen c.rounds clear ways w → All (IsForeseen c.rounds clear ways) made
ways-are c clear ways made w is foreseen = subst (λ (ms : List Move). All (IsForeseen c.rounds clear ways) ms) (sym is) (one c.rounds clear ways w foreseen)

goes-parked : (c : Control) (p : Progress) (at q : Pt3) (s : MachineSaid) (way : Way) → IsRounded c.rounds (10 ^ 18) at p.here → Sure (place_of p) c.rounds p.clear at q → may_park p.machine.place.height (is_safe p) ≡ true
    → way.1 ≡ record { kind = Rapid; from = q; to = way.0 } ∷ [] → GoesAcross (is_some s.z) p.clear q way.0 → OnDone (park p s) (Lands c p.clear (at, []) way)
unfolding OnDone Lands
goes-parked c p at q s way near sure may is goes =
    let h : Height = p.machine.place.height in
    let up : Bool = is_some s.z in
    let height : IsHeight h c.rounds p.clear at.z q.z = subst (λ (t : Height). IsHeight t c.rounds p.clear at.z q.z) (height-in (known_of p) p.machine.place) sure.height in
    let safe : h ≡ Known → IsHigh c.rounds p.clear at.z = λ known. high_near c.rounds p.clear at.z p.here.z near.z_near (at_most p.clear p.here.z (safe-known h (is_safe p) may known)) in
    let from_high : IsHigh c.rounds p.clear q.z = parked_high h c.rounds p.clear at.z q.z (not-unknown h (is_safe p) may) safe height in
    let to_high : IsHigh c.rounds p.clear way.0.z = across-high up c.rounds p.clear q way.0 goes from_high in
    let there : Sure (parked p.machine.place up) c.rounds p.clear at way.0 = record {
      across = λ e. absurd cc;
      height = across-height up h c.rounds p.clear at.z q way.0 goes to_high height;
      high = λ _ known. safe (across-known up h known);
    } in (
      may_be c (record p { positioned = true; machine = record p.machine { place = parked p.machine.place up } }) (parked p.machine.place up) p.clear at way.0 (parked-in (known_of p) p.machine.place up) refl there,
      ways-are c p.clear [] way.1 (record { kind = Rapid; from = q; to = way.0 }) is (inr (inl (record { from_high = from_high; to_high = to_high }))),
    )

goes-risen : (c : Control) (p : Progress) (at q : Pt3) (way : Way) → Sure (place_of p) c.rounds p.clear at q → way.1 ≡ record { kind = Rapid; from = q; to = way.0 } ∷ [] → GoesUp p.clear q way.0
    → OnDone (rise p) (Lands c p.clear (text_gone (known_of p) p Rapid false at (text_above p at)) way)
unfolding OnDone Lands
goes-risen c p at q way sure is goes =
    let text : Way = text_gone (known_of p) p Rapid false at (text_above p at) in
    on-ok (gone_to (known_of p) p Rapid false (above_of p)) (λ done. exactly (text_above p (exact_here p)) (with_place (λ (m : Machine). record m { place = raised m.place }) done)) (Lands c p.clear text way)
    (on-more (gone_to (known_of p) p Rapid false (above_of p)) (told (known_of p)) (λ done. Lands c p.clear text way (exactly (text_above p (exact_here p)) (with_place (λ (m : Machine). record m { place = raised m.place }) done)))
    (λ done. lands-exactly c p.clear text way (text_above p (exact_here p)) (with_place (λ (m : Machine). record m { place = raised m.place }) done)) (by (known_of p)))
  where
    high : IsHigh c.rounds p.clear way.0.z
    high = high_over c.rounds p.clear way.0.z goes.rises.high

    there : Sure (place_in (known_of p) (raised p.machine.place)) c.rounds p.clear (text_above p at) way.0
    there = raised_in (known_of p) p.machine.place c.rounds p.clear at (text_above p at) q way.0 sure refl refl goes.same_x goes.same_y high

    ways-up : (ways : List Move) → All (IsForeseen c.rounds p.clear ways) way.1
    ways-up ways = ways-are c p.clear ways way.1 (record { kind = Rapid; from = q; to = way.0 }) is (inr (inr (inr (record { rapid = refl; same_x = goes.same_x; same_y = goes.same_y; to_high = high }))))

    told : Knowing → Progress × List Move → Type 0
    told k done = Lands c p.clear (text_gone k p Rapid false at (text_above p at)) way (with_place (λ (m : Machine). record m { place = raised m.place }) done)

    waiting : Progress × List Move
    waiting = (record p { here = above_of p; positioned = true; machine = record p.machine { waiting = p.machine.waiting + 1 } }, [])

    moved : Progress × List Move
    moved = (record p { here = above_of p; positioned = true; moves = p.moves + 1 }, record { kind = Rapid; from = p.here; to = above_of p } ∷ [])

    may-wait : MayBeAt c (with_place (λ (m : Machine). record m { place = raised m.place }) waiting).0 (text_above p at) way.0
    may-wait = may_be c (with_place (λ (m : Machine). record m { place = raised m.place }) waiting).0 (place_in (known_of p) (raised p.machine.place)) p.clear (text_above p at) way.0 refl refl there

    may-move : MayBeAt c (with_place (λ (m : Machine). record m { place = raised m.place }) moved).0 (text_above p at) way.0
    may-move = may_be c (with_place (λ (m : Machine). record m { place = raised m.place }) moved).0 (place_in (known_of p) (raised p.machine.place)) p.clear (text_above p at) way.0 refl refl there

    by : (k : Knowing) → OnDone (gone_to k p Rapid false (above_of p)) (told k)
    by Whole = on-if (nat_le MAX_MOVES p.moves) (Err (fault.TooManyMoves p.line)) (Ok moved) (told Whole) (λ _. tt) (λ _. (may-move, ways-up (record { kind = Rapid; from = at; to = text_above p at } ∷ [])))
    by Upright = on-if (nat_le MAX_MOVES (p.moves + p.machine.waiting)) (Err (fault.TooManyMoves p.line)) (Ok waiting) (told Upright) (λ _. tt) (λ _. (may-wait, ways-up []))
    by Nothing = on-if (nat_le MAX_MOVES (p.moves + p.machine.waiting)) (Err (fault.TooManyMoves p.line)) (Ok waiting) (told Nothing) (λ _. tt) (λ _. (may-wait, ways-up []))

goes-up : (c : Control) (p : Progress) (at q : Pt3) (s : MachineSaid) (u : Up) (way : Way) → IsRounded c.rounds (10 ^ 18) at p.here → Sure (place_of p) c.rounds p.clear at q → AxisGoes c p s (Some u) q way
    → OnDone (gone_up p s u) (Lands c p.clear (text_named c p at s (Some u)) way)
unfolding gone_up OnDone
goes-up c p at q s u way near sure goes =
    let away : Done = if parks s then park p s else rise p in
    let measured : Done = if u.by_machine && not p.absolute then Err (fault.NoAbsolute p.line) else away in
    let told : Done = if not (has_lengths p) then Err (fault.NoUnits p.line) else measured in
    let safe : Done = if parks s && not (may_park p.machine.place.height (is_safe p)) then Err (fault.Start p.line) else told in
    on-if (not (up_fits p s u)) (Err (fault.NotInProfile p.line 71 u.num)) safe lands (λ _. tt)
    (λ _. on-if (parks s && not (may_park p.machine.place.height (is_safe p))) (Err (fault.Start p.line)) told lands (λ _. tt)
    (λ may. on-if (not (has_lengths p)) (Err (fault.NoUnits p.line)) measured lands (λ _. tt)
    (λ _. on-if (u.by_machine && not p.absolute) (Err (fault.NoAbsolute p.line)) away lands (λ _. tt) (λ _. by (parks s) may goes.1))))
  where
    lands : Progress × List Move → Type 0
    lands = Lands c p.clear (text_named c p at s (Some u)) way

    by : (b : Bool) → (b && not (may_park p.machine.place.height (is_safe p))) ≡ false → GoesAway b (is_some s.z) p.clear q way.0
        → OnDone (if b then park p s else rise p) (Lands c p.clear (if b then (at, []) else text_gone (known_of p) p Rapid false at (text_above p at)) way)
    by true may away = goes-parked c p at q s way near sure (may-so (may_park p.machine.place.height (is_safe p)) may) goes.0 away
    by false may away = goes-risen c p at q way sure goes.0 away

-- ---- the line behind its settings

goes-axis : (c : Control) (p : Progress) (at q : Pt3) (s : MachineSaid) (up : Option Up) (way : Way) → FitsTold s → IsRounded c.rounds (10 ^ 18) at p.here → Sure (place_of p) c.rounds p.clear at q → AxisGoes c p s up q way
    → OnDone (axis_done c p s up) (Lands c p.clear (text_named c p at s up) way)
goes-axis c p at q s None way fits near sure goes =
    subst (λ (w : Way). OnDone (names_by c p s) (Lands c p.clear (text_acts c p at s p.mode p.machine.cycle p.machine.turn) w)) (sym goes) (goes-names c p at q s fits sure)
goes-axis c p at q s (Some u) way fits near sure goes = goes-up c p at q s u way near sure goes

goes-still : (c : Control) (p : Progress) (at q : Pt3) (s : MachineSaid) (up : Option Up) → Sure (place_of p) c.rounds p.clear at q → OnDone (stands p s up) (Lands c p.clear (at, []) (q, []))
unfolding OnDone Lands
goes-still c p at q s up sure = by up
  where
    stays : OnDone (idles p s) (Lands c p.clear (at, []) (q, []))
    stays = on-if (is_idle s) (Ok (p, [])) (Err (fault.Cycle p.line)) (Lands c p.clear (at, []) (q, [])) (λ _. (may_be c p (place_of p) p.clear at q refl refl sure, none c.rounds p.clear [])) (λ _. tt)

    by : (up : Option Up) → OnDone (stands p s up) (Lands c p.clear (at, []) (q, []))
    by None = stays
    by (Some u) = on-if u.by_machine (idles p s) (Err (fault.NotInProfile p.line 71 u.num)) (Lands c p.clear (at, []) (q, [])) (λ _. stays) (λ _. tt)

goes-line : (c : Control) (p : Progress) (at q : Pt3) (s : MachineSaid) (way : Way) → FitsTold s → IsRounded c.rounds (10 ^ 18) at p.here → Sure (place_of p) c.rounds p.clear at q → SaidGoes (acts p s) c p s q way
    → OnDone (machine_done c p s) (Lands c p.clear (text_done c p at s) way)
goes-line c p at q s way fits near sure goes = by (acts p s) goes
  where
    by : (b : Bool) → SaidGoes b c p s q way → OnDone (if b then axis_done c p s s.up else stands p s s.up) (Lands c p.clear (if b then text_named c p at s s.up else (at, [])) way)
    by true goes = goes-axis c p at q s s.up way fits near sure goes
    by false goes = subst (λ (w : Way). OnDone (stands p s s.up) (Lands c p.clear (at, []) w)) (sym goes) (goes-still c p at q s s.up sure)

-- ---- its settings

settled-sure : (c : Control) (p : Progress) (s : MachineSaid) (at r q : Pt3) → LeavesTip (c.change_raises && s.changes) (is_of_tool s) p.machine.place.height c.rounds p.clear r q → Sure (place_of p) c.rounds p.clear at r
    → Sure (place_of (settled_for c p s)) c.rounds p.clear at q
unfolding settled_for
settled-sure c p s at r q leaves sure =
    let k : Knowing = known_of p in
    let place : Place = p.machine.place in
    let old = p.machine.offsets in
    let new = offsets_behind c.one_length s p.machine.offsets in
    let tool : Place = with_tool c.change_raises s place in
    let measured : Place = with_length old.length new.length tool in
    let first : Sure (place_in k tool) c.rounds p.clear at q = tool_in k (c.change_raises && s.changes) (is_of_tool s) place c.rounds p.clear at r q leaves sure in
    let next : Sure (place_in k measured) c.rounds p.clear at q = choice_in k (same_length old.length new.length) tool (other_length tool) c.rounds p.clear at q first (length_in k tool c.rounds p.clear at q first) in
    choice_in k (old.zero == new.zero) measured (other_zero measured) c.rounds p.clear at q next (zero_in k measured c.rounds p.clear at q next)

lands-stopped : (c : Control) (clear : ℤ) (text way : Way) (stops : Bool) (done : Progress × List Move) → Lands c clear text way done → Lands c clear text way (with_stop stops done)
unfolding Lands
lands-stopped c clear text way true done lands = (record { across = lands.0.across; height = lands.0.height; high = lands.0.high }, lands.1)
lands-stopped c clear text way false done lands = lands

goes-acted : (c : Control) (p : Progress) (at r : Pt3) (s : MachineSaid) (way : Way) → FitsTold s → IsRounded c.rounds (10 ^ 18) at p.here → Sure (place_of p) c.rounds p.clear at r → TellsWay c p s r way
    → OnDone (machine_acted c p s) (Lands c p.clear (text_done c (settled_for c p s) at s) way)
unfolding machine_acted settled_for
goes-acted c p at r s way fits near sure tells =
    let q : Progress = settled_for c p s in
    on-ok (machine_done c q s) (with_stop s.stops) (Lands c p.clear (text_done c q at s) way)
    (on-more (machine_done c q s) (Lands c p.clear (text_done c q at s) way) (λ done. Lands c p.clear (text_done c q at s) way (with_stop s.stops done))
    (λ done lands. lands-stopped c p.clear (text_done c q at s) way s.stops done lands)
    (goes-line c q at tells.left s way fits near (settled-sure c p s at r tells.left tells.leaves sure) tells.goes))

-- ---- a line of a text

goes-told : (c : Control) (p : Progress) (at r : Pt3) (l : Line) (told : Result MachineSaid NgcFault) (way : Way) → All FitsWord l.words → IsRounded c.rounds (10 ^ 18) at p.here → Sure (place_of p) c.rounds p.clear at r
    → told_line c (settled_before p) l ≡ told → ToldGoes c p r way told → OnDone (told >>= machine_acted c p) (Lands c p.clear (text_told c p at told) way)
unfolding OnDone
goes-told c p at r l (Ok s) way words near sure is goes = goes-acted c p at r s way (told_fits c (settled_before p) l s words is).0 near sure goes
goes-told c p at r l (Err f) way words near sure is goes = tt

goes-words : (c : Control) (p : Progress) (at r : Pt3) (bytes : List ℕ) (read : Result Line WordFault) (way : Way) → p.rules.words ≡ MachineWords c → IsRounded c.rounds (10 ^ 18) at p.here → Sure (place_of p) c.rounds p.clear at r
    → line_of bytes ≡ read → WordsGo c p r way read → OnDone (words_or_fault p.line read >>= after_words p) (Lands c p.clear (text_words c p at read) way)
unfolding OnDone after_words
goes-words c p at r bytes (Err f) way words near sure is goes = tt
goes-words c p at r bytes (Ok l) way words near sure is goes =
    let q : Progress = with_line p (is_blank_line l) in
    subst (λ (w : Words). OnDone (acted_by w q l) (Lands c p.clear (text_words c p at (Ok l)) way)) (sym words)
    (goes-told c q at r l (told_line c (settled_before q) l) way (line_fits bytes l is) near sure refl goes)

goes-frame : (c : Control) (p : Progress) (at r : Pt3) (frame : Frame) → Sure (place_of p) c.rounds p.clear at r → Lands c p.clear (at, []) (r, []) (in_frame frame p, [])
unfolding Lands
goes-frame c p at r Unframed sure = (record { across = sure.across; height = sure.height; high = sure.high }, none c.rounds p.clear [])
goes-frame c p at r Framed sure = (record { across = sure.across; height = sure.height; high = sure.high }, none c.rounds p.clear [])
goes-frame c p at r Plain sure = (record { across = sure.across; height = sure.height; high = sure.high }, none c.rounds p.clear [])

goes-in : (c : Control) (p : Progress) (at r : Pt3) (line : List ℕ) (way : Way) → p.rules.words ≡ MachineWords c → IsRounded c.rounds (10 ^ 18) at p.here → Sure (place_of p) c.rounds p.clear at r
    → LineGoes (nat_lt 256 (length line)) (has_frame p.frame (is_percent line)) c p r line way → OnDone (line_in p line) (Lands c p.clear (text_in c p at line) way)
unfolding OnDone
goes-in c p at r line way words near sure goes = by (nat_lt 256 (length line)) (has_frame p.frame (is_percent line)) goes
  where
    by : (long frame : Bool) → LineGoes long frame c p r line way
        → OnDone (if long then Err (fault.LongLine p.line) else (if frame then Ok (with_percent p, []) else words_or_fault p.line (line_of line) >>= after_words p))
        (Lands c p.clear (if long then (at, []) else (if frame then (at, []) else text_words c p at (line_of line))) way)
    by true frame goes = tt
    by false true goes = subst (λ (w : Way). Lands c p.clear (at, []) w (with_percent p, [])) (sym goes) (goes-frame c p at r p.frame sure)
    by false false goes = goes-words c p at r line (line_of line) way words near sure refl goes

goes-text : (c : Control) (p : Progress) (at r : Pt3) (line : List ℕ) (way : Way) → p.rules.words ≡ MachineWords c → IsRounded c.rounds (10 ^ 18) at p.here → Sure (place_of p) c.rounds p.clear at r
    → MayGo c p r line way → OnDone (after_line p line) (Lands c p.clear (text_line c p at line) way)
unfolding after_line text_line
goes-text c p at r line way words near sure goes = goes-in c (line_begun p) at r line way words near sure goes

pub line_is_foreseen : LineIsForeseen
unfolding OnDone Lands
line_is_foreseen c p at r line done way words fits here may goes is =
    let near : IsRounded c.rounds (10 ^ 18) at p.here = subst (λ (a : Pt3). IsRounded c.rounds (10 ^ 18) a p.here) (sym here) (near_exact c.rounds p fits.finer_fits) in
    subst (λ (d : Done). OnDone d (Lands c p.clear (text_line c p at line) way)) is (goes-text c p at r line way words near (sure_of c p at r may) goes)
