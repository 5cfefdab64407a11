-- What a line for a machine keeps, where its moves are told.
use Rattle.std.proofs.Common.{◌≡◌, ℕ, zero, suc, ◌+◌, ◌-◌, ◌≤◌, Bool, true, false, List, [], ◌∷◌, ◌++◌, append_assoc, Ok, Err, refl, sym, ap, subst, ◌∙◌, arith, inl, inr}
use Rattle.std.proofs.lemmas.Bool.Decides.{nat_tests}
use Rattle.std.proofs.lemmas.Int.{ints}
use Rattle.std.proofs.lemmas.List.{append-nil, length-replicate, replicate-append-replicate}
use Rattle.std.proofs.lemmas.List.Elements.{All-cons, All-contains, All-nil}
use Rattle.std.specs.Prelude.{All as AllOf, OnOk, Result, ℤ, ◌+ℤ◌, ◌-ℤ◌, ◌*ℤ◌, ◌⊎◌, ◌≢◌, ◌≤ℤ◌, replicate, nat_lt, not, if◌then◌else◌}
use Rattle.mill_base.specs.Motion.{Follow}
use Rattle.mill_base.specs.Ranges.{IsInUnitRange, MoveInUnitRange}
use Rattle.mill_base.specs.declared.limits.TheConstants.{MAX_MOVES}
use Rattle.mill_base.specs.declared.motion.Kind.TheVariants.{Rapid}
use Rattle.mill_base.specs.declared.motion.Move.{Move}
use Rattle.mill_base.specs.declared.points.Pt3.{Pt3}
use Rattle.mill_base.specs.declared.unit.Unit.{Unit as LengthUnit}
use Rattle.mill_control.specs.Drilled.{ends_at}
use Rattle.mill_block.specs.Kept.{Adds, Keeps, begins, FitsProgress}
use Rattle.mill_block.specs.Lines.{acted_by, after_words, with_line}
use Rattle.mill_control.specs.Offsets.{may_name}
use Rattle.mill_control.specs.Places.{allows, raised}
use Rattle.mill_control.specs.declared.place.Place.{Place}
use Rattle.mill_words.specs.Words.{Line, is_blank as is_blank_line}
use Rattle.mill_block.specs.MachineLines.{Done, above_of, acts_by, arrived, exact_to, exactly, gone_to, machine_behind, names_by, names_height, naming_of, parks, place_of, rise, still_at, with_place, with_stop}
use Rattle.mill_block.specs.MachineSettings.{has_lengths, settled_for}
use Rattle.mill_block.specs.Motion.{known_of}
use Rattle.mill_block.specs.TextPlaces.{exact_here, exactly_at, text_above}
use Rattle.mill_block.specs.inner.Finers.{IsExactly}
use Rattle.mill_control.specs.Unrounded.{parts}
use Rattle.mill_block.specs.declared.machine.Finer.{Finer}
use Rattle.mill_block.proofs.FinerLemmas.{goes_there}
use Rattle.mill_said.specs.Said.{◌>>=◌}
use Rattle.mill_block.specs.declared.machine.Machine.{Machine}
use Rattle.mill_said.specs.declared.machine_said.MachineSaid.{MachineSaid}
use Rattle.mill_block.specs.declared.progress.Known.{Known}
use Rattle.mill_block.specs.declared.progress.Known.TheVariants.{Nothing, Height, All}
use Rattle.mill_block.specs.declared.progress.Progress.{Progress}
use Rattle.mill_said.specs.declared.fault.NgcFault.{NgcFault}
use Rattle.mill_said.specs.declared.fault.NgcFault.TheVariants as fault
use Rattle.mill_said.specs.declared.rules.Control.{Control}
use Rattle.mill_said.specs.declared.rules.Words.{Words}
use Rattle.mill_said.specs.declared.rules.Words.TheVariants.{Machine as MachineWords}
use Rattle.mill_block.specs.inner.Bounds.{Stays}

-- ---- what is settled beside the moves

pub stays_fit : (old new : Progress) → FitsProgress old → Stays old new → FitsProgress new
stays_fit old new fits stays = record {
  clear_fits = rw (stays.same_unit, stays.same_clear) fits.clear_fits;
  series_fits = rw stays.same_series fits.series_fits;
  finer_fits = rw stays.same_finer fits.finer_fits;
}

-- what is kept stays so whatever else of the machine is settled
keeps-machine : (old mid : Progress) (made : List Move) (m : Machine) → Keeps old made mid → Keeps old made (record mid { machine = m })
keeps-machine old mid made m k = record {
  follow = k.follow;
  end = k.end;
  known = k.known;
  none = k.none;
  rises = k.rises;
  same_clear = k.same_clear;
  same_rules = k.same_rules;
  in_range = k.in_range;
  here = k.here;
  count = k.count;
  few = k.few;
  same_unit = k.same_unit;
  same_line = k.same_line;
}

-- by the text's own numbers the tool is where the line leads
beside : (a f t : ℤ) → (a +ℤ f) ≡ t → (t -ℤ a) ≡ f
beside a f t e = omega (arith, ints)

same-finer : (f : Finer) (x y z : ℤ) → x ≡ f.x → y ≡ f.y → z ≡ f.z → record { x = x; y = y; z = z } ≡ f
same-finer f x y z i j k = rw (i, j, k) refl

exactly-there : (t : Pt3) (finer : Finer) (p : Progress) → IsExactly finer p.here t → exactly_at t p ≡ record p { machine = record p.machine { finer = finer } }
exactly-there t finer p is =
    ap (λ (f : Finer). record p { machine = record p.machine { finer = f } })
    (same-finer finer (t.x -ℤ (parts *ℤ p.here.x)) (t.y -ℤ (parts *ℤ p.here.y)) (t.z -ℤ (parts *ℤ p.here.z))
    (beside (parts *ℤ p.here.x) finer.x t.x is.x_is) (beside (parts *ℤ p.here.y) finer.y t.y is.y_is) (beside (parts *ℤ p.here.z) finer.z t.z is.z_is))

pub placed : (told : Done) (f : Machine → Machine) (t : Pt3) (finer : Finer) (old mid : Progress) (moves more : List Move) → Adds told old moves mid more → IsExactly finer mid.here t
    → Adds (told >>= λ done. Ok (exactly t (with_place f done))) old moves (record mid { machine = record (f mid.machine) { finer = finer } }) more
placed told f t finer old mid moves more adds is = record {
  made = adds.made;
  told = rw adds.told (ap (λ (q : Progress). Ok (q, adds.made)) (exactly-there t finer (record mid { machine = f mid.machine }) is));
  added = adds.added;
  keeps = keeps-machine old mid adds.made (record (f mid.machine) { finer = finer }) adds.keeps;
}

-- a line that changes nothing
begins-same : (known : Known) (at : Pt3) → begins known at at ≡ at
begins-same All at = refl
begins-same Height at = refl
begins-same Nothing at = refl

keeps-same : (p : Progress) → IsInUnitRange p.unit p.here → Keeps p [] p
keeps-same p ok = record {
  follow = tt;
  end = begins-same (known_of p) p.here;
  known = λ known. known;
  none = inr refl;
  rises = inr (inl (omega (arith, ints)));
  same_clear = refl;
  same_rules = refl;
  in_range = λ m inside. All-contains (MoveInUnitRange p.unit) [] m (All-nil (MoveInUnitRange p.unit)) inside;
  here = ok;
  count = omega arith;
  few = λ few. few;
  same_unit = refl;
  same_line = refl;
}

pub unmoved : (told : Done) (p : Progress) (moves : List Move) → IsInUnitRange p.unit p.here → told ≡ Ok (p, []) → Adds told p moves p moves
unmoved told p moves ok is = record { made = []; told = is; added = sym (append-nil moves); keeps = keeps-same p ok }

-- nor does one that parks move the tool of the list
pub parks_on : (p : Progress) (m : Machine) → IsInUnitRange p.unit p.here → Keeps p [] (record p { positioned = true; machine = m })
parks_on p m ok = record {
  follow = tt;
  end = begins-same (known_of p) p.here;
  known = λ known. known;
  none = inr refl;
  rises = inr (inl (omega (arith, ints)));
  same_clear = refl;
  same_rules = refl;
  in_range = λ m inside. All-contains (MoveInUnitRange p.unit) [] m (All-nil (MoveInUnitRange p.unit)) inside;
  here = ok;
  count = omega arith;
  few = λ few. few;
  same_unit = refl;
  same_line = refl;
}

-- the settings of a line leave the tool where it is
pub settled_here : (c : Control) (p : Progress) (s : MachineSaid) → IsInUnitRange p.unit p.here → IsInUnitRange (settled_for c p s).unit (settled_for c p s).here
unfolding settled_for
settled_here c p s ok = ok

-- nor does it hang on the settings before
settled-keeps : (c : Control) (old mid : Progress) (s : MachineSaid) (made : List Move) → Keeps (settled_for c old s) made mid → Keeps old made mid
unfolding settled_for
settled-keeps c old mid s made k = record {
  follow = k.follow;
  end = k.end;
  known = k.known;
  none = k.none;
  rises = k.rises;
  same_clear = k.same_clear;
  same_rules = k.same_rules;
  in_range = k.in_range;
  here = k.here;
  count = k.count;
  few = k.few;
  same_unit = k.same_unit;
  same_line = k.same_line;
}

keeps-stopped : (old mid : Progress) (made : List Move) → Keeps old made mid → Keeps old made (record mid { drive = record mid.drive { turns = false } })
keeps-stopped old mid made k = record {
  follow = k.follow;
  end = k.end;
  known = k.known;
  none = k.none;
  rises = k.rises;
  same_clear = k.same_clear;
  same_rules = k.same_rules;
  in_range = k.in_range;
  here = k.here;
  count = k.count;
  few = k.few;
  same_unit = k.same_unit;
  same_line = k.same_line;
}

-- the whole line, behind its settings, where it stops the spindle or doesn't
pub stopped : (c : Control) (s : MachineSaid) (stops : Bool) (told : Done) (old mid new : Progress) (moves more : List Move) → Adds told (settled_for c old s) moves mid more
    → new ≡ (with_stop stops (mid, [])).0 → Adds (told >>= λ done. Ok (with_stop stops done)) old moves new more
stopped c s true told old mid new moves more adds new_is = rw new_is (record {
  made = adds.made;
  told = rw adds.told refl;
  added = adds.added;
  keeps = keeps-stopped old mid adds.made (settled-keeps c old mid s adds.made adds.keeps);
})
stopped c s false told old mid new moves more adds new_is = rw new_is (record {
  made = adds.made;
  told = rw adds.told refl;
  added = adds.added;
  keeps = settled-keeps c old mid s adds.made adds.keeps;
})

-- ---- up to the machine's place

pub risen : (p mid new : Progress) (place : Place) (f : ℤ) (moves more : List Move) → Adds (gone_to (known_of p) p Rapid false (above_of p)) p moves mid more → Stays p mid → place ≡ raised mid.machine.place
    → ((parts *ℤ (above_of p).z) +ℤ f) ≡ (text_above p (exact_here p)).z
    → new ≡ record mid { machine = record mid.machine { place = place; finer = record mid.machine.finer { z = f } } } → Adds (rise p) p moves new more
risen p mid new place f moves more adds stays place_is text new_is =
    let there : mid.here ≡ above_of p = goes_there (known_of p) p Rapid false (above_of p) (mid, adds.made) adds.told in
    let finer : Finer = record mid.machine.finer { z = f } in
    let exact : IsExactly finer mid.here (text_above p (exact_here p)) = rw (there, stays.same_finer) (record { x_is = refl; y_is = refl; z_is = text }) in
    rw (new_is, place_is) (placed (gone_to (known_of p) p Rapid false (above_of p)) (λ (m : Machine). record m { place = raised m.place }) (text_above p (exact_here p)) finer p mid moves more adds exact)

-- ---- a line that names coordinates

-- where no check fails
gated : (late may names lengths absolute : Bool) (f g h i j : NgcFault) (told : Done) → late ≡ false → may ≡ true → names ≡ true → lengths ≡ true → absolute ≡ true
    → (if late then Err f else (if not may then Err g else (if not names then Err h else (if not lengths then Err i else (if not absolute then Err j else told))))) ≡ told
gated true may names lengths absolute f g h i j told a b c d e = absurd cc
gated false false names lengths absolute f g h i j told a b c d e = absurd cc
gated false true false lengths absolute f g h i j told a b c d e = absurd cc
gated false true true false absolute f g h i j told a b c d e = absurd cc
gated false true true true false f g h i j told a b c d e = absurd cc
gated false true true true true f g h i j told a b c d e = refl

pub named_so : (c : Control) (p mid new : Progress) (s : MachineSaid) (finer : Finer) (moves more : List Move) → Adds (acts_by c p s p.mode p.machine.cycle p.machine.turn) p moves mid more
    → ((done : Progress × List Move) → acts_by c p s p.mode p.machine.cycle p.machine.turn ≡ Ok done → IsExactly finer done.0.here (exact_to p s p.machine.cycle))
    → p.machine.late ≡ false → allows (place_of p) (naming_of p s) ≡ true → may_name p.machine.named p.machine.offsets (names_height p.machine.cycle s) (parks s) ≡ true
    → has_lengths p ≡ true → p.absolute ≡ true
    → new ≡ record mid { machine = record (machine_behind p s mid.machine) { finer = finer } } → Adds (names_by c p s) p moves new more
unfolding names_by
named_so c p mid new s finer moves more adds exact late may names lengths absolute new_is =
    let acts = acts_by c p s p.mode p.machine.cycle p.machine.turn >>= λ done. Ok (exactly (exact_to p s p.machine.cycle) (with_place (machine_behind p s) done)) in
    subst (λ (told : Done). Adds told p moves new more)
    (sym (gated p.machine.late (allows (place_of p) (naming_of p s)) (may_name p.machine.named p.machine.offsets (names_height p.machine.cycle s) (parks s)) (has_lengths p) p.absolute
    (fault.LateTool p.line) (fault.Start p.line) (fault.LateOffset p.line) (fault.NoUnits p.line) (fault.NoAbsolute p.line) acts late may names lengths absolute))
    (subst (λ (end : Progress). Adds acts p moves end more) (sym new_is)
    (placed (acts_by c p s p.mode p.machine.cycle p.machine.turn) (machine_behind p s) (exact_to p s p.machine.cycle) finer p mid moves more adds (exact (mid, adds.made) adds.told)))

-- ---- the line before the words are taken

lined : (told : Done) (p new : Progress) (blank : Bool) (moves more : List Move) → Adds told (with_line p blank) moves new more → Adds told p moves new more
lined told p new blank moves more adds = record {
  made = adds.made;
  told = adds.told;
  added = adds.added;
  keeps = record {
    follow = adds.keeps.follow;
    end = adds.keeps.end;
    known = adds.keeps.known;
    none = adds.keeps.none;
    rises = adds.keeps.rises;
    same_clear = adds.keeps.same_clear;
    same_rules = adds.keeps.same_rules;
    in_range = adds.keeps.in_range;
    here = adds.keeps.here;
    count = adds.keeps.count;
    few = adds.keeps.few;
    same_unit = adds.keeps.same_unit;
    same_line = adds.keeps.same_line;
  };
}

pub in_words : {A : Type 0} (c : Control) (p q new : Progress) (l : Line) (blank : Bool) (r : Result A NgcFault) (moves more : List Move) → blank ≡ is_blank_line l → q ≡ with_line p blank → q.rules.words ≡ MachineWords c
    → OnOk r (Adds (acted_by (MachineWords c) q l) q moves new more) → OnOk r (Adds (after_words p l) p moves new more)
unfolding after_words
in_words c p q new l blank (Err f) moves more blank_is lined_is words adds = tt
in_words c p q new l blank (Ok x) moves more blank_is lined_is words adds =
    let q_is : q ≡ with_line p (is_blank_line l) = lined_is ∙ ap (λ (b : Bool). with_line p b) blank_is in
    let words_are : p.rules.words ≡ MachineWords c = subst (λ (t : Progress). t.rules.words ≡ MachineWords c) q_is words in
    let begun = subst (λ (t : Progress). Adds (acted_by (MachineWords c) t l) t moves new more) q_is adds in
    subst (λ (w : Words). Adds (acted_by w (with_line p (is_blank_line l)) l) p moves new more) (sym words_are)
    (lined (acted_by (MachineWords c) (with_line p (is_blank_line l)) l) p new (is_blank_line l) moves more begun)

-- ---- the first whole place

begins-behind : (known : Known) (before behind : Pt3) → known ≢ All → begins known before behind ≡ behind
begins-behind All before behind other = absurd (other refl)
begins-behind Height before behind other = refl
begins-behind Nothing before behind other = refl

known-now : (asked : Bool) → (if asked then All else All) ≡ All
known-now true = refl
known-now false = refl

stills-follow : (n : ℕ) (to : Pt3) → Follow to (replicate n (still_at to))
stills-follow zero to = tt
stills-follow (suc n) to = (refl, stills-follow n to)

stills-end : (n : ℕ) (to : Pt3) → ends_at to (replicate n (still_at to)) ≡ to
stills-end zero to = refl
stills-end (suc n) to = stills-end n to

stills-in : (unit : LengthUnit) (n : ℕ) (to : Pt3) → IsInUnitRange unit to → AllOf (MoveInUnitRange unit) (replicate n (still_at to))
stills-in unit zero to ok = All-nil (MoveInUnitRange unit)
stills-in unit (suc n) to ok = All-cons (MoveInUnitRange unit) (still_at to) (replicate n (still_at to)) (record { from_ok = ok; to_ok = ok }) (stills-in unit n to ok)

-- where x and y come, all that waited are moves there
pub arrives : (old new : Progress) (to : Pt3) (moves more : List Move) → known_of old ≢ All → IsInUnitRange old.unit to
    → ((old.here.z ≤ℤ to.z) ⊎ (old.clear ≤ℤ to.z)) → nat_lt (old.moves + old.machine.waiting) MAX_MOVES ≡ true
    → new ≡ record old { here = to; known = All; positioned = true; moves = old.moves + (old.machine.waiting + 1); machine = record old.machine { waiting = 0 } }
    → more ≡ moves ++ replicate (old.machine.waiting + 1) (still_at to) → Adds (arrived old to) old moves new more
arrives old new to moves more other ok high room new_is more_is =
    let n = old.machine.waiting + 1 in
    let some : nat_lt MAX_MOVES (old.moves + (old.machine.waiting + 1)) ≡ false = grind (arith, nat_tests) in
    let begin : begins (known_of old) old.here to ≡ to = begins-behind (known_of old) old.here to other in
    rw new_is (record {
      made = replicate n (still_at to);
      told = rw some refl;
      added = more_is;
      keeps = record {
        follow = rw begin (stills-follow n to);
        end = rw begin (stills-end n to);
        known = λ _. known-now old.rules.from_anywhere;
        none = inl (known-now old.rules.from_anywhere);
        rises = inr high;
        same_clear = refl;
        same_rules = refl;
        in_range = λ m inside. All-contains (MoveInUnitRange old.unit) (replicate n (still_at to)) m (stills-in old.unit n to ok) inside;
        here = ok;
        count = rw (length-replicate n (still_at to)) refl;
        few = λ _. grind (arith, nat_tests);
        same_unit = refl;
        same_line = refl;
      };
    })

-- else this line waits, too
pub waits_on : (old : Progress) (to : Pt3) → known_of old ≢ All → IsInUnitRange old.unit to → ((old.here.z ≤ℤ to.z) ⊎ (old.clear ≤ℤ to.z))
    → Keeps old [] (record old { here = to; positioned = true; machine = record old.machine { waiting = old.machine.waiting + 1 } })
waits_on old to other ok high =
    let begin : begins (known_of old) old.here to ≡ to = begins-behind (known_of old) old.here to other in
    record {
      follow = tt;
      end = begin;
      known = λ all. absurd (other all);
      none = inr refl;
      rises = inr high;
      same_clear = refl;
      same_rules = refl;
      in_range = λ m inside. All-contains (MoveInUnitRange old.unit) [] m (All-nil (MoveInUnitRange old.unit)) inside;
      here = ok;
      count = omega arith;
      few = λ few. few;
      same_unit = refl;
      same_line = refl;
    }

-- ---- one move of length 0 after another

pub one_more_still : (old here new : List Move) (a : Move) (n left : ℕ) → left ≤ n → 1 ≤ left → here ≡ old ++ replicate (n - left) a → new ≡ here ++ a ∷ [] → new ≡ old ++ replicate (n - (left - 1)) a
one_more_still old here new a n left few some are pushed =
    let next : n - left + 1 ≡ n - (left - 1) = omega arith in
    pushed ∙ ap (λ (ms : List Move). ms ++ a ∷ []) are ∙ append_assoc old (replicate (n - left) a) (a ∷ [])
    ∙ ap (λ (ms : List Move). old ++ ms) (replicate-append-replicate (n - left) 1 a ∙ ap (λ (k : ℕ). replicate k a) next)
