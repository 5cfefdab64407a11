-- Lines that are only a move: what their words say, and what they do.
use Rattle.std.proofs.Common.{◌≡◌, ℕ, ℤ, ◌+◌, ◌*◌, ◌<◌, ◌≤◌, List, [], ◌∷◌, ◌++◌, length, get_or, arith, Bool, true, false, Option, Some, None, IfSome, is_some, unwrap_or, Ok, refl, sym, ap, ◌∙◌, inl, inr, ◌⊎◌, append_assoc, append-nil, length-append}
use Rattle.std.specs.Prelude.{nat_lt, if◌then◌else◌}
use Rattle.std.specs.List.{list_any}
use Rattle.std.proofs.lemmas.List.Folds.{list_any-append}
use Rattle.std.proofs.lemmas.Bool.{false≢true}
use Rattle.std.proofs.lemmas.Bool.Decides.{nat_tests}
use Rattle.mill_base.specs.Numbers.{Within}
use Rattle.mill_base.specs.Ranges.{IsInUnitRange}
use Rattle.mill_base.specs.Units.{greatest_of, places_of}
use Rattle.mill_base.specs.declared.motion.Kind.{Kind}
use Rattle.mill_base.specs.declared.motion.Move.{Move}
use Rattle.mill_base.specs.declared.motion.Kind.TheVariants.{Rapid, Feed, Dogleg}
use Rattle.mill_base.specs.declared.unit.Unit.{Unit as LengthUnit}
use Rattle.mill_base.specs.declared.unit.Unit.TheVariants.{Hundredth, Thousandth}
use Rattle.std.specs.Char.{to_ascii_uppercase}
use Rattle.mill_words.specs.Lines.{EndsWord, and_word, is_word_letter, line_from}
use Rattle.mill_words.specs.Words.{Line, empty_line, is_blank}
use Rattle.mill_words.proofs.PlainLines.{line_from-start, line_from-end}
use Rattle.mill_words.specs.declared.word.Num.{Num}
use Rattle.mill_words.specs.declared.word.Word.{Word}
use Rattle.mill_said.specs.declared.before.Before.{Before}
use Rattle.mill_said.specs.declared.groups.Group.{Group}
use Rattle.mill_block.specs.declared.plain_move.PlainLine.{PlainLine}
use Rattle.mill_block.specs.declared.plain_move.PlainMove.{PlainMove}
use Rattle.mill_said.specs.declared.profile.Entry.{Entry}
use Rattle.mill_said.specs.declared.profile.Effect.TheVariants.{Rate, Motion, X, Y, Z}
use Rattle.mill_said.specs.declared.profile.Mode.TheVariants.{On}
use Rattle.mill_said.specs.declared.machine_takes.Takes.{Takes}
use Rattle.mill_block.specs.declared.progress.Progress.{Progress}
use Rattle.mill_said.specs.declared.rules.Words.{Words}
use Rattle.mill_said.specs.declared.rules.Words.TheVariants.{Strict, Machine as MachineWords}
use Rattle.mill_said.specs.declared.said.Said.{Said}
use Rattle.mill_said.specs.MachineSaid.{nothing_told, told_from}
use Rattle.mill_said.specs.MachineTable.{tenths_of}
use Rattle.mill_said.specs.MachineTakes.{takes_of}
use Rattle.mill_block.specs.Drives.{driven, driven_or_fault}
use Rattle.mill_block.specs.declared.progress.Drive.{Drive}
use Rattle.mill_block.specs.Motion.{acted, coordinate, made_move, moved, target}
use Rattle.mill_said.specs.Numbers.{axis_units, is_over_zero, signed, whole_of}
use Rattle.mill_said.specs.Profile.{entry_in, entry_of, g_entry, is_same_group, is_tool, may_repeat, row}
use Rattle.mill_block.specs.Lines.{acted_by, after_line, after_words, has_frame, is_percent, line_begun, settled_before}
use Rattle.mill_said.specs.Said.{after_entry, after_word, group_of, has_axis, noted, nothing_said, said_from}
use Rattle.mill_block.specs.inner.PlainMoves.{AreFree, Goes, HasDrive, IsAxis, IsCapital, IsEnd, IsFree, IsMotion, IsReady, LineMovesTo, MovesTo, ReadTo, Says, SetsMotion, TakenTo, TakesPlain, made_plain, mode_of, one_if, rate_of, told_as, words_in}
use Rattle.mill_block.proofs.AlikeLemmas.{told-feed, told-first, told-motion, told-none, told-x, told-y, told-z}
use Rattle.mill_block.proofs.SettledLemmas.{acted-settled}
use Rattle.mill_said.proofs.ToldLemmas.{told_from-end, told_from-next}
use Rattle.mill_said.proofs.SaidLemmas.{row-x, row-y, row-z, said_from-end, said_from-first, said_from-next, said_from-none}

-- ---- numbers

-- G0 and G1 set the motion mode
pub rapid : (n : Num) → n.scale ≡ 0 → n.neg ≡ false → n.mant ≡ 0 → SetsMotion n Rapid
unfolding whole_of tenths_of
rapid n scale neg mant = record { strict = rw (scale, neg, mant) refl; machine = rw (scale, neg, mant) refl }

pub feed : (n : Num) → n.scale ≡ 0 → n.neg ≡ false → n.mant ≡ 1 → SetsMotion n Feed
unfolding whole_of tenths_of
feed n scale neg mant = record { strict = rw (scale, neg, mant) refl; machine = rw (scale, neg, mant) refl }

-- a number with the unit's decimals is its digits
pub units-at : (unit : LengthUnit) (line : ℕ) (n : Num) → n.scale ≡ places_of unit → n.mant ≤ greatest_of unit → axis_units unit line n ≡ Ok (signed n.neg n.mant)
unfolding axis_units
units-at Hundredth line n scale small =
    let one : n.mant * 1 ≡ n.mant = omega arith in
    let few : nat_lt (greatest_of Hundredth) n.mant ≡ false = grind (arith, nat_tests) in
    rw (scale, one, few) refl
units-at Thousandth line n scale small =
    let one : n.mant * 1 ≡ n.mant = omega arith in
    let few : nat_lt (greatest_of Thousandth) n.mant ≡ false = grind (arith, nat_tests) in
    rw (scale, one, few) refl

-- ---- words

-- a word whose group is new is taken, unless it is a tool's
taken-row : (line : ℕ) (positioned : Bool) (s : Said) (w : Word) (e : Entry) → entry_of w ≡ Some e → is_tool e.effect ≡ false
    → may_repeat (group_of w e) ≡ false → list_any (is_same_group (group_of w e)) s.groups ≡ false
    → after_word line positioned s w ≡ Ok (noted (record s { groups = s.groups ++ group_of w e ∷ [] }) e.effect w.num)
unfolding after_entry
taken-row line true s w e entry plain once new = rw (entry, plain, once, new) refl
taken-row line false s w e entry plain once new = rw (entry, once, new) refl

taken-by : (line : ℕ) (positioned : Bool) (s : Said) (w : Word) (e : Entry) (g : Group) → entry_of w ≡ Some e → group_of w e ≡ g → is_tool e.effect ≡ false
    → may_repeat g ≡ false → list_any (is_same_group g) s.groups ≡ false
    → after_word line positioned s w ≡ Ok (noted (record s { groups = s.groups ++ g ∷ [] }) e.effect w.num)
taken-by line positioned s w e g entry group plain once new =
    let once_here : may_repeat (group_of w e) ≡ false = ap may_repeat group ∙ once in
    let new_here : list_any (is_same_group (group_of w e)) s.groups ≡ false = ap (λ (h : Group). list_any (is_same_group h) s.groups) group ∙ new in
    taken-row line positioned s w e entry plain once_here new_here
    ∙ ap (λ (h : Group). Ok (noted (record s { groups = s.groups ++ h ∷ [] }) e.effect w.num)) group

-- what is free of another group stays free
still-free : (had : Bool) (letter number : ℕ) (groups : List Group) (g : Group) → is_same_group (record { letter = letter; number = number }) g ≡ false
    → IsFree had letter number groups → IsFree had letter number (groups ++ g ∷ [])
still-free had letter number groups g other free new =
    list_any-append (is_same_group (record { letter = letter; number = number })) groups (g ∷ []) ∙ rw (free new, other) refl

-- what the line has isn't free
not-free : (had : Bool) (letter number : ℕ) (groups : List Group) → had ≡ true → IsFree had letter number groups
not-free had letter number groups has new = absurd (false≢true (sym new ∙ has))

-- an axis is named where it has a number
named : (unit : LengthUnit) (line : ℕ) (units : Option ℤ) (n : Option Num) → IsAxis unit line units n → is_some n ≡ is_some units
named unit line None None axis = refl
named unit line (Some units) (Some n) axis = refl
named unit line None (Some n) axis = absurd axis
named unit line (Some units) None axis = absurd axis

pub named-now : (unit : LengthUnit) (line : ℕ) (units : Option ℤ) (n : Num) → IsAxis unit line units (Some n) → is_some units ≡ true
named-now unit line units n axis = sym (named unit line units (Some n) axis)

-- what a word of a group leaves free: a part that the line has now, or one of another group
abbrev Leaves : Bool → Bool → ℕ → ℕ → Group → Type 0
Leaves had now letter number g = (now ≡ true) ⊎ ((now ≡ had) × (is_same_group (record { letter = letter; number = number }) g ≡ false))

left-free : (had now : Bool) (letter number : ℕ) (groups : List Group) (g : Group) → Leaves had now letter number g → IsFree had letter number groups → IsFree now letter number (groups ++ g ∷ [])
left-free had now letter number groups g (inl has) free = not-free now letter number (groups ++ g ∷ []) has
left-free had now letter number groups g (inr (same, other)) free = rw same (still-free had letter number groups g other free)

record AllLeft (old new : PlainLine) (g : Group) : Type 0 where
  x : Leaves (is_some old.x) (is_some new.x) 88 0 g
  y : Leaves (is_some old.y) (is_some new.y) 89 0 g
  z : Leaves (is_some old.z) (is_some new.z) 90 0 g
  motion : Leaves (is_some old.kind) (is_some new.kind) 71 1 g
  feed : Leaves old.feed new.feed 70 0 g

all-free : (old new : PlainLine) (groups : List Group) (g : Group) → AllLeft old new g → AreFree old groups → AreFree new (groups ++ g ∷ [])
all-free old new groups g left free = record {
  x = left-free (is_some old.x) (is_some new.x) 88 0 groups g left.x free.x;
  y = left-free (is_some old.y) (is_some new.y) 89 0 groups g left.y free.y;
  z = left-free (is_some old.z) (is_some new.z) 90 0 groups g left.z free.z;
  motion = left-free (is_some old.kind) (is_some new.kind) 71 1 groups g left.motion free.motion;
  feed = left-free old.feed new.feed 70 0 groups g left.feed free.feed;
}

pub goes-x : (unit : LengthUnit) (line : ℕ) (positioned : Bool) (w : Word) (s : Said) (plain : PlainLine) (x : Option ℤ) → w.letter ≡ 88 → plain.x ≡ None
    → IsAxis unit line x (Some w.num) → Says unit line plain s → Goes unit line positioned w s (record plain { x = x })
goes-x unit line positioned w s plain x letter new axis says =
    let g : Group = record { letter = 88; number = 0 } in
    let left : AllLeft plain (record plain { x = x }) g = record { x = inl (named-now unit line x w.num axis); y = inr (refl, refl); z = inr (refl, refl); motion = inr (refl, refl); feed = inr (refl, refl) } in
    record {
      said = record s { groups = s.groups ++ g ∷ []; x = Some w.num };
      taken = taken-by line positioned s w (row 0 X) g (row-x w letter) (rw letter refl) refl refl (says.free.x (rw new refl));
      told = λ p t begun. told-x p t begun s w letter (says.free.x (rw new refl));
      says = record { x = axis; y = says.y; z = says.z; mode = says.mode; millimetres = says.millimetres; absolute = says.absolute; ends = says.ends; changes = says.changes; spindle = says.spindle; speed = says.speed; rate = says.rate; free = all-free plain (record plain { x = x }) s.groups g left says.free };
    }

pub goes-y : (unit : LengthUnit) (line : ℕ) (positioned : Bool) (w : Word) (s : Said) (plain : PlainLine) (y : Option ℤ) → w.letter ≡ 89 → plain.y ≡ None
    → IsAxis unit line y (Some w.num) → Says unit line plain s → Goes unit line positioned w s (record plain { y = y })
goes-y unit line positioned w s plain y letter new axis says =
    let g : Group = record { letter = 89; number = 0 } in
    let left : AllLeft plain (record plain { y = y }) g = record { x = inr (refl, refl); y = inl (named-now unit line y w.num axis); z = inr (refl, refl); motion = inr (refl, refl); feed = inr (refl, refl) } in
    record {
      said = record s { groups = s.groups ++ g ∷ []; y = Some w.num };
      taken = taken-by line positioned s w (row 0 Y) g (row-y w letter) (rw letter refl) refl refl (says.free.y (rw new refl));
      told = λ p t begun. told-y p t begun s w letter (says.free.y (rw new refl));
      says = record { x = says.x; y = axis; z = says.z; mode = says.mode; millimetres = says.millimetres; absolute = says.absolute; ends = says.ends; changes = says.changes; spindle = says.spindle; speed = says.speed; rate = says.rate; free = all-free plain (record plain { y = y }) s.groups g left says.free };
    }

pub goes-z : (unit : LengthUnit) (line : ℕ) (positioned : Bool) (w : Word) (s : Said) (plain : PlainLine) (z : Option ℤ) → w.letter ≡ 90 → plain.z ≡ None
    → IsAxis unit line z (Some w.num) → Says unit line plain s → Goes unit line positioned w s (record plain { z = z })
goes-z unit line positioned w s plain z letter new axis says =
    let g : Group = record { letter = 90; number = 0 } in
    let left : AllLeft plain (record plain { z = z }) g = record { x = inr (refl, refl); y = inr (refl, refl); z = inl (named-now unit line z w.num axis); motion = inr (refl, refl); feed = inr (refl, refl) } in
    record {
      said = record s { groups = s.groups ++ g ∷ []; z = Some w.num };
      taken = taken-by line positioned s w (row 0 Z) g (row-z w letter) (rw letter refl) refl refl (says.free.z (rw new refl));
      told = λ p t begun. told-z p t begun s w letter (says.free.z (rw new refl));
      says = record { x = says.x; y = says.y; z = axis; mode = says.mode; millimetres = says.millimetres; absolute = says.absolute; ends = says.ends; changes = says.changes; spindle = says.spindle; speed = says.speed; rate = says.rate; free = all-free plain (record plain { z = z }) s.groups g left says.free };
    }

-- the rows of the other letters, 70 and 71
row-feed : (w : Word) → w.letter ≡ 70 → entry_of w ≡ Some (row 0 Rate)
unfolding entry_of
row-feed w e = rw e refl

row-motion : (w : Word) (kind : Kind) → w.letter ≡ 71 → entry_in g_entry (whole_of w.num) ≡ Some (row 1 (Motion (On kind))) → entry_of w ≡ Some (row 1 (Motion (On kind)))
unfolding entry_of
row-motion w kind e h = rw (e, h) refl

pub goes-feed : (unit : LengthUnit) (line : ℕ) (positioned : Bool) (w : Word) (s : Said) (plain : PlainLine) (had : Bool) → w.letter ≡ 70 → plain.feed ≡ false
    → had ≡ true → is_over_zero w.num ≡ true → Says unit line plain s → Goes unit line positioned w s (record plain { feed = had })
goes-feed unit line positioned w s plain had letter new has over says =
    let g : Group = record { letter = 70; number = 0 } in
    let left : AllLeft plain (record plain { feed = had }) g = record { x = inr (refl, refl); y = inr (refl, refl); z = inr (refl, refl); motion = inr (refl, refl); feed = inl has } in
    record {
      said = record s { groups = s.groups ++ g ∷ []; rate = Some (is_over_zero w.num) };
      taken = taken-by line positioned s w (row 0 Rate) g (row-feed w letter) (rw letter refl) refl refl (says.free.feed new);
      told = λ p t begun. told-feed p t begun s w letter (says.free.feed new);
      says = record { x = says.x; y = says.y; z = says.z; mode = says.mode; millimetres = says.millimetres; absolute = says.absolute; ends = says.ends; changes = says.changes; spindle = says.spindle; speed = says.speed; rate = rw (has, over) refl; free = all-free plain (record plain { feed = had }) s.groups g left says.free };
    }

pub goes-motion : (unit : LengthUnit) (line : ℕ) (positioned : Bool) (w : Word) (s : Said) (plain : PlainLine) (kind : Option Kind) → w.letter ≡ 71 → plain.kind ≡ None
    → IsMotion w.num kind → Says unit line plain s → Goes unit line positioned w s (record plain { kind = kind })
goes-motion unit line positioned w s plain None letter new motion says = absurd motion
goes-motion unit line positioned w s plain (Some kind) letter new motion says =
    let g : Group = record { letter = 71; number = 1 } in
    let left : AllLeft plain (record plain { kind = Some kind }) g = record { x = inr (refl, refl); y = inr (refl, refl); z = inr (refl, refl); motion = inl refl; feed = inr (refl, refl) } in
    record {
      said = record s { groups = s.groups ++ g ∷ []; mode = Some (On kind) };
      taken = taken-by line positioned s w (row 1 (Motion (On kind))) g (row-motion w kind letter motion.strict) (rw letter refl) refl refl (says.free.motion (rw new refl));
      told = λ p t begun. told-motion p t begun s w kind letter motion.machine (says.mode ∙ ap mode_of new);
      says = record { x = says.x; y = says.y; z = says.z; mode = refl; millimetres = says.millimetres; absolute = says.absolute; ends = says.ends; changes = says.changes; spindle = says.spindle; speed = says.speed; rate = says.rate; free = all-free plain (record plain { kind = Some kind }) s.groups g left says.free };
    }

-- ---- the line's end

-- a coordinate of the move's end
ends-at : (unit : LengthUnit) (line : ℕ) (here : ℤ) (units : Option ℤ) (n : Option Num) → IsAxis unit line units n → coordinate unit line here n ≡ Ok (unwrap_or units here)
ends-at unit line here None None axis = refl
ends-at unit line here (Some units) (Some n) axis = axis.value
ends-at unit line here None (Some n) axis = absurd axis
ends-at unit line here (Some units) None axis = absurd axis

ends-within : (unit : LengthUnit) (line : ℕ) (here : ℤ) (units : Option ℤ) (n : Option Num) → IsAxis unit line units n → Within (greatest_of unit) here → Within (greatest_of unit) (unwrap_or units here)
ends-within unit line here None None axis within = within
ends-within unit line here (Some units) (Some n) axis within = axis.within
ends-within unit line here None (Some n) axis within = absurd axis
ends-within unit line here (Some units) None axis within = absurd axis

-- what a feed needs stays, where it is all there
drive-same : (asked : Bool) (d : Drive) (s : Said) (feed : Bool) → s.changes ≡ false → s.spindle ≡ None → s.speed ≡ None → s.rate ≡ rate_of feed → HasDrive asked d
    → (if asked then driven d s else d) ≡ d
drive-same false d s feed changes spindle speed rate full = refl
drive-same true d s true changes spindle speed rate full = rw (full, changes, spindle, speed, rate) refl
drive-same true d s false changes spindle speed rate full = rw (full, changes, spindle, speed, rate) refl

-- and no move lacks any of it
drive-none : (asked : Bool) (kind : Kind) (d : Drive) (line : ℕ) → HasDrive asked d → driven_or_fault asked kind d line ≡ Ok tt
drive-none false kind d line full = refl
drive-none true Rapid d line full = refl
drive-none true Dogleg d line full = refl
drive-none true Feed d line full = rw full refl

-- what the line says is its move
acted-plain : (p : Progress) (s : Said) (plain : PlainLine) (m : PlainMove) → IsReady p → Says p.unit p.line plain s → IsEnd p plain m
    → acted p s ≡ made_move (record p { mode = On m.kind; ended = false }) m.kind m.to
unfolding acted moved target
acted-plain p s plain m ready says end =
    let some : has_axis s ≡ true = rw (named p.unit p.line plain.x s.x says.x, named p.unit p.line plain.y s.y says.y, named p.unit p.line plain.z s.z says.z) end.some in
    rw (
      some,
      says.mode,
      end.mode,
      says.millimetres,
      says.absolute,
      says.ends,
      drive-same p.rules.needs_spindle p.drive s plain.feed says.changes says.spindle says.speed says.rate ready.drive,
      ready.place,
      ready.millimetres,
      ready.absolute,
      drive-none p.rules.needs_spindle m.kind p.drive p.line ready.drive,
      ends-at p.unit p.line p.here.x plain.x s.x says.x,
      ends-at p.unit p.line p.here.y plain.y s.y says.y,
      ends-at p.unit p.line p.here.z plain.z s.z says.z,
      end.to,
    ) refl

-- and so does the line with those words, by either table
by-words : (words : Words) (p : Progress) (l : Line) (s : Said) (begun : Bool) (plain : PlainLine) (m : PlainMove) → l.slash ≡ false → IsReady p → TakesPlain words p.machine
    → said_from p.line p.positioned nothing_said l.words ≡ Ok s → ((q : Before) (t : Takes) → told_from q t nothing_told l.words ≡ Ok (told_as begun s))
    → Says p.unit p.line plain s → IsEnd p plain m → acted_by words p l ≡ made_plain p m
by-words Strict p l s begun plain m slash ready plainly said told says end = rw (slash, said) (acted-plain p s plain m ready says end)
by-words (MachineWords c) p l s begun plain m slash ready plainly said told says end =
    let some : has_axis s ≡ true = rw (named p.unit p.line plain.x s.x says.x, named p.unit p.line plain.y s.y says.y, named p.unit p.line plain.z s.z says.z) end.some in
    rw (slash, told (settled_before p) (takes_of c (settled_before p) l.words)) (acted-settled c p s begun plain m ready plainly says end some (drive-none p.rules.needs_spindle m.kind p.drive p.line ready.drive))

after-plain : (p : Progress) (l : Line) → IsReady p → after_words p l ≡ acted_by p.rules.words p l
unfolding after_words
after-plain p l ready = rw (ready.frame (is_blank l)) refl

moves-by : (p : Progress) (l : Line) (s : Said) (begun : Bool) (plain : PlainLine) (m : PlainMove) → l.slash ≡ false → IsReady p → IsInUnitRange p.unit p.here
    → said_from p.line p.positioned nothing_said l.words ≡ Ok s → ((q : Before) (t : Takes) → told_from q t nothing_told l.words ≡ Ok (told_as begun s))
    → Says p.unit p.line plain s → IsEnd p plain m → MovesTo p l m
moves-by p l s begun plain m slash ready here said told says end = record {
  moves = after-plain p l ready ∙ by-words p.rules.words p l s begun plain m slash ready ready.words said told says end;
  place = ready.place;
  few = ready.few;
  in_range = rw end.to (record {
    x_ok = ends-within p.unit p.line p.here.x plain.x s.x says.x here.x_ok;
    y_ok = ends-within p.unit p.line p.here.y plain.y s.y says.y here.y_ok;
    z_ok = ends-within p.unit p.line p.here.z plain.z s.z says.z here.z_ok;
  });
}

moves-to : (p : Progress) (l : Line) (plain : PlainLine) (m : PlainMove) (i : ℕ) → l.slash ≡ false → IsReady p → IsInUnitRange p.unit p.here
    → TakenTo p l.words i plain → length l.words ≤ i → IsEnd p plain m → MovesTo p l m
moves-to p l plain m i slash ready here to all end =
    let said : said_from p.line p.positioned nothing_said l.words ≡ Ok to.said = said_from-end p.line p.positioned l.words i to.said (said_from p.line p.positioned nothing_said l.words) all to.so_far in
    moves-by p l to.said to.begun plain m slash ready here said
    (λ q t. told_from-end q t l.words i (told_as to.begun to.said) (told_from q t nothing_told l.words) all (to.told q t)) to.says end

-- ---- the words one after another

nothing-says : (unit : LengthUnit) (line : ℕ) → Says unit line (record { kind = None; feed = false; x = None; y = None; z = None }) nothing_said
nothing-says unit line = record {
  x = tt;
  y = tt;
  z = tt;
  mode = refl;
  millimetres = refl;
  absolute = refl;
  ends = refl;
  changes = refl;
  spindle = refl;
  speed = refl;
  rate = refl;
  free = record { x = λ _. refl; y = λ _. refl; z = λ _. refl; motion = λ _. refl; feed = λ _. refl };
}

pub none-taken : (p : Progress) (words : List Word) → TakenTo p words 0 (record { kind = None; feed = false; x = None; y = None; z = None })
none-taken p words = record { said = nothing_said; so_far = refl; begun = false; told = λ q t. refl; says = nothing-says p.unit p.line }

pub one-more-taken : (p : Progress) (words : List Word) (i : ℕ) (d : Word) (old new : PlainLine) → i < length words
    → ((positioned : Bool) (s : Said) → Says p.unit p.line old s → Goes p.unit p.line positioned (get_or words i d) s new)
    → TakenTo p words i old → TakenTo p words (i + 1) new
one-more-taken p words i d old new lt takes to =
    let goes = takes p.positioned to.said to.says in
    record {
      said = goes.said;
      so_far = said_from-next p.line p.positioned words i d to.said goes.said (said_from p.line p.positioned nothing_said words) lt goes.taken to.so_far;
      begun = true;
      told = λ q t. told_from-next q t words i d (told_as to.begun to.said) (told_as true goes.said) (told_from q t nothing_told words) lt (goes.told q t to.begun) (to.told q t);
      says = goes.says;
    }

pub moves-if-ended : (o : Option PlainMove) (p : Progress) (l : Line) (plain : PlainLine) (i : ℕ) → l.slash ≡ false → IsReady p → IsInUnitRange p.unit p.here
    → TakenTo p l.words i plain → length l.words ≤ i → IfSome o (λ m. IsEnd p plain m) → IfSome o (λ m. MovesTo p l m)
moves-if-ended None p l plain i slash ready here to all end = end
moves-if-ended (Some m) p l plain i slash ready here to all end = moves-to p l plain m i slash ready here to all end

-- ---- the bytes one after another

one_if-le : (b : Bool) → one_if b ≤ 1
one_if-le true = omega arith
one_if-le false = omega arith

few-words : (plain : PlainLine) → words_in plain ≤ 5
few-words plain =
    omega (arith, one_if-le (is_some plain.kind), one_if-le plain.feed, one_if-le (is_some plain.x), one_if-le (is_some plain.y), one_if-le (is_some plain.z))

-- nothing is read yet
pub none-read : (p : Progress) (bytes : List ℕ) → ReadTo p bytes 0 (record { kind = None; feed = false; x = None; y = None; z = None })
none-read p bytes = record {
  line = empty_line;
  rest = λ _. line_from-start bytes;
  slash = refl;
  said = nothing_said;
  so_far = λ more. refl;
  begun = false;
  told = λ q t more. refl;
  says = nothing-says p.unit p.line;
  few = omega arith;
}

-- the word at a place is read
pub one-more-read : (p : Progress) (bytes : List ℕ) (place end : ℕ) (n : Num) (old new : PlainLine) → IsCapital (get_or bytes place 0)
    → ((l : Line) → is_word_letter (get_or bytes place 0) ≡ true → length l.words < 32 → EndsWord bytes end
    → line_from l bytes place ≡ line_from (and_word l (to_ascii_uppercase (get_or bytes place 0)) n) bytes end)
    → ((positioned : Bool) (s : Said) → Says p.unit p.line old s → Goes p.unit p.line positioned (record { letter = get_or bytes place 0; num = n }) s new)
    → words_in new ≡ words_in old + 1 → ReadTo p bytes place old → ReadTo p bytes end new
one-more-read p bytes place end n old new capital word takes more to =
    let goes = takes p.positioned to.said to.says in
    let letter = get_or bytes place 0 in
    let w : Word = record { letter = get_or bytes place 0; num = n } in
    let room : length to.line.words < 32 = omega (arith, to.few, few-words old) in
    let longer : length (to.line.words ++ w ∷ []) ≡ length to.line.words + 1 = length-append to.line.words (w ∷ []) in
    record {
      line = and_word to.line letter n;
      rest = λ ends. to.rest (λ _. capital.alphabetic) ∙ rw capital.upper at (word to.line capital.letter room ends);
      slash = to.slash;
      said = goes.said;
      so_far = λ more. rw (append_assoc to.line.words (w ∷ []) more) (to.so_far (w ∷ more) ∙ said_from-first p.line p.positioned w more to.said goes.said goes.taken);
      begun = true;
      told = λ q t more. rw (append_assoc to.line.words (w ∷ []) more) (to.told q t (w ∷ more) ∙ told-first q t w more (told_as to.begun to.said) (told_as true goes.said) (goes.told q t to.begun));
      says = goes.says;
      few = omega (arith, longer, to.few, more);
    }

-- the line's number has no part in whether it is only a move
ready-begun : (p : Progress) → IsReady p → IsReady (line_begun p)
ready-begun p ready = record { words = ready.words; place = ready.place; drive = ready.drive; few = ready.few; frame = ready.frame; millimetres = ready.millimetres; absolute = ready.absolute }

end-begun : (p : Progress) (plain : PlainLine) (m : PlainMove) → IsEnd p plain m → IsEnd (line_begun p) plain m
end-begun p plain m end = record { some = end.some; mode = end.mode; to = end.to }

pub line-moves : (p : Progress) (bytes : List ℕ) (place : ℕ) (plain : PlainLine) (m : PlainMove) → IsReady p → IsInUnitRange p.unit p.here
    → ReadTo (line_begun p) bytes place plain → length bytes ≤ place → IsEnd p plain m → LineMovesTo (line_begun p) bytes m
line-moves p bytes place plain m ready here to all end =
    let q = line_begun p in
    let words = to.line.words in
    let said : said_from q.line q.positioned nothing_said words ≡ Ok to.said =
    rw (append-nil words) at (to.so_far []) ∙ said_from-none q.line q.positioned to.said in
    record {
      line = to.line;
      told = to.rest (λ lt. absurd (omega arith)) ∙ line_from-end to.line bytes place all;
      moves = moves-by q to.line to.said to.begun plain m to.slash (ready-begun p ready) here said
          (λ r t. rw (append-nil words) at (to.told r t []) ∙ told-none r t (told_as to.begun to.said)) to.says (end-begun p plain m end);
    }

pub line-moves-if-ended : (o : Option PlainMove) (p : Progress) (bytes : List ℕ) (place : ℕ) (plain : PlainLine) → IsReady p → IsInUnitRange p.unit p.here
    → ReadTo (line_begun p) bytes place plain → length bytes ≤ place → IfSome o (λ m. IsEnd p plain m) → IfSome o (λ m. LineMovesTo (line_begun p) bytes m)
line-moves-if-ended None p bytes place plain ready here to all end = end
line-moves-if-ended (Some m) p bytes place plain ready here to all end = line-moves p bytes place plain m ready here to all end

-- ---- words counted

-- a word that such a line hasn't had makes its words one more
pub more-x : (plain : PlainLine) (x : Option ℤ) → plain.x ≡ None → is_some x ≡ true → words_in (record plain { x = x }) ≡ words_in plain + 1
more-x plain x new has = rw (new, has) (omega arith)

pub more-y : (plain : PlainLine) (y : Option ℤ) → plain.y ≡ None → is_some y ≡ true → words_in (record plain { y = y }) ≡ words_in plain + 1
more-y plain y new has = rw (new, has) (omega arith)

pub more-z : (plain : PlainLine) (z : Option ℤ) → plain.z ≡ None → is_some z ≡ true → words_in (record plain { z = z }) ≡ words_in plain + 1
more-z plain z new has = rw (new, has) (omega arith)

pub more-feed : (plain : PlainLine) (had : Bool) → plain.feed ≡ false → had ≡ true → words_in (record plain { feed = had }) ≡ words_in plain + 1
more-feed plain had new has = rw (new, has) (omega arith)

pub more-motion : (plain : PlainLine) (n : Num) (kind : Option Kind) → plain.kind ≡ None → IsMotion n kind → words_in (record plain { kind = kind }) ≡ words_in plain + 1
more-motion plain n None new motion = absurd motion
more-motion plain n (Some kind) new motion = rw new (omega arith)

pub capital-of : (b : ℕ) → ((b ≡ 88) ⊎ (b ≡ 89)) ⊎ ((b ≡ 90) ⊎ ((b ≡ 71) ⊎ (b ≡ 70))) → IsCapital b
capital-of b (inl (inl e)) = rw e (record { letter = refl; alphabetic = refl; upper = refl })
capital-of b (inl (inr e)) = rw e (record { letter = refl; alphabetic = refl; upper = refl })
capital-of b (inr (inl e)) = rw e (record { letter = refl; alphabetic = refl; upper = refl })
capital-of b (inr (inr (inl e))) = rw e (record { letter = refl; alphabetic = refl; upper = refl })
capital-of b (inr (inr (inr e))) = rw e (record { letter = refl; alphabetic = refl; upper = refl })

-- ---- the line

-- so a line that is only a move, and not of the frame, makes it
pub plain-line : (p q : Progress) (bytes : List ℕ) (m : PlainMove) (made : Move) → length bytes ≤ 256 → has_frame p.frame (is_percent bytes) ≡ false
    → LineMovesTo (line_begun p) bytes m → made_plain (line_begun p) m ≡ Ok (q, made ∷ []) → after_line p bytes ≡ Ok (q, made ∷ [])
unfolding after_line
plain-line p q bytes m made short other to makes =
    let fits : nat_lt 256 (length bytes) ≡ false = grind (arith, nat_tests) in
    rw (fits, other, to.told) (to.moves.moves ∙ makes)
