-- The words of a line that is only a move, as a program for a machine has them: they tell the same.
use Rattle.std.proofs.Common.{◌≡◌, List, [], ◌∷◌, ◌++◌, Bool, true, false, Some, None, Ok, refl, ap, ◌∙◌}
use Rattle.std.specs.List.{list_any}
use Rattle.mill_base.specs.declared.motion.Kind.{Kind}
use Rattle.mill_words.specs.declared.word.Word.{Word}
use Rattle.mill_said.specs.declared.machine_said.MachineSaid.{MachineSaid}
use Rattle.mill_said.specs.declared.machine_table.Meaning.TheVariants as meaning
use Rattle.mill_said.specs.declared.machine_table.Row.{Row}
use Rattle.mill_said.specs.declared.machine_takes.Takes.{Takes}
use Rattle.mill_said.specs.declared.profile.Mode.TheVariants.{On}
use Rattle.mill_said.specs.declared.before.Before.{Before}
use Rattle.mill_said.specs.declared.said.Said.{Said}
use Rattle.mill_said.specs.MachineSaid.{clash_of, may_name_program, may_tolerate, told, told_from, told_row, told_word, with_word}
use Rattle.mill_said.specs.MachineTable.{in_group, machine_g_row, row_in, row_of, tenths_of}
use Rattle.mill_said.specs.MachineTakes.{takes}
use Rattle.mill_said.specs.Numbers.{is_over_zero}
use Rattle.mill_said.specs.Profile.{is_same_group}
use Rattle.mill_said.specs.Said.{◌>>=◌}
use Rattle.mill_block.specs.inner.PlainMoves.{told_as}

-- ---- rows, by letter: X, Y, Z, F and G are 88, 89, 90, 70 and 71

row-by-x : (w : Word) → w.letter ≡ 88 → row_of w ≡ in_group 0 meaning.X
unfolding row_of
row-by-x w e = rw e refl

row-by-y : (w : Word) → w.letter ≡ 89 → row_of w ≡ in_group 0 meaning.Y
unfolding row_of
row-by-y w e = rw e refl

row-by-z : (w : Word) → w.letter ≡ 90 → row_of w ≡ in_group 0 meaning.Z
unfolding row_of
row-by-z w e = rw e refl

row-by-feed : (w : Word) → w.letter ≡ 70 → row_of w ≡ in_group 0 meaning.Rate
unfolding row_of
row-by-feed w e = rw e refl

row-by-motion : (w : Word) (kind : Kind) → w.letter ≡ 71 → row_in machine_g_row (tenths_of w.num) ≡ in_group 1 (meaning.Straight kind)
    → row_of w ≡ in_group 1 (meaning.Straight kind)
unfolding row_of
row-by-motion w kind e h = rw (e, h) refl

-- ---- words

-- a word that the line takes, beside which nothing stands that doesn't go with it
told-by-row : (p : Before) (t : Takes) (s : MachineSaid) (w : Word) (row : Row) → row_of w ≡ Some row
    → takes t row.meaning w.num ≡ true → may_name_program p s row.meaning w.num ≡ true → clash_of p s w row ≡ None → may_tolerate t row.meaning ≡ true
    → told_word p t s w ≡ Ok (told (with_word s w row) row w.num)
unfolding told_row
told-by-row p t s w row is may names beside tolerates = rw (is, may, names, beside, tolerates) refl

pub told-x : (p : Before) (t : Takes) (begun : Bool) (s : Said) (w : Word) → w.letter ≡ 88
    → list_any (is_same_group (record { letter = 88; number = 0 })) s.groups ≡ false
    → told_word p t (told_as begun s) w ≡ Ok (told_as true (record s { groups = s.groups ++ record { letter = 88; number = 0 } ∷ []; x = Some w.num }))
told-x p t begun s w letter new =
    told-by-row p t (told_as begun s) w (record { group = 0; meaning = meaning.X }) (row-by-x w letter) refl refl (rw (letter, new) refl) refl ∙ rw letter refl

pub told-y : (p : Before) (t : Takes) (begun : Bool) (s : Said) (w : Word) → w.letter ≡ 89
    → list_any (is_same_group (record { letter = 89; number = 0 })) s.groups ≡ false
    → told_word p t (told_as begun s) w ≡ Ok (told_as true (record s { groups = s.groups ++ record { letter = 89; number = 0 } ∷ []; y = Some w.num }))
told-y p t begun s w letter new =
    told-by-row p t (told_as begun s) w (record { group = 0; meaning = meaning.Y }) (row-by-y w letter) refl refl (rw (letter, new) refl) refl ∙ rw letter refl

pub told-z : (p : Before) (t : Takes) (begun : Bool) (s : Said) (w : Word) → w.letter ≡ 90
    → list_any (is_same_group (record { letter = 90; number = 0 })) s.groups ≡ false
    → told_word p t (told_as begun s) w ≡ Ok (told_as true (record s { groups = s.groups ++ record { letter = 90; number = 0 } ∷ []; z = Some w.num }))
told-z p t begun s w letter new =
    told-by-row p t (told_as begun s) w (record { group = 0; meaning = meaning.Z }) (row-by-z w letter) refl refl (rw (letter, new) refl) refl ∙ rw letter refl

pub told-feed : (p : Before) (t : Takes) (begun : Bool) (s : Said) (w : Word) → w.letter ≡ 70
    → list_any (is_same_group (record { letter = 70; number = 0 })) s.groups ≡ false
    → told_word p t (told_as begun s) w ≡ Ok (told_as true (record s { groups = s.groups ++ record { letter = 70; number = 0 } ∷ []; rate = Some (is_over_zero w.num) }))
told-feed p t begun s w letter new =
    told-by-row p t (told_as begun s) w (record { group = 0; meaning = meaning.Rate }) (row-by-feed w letter) refl refl (rw (letter, new) refl) refl ∙ rw letter refl

pub told-motion : (p : Before) (t : Takes) (begun : Bool) (s : Said) (w : Word) (kind : Kind) → w.letter ≡ 71
    → row_in machine_g_row (tenths_of w.num) ≡ in_group 1 (meaning.Straight kind) → s.mode ≡ None
    → told_word p t (told_as begun s) w ≡ Ok (told_as true (record s { groups = s.groups ++ record { letter = 71; number = 1 } ∷ []; mode = Some (On kind) }))
told-motion p t begun s w kind letter motion none =
    told-by-row p t (told_as begun s) w (record { group = 1; meaning = meaning.Straight kind }) (row-by-motion w kind letter motion) refl refl (rw (letter, none) refl) refl ∙ rw letter refl

-- ---- the words one after another

-- the first word before those behind it
pub told-first : (p : Before) (t : Takes) (w : Word) (ws : List Word) (s u : MachineSaid) → told_word p t s w ≡ Ok u
    → told_from p t s (w ∷ ws) ≡ told_from p t u ws
unfolding told_from
told-first p t w ws s u h = ap (λ r. r >>= λ v. told_from p t v ws) h

pub told-none : (p : Before) (t : Takes) (s : MachineSaid) → told_from p t s [] ≡ Ok s
unfolding told_from
told-none p t s = refl
