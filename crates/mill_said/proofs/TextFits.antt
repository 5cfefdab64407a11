-- The numbers that a line tells have at most 18 digits, and the unit of its lengths is the one in force where an axis word has come before.
use Rattle.std.proofs.Common.{◌≡◌, ℕ, Bool, true, false, Option, Some, None, Result, Ok, Err, List, [], ◌∷◌, refl, subst}
use Rattle.std.proofs.lemmas.List.Elements.{All-head, All-tail}
use Rattle.std.specs.Prelude.{⊤, All, not, ◌&&◌, IfSome, if◌then◌else◌}
use Rattle.mill_words.specs.Words.{FitsNum, FitsWord, Line}
use Rattle.mill_words.specs.declared.word.Num.{Num}
use Rattle.mill_words.specs.declared.word.Word.{Word}
use Rattle.mill_said.specs.MachineSaid.{alone_fault, clash_of, group_of_row, is_alone, is_axis, is_repeated, may_name_program, may_tolerate, motions_clash, names_axis, nothing_told, other_lengths, told, told_from, told_line, told_row, told_word_by, unless_clash, with_word}
use Rattle.mill_said.specs.MachineTable.{row_of}
use Rattle.mill_said.specs.MachineTakes.{takes, takes_of}
use Rattle.mill_said.specs.Profile.{repeated}
use Rattle.mill_said.specs.Said.{◌>>=◌}
use Rattle.mill_said.specs.declared.fault.NgcFault.{NgcFault}
use Rattle.mill_said.specs.declared.fault.NgcFault.TheVariants as fault
use Rattle.mill_said.specs.declared.machine_said.MachineSaid.{MachineSaid}
use Rattle.mill_said.specs.declared.machine_table.Meaning.{Meaning}
use Rattle.mill_said.specs.declared.machine_table.Meaning.TheVariants as meaning
use Rattle.mill_said.specs.declared.machine_table.Row.{Row}
use Rattle.mill_said.specs.declared.machine_takes.Takes.{Takes}
use Rattle.mill_said.specs.declared.before.Before.{Before}
use Rattle.mill_said.specs.declared.rules.Control.{Control}
use Rattle.mill_said.specs.Bounds.{FitsTold}

-- ---- what a line tells

with-fits : (s : MachineSaid) (m : Meaning) (group : ℕ) (n : Num) → FitsTold s → FitsNum 18 n → FitsTold (told s (record { group = group; meaning = m }) n)
with-fits s meaning.X group n fits num = record { x_fits = num; y_fits = fits.y_fits; z_fits = fits.z_fits; r_fits = fits.r_fits; q_fits = fits.q_fits; h_fits = fits.h_fits; p_fits = fits.p_fits; i_fits = fits.i_fits; j_fits = fits.j_fits; k_fits = fits.k_fits }
with-fits s meaning.Y group n fits num = record { x_fits = fits.x_fits; y_fits = num; z_fits = fits.z_fits; r_fits = fits.r_fits; q_fits = fits.q_fits; h_fits = fits.h_fits; p_fits = fits.p_fits; i_fits = fits.i_fits; j_fits = fits.j_fits; k_fits = fits.k_fits }
with-fits s meaning.Z group n fits num = record { x_fits = fits.x_fits; y_fits = fits.y_fits; z_fits = num; r_fits = fits.r_fits; q_fits = fits.q_fits; h_fits = fits.h_fits; p_fits = fits.p_fits; i_fits = fits.i_fits; j_fits = fits.j_fits; k_fits = fits.k_fits }
with-fits s meaning.R group n fits num = record { x_fits = fits.x_fits; y_fits = fits.y_fits; z_fits = fits.z_fits; r_fits = num; q_fits = fits.q_fits; h_fits = fits.h_fits; p_fits = fits.p_fits; i_fits = fits.i_fits; j_fits = fits.j_fits; k_fits = fits.k_fits }
with-fits s meaning.Q group n fits num = record { x_fits = fits.x_fits; y_fits = fits.y_fits; z_fits = fits.z_fits; r_fits = fits.r_fits; q_fits = num; h_fits = fits.h_fits; p_fits = fits.p_fits; i_fits = fits.i_fits; j_fits = fits.j_fits; k_fits = fits.k_fits }
with-fits s meaning.H group n fits num = record { x_fits = fits.x_fits; y_fits = fits.y_fits; z_fits = fits.z_fits; r_fits = fits.r_fits; q_fits = fits.q_fits; h_fits = num; p_fits = fits.p_fits; i_fits = fits.i_fits; j_fits = fits.j_fits; k_fits = fits.k_fits }
with-fits s meaning.I group n fits num = record { x_fits = fits.x_fits; y_fits = fits.y_fits; z_fits = fits.z_fits; r_fits = fits.r_fits; q_fits = fits.q_fits; h_fits = fits.h_fits; p_fits = fits.p_fits; i_fits = num; j_fits = fits.j_fits; k_fits = fits.k_fits }
with-fits s meaning.J group n fits num = record { x_fits = fits.x_fits; y_fits = fits.y_fits; z_fits = fits.z_fits; r_fits = fits.r_fits; q_fits = fits.q_fits; h_fits = fits.h_fits; p_fits = fits.p_fits; i_fits = fits.i_fits; j_fits = num; k_fits = fits.k_fits }
with-fits s meaning.K group n fits num = record { x_fits = fits.x_fits; y_fits = fits.y_fits; z_fits = fits.z_fits; r_fits = fits.r_fits; q_fits = fits.q_fits; h_fits = fits.h_fits; p_fits = fits.p_fits; i_fits = fits.i_fits; j_fits = fits.j_fits; k_fits = num }
with-fits s meaning.Nothing group n fits num = record { x_fits = fits.x_fits; y_fits = fits.y_fits; z_fits = fits.z_fits; r_fits = fits.r_fits; q_fits = fits.q_fits; h_fits = fits.h_fits; p_fits = fits.p_fits; i_fits = fits.i_fits; j_fits = fits.j_fits; k_fits = fits.k_fits }
with-fits s (meaning.Straight kind) group n fits num = record { x_fits = fits.x_fits; y_fits = fits.y_fits; z_fits = fits.z_fits; r_fits = fits.r_fits; q_fits = fits.q_fits; h_fits = fits.h_fits; p_fits = fits.p_fits; i_fits = fits.i_fits; j_fits = fits.j_fits; k_fits = fits.k_fits }
with-fits s meaning.Still group n fits num = record { x_fits = fits.x_fits; y_fits = fits.y_fits; z_fits = fits.z_fits; r_fits = fits.r_fits; q_fits = fits.q_fits; h_fits = fits.h_fits; p_fits = fits.p_fits; i_fits = fits.i_fits; j_fits = fits.j_fits; k_fits = fits.k_fits }
with-fits s (meaning.Turn turn) group n fits num = record { x_fits = fits.x_fits; y_fits = fits.y_fits; z_fits = fits.z_fits; r_fits = fits.r_fits; q_fits = fits.q_fits; h_fits = fits.h_fits; p_fits = fits.p_fits; i_fits = fits.i_fits; j_fits = fits.j_fits; k_fits = fits.k_fits }
with-fits s (meaning.Plane plane) group n fits num = record { x_fits = fits.x_fits; y_fits = fits.y_fits; z_fits = fits.z_fits; r_fits = fits.r_fits; q_fits = fits.q_fits; h_fits = fits.h_fits; p_fits = fits.p_fits; i_fits = fits.i_fits; j_fits = fits.j_fits; k_fits = fits.k_fits }
with-fits s (meaning.Drill c) group n fits num = record { x_fits = fits.x_fits; y_fits = fits.y_fits; z_fits = fits.z_fits; r_fits = fits.r_fits; q_fits = fits.q_fits; h_fits = fits.h_fits; p_fits = fits.p_fits; i_fits = fits.i_fits; j_fits = fits.j_fits; k_fits = fits.k_fits }
with-fits s (meaning.Absolute absolute) group n fits num = record { x_fits = fits.x_fits; y_fits = fits.y_fits; z_fits = fits.z_fits; r_fits = fits.r_fits; q_fits = fits.q_fits; h_fits = fits.h_fits; p_fits = fits.p_fits; i_fits = fits.i_fits; j_fits = fits.j_fits; k_fits = fits.k_fits }
with-fits s (meaning.Lengths lengths) group n fits num = record { x_fits = fits.x_fits; y_fits = fits.y_fits; z_fits = fits.z_fits; r_fits = fits.r_fits; q_fits = fits.q_fits; h_fits = fits.h_fits; p_fits = fits.p_fits; i_fits = fits.i_fits; j_fits = fits.j_fits; k_fits = fits.k_fits }
with-fits s (meaning.Length on) group n fits num = record { x_fits = fits.x_fits; y_fits = fits.y_fits; z_fits = fits.z_fits; r_fits = fits.r_fits; q_fits = fits.q_fits; h_fits = fits.h_fits; p_fits = fits.p_fits; i_fits = fits.i_fits; j_fits = fits.j_fits; k_fits = fits.k_fits }
with-fits s (meaning.Zero zero) group n fits num = record { x_fits = fits.x_fits; y_fits = fits.y_fits; z_fits = fits.z_fits; r_fits = fits.r_fits; q_fits = fits.q_fits; h_fits = fits.h_fits; p_fits = fits.p_fits; i_fits = fits.i_fits; j_fits = fits.j_fits; k_fits = fits.k_fits }
with-fits s (meaning.Returns returns) group n fits num = record { x_fits = fits.x_fits; y_fits = fits.y_fits; z_fits = fits.z_fits; r_fits = fits.r_fits; q_fits = fits.q_fits; h_fits = fits.h_fits; p_fits = fits.p_fits; i_fits = fits.i_fits; j_fits = fits.j_fits; k_fits = fits.k_fits }
with-fits s meaning.Tolerance group n fits num = record { x_fits = fits.x_fits; y_fits = fits.y_fits; z_fits = fits.z_fits; r_fits = fits.r_fits; q_fits = fits.q_fits; h_fits = fits.h_fits; p_fits = fits.p_fits; i_fits = fits.i_fits; j_fits = fits.j_fits; k_fits = fits.k_fits }
with-fits s meaning.Exact group n fits num = record { x_fits = fits.x_fits; y_fits = fits.y_fits; z_fits = fits.z_fits; r_fits = fits.r_fits; q_fits = fits.q_fits; h_fits = fits.h_fits; p_fits = fits.p_fits; i_fits = fits.i_fits; j_fits = fits.j_fits; k_fits = fits.k_fits }
with-fits s meaning.Cancel group n fits num = record { x_fits = fits.x_fits; y_fits = fits.y_fits; z_fits = fits.z_fits; r_fits = fits.r_fits; q_fits = fits.q_fits; h_fits = fits.h_fits; p_fits = fits.p_fits; i_fits = fits.i_fits; j_fits = fits.j_fits; k_fits = fits.k_fits }
with-fits s meaning.Rest group n fits num = record { x_fits = fits.x_fits; y_fits = fits.y_fits; z_fits = fits.z_fits; r_fits = fits.r_fits; q_fits = fits.q_fits; h_fits = fits.h_fits; p_fits = fits.p_fits; i_fits = fits.i_fits; j_fits = fits.j_fits; k_fits = fits.k_fits }
with-fits s meaning.Home group n fits num = record { x_fits = fits.x_fits; y_fits = fits.y_fits; z_fits = fits.z_fits; r_fits = fits.r_fits; q_fits = fits.q_fits; h_fits = fits.h_fits; p_fits = fits.p_fits; i_fits = fits.i_fits; j_fits = fits.j_fits; k_fits = fits.k_fits }
with-fits s meaning.MachinePlace group n fits num = record { x_fits = fits.x_fits; y_fits = fits.y_fits; z_fits = fits.z_fits; r_fits = fits.r_fits; q_fits = fits.q_fits; h_fits = fits.h_fits; p_fits = fits.p_fits; i_fits = fits.i_fits; j_fits = fits.j_fits; k_fits = fits.k_fits }
with-fits s meaning.Stop group n fits num = record { x_fits = fits.x_fits; y_fits = fits.y_fits; z_fits = fits.z_fits; r_fits = fits.r_fits; q_fits = fits.q_fits; h_fits = fits.h_fits; p_fits = fits.p_fits; i_fits = fits.i_fits; j_fits = fits.j_fits; k_fits = fits.k_fits }
with-fits s meaning.End group n fits num = record { x_fits = fits.x_fits; y_fits = fits.y_fits; z_fits = fits.z_fits; r_fits = fits.r_fits; q_fits = fits.q_fits; h_fits = fits.h_fits; p_fits = fits.p_fits; i_fits = fits.i_fits; j_fits = fits.j_fits; k_fits = fits.k_fits }
with-fits s meaning.Change group n fits num = record { x_fits = fits.x_fits; y_fits = fits.y_fits; z_fits = fits.z_fits; r_fits = fits.r_fits; q_fits = fits.q_fits; h_fits = fits.h_fits; p_fits = fits.p_fits; i_fits = fits.i_fits; j_fits = fits.j_fits; k_fits = fits.k_fits }
with-fits s (meaning.Spindle turns) group n fits num = record { x_fits = fits.x_fits; y_fits = fits.y_fits; z_fits = fits.z_fits; r_fits = fits.r_fits; q_fits = fits.q_fits; h_fits = fits.h_fits; p_fits = fits.p_fits; i_fits = fits.i_fits; j_fits = fits.j_fits; k_fits = fits.k_fits }
with-fits s meaning.Tool group n fits num = record { x_fits = fits.x_fits; y_fits = fits.y_fits; z_fits = fits.z_fits; r_fits = fits.r_fits; q_fits = fits.q_fits; h_fits = fits.h_fits; p_fits = fits.p_fits; i_fits = fits.i_fits; j_fits = fits.j_fits; k_fits = fits.k_fits }
with-fits s meaning.Speed group n fits num = record { x_fits = fits.x_fits; y_fits = fits.y_fits; z_fits = fits.z_fits; r_fits = fits.r_fits; q_fits = fits.q_fits; h_fits = fits.h_fits; p_fits = fits.p_fits; i_fits = fits.i_fits; j_fits = fits.j_fits; k_fits = fits.k_fits }
with-fits s meaning.Rate group n fits num = record { x_fits = fits.x_fits; y_fits = fits.y_fits; z_fits = fits.z_fits; r_fits = fits.r_fits; q_fits = fits.q_fits; h_fits = fits.h_fits; p_fits = fits.p_fits; i_fits = fits.i_fits; j_fits = fits.j_fits; k_fits = fits.k_fits }
with-fits s meaning.Name group n fits num = record { x_fits = fits.x_fits; y_fits = fits.y_fits; z_fits = fits.z_fits; r_fits = fits.r_fits; q_fits = fits.q_fits; h_fits = fits.h_fits; p_fits = fits.p_fits; i_fits = fits.i_fits; j_fits = fits.j_fits; k_fits = fits.k_fits }
with-fits s meaning.P group n fits num = record { x_fits = fits.x_fits; y_fits = fits.y_fits; z_fits = fits.z_fits; r_fits = fits.r_fits; q_fits = fits.q_fits; h_fits = fits.h_fits; p_fits = num; i_fits = fits.i_fits; j_fits = fits.j_fits; k_fits = fits.k_fits }

-- lengths that may come on a line are those in force, once an axis word has come
unfoldable pub LengthsStay : Before → MachineSaid → Type 0
LengthsStay p s = IfSome s.lengths (λ l. other_lengths p (meaning.Lengths l) ≡ false)

with-lengths : (p : Before) (s : MachineSaid) (m : Meaning) (group : ℕ) (n : Num) → LengthsStay p s → other_lengths p m ≡ false → LengthsStay p (told s (record { group = group; meaning = m }) n)
unfolding LengthsStay
with-lengths p s meaning.X group n stay same = stay
with-lengths p s meaning.Y group n stay same = stay
with-lengths p s meaning.Z group n stay same = stay
with-lengths p s meaning.R group n stay same = stay
with-lengths p s meaning.Q group n stay same = stay
with-lengths p s meaning.H group n stay same = stay
with-lengths p s meaning.I group n stay same = stay
with-lengths p s meaning.J group n stay same = stay
with-lengths p s meaning.K group n stay same = stay
with-lengths p s meaning.Nothing group n stay same = stay
with-lengths p s (meaning.Straight kind) group n stay same = stay
with-lengths p s meaning.Still group n stay same = stay
with-lengths p s (meaning.Turn turn) group n stay same = stay
with-lengths p s (meaning.Plane plane) group n stay same = stay
with-lengths p s (meaning.Drill c) group n stay same = stay
with-lengths p s (meaning.Absolute absolute) group n stay same = stay
with-lengths p s (meaning.Lengths lengths) group n stay same = same
with-lengths p s (meaning.Length on) group n stay same = stay
with-lengths p s (meaning.Zero zero) group n stay same = stay
with-lengths p s (meaning.Returns returns) group n stay same = stay
with-lengths p s meaning.Tolerance group n stay same = stay
with-lengths p s meaning.Exact group n stay same = stay
with-lengths p s meaning.Cancel group n stay same = stay
with-lengths p s meaning.Rest group n stay same = stay
with-lengths p s meaning.Home group n stay same = stay
with-lengths p s meaning.MachinePlace group n stay same = stay
with-lengths p s meaning.Stop group n stay same = stay
with-lengths p s meaning.End group n stay same = stay
with-lengths p s meaning.Change group n stay same = stay
with-lengths p s (meaning.Spindle turns) group n stay same = stay
with-lengths p s meaning.Tool group n stay same = stay
with-lengths p s meaning.Speed group n stay same = stay
with-lengths p s meaning.Rate group n stay same = stay
with-lengths p s meaning.Name group n stay same = stay
with-lengths p s meaning.P group n stay same = stay

-- a word of other lengths has a fault
same-lengths : (p : Before) (s : MachineSaid) (w : Word) (row : Row) → clash_of p s w row ≡ None → other_lengths p row.meaning ≡ false
same-lengths p s w row is =
    by (motions_clash s row.meaning) (is_repeated s w row) (other_lengths p row.meaning) (fault.Group p.line row.group) (repeated p.line (group_of_row w row)) (fault.Group p.line row.group)
    (if is_alone row.meaning && names_axis s then Some (fault.Group p.line row.group) else (if is_axis row.meaning then alone_fault p.line s.alone else None)) is
  where
    by : (a b c : Bool) (f g h : NgcFault) (more : Option NgcFault) → (if a then Some f else (if b then Some g else (if c then Some h else more))) ≡ None → c ≡ false
    by true b c f g h more is = absurd cc
    by false true c f g h more is = absurd cc
    by false false true f g h more is = absurd cc
    by false false false f g h more is = refl

-- the line so far
SoFits : Before → Result MachineSaid NgcFault → Type 0
SoFits p (Ok s) = FitsTold s × LengthsStay p s
SoFits p (Err f) = ⊤

so-if : (p : Before) (b : Bool) (x y : Result MachineSaid NgcFault) → SoFits p x → SoFits p y → SoFits p (if b then x else y)
so-if p true x y h g = h
so-if p false x y h g = g

unless-fits : (p : Before) (f : Option NgcFault) (r : Result MachineSaid NgcFault) → (f ≡ None → SoFits p r) → SoFits p (unless_clash f r)
unfolding SoFits
unless-fits p (Some f) r fits = tt
unless-fits p None r fits = fits refl

begun-fits : (s : MachineSaid) (w : Word) (row : Row) → FitsTold s → FitsTold (with_word s w row)
begun-fits s w row fits = record { x_fits = fits.x_fits; y_fits = fits.y_fits; z_fits = fits.z_fits; r_fits = fits.r_fits; q_fits = fits.q_fits; h_fits = fits.h_fits; p_fits = fits.p_fits; i_fits = fits.i_fits; j_fits = fits.j_fits; k_fits = fits.k_fits }

row-fits : (p : Before) (t : Takes) (s : MachineSaid) (w : Word) (row : Row) → FitsTold s → LengthsStay p s → FitsWord w → SoFits p (told_row p t s w row)
unfolding told_row SoFits LengthsStay
row-fits p t s w row fits stay num =
    let told_it : Result MachineSaid NgcFault = Ok (told (with_word s w row) row w.num) in
    so-if p (not (takes t row.meaning w.num && may_name_program p s row.meaning w.num)) (Err (fault.NotInProfile p.line w.letter w.num))
    (unless_clash (clash_of p s w row) (if not (may_tolerate t row.meaning) then Err (fault.PathControl p.line) else told_it)) tt
    (unless-fits p (clash_of p s w row) (if not (may_tolerate t row.meaning) then Err (fault.PathControl p.line) else told_it)
    (λ free. so-if p (not (may_tolerate t row.meaning)) (Err (fault.PathControl p.line)) told_it tt
    (with-fits (with_word s w row) row.meaning row.group w.num (begun-fits s w row fits) num, with-lengths p (with_word s w row) row.meaning row.group w.num stay (same-lengths p s w row free))))

word-fits : (p : Before) (t : Takes) (s : MachineSaid) (w : Word) (row : Option Row) → FitsTold s → LengthsStay p s → FitsWord w → SoFits p (told_word_by p t s w row)
unfolding SoFits
word-fits p t s w None fits stay num = tt
word-fits p t s w (Some row) fits stay num = row-fits p t s w row fits stay num

then-fits : (p : Before) (r : Result MachineSaid NgcFault) (f : MachineSaid → Result MachineSaid NgcFault) → SoFits p r → ((s : MachineSaid) → FitsTold s → LengthsStay p s → SoFits p (f s)) → SoFits p (r >>= f)
unfolding SoFits
then-fits p (Ok s) f fits next = next s fits.0 fits.1
then-fits p (Err e) f fits next = tt

words-fit : (p : Before) (t : Takes) (s : MachineSaid) (ws : List Word) → FitsTold s → LengthsStay p s → All FitsWord ws → SoFits p (told_from p t s ws)
unfolding told_from SoFits
words-fit p t s [] fits stay all = (fits, stay)
words-fit p t s (w ∷ ws) fits stay all =
    then-fits p (told_word_by p t s w (row_of w)) (λ u. told_from p t u ws) (word-fits p t s w (row_of w) fits stay (All-head FitsWord w ws all))
    (λ u more lengths. words-fit p t u ws more lengths (All-tail FitsWord w ws all))

pub told_fits : (c : Control) (p : Before) (l : Line) (s : MachineSaid) → All FitsWord l.words → told_line c p l ≡ Ok s → FitsTold s × LengthsStay p s
unfolding SoFits LengthsStay
told_fits c p l s all is =
    subst (SoFits p) is (so-if p l.slash (Err (fault.NotInProfile p.line 47 (record { neg = false; mant = 0; scale = 0 }))) (told_from p (takes_of c p l.words) nothing_told l.words) tt
    (words-fit p (takes_of c p l.words) nothing_told l.words (record { x_fits = tt; y_fits = tt; z_fits = tt; r_fits = tt; q_fits = tt; h_fits = tt; p_fits = tt; i_fits = tt; j_fits = tt; k_fits = tt }) tt all))
