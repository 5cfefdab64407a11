-- A line byte by byte, as the reader's loop takes it.
use Rattle.std.proofs.Common.{◌≡◌, ℕ, ◌+◌, ◌<◌, ◌≤◌, List, length, drop, get_or, Option, Some, None, Result, Ok, Err, refl, sym, ap, ◌∙◌, add-one, drop-cons}
use Rattle.std.proofs.Math.ListN.{drop_of_length-le}
use Rattle.mill_words.specs.declared.word.WordFault.{WordFault}
use Rattle.mill_words.specs.declared.marks.Region.{Region}
use Rattle.mill_words.specs.declared.marks.Mark.{Mark}
use Rattle.mill_words.specs.declared.stage.Stage.{Stage}
use Rattle.mill_words.specs.Words.{Line}
use Rattle.mill_words.specs.Marks.{marked, put_mark, marks_from, end_marks}
use Rattle.mill_words.specs.Lines.{taken, read_marks, ◌>>=◌}

-- what the marks make of a reading
abbrev behind : List Mark → Result (Stage × Line) WordFault → Result Line WordFault
behind ms so_far = so_far >>= λ t. read_marks t.0 t.1 ms

-- a mark is taken before the marks behind it, and where there is none nothing is
read_marks-put_mark : (m : Option Mark) (s : Stage) (l : Line) (ms : List Mark) → read_marks s l (put_mark m ms) ≡ behind ms (taken m s l)
unfolding read_marks taken
read_marks-put_mark None s l ms = refl
read_marks-put_mark (Some m) s l ms = refl

-- the meaning of the rest, from one byte on
read_marks-byte : (bytes : List ℕ) (i : ℕ) (r : Region) (s : Stage) (l : Line) (p : ℕ) (seen : Region × Option Mark)
    → i < length bytes → seen ≡ marked r p (get_or bytes i 0)
    → read_marks s l (marks_from r p (drop i bytes)) ≡ behind (marks_from seen.0 (p + 1) (drop (i + 1) bytes)) (taken seen.1 s l)
unfolding marks_from
read_marks-byte bytes i r s l p seen lt e =
    rw (add-one i, drop-cons bytes i 0 lt, ← e) (read_marks-put_mark seen.1 s l _)

-- it is that from the next byte on
pub read_marks-next : (bytes : List ℕ) (i : ℕ) (r : Region) (s t : Stage) (l m : Line) (p : ℕ) (seen : Region × Option Mark) (total : Result Line WordFault)
    → i < length bytes → seen ≡ marked r p (get_or bytes i 0) → taken seen.1 s l ≡ Ok (t, m)
    → read_marks s l (marks_from r p (drop i bytes)) ≡ total → read_marks t m (marks_from seen.0 (p + 1) (drop (i + 1) bytes)) ≡ total
read_marks-next bytes i r s t l m p seen total lt e h so_far =
    sym (read_marks-byte bytes i r s l p seen lt e ∙ ap (behind (marks_from seen.0 (p + 1) (drop (i + 1) bytes))) h) ∙ so_far

-- or the byte's fault
pub read_marks-fault : (bytes : List ℕ) (i : ℕ) (r : Region) (s : Stage) (l : Line) (p : ℕ) (seen : Region × Option Mark) (f : WordFault) (total : Result Line WordFault)
    → i < length bytes → seen ≡ marked r p (get_or bytes i 0) → taken seen.1 s l ≡ Err f
    → read_marks s l (marks_from r p (drop i bytes)) ≡ total → total ≡ Err f
read_marks-fault bytes i r s l p seen f total lt e h so_far =
    sym so_far ∙ read_marks-byte bytes i r s l p seen lt e ∙ ap (behind (marks_from seen.0 (p + 1) (drop (i + 1) bytes))) h

-- at the line's end there are the marks of the end alone
pub read_marks-end : (bytes : List ℕ) (i : ℕ) (r : Region) (s : Stage) (l : Line) (p : ℕ) (total : Result Line WordFault)
    → length bytes ≤ i → read_marks s l (marks_from r p (drop i bytes)) ≡ total → total ≡ read_marks s l (end_marks r)
unfolding marks_from
read_marks-end bytes i r s l p total le so_far =
    let one : read_marks s l (marks_from r p (drop i bytes)) ≡ read_marks s l (end_marks r) = rw (drop_of_length-le bytes le) refl in
    sym so_far ∙ one
