-- A text in two pieces, and a whole text.
use Rattle.std.proofs.Common.{◌≡◌, ℕ, ◌+◌, ◌<◌, List, [], ◌∷◌, ◌++◌, length, Result, Ok, Err, Bool, true, false, cond, eqb, refl, sym, ap, ◌∙◌, arith, append_assoc, length-append}
use Rattle.std.proofs.lemmas.Bool.Decides.{nat_tests}
use Rattle.std.specs.Prelude.{nat_lt}
use Rattle.mill_base.specs.declared.motion.Move.{Move}
use Rattle.mill_said.specs.declared.fault.NgcFault.{NgcFault}
use Rattle.mill_said.specs.declared.fault.NgcFault.TheVariants as fault
use Rattle.mill_block.specs.declared.progress.Progress.{Progress}
use Rattle.mill_block.specs.Lines.{after_line, start_at}
use Rattle.mill_ngc.specs.Programs.{put_first, lines_of, moves_from, program_of}
use Rattle.mill_ngc.specs.Pieces.{Reading, Going, Failed, reading_at, line_so_far, put_before, after_whole, after_begun, after_lines, fed, at_end, last_answer, told, PiecesJoin, ReadsProgram}
use Rattle.mill_ngc.proofs.ProgramLemmas.{behind as moves_behind, moves_from-line, moves_from-ended}
use Rattle.mill_ngc.proofs.PieceLemmas.{HasFirst, has_first, put_before-none, after_lines-next, after_whole-ended, after_whole-ok, after_whole-fault, too_long, after_begun-long, after_lines-failed, after_lines-ended}

-- ---- two pieces

-- the last of the lines goes on with the first of the others
abbrev joined : List (List ℕ) → List (List ℕ) → List (List ℕ)
joined [] others = others
joined (line ∷ []) others = put_before line others
joined (line ∷ next ∷ lines) others = line ∷ joined (next ∷ lines) others

joined-put_first : (b : ℕ) (lines others : List (List ℕ)) → put_first b (joined lines others) ≡ joined (put_first b lines) others
joined-put_first b [] [] = refl
joined-put_first b [] (m ∷ others) = refl
joined-put_first b (line ∷ []) [] = refl
joined-put_first b (line ∷ []) (m ∷ others) = refl
joined-put_first b (line ∷ next ∷ lines) others = refl

joined-first : (line : List ℕ) (lines others : List (List ℕ)) → HasFirst lines → line ∷ joined lines others ≡ joined (line ∷ lines) others
joined-first line lines others h = rw h.is refl

joined-put_before : (so_far : List ℕ) (lines others : List (List ℕ)) → put_before so_far (joined lines others) ≡ joined (put_before so_far lines) others
joined-put_before so_far [] others = refl
joined-put_before so_far (line ∷ []) [] = refl
joined-put_before so_far (line ∷ []) (m ∷ others) = ap (λ l. l ∷ others) (sym (append_assoc so_far line m))
joined-put_before so_far (line ∷ next ∷ lines) others = refl

has_first-before : (line : List ℕ) (lines : List (List ℕ)) → HasFirst (put_before line lines)
has_first-before line [] = record { first = line; rest = []; is = refl }
has_first-before line (m ∷ lines) = record { first = line ++ m; rest = lines; is = refl }

has_first-joined : (line : List ℕ) (lines others : List (List ℕ)) → HasFirst (joined (line ∷ lines) others)
has_first-joined line [] others = has_first-before line others
has_first-joined line (next ∷ lines) others = record { first = line; rest = joined (next ∷ lines) others; is = refl }

lines_step : (t : Bool) (b : ℕ) (both lines others : List (List ℕ)) → HasFirst lines → both ≡ joined lines others
    → cond t ([] ∷ both) (put_first b both) ≡ joined (cond t ([] ∷ lines) (put_first b lines)) others
lines_step true b both lines others h e = ap (λ ls. [] ∷ ls) e ∙ joined-first [] lines others h
lines_step false b both lines others h e = ap (put_first b) e ∙ joined-put_first b lines others

-- the lines of a text in two pieces
lines_of-joined : (text more : List ℕ) → lines_of (text ++ more) ≡ joined (lines_of text) (lines_of more)
lines_of-joined [] more = sym (put_before-none (lines_of more) (has_first more))
lines_of-joined (b ∷ text) more = lines_step (eqb b 10) b (lines_of (text ++ more)) (lines_of text) (lines_of more) (has_first text) (lines_of-joined text more)

-- what these lines do behind a state
abbrev goes_on : Reading × List Move → List (List ℕ) → Reading × List Move
goes_on s lines = after_lines s (put_before (line_so_far s.0) lines)

-- the line so far is told by the first line
so_far_told : (p : Progress) (a b line : List ℕ) (lines : List (List ℕ)) (moves : List Move) → p.ended ≡ false
    → after_lines (Going p a, moves) (line ∷ lines) ≡ after_lines (Going p b, moves) (line ∷ lines)
unfolding after_lines
so_far_told p a b line [] moves going = rw going refl
so_far_told p a b line (next ∷ lines) moves going = rw going refl

long_first : (p : Progress) (so_far line : List ℕ) (lines : List (List ℕ)) (moves : List Move) → p.ended ≡ false → 256 < length line
    → after_lines (Going p so_far, moves) (line ∷ lines) ≡ (Failed (fault.LongLine (p.line + 1)), moves)
unfolding after_lines
long_first p so_far line [] moves going long = ap (λ (r : Reading). (r, moves)) (after_begun-long p so_far line going long)
long_first p so_far line (next ∷ lines) moves going long =
    ap (λ (s : Reading × List Move). after_lines s (next ∷ lines)) (after_whole-fault p so_far line moves (fault.LongLine (p.line + 1)) going (too_long p line long))
    ∙ after_lines-failed (fault.LongLine (p.line + 1)) moves (next ∷ lines)

begun_short : (p : Progress) (so_far line m : List ℕ) (lines : List (List ℕ)) (moves : List Move) (t : Bool) → p.ended ≡ false → nat_lt 256 (length line) ≡ t
    → after_lines (Going p so_far, moves) ((line ++ m) ∷ lines) ≡ goes_on (after_begun (Going p so_far) line, moves) (m ∷ lines)
begun_short p so_far line m lines moves true going e =
    let long : 256 < length line = grind (arith, nat_tests) in
    let longer : 256 < length (line ++ m) = omega (arith, long, length-append line m) in
    let failed = after_begun-long p so_far line going long in
    long_first p so_far (line ++ m) lines moves going longer
    ∙ sym (after_lines-failed (fault.LongLine (p.line + 1)) moves (put_before [] (m ∷ lines)))
    ∙ ap (λ (r : Reading). goes_on (r, moves) (m ∷ lines)) (sym failed)
begun_short p so_far line m lines moves false going e =
    let begun : after_begun (Going p so_far) line ≡ Going p line = rw (going, e) refl in
    so_far_told p so_far line (line ++ m) lines moves going ∙ ap (λ (r : Reading). goes_on (r, moves) (m ∷ lines)) (sym begun)

begun_going : (p : Progress) (so_far line m : List ℕ) (lines : List (List ℕ)) (moves : List Move) (t : Bool) → p.ended ≡ t
    → after_lines (Going p so_far, moves) ((line ++ m) ∷ lines) ≡ goes_on (after_begun (Going p so_far) line, moves) (m ∷ lines)
begun_going p so_far line m lines moves true over =
    let begun : after_begun (Going p so_far) line ≡ Going p so_far = rw over refl in
    after_lines-ended p so_far moves ((line ++ m) ∷ lines) over
    ∙ sym (after_lines-ended p so_far moves (put_before so_far (m ∷ lines)) over)
    ∙ ap (λ (r : Reading). goes_on (r, moves) (m ∷ lines)) (sym begun)
begun_going p so_far line m lines moves false going = begun_short p so_far line m lines moves (nat_lt 256 (length line)) going refl

-- a line that isn't whole yet goes on with what follows
begun_first : (r : Reading) (moves : List Move) (line m : List ℕ) (lines : List (List ℕ)) → after_lines (r, moves) ((line ++ m) ∷ lines) ≡ goes_on (after_begun r line, moves) (m ∷ lines)
begun_first (Going p so_far) moves line m lines = begun_going p so_far line m lines moves p.ended refl
begun_first (Failed f) moves line m lines = after_lines-failed f moves ((line ++ m) ∷ lines) ∙ sym (after_lines-failed f moves (put_before [] (m ∷ lines)))

begun_joined : (s : Reading × List Move) (line : List ℕ) (others : List (List ℕ)) → HasFirst others
    → after_lines s (put_before line others) ≡ goes_on (after_begun s.0 line, s.1) others
begun_joined s line others h = rw h.is (begun_first s.0 s.1 line h.first h.rest)

after_joined : (s : Reading × List Move) (line : List ℕ) (lines others : List (List ℕ)) → HasFirst others
    → after_lines s (joined (line ∷ lines) others) ≡ goes_on (after_lines s (line ∷ lines)) others
unfolding after_lines
after_joined s line [] others h = begun_joined s line others h
after_joined s line (next ∷ lines) others h =
    after_lines-next s line (joined (next ∷ lines) others) (has_first-joined next lines others)
    ∙ after_joined (after_whole s.0 s.1 line) next lines others h

after_some : (s : Reading × List Move) (lines others : List (List ℕ)) → HasFirst lines → HasFirst others
    → after_lines s (joined lines others) ≡ goes_on (after_lines s lines) others
after_some s lines others some h = rw some.is (after_joined s some.first some.rest others h)

pub pieces_join : PiecesJoin
unfolding fed
pieces_join s text more =
    let so_far = line_so_far s.0 in
    let lines = put_before so_far (lines_of text) in
    let cut : put_before so_far (lines_of (text ++ more)) ≡ joined lines (lines_of more) =
    ap (put_before so_far) (lines_of-joined text more) ∙ joined-put_before so_far (lines_of text) (lines_of more) in
    sym (ap (after_lines s) cut ∙ after_some s lines (lines_of more) (has_first-before so_far (lines_of text)) (has_first more))

-- ---- a whole text

abbrev pub ending : Reading × List Move → Result (List Move) NgcFault
ending s = told (at_end s).1 (last_answer (at_end s).0)

ending-ended : (p : Progress) (so_far : List ℕ) (moves : List Move) → p.ended ≡ true → ending (Going p so_far, moves) ≡ Ok moves
ending-ended p so_far moves over = ap (λ (s : Reading × List Move). told s.1 (last_answer s.0)) (after_whole-ended p so_far so_far moves over) ∙ rw over refl

told_by : (t : Bool) (moves : List Move) (f : NgcFault) → told moves (cond t (Ok tt) (Err f)) ≡ cond t (Ok moves) (Err f)
told_by true moves f = refl
told_by false moves f = refl

last_result : (p : Progress) (line : List ℕ) (moves : List Move) (r : Result (Progress × List Move) NgcFault) → p.ended ≡ false → after_line p line ≡ r
    → ending (Going p line, moves) ≡ moves_from p moves (line ∷ [])
unfolding moves_from
last_result p line moves (Ok s) going e =
    ap (λ (s : Reading × List Move). told s.1 (last_answer s.0)) (after_whole-ok p s.0 line line moves s.1 going e)
    ∙ told_by s.0.ended (moves ++ s.1) (fault.NoEnd s.0.line)
    ∙ sym (moves_from-line p moves line [] going ∙ ap (moves_behind moves []) e)
last_result p line moves (Err f) going e =
    ap (λ (s : Reading × List Move). told s.1 (last_answer s.0)) (after_whole-fault p line line moves f going e)
    ∙ sym (moves_from-line p moves line [] going ∙ ap (moves_behind moves []) e)

last_line : (p : Progress) (line : List ℕ) (moves : List Move) (t : Bool) → p.ended ≡ false → nat_lt 256 (length line) ≡ t
    → ending (after_begun (Going p []) line, moves) ≡ moves_from p moves (line ∷ [])
last_line p line moves true going e =
    let long : 256 < length line = grind (arith, nat_tests) in
    let begun = after_begun-long p [] line going long in
    ap (λ (r : Reading). ending (r, moves)) begun
    ∙ sym (moves_from-line p moves line [] going ∙ ap (moves_behind moves []) (too_long p line long))
last_line p line moves false going e =
    let begun : after_begun (Going p []) line ≡ Going p line = rw (going, e) refl in
    ap (λ (r : Reading). ending (r, moves)) begun ∙ last_result p line moves (after_line p line) going refl

last_going : (p : Progress) (line : List ℕ) (moves : List Move) (t : Bool) → p.ended ≡ t → ending (after_begun (Going p []) line, moves) ≡ moves_from p moves (line ∷ [])
last_going p line moves true over =
    let begun : after_begun (Going p []) line ≡ Going p [] = rw over refl in
    ap (λ (r : Reading). ending (r, moves)) begun ∙ ending-ended p [] moves over ∙ sym (moves_from-ended p moves (line ∷ []) over)
last_going p line moves false going = last_line p line moves (nat_lt 256 (length line)) going refl

-- the lines behind a first one mean what they are read as, behind whatever state
abbrev Means : List (List ℕ) → Type 0
Means lines = (p : Progress) (moves : List Move) → ending (after_lines (Going p [], moves) lines) ≡ moves_from p moves lines

next_result : (p : Progress) (line : List ℕ) (lines : List (List ℕ)) (moves : List Move) (r : Result (Progress × List Move) NgcFault) → Means lines → p.ended ≡ false → after_line p line ≡ r
    → ending (after_lines (after_whole (Going p []) moves line) lines) ≡ moves_from p moves (line ∷ lines)
next_result p line lines moves (Ok s) means going e =
    ap (λ (s : Reading × List Move). ending (after_lines s lines)) (after_whole-ok p s.0 [] line moves s.1 going e)
    ∙ means s.0 (moves ++ s.1)
    ∙ sym (moves_from-line p moves line lines going ∙ ap (moves_behind moves lines) e)
next_result p line lines moves (Err f) means going e =
    ap (λ (s : Reading × List Move). ending (after_lines s lines)) (after_whole-fault p [] line moves f going e)
    ∙ ap ending (after_lines-failed f moves lines)
    ∙ sym (moves_from-line p moves line lines going ∙ ap (moves_behind moves lines) e)

next_going : (p : Progress) (line : List ℕ) (lines : List (List ℕ)) (moves : List Move) (t : Bool) → Means lines → p.ended ≡ t
    → ending (after_lines (after_whole (Going p []) moves line) lines) ≡ moves_from p moves (line ∷ lines)
next_going p line lines moves true means over =
    ap (λ (s : Reading × List Move). ending (after_lines s lines)) (after_whole-ended p [] line moves over)
    ∙ ap ending (after_lines-ended p [] moves lines over)
    ∙ ending-ended p [] moves over
    ∙ sym (moves_from-ended p moves (line ∷ lines) over)
next_going p line lines moves false means going = next_result p line lines moves (after_line p line) means going refl

means_lines : (line : List ℕ) (lines : List (List ℕ)) → Means (line ∷ lines)
unfolding after_lines
means_lines line [] p moves = last_going p line moves p.ended refl
means_lines line (next ∷ lines) p moves = next_going p line (next ∷ lines) moves p.ended (means_lines next lines) refl

means_some : (lines : List (List ℕ)) → HasFirst lines → Means lines
means_some lines some = rw some.is (means_lines some.first some.rest)

pub pieces_read_program : ReadsProgram
unfolding fed program_of
pieces_read_program start unit rules text =
    ap (λ (lines : List (List ℕ)). ending (after_lines (reading_at start unit rules, []) lines)) (put_before-none (lines_of text) (has_first text))
    ∙ means_some (lines_of text) (has_first text) (start_at start unit rules) []
