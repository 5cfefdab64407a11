-- A text line by line, as a reader of its pieces takes it.
use Rattle.std.proofs.Common.{◌≡◌, ℕ, ◌+◌, ◌<◌, List, [], ◌∷◌, ◌++◌, length, Option, Some, Result, Ok, Err, Bool, true, false, cond, eqb, refl, sym, ap, ◌∙◌, arith, rules, append_assoc}
use Rattle.std.proofs.lemmas.Bool.Decides.{nat_tests}
use Rattle.std.specs.Prelude.{⊤, ◌≢◌, nat_lt, OnOk, IfErr}
use Rattle.mill_base.specs.Ranges.{IsInUnitRange}
use Rattle.mill_base.specs.declared.motion.Move.{Move}
use Rattle.mill_said.specs.declared.fault.NgcFault.{NgcFault}
use Rattle.mill_said.specs.declared.fault.NgcFault.TheVariants as fault
use Rattle.mill_block.specs.declared.progress.Progress.{Progress}
use Rattle.mill_block.specs.Lines.{after_line}
use Rattle.mill_ngc.specs.Programs.{put_first, lines_of}
use Rattle.mill_ngc.specs.Pieces.{Reading, Going, Failed, put_before, after_result, after_whole, after_begun, after_lines, fed, IsFront}
use Rattle.mill_block.specs.Kept.{Keeps}
use Rattle.mill_ngc.specs.Texts.{shown}
use Rattle.mill_ngc.specs.declared.text_reader.TextReader.{TextReader}

-- ---- lines

-- there is a first line
pub record HasFirst (lines : List (List ℕ)) : Type 0 where
  pub first : List ℕ
  pub rest : List (List ℕ)
  pub is : lines ≡ first ∷ rest

first_step : (t : Bool) (b : ℕ) (lines : List (List ℕ)) → HasFirst lines → HasFirst (cond t ([] ∷ lines) (put_first b lines))
first_step true b lines h = record { first = []; rest = lines; is = refl }
first_step false b lines h = record { first = b ∷ h.first; rest = h.rest; is = ap (put_first b) h.is }

-- each text has one
pub has_first : (text : List ℕ) → HasFirst (lines_of text)
has_first [] = record { first = []; rest = []; is = refl }
has_first (b ∷ text) = first_step (eqb b 10) b (lines_of text) (has_first text)

pub put_before-none : (lines : List (List ℕ)) → HasFirst lines → put_before [] lines ≡ lines
put_before-none lines h = rw h.is refl

-- a line with other lines behind it is whole
pub after_lines-next : (s : Reading × List Move) (line : List ℕ) (lines : List (List ℕ)) → HasFirst lines
    → after_lines s (line ∷ lines) ≡ after_lines (after_whole s.0 s.1 line) lines
unfolding after_lines
after_lines-next s line lines h = rw h.is refl

-- ---- a whole line

pub after_whole-going : (p : Progress) (so_far line : List ℕ) (moves : List Move) → p.ended ≡ false → after_whole (Going p so_far) moves line ≡ after_result moves (after_line p line)
after_whole-going p so_far line moves going = rw going refl

pub after_whole-ok : (p q : Progress) (so_far line : List ℕ) (moves : List Move) (made : List Move) → p.ended ≡ false → after_line p line ≡ Ok (q, made)
    → after_whole (Going p so_far) moves line ≡ (Going q [], moves ++ made)
after_whole-ok p q so_far line moves made going h = after_whole-going p so_far line moves going ∙ ap (after_result moves) h

pub after_whole-fault : (p : Progress) (so_far line : List ℕ) (moves : List Move) (f : NgcFault) → p.ended ≡ false → after_line p line ≡ Err f
    → after_whole (Going p so_far) moves line ≡ (Failed f, moves)
after_whole-fault p so_far line moves f going h = after_whole-going p so_far line moves going ∙ ap (after_result moves) h

pub after_whole-ended : (p : Progress) (so_far line : List ℕ) (moves : List Move) → p.ended ≡ true → after_whole (Going p so_far) moves line ≡ (Going p so_far, moves)
after_whole-ended p so_far line moves over = rw over refl

-- a line over 256 bytes is a fault, whole or not
pub too_long : (p : Progress) (line : List ℕ) → 256 < length line → after_line p line ≡ Err (fault.LongLine (p.line + 1))
unfolding after_line
too_long p line long =
    let e : nat_lt 256 (length line) ≡ true = grind (arith, nat_tests) in
    rw e refl

pub after_begun-long : (p : Progress) (so_far line : List ℕ) → p.ended ≡ false → 256 < length line → after_begun (Going p so_far) line ≡ Failed (fault.LongLine (p.line + 1))
after_begun-long p so_far line going long =
    let e : nat_lt 256 (length line) ≡ true = grind (arith, nat_tests) in
    rw (going, e) refl

-- ---- where nothing counts

pub after_lines-failed : (f : NgcFault) (moves : List Move) (lines : List (List ℕ)) → after_lines (Failed f, moves) lines ≡ (Failed f, moves)
unfolding after_lines
after_lines-failed f moves [] = refl
after_lines-failed f moves (line ∷ []) = refl
after_lines-failed f moves (line ∷ next ∷ lines) = after_lines-failed f moves (next ∷ lines)

pub after_lines-ended : (p : Progress) (so_far : List ℕ) (moves : List Move) (lines : List (List ℕ)) → p.ended ≡ true → after_lines (Going p so_far, moves) lines ≡ (Going p so_far, moves)
unfolding after_lines
after_lines-ended p so_far moves [] over = refl
after_lines-ended p so_far moves (line ∷ []) over = rw over refl
after_lines-ended p so_far moves (line ∷ next ∷ lines) over =
    ap (λ (s : Reading × List Move). after_lines s (next ∷ lines)) (after_whole-ended p so_far line moves over) ∙ after_lines-ended p so_far moves (next ∷ lines) over

-- ---- a piece, from its first line on

pub fed-failed : (f : NgcFault) (moves : List Move) (piece : List ℕ) → fed (Failed f, moves) piece ≡ (Failed f, moves)
unfolding fed
fed-failed f moves piece = after_lines-failed f moves (put_before [] (lines_of piece))

pub fed-ended : (p : Progress) (so_far : List ℕ) (moves : List Move) (piece : List ℕ) → p.ended ≡ true → fed (Going p so_far, moves) piece ≡ (Going p so_far, moves)
unfolding fed
fed-ended p so_far moves piece over = after_lines-ended p so_far moves (put_before so_far (lines_of piece)) over

-- a piece with no line end
pub fed-last : (p : Progress) (so_far : List ℕ) (moves : List Move) (piece line : List ℕ) → lines_of piece ≡ line ∷ []
    → fed (Going p so_far, moves) piece ≡ (after_begun (Going p so_far) (so_far ++ line), moves)
unfolding fed after_lines
fed-last p so_far moves piece line e = rw e refl

fed-whole : (p : Progress) (so_far : List ℕ) (moves : List Move) (piece line behind : List ℕ) → lines_of piece ≡ line ∷ lines_of behind
    → fed (Going p so_far, moves) piece ≡ after_lines (after_whole (Going p so_far) moves (so_far ++ line)) (lines_of behind)
unfolding fed
fed-whole p so_far moves piece line behind e =
    let cut : put_before so_far (lines_of piece) ≡ (so_far ++ line) ∷ lines_of behind = rw e refl in
    ap (after_lines (Going p so_far, moves)) cut ∙ after_lines-next (Going p so_far, moves) (so_far ++ line) (lines_of behind) (has_first behind)

-- a line that makes its moves
pub fed-next : (p q : Progress) (so_far now : List ℕ) (moves : List Move) (made : List Move) (piece line behind : List ℕ) (total : Reading × List Move)
    → p.ended ≡ false → lines_of piece ≡ line ∷ lines_of behind → after_line p (so_far ++ line) ≡ Ok (q, made) → now ≡ []
    → fed (Going p so_far, moves) piece ≡ total → fed (Going q now, moves ++ made) behind ≡ total
unfolding fed
fed-next p q so_far now moves made piece line behind total going e h none told =
    let first = fed-whole p so_far moves piece line behind e in
    let there = ap (λ (s : Reading × List Move). after_lines s (lines_of behind)) (after_whole-ok p q so_far (so_far ++ line) moves made going h) in
    let cut : put_before now (lines_of behind) ≡ lines_of behind = rw none (put_before-none (lines_of behind) (has_first behind)) in
    let begun : (Going q now, moves ++ made) ≡ (Going q [], moves ++ made) = rw none refl in
    ap (after_lines (Going q now, moves ++ made)) cut
    ∙ ap (λ (s : Reading × List Move). after_lines s (lines_of behind)) begun
    ∙ sym there ∙ sym first ∙ told

-- a line that is a fault
pub fed-fault : (p : Progress) (so_far : List ℕ) (moves : List Move) (piece line behind : List ℕ) (f : NgcFault) (total : Reading × List Move)
    → p.ended ≡ false → lines_of piece ≡ line ∷ lines_of behind → after_line p (so_far ++ line) ≡ Err f
    → fed (Going p so_far, moves) piece ≡ total → total ≡ (Failed f, moves)
fed-fault p so_far moves piece line behind f total going e h told =
    sym told ∙ fed-whole p so_far moves piece line behind e
    ∙ ap (λ (s : Reading × List Move). after_lines s (lines_of behind)) (after_whole-fault p so_far (so_far ++ line) moves f going h)
    ∙ after_lines-failed f moves (lines_of behind)

-- ---- moves are only added

pub front-same : (moves : List Move) → IsFront moves moves
front-same moves = record { rest = []; is = search rules }

pub front-more : (a b c : List Move) → IsFront a b → IsFront b c → IsFront a c
front-more a b c first next = record { rest = first.rest ++ next.rest; is = next.is ∙ ap (λ ms. ms ++ next.rest) first.is ∙ append_assoc a first.rest next.rest }

pub front-add : (a more : List Move) → IsFront a (a ++ more)
front-add a more = record { rest = more; is = refl }

front-result : (p : Progress) (so_far line : List ℕ) (moves : List Move) (r : Result (Progress × List Move) NgcFault) → p.ended ≡ false → after_line p line ≡ r
    → IsFront moves (after_whole (Going p so_far) moves line).1
front-result p so_far line moves (Ok s) going h = rw (after_whole-ok p s.0 so_far line moves s.1 going h) (front-add moves s.1)
front-result p so_far line moves (Err f) going h = rw (after_whole-fault p so_far line moves f going h) (front-same moves)

front-going : (p : Progress) (so_far line : List ℕ) (moves : List Move) (t : Bool) → p.ended ≡ t → IsFront moves (after_whole (Going p so_far) moves line).1
front-going p so_far line moves true over = rw (after_whole-ended p so_far line moves over) (front-same moves)
front-going p so_far line moves false going = front-result p so_far line moves (after_line p line) going refl

pub front-whole : (r : Reading) (moves : List Move) (line : List ℕ) → IsFront moves (after_whole r moves line).1
front-whole (Going p so_far) moves line = front-going p so_far line moves p.ended refl
front-whole (Failed f) moves line = front-same moves

front-lines : (s : Reading × List Move) (lines : List (List ℕ)) → IsFront s.1 (after_lines s lines).1
unfolding after_lines
front-lines s [] = front-same s.1
front-lines s (line ∷ []) = front-same s.1
front-lines s (line ∷ next ∷ lines) =
    let there = after_whole s.0 s.1 line in
    front-more s.1 there.1 (after_lines there (next ∷ lines)).1 (front-whole s.0 s.1 line) (front-lines there (next ∷ lines))

pub front-fed : (s : Reading × List Move) (piece : List ℕ) (total : Reading × List Move) → fed s piece ≡ total → IsFront s.1 total.1
unfolding fed
front-fed s piece total e = rw (← e) (front-lines s (put_before _ (lines_of piece)))

-- ---- answers

pub fault_told : (result : Result ⊤ NgcFault) (f : NgcFault) (total : Reading × List Move) (moves : List Move) → result ≡ Err f
    → (f ≢ fault.WantOfMemory → total ≡ (Failed f, moves)) → IfErr result (λ f. f ≢ fault.WantOfMemory → total ≡ (Failed f, moves))
fault_told result f total moves is told = rw is told

pub begun_ok : (result : Result ⊤ NgcFault) (begun now : Reading) (total : Reading × List Move) (moves : List Move) → total ≡ (begun, moves) → OnOk result (begun ≡ now)
    → OnOk result (total ≡ (now, moves))
begun_ok (Ok u) begun now total moves told is = told ∙ ap (λ (r : Reading). (r, moves)) is
begun_ok (Err f) begun now total moves told is = tt

pub begun_fault : (result : Result ⊤ NgcFault) (begun : Reading) (total : Reading × List Move) (moves : List Move) → total ≡ (begun, moves) → IfErr result (λ f. begun ≡ Failed f)
    → IfErr result (λ f. f ≢ fault.WantOfMemory → total ≡ (Failed f, moves))
begun_fault (Ok u) begun total moves told is = tt
begun_fault (Err f) begun total moves told is = λ _. told ∙ ap (λ (r : Reading). (r, moves)) is

-- a line leaves the tool in range
pub keeps_range : (p q : Progress) (made : List Move) → Keeps p made q → IsInUnitRange q.unit q.here
keeps_range p q made keeps = rw keeps.same_unit keeps.here

-- a reader with a fault stays as it is
pub fed-kept : (kept : Option NgcFault) (f : NgcFault) (t : TextReader) (r : Reading) (moves : List Move) (piece : List ℕ) → kept ≡ Some f → shown kept t ≡ r → (r, moves) ≡ fed (r, moves) piece
fed-kept kept f t r moves piece is view =
    let failed : r ≡ Failed f = sym view ∙ ap (λ (k : Option NgcFault). shown k t) is in
    rw failed (sym (fed-failed f moves piece))
