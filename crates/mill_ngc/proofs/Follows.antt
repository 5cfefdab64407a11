-- The moves that a program's text reads as follow on each other.
use Rattle.std.proofs.Common.{◌≡◌, List, [], ◌∷◌, ◌++◌, Bool, true, false, Result, Ok, Err, refl, subst, ◌∙◌, inl, inr}
use Rattle.std.specs.Prelude.{ℕ, ◌+◌, ◌≤ℤ◌, ◌⊎◌, nat_le, nat_lt, not, length, if◌then◌else◌, IfOk}
use Rattle.mill_base.specs.declared.limits.TheConstants.{MAX_MOVES}
use Rattle.mill_base.specs.declared.motion.Kind.{Kind}
use Rattle.mill_base.specs.declared.motion.Kind.TheVariants.{Rapid}
use Rattle.mill_base.specs.declared.motion.Move.{Move}
use Rattle.mill_base.specs.declared.points.Pt3.{Pt3}
use Rattle.mill_base.specs.declared.unit.Unit.{Unit as LengthUnit}
use Rattle.mill_words.specs.Lines.{line_of}
use Rattle.mill_words.specs.Words.{Line, is_blank as is_blank_line}
use Rattle.mill_block.proofs.RiseLemmas.{rises}
use Rattle.mill_block.specs.Drives.{driven_or_fault}
use Rattle.mill_block.specs.Lines.{acted_by, after_line, after_words, has_frame, in_frame, is_percent, line_begun, settled_before, start_at, with_line, with_percent, words_or_fault}
use Rattle.mill_block.specs.MachineLines.{machine_acted}
use Rattle.mill_said.specs.MachineSaid.{told_line}
use Rattle.mill_block.specs.Motion.{acted, began, gone, known_of, made_move, may_come, moved, moved_by, settled, target}
use Rattle.mill_said.specs.Said.{◌>>=◌, has_axis, has_motion, said_by}
use Rattle.mill_said.specs.declared.fault.NgcFault.{NgcFault}
use Rattle.mill_said.specs.declared.fault.NgcFault.TheVariants as fault
use Rattle.mill_said.specs.declared.profile.Mode.{Mode}
use Rattle.mill_said.specs.declared.profile.Mode.TheVariants.{Off, On}
use Rattle.mill_block.specs.declared.progress.Frame.{Frame}
use Rattle.mill_block.specs.declared.progress.Frame.TheVariants.{Unknown, Framed, Plain}
use Rattle.mill_block.specs.declared.progress.Known.{Known}
use Rattle.mill_block.specs.declared.progress.Known.TheVariants.{Nothing, Height, All}
use Rattle.mill_block.specs.declared.progress.Progress.{Progress}
use Rattle.mill_said.specs.declared.rules.Rules.{Rules}
use Rattle.mill_said.specs.declared.rules.Words.{Words}
use Rattle.mill_said.specs.declared.rules.Words.TheVariants.{Strict, Machine}
use Rattle.mill_said.specs.declared.said.Said.{Said}
use Rattle.mill_ngc.specs.Pieces.{FollowOn}
use Rattle.mill_ngc.specs.Programs.{lines_of, moves_from, program_of}
use Rattle.mill_ngc.proofs.Goings.{Goes, all_known, goes_if, goes_made, goes_none, goes_then, goes_unless, goes_with}
use Rattle.mill_ngc.proofs.MachineWays.{goes_machine}
use Rattle.mill_ngc.proofs.Ways.{GoesOn, OnWay, on_way-line, on_way-first}

-- ---- one line

-- the place wasn't known before
higher : {A : Type 0} (k : Known) → (k ≡ All → ⊥) → (k ≡ All) ⊎ A → A
higher k unknown (inl known) = absurd (unknown known)
higher k unknown (inr high) = high

goes_began : (p : Progress) (to : Pt3) → p.here.z ≤ℤ to.z → Goes Height p.here p.clear p.rules (began p to)
goes_began p to high =
    goes_if Height p.here p.clear p.rules (nat_lt MAX_MOVES (p.moves + 2)) (Err (fault.TooManyMoves p.line))
    (Ok (record p { here = to; known = All; positioned = true; moves = p.moves + 2 }, record { kind = Rapid; from = to; to = to } ∷ record { kind = Rapid; from = to; to = to } ∷ [])) tt
    (record { follow = (refl, (refl, tt)); end = refl; known = λ e. absurd cc; none = inl (all_known p.rules.from_anywhere); rises = inr (inl high); clear_is = refl; rules_are = refl })

goes_gone : (k : Known) (p : Progress) (kind : Kind) (to : Pt3) → known_of p ≡ k → (k ≡ All) ⊎ (p.here.z ≤ℤ to.z) → Goes k p.here p.clear p.rules (gone k p kind to)
goes_gone Nothing p kind to known high = record { follow = tt; end = refl; known = λ e. absurd cc; none = inr refl; rises = inr (inl (higher Nothing (λ e. cc) high)); clear_is = refl; rules_are = refl }
goes_gone Height p kind to known high = goes_began p to (higher Height (λ e. cc) high)
goes_gone All p kind to known high = goes_made p kind to known

goes_by : (mode : Mode) (p : Progress) (s : Said) → may_come (known_of p) p s ≡ true → Goes (known_of p) p.here p.clear p.rules (moved_by mode p s)
goes_by Off p s may = tt
goes_by (On kind) p s may =
    goes_then (known_of p) p.here p.clear p.rules (driven_or_fault p.rules.needs_spindle kind p.drive p.line) (λ _. target p s >>= λ to. gone (known_of p) p kind to)
    (λ _. goes_with (known_of p) p.here p.clear p.rules (target p s) (λ to. gone (known_of p) p kind to) (λ to leads. goes_gone (known_of p) p kind to refl (rises p s to may leads)))

goes_moved : (p : Progress) (s : Said) → Goes (known_of p) p.here p.clear p.rules (moved p s)
unfolding moved
goes_moved p s =
    let by : Result (Progress × List Move) NgcFault = moved_by p.mode p s in
    let measured : Result (Progress × List Move) NgcFault = if not p.absolute then Err (fault.NoAbsolute p.line) else by in
    goes_unless (known_of p) p.here p.clear p.rules (may_come (known_of p) p s) (Err (fault.Start p.line)) (if not p.millimetres then Err (fault.NoUnits p.line) else measured) tt
    (λ may. goes_if (known_of p) p.here p.clear p.rules (not p.millimetres) (Err (fault.NoUnits p.line)) measured tt
    (goes_if (known_of p) p.here p.clear p.rules (not p.absolute) (Err (fault.NoAbsolute p.line)) by tt (goes_by p.mode p s may)))

goes_acted : (p : Progress) (s : Said) → Goes (known_of p) p.here p.clear p.rules (acted p s)
unfolding acted
goes_acted p s =
    goes_if (known_of p) p.here p.clear p.rules (has_axis s) (moved (settled p s) s) (if has_motion s.mode then Err (fault.NoAxis p.line) else Ok (settled p s, [])) (goes_moved (settled p s) s)
    (goes_if (known_of p) p.here p.clear p.rules (has_motion s.mode) (Err (fault.NoAxis p.line)) (Ok (settled p s, [])) tt (goes_none (known_of p) p.here p.clear p.rules (settled p s) refl refl refl refl))

goes_words_of : (words : Words) (p : Progress) (l : Line) → Goes (known_of p) p.here p.clear p.rules (acted_by words p l)
goes_words_of Strict p l = goes_then (known_of p) p.here p.clear p.rules (said_by p.line p.positioned l) (acted p) (goes_acted p)
goes_words_of (Machine c) p l = goes_then (known_of p) p.here p.clear p.rules (told_line c (settled_before p) l) (machine_acted c p) (goes_machine c p)

goes_words : (p : Progress) (l : Line) → Goes (known_of p) p.here p.clear p.rules (after_words p l)
unfolding after_words
goes_words p l = goes_words_of p.rules.words (with_line p (is_blank_line l)) l

goes_framed : (frame : Frame) (p : Progress) → GoesOn (known_of p) p.here p.clear p.rules (in_frame frame p) []
goes_framed Unknown p = goes_none (known_of p) p.here p.clear p.rules (in_frame Unknown p) refl refl refl refl
goes_framed Framed p = goes_none (known_of p) p.here p.clear p.rules (in_frame Framed p) refl refl refl refl
goes_framed Plain p = goes_none (known_of p) p.here p.clear p.rules (in_frame Plain p) refl refl refl refl

pub goes_line : (p : Progress) (line : List ℕ) → Goes (known_of p) p.here p.clear p.rules (after_line p line)
unfolding after_line
goes_line p line =
    let begun : Progress = line_begun p in
    let words : Result (Progress × List Move) NgcFault = words_or_fault begun.line (line_of line) >>= after_words begun in
    goes_if (known_of p) p.here p.clear p.rules (nat_lt 256 (length line)) (Err (fault.LongLine begun.line)) (if has_frame begun.frame (is_percent line) then Ok (with_percent begun, []) else words) tt
    (goes_if (known_of p) p.here p.clear p.rules (has_frame begun.frame (is_percent line)) (Ok (with_percent begun, [])) words (goes_framed begun.frame begun)
    (goes_then (known_of p) p.here p.clear p.rules (words_or_fault begun.line (line_of line)) (after_words begun) (goes_words begun)))

-- ---- all lines

ok_if : (b : Bool) (moves : List Move) (r : Result (List Move) NgcFault) (P : List Move → Type 0) → P moves → IfOk r P → IfOk (if b then Ok moves else r) P
ok_if true moves r P h g = h
ok_if false moves r P h g = g

-- where the lines behind go on so from wherever a line leaves the tool, they do from here
next_follows : (start : Pt3) (rules : Rules) (p : Progress) (moves : List Move) (lines : List (List ℕ)) (r : Result (Progress × List Move) NgcFault)
    → ((q : Progress) (ms : List Move) → OnWay start rules q ms → IfOk (moves_from q ms lines) (FollowOn start rules))
    → Goes (known_of p) p.here p.clear p.rules r → OnWay start rules p moves → IfOk (r >>= λ s. moves_from s.0 (moves ++ s.1) lines) (FollowOn start rules)
next_follows start rules p moves lines (Err f) behind goes way = tt
next_follows start rules p moves lines (Ok s) behind goes way = behind s.0 (moves ++ s.1) (on_way-line start rules p s.0 moves s.1 way goes)

lines_follow : (start : Pt3) (rules : Rules) (lines : List (List ℕ)) (p : Progress) (moves : List Move) → OnWay start rules p moves → IfOk (moves_from p moves lines) (FollowOn start rules)
unfolding moves_from
lines_follow start rules [] p moves way = ok_if p.ended moves (Err (fault.NoEnd p.line)) (FollowOn start rules) way.follow tt
lines_follow start rules (line ∷ lines) p moves way =
    ok_if p.ended moves (after_line p line >>= λ s. moves_from s.0 (moves ++ s.1) lines) (FollowOn start rules) way.follow
    (next_follows start rules p moves lines (after_line p line) (λ q ms. lines_follow start rules lines q ms) (goes_line p line) way)

-- moves that a text reads as follow on each other, from the start or from any place
pub text_follows : (start : Pt3) (unit : LengthUnit) (rules : Rules) (text : List ℕ) (moves : List Move) → program_of start unit rules text ≡ Ok moves → FollowOn start rules moves
unfolding program_of
text_follows start unit rules text moves reads =
    subst (λ (r : Result (List Move) NgcFault). IfOk r (FollowOn start rules)) reads (lines_follow start rules (lines_of text) (start_at start unit rules) [] (on_way-first start unit rules))
