-- The moves of a program for a machine are the ways of its own numbers, rounded, or exactly these where nothing is rounded, line by line.
use Rattle.std.proofs.Common.{◌≡◌, ◌^◌, ℕ, Bool, true, false, List, [], ◌∷◌, ◌++◌, Result, Ok, Err, refl, ap, subst, ◌∙◌}
use Rattle.std.specs.Prelude.{⊤, if◌then◌else◌}
use Rattle.mill_base.specs.Rounded.{AreRounded}
use Rattle.mill_base.specs.declared.motion.Move.{Move}
use Rattle.mill_base.specs.declared.points.Pt3.{Pt3}
use Rattle.mill_block.proofs.TextHoles.{near-append}
use Rattle.mill_block.proofs.TextKept.{start_exact, start_fits, text_line_is}
use Rattle.mill_block.specs.Lines.{after_line, start_at}
use Rattle.mill_block.specs.Motion.{known_of}
use Rattle.mill_said.specs.Said.{◌>>=◌}
use Rattle.mill_block.specs.TextPaths.{FitsText, text_line}
use Rattle.mill_block.specs.TextPlaces.{exact_here}
use Rattle.mill_said.specs.declared.fault.NgcFault.{NgcFault}
use Rattle.mill_said.specs.declared.fault.NgcFault.TheVariants as fault
use Rattle.mill_block.specs.declared.progress.Progress.{Progress}
use Rattle.mill_said.specs.declared.rules.Control.{Control}
use Rattle.mill_said.specs.declared.rules.Rules.{Rules}
use Rattle.mill_said.specs.declared.rules.Words.TheVariants.{Machine}
use Rattle.mill_ngc.specs.Programs.{lines_of, moves_from, program_of}
use Rattle.mill_ngc.specs.TextPaths.{ProgramIsRounded, behind_line, in_parts, ways_from, ways_of}
use Rattle.mill_ngc.proofs.Follows.{goes_line}
use Rattle.mill_ngc.proofs.Goings.{Goes}

-- where the moves that are told are those of the program
Rounds : Bool → List Move → Result (List Move) NgcFault → Type 0
Rounds rounds ways (Ok moves) = AreRounded rounds (10 ^ 18) ways moves
Rounds rounds ways (Err f) = ⊤

rounds-if : (rounds b : Bool) (v w : List Move) (x y : Result (List Move) NgcFault) → Rounds rounds v x → Rounds rounds w y → Rounds rounds (if b then v else w) (if b then x else y)
rounds-if rounds true v w x y h g = h
rounds-if rounds false v w x y h g = g

rounds-behind : (c : Control) (p : Progress) (r : Result (Progress × List Move) NgcFault) (next : Progress × List Move → List Move) (ways : List Move) (more : Progress × List Move → Result (List Move) NgcFault)
    → ((s : Progress × List Move) → r ≡ Ok s → Rounds c.rounds (next s) (more s)) → Rounds c.rounds (behind_line r next ways) (r >>= more)
unfolding Rounds
rounds-behind c p (Ok s) next ways more each = each s refl
rounds-behind c p (Err f) next ways more each = tt

-- a line leaves what is asked of the program
same-words : (p : Progress) (line : List ℕ) (s : Progress × List Move) → after_line p line ≡ Ok s → s.0.rules.words ≡ p.rules.words
same-words p line s is =
    let goes : Goes (known_of p) p.here p.clear p.rules (Ok s) = subst (λ (r : Result (Progress × List Move) NgcFault). Goes (known_of p) p.here p.clear p.rules r) is (goes_line p line) in
    ap (λ (r : Rules). r.words) goes.rules_are

rounds-end : (rounds : Bool) (p : Progress) (ways moves : List Move) → AreRounded rounds (10 ^ 18) ways moves → Rounds rounds ways (if p.ended then Ok moves else Err (fault.NoEnd p.line))
unfolding Rounds
rounds-end rounds p ways moves rounded = by p.ended
  where
    by : (b : Bool) → Rounds rounds ways (if b then Ok moves else Err (fault.NoEnd p.line))
    by true = rounded
    by false = tt

rounds-from : (c : Control) (p : Progress) (at : Pt3) (ways moves : List Move) (lines : List (List ℕ)) → p.rules.words ≡ Machine c → FitsText c p → at ≡ exact_here p → AreRounded c.rounds (10 ^ 18) ways moves
    → Rounds c.rounds (ways_from c p at ways lines) (moves_from p moves lines)
unfolding ways_from moves_from Rounds
rounds-from c p at ways moves [] words fits here rounded = rounds-end c.rounds p ways moves rounded
rounds-from c p at ways moves (line ∷ lines) words fits here rounded =
    rounds-if c.rounds p.ended ways (behind_line (after_line p line) (λ s. ways_from c s.0 (text_line c p at line).0 (ways ++ (text_line c p at line).1) lines) ways) (Ok moves)
    (after_line p line >>= λ s. moves_from s.0 (moves ++ s.1) lines) rounded
    (rounds-behind c p (after_line p line) (λ s. ways_from c s.0 (text_line c p at line).0 (ways ++ (text_line c p at line).1) lines) ways (λ s. moves_from s.0 (moves ++ s.1) lines)
    (λ s is. let there = text_line_is c p at line s words fits here is in
    rounds-from c s.0 (text_line c p at line).0 (ways ++ (text_line c p at line).1) (moves ++ s.1) lines (same-words p line s is ∙ words) there.1 there.0.here
    (near-append c.rounds (10 ^ 18) ways moves (text_line c p at line).1 s.1 rounded there.0.moves)))

pub program_is_rounded : ProgramIsRounded
unfolding ways_of program_of Rounds
program_is_rounded c start unit rules text moves words fits is =
    subst (λ (r : Result (List Move) NgcFault). Rounds c.rounds (ways_of c start unit rules text) r) is
    (rounds-from c (start_at start unit rules) (in_parts start) [] [] (lines_of text) words (start_fits c start unit rules fits.z_ok) (start_exact start unit rules) tt)
