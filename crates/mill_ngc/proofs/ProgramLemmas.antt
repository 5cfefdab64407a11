-- A program line by line, as the reader's loop takes it.
use Rattle.std.proofs.Common.{◌≡◌, ℕ, List, [], ◌∷◌, ◌++◌, Result, Ok, true, false, refl, ◌∙◌, arith, length-append, inl, inr}
use Rattle.std.proofs.lemmas.List.Elements.{Contains-append_cases}
use Rattle.std.specs.Prelude.{Contains, ◌⊎◌}
use Rattle.mill_base.specs.Ranges.{IsInUnitRange, MoveInUnitRange, MovesInUnitRange}
use Rattle.mill_base.specs.declared.points.Pt3.{Pt3}
use Rattle.mill_base.specs.declared.motion.Move.{Move}
use Rattle.mill_base.specs.declared.unit.Unit.{Unit}
use Rattle.mill_said.specs.declared.fault.NgcFault.{NgcFault}
use Rattle.mill_block.specs.declared.progress.Progress.{Progress}
use Rattle.mill_said.specs.Said.{◌>>=◌}
use Rattle.mill_block.specs.Lines.{line_begun, after_line, start_at}
use Rattle.mill_ngc.specs.Programs.{moves_from}
use Rattle.mill_block.specs.Kept.{Keeps}
use Rattle.mill_ngc.specs.Pieces.{SoFar, AreSound}
use Rattle.mill_ngc.proofs.Ways.{OnWay, on_way-line, same_height}
use Rattle.mill_said.specs.declared.rules.Rules.{Rules}

-- ---- the meaning of the rest

abbrev pub behind : List Move → List (List ℕ) → Result (Progress × List Move) NgcFault → Result (List Move) NgcFault
behind moves lines so_far = so_far >>= λ s. moves_from s.0 (moves ++ s.1) lines

pub moves_from-line : (p : Progress) (moves : List Move) (line : List ℕ) (lines : List (List ℕ)) → p.ended ≡ false
    → moves_from p moves (line ∷ lines) ≡ behind moves lines (after_line p line)
unfolding moves_from
moves_from-line p moves line lines going = rw going refl

-- where the program has ended, it is the moves so far
pub moves_from-ended : (p : Progress) (moves : List Move) (lines : List (List ℕ)) → p.ended ≡ true → moves_from p moves lines ≡ Ok moves
unfolding moves_from
moves_from-ended p moves [] over = rw over refl
moves_from-ended p moves (line ∷ lines) over = rw over refl

-- ---- the moves so far

MovesInUnitRange-append : (unit : Unit) (moves more : List Move) → MovesInUnitRange unit moves → MovesInUnitRange unit more → MovesInUnitRange unit (moves ++ more)
MovesInUnitRange-append unit moves more ok next m member = which (Contains-append_cases moves more m member)
  where
    which : Contains moves m ⊎ Contains more m → MoveInUnitRange unit m
    which (inl there) = ok m there
    which (inr there) = next m there

-- it holds before the first line
pub so_far-first : (start : Pt3) (unit : Unit) (rules : Rules) → IsInUnitRange unit start → SoFar start unit rules (start_at start unit rules) []
so_far-first start unit rules here = record {
  rules_are = refl;
  unit_is = refl;
  clear_is = refl;
  here = here;
  in_range = λ m member. absurd (omega (arith, member.1));
  follow = record { from = start; over = same_height start.z; at_start = λ _. refl; follow = tt };
  end = λ _. refl;
  none = inr refl;
  high = inr (same_height start.z);
  count = refl;
  few = omega arith;
}

-- it holds behind the next line too
pub so_far-line : (start : Pt3) (unit : Unit) (rules : Rules) (p q : Progress) (moves made : List Move) → SoFar start unit rules p moves → Keeps p made q
    → SoFar start unit rules q (moves ++ made)
so_far-line start unit rules p q moves made s keeps =
    let so_far : OnWay start rules p moves = record { rules_are = s.rules_are; clear_is = s.clear_is; follow = s.follow; end = s.end; none = s.none; high = s.high } in
    let way : OnWay start rules q (moves ++ made) =
    on_way-line start rules p q moves made so_far (record { follow = keeps.follow; end = keeps.end; known = keeps.known; none = keeps.none; rises = keeps.rises; clear_is = keeps.same_clear; rules_are = keeps.same_rules }) in
    record {
      rules_are = way.rules_are;
      unit_is = keeps.same_unit ∙ s.unit_is;
      clear_is = way.clear_is;
      here = rw s.unit_is at keeps.here;
      in_range = MovesInUnitRange-append unit moves made s.in_range (rw s.unit_is at keeps.in_range);
      follow = way.follow;
      end = way.end;
      none = way.none;
      high = way.high;
      count = omega (arith, length-append moves made, s.count, keeps.count);
      few = keeps.few s.few;
    }

-- a line begins with what holds before it
pub so_far-begun : (start : Pt3) (unit : Unit) (rules : Rules) (p : Progress) (moves : List Move) → SoFar start unit rules p moves → SoFar start unit rules (line_begun p) moves
so_far-begun start unit rules p moves s =
    record { rules_are = s.rules_are; unit_is = s.unit_is; clear_is = s.clear_is; here = s.here; in_range = s.in_range; follow = s.follow; end = s.end; none = s.none; high = s.high; count = s.count; few = s.few }

-- as many moves as the lines have made are few enough
pub are_sound : (start : Pt3) (unit : Unit) (rules : Rules) (p : Progress) (moves : List Move) → SoFar start unit rules p moves → AreSound start unit rules moves
are_sound start unit rules p moves s = record { in_range = s.in_range; follow = s.follow; few = omega (arith, s.count, s.few) }
