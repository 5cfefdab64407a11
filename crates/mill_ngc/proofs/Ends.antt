-- Lines with a line feed behind each.
use Rattle.std.proofs.Common.{◌≡◌, ℕ, Bool, true, false, cond, eqb, List, [], ◌∷◌, ◌++◌, refl, sym, ap, ◌∙◌, append_assoc, append-nil}
use Rattle.std.proofs.lemmas.Bool.{eqb-true}
use Rattle.std.specs.Prelude.{⊤, Result, Ok, Err}
use Rattle.mill_base.specs.declared.motion.Move.{Move}
use Rattle.mill_said.specs.declared.fault.NgcFault.{NgcFault}
use Rattle.mill_ngc.specs.Programs.{put_first, lines_of}
use Rattle.mill_ngc.specs.Pieces.{Reading, after_whole, after_lines, fed, at_end, line_so_far, told}
use Rattle.mill_ngc.specs.Lines.{with_ends}

pub with_ends-append : (xs ys : List (List ℕ)) → with_ends (xs ++ ys) ≡ with_ends xs ++ with_ends ys
with_ends-append [] ys = refl
with_ends-append (x ∷ xs) ys = ap (λ rest. x ++ 10 ∷ rest) (with_ends-append xs ys) ∙ sym (append_assoc x (10 ∷ with_ends xs) (with_ends ys))

pub with_ends-push : (xs : List (List ℕ)) (line : List ℕ) → with_ends (xs ++ line ∷ []) ≡ with_ends xs ++ (line ++ 10 ∷ [])
with_ends-push xs line = with_ends-append xs (line ∷ [])

-- each text has a first line
record HasFirst (lines : List (List ℕ)) : Type 0 where
  first : List ℕ
  rest : List (List ℕ)
  is : lines ≡ first ∷ rest

first_step : (t : Bool) (b : ℕ) (lines : List (List ℕ)) → HasFirst lines → HasFirst (cond t ([] ∷ lines) (put_first b lines))
first_step true b lines h = record { first = []; rest = lines; is = refl }
first_step false b lines h = record { first = b ∷ h.first; rest = h.rest; is = ap (put_first b) h.is }

has_first : (text : List ℕ) → HasFirst (lines_of text)
has_first [] = record { first = []; rest = []; is = refl }
has_first (b ∷ text) = first_step (eqb b 10) b (lines_of text) (has_first text)

with_ends-put_first : (b : ℕ) (lines : List (List ℕ)) → HasFirst lines → with_ends (put_first b lines) ≡ b ∷ with_ends lines
with_ends-put_first b lines h = rw h.is refl

whole_step : (t : Bool) (b : ℕ) (text : List ℕ) (lines : List (List ℕ)) → eqb b 10 ≡ t → HasFirst lines → with_ends lines ≡ text ++ 10 ∷ []
    → with_ends (cond t ([] ∷ lines) (put_first b lines)) ≡ (b ∷ text) ++ 10 ∷ []
whole_step true b text lines is h e = ap (λ rest. 10 ∷ rest) e ∙ ap (λ c. c ∷ (text ++ 10 ∷ [])) (sym (eqb-true b 10 is))
whole_step false b text lines is h e = with_ends-put_first b lines h ∙ ap (λ rest. b ∷ rest) e

-- all lines of a text are the text, with a line feed at its end
pub with_ends-lines_of : (text : List ℕ) → with_ends (lines_of text) ≡ text ++ 10 ∷ []
with_ends-lines_of [] = refl
with_ends-lines_of (b ∷ text) = whole_step (eqb b 10) b text (lines_of text) refl (has_first text) (with_ends-lines_of text)

-- a line feed at the end of a text makes the moves that the text's end makes
pub moves-fed-feed : (s : Reading × List Move) → (fed s (10 ∷ [])).1 ≡ (at_end s).1
unfolding fed after_lines
moves-fed-feed s = ap (λ line. (after_whole s.0 s.1 line).1) (append-nil (line_so_far s.0))

-- the moves of a text that is told as a program
pub moves-told : (moves all : List Move) (r : Result ⊤ NgcFault) → told moves r ≡ Ok all → moves ≡ all
moves-told moves all (Ok u) e = cc
moves-told moves all (Err f) e = cc
