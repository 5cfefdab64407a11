-- The text of a program, part by part.
use Rattle.std.proofs.Common.{◌≡◌, ℕ, List, [], ◌∷◌, ◌++◌, map, Option, Some, refl, sym, ap, ◌∙◌, append_assoc, append-nil}
use Rattle.std.specs.Prelude.{codes}
use Rattle.std.specs.List.{flat_map}
use Rattle.std.proofs.lemmas.List.Concat.{flat_map-append}
use Rattle.mill_base.specs.declared.motion.Move.{Move}
use Rattle.mill_base.specs.declared.points.Pt3.{Pt3}
use Rattle.mill_base.specs.declared.unit.Unit.{Unit}
use Rattle.mill_ngc.specs.Writing.{across_line, ended, head_lines, move_line, program_text, up_line}

-- the header
abbrev pub header : List ℕ
header = ended (codes "%") ++ ended (codes "G17 G21 G90")

-- the lines behind those of the moves
abbrev pub back : List ℕ
back = ended (codes "M2") ++ ended (codes "%")

flat_map-map : (unit : Unit) (moves : List Move) → flat_map ended (map (move_line unit) moves) ≡ flat_map (λ m. ended (move_line unit m)) moves
flat_map-map unit [] = refl
flat_map-map unit (m ∷ moves) = ap (λ text. ended (move_line unit m) ++ text) (flat_map-map unit moves)

-- a program's text is what stands before its moves, their lines, and what stands behind them
pub program_text-parts : (unit : Unit) (begin : Option Pt3) (moves : List Move) → program_text unit begin moves ≡ ((header ++ flat_map ended (head_lines unit begin)) ++ flat_map (λ m. ended (move_line unit m)) moves) ++ back
unfolding program_text
program_text-parts unit begin moves =
    let heads : List ℕ = flat_map ended (head_lines unit begin) in
    let lines : List ℕ = flat_map (λ m. ended (move_line unit m)) moves in
    ap (λ (text : List ℕ). header ++ text) (
    flat_map-append ended (head_lines unit begin) (map (move_line unit) moves ++ codes "M2" ∷ codes "%" ∷ [])
    ∙ ap (λ (text : List ℕ). heads ++ text) (flat_map-append ended (map (move_line unit) moves) (codes "M2" ∷ codes "%" ∷ []) ∙ ap (λ (text : List ℕ). text ++ back) (flat_map-map unit moves)))
    ∙ sym (append_assoc (header ++ heads) lines back ∙ append_assoc header heads (lines ++ back))

-- the lines of the way to a first place, where there is one
pub head_text : (unit : Unit) (begin : Option Pt3) (p : Pt3) → begin ≡ Some p → flat_map ended (head_lines unit begin) ≡ ended (up_line unit p) ++ ended (across_line unit p)
head_text unit begin p is = rw is (ap (λ (text : List ℕ). ended (up_line unit p) ++ text) (append-nil (ended (across_line unit p))))

-- they are what is written for it word by word
pub head_written : (before motion z x y : List ℕ) → ((((((before ++ motion) ++ z) ++ 10 ∷ []) ++ motion) ++ x) ++ y) ++ 10 ∷ [] ≡ before ++ (((motion ++ z) ++ 10 ∷ []) ++ (((motion ++ x) ++ y) ++ 10 ∷ []))
head_written before motion z x y = simp append_assoc
