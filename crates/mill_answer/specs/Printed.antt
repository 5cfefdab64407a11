-- What lines of several commands say.
use Rattle.std.specs.Prelude.{Bool, ℕ, ℤ, pos, codes, decimal, List, [], ◌∷◌, ◌&&◌, if◌then◌else◌}
use Rattle.std.specs.Ordering.{int_eq}
use Rattle.mill_base.specs.declared.unit.Unit.{Unit}
use Rattle.mill_decimal.specs.Decimals.{canonical}
use Rattle.mill_answer.specs.Lines.{line}

-- the words for a column of the stock that is left with this top, a length in this unit
abbrev pub column_words : Unit → ℕ → ℕ → ℤ → List (List ℕ)
column_words unit row column top = codes "row" ∷ decimal row ∷ codes "column" ∷ decimal column ∷ codes "top" ∷ canonical unit top ∷ []

-- neither an overcut nor a slack
abbrev pub is_exact : ℤ → ℤ → Bool
is_exact overcut slack = int_eq overcut (pos 0) && int_eq slack (pos 0)

-- the words for the margins with which a program is accepted, an overcut and a slack in this unit; none where both are 0
abbrev pub margin_words : Unit → ℤ → ℤ → List (List ℕ)
margin_words unit overcut slack =
    if is_exact overcut slack then []
    else codes "overcut" ∷ canonical unit overcut ∷ codes "slack" ∷ canonical unit slack ∷ []

-- the line of a lattice that has so many nodes, which are too many
abbrev pub nodes_line : ℕ → List ℕ
nodes_line nodes = line (codes "over" ∷ codes "nodes" ∷ decimal nodes ∷ [])
