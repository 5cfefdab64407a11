-- The sectors of an arc's turn for which its chords stand.
use Rattle.std.specs.Prelude.{List, [], ◌∷◌}
use Rattle.mill_arc.specs.declared.arc.Arc.{Arc}
use Rattle.mill_arc.specs.declared.chords.Chord.{Chord}
use Rattle.mill_arc.specs.declared.vectors.Vector.{Vector}

-- from the start of a chord to its end, as seen from the arc's centre
pub record Sector : Type 0 where
  pub from : Vector
  pub to : Vector

abbrev pub sector : Vector → Vector → Sector
sector u v = record { from = u; to = v }

-- the sectors of a list of chords of which the first one starts at u, and each other one where the one before ends
abbrev pub sectors_from : Vector → List Chord → List Sector
sectors_from u [] = []
sectors_from u (c ∷ cs) = sector u c.node ∷ sectors_from c.node cs

-- where the last one ends
abbrev pub end_from : Vector → List Chord → Vector
end_from u [] = u
end_from u (c ∷ cs) = end_from c.node cs

abbrev pub sectors_of : Arc → List Chord → List Sector
sectors_of arc cs = sectors_from arc.start cs
