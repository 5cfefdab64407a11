-- What counts of a line: its bytes outside blanks and comments, and where a comment parts them.
use Rattle.std.specs.Prelude.{ℕ, ◌+◌, ◌==◌, Bool, ◌||◌, if◌then◌else◌, List, [], ◌∷◌, Option, Some, None}
use Rattle.mill_words.specs.declared.marks.Region.{Region}
use Rattle.mill_words.specs.declared.marks.Region.TheVariants.{Outside, Comment, Ignored}
use Rattle.mill_words.specs.declared.marks.Mark.{Mark}
use Rattle.mill_words.specs.declared.marks.Mark.TheVariants.{Byte, Gap, Broken}

-- space, tab or CR
abbrev pub is_blank : ℕ → Bool
is_blank b = ((b == 32) || (b == 9)) || (b == 13)

-- where the next byte stands, and what the byte b at the place p counts for; `(` is 40, `)` 41, `;` 59
abbrev pub marked : Region → ℕ → ℕ → Region × Option Mark
marked Outside p b =
    if is_blank b then (Outside, None) else
    (if b == 40 then (Comment p, Some Gap) else
    (if b == 59 then (Ignored, Some Gap) else (Outside, Some (Byte p b))))
marked (Comment from) p b =
    if b == 41 then (Outside, None) else (if b == 40 then (Ignored, Some (Broken from)) else (Comment from, None))
marked Ignored p b = (Ignored, None)

-- a comment is broken where the line ends in it
abbrev pub end_marks : Region → List Mark
end_marks (Comment from) = Broken from ∷ []
end_marks region = []

-- a mark before others, if there is one
abbrev pub put_mark : Option Mark → List Mark → List Mark
put_mark None ms = ms
put_mark (Some m) ms = m ∷ ms

-- what counts of the bytes from the place p on, the first of which stands in this region
unfoldable pub marks_from : Region → ℕ → List ℕ → List Mark
marks_from region p [] = end_marks region
marks_from region p (b ∷ bytes) = put_mark (marked region p b).1 (marks_from (marked region p b).0 (p + 1) bytes)

-- what counts of a line, from left to right
abbrev pub marks_of : List ℕ → List Mark
marks_of line = marks_from Outside 0 line
