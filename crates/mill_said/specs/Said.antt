-- What the words of a line say, from left to right, or the first fault among them.
use Rattle.std.specs.Prelude.{ℕ, List, [], ◌∷◌, ◌++◌, Option, Some, None, is_some, Result, Ok, Err, Bool, true, false, ◌&&◌, ◌||◌, if◌then◌else◌}
use Rattle.std.specs.List.{list_any}
use Rattle.mill_words.specs.Words.{Line}
use Rattle.mill_words.specs.declared.word.Num.{Num}
use Rattle.mill_words.specs.declared.word.Word.{Word}
use Rattle.mill_said.specs.declared.fault.NgcFault.{NgcFault}
use Rattle.mill_said.specs.declared.fault.NgcFault.TheVariants as fault
use Rattle.mill_said.specs.declared.groups.Group.{Group}
use Rattle.mill_said.specs.declared.profile.Entry.{Entry}
use Rattle.mill_said.specs.declared.profile.Effect.{Effect}
use Rattle.mill_said.specs.declared.profile.Effect.TheVariants.{Motion, Absolute, Millimetres, End, Change, Spindle, Speed, Rate, X, Y, Z}
use Rattle.mill_said.specs.declared.profile.Mode.{Mode}
use Rattle.mill_said.specs.declared.profile.Mode.TheVariants.{On}
use Rattle.mill_said.specs.declared.said.Said.{Said}
use Rattle.mill_said.specs.Numbers.{is_over_zero}
use Rattle.mill_said.specs.Profile.{entry_of, is_tool, is_same_group, may_repeat, repeated}

-- a fault ends the reading
infixl 10 ◌>>=◌
abbrev pub ◌>>=◌ : {A B : Type 0} → Result A NgcFault → (A → Result B NgcFault) → Result B NgcFault
(Ok x) >>= f = f x
(Err e) >>= f = Err e

abbrev pub nothing_said : Said
nothing_said = record { groups = []; mode = None; millimetres = false; absolute = false; ends = false; changes = false; spindle = None; speed = None; rate = None; x = None; y = None; z = None }

-- what a word of this effect and this number says
abbrev pub noted : Said → Effect → Num → Said
noted s (Motion mode) n = record s { mode = Some mode }
noted s Absolute n = record s { absolute = true }
noted s Millimetres n = record s { millimetres = true }
noted s End n = record s { ends = true }
noted s Change n = record s { changes = true }
noted s (Spindle turns) n = record s { spindle = Some turns }
noted s Speed n = record s { speed = Some (is_over_zero n) }
noted s Rate n = record s { rate = Some (is_over_zero n) }
noted s X n = record s { x = Some n }
noted s Y n = record s { y = Some n }
noted s Z n = record s { z = Some n }
noted s effect n = s

-- the groups that the line has had, with one more; a second word of a group is a fault, but for those that may stand together
abbrev pub once : ℕ → Group → List Group → Result (List Group) NgcFault
once line group had =
    if may_repeat group then Ok had else
    (if list_any (is_same_group group) had then Err (repeated line group) else Ok (had ++ group ∷ []))

abbrev pub group_of : Word → Entry → Group
group_of w e = record { letter = w.letter; number = e.group }

-- the line with a word of this row; `positioned` tells that an earlier line had an axis word
unfoldable pub after_entry : ℕ → Bool → Said → Word → Entry → Result Said NgcFault
after_entry line positioned s w e =
    if positioned && is_tool e.effect then Err (fault.LateTool line) else
    (once line (group_of w e) s.groups >>= λ groups. Ok (noted (record s { groups = groups }) e.effect w.num))

abbrev pub after_row : ℕ → Bool → Said → Word → Option Entry → Result Said NgcFault
after_row line positioned s w None = Err (fault.NotInProfile line w.letter w.num)
after_row line positioned s w (Some e) = after_entry line positioned s w e

abbrev pub after_word : ℕ → Bool → Said → Word → Result Said NgcFault
after_word line positioned s w = after_row line positioned s w (entry_of w)

-- the line with these words behind those before them
unfoldable pub said_from : ℕ → Bool → Said → List Word → Result Said NgcFault
said_from line positioned s [] = Ok s
said_from line positioned s (w ∷ ws) = after_word line positioned s w >>= λ t. said_from line positioned t ws

-- what a line says; a slash at its start, which is 47, isn't of the profile
abbrev pub said_by : ℕ → Bool → Line → Result Said NgcFault
said_by line positioned l =
    if l.slash then Err (fault.NotInProfile line 47 (record { neg = false; mant = 0; scale = 0 }))
    else said_from line positioned nothing_said l.words

-- the line has an axis word
abbrev pub has_axis : Said → Bool
has_axis s = (is_some s.x || is_some s.y) || is_some s.z

-- the line has a G0 or G1
abbrev pub has_motion : Option Mode → Bool
has_motion (Some (On kind)) = true
has_motion mode = false
