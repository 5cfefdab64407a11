-- What a machine does on a program is foreseen by the program's ways, line by line.
use Rattle.std.proofs.Common.{◌≡◌, ◌^◌, ℕ, Bool, true, false, List, [], ◌∷◌, ◌++◌, Result, Ok, Err, refl, ap, subst, ◌∙◌, inl, inr}
use Rattle.std.proofs.lemmas.List.Elements.{All-append, All-nil, All-same, Contains-append_left, Contains-append_right}
use Rattle.std.specs.Prelude.{ℤ, All, Contains, if◌then◌else◌}
use Rattle.mill_base.specs.declared.motion.Move.{Move}
use Rattle.mill_base.specs.declared.points.Pt3.{Pt3}
use Rattle.mill_base.specs.declared.unit.Unit.{Unit}
use Rattle.mill_control.specs.Places.{nowhere}
use Rattle.mill_control.specs.declared.place.Height.TheVariants.{Known as KnownHeight}
use Rattle.mill_block.proofs.RealLines.{line_is_foreseen}
use Rattle.mill_block.proofs.TextKept.{start_exact, start_fits, text_line_is}
use Rattle.mill_block.specs.Lines.{after_line, start_at}
use Rattle.mill_block.specs.MachineLines.{place_in}
use Rattle.mill_block.specs.Motion.{known_of}
use Rattle.mill_block.specs.RealWays.{IsForeseen, IsHeight, MayBeAt, MayGo}
use Rattle.mill_block.specs.TextPaths.{FitsText, Way, text_line}
use Rattle.mill_block.specs.TextPlaces.{exact_here}
use Rattle.mill_said.specs.declared.fault.NgcFault.{NgcFault}
use Rattle.mill_block.specs.declared.progress.Known.{Known}
use Rattle.mill_block.specs.declared.progress.Known.TheVariants.{Nothing, Height, All as Whole}
use Rattle.mill_block.specs.declared.progress.Progress.{Progress}
use Rattle.mill_said.specs.declared.rules.Control.{Control}
use Rattle.mill_said.specs.declared.rules.Rules.{Rules}
use Rattle.mill_said.specs.declared.rules.Words.TheVariants.{Machine}
use Rattle.mill_ngc.specs.Programs.{lines_of}
use Rattle.mill_ngc.specs.RealWays.{BehindLine, MayRun, ProgramIsForeseen, UnlessEnded}
use Rattle.mill_ngc.specs.TextPaths.{behind_line, in_parts, ways_from, ways_of}
use Rattle.mill_ngc.proofs.Follows.{goes_line}
use Rattle.mill_ngc.proofs.Goings.{Goes}
use Rattle.mill_ngc.proofs.Ways.{GoesOn}

-- ---- more ways

-- all of these are among those
Among : List Move → List Move → Type 0
Among ways more = (w : Move) → Contains ways w → Contains more w

foreseen-more : (rounds : Bool) (clear : ℤ) (ways more : List Move) (w : Move) → Among ways more → IsForeseen rounds clear ways w → IsForeseen rounds clear more w
unfolding Among
foreseen-more rounds clear ways more w among (inl same) = inl (among w same)
foreseen-more rounds clear ways more w among (inr (inl over)) = inr (inl over)
foreseen-more rounds clear ways more w among (inr (inr (inl over))) = inr (inr (inl (record { way = over.way; member = among over.way over.member; over = over.over })))
foreseen-more rounds clear ways more w among (inr (inr (inr up))) = inr (inr (inr up))

all-more : (rounds : Bool) (clear : ℤ) (ways more made : List Move) → Among ways more → All (IsForeseen rounds clear ways) made → All (IsForeseen rounds clear more) made
all-more rounds clear ways more made among all = λ k d lt. foreseen-more rounds clear ways more _ among (all k d lt)

among-behind : (ended : Bool) (told : Result (Progress × List Move) NgcFault) (next : Progress × List Move → List Move) (ways : List Move) (w : Move) → Contains ways w → ((s : Progress × List Move) → Contains (next s) w)
    → Contains (if ended then ways else behind_line told next ways) w
among-behind true told next ways w inside more = inside
among-behind false (Err f) next ways w inside more = inside
among-behind false (Ok s) next ways w inside more = more s

-- the ways so far are among those of the whole program
among-from : (c : Control) (p : Progress) (at : Pt3) (ways : List Move) (lines : List (List ℕ)) → Among ways (ways_from c p at ways lines)
unfolding ways_from Among
among-from c p at ways [] w inside = inside
among-from c p at ways (line ∷ lines) w inside =
    among-behind p.ended (after_line p line) (λ s. ways_from c s.0 (text_line c p at line).0 (ways ++ (text_line c p at line).1) lines) ways w inside
    (λ s. among-from c s.0 (text_line c p at line).0 (ways ++ (text_line c p at line).1) lines w (Contains-append_left ways (text_line c p at line).1 w inside))

-- ---- line by line

-- a line leaves what is asked of the program, and the safe height
goes-on : (p : Progress) (line : List ℕ) (s : Progress × List Move) → after_line p line ≡ Ok s → GoesOn (known_of p) p.here p.clear p.rules s.0 s.1
goes-on p line s is = subst (λ (r : Result (Progress × List Move) NgcFault). Goes (known_of p) p.here p.clear p.rules r) is (goes_line p line)

nothing-made : (rounds : Bool) (clear : ℤ) (ways made : List Move) → made ≡ [] → All (IsForeseen rounds clear ways) made
nothing-made rounds clear ways made is = All-same (IsForeseen rounds clear ways) made [] is (All-nil (IsForeseen rounds clear ways))

-- where the program goes on behind a line
abbrev GoesBehind : Control → Progress → Pt3 → Pt3 → List ℕ → List (List ℕ) → List Move → Progress → Type 0
GoesBehind c p at r line lines made s = (first : Way) × (rest : List Move) × MayGo c p r line first × (made ≡ first.1 ++ rest) × MayRun c s (text_line c p at line).0 first.0 lines rest

foreseen-behind : (rounds : Bool) (clear : ℤ) (ended : Bool) (told : Result (Progress × List Move) NgcFault) (next : Progress × List Move → List Move) (ways made : List Move) (goes : Progress → Type 0)
    → UnlessEnded ended (made ≡ []) (BehindLine told (made ≡ []) goes) → ((s : Progress × List Move) → told ≡ Ok s → goes s.0 → All (IsForeseen rounds clear (next s)) made)
    → All (IsForeseen rounds clear (if ended then ways else behind_line told next ways)) made
foreseen-behind rounds clear true told next ways made goes run more = nothing-made rounds clear ways made run
foreseen-behind rounds clear false (Err f) next ways made goes run more = nothing-made rounds clear ways made run
foreseen-behind rounds clear false (Ok s) next ways made goes run more = more s refl run

foreseen-from : (c : Control) (p : Progress) (at r : Pt3) (ways made : List Move) (lines : List (List ℕ)) → p.rules.words ≡ Machine c → FitsText c p → at ≡ exact_here p
    → MayBeAt c p at r → MayRun c p at r lines made → All (IsForeseen c.rounds p.clear (ways_from c p at ways lines)) made
unfolding MayRun ways_from Among
foreseen-from c p at r ways made [] words fits near may run = nothing-made c.rounds p.clear ways made run
foreseen-from c p at r ways made (line ∷ lines) words fits near may run =
    let text : Way = text_line c p at line in
    let next : Progress × List Move → List Move = λ s. ways_from c s.0 text.0 (ways ++ text.1) lines in
    foreseen-behind c.rounds p.clear p.ended (after_line p line) next ways made (GoesBehind c p at r line lines made) run
    (λ s is goes.
    let first : Way = goes.0 in
    let rest : List Move = goes.1 in
    let behind = goes-on p line s is in
    let there = text_line_is c p at line s words fits near is in
    let here = line_is_foreseen c p at r line s first words fits near may goes.2 is in
    let rest_too : All (IsForeseen c.rounds s.0.clear (next s)) rest =
    foreseen-from c s.0 text.0 first.0 (ways ++ text.1) rest lines (ap (λ (t : Rules). t.words) behind.rules_are ∙ words) there.1 there.0.here here.0 goes.4 in
    All-same (IsForeseen c.rounds p.clear (next s)) made (first.1 ++ rest) goes.3
    (All-append (IsForeseen c.rounds p.clear (next s)) first.1 rest
    (all-more c.rounds p.clear text.1 (next s) first.1 (λ w inside. among-from c s.0 text.0 (ways ++ text.1) lines w (Contains-append_right ways text.1 w inside)) here.1)
    (subst (λ (z : ℤ). All (IsForeseen c.rounds z (next s)) rest) behind.clear_is rest_too)))

-- before the first line nothing is known of the tip
begun-anywhere : (c : Control) (start r : Pt3) (unit : Unit) (rules : Rules) → MayBeAt c (start_at start unit rules) (in_parts start) r
begun-anywhere c start r unit rules = record { across = λ e. absurd (far (known_of (start_at start unit rules)) e); height = low (known_of (start_at start unit rules)); high = λ _ e. absurd (unknown (known_of (start_at start unit rules)) e) }
  where
    far : (k : Known) → (place_in k nowhere).across ≡ true → ⊥
    far Nothing e = absurd cc
    far Height e = absurd cc
    far Whole e = absurd cc

    low : (k : Known) → IsHeight (place_in k nowhere).height c.rounds start.z (in_parts start).z r.z
    low Nothing = tt
    low Height = tt
    low Whole = tt

    unknown : (k : Known) → (place_in k nowhere).height ≡ KnownHeight → ⊥
    unknown Nothing e = absurd cc
    unknown Height e = absurd cc
    unknown Whole e = absurd cc

pub program_is_foreseen : ProgramIsForeseen
unfolding ways_of
program_is_foreseen c start unit rules text made words fits may =
    foreseen-from c (start_at start unit rules) (in_parts start) may.0 [] made (lines_of text) words (start_fits c start unit rules fits.z_ok) (start_exact start unit rules)
    (begun-anywhere c start may.0 unit rules) may.1
