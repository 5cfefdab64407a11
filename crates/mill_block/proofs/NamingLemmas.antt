-- A line that names coordinates before the first whole place leads to no lower place, or to none under the safe height.
use Rattle.std.proofs.Common.{◌≡◌, Bool, true, false, Option, Some, None, Ok, Err, refl, subst, arith, inl, inr}
use Rattle.std.proofs.lemmas.Int.{ints}
use Rattle.std.specs.Prelude.{ℤ, ◌≤ℤ◌, ◌⊎◌, ◌||◌, ◌&&◌, int_le, is_some, nat_abs, nat_lt, not, option_map, if◌then◌else◌}
use Rattle.mill_base.specs.Units.{greatest_of}
use Rattle.mill_base.specs.declared.points.Pt3.{Pt3}
use Rattle.mill_words.specs.declared.word.Num.{Num}
use Rattle.mill_control.specs.Lengths.{rounded}
use Rattle.mill_control.specs.Places.{across_allows, allows, height_allows, whole_allows, is_high, is_known, is_under, low_allows}
use Rattle.mill_control.specs.declared.place.Naming.{Naming}
use Rattle.mill_control.specs.declared.place.Place.{Place}
use Rattle.mill_block.specs.MachineLines.{coordinate_for, is_taken, naming_of, place_in, place_of, target_for, units_for}
use Rattle.mill_block.specs.MachineSettings.{per_of}
use Rattle.mill_block.specs.Motion.{known_of}
use Rattle.mill_said.specs.declared.fault.NgcFault.{NgcFault}
use Rattle.mill_said.specs.declared.fault.NgcFault.TheVariants as fault
use Rattle.mill_said.specs.declared.machine_said.MachineSaid.{MachineSaid}
use Rattle.mill_block.specs.declared.progress.Known.{Known}
use Rattle.mill_block.specs.declared.progress.Known.TheVariants.{Nothing, Height, All}
use Rattle.mill_block.specs.declared.progress.Progress.{Progress}
use Rattle.mill_said.specs.declared.rules.Control.{Control}
use Rattle.mill_block.proofs.RiseLemmas.{at_most, end_z}

-- ---- a number in units

rounded-by : (fine large : Bool) (f g : NgcFault) (w z : ℤ) → (if not fine then Err f else (if large then Err g else Ok w)) ≡ Ok z → w ≡ z
rounded-by false large f g w z e = absurd cc
rounded-by true true f g w z e = absurd cc
rounded-by true false f g w z e = cc

pub units-are : (c : Control) (p : Progress) (n : Num) (z : ℤ) → units_for c p n ≡ Ok z → rounded (per_of p) n ≡ z
units-are c p n z e =
    rounded-by (is_taken c.rounds (per_of p) n) (nat_lt (greatest_of p.unit) (nat_abs (rounded (per_of p) n))) (fault.OffGrid p.line) (fault.OutOfRange p.line) (rounded (per_of p) n) z e

-- ---- its z

not-under : (over : Bool) → not over ≡ false → over ≡ true
not-under true e = refl
not-under false e = absurd cc

over-clear : (c : Control) (p : Progress) (z : ℤ) (n : Option Num) → is_under (option_map (λ n. int_le p.clear (rounded (per_of p) n)) n) ≡ false
    → coordinate_for c p p.here.z n ≡ Ok z → (p.here.z ≤ℤ z) ⊎ (p.clear ≤ℤ z)
over-clear c p z None low e =
    let same : p.here.z ≡ z = cc in
    inl (subst (λ (v : ℤ). p.here.z ≤ℤ v) same (omega (arith, ints)))
over-clear c p z (Some n) low e =
    let over : int_le p.clear (rounded (per_of p) n) ≡ true = not-under (int_le p.clear (rounded (per_of p) n)) low in
    inr (subst (λ (v : ℤ). p.clear ≤ℤ v) (units-are c p n z e) (at_most p.clear (rounded (per_of p) n) over))

low-first : (a u w b : Bool) → ((a && (not u || (false && w))) && b) ≡ true → u ≡ false
low-first true false w b e = refl
low-first true true w b e = absurd cc
low-first false u w b e = absurd cc

low-unless : (known : Known) (p : Place) (n : Naming) → allows (place_in known p) n ≡ true → (known ≡ All) ⊎ (is_under n.z ≡ false)
low-unless All p n e = inl refl
low-unless Height p n e =
    inr (low-first (height_allows p.height n) (is_under n.z) (not (is_high p.height && (n.x || n.y))) (across_allows (record p { across = false }) n && whole_allows (record p { across = false }) n) e)
low-unless Nothing p n e =
    inr (low-first (height_allows p.height n) (is_under n.z) (not (is_high p.height && (n.x || n.y))) (across_allows (record p { across = false }) n && whole_allows (record p { across = false }) n) e)

over-if : (c : Control) (p : Progress) (s : MachineSaid) (z : ℤ) → ((known_of p ≡ All) ⊎ (is_under (naming_of p s).z ≡ false)) → coordinate_for c p p.here.z s.z ≡ Ok z
    → (known_of p ≡ All) ⊎ ((p.here.z ≤ℤ z) ⊎ (p.clear ≤ℤ z))
over-if c p s z (inl known) e = inl known
over-if c p s z (inr low) e = inr (over-clear c p z s.z low e)

pub named_rises : (c : Control) (p : Progress) (s : MachineSaid) (to : Pt3) → allows (place_of p) (naming_of p s) ≡ true → target_for c p s ≡ Ok to
    → (known_of p ≡ All) ⊎ ((p.here.z ≤ℤ to.z) ⊎ (p.clear ≤ℤ to.z))
unfolding target_for
named_rises c p s to may e =
    over-if c p s to.z (low-unless (known_of p) p.machine.place (naming_of p s) may)
    (end_z (coordinate_for c p p.here.x s.x) (coordinate_for c p p.here.y s.y) (coordinate_for c p p.here.z s.z) to e)

-- ---- a hole comes where all is known

across-first : (l a d k : Bool) → d ≡ true → (l && (a && (not d || (false && k)))) ≡ true → false ≡ true
across-first l a false k is e = is
across-first true true true k is e = e
across-first true false true k is e = e
across-first false a true k is e = e

drills-known : (known : Known) (p : Place) (n : Naming) → n.needs_place ≡ true → allows (place_in known p) n ≡ true → known ≡ All
drills-known All p n drills e = refl
drills-known Height p n drills e =
    let no : false ≡ true =
    across-first (height_allows p.height n && low_allows (record p { across = false }) n) (across_allows (record p { across = false }) n) n.needs_place (is_known p.height) drills e in
    absurd cc
drills-known Nothing p n drills e =
    let no : false ≡ true =
    across-first (height_allows p.height n && low_allows (record p { across = false }) n) (across_allows (record p { across = false }) n) n.needs_place (is_known p.height) drills e in
    absurd cc

pub drills_known : (p : Progress) (s : MachineSaid) → (is_some p.machine.cycle || is_some p.machine.turn) ≡ true → allows (place_of p) (naming_of p s) ≡ true → known_of p ≡ All
drills_known p s drills may = drills-known (known_of p) p.machine.place (naming_of p s) drills may
