-- A line for a machine leads where its own numbers do, to the nearest unit, or exactly there where nothing is rounded: step by step through what the line does.
use Rattle.std.proofs.Common.{◌≡◌, ℕ, zero, suc, ◌+◌, ◌-◌, ◌*◌, ◌^◌, ◌≤◌, Bool, true, false, Option, Some, None, Result, Ok, Err, List, [], ◌∷◌, refl, subst, ◌∙◌, arith}
use Rattle.std.proofs.lemmas.Int.{ints}
use Rattle.std.specs.Prelude.{⊤, ℤ, ◌+ℤ◌, ◌-ℤ◌, ◌*ℤ◌, nat_abs, not, ◌&&◌, nat_le, nat_lt, replicate, IfSome, if◌then◌else◌}
use Rattle.mill_base.specs.Units.{greatest_of}
use Rattle.mill_base.specs.Rounded.{AreRounded, IsRounded, IsRoundedTo, twice_off}
use Rattle.mill_base.specs.declared.limits.TheConstants.{MAX_MOVES}
use Rattle.mill_base.specs.declared.motion.Kind.{Kind}
use Rattle.mill_base.specs.declared.motion.Kind.TheVariants.{Rapid}
use Rattle.mill_base.specs.declared.motion.Move.{Move}
use Rattle.mill_base.specs.declared.points.Pt3.{Pt3}
use Rattle.mill_words.specs.Words.{FitsNum}
use Rattle.mill_words.specs.declared.word.Num.{Num}
use Rattle.mill_control.specs.Lengths.{rounded}
use Rattle.mill_control.specs.Places.{may_park, raised}
use Rattle.mill_block.specs.MachineLines.{Done, above_of, arrived, coordinate_for, exactly, gone_to, gone_up, is_safe, is_taken, park, parks, rise, still_at, target_for, units_for, up_fits, waits, went, with_place}
use Rattle.mill_block.specs.MachineSettings.{has_lengths, per_of}
use Rattle.mill_block.specs.Motion.{known_of}
use Rattle.mill_said.specs.Said.{◌>>=◌}
use Rattle.mill_block.specs.TextPaths.{AreFiner, IsTextOf, Way, text_gone}
use Rattle.mill_block.specs.TextPlaces.{exact_here, exactly_at, text_above, text_or, text_target}
use Rattle.mill_control.specs.Unrounded.{parts, text_units}
use Rattle.mill_said.specs.declared.fault.NgcFault.{NgcFault}
use Rattle.mill_said.specs.declared.fault.NgcFault.TheVariants as fault
use Rattle.mill_block.specs.declared.machine.Machine.{Machine}
use Rattle.mill_said.specs.declared.machine_said.MachineSaid.{MachineSaid}
use Rattle.mill_said.specs.declared.machine_said.Up.{Up}
use Rattle.mill_block.specs.declared.progress.Known.{Known}
use Rattle.mill_block.specs.declared.progress.Known.TheVariants.{Nothing, Height, All}
use Rattle.mill_block.specs.declared.progress.Progress.{Progress}
use Rattle.mill_said.specs.declared.rules.Control.{Control}
use Rattle.mill_said.specs.Bounds.{FitsTold}
use Rattle.mill_block.proofs.NamingLemmas.{units-are}
use Rattle.mill_block.proofs.TextLemmas.{near_greater, near_whole, number_near}

-- ---- steps

-- a place by the text's own numbers lies near one of units
pub near_exact : (rounds : Bool) (p : Progress) → AreFiner rounds p.machine.finer → IsRounded rounds (10 ^ 18) (exact_here p) p.here
near_exact rounds p f = record { x_near = by (parts *ℤ p.here.x) p.machine.finer.x f.x_finer; y_near = by (parts *ℤ p.here.y) p.machine.finer.y f.y_finer; z_near = by (parts *ℤ p.here.z) p.machine.finer.z f.z_finer }
  where
    by : (w t : ℤ) → 2 * nat_abs t ≤ twice_off rounds (10 ^ 18) → 2 * nat_abs ((w +ℤ t) -ℤ w) ≤ twice_off rounds (10 ^ 18)
    by w t near = subst (λ (u : ℤ). 2 * nat_abs u ≤ twice_off rounds (10 ^ 18)) (same w t) near
      where
        same : (w t : ℤ) → t ≡ (w +ℤ t) -ℤ w
        same w t = omega (arith, ints)

-- where it is told that the tool is at a place, it is there
exact-at : (t : Pt3) (p : Progress) → t ≡ exact_here (exactly_at t p)
exact-at t p = rw (sum (parts *ℤ p.here.x) t.x, sum (parts *ℤ p.here.y) t.y, sum (parts *ℤ p.here.z) t.z) refl
  where
    sum : (w t : ℤ) → w +ℤ (t -ℤ w) ≡ t
    sum w t = omega (arith, ints)

-- a line's ways end at this place, near the list's, and its moves are these ways rounded
pub record LeadsTo (rounds : Bool) (t : Pt3) (way : Way) (done : Progress × List Move) : Type 0 where
  pub «end» : way.0 ≡ t
  pub near : IsRounded rounds (10 ^ 18) t done.0.here
  pub moves : AreRounded rounds (10 ^ 18) way.1 done.1

-- where the line has no fault it leads so
abbrev pub Leads : Bool → Pt3 → Way → Done → Type 0
Leads rounds t way (Ok done) = LeadsTo rounds t way done
Leads rounds t way (Err f) = ⊤

pub leads_if : (rounds : Bool) (t : Pt3) (way : Way) (b : Bool) (x y : Done) → Leads rounds t way x → Leads rounds t way y → Leads rounds t way (if b then x else y)
leads_if rounds t way true x y h g = h
leads_if rounds t way false x y h g = g

pub leads_with : {A : Type 0} (rounds : Bool) (t : Pt3) (way : Way) (r : Result A NgcFault) (f : A → Done) → ((a : A) → r ≡ Ok a → Leads rounds t way (f a)) → Leads rounds t way (r >>= f)
leads_with rounds t way (Ok x) f h = h x refl
leads_with rounds t way (Err e) f h = tt

-- and the reader knows where
abbrev pub Reads : Bool → Way → Done → Type 0
Reads rounds way (Ok done) = IsTextOf rounds way done
Reads rounds way (Err f) = ⊤

pub reads_if : (rounds : Bool) (way : Way) (b : Bool) (x y : Done) → Reads rounds way x → Reads rounds way y → Reads rounds way (if b then x else y)
reads_if rounds way true x y h g = h
reads_if rounds way false x y h g = g

pub reads_choice : (rounds b : Bool) (v w : Way) (x y : Done) → Reads rounds v x → Reads rounds w y → Reads rounds (if b then v else w) (if b then x else y)
reads_choice rounds true v w x y h g = h
reads_choice rounds false v w x y h g = g

-- the reader is told where it leads, and what else of the machine is settled behind it leads nowhere else
pub reads_placed : (rounds : Bool) (t : Pt3) (way : Way) (d : Done) (f : Machine → Machine) → Leads rounds t way d → Reads rounds way (d >>= λ done. Ok (exactly t (with_place f done)))
reads_placed rounds t way (Ok done) f leads = record { here = leads.«end» ∙ exact-at t (with_place f done).0; moves = leads.moves }
reads_placed rounds t way (Err e) f leads = tt

-- ---- straight ways

near_stills : (rounds : Bool) (n : ℕ) (q p : Pt3) → IsRounded rounds (10 ^ 18) q p → AreRounded rounds (10 ^ 18) (replicate n (record { kind = Rapid; from = q; to = q })) (replicate n (still_at p))
near_stills rounds zero q p near = tt
near_stills rounds (suc n) q p near = (record { kind = refl; from = near; to = near }, near_stills rounds n q p near)

leads_first : (rounds : Bool) (p : Progress) (across : Bool) (q to : Pt3) → IsRounded rounds (10 ^ 18) q to
    → Leads rounds q (q, if across then replicate (p.machine.waiting + 1) (record { kind = Rapid; from = q; to = q }) else []) (if across then arrived p to else waits p to)
leads_first rounds p true q to near =
    leads_if rounds q (q, replicate (p.machine.waiting + 1) (record { kind = Rapid; from = q; to = q })) (nat_lt MAX_MOVES (p.moves + (p.machine.waiting + 1))) (Err (fault.TooManyMoves p.line))
    (Ok (record p { here = to; known = All; positioned = true; moves = p.moves + (p.machine.waiting + 1); machine = record p.machine { waiting = 0 } }, replicate (p.machine.waiting + 1) (still_at to))) tt
    (record { «end» = refl; near = near; moves = near_stills rounds (p.machine.waiting + 1) q to near })
leads_first rounds p false q to near =
    leads_if rounds q (q, []) (nat_le MAX_MOVES (p.moves + p.machine.waiting)) (Err (fault.TooManyMoves p.line))
    (Ok (record p { here = to; positioned = true; machine = record p.machine { waiting = p.machine.waiting + 1 } }, [])) tt (record { «end» = refl; near = near; moves = tt })

pub leads_to : (rounds : Bool) (k : Known) (p : Progress) (kind : Kind) (across : Bool) (at q to : Pt3) → IsRounded rounds (10 ^ 18) at p.here → IsRounded rounds (10 ^ 18) q to → Leads rounds q (text_gone k p kind across at q) (gone_to k p kind across to)
leads_to rounds All p kind across at q to here near =
    leads_if rounds q (q, record { kind = kind; from = at; to = q } ∷ []) (nat_le MAX_MOVES p.moves) (Err (fault.TooManyMoves p.line))
    (Ok (record p { here = to; positioned = true; moves = p.moves + 1 }, record { kind = kind; from = p.here; to = to } ∷ [])) tt
    (record { «end» = refl; near = near; moves = (record { kind = refl; from = here; to = near }, tt) })
leads_to rounds Height p kind across at q to here near = leads_first rounds p across q to near
leads_to rounds Nothing p kind across at q to here near = leads_first rounds p across q to near

-- ---- where the line's numbers lead

pub ok_is : {A : Type 0} (a b : A) → (let r : Result A NgcFault = Ok a in r) ≡ Ok b → a ≡ b
ok_is a b e = cc

-- what is told in units is taken
taken-by : (taken over : Bool) (f g : NgcFault) (r z : ℤ) → (if not taken then Err f else (if over then Err g else Ok r)) ≡ Ok z → taken ≡ true
taken-by true over f g r z is = refl
taken-by false over f g r z is = absurd cc

pub units_taken : (c : Control) (p : Progress) (n : Num) (z : ℤ) → units_for c p n ≡ Ok z → is_taken c.rounds (per_of p) n ≡ true
units_taken c p n z is =
    taken-by (is_taken c.rounds (per_of p) n) (nat_lt (greatest_of p.unit) (nat_abs (rounded (per_of p) n))) (fault.OffGrid p.line) (fault.OutOfRange p.line) (rounded (per_of p) n) z is

pub near_or : (c : Control) (p : Progress) (q here z : ℤ) (n : Option Num) → IfSome n (FitsNum 18) → IsRoundedTo c.rounds (10 ^ 18) q here → coordinate_for c p here n ≡ Ok z → IsRoundedTo c.rounds (10 ^ 18) (text_or (per_of p) q n) z
near_or c p q here z None fits near is = subst (λ (w : ℤ). IsRoundedTo c.rounds (10 ^ 18) q w) (ok_is here z is) near
near_or c p q here z (Some n) fits near is = subst (λ (w : ℤ). IsRoundedTo c.rounds (10 ^ 18) (text_units (per_of p) n) w) (units-are c p n z is) (number_near c.rounds (per_of p) n fits (units_taken c p n z is))

record Finds (x y z : Result ℤ NgcFault) (to : Pt3) : Type 0 where
  x_is : x ≡ Ok to.x
  y_is : y ≡ Ok to.y
  z_is : z ≡ Ok to.z

finds : (x y z : Result ℤ NgcFault) (to : Pt3) → (x >>= λ x. y >>= λ y. z >>= λ z. Ok (record { x = x; y = y; z = z })) ≡ Ok to → Finds x y z to
finds (Err e) y z to is = absurd cc
finds (Ok x) (Err e) z to is = absurd cc
finds (Ok x) (Ok y) (Err e) to is = absurd cc
finds (Ok x) (Ok y) (Ok z) to is =
    let same : record { x = x; y = y; z = z } ≡ to = ok_is (record { x = x; y = y; z = z }) to is in
    subst (λ (t : Pt3). Finds (Ok x) (Ok y) (Ok z) t) same (record { x_is = refl; y_is = refl; z_is = refl })

pub near_target : (c : Control) (p : Progress) (at : Pt3) (s : MachineSaid) (to : Pt3) → FitsTold s → IsRounded c.rounds (10 ^ 18) at p.here → target_for c p s ≡ Ok to → IsRounded c.rounds (10 ^ 18) (text_target p at s) to
unfolding target_for
near_target c p at s to fits here is =
    let there = finds (coordinate_for c p p.here.x s.x) (coordinate_for c p p.here.y s.y) (coordinate_for c p p.here.z s.z) to is in
    record {
      x_near = near_or c p at.x p.here.x to.x s.x fits.x_fits here.x_near there.x_is;
      y_near = near_or c p at.y p.here.y to.y s.y fits.y_fits here.y_near there.y_is;
      z_near = near_or c p at.z p.here.z to.z s.z fits.z_fits here.z_near there.z_is;
    }

pub leads_went : (c : Control) (p : Progress) (at : Pt3) (s : MachineSaid) (kind : Kind) → FitsTold s → IsRounded c.rounds (10 ^ 18) at p.here
    → Leads c.rounds (text_target p at s) (text_gone (known_of p) p kind (parks s) at (text_target p at s)) (went c p s kind)
leads_went c p at s kind fits here =
    leads_with c.rounds (text_target p at s) (text_gone (known_of p) p kind (parks s) at (text_target p at s)) (target_for c p s) (λ to. gone_to (known_of p) p kind (parks s) to)
    (λ to is. leads_to c.rounds (known_of p) p kind (parks s) at (text_target p at s) to here (near_target c p at s to fits here is))

-- ---- up to the machine's place

near_above : (rounds : Bool) (p : Progress) (at : Pt3) → IsRounded rounds (10 ^ 18) at p.here → IsRounded rounds (10 ^ 18) (text_above p at) (above_of p)
near_above rounds p at here = record { x_near = here.x_near; y_near = here.y_near; z_near = near_greater rounds (10 ^ 18) at.z (parts *ℤ p.clear) p.here.z p.clear here.z_near (near_whole rounds (10 ^ 18) p.clear) }

-- straight up, before the reader is told where it leads
pub leads_up : (rounds : Bool) (p : Progress) (at : Pt3) → IsRounded rounds (10 ^ 18) at p.here
    → Leads rounds (text_above p at) (text_gone (known_of p) p Rapid false at (text_above p at)) (gone_to (known_of p) p Rapid false (above_of p))
leads_up rounds p at here = leads_to rounds (known_of p) p Rapid false at (text_above p at) (above_of p) here (near_above rounds p at here)

reads_rise : (rounds : Bool) (p : Progress) → IsRounded rounds (10 ^ 18) (exact_here p) p.here
    → Reads rounds (text_gone (known_of p) p Rapid false (exact_here p) (text_above p (exact_here p))) (rise p)
reads_rise rounds p here =
    let at : Pt3 = exact_here p in
    reads_placed rounds (text_above p at) (text_gone (known_of p) p Rapid false at (text_above p at)) (gone_to (known_of p) p Rapid false (above_of p)) (λ (m : Machine). record m { place = raised m.place })
    (leads_up rounds p at here)

pub reads_up : (rounds : Bool) (p : Progress) (s : MachineSaid) (u : Up) → IsRounded rounds (10 ^ 18) (exact_here p) p.here
    → Reads rounds (if parks s then (exact_here p, []) else text_gone (known_of p) p Rapid false (exact_here p) (text_above p (exact_here p))) (gone_up p s u)
unfolding gone_up
reads_up rounds p s u here =
    let at : Pt3 = exact_here p in
    let way : Way = if parks s then (at, []) else text_gone (known_of p) p Rapid false at (text_above p at) in
    let goes : Done = if parks s then park p s else rise p in
    let measured : Done = if u.by_machine && not p.absolute then Err (fault.NoAbsolute p.line) else goes in
    let told : Done = if not (has_lengths p) then Err (fault.NoUnits p.line) else measured in
    let safe : Done = if parks s && not (may_park p.machine.place.height (is_safe p)) then Err (fault.Start p.line) else told in
    reads_if rounds way (not (up_fits p s u)) (Err (fault.NotInProfile p.line 71 u.num)) safe tt
    (reads_if rounds way (parks s && not (may_park p.machine.place.height (is_safe p))) (Err (fault.Start p.line)) told tt
    (reads_if rounds way (not (has_lengths p)) (Err (fault.NoUnits p.line)) measured tt
    (reads_if rounds way (u.by_machine && not p.absolute) (Err (fault.NoAbsolute p.line)) goes tt
    (reads_choice rounds (parks s) (at, []) (text_gone (known_of p) p Rapid false at (text_above p at)) (park p s) (rise p) (record { here = refl; moves = tt }) (reads_rise rounds p here)))))
