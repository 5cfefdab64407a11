-- A line's moves go on from where the tool was, step by step through what the line does.
use Rattle.std.proofs.Common.{◌≡◌, List, [], ◌∷◌, Bool, true, false, Result, Ok, Err, refl, ◌∙◌, inl, inr}
use Rattle.std.specs.Prelude.{ℤ, ◌+◌, nat_le, not, if◌then◌else◌}
use Rattle.mill_base.specs.declared.limits.TheConstants.{MAX_MOVES}
use Rattle.mill_base.specs.declared.motion.Kind.{Kind}
use Rattle.mill_base.specs.declared.motion.Move.{Move}
use Rattle.mill_base.specs.declared.points.Pt3.{Pt3}
use Rattle.mill_block.specs.Motion.{known_of, made_move}
use Rattle.mill_said.specs.Said.{◌>>=◌}
use Rattle.mill_said.specs.declared.fault.NgcFault.{NgcFault}
use Rattle.mill_said.specs.declared.fault.NgcFault.TheVariants as fault
use Rattle.mill_block.specs.declared.progress.Known.{Known}
use Rattle.mill_block.specs.declared.progress.Known.TheVariants.{Nothing, Height, All}
use Rattle.mill_block.specs.declared.progress.Progress.{Progress}
use Rattle.mill_said.specs.declared.rules.Rules.{Rules}
use Rattle.mill_ngc.proofs.Ways.{GoesOn, same_height}

-- where the line has no fault, its moves go on from there
abbrev pub Goes : Known → Pt3 → ℤ → Rules → Result (Progress × List Move) NgcFault → Type 0
Goes known here clear rules (Ok s) = GoesOn known here clear rules s.0 s.1
Goes known here clear rules (Err f) = Unit {0}

pub goes_if : (k : Known) (here : Pt3) (clear : ℤ) (rules : Rules) (b : Bool) (x y : Result (Progress × List Move) NgcFault) → Goes k here clear rules x → Goes k here clear rules y → Goes k here clear rules (if b then x else y)
goes_if k here clear rules true x y h g = h
goes_if k here clear rules false x y h g = g

pub goes_unless : (k : Known) (here : Pt3) (clear : ℤ) (rules : Rules) (b : Bool) (x y : Result (Progress × List Move) NgcFault) → Goes k here clear rules x → (b ≡ true → Goes k here clear rules y) → Goes k here clear rules (if not b then x else y)
goes_unless k here clear rules true x y h g = g refl
goes_unless k here clear rules false x y h g = h

pub goes_then : {A : Type 0} (k : Known) (here : Pt3) (clear : ℤ) (rules : Rules) (r : Result A NgcFault) (f : A → Result (Progress × List Move) NgcFault) → ((a : A) → Goes k here clear rules (f a)) → Goes k here clear rules (r >>= f)
goes_then k here clear rules (Ok x) f h = h x
goes_then k here clear rules (Err e) f h = tt

pub goes_with : {A : Type 0} (k : Known) (here : Pt3) (clear : ℤ) (rules : Rules) (r : Result A NgcFault) (f : A → Result (Progress × List Move) NgcFault) → ((a : A) → r ≡ Ok a → Goes k here clear rules (f a)) → Goes k here clear rules (r >>= f)
goes_with k here clear rules (Ok x) f h = h x refl
goes_with k here clear rules (Err e) f h = tt

-- a line that makes no move and leaves the tool there
pub goes_none : (k : Known) (here : Pt3) (clear : ℤ) (rules : Rules) (q : Progress) → q.here ≡ here → known_of q ≡ k → q.clear ≡ clear → q.rules ≡ rules → GoesOn k here clear rules q []
goes_none Nothing here clear rules q stays same clear_is rules_are = record { follow = tt; end = refl; known = λ e. same ∙ e; none = inr refl; rises = inr (inl (rw stays (same_height here.z))); clear_is = clear_is; rules_are = rules_are }
goes_none Height here clear rules q stays same clear_is rules_are = record { follow = tt; end = refl; known = λ e. same ∙ e; none = inr refl; rises = inr (inl (rw stays (same_height here.z))); clear_is = clear_is; rules_are = rules_are }
goes_none All here clear rules q stays same clear_is rules_are = record { follow = tt; end = rw stays refl; known = λ e. same ∙ e; none = inr refl; rises = inl refl; clear_is = clear_is; rules_are = rules_are }

pub goes_made : (p : Progress) (kind : Kind) (to : Pt3) → known_of p ≡ All → Goes All p.here p.clear p.rules (made_move p kind to)
goes_made p kind to known =
    goes_if All p.here p.clear p.rules (nat_le MAX_MOVES p.moves) (Err (fault.TooManyMoves p.line))
    (Ok (record p { here = to; positioned = true; moves = p.moves + 1 }, record { kind = kind; from = p.here; to = to } ∷ [])) tt
    (record { follow = (refl, tt); end = refl; known = λ e. known; none = inl known; rises = inl refl; clear_is = refl; rules_are = refl })

pub all_known : (b : Bool) → (if b then All else All) ≡ All
all_known true = refl
all_known false = refl
