-- The way of the tool, line by line.
use Rattle.std.proofs.Common.{◌≡◌, List, [], ◌∷◌, ◌++◌, false, refl, sym, ap, ◌∙◌, inl, inr, arith}
use Rattle.std.proofs.lemmas.Int.{ints}
use Rattle.std.specs.Prelude.{◌⊎◌, ℤ, ◌≤ℤ◌}
use Rattle.mill_base.specs.Motion.{Follow}
use Rattle.mill_base.specs.declared.motion.Move.{Move}
use Rattle.mill_base.specs.declared.points.Pt3.{Pt3}
use Rattle.mill_base.specs.declared.unit.Unit.{Unit as LengthUnit}
use Rattle.mill_control.specs.Drilled.{ends_at}
use Rattle.mill_block.specs.Kept.{begins}
use Rattle.mill_block.specs.Lines.{start_at}
use Rattle.mill_block.specs.Motion.{known_of}
use Rattle.mill_block.specs.declared.progress.Known.{Known}
use Rattle.mill_block.specs.declared.progress.Known.TheVariants.{Nothing, Height, All}
use Rattle.mill_block.specs.declared.progress.Progress.{Progress}
use Rattle.mill_said.specs.declared.rules.Rules.{Rules}
use Rattle.mill_ngc.specs.Pieces.{FollowOn}

-- a line goes on where this was known of the place, which was this one: its moves follow on from there, or from where they end if the place wasn't known, and then it is no lower, or no lower than the safe height
pub record GoesOn (k : Known) (here : Pt3) (clear : ℤ) (rules : Rules) (q : Progress) (made : List Move) : Type 0 where
  pub follow : Follow (begins k here q.here) made
  pub end : ends_at (begins k here q.here) made ≡ q.here
  pub known : k ≡ All → known_of q ≡ All
  pub none : (known_of q ≡ All) ⊎ (made ≡ [])
  pub rises : (k ≡ All) ⊎ ((here.z ≤ℤ q.here.z) ⊎ (clear ≤ℤ q.here.z))
  pub clear_is : q.clear ≡ clear
  pub rules_are : q.rules ≡ rules

-- the moves so far follow on each other up to the tool's place, once it is known; there are none before, and its height is no lower than the start's
pub record OnWay (start : Pt3) (rules : Rules) (p : Progress) (moves : List Move) : Type 0 where
  pub rules_are : p.rules ≡ rules
  pub clear_is : start.z ≡ p.clear
  pub follow : FollowOn start rules moves
  pub end : known_of p ≡ All → ends_at follow.from moves ≡ p.here
  pub none : (known_of p ≡ All) ⊎ (moves ≡ [])
  pub high : (known_of p ≡ All) ⊎ (start.z ≤ℤ p.here.z)

pub same_height : (z : ℤ) → z ≤ℤ z
same_height z = omega (arith, ints)

no_lower : (a b c : ℤ) → a ≤ℤ b → b ≤ℤ c → a ≤ℤ c
no_lower a b c low high = omega (arith, ints)

no_lower_so : (a clear b c : ℤ) → a ≡ clear → a ≤ℤ b → ((b ≤ℤ c) ⊎ (clear ≤ℤ c)) → a ≤ℤ c
no_lower_so a clear b c is low (inl high) = no_lower a b c low high
no_lower_so a clear b c is low (inr high) = rw is high

pub on_way-first : (start : Pt3) (unit : LengthUnit) (rules : Rules) → OnWay start rules (start_at start unit rules) []
on_way-first start unit rules = record {
  rules_are = refl;
  clear_is = refl;
  follow = record { from = start; over = same_height start.z; at_start = λ _. refl; follow = tt };
  end = λ _. refl;
  none = inr refl;
  high = inr (same_height start.z);
}

Follow-append : (at : Pt3) (moves more : List Move) → Follow at moves → Follow (ends_at at moves) more → Follow at (moves ++ more)
Follow-append at [] more follow next = next
Follow-append at (m ∷ moves) more follow next = (follow.0, Follow-append m.to moves more follow.1 next)

ends_at-append : (at : Pt3) (moves more : List Move) → ends_at at (moves ++ more) ≡ ends_at (ends_at at moves) more
ends_at-append at [] more = refl
ends_at-append at (m ∷ moves) more = ends_at-append m.to moves more

-- where the tool is at the start, its place is known
known-home : (p : Progress) → p.rules.from_anywhere ≡ false → known_of p ≡ All
known-home p home = rw home refl

other_of : {A B : Type 0} → A ⊎ B → (A → ⊥) → B
other_of (inl a) not = absurd (not a)
other_of (inr b) not = b

known_or_none : (q : Progress) (moves made : List Move) → moves ≡ [] → (known_of q ≡ All) ⊎ (made ≡ []) → (known_of q ≡ All) ⊎ (moves ++ made ≡ [])
known_or_none q moves made none (inl known) = inl known
known_or_none q moves made none (inr other) = inr (rw (none, other) refl)

-- a line where the place isn't known has no moves before it
from_unknown : (known : Known) (start : Pt3) (rules : Rules) (p q : Progress) (moves made : List Move) → known_of p ≡ known → (known_of p ≡ All → ⊥) → begins known p.here q.here ≡ q.here
    → OnWay start rules p moves → GoesOn known p.here p.clear p.rules q made → OnWay start rules q (moves ++ made)
from_unknown known start rules p q moves made is unknown begin way goes =
    let none : moves ≡ [] = other_of way.none unknown in
    let same : moves ++ made ≡ made = rw none refl in
    let follow : Follow q.here made = rw begin at goes.follow in
    let ends : ends_at q.here made ≡ q.here = rw begin at goes.end in
    let over : start.z ≤ℤ q.here.z = no_lower_so start.z p.clear p.here.z q.here.z way.clear_is (other_of way.high unknown) (other_of goes.rises (λ e. unknown (is ∙ e))) in
    record {
      rules_are = goes.rules_are ∙ way.rules_are;
      clear_is = way.clear_is ∙ sym goes.clear_is;
      follow = record { from = q.here; over = over; at_start = λ home. absurd (unknown (known-home p (ap (λ (r : Rules). r.from_anywhere) way.rules_are ∙ home))); follow = rw same follow };
      end = λ _. rw same ends;
      none = known_or_none q moves made none goes.none;
      high = inr over;
    }

by_known : (known : Known) (start : Pt3) (rules : Rules) (p q : Progress) (moves made : List Move) → known_of p ≡ known → OnWay start rules p moves → GoesOn known p.here p.clear p.rules q made
    → OnWay start rules q (moves ++ made)
by_known Nothing start rules p q moves made is way goes = from_unknown Nothing start rules p q moves made is (λ known. cc) refl way goes
by_known Height start rules p q moves made is way goes = from_unknown Height start rules p q moves made is (λ known. cc) refl way goes
by_known All start rules p q moves made is way goes =
    let here : ends_at way.follow.from moves ≡ p.here = way.end is in
    record {
      rules_are = goes.rules_are ∙ way.rules_are;
      clear_is = way.clear_is ∙ sym goes.clear_is;
      follow = record { from = way.follow.from; over = way.follow.over; at_start = way.follow.at_start; follow = Follow-append way.follow.from moves made way.follow.follow (rw here goes.follow) };
      end = λ _. ends_at-append way.follow.from moves made ∙ rw here goes.end;
      none = inl (goes.known refl);
      high = inl (goes.known refl);
    }

-- the next line goes on the way
pub on_way-line : (start : Pt3) (rules : Rules) (p q : Progress) (moves made : List Move) → OnWay start rules p moves → GoesOn (known_of p) p.here p.clear p.rules q made → OnWay start rules q (moves ++ made)
on_way-line start rules p q moves made way goes = by_known (known_of p) start rules p q moves made refl way goes
