-- Each stage of the ways round and home: where it is no move, and where it is one.
use Rattle.std.specs.Prelude.{◌≡◌, Bool, true, false, ◌&&◌, if◌then◌else◌, ℤ, ◌≤ℤ◌, int_lt, List, [], ◌∷◌, ◌++◌}
use Rattle.std.specs.Ordering.{int_eq}
use Rattle.std.proofs.Common.{refl, sym, ap, ◌∙◌, arith}
use Rattle.std.proofs.lemmas.Int.{ints}
use Rattle.std.proofs.lemmas.List.{append-nil}
use Rattle.mill_base.specs.declared.motion.Move.{Move}
use Rattle.mill_base.specs.declared.points.Pt3.{Pt3}
use Rattle.mill_job.specs.declared.fields.JobFields.{JobFields}
use Rattle.mill_links.specs.Links.{across, at_height, climb, cross, descend, is_over_place, is_same_point, over_stock, rapid_to}
use Rattle.mill_links.proofs.Points.{same_number}

-- with no moves more a list is as it was
pub none_added : (old moves : List Move) → moves ≡ [] → old ≡ old ++ moves
none_added old moves none = sym (append-nil old) ∙ ap (λ ms. old ++ ms) (sym none)

not_under : (a b : ℤ) → b ≤ℤ a → int_lt a b ≡ false
not_under a b over = by (int_lt a b) refl
  where
    clash : int_lt a b ≡ true → ⊥
    clash e = omega (e, over, arith, ints)

    by : (t : Bool) → int_lt a b ≡ t → int_lt a b ≡ false
    by true e = absurd (clash e)
    by false e = e

pub no_climb : (job : JobFields) (from : Pt3) → job.clear ≤ℤ from.z → climb job from ≡ []
no_climb job from high = ap (λ (t : Bool). if t then rapid_to from (at_height from job.clear) ∷ [] else []) (not_under from.z job.clear high)

pub no_descend : (job : JobFields) (at : Pt3) → job.clear ≤ℤ over_stock job → descend job at ≡ []
no_descend job at high = ap (λ (t : Bool). if t then rapid_to (at_height at job.clear) (at_height at (over_stock job)) ∷ [] else []) (not_under (over_stock job) job.clear high)

-- at one height two places are the same where one is over the other
same_over : (p q : Pt3) (z : ℤ) → is_same_point (at_height p z) (at_height q z) ≡ is_over_place p q
same_over p q z = ap (λ (t : Bool). int_eq p.x q.x && (int_eq p.y q.y && t)) (same_number z) ∙ ap (λ (t : Bool). int_eq p.x q.x && t) (and_true (int_eq p.y q.y))
  where
    and_true : (t : Bool) → (t && true) ≡ t
    and_true true = refl
    and_true false = refl

pub no_cross : (job : JobFields) (from at : Pt3) → is_same_point (at_height from job.clear) (at_height at job.clear) ≡ true → cross job from at ≡ []
no_cross job from at same =
    ap (λ (t : Bool). if t then [] else across job from at ∷ []) (sym (same_over from at job.clear) ∙ same)

pub one_cross : (job : JobFields) (from at : Pt3) → is_same_point (at_height from job.clear) (at_height at job.clear) ≡ false
    → cross job from at ≡ across job from at ∷ []
one_cross job from at other =
    ap (λ (t : Bool). if t then [] else across job from at ∷ []) (sym (same_over from at job.clear) ∙ other)
