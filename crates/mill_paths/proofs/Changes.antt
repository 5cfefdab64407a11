-- How many of a list's visits differ from the one before them, as the list grows.
use Rattle.std.proofs.Common.{◌≡◌, ℕ, suc, ◌+◌, ◌-◌, ◌≤◌, Bool, true, false, List, [], ◌∷◌, ◌++◌, length, refl, sym, ap, ◌∙◌, subst, arith}
use Rattle.std.specs.Prelude.{if◌then◌else◌, not, slice_get, Some}
use Rattle.mill_links.specs.declared.visit.Visit.{Visit}
use Rattle.mill_paths.specs.declared.fault.PathFault.{PathFault}
use Rattle.mill_paths.specs.declared.fault.PathFault.TheVariants.{TooManyNodes, TooManyVisits, WantOfMemory}
use Rattle.mill_paths.specs.Limits.{change_count, changes_after, is_same_visit, IsListFault}

-- a list that goes on has no fewer changes
changes_more : (v : Visit) (ws us : List Visit) → changes_after v ws ≤ changes_after v (ws ++ us)
changes_more v [] us = omega arith
changes_more v (w ∷ ws) us = let h : changes_after w ws ≤ changes_after w (ws ++ us) = changes_more w ws us in omega arith

pub more_changes : (xs ys : List Visit) → change_count xs ≤ change_count (xs ++ ys)
more_changes [] ys = omega arith
more_changes (v ∷ vs) ys = changes_more v vs ys

-- a list that is too long stays so as it goes on
pub fault_stays : (xs ys : List Visit) (fault : PathFault) → IsListFault xs fault → IsListFault (xs ++ ys) fault
fault_stays xs ys (TooManyNodes n) h = h
fault_stays xs ys TooManyVisits h = let m : change_count xs ≤ change_count (xs ++ ys) = more_changes xs ys in omega arith
fault_stays xs ys WantOfMemory h = h

same_value : (v w : Visit) → Some v ≡ Some w → v ≡ w
same_value v w e = cc

-- one more visit is a change where it differs from the last
changes_push : (v : Visit) (ws : List Visit) (last x : Visit) → slice_get (v ∷ ws) (length ws) ≡ Some last
    → changes_after v (ws ++ x ∷ []) ≡ changes_after v ws + (if is_same_visit last x then 0 else 1)
changes_push v [] last x is =
    turned (if is_same_visit v x then 0 else 1) ∙ ap (λ (w : Visit). 0 + (if is_same_visit w x then 0 else 1)) (same_value v last is)
  where
    turned : (n : ℕ) → n + 0 ≡ 0 + n
    turned n = omega arith
changes_push v (w ∷ ws) last x is =
    more (if is_same_visit v w then 0 else 1) (changes_after w (ws ++ x ∷ [])) (changes_after w ws) (if is_same_visit last x then 0 else 1) (changes_push w ws last x is)
  where
    more : (a b c d : ℕ) → b ≡ c + d → a + b ≡ a + c + d
    more a b c d e = omega arith

one_less : (n : ℕ) → suc n - 1 ≡ n
one_less n = omega arith

pushed : (xs : List Visit) (last x : Visit) → slice_get xs (length xs - 1) ≡ Some last
    → change_count (xs ++ x ∷ []) ≡ change_count xs + (if is_same_visit last x then 0 else 1)
pushed [] last x is = absurd (none last is)
  where
    none : (v : Visit) → slice_get {X = Visit} [] 0 ≡ Some v → ⊥
    none v e = cc
pushed (v ∷ ws) last x is = changes_push v ws last x (subst (λ (n : ℕ). slice_get (v ∷ ws) n ≡ Some last) (one_less (length ws)) is)

not_true : (t : Bool) → true ≡ not t → t ≡ false
not_true true e = absurd (cc)
not_true false e = refl

not_false : (t : Bool) → false ≡ not t → t ≡ true
not_false true e = refl
not_false false e = absurd (cc)

pub one_change : (xs : List Visit) (last x : Visit) (differs : Bool) → slice_get xs (length xs - 1) ≡ Some last → differs ≡ not (is_same_visit last x) → differs ≡ true
    → change_count (xs ++ x ∷ []) ≡ change_count xs + 1
one_change xs last x differs is e changed =
    pushed xs last x is ∙ ap (λ (t : Bool). change_count xs + (if t then 0 else 1)) (not_true (is_same_visit last x) (sym changed ∙ e))

pub no_change : (xs : List Visit) (last x : Visit) (differs : Bool) → slice_get xs (length xs - 1) ≡ Some last → differs ≡ not (is_same_visit last x) → differs ≡ false
    → change_count (xs ++ x ∷ []) ≡ change_count xs
no_change xs last x differs is e same =
    pushed xs last x is ∙ ap (λ (t : Bool). change_count xs + (if t then 0 else 1)) (not_false (is_same_visit last x) (sym same ∙ e)) ∙ plain (change_count xs)
  where
    plain : (n : ℕ) → n + 0 ≡ n
    plain n = omega arith
