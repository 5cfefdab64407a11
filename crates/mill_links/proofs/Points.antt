-- Points that are compared by their coordinates.
use Rattle.std.specs.Prelude.{◌≡◌, Bool, true, false, ◌&&◌, ℤ}
use Rattle.std.specs.Ordering.{int_eq}
use Rattle.std.proofs.Common.{refl, ◌∙◌, sym, subst}
use Rattle.std.proofs.lemmas.Bool.Decides.{Decides-int_eq}
use Rattle.mill_base.specs.Points.{point_at}
use Rattle.mill_base.specs.declared.points.Pt3.{Pt3}
use Rattle.mill_links.specs.Links.{is_same_point}

clash : false ≡ true → ⊥
clash e = cc

-- two tests that both hold
both_hold : (b d : Bool) → (b && d) ≡ true → (b ≡ true) × (d ≡ true)
both_hold true true e = (refl, refl)
both_hold true false e = absurd (clash e)
both_hold false d e = absurd (clash e)

-- a number is the same as itself
pub same_number : (x : ℤ) → int_eq x x ≡ true
same_number x = (Decides-int_eq x x).1 refl

pub same_number_is : (x y : ℤ) → int_eq x y ≡ true → x ≡ y
same_number_is x y e = (Decides-int_eq x y).0 e

-- two coordinates that are the same
pub same_pair : (x y u v : ℤ) → (int_eq x u && int_eq y v) ≡ true → (x ≡ u) × (y ≡ v)
same_pair x y u v e = let h = both_hold (int_eq x u) (int_eq y v) e in (same_number_is x u h.0, same_number_is y v h.1)

-- what the comparison of two points answers
pub same_point : (p q : Pt3) (b : Bool) → b ≡ is_same_point p q → b ≡ true → p ≡ q
same_point p q b test holds =
    let h = both_hold (int_eq p.x q.x) (int_eq p.y q.y && int_eq p.z q.z) (sym test ∙ holds) in
    let k = same_pair p.y p.z q.y q.z h.1 in
    alike p.x p.y p.z q.x q.y q.z (same_number_is p.x q.x h.0) k.0 k.1
  where
    alike : (x y z u v w : ℤ) → x ≡ u → y ≡ v → z ≡ w → point_at x y z ≡ point_at u v w
    alike x y z u v w e f g = rw (e, f, g) refl

pub other_point : (p q : Pt3) (b : Bool) → b ≡ is_same_point p q → b ≡ false → p ≡ q → ⊥
other_point p q b test fails same = clash (sym fails ∙ subst (λ r. b ≡ is_same_point p r) (sym same) test ∙ itself)
  where
    itself : is_same_point p p ≡ true
    itself = rw (same_number p.x, same_number p.y, same_number p.z) refl
