-- A place has one drop height at most, and a lattice one list of them.
use Rattle.std.specs.Prelude.{◌≡◌, Bool, true, false, ℤ, ◌<ℤ◌, ◌≤ℤ◌, int_lt, List, [], ◌∷◌}
use Rattle.std.specs.List.{AllZip}
use Rattle.std.proofs.Common.{refl, ap, ◌∙◌, arith}
use Rattle.std.proofs.lemmas.Int.{ints}
use Rattle.mill_base.specs.declared.points.Tri.{Tri}
use Rattle.mill_base.specs.declared.tool.Tool.{Tool}
use Rattle.mill_drop.specs.Drops.{IsDropHeight}
use Rattle.mill_base.specs.Lattices.{nodes_of}
use Rattle.mill_drop.specs.Maps.{IsHeightAt}
use Rattle.mill_drop.specs.Unique.{OneListOfHeights}

level : (z : ℤ) → z ≤ℤ z
level z = omega (arith, ints)

not_under : (z w : ℤ) → ¬ (z <ℤ w) → w ≤ℤ z
not_under z w h = by (int_lt z w) refl
  where
    under : int_lt z w ≡ true → z <ℤ w
    under e = omega (e, arith, ints)

    by : (t : Bool) → int_lt z w ≡ t → w ≤ℤ z
    by true e = absurd (h (under e))
    by false e = omega (e, arith, ints)

same_height : (z w : ℤ) → ¬ (z <ℤ w) → ¬ (w <ℤ z) → z ≡ w
same_height z w h k = equal (not_under z w h) (not_under w z k)
  where
    equal : w ≤ℤ z → z ≤ℤ w → z ≡ w
    equal p q = omega (p, q, arith, ints)

-- each of two drop heights is the least
pub one_height : (tool : Tool) (part : List Tri) (x y floor z w : ℤ) → IsDropHeight tool part x y floor z → IsDropHeight tool part x y floor w → z ≡ w
one_height tool part x y floor z w h g =
    same_height z w (λ low. h.free z (level z) (g.least z h.kept low)) (λ low. g.free w (level w) (h.least w g.kept low))

-- lists that each item of another settles place by place
one_list : {A B : Type 0} (R : A → B → Type 0) → ((x : A) (y z : B) → R x y → R x z → y ≡ z) → (xs : List A) (ys zs : List B)
    → AllZip R xs ys → AllZip R xs zs → ys ≡ zs
one_list R one [] [] [] h g = refl
one_list R one [] [] (z ∷ zs) h g = absurd g
one_list R one [] (y ∷ ys) zs h g = absurd h
one_list R one (x ∷ xs) [] zs h g = absurd h
one_list R one (x ∷ xs) (y ∷ ys) [] h g = absurd g
one_list R one (x ∷ xs) (y ∷ ys) (z ∷ zs) h g = ap (λ w. w ∷ ys) (one x y z h.0 g.0) ∙ ap (λ ws. z ∷ ws) (one_list R one xs ys zs h.1 g.1)

-- a lattice has one list of drop heights at most
pub one_map : OneListOfHeights
one_map tool part floor lattice a b h g =
    one_list (IsHeightAt tool part floor) (λ node z w p q. one_height tool part node.0 node.1 floor z w p q) (nodes_of lattice) a b h g
