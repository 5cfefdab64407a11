-- An edge of which no end is in the cutter: one product, and whether the form takes both signs, decide.
use Rattle.std.proofs.Common.{◌≡◌, true, false, inl, inr, refl, sym, subst, arith}
use lib.IntN.{ℤ, pos, ◌-ℤ◌, ◌*ℤ◌}
use lib.Signed.{◌<ℤ◌, ◌≤ℤ◌, le_z}
use Rattle.std.proofs.lemmas.Int.{ints}
use Rattle.mill_base.proofs.Exit.{split_lt}
use Rattle.mill_contact_cone.specs.declared.corner.Cone.{Cone}
use Rattle.mill_contact_cone.specs.declared.corner.Corner.{Corner}
use Rattle.mill_contact_cone.specs.declared.quadratic.Form.{Form}
use Rattle.mill_contact_cone.specs.declared.quadratic.Blend.{Blend}
use Rattle.mill_contact_cone.specs.Cones.{IsCone, IsCornerOf, HitsUpper, HitsLower}
use Rattle.mill_contact_cone.specs.inner.Clears.{apart_of, HoldsCorner}
use Rattle.mill_contact_cone.specs.inner.Quadratics.{polar_of, upper_of, lower_of, slant_of, IsUpperForm, IsLowerForm, IsUpperEdge, IsLowerEdge, IsStart}
use Rattle.mill_contact_cone.proofs.Sizes.{radius_positive, rise_positive, run_positive}
use Rattle.mill_contact_cone.proofs.Parts.{part_found, part_shows}
use Rattle.mill_contact_cone.proofs.Zones.{squares, part_upper, upper_part, upper_apart, part_lower, lower_part, lower_apart}
use Rattle.mill_contact_cone.proofs.ZoneCerts.{lower_height}
use Rattle.mill_contact_cone.proofs.PassCerts.{low_near, high_up, high_steep, first_first, first_last, last_last, tip_tip, tip_last_less, tip_last_least}

weak : (x : ℤ) → (pos 0) <ℤ x → (pos 0) ≤ℤ x
weak x h = omega (arith, ints)

opposed : (x : ℤ) → x ≤ℤ pos 0 → (pos 0) ≤ℤ (pos 0 -ℤ x)
opposed x h = omega (arith, ints)

fallen : (x : ℤ) → x <ℤ pos 0 → (pos 0) ≤ℤ (pos 0 -ℤ x)
fallen x h = omega (arith, ints)

under_zero : (x y : ℤ) → (x -ℤ y) <ℤ pos 0 → x <ℤ y
under_zero x y h = omega (arith, ints)

less_of : (x y : ℤ) → x ≡ y → y <ℤ pos 0 → x <ℤ pos 0
less_of x y e h = omega (arith, ints)

pub not_less : (x : ℤ) → (pos 0) ≤ℤ x → x <ℤ pos 0 → ⊥
not_less x h k = omega (arith, ints)

-- a product as the program compares it
pub is_least : (x y : ℤ) → x ≡ y → le_z (pos 0) x ≡ true → (pos 0) ≤ℤ y
is_least x y e h = omega (e, h, arith, ints)

pub is_less : (x y : ℤ) → x ≡ y → le_z (pos 0) x ≡ false → y <ℤ pos 0
is_less x y e h = omega (e, h, arith, ints)

zero_ok : (pos 0) ≤ℤ pos 0
zero_ok = omega (arith, ints)

one_ok : (pos 0) ≤ℤ pos 1
one_ok = omega (arith, ints)

-- ---- corners

-- a corner from the height of the tip up to that of the rim, whose form is negative, is in the cutter
pub low_held : (k : Cone) (p : Corner) → IsCone k → IsCornerOf k p → (pos 0) ≤ℤ p.z → p.over ≤ℤ pos 0 → lower_of k p p <ℤ pos 0 → HoldsCorner k p
low_held k p g e up under h =
    let steep = under_zero (k.rise *ℤ k.rise *ℤ apart_of p) (k.run *ℤ k.run *ℤ (p.z *ℤ p.z)) h in
    record {
      over = lower_height (apart_of p) k.rise k.run p.z steep (squares p.x p.y) up;
      near = low_near (apart_of p) k.rise k.run k.radius p.z steep (rise_positive k g) (run_positive k g) up (subst (λ t. t ≤ℤ pos 0) e under);
      steep = steep;
    }

-- one from the height of the rim on is, too
pub high_held : (k : Cone) (p : Corner) → IsCone k → IsCornerOf k p → (pos 0) ≤ℤ p.over → upper_of k p p <ℤ pos 0 → HoldsCorner k p
high_held k p g e over h =
    let near = under_zero (apart_of p) (k.radius *ℤ k.radius) h in
    let level = subst (λ t. (pos 0) ≤ℤ t) e over in
    record {
      over = high_up k.rise k.run k.radius p.z (rise_positive k g) (run_positive k g) (radius_positive k g) level;
      near = near;
      steep = high_steep (apart_of p) k.rise k.run k.radius p.z near (rise_positive k g) (radius_positive k g) level;
    }

-- ---- the ends of a part: the segment's own, and its point at the height of the tip

abbrev first : Blend
first = record { u = pos 1; v = pos 0 }

abbrev last : Blend
last = record { u = pos 0; v = pos 1 }

abbrev at_tip : Corner → Corner → Blend
at_tip p q = record { u = q.z; v = pos 0 -ℤ p.z }

abbrev pub lower_form_of : Cone → Corner → Corner → Form
lower_form_of k p q = record { a = lower_of k p p; h = lower_of k p q; b = lower_of k q q }

abbrev pub upper_form_of : Cone → Corner → Corner → Form
upper_form_of k p q = record { a = upper_of k p p; h = upper_of k p q; b = upper_of k q q }

pub is_lower : (k : Cone) (p q : Corner) → IsLowerForm k p q (lower_form_of k p q)
is_lower k p q = record { a_is = refl; h_is = refl; b_is = refl }

pub is_upper : (k : Cone) (p q : Corner) → IsUpperForm k p q (upper_form_of k p q)
is_upper k p q = record { a_is = refl; h_is = refl; b_is = refl }

-- what follows from the tests of a part from a blend to the last end, where the form isn't negative at either
low_yes : (k : Cone) (p q : Corner) (f : Form) (from : Blend) → IsCone k → IsCornerOf k p → IsCornerOf k q → IsLowerForm k p q f → IsStart p.z q.z from → (pos 0) ≤ℤ from.u → (pos 0) ≤ℤ from.v
    → (pos 0) <ℤ q.z → p.over ≤ℤ pos 0 → q.over ≤ℤ pos 0 → polar_of f from last <ℤ pos 0 → (f.a *ℤ f.b) <ℤ (f.h *ℤ f.h) → HitsLower k p q
low_yes k p q f from g ep eq i s hu hv hq po qo x y =
    part_lower k p q f from first last i s (inl (opposed q.over qo, (refl, refl))) refl refl hq po
    (part_found f from last (lower_apart k p q from first last g ep eq s (inl (opposed q.over qo, (refl, refl))) refl refl hq (inl qo)) hu hv zero_ok one_ok (inr (inr (x, y))))

low_no : (k : Cone) (p q : Corner) (f : Form) (from : Blend) → IsCone k → IsCornerOf k p → IsCornerOf k q → IsLowerForm k p q f → IsStart p.z q.z from → (pos 0) <ℤ q.z → q.over ≤ℤ pos 0
    → (polar_of f from from <ℤ pos 0 → ⊥) → (HoldsCorner k q → ⊥) → (polar_of f from last <ℤ pos 0 → (f.a *ℤ f.b) <ℤ (f.h *ℤ f.h) → ⊥) → HitsLower k p q → ⊥
low_no k p q f from g ep eq i s hq qo free out none t =
    elim (part_shows f from last (lower_apart k p q from first last g ep eq s (inl (opposed q.over qo, (refl, refl))) refl refl hq (inl qo))
    (lower_part k p q f from first last i s (inl (opposed q.over qo, (refl, refl))) refl refl t)) [
      | inl x ↦ free x
      | inr y ↦ elim y [
        | inl x ↦ out (low_held k q g eq (weak q.z hq) qo (less_of _ f.b (sym i.b_is) (less_of f.b _ (sym (last_last f.a f.h f.b)) x)))
        | inr x ↦ none x.0 x.1
      ]
    ]

-- ---- both ends from the height of the tip up to that of the rim

pub passes_yes : (k : Cone) (p q : Corner) (f : Form) → IsCone k → IsCornerOf k p → IsCornerOf k q → IsLowerForm k p q f → (pos 0) ≤ℤ p.z → (pos 0) <ℤ q.z → p.over ≤ℤ pos 0 → q.over ≤ℤ pos 0
    → lower_of k p q <ℤ pos 0 → (f.a *ℤ f.b) <ℤ (f.h *ℤ f.h) → HitsLower k p q
passes_yes k p q f g ep eq i hp hq po qo x y =
    low_yes k p q f first g ep eq i (inl (hp, (refl, refl))) one_ok zero_ok hq po qo (less_of _ f.h (first_last f.a f.h f.b) (less_of f.h _ i.h_is x)) y

pub passes_no : (k : Cone) (p q : Corner) (f : Form) → IsCone k → IsCornerOf k p → IsCornerOf k q → IsLowerForm k p q f → (pos 0) ≤ℤ p.z → (pos 0) <ℤ q.z → p.over ≤ℤ pos 0 → q.over ≤ℤ pos 0
    → (HoldsCorner k p → ⊥) → (HoldsCorner k q → ⊥) → (lower_of k p q <ℤ pos 0 → (f.a *ℤ f.b) <ℤ (f.h *ℤ f.h) → ⊥) → HitsLower k p q → ⊥
passes_no k p q f g ep eq i hp hq po qo p_out q_out none =
    low_no k p q f first g ep eq i (inl (hp, (refl, refl))) hq qo
    (λ x. p_out (low_held k p g ep hp po (less_of _ f.a (sym i.a_is) (less_of f.a _ (sym (first_first f.a f.h f.b)) x)))) q_out
    (λ x y. none (less_of _ f.h (sym i.h_is) (less_of f.h _ (sym (first_last f.a f.h f.b)) x)) y)

-- ---- the first end under the tip

pub enters_yes : (k : Cone) (p q : Corner) (f : Form) → IsCone k → IsCornerOf k p → IsCornerOf k q → IsLowerForm k p q f → p.z <ℤ pos 0 → (pos 0) <ℤ q.z → p.over ≤ℤ pos 0 → q.over ≤ℤ pos 0
    → slant_of p q <ℤ pos 0 → (f.a *ℤ f.b) <ℤ (f.h *ℤ f.h) → HitsLower k p q
enters_yes k p q f g ep eq i hp hq po qo x y =
    low_yes k p q f (at_tip p q) g ep eq i (inr (hp, (refl, refl))) (weak q.z hq) (fallen p.z hp) hq po qo
    (tip_last_less p.x p.y p.z q.x q.y q.z k.rise k.run f.a f.h f.b i.a_is i.h_is i.b_is (rise_positive k g) x) y

pub enters_no : (k : Cone) (p q : Corner) (f : Form) → IsCone k → IsCornerOf k p → IsCornerOf k q → IsLowerForm k p q f → p.z <ℤ pos 0 → (pos 0) <ℤ q.z → q.over ≤ℤ pos 0
    → (HoldsCorner k q → ⊥) → (slant_of p q <ℤ pos 0 → (f.a *ℤ f.b) <ℤ (f.h *ℤ f.h) → ⊥) → HitsLower k p q → ⊥
enters_no k p q f g ep eq i hp hq qo q_out none =
    low_no k p q f (at_tip p q) g ep eq i (inr (hp, (refl, refl))) hq qo
    (not_less _ (tip_tip p.x p.y p.z q.x q.y q.z k.rise k.run f.a f.h f.b i.a_is i.h_is i.b_is)) q_out
    (λ x y. elim (split_lt (slant_of p q) (pos 0)) [
      | inl s ↦ none s y
      | inr s ↦ not_less _ (tip_last_least p.x p.y p.z q.x q.y q.z k.rise k.run f.a f.h f.b i.a_is i.h_is i.b_is s) x
    ])

-- ---- both ends from the height of the rim on

pub high_yes : (k : Cone) (p q : Corner) (f : Form) → IsUpperForm k p q f → (pos 0) ≤ℤ p.over → (pos 0) <ℤ q.over → upper_of k p q <ℤ pos 0 → (f.a *ℤ f.b) <ℤ (f.h *ℤ f.h) → HitsUpper k p q
high_yes k p q f i hp hq x y =
    part_upper k p q f first last i (inl (hp, (refl, refl))) refl refl hq
    (part_found f first last (upper_apart p.over q.over first last (inl (hp, (refl, refl))) refl refl hq) one_ok zero_ok zero_ok one_ok
    (inr (inr (less_of _ f.h (first_last f.a f.h f.b) (less_of f.h _ i.h_is x), y))))

pub high_no : (k : Cone) (p q : Corner) (f : Form) → IsCone k → IsCornerOf k p → IsCornerOf k q → IsUpperForm k p q f → (pos 0) ≤ℤ p.over → (pos 0) <ℤ q.over
    → (HoldsCorner k p → ⊥) → (HoldsCorner k q → ⊥) → (upper_of k p q <ℤ pos 0 → (f.a *ℤ f.b) <ℤ (f.h *ℤ f.h) → ⊥) → HitsUpper k p q → ⊥
high_no k p q f g ep eq i hp hq p_out q_out none t =
    elim (part_shows f first last (upper_apart p.over q.over first last (inl (hp, (refl, refl))) refl refl hq) (upper_part k p q f first last i (inl (hp, (refl, refl))) refl refl t)) [
      | inl x ↦ p_out (high_held k p g ep hp (less_of _ f.a (sym i.a_is) (less_of f.a _ (sym (first_first f.a f.h f.b)) x)))
      | inr y ↦ elim y [
        | inl x ↦ q_out (high_held k q g eq (weak q.over hq) (less_of _ f.b (sym i.b_is) (less_of f.b _ (sym (last_last f.a f.h f.b)) x)))
        | inr x ↦ none (less_of _ f.h (sym i.h_is) (less_of f.h _ (sym (first_last f.a f.h f.b)) x.0)) x.1
      ]
    ]

-- ---- as the program finds it

pub lower_edge_is : (k : Cone) (p q : Corner) → IsCornerOf k p → IsCornerOf k q → p.z ≤ℤ q.z → le_z q.z (pos 0) ≡ false → le_z q.over (pos 0) ≡ true → IsLowerEdge k p q
lower_edge_is k p q ep eq rising up under = record { p_is = ep; q_is = eq; rising = rising; q_up = above q.z up; under = at_most q.over under }
  where
    above : (x : ℤ) → le_z x (pos 0) ≡ false → (pos 0) <ℤ x
    above x e = omega (e, arith, ints)

    at_most : (x : ℤ) → le_z x (pos 0) ≡ true → x ≤ℤ pos 0
    at_most x e = omega (e, arith, ints)

pub upper_edge_is : (k : Cone) (p q : Corner) → IsCornerOf k p → IsCornerOf k q → le_z (pos 0) p.over ≡ true → le_z q.over (pos 0) ≡ false → IsUpperEdge k p q
upper_edge_is k p q ep eq hp hq = record { p_is = ep; q_is = eq; p_over = is_least p.over p.over refl hp; q_over = above q.over hq }
  where
    above : (x : ℤ) → le_z x (pos 0) ≡ false → (pos 0) <ℤ x
    above x e = omega (e, arith, ints)
