-- The stages of a hole, added one behind the other.
use Rattle.std.specs.Prelude.{◌≡◌, ℕ, suc, ℤ, List, [], ◌∷◌, ◌++◌}
use Rattle.std.proofs.Common.{sym, ap, ◌∙◌, subst}
use Rattle.mill_base.specs.declared.motion.Kind.TheVariants.{Rapid, Feed}
use Rattle.mill_base.specs.declared.motion.Move.{Move}
use Rattle.mill_control.specs.declared.hole.Hole.{Hole}
use Rattle.mill_control.specs.Holes.{at_height, bitten, bottom_of, cleared, count_bites, depth_at, hole_moves, lowered, over_hole, risen_to, sunk, top_of}
use Rattle.mill_control.specs.inner.Bounds.{bite_ways, crossing_move, height_behind, rests}
use Rattle.mill_control.proofs.Joining.{four_added, three_added, two_added}
use Rattle.mill_control.proofs.Sinking.{all-moves, one_more, rest-moves}

-- all of it
pub whole : (h : Hole) (top : ℤ) (old x y z new : List Move) → top ≡ top_of h
    → x ≡ old ++ risen_to h.from top → y ≡ x ++ crossing_move h ∷ [] → z ≡ y ++ sunk (over_hole h) (lowered top h.from.z) → new ≡ z ++ sunk (at_height (over_hole h) top) (rests h)
    → new ≡ old ++ hole_moves h
whole h top old x y z new same first second third last =
    four_added old (risen_to h.from top) (crossing_move h ∷ []) (sunk (over_hole h) (lowered top h.from.z)) (sunk (at_height (over_hole h) top) (rests h)) x y z new first second third last
    ∙ ap (λ ms. old ++ ms) (sym (all-moves h top same))

-- one peck more
pub more-bites : (h : Hole) (old mid new : List Move) (n m : ℕ) → m ≡ suc n
    → mid ≡ old ++ sunk (at_height (over_hole h) (top_of h)) (bitten h n) → new ≡ mid ++ sunk (at_height (over_hole h) (height_behind h n)) (bite_ways h m)
    → new ≡ old ++ sunk (at_height (over_hole h) (top_of h)) (bitten h m)
more-bites h old mid new n m next before more =
    two_added old (sunk (at_height (over_hole h) (top_of h)) (bitten h n)) (sunk (at_height (over_hole h) (height_behind h n)) (bite_ways h m)) mid new before more
    ∙ ap (λ k. old ++ (sunk (at_height (over_hole h) (top_of h)) (bitten h n) ++ sunk (at_height (over_hole h) (height_behind h n)) (bite_ways h k))) next
    ∙ ap (λ ms. old ++ ms) (sym (one_more (over_hole h) h n)) ∙ ap (λ k. old ++ sunk (at_height (over_hole h) (top_of h)) (bitten h k)) (sym next)

-- the pecks, the bottom, and up
pub down : (h : Hole) (top : ℤ) (old mid x new : List Move) (n count : ℕ) → top ≡ top_of h → n ≡ count → count ≡ count_bites h
    → mid ≡ old ++ sunk (at_height (over_hole h) (top_of h)) (bitten h n) → x ≡ mid ++ sunk (at_height (over_hole h) (height_behind h count)) ((Feed, bottom_of h) ∷ [])
    → new ≡ x ++ sunk (at_height (over_hole h) (bottom_of h)) ((Rapid, h.end) ∷ []) → new ≡ old ++ sunk (at_height (over_hole h) top) (rests h)
down h top old mid x new n count same all counted before feed up =
    let p = at_height (over_hole h) (top_of h) in
    let begun = subst (λ (k : ℕ). mid ≡ old ++ sunk p (bitten h k)) (all ∙ counted) before in
    let fed = subst (λ (k : ℕ). x ≡ mid ++ sunk (at_height (over_hole h) (height_behind h k)) ((Feed, bottom_of h) ∷ [])) counted feed in
    three_added old (sunk p (bitten h (count_bites h))) (sunk (at_height (over_hole h) (height_behind h (count_bites h))) ((Feed, bottom_of h) ∷ []))
    (sunk (at_height (over_hole h) (bottom_of h)) ((Rapid, h.end) ∷ [])) mid x new begun fed up
    ∙ ap (λ ms. old ++ ms) (sym (rest-moves h)) ∙ ap (λ z. old ++ sunk (at_height (over_hole h) z) (rests h)) (sym same)

-- one peck: down, and out and back
pub one-bite : (h : Hole) (top depth : ℤ) (old x new : List Move) (n m : ℕ) → top ≡ top_of h → depth ≡ depth_at h m
    → x ≡ old ++ sunk (at_height (over_hole h) (height_behind h n)) ((Feed, depth_at h m) ∷ [])
    → new ≡ x ++ sunk (at_height (over_hole h) depth) (cleared h.cycle top h.peck_clearance depth)
    → new ≡ old ++ sunk (at_height (over_hole h) (height_behind h n)) (bite_ways h m)
one-bite h top depth old x new n m high low first rest =
    let z = depth_at h m in
    two_added old (sunk (at_height (over_hole h) (height_behind h n)) ((Feed, z) ∷ [])) (sunk (at_height (over_hole h) z) (cleared h.cycle (top_of h) h.peck_clearance z)) x new first
    (rest ∙ ap (λ t. x ++ sunk (at_height (over_hole h) depth) (cleared h.cycle t h.peck_clearance depth)) high
    ∙ ap (λ d. x ++ sunk (at_height (over_hole h) d) (cleared h.cycle (top_of h) h.peck_clearance d)) low)
