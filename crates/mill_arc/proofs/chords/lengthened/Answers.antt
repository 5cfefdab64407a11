use Rattle.std.proofs.Common.{◌≡◌, ℕ, ◌≤◌, ap, ap₂, sym, subst, ◌∙◌, arith, rules, w64, to_z, of_z, FitsSigned}
use Rattle.std.specs.Prelude.{◌^◌, ℤ, pos, nat_abs, ◌*ℤ◌, ◌<ℤ◌, ◌≤ℤ◌}
use Rattle.std.proofs.lemmas.Int.{ints, to_z-of_z}
use Rattle.mill_base.specs.Numbers.{Within, floor_root_of}
use Rattle.mill_arc.proofs.Nodes.{HasRoot, root_holds}
use Rattle.mill_arc.proofs.Stored.{fits_wide}
use Rattle.mill_arc.specs.Chords.{lengthened}
use Rattle.mill_arc.specs.Places.{nearest}
use Rattle.mill_arc.specs.Vectors.{dot, vector}
use Rattle.mill_arc.specs.declared.vectors.Vector.{Vector}
use Rattle.mill_arc.proofs.chords.lengthened.Goals as goal

root_is : (v : Vector) (q : ℕ) (d : ℤ) → q ≡ floor_root_of (nat_abs (to_z mir.Syntax.w128 (of_z mir.Syntax.w128 d))) → Within (2 ^ 81) d → d ≡ dot v v → q ≡ floor_root_of (nat_abs (dot v v))
root_is v q d e within is = let f = fits_wide d within in let p : q ≡ floor_root_of (nat_abs d) = simp to_z-of_z at e in p ∙ ap (λ z. floor_root_of (nat_abs z)) is

holds : (v : Vector) (q : ℕ) → q ≡ floor_root_of (nat_abs (dot v v)) → pos 1 ≤ℤ dot v v → dot v v <ℤ pos (2 ^ 64) → HasRoot v q
holds v q e some short = subst (λ (t : ℕ). HasRoot v t) (sym e) (root_holds v some short)

stored : (v : Vector) (q : ℕ) → Within (2 ^ 32) v.first → nat_abs v.first ≤ q → nat_abs (to_z w64 (of_z w64 v.first)) ≤ q
stored v q h k = let b = h.within in omega (arith, ints)

stored_second : (v : Vector) (q : ℕ) → Within (2 ^ 32) v.second → nat_abs v.second ≤ q → nat_abs (to_z w64 (of_z w64 v.second)) ≤ q
stored_second v q h k = let b = h.within in omega (arith, ints)

pub lengthened_along-requires-clause-coordinate_ok : goal.lengthened_along-requires-clause-coordinate_ok
lengthened_along-requires-clause-coordinate_ok c =
    let v = c.args.vector in
    let e = root_is v c.root-whole.result c.dot.result c.root-whole.ensures.value c.dot.ensures.bound c.dot.ensures.value in
    stored v c.root-whole.result c.requires.near.first (holds v c.root-whole.result e c.requires.some c.requires.short).first

pub lengthened_along-requires-clause-some : goal.lengthened_along-requires-clause-some
lengthened_along-requires-clause-some c =
    let v = c.args.vector in
    let e = root_is v c.root-whole.result c.dot.result c.root-whole.ensures.value c.dot.ensures.bound c.dot.ensures.value in
    (holds v c.root-whole.result e c.requires.some c.requires.short).some

pub lengthened_along-requires-2-clause-coordinate_ok : goal.lengthened_along-requires-2-clause-coordinate_ok
lengthened_along-requires-2-clause-coordinate_ok c =
    let v = c.args.vector in
    let e = root_is v c.root-whole.result c.dot.result c.root-whole.ensures.value c.dot.ensures.bound c.dot.ensures.value in
    stored_second v c.root-whole.result c.requires.near.second (holds v c.root-whole.result e c.requires.some c.requires.short).second

pub lengthened_along-requires-2-clause-some : goal.lengthened_along-requires-2-clause-some
lengthened_along-requires-2-clause-some c =
    let v = c.args.vector in
    let e = root_is v c.root-whole.result c.dot.result c.root-whole.ensures.value c.dot.ensures.bound c.dot.ensures.value in
    (holds v c.root-whole.result e c.requires.some c.requires.short).some

axis : (a l : ℤ) (q : ℕ) (n m : ℤ) → Within (2 ^ 32) a → Within (2 ^ 31) l → m ≡ n → n ≡ nearest (to_z w64 (of_z w64 a) *ℤ to_z w64 (of_z w64 l)) q → m ≡ nearest (a *ℤ l) q
axis a l q n m h k s e = s ∙ e ∙ ap₂ (λ (x y : ℤ). nearest (x *ℤ y) q) one two
  where
    one : to_z w64 (of_z w64 a) ≡ a
    one = let b = h.within in omega (arith, ints)

    two : to_z w64 (of_z w64 l) ≡ l
    two = let b = k.within in omega (arith, ints)

pub returns : goal.returns
unfolding lengthened
returns c =
    let v = c.args.vector in
    let e = root_is v c.root-whole.result c.dot.result c.root-whole.ensures.value c.dot.ensures.bound c.dot.ensures.value in
    let f1 : FitsSigned w64 c.lengthened_along.result = search rules in
    let f2 : FitsSigned w64 c.lengthened_along-2.result = search rules in
    let one = axis v.first c.args.length c.root-whole.result c.lengthened_along.result (to_z w64 (of_z w64 c.lengthened_along.result)) c.requires.near.first c.requires.length_ok (to_z-of_z w64 _ f1) c.lengthened_along.ensures in
    let two = axis v.second c.args.length c.root-whole.result c.lengthened_along-2.result (to_z w64 (of_z w64 c.lengthened_along-2.result)) c.requires.near.second c.requires.length_ok (to_z-of_z w64 _ f2) c.lengthened_along-2.ensures in
    ap₂ (λ (x y : ℤ). vector x y) one two ∙ ap (λ (q : ℕ). vector (nearest (v.first *ℤ c.args.length) q) (nearest (v.second *ℤ c.args.length) q)) e
