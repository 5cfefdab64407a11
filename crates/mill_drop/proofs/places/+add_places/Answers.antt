use Rattle.std.proofs.Common.{◌≡◌, ℕ, List, ◌++◌, sym, ap, ◌∙◌, subst, append_assoc}
use Rattle.std.specs.Prelude.{OnOk}
use Rattle.mill_drop.specs.Paths.{middle, places_after}
use Rattle.mill_drop.proofs.Halving.{halved}
use Rattle.mill_drop.proofs.Straightness.{tolerance_stored}
use Rattle.mill_drop.proofs.places.+add_places.Goals as goal

pub returns : goal.returns
returns t c =
    let heights = c.args.heights.now in
    let old = c.args.places.now.items in
    let m = middle c.args.p c.args.q in
    let tol = tolerance_stored c.args.tol c.requires.tol_ok in
    let bent = sym (rw tol at c.goes_straight.ensures) ∙ c.if-goes_straight.false in
    let first = rw tol at c.in_ok-add_places.ensures in
    let all =
    ap (λ (xs : List ℕ). xs ++ places_after heights c.args.tol m c.args.q) first
    ∙ append_assoc old (places_after heights c.args.tol c.args.p m) (places_after heights c.args.tol m c.args.q)
    ∙ ap (λ (xs : List ℕ). old ++ xs) (sym ((halved heights c.args.tol c.args.p c.args.q c.requires.order).halved bent)) in
    subst (λ (xs : List ℕ). OnOk c.add_places-2.result (c.add_places-2.new.places.items ≡ xs)) all (rw tol at c.add_places-2.ensures)
