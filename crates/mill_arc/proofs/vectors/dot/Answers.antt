use Rattle.std.proofs.Common.{◌≡◌, w64, FitsSigned, rules, arith}
use Rattle.std.specs.Prelude.{◌*ℤ◌}
use Rattle.std.proofs.lemmas.Int.{ints, to_z-of_z}
use Rattle.mill_arc.proofs.vectors.dot.Goals as goal

pub returns-clause-value : goal.returns-clause-value
returns-clause-value c =
    let f1 : FitsSigned w64 c.args.a.first = search rules in
    let f2 : FitsSigned w64 c.args.b.first = search rules in
    let f3 : FitsSigned w64 c.args.a.second = search rules in
    let f4 : FitsSigned w64 c.args.b.second = search rules in
    let p : c.product.result ≡ c.args.a.first *ℤ c.args.b.first = simp to_z-of_z at c.product.ensures.value in
    let q : c.product-2.result ≡ c.args.a.second *ℤ c.args.b.second = simp to_z-of_z at c.product-2.ensures.value in
    omega (arith, ints, p, q, c.product.ensures.bound.within, c.product-2.ensures.bound.within)
