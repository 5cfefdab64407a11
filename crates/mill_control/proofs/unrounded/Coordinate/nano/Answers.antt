use Rattle.std.specs.Prelude.{◌≡◌, ◌+ℤ◌, ◌*ℤ◌, pos}
use Rattle.std.proofs.Common.{◌∙◌, ap, arith, w64, to_z, of_z}
use Rattle.std.proofs.lemmas.Int.{ints, to_z-of_z}
use Rattle.mill_base.proofs.Ranges.{coordinate, within_of_unit}
use Rattle.mill_control.specs.Unrounded.{nano_parts, nano_units, text_of}
use Rattle.mill_control.proofs.Besides.{within_fits}
use Rattle.mill_control.proofs.Nanos.{nano_exact, nano_is}
use Rattle.mill_control.proofs.unrounded.Coordinate.nano.Goals as goal

sum : (c : goal.After-finer_nano) → to_z w64 (of_z w64 (to_z w64 (of_z w64 c.units_nano.result) +ℤ to_z w64 (of_z w64 c.finer_nano.result))) ≡ (c.args.self.units *ℤ pos (nano_units c.args.unit)) +ℤ c.finer_nano.result
sum c =
    let units : c.units_nano.result ≡ c.args.self.units *ℤ pos (nano_units c.args.unit) = c.units_nano.ensures.value ∙ ap (λ t. t *ℤ pos (nano_units c.args.unit)) (coordinate c.args.self.units (within_of_unit c.args.unit c.args.self.units c.requires.units)) in
    let most = c.units_nano.ensures.bound.within in
    let few = c.finer_nano.ensures.bound.within in
    let plain : to_z w64 (of_z w64 (to_z w64 (of_z w64 c.units_nano.result) +ℤ to_z w64 (of_z w64 c.finer_nano.result))) ≡ c.units_nano.result +ℤ c.finer_nano.result = omega (arith, ints) in
    plain ∙ ap (λ t. t +ℤ c.finer_nano.result) units

exact : (c : goal.After-finer_nano) → to_z w64 (of_z w64 (to_z w64 (of_z w64 c.units_nano.result) +ℤ to_z w64 (of_z w64 c.finer_nano.result))) *ℤ pos (nano_parts c.args.unit) ≡ text_of c.args.self
exact c =
    let beside = c.finer_nano.ensures.exact ∙ to_z-of_z w64 c.args.self.finer (within_fits c.requires.finer) in
    ap (λ t. t *ℤ pos (nano_parts c.args.unit)) (sum c) ∙ nano_exact c.args.unit c.args.self.units c.args.self.finer c.finer_nano.result beside

pub returns-clause-exact : goal.returns-clause-exact
returns-clause-exact c = exact c

pub returns-clause-value : goal.returns-clause-value
returns-clause-value c = nano_is c.args.unit _ (text_of c.args.self) (exact c)
