use Rattle.std.specs.Prelude.{◌*◌, ◌%◌, ◌<◌, ◌≤◌, ◌-ℤ◌, pos}
use Rattle.std.proofs.Common.{◌∙◌, ap, arith, rules, w64, to_z}
use Rattle.std.proofs.Math.Facts.{to_z_pos}
use Rattle.std.proofs.Math.Nat.{mod-lt}
use Rattle.std.proofs.lemmas.Int.{ints, to_z-of_z}
use Rattle.mill_control.proofs.Besides.{beside_down, beside_up}
use Rattle.mill_control.proofs.unrounded.beside.Goals as goal

pub returns-then-rest-whole-clause-value : goal.returns-then-rest-whole-clause-value
returns-then-rest-whole-clause-value c =
    let under : c.args.number % c.args.parts < c.args.parts = mod-lt c.args.number c.requires.some in
    let less : 2 * (c.args.number % c.args.parts) < c.args.parts = omega (arith, ints, c.if-rest-whole.true) in
    to_z_pos w64 (omega arith) ∙ beside_down c.args.number c.args.parts less

pub returns-else-rest-whole-clause-value : goal.returns-else-rest-whole-clause-value
returns-else-rest-whole-clause-value c =
    let under : c.args.number % c.args.parts < c.args.parts = mod-lt c.args.number c.requires.some in
    let most : c.args.parts ≤ 2 * (c.args.number % c.args.parts) = omega (arith, ints, c.if-rest-whole.false) in
    let rest = to_z_pos w64 {n = c.args.number % c.args.parts} (omega arith) in
    let whole = to_z_pos w64 {n = c.args.parts} (omega arith) in
    let same = ap (λ t. t -ℤ to_z w64 c.args.parts) rest ∙ ap (λ t. pos (c.args.number % c.args.parts) -ℤ t) whole in
    to_z-of_z w64 _ (search rules) ∙ same ∙ beside_up c.args.number c.args.parts c.requires.some most
