use Rattle.std.proofs.Common.{◌≤◌, refl, arith}
use Rattle.std.proofs.lemmas.Int.{ints}
use lib.IntN.{ℤ, pos, nat_abs}
use lib.Signed.{◌≤ℤ◌}
use mir.Syntax.{w32}
use Rattle.mill_base.proofs.Machine.{kept}
use Rattle.mill_base.proofs.Ranges.{coordinate}
use Rattle.mill_part.proofs.CoverLemmas.{reaches_of_covers, covers_of_reaches}
use Rattle.mill_part.proofs.near.Column.is_near.Goals as goal

small : (b : ℤ) → (pos 0) ≤ℤ b → b ≤ℤ pos 10000 → nat_abs b ≤ 10000
small b least most = omega (arith, ints)

pub returns-clause-yes : goal.returns-clause-yes
returns-clause-yes c = λ t.
    let x = coordinate c.args.self.x c.args.self.x_ok in
    let y = coordinate c.args.self.y c.args.self.y_ok in
    let height = coordinate c.args.height c.requires.height_ok in
    let band = kept w32 c.args.self.band 10000 (small c.args.self.band c.args.self.band_least c.args.self.band_most) refl in
    covers_of_reaches c.args.tri.now c.args.self.band c.args.self.x c.args.self.y c.args.height (rw (band, x, y, height) at (c.reaches_cylinder.ensures.yes t))

pub returns-clause-no : goal.returns-clause-no
returns-clause-no c = λ f over.
    let x = coordinate c.args.self.x c.args.self.x_ok in
    let y = coordinate c.args.self.y c.args.self.y_ok in
    let height = coordinate c.args.height c.requires.height_ok in
    let band = kept w32 c.args.self.band 10000 (small c.args.self.band c.args.self.band_least c.args.self.band_most) refl in
    (rw (band, x, y, height) at (c.reaches_cylinder.ensures.no f)) (reaches_of_covers c.args.tri.now c.args.self.band c.args.self.x c.args.self.y c.args.height c.requires.some over)
