use Rattle.std.proofs.Common.{arith}
use Rattle.std.proofs.lemmas.Int.{ints}
use lib.IntN.{ℤ}
use Rattle.mill_base.specs.Numbers.{Within}
use Rattle.mill_base.specs.declared.limits.TheConstants.{MAX_COORDINATE}
use Rattle.mill_base.specs.Points.{point_at}
use Rattle.mill_geom.specs.Offsets.{IsCentre}
use Rattle.mill_drop.specs.inner.Spindles.{IsTipHeight}
use Rattle.mill_base.proofs.Ranges.{coordinate}
use Rattle.mill_drop.proofs.Heights.{is_wide}
use Rattle.mill_drop.proofs.Stored.{tip_stored}
use Rattle.mill_drop.proofs.search.Spindle.holds_some.Goals as goal

-- a height in range is one of a tip
is_centre : (x y z : ℤ) → Within MAX_COORDINATE x → Within MAX_COORDINATE y → IsTipHeight z → IsCentre (point_at x y z)
is_centre x y z hx hy hz = let k = hz.least in record { x_ok = hx; y_ok = hy; z_from = omega (arith, ints); z_to = hz.most }

pub holds_some-requires-clause-cutter_ok : goal.holds_some-requires-clause-cutter_ok
holds_some-requires-clause-cutter_ok c = is_wide c.args.self.cutter c.requires.self_ok.cutter_ok

pub holds_some-requires-clause-tip_ok : goal.holds_some-requires-clause-tip_ok
holds_some-requires-clause-tip_ok c =
    rw (coordinate c.args.self.x c.requires.self_ok.x_ok, coordinate c.args.self.y c.requires.self_ok.y_ok, tip_stored c.args.z c.requires.z_ok) (is_centre c.args.self.x c.args.self.y c.args.z c.requires.self_ok.x_ok c.requires.self_ok.y_ok c.requires.z_ok)
