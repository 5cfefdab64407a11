use Rattle.std.proofs.Common.{◌≡◌, ◌∙◌, ◌+◌, ◌*◌, ◌≤◌, pos, w32, arith}
use Rattle.std.specs.Prelude.{nat_abs}
use Rattle.std.specs.Int.{div_ceil}
use Rattle.std.proofs.lemmas.Int.{ints, to_z-of_z, to_z_pos}
use Rattle.mill_shape.specs.inner.Roots.{IsCeilRoot}
use Rattle.mill_margin.specs.Margins.{cone_offset_of}
use Rattle.mill_margin.proofs.Offsets.{offset_is, offset_under, offset_least, margin_small}
use Rattle.mill_margin.proofs.margin.cone_offset.Goals as goal

-- what the code computes is the offset, and it is small
module _ (c : goal.After-div_ceil) where
  root : IsCeilRoot (nat_abs c.args.margin * nat_abs c.args.margin * (nat_abs c.args.rise * nat_abs c.args.rise + nat_abs c.args.run * nat_abs c.args.run)) c.slant.result
  root =
      let rise : c.unsigned_abs.result ≡ nat_abs c.args.rise = rw (to_z-of_z w32 c.args.rise c.ranges.rise) at c.unsigned_abs.ensures.value in
      let along : c.unsigned_abs-run.result ≡ nat_abs c.args.run = rw (to_z-of_z w32 c.args.run c.ranges.run) at c.unsigned_abs-run.ensures.value in
      let margin : c.unsigned_abs-2.result ≡ nat_abs c.args.margin = rw (to_z-of_z w32 c.args.margin c.ranges.margin) at c.unsigned_abs-2.ensures.value in
      rw (rise, along, margin) at c.slant.ensures

  whole : c.div_ceil.result ≡ div_ceil c.slant.result (nat_abs c.args.run)
  whole =
      let along : c.unsigned_abs-run.result ≡ nat_abs c.args.run = rw (to_z-of_z w32 c.args.run c.ranges.run) at c.unsigned_abs-run.ensures.value in
      rw (c.from.ensures, along) at c.div_ceil.ensures

  under : c.div_ceil.result ≤ 17 * nat_abs c.args.margin
  under = offset_under c.args.rise c.args.run c.args.margin c.slant.result c.div_ceil.result c.requires.margin_ok c.requires.slope_ok root whole

  small : c.div_ceil.result ≤ 8500
  small = let most = c.requires.margin_ok.most in let least = c.requires.margin_ok.least in let h = under in omega (arith, ints)

  kept : pos c.div_ceil.result ≡ cone_offset_of c.args.rise c.args.run c.args.margin
  kept = offset_is c.args.rise c.args.run c.args.margin c.slant.result c.div_ceil.result c.requires.margin_ok c.requires.slope_ok root whole

pub overflow_cast-result : goal.overflow_cast-result
overflow_cast-result c = let h = small c in grind (arith, ints)

pub returns-clause-value : goal.returns-clause-value
returns-clause-value c = let h = small c in to_z_pos w32 c.div_ceil.result (omega arith) ∙ kept c

pub returns-clause-least : goal.returns-clause-least
returns-clause-least c = rw (returns-clause-value c) (offset_least c.args.rise c.args.run c.args.margin c.requires.margin_ok.least (margin_small c.args.margin c.requires.margin_ok.most) c.requires.slope_ok)

pub returns-clause-most : goal.returns-clause-most
returns-clause-most c =
    let h = small c in
    let most = under c in
    let least = c.requires.margin_ok.least in
    rw (to_z_pos w32 c.div_ceil.result (omega arith)) (omega (arith, ints))
