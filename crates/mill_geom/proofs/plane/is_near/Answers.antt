use Rattle.std.proofs.Common.{refl, w64}
use mir.Syntax.{w128}
use Rattle.std.proofs.lemmas.Bool.{false≢true}
use Rattle.mill_geom.proofs.Kept.{kept_in}
use Rattle.mill_geom.proofs.Volumes.{far_volume}
use Rattle.mill_geom.proofs.plane.is_near.Goals as goal

pub returns-then-unsigned_abs-ge-FAR_VOLUME : goal.returns-then-unsigned_abs-ge-FAR_VOLUME
returns-then-unsigned_abs-ge-FAR_VOLUME c =
    let v = kept_in w128 _ _ c.requires.volume_ok refl in
    let size = rw v at c.unsigned_abs.ensures.value in
    let far = rw size at c.if-unsigned_abs-ge-FAR_VOLUME.true in
    (λ h. absurd (false≢true h), λ t. absurd (far_volume c.args.volume c.args.x c.args.y c.args.radius far c.requires.x_ok c.requires.y_ok c.requires.r_ok t))

pub returns : goal.returns
returns c = rw (kept_in w128 _ _ c.requires.volume_ok refl, kept_in w64 _ _ c.requires.x_ok refl, kept_in w64 _ _ c.requires.y_ok refl, kept_in w64 _ _ c.requires.r_ok refl) at c.is_less.ensures
