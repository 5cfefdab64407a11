use Rattle.std.proofs.Common.{refl}
use Rattle.mill_push.proofs.Pushing.{about}
use Rattle.mill_push.proofs.stretch.Pusher.strip.Goals as goal

pub returns-in-X : goal.returns-in-X
returns-in-X c =
    let p = c.args.self in
    let ok = c.requires.self_ok in
    let from = about p c.args.from ok c.requires.from_ok in
    let to = about p c.args.to ok c.requires.to_ok in
    let at = about p p.fiber.at ok ok.fiber_ok.at_ok in
    rw (from.0, to.1, at.0, at.1, c.in-X.is) refl

pub returns-in-Y : goal.returns-in-Y
returns-in-Y c =
    let p = c.args.self in
    let ok = c.requires.self_ok in
    let from = about p c.args.from ok c.requires.from_ok in
    let to = about p c.args.to ok c.requires.to_ok in
    let at = about p p.fiber.at ok ok.fiber_ok.at_ok in
    rw (from.0, to.1, at.0, at.1, c.in-Y.is) refl
