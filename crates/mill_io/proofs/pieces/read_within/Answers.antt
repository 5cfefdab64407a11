use Rattle.std.proofs.Common.{arith, refl, ◌+◌, ◌<◌, ◌≤◌}
use Rattle.mill_io.proofs.Held.{held_failed, held_more, held_none, one_held}
use Rattle.mill_io.proofs.Read.{past_limit}
use Rattle.mill_io.proofs.pieces.read_within.Goals as goal

pub returns-in-Err-clause-held : goal.returns-in-Err-clause-held
returns-in-Err-clause-held g c =
    let start = g.S.Shelf.shows c.args.shelf.now in
    held_failed start.contents _ _ start.log start.log _ (held_none start.contents start.log) c.in-Err.ensures.logged

pub returns-then-count-limit-clause-next : goal.returns-then-count-limit-clause-next
returns-then-count-limit-clause-next g c = λ contents held.
    let over : c.args.limit < c.args.from + c.in-Ok.count = omega arith in
    let some : 0 < c.in-Ok.count = omega arith in
    past_limit (contents c.args.name.now) c.args.from c.in-Ok.count c.args.limit c.read.new.buf over some (one_held contents _ _ _ c.in-Ok.ensures.logged held)

pub returns-then-count-limit-clause-held : goal.returns-then-count-limit-clause-held
returns-then-count-limit-clause-held g c =
    let start = g.S.Shelf.shows c.args.shelf.now in
    held_more start.contents start.contents _ _ _ _ start.log start.log _ (held_none start.contents start.log) c.in-Ok.ensures.logged refl c.in-Ok.ensures.bytes

pub returns-clause-next : goal.returns-clause-next
returns-clause-next g c = λ contents held.
    let within : c.args.from + c.in-Ok.count ≤ c.args.limit = omega arith in
    (one_held contents _ _ _ c.in-Ok.ensures.logged held, within)

pub returns-clause-held : goal.returns-clause-held
returns-clause-held g c =
    let start = g.S.Shelf.shows c.args.shelf.now in
    held_more start.contents start.contents _ _ _ _ start.log start.log _ (held_none start.contents start.log) c.in-Ok.ensures.logged refl c.in-Ok.ensures.bytes
