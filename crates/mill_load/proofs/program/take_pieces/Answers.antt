use Rattle.std.proofs.Common.{◌≡◌, ℕ, List, ap, ◌+◌, ◌≤◌, ◌<◌, ◌++◌, length, take, arith, ◌∙◌, rules, refl, subst, sym}
use Rattle.mill_base.specs.declared.limits.TheConstants.{MAX_FILE_BYTES}
use Rattle.mill_io.proofs.Held.{held_none, in_parts}
use Rattle.mill_io.proofs.Read.{reads_on}
use Rattle.std.specs.Prelude.{IfSome}
use Rattle.mill_io.specs.Contents.{GivesFrom}
use Rattle.mill_io.specs.Readings.{LastFails}
use Rattle.mill_load.specs.inner.Steps.{HasTaken, TakesFront}
use Rattle.mill_load.proofs.Reading.{held_next, next_long}
use Rattle.mill_load.proofs.Programs.{front_first, front_more, front_whole, too_long}
use Rattle.mill_load.proofs.program.take_pieces.Goals as goal

pub loop-reader-init : goal.loop-reader-init
loop-reader-init g c =
    let pieces = c.args.pieces.now in
    let start = g.S.Shelf.shows pieces.shelf.now in
    let none = front_first c.args.start c.args.unit c.args.rules pieces.name.now start.log c.new-reader.result c.args.moves.now.items c.new-reader.ensures.reading c.new-reader.ensures.moves c.requires.moves in
    record {
      going = c.requires.first.going;
      name = refl;
      limit = c.requires.first.limit_is;
      same = refl;
      room = c.requires.buf;
      only = search rules;
      faults = refl;
      held = held_none start.contents start.log;
      front = rw c.requires.first.none_given none;
    }

pub returns-in-Ok-eq0-clause-takes : goal.returns-in-Ok-eq0-clause-takes
returns-in-Ok-eq0-clause-takes g c = λ contents held.
    let pieces = c.args.pieces.now in
    let start = g.S.Shelf.shows pieces.shelf.now in
    let here = c.loop-reader.pieces in
    let before = g.S.Shelf.shows here.shelf.now in
    let parts = in_parts contents start.contents before.contents _ _ _ c.loop-reader.invariant.held c.next.ensures.held held in
    let next = c.in-Ok-eq0.ensures.next contents parts.next c.loop-reader.invariant.going in
    let room : 0 < length c.next.new.buf = search rules in
    let fits : here.given ≤ MAX_FILE_BYTES = omega (arith, here.within, c.loop-reader.invariant.limit) in
    let none : c.in-Ok-eq0.field-0 ≡ 0 = search rules in
    let gives = subst (λ (n : ℕ). IfSome (contents here.name.now) (λ bytes. GivesFrom bytes here.given n c.next.new.buf)) none next.0 in
    front_whole c.args.start c.args.unit c.args.rules pieces.name.now here.name.now contents start.log before.log here.given c.next.new.buf
    c.loop-reader.reader c.loop-reader.moves.items c.loop-reader.invariant.name c.loop-reader.invariant.front parts.first gives room fits

pub returns-in-Ok-eq0-clause-store : goal.returns-in-Ok-eq0-clause-store
returns-in-Ok-eq0-clause-store g c =
    let inv = c.loop-reader.invariant in record {
      only = reads_on _ _ _ inv.only c.next.ensures.only;
      reads = (c.in-Ok-eq0.ensures.ends inv.going).0 ∙ inv.faults;
      held = held_next (g.S.Shelf.shows c.args.pieces.now.shelf.now) (g.S.Shelf.shows c.loop-reader.pieces.shelf.now) (g.S.Shelf.shows c.next.new.self.shelf.now) inv.only inv.held c.next.ensures.held;
    }

pub loop-reader-preserved : goal.loop-reader-preserved
loop-reader-preserved g c =
    let pieces = c.args.pieces.now in
    let start = g.S.Shelf.shows pieces.shelf.now in
    let here = c.loop-reader.pieces in
    let before = g.S.Shelf.shows here.shelf.now in
    let after = g.S.Shelf.shows c.next.new.self.shelf.now in
    let text = c.loop-reader.invariant.front.text in
    let taken : HasTaken c.args.start c.args.unit c.args.rules c.take_piece.new.reader c.take_piece.new.moves.items (text ++ take c.in-Ok.count c.next.new.buf) = c.in_ok-take_piece.ensures c.args.start c.args.unit c.args.rules text c.loop-reader.invariant.front.taken in
    let front : TakesFront c.args.start c.args.unit c.args.rules pieces.name.now start.log after.log (here.given + c.in-Ok.count) c.take_piece.new.reader c.take_piece.new.moves.items =
    front_more c.args.start c.args.unit c.args.rules pieces.name.now here.name.now start.log before.log after.log here.given c.in-Ok.count c.next.new.buf
    c.loop-reader.reader c.take_piece.new.reader c.loop-reader.moves.items c.take_piece.new.moves.items c.loop-reader.invariant.name c.loop-reader.invariant.front
    (λ contents held.
    let parts = in_parts contents start.contents before.contents _ _ _ c.loop-reader.invariant.held c.next.ensures.held held in
    (parts.first, (c.in-Ok.ensures.next contents parts.next c.loop-reader.invariant.going).0))
    c.in-Ok.ensures.within taken in
    record {
      going = search rules;
      name = c.next.ensures.same.1.0 ∙ c.loop-reader.invariant.name;
      limit = c.next.ensures.same.1.1 ∙ c.loop-reader.invariant.limit;
      same = c.next.ensures.same.0 ∙ c.loop-reader.invariant.same;
      room = search rules;
      only = reads_on _ _ _ c.loop-reader.invariant.only c.next.ensures.only;
      faults = (c.in-Ok.ensures.ends c.loop-reader.invariant.going).0 ∙ c.loop-reader.invariant.faults;
      held = held_next start before after c.loop-reader.invariant.only c.loop-reader.invariant.held c.next.ensures.held;
      front = rw c.in-Ok.ensures.moved.0 front;
    }

pub returns-in-Err-ReadFault-clause-failed : goal.returns-in-Err-ReadFault-clause-failed
returns-in-Err-ReadFault-clause-failed g c = λ names same.
    subst (λ (name : List ℕ). LastFails name (g.S.Shelf.shows c.next.new.self.shelf.now).log) (c.loop-reader.invariant.name ∙ sym same)
    ((c.next.ensures.ends c.loop-reader.invariant.going).1 cc)

pub returns-in-Err-ReadFault-clause-store : goal.returns-in-Err-ReadFault-clause-store
returns-in-Err-ReadFault-clause-store g c =
    let inv = c.loop-reader.invariant in
    let cause = (c.next.ensures.ends inv.going).0 in record {
      only = reads_on _ _ _ inv.only c.next.ensures.only;
      reads = search rules;
      held = held_next (g.S.Shelf.shows c.args.pieces.now.shelf.now) (g.S.Shelf.shows c.loop-reader.pieces.shelf.now) (g.S.Shelf.shows c.next.new.self.shelf.now) inv.only inv.held c.next.ensures.held;
    }

pub returns-in-Err-TooLong-clause-store : goal.returns-in-Err-TooLong-clause-store
returns-in-Err-TooLong-clause-store g c =
    let inv = c.loop-reader.invariant in
    let cause = (c.next.ensures.ends inv.going).0 in record {
      only = reads_on _ _ _ inv.only c.next.ensures.only;
      reads = search rules;
      held = held_next (g.S.Shelf.shows c.args.pieces.now.shelf.now) (g.S.Shelf.shows c.loop-reader.pieces.shelf.now) (g.S.Shelf.shows c.next.new.self.shelf.now) inv.only inv.held c.next.ensures.held;
    }

pub returns-in_err-take_piece-clause-store : goal.returns-in_err-take_piece-clause-store
returns-in_err-take_piece-clause-store g c =
    let inv = c.loop-reader.invariant in
    let cause = (c.next.ensures.ends inv.going).0 in record {
      only = reads_on _ _ _ inv.only c.next.ensures.only;
      reads = search rules;
      held = held_next (g.S.Shelf.shows c.args.pieces.now.shelf.now) (g.S.Shelf.shows c.loop-reader.pieces.shelf.now) (g.S.Shelf.shows c.next.new.self.shelf.now) inv.only inv.held c.next.ensures.held;
    }

pub returns-in-Err-TooLong-clause-fault : goal.returns-in-Err-TooLong-clause-fault
returns-in-Err-TooLong-clause-fault g c = λ contents held.
    let pieces = c.args.pieces.now in
    let here = c.loop-reader.pieces in
    let parts = in_parts contents (g.S.Shelf.shows pieces.shelf.now).contents (g.S.Shelf.shows here.shelf.now).contents _ _ _ c.loop-reader.invariant.held c.next.ensures.held held in
    let next = next_long (contents here.name.now) here.limit here.given _ c.next.result (cc) (c.next.ensures.next contents parts.next c.loop-reader.invariant.going) in
    too_long (contents pieces.name.now) (contents here.name.now) c.args.file here.limit (ap contents c.loop-reader.invariant.name) c.loop-reader.invariant.limit next
