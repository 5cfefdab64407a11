use Rattle.std.proofs.Common.{rules, arith, ◌≡◌, ℕ, ◌+◌, ◌<◌, ◌≤◌, ◌++◌, ◌∙◌, length, refl, subst, take}
use Rattle.std.specs.Prelude.{IfSome}
use Rattle.mill_io.proofs.Held.{with_read, held_more, held_failed}
use Rattle.mill_io.proofs.Read.{length_more, one_longer, read_all, read_more, reads_more, reads_on}
use Rattle.mill_io.specs.Contents.{GivesFrom}
use Rattle.mill_io.proofs.whole.read_pieces.Goals as goal

pub loop-shelf-preserved : goal.loop-shelf-preserved
loop-shelf-preserved g c =
    let start = g.S.Shelf.shows c.args.shelf.now in
    let here = g.S.Shelf.shows c.loop-shelf.shelf in
    let after = g.S.Shelf.shows c.read.new.self in
    let next : c.extend_from_slice.new.self.items ≡ c.loop-shelf.all.items ++ take c.in-Ok.count c.read.new.buf = search rules in
    let longer : length c.extend_from_slice.new.self.items ≡ length c.loop-shelf.all.items + c.in-Ok.count = length_more c.loop-shelf.all.items c.read.new.buf _ c.in-Ok.count c.in-Ok.ensures.within next in
    let some : 0 < c.in-Ok.count = omega arith in
    let short : length c.loop-shelf.all.items ≤ c.args.limit = search rules in
    let logged = rw (c.len-in-loop-shelf.ensures, c.loop-shelf.all.ok.0) at c.in-Ok.ensures.logged in
    let bytes = rw (c.len-in-loop-shelf.ensures, c.loop-shelf.all.ok.0) at c.in-Ok.ensures.bytes in
    let few = reads_more (length start.log) (length here.log) (length after.log) (length c.loop-shelf.all.items) _ c.in-Ok.count c.args.limit
    (one_longer _ here.log after.log logged) longer some short c.loop-shelf.invariant.4 in (
      reads_on _ _ _ c.loop-shelf.invariant.0 c.read.ensures.only,
      (λ contents held.
          let w = with_read contents start.contents _ start.log here.log after.log c.loop-shelf.invariant.2 logged held in
          read_more (contents c.args.name.now) (contents c.args.name.now) c.loop-shelf.all.items c.read.new.buf _ c.in-Ok.count refl (c.loop-shelf.invariant.1 contents w.0) w.1 c.in-Ok.ensures.within next),
      held_more start.contents here.contents _ _ _ _ start.log here.log after.log c.loop-shelf.invariant.2 logged (c.loop-shelf.invariant.0.contents c.args.name.now) bytes,
      c.in-Ok.ensures.cause.ok ∙ c.loop-shelf.invariant.3,
      few.0,
      few.1,
    )

pub returns-then-count-eq0-clause-whole : goal.returns-then-count-eq0-clause-whole
returns-then-count-eq0-clause-whole g c = λ contents held.
    let start = g.S.Shelf.shows c.args.shelf.now in
    let here = g.S.Shelf.shows c.loop-shelf.shelf in
    let after = g.S.Shelf.shows c.read.new.self in
    let none : c.in-Ok.count ≡ 0 = search rules in
    let short : length c.loop-shelf.all.items ≤ c.args.limit = search rules in
    let room : 0 < length c.read.new.buf = search rules in
    let logged = rw (c.len-in-loop-shelf.ensures, c.loop-shelf.all.ok.0) at c.in-Ok.ensures.logged in
    let w = with_read contents start.contents _ start.log here.log after.log c.loop-shelf.invariant.2 logged held in
    let gives = subst (λ (n : ℕ). IfSome (contents c.args.name.now) (λ bytes. GivesFrom bytes (length c.loop-shelf.all.items) n c.read.new.buf)) none w.1 in
    (read_all (contents c.args.name.now) c.loop-shelf.all.items c.read.new.buf (c.loop-shelf.invariant.1 contents w.0) gives room, short)

pub returns-then-count-eq0-clause-held : goal.returns-then-count-eq0-clause-held
returns-then-count-eq0-clause-held g c =
    held_more (g.S.Shelf.shows c.args.shelf.now).contents (g.S.Shelf.shows c.loop-shelf.shelf).contents _ _ _ _ _ _ _ c.loop-shelf.invariant.2 c.in-Ok.ensures.logged
    (c.loop-shelf.invariant.0.contents c.args.name.now) c.in-Ok.ensures.bytes

pub returns-in_err-extend_from_slice-clause-held : goal.returns-in_err-extend_from_slice-clause-held
returns-in_err-extend_from_slice-clause-held g c =
    held_more (g.S.Shelf.shows c.args.shelf.now).contents (g.S.Shelf.shows c.loop-shelf.shelf).contents _ _ _ _ _ _ _ c.loop-shelf.invariant.2 c.in-Ok.ensures.logged
    (c.loop-shelf.invariant.0.contents c.args.name.now) c.in-Ok.ensures.bytes

pub returns-in-Err-clause-held : goal.returns-in-Err-clause-held
returns-in-Err-clause-held g c = held_failed (g.S.Shelf.shows c.args.shelf.now).contents _ _ _ _ _ c.loop-shelf.invariant.2 c.in-Err.ensures.logged
