use Rattle.std.proofs.Common.{◌≡◌, ◌-◌, ◌<◌, ◌≤◌, drop, length, rules, arith, length-drop}
use Rattle.std.proofs.lemmas.List.{length-take-le}
use Rattle.std.specs.Prelude.{slice_range}
use Rattle.mill_ngc.specs.Lines.{ArePlaces}
use Rattle.mill_ngc.proofs.WalkLemmas.{places_of_all, walk_first, walk_last, walk_more}
use Rattle.mill_ngc.proofs.walk.places.Goals as goal

pub loop-walk-init : goal.loop-walk-init
loop-walk-init c = walk_first c.args.start c.args.unit c.args.rules c.args.text.now _ c.new.ensures.reading (search rules) (search rules)

pub returns-then-end-text-clause-places : goal.returns-then-end-text-clause-places
returns-then-end-text-clause-places c =
    walk_last c.args.start c.args.unit c.args.rules c.args.text.now c.loop-walk.from c.loop-walk.line c.line_end-end.result c.loop-walk.walk c.read_line.new.walk
    c.loop-walk.invariant c.line_end-end.ensures.behind c.line_end-end.ensures.within (c.line_end-end.ensures.last c.if-end-text.true)
    (record { read = c.in_ok-read_line.ensures.read; lines = c.in_ok-read_line.ensures.lines; more = c.in_ok-read_line.ensures.more; places = c.in_ok-read_line.ensures.places })

pub returns-then-end-text-clause-all : goal.returns-then-end-text-clause-all
returns-then-end-text-clause-all c = λ moves means.
    let are : ArePlaces c.args.start c.args.unit c.args.rules c.args.text.now c.read_line.new.walk.places.items =
    walk_last c.args.start c.args.unit c.args.rules c.args.text.now c.loop-walk.from c.loop-walk.line c.line_end-end.result c.loop-walk.walk c.read_line.new.walk
    c.loop-walk.invariant c.line_end-end.ensures.behind c.line_end-end.ensures.within (c.line_end-end.ensures.last c.if-end-text.true)
    (record { read = c.in_ok-read_line.ensures.read; lines = c.in_ok-read_line.ensures.lines; more = c.in_ok-read_line.ensures.more; places = c.in_ok-read_line.ensures.places }) in
    places_of_all c.args.start c.args.unit c.args.rules c.args.text.now c.read_line.new.walk.places.items moves are means

pub loop-walk-preserved : goal.loop-walk-preserved
loop-walk-preserved c =
    let text = c.args.text.now in
    let from = c.loop-walk.from in
    let finish = c.line_end-end.result in
    let inside : finish < length text = omega (arith, c.line_end-end.ensures.within, c.if-end-text.false) in
    let fits : finish - from ≤ length (drop from text) = omega (arith, length-drop from text, c.line_end-end.ensures.within) in
    let size : length (slice_range text from finish) ≡ finish - from = length-take-le (finish - from) (drop from text) fits in
    walk_more c.args.start c.args.unit c.args.rules text from c.loop-walk.line finish c.loop-walk.walk c.read_line.new.walk
    c.loop-walk.invariant c.line_end-end.ensures.behind inside (c.line_end-end.ensures.inner inside) size
    (record { read = c.in_ok-read_line.ensures.read; lines = c.in_ok-read_line.ensures.lines; more = c.in_ok-read_line.ensures.more; places = c.in_ok-read_line.ensures.places })
