use Rattle.std.proofs.Common.{◌≡◌, ◌||◌, true, is_some, rules}
use Rattle.mill_block.specs.Lines.{line_begun}
use Rattle.mill_block.proofs.QuickLemmas.{quick-moves}
use Rattle.mill_block.proofs.progress.Progress.quick_line_in.Goals as goal

pub returns : goal.returns
returns c =
    let some : ((is_some c.in_ok-x.x.units || is_some c.in_ok-y.y.units) || is_some c.in_ok-z.z.units) ≡ true = search rules in
    let ends : c.ends_at.result ≡ true = search rules in
    quick-moves c.args.self.now c.args.line.now _ c.in_ok-motion.motion.kind c.in_ok-x.x.units c.in_ok-y.y.units c.in_ok-z.z.units
    c.in_ok-motion.motion.end c.in_ok-x.x.end c.in_ok-y.y.end c.in_ok-z.z.end c.requires.ready c.requires.here
    (c.in_ok-motion.ensures.read (line_begun c.args.self.now))
    (rw c.requires.unit at c.in_ok-x.ensures.read) (rw c.requires.unit at c.in_ok-y.ensures.read) (rw c.requires.unit at c.in_ok-z.ensures.read)
    (c.ends_at.ensures ends) some c.in_ok-kind.ensures (search rules)
