use Rattle.std.proofs.Common.{◌≡◌, take}
use Rattle.mill_said.specs.inner.SeenWords.{seen_in}
use Rattle.mill_said.proofs.machine_takes.Seen.of.Given as goal

abbrev pub invariant-loop-word : goal.invariant-loop-word
invariant-loop-word l = l.seen ≡ seen_in (take l.word-index l.words)
