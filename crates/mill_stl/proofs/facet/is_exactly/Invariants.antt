use Rattle.std.proofs.Common.{◌≡◌, take}
use Rattle.mill_stl.proofs.facet.is_exactly.Given as goal

abbrev pub invariant-loop-place : goal.invariant-loop-place
invariant-loop-place l = take l.place l.word ≡ take l.place l.keyword
