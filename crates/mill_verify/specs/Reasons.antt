-- The reason for which a move is rejected, by how it fails.
use Rattle.std.specs.Prelude.{ℕ}
use Rattle.mill_base.specs.declared.motion.Kind.{Kind}
use Rattle.mill_base.specs.declared.motion.Kind.TheVariants as motion
use Rattle.mill_sweep.specs.declared.leaf.Leaf.{Leaf}
use Rattle.mill_dexel.specs.declared.fail.RowTest.{RowTest}
use Rattle.mill_dexel.specs.declared.fail.RowTest.TheVariants as test
use Rattle.mill_verify.specs.declared.clash.Clash.{Clash}
use Rattle.mill_verify.specs.declared.clash.Clash.TheVariants as clash
use Rattle.mill_verify.specs.declared.verdict.Reason.{Reason}
use Rattle.mill_verify.specs.declared.verdict.Reason.TheVariants.{Gouge, Holder, Fixture, HolderFixture, Rapid, Cut, HolderStock}

-- why the part or a fixture stops a move
abbrev pub clash_reason : ℕ → Clash → Reason
clash_reason t (clash.Cutter gouge) = Gouge t gouge.tri gouge.leaf
clash_reason t (clash.Holder gouge) = Holder t gouge.tri gouge.leaf
clash_reason t (clash.Fixture hit) = Fixture t hit.fixture hit.leaf
clash_reason t (clash.HolderFixture hit) = HolderFixture t hit.fixture hit.leaf

-- why a column stops the cutter on a move of this kind
abbrev pub cut_reason : Kind → ℕ → ℕ → ℕ → Leaf → Reason
cut_reason motion.Rapid t j i leaf = Rapid t j i leaf
cut_reason motion.Feed t j i leaf = Cut t j i leaf
cut_reason motion.Dogleg t j i leaf = Rapid t j i leaf

-- why it stops the cutter or the holder
abbrev pub stock_reason : RowTest → Kind → ℕ → ℕ → ℕ → Leaf → Reason
stock_reason test.Cut kind t j i leaf = cut_reason kind t j i leaf
stock_reason test.Holder kind t j i leaf = HolderStock t j i leaf
