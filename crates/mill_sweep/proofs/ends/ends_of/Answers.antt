use Rattle.std.proofs.Common.{◌≡◌, ◌∙◌, ◌+◌, ◌^◌, ◌-ℤ◌, arith, [], ◌∷◌, refl, w32, w64}
use Rattle.mill_base.proofs.Machine.{Read, Sum, exact, kept}
use Rattle.mill_sweep.specs.Leaves.{end_of}
use Rattle.mill_sweep.proofs.Rest.{next_end}
use Rattle.mill_sweep.proofs.Spans.{tip_end_within}
use Rattle.mill_sweep.specs.Widths.{highest_end, highest_tip}
use Rattle.mill_sweep.proofs.ends.ends_of.Goals as goal

pub returns-clause-last : goal.returns-clause-last
returns-clause-last c =
    let keep_from = kept w32 c.args.from highest_tip c.requires.from_ok.within refl in
    let keep_to = kept w32 c.args.to highest_tip c.requires.to_ok.within refl in
    let first : c.tip_end_at-first.result ≡ end_of c.args.from c.args.to c.args.leaf.d c.args.leaf.k = rw (keep_from, keep_to) at c.tip_end_at-first.ensures.value in
    let moved : c.offset.result ≡ c.args.to -ℤ c.args.from = rw (keep_from, keep_to) at c.offset.ensures.value in
    exact (c.tip_end_at-first.result ∷ c.offset.result ∷ []) (highest_end ∷ 2 ^ 32 ∷ []) (Sum w64 (Read w64 0) (Read w64 1)) (c.tip_end_at-first.ensures.bound.within, (c.offset.ensures.bound.within, tt)) refl
    ∙ rw (first, moved) (next_end c.args.from c.args.to c.args.leaf.d c.args.leaf.k)

pub returns-clause-last_within : goal.returns-clause-last_within
returns-clause-last_within c =
    let inside = c.requires.k_ok in
    rw (returns-clause-last c) (tip_end_within c.args.from c.args.to c.args.leaf.d (c.args.leaf.k + 1) c.requires.from_ok.within c.requires.to_ok.within (omega arith))
