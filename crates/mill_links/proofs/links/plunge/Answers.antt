use Rattle.std.specs.Prelude.{◌≡◌, ℕ, suc, ◌+◌, ◌-◌, ◌<◌, ◌≤◌, ℤ, ◌-ℤ◌, ◌<ℤ◌, ◌≤ℤ◌, [], ◌∷◌, ◌++◌}
use Rattle.std.proofs.Common.{rules, sym, ap, ◌∙◌, subst, to_z, of_z, w32, arith}
use Rattle.std.proofs.lemmas.Int.{ints, to_z-of_z}
use Rattle.mill_base.specs.declared.motion.Move.{Move}
use Rattle.mill_links.specs.Links.{at_height, feed_to, over_stock}
use Rattle.mill_links.proofs.Joining.{ok_gives, on_either, on_on, on_same}
use Rattle.mill_links.proofs.Kept.{fits_within, limit_stored, unit_coordinate}
use Rattle.mill_links.proofs.Plunging.{Plunges, at_first, at_last, one_more, one_within}
use Rattle.mill_links.proofs.links.plunge.Goals as goal

-- so many are left, and one fewer after one more
left : (n k : ℕ) → k < n → n - k ≡ suc (n - (k + 1))
left n k inside = omega (inside, arith)

none_left : (n k : ℕ) → n ≤ k → n - k ≡ 0
none_left n k past = omega (past, arith)

less : (a b : ℤ) → a <ℤ b → a ≤ℤ b
less a b h = omega (h, arith, ints)

some : (n k : ℕ) → k < n → 0 < n
some n k inside = omega (inside, arith)

pub overflow_sub-low : goal.overflow_sub-low
overflow_sub-low c =
    let job = c.args.job.now.fields in
    let n = c.peck_count-end.result in
    let start = to_z w32 c.loop.start-bits in
    let z = to_z w32 c.loop.low-bits in
    let under = less c.args.at.z job.top (c.peck_count-end.ensures.under (some n c.loop.counter c.loop-test.true)) in
    let so_far = subst (λ m. Plunges job c.args.at c.args.out.now.items c.loop.out.items m start z) (left n c.loop.counter c.loop-test.true) c.loop.invariant in
    rw (limit_stored job c.args.job.now.is_job)
    (fits_within _ (one_within job c.args.at c.args.out.now.items c.args.job.now.is_job c.loop.out.items (n - (c.loop.counter + 1)) start z c.requires.z_ok under so_far))

all_left : (n : ℕ) → n - 0 ≡ n
all_left n = omega arith

pub loop-init : goal.loop-init
loop-init c =
    let job = c.args.job.now.fields in
    let old = c.args.out.now.items in
    let count = c.peck_count-end.ensures.value in
    let start = to_z-of_z w32 c.over_stock-start.result (search rules) ∙ c.over_stock-start.ensures.value in
    rw (unit_coordinate job.unit job.top c.args.job.now.is_job.top_ok)
    (subst (λ (h : ℤ). Plunges job c.args.at old old (c.peck_count-end.result - 0) h job.top) (sym start)
    (subst (λ n. Plunges job c.args.at old old n (over_stock job) job.top) (sym (all_left c.peck_count-end.result ∙ count))
    (at_first job c.args.at old c.args.job.now.is_job)))

pub loop-preserved : goal.loop-preserved
loop-preserved c =
    let job = c.args.job.now.fields in
    let n = c.peck_count-end.result in
    let rest = n - (c.loop.counter + 1) in
    let start = to_z w32 c.loop.start-bits in
    let z = to_z w32 c.loop.low-bits in
    let under = less c.args.at.z job.top (c.peck_count-end.ensures.under (some n c.loop.counter c.loop-test.true)) in
    let so_far = subst (λ m. Plunges job c.args.at c.args.out.now.items c.loop.out.items m start z) (left n c.loop.counter c.loop-test.true) c.loop.invariant in
    let within = one_within job c.args.at c.args.out.now.items c.args.job.now.is_job c.loop.out.items rest start z c.requires.z_ok under so_far in
    let low : to_z w32 (of_z w32 (z -ℤ to_z w32 (of_z w32 job.max_cut))) ≡ z -ℤ job.max_cut =
    ap (λ d. to_z w32 (of_z w32 (z -ℤ d))) (limit_stored job c.args.job.now.is_job) ∙ to_z-of_z w32 (z -ℤ job.max_cut) (fits_within (z -ℤ job.max_cut) within) in
    let end = c.at_height-in-loop.ensures ∙ ap (λ h. at_height c.args.at h) low in
    let step = c.feed_to.ensures ∙ ap (λ p. feed_to p c.at_height-in-loop.result) c.at_height.ensures ∙ ap (λ p. feed_to (at_height c.args.at start) p) end in
    subst (λ h. Plunges job c.args.at c.args.out.now.items c.add.new.out.items rest h h) (sym low)
    (one_more job c.args.at c.args.out.now.items c.args.job.now.is_job c.loop.out.items c.add.new.out.items rest start z under so_far
    (subst (λ (m : Move). c.add.new.out.items ≡ c.loop.out.items ++ m ∷ []) step c.in_ok-add.ensures.ok))

pub returns-clause-ok : goal.returns-clause-ok
returns-clause-ok c =
    let job = c.args.job.now.fields in
    let start = to_z w32 c.loop.start-bits in
    let z = to_z w32 c.loop.low-bits in
    let so_far = subst (λ m. Plunges job c.args.at c.args.out.now.items c.loop.out.items m start z) (none_left c.peck_count-end.result c.loop.counter c.loop-test.false) c.loop.invariant in
    let step = c.feed_to-2.ensures ∙ ap (λ p. feed_to p c.args.at) c.at_height-2.ensures in
    ok_gives c.add-2.result (λ added. at_last job c.args.at c.args.out.now.items c.args.job.now.is_job c.loop.out.items c.add-2.new.out.items start z so_far
    (subst (λ (m : Move). c.add-2.new.out.items ≡ c.loop.out.items ++ m ∷ []) step added)) c.add-2.ensures.ok

pub returns-clause-on : goal.returns-clause-on
returns-clause-on c = on_on _ _ _ c.loop.invariant.on (on_either c.add-2.result _ _ _ c.add-2.ensures.ok c.add-2.ensures.err)

pub returns-in_err-add-clause-on : goal.returns-in_err-add-clause-on
returns-in_err-add-clause-on c = on_on _ _ _ c.loop.invariant.on (on_same _ _ c.in_err-add.ensures.err)
