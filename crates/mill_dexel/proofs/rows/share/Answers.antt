use Rattle.std.proofs.Common.{◌≡◌, ◌∙◌, ℕ, ◌+◌, ◌*◌, ◌/◌, ◌%◌, ◌<◌, sym, ap, arith}
use Rattle.std.proofs.Math.Nat.{div-add-mod', mul-add-div_right}
use Rattle.mill_dexel.proofs.rows.share.Goals as goal

-- a part of a whole number of rounds and of what is left over
shared : (count some workers : ℕ) → 0 < workers → count / workers * some + count % workers * some / workers ≡ count * some / workers
shared count some workers h =
    sym (mul-add-div_right h (count / workers * some) (count % workers * some))
    ∙ ap (λ (n : ℕ). n / workers) (whole (count / workers) (count % workers) (div-add-mod' count workers))
  where
    whole : (q r : ℕ) → q * workers + r ≡ count → q * some * workers + r * some ≡ count * some
    whole q r e = rw (sym e) (omega arith)

pub returns-clause-value : goal.returns-clause-value
returns-clause-value c = shared c.args.count c.args.some c.args.workers c.requires.workers
