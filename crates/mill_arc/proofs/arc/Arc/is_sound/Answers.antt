use Rattle.std.proofs.Common.{◌≡◌, ◌∙◌, Bool, true, false, sym, refl, rules}
use Rattle.std.specs.Prelude.{◌^◌, pos, ◌<ℤ◌, IsTrue}
use Rattle.mill_arc.specs.Vectors.{dot}
use Rattle.mill_arc.proofs.Soundness.{round_is}
use Rattle.mill_arc.proofs.arc.Arc.is_sound.Goals as goal

is_true : (b : Bool) → IsTrue b → b ≡ true
is_true true h = refl
is_true false h = absurd (search rules)

pub returns-then-dot-clause-yes : goal.returns-then-dot-clause-yes
returns-then-dot-clause-yes c =
    let short : dot c.args.self.now.«end» c.args.self.now.«end» <ℤ pos (2 ^ 62) = search rules in
    λ h. round_is c.args.self.now short (sym c.is_round.ensures.value ∙ is_true _ h)
