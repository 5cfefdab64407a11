use Rattle.std.proofs.Common.{◌≡◌, ◌∙◌, ◌++◌, [], ◌∷◌, rules, true, false, ap}
use Rattle.mill_job.specs.Columns.{home}
use Rattle.mill_job.specs.Habits.{is_elsewhere}
use Rattle.mill_links.specs.Links.{rapid_to, stay}
use Rattle.mill_links.proofs.Heads.{adds_none, adds_two}
use Rattle.mill_links.proofs.begin.head.Goals as goal

pub returns-then-not-is_elsewhere-clause-ok : goal.returns-then-not-is_elsewhere-clause-ok
returns-then-not-is_elsewhere-clause-ok c =
    let is : is_elsewhere c.args.job.now.fields.start ≡ false = search rules in
    adds_none c.args.job.now.fields c.args.out.now.items is

pub returns-clause-ok : goal.returns-clause-ok
returns-clause-ok c =
    let job = c.args.job.now.fields in
    let is : is_elsewhere c.args.job.now.fields.start ≡ true = search rules in
    let waits : c.rapid_to-stay.result ≡ stay (home job) =
    c.rapid_to-stay.ensures ∙ ap (λ p. rapid_to p c.home-2.result) c.home.ensures.value ∙ ap (λ p. rapid_to (home job) p) c.home-2.ensures.value in
    let added : c.extend_from_slice.new.self.items ≡ c.args.out.now.items ++ c.rapid_to-stay.result ∷ c.rapid_to-stay.result ∷ [] = search rules in
    adds_two job c.args.out.now.items c.extend_from_slice.new.self.items c.rapid_to-stay.result is waits added
