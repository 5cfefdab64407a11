use Rattle.std.proofs.Common.{◌≡◌, ◌-◌, ◌∙◌, length, sym, ap}
use Rattle.std.specs.Prelude.{slice_get, option_copied, Some}
use Rattle.mill_paths.proofs.Changes.{one_change, no_change}
use Rattle.mill_paths.proofs.visit_list.VisitList.is_changed_by.Goals as goal

pub returns-in-Some-clause-yes : goal.returns-in-Some-clause-yes
returns-in-Some-clause-yes c =
    let items = c.deref.ensures.value in
    let is : slice_get c.args.self.now.visits.items (length c.args.self.now.visits.items - 1) ≡ Some c.in-Some.last.now = rw (← items) (sym c.last.ensures.value ∙ ap option_copied c.in-Some.is) in
    one_change c.args.self.now.visits.items c.in-Some.last.now c.args.visit c.ne.result is c.ne.ensures

pub returns-in-Some-clause-no : goal.returns-in-Some-clause-no
returns-in-Some-clause-no c =
    let items = c.deref.ensures.value in
    let is : slice_get c.args.self.now.visits.items (length c.args.self.now.visits.items - 1) ≡ Some c.in-Some.last.now = rw (← items) (sym c.last.ensures.value ∙ ap option_copied c.in-Some.is) in
    no_change c.args.self.now.visits.items c.in-Some.last.now c.args.visit c.ne.result is c.ne.ensures
