use Rattle.mill_contact_cone.proofs.side.is_corner_seen.Goals as goal

pub returns-clause-yes : goal.returns-clause-yes
returns-clause-yes c = λ h. rw c.flattened.ensures.value at (c.holds.ensures.yes h)

pub returns-clause-no : goal.returns-clause-no
returns-clause-no c = λ h. rw c.flattened.ensures.value at (c.holds.ensures.no h)
