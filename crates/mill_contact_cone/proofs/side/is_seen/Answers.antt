use Rattle.mill_contact_cone.proofs.side.is_seen.Goals as goal

pub touches_edge-requires-clause-p_is : goal.touches_edge-requires-clause-p_is
touches_edge-requires-clause-p_is c = rw c.flattened.ensures.value c.requires.p_is

pub touches_edge-requires-clause-q_is : goal.touches_edge-requires-clause-q_is
touches_edge-requires-clause-q_is c = rw c.flattened-2.ensures.value c.requires.q_is

pub returns-clause-yes : goal.returns-clause-yes
returns-clause-yes c = λ h. rw (c.flattened.ensures.value, c.flattened-2.ensures.value) at (c.touches_edge.ensures.yes h)

pub returns-clause-no : goal.returns-clause-no
returns-clause-no c = λ h. rw (c.flattened.ensures.value, c.flattened-2.ensures.value) at (c.touches_edge.ensures.no h)

pub touches_edge-requires-clause-p_out : goal.touches_edge-requires-clause-p_out
touches_edge-requires-clause-p_out c = rw c.flattened.ensures.value c.requires.p_out

pub touches_edge-requires-clause-q_out : goal.touches_edge-requires-clause-q_out
touches_edge-requires-clause-q_out c = rw c.flattened-2.ensures.value c.requires.q_out
