-- The nodes that are given states are no rails.
use Rattle.cosmos_session.proofs.LetterLemmas.{values_done, values_past}
use Rattle.cosmos_session.proofs.session.Session.give_values.Goals as goal

pub put_assigned-requires-clause-within : goal.put_assigned-requires-clause-within
put_assigned-requires-clause-within g c = rw (c.values_noted.ensures.same, c.deref.ensures.value) c.in_ok-states.ensures.within

pub put_assigned-requires-clause-past : goal.put_assigned-requires-clause-past
put_assigned-requires-clause-past g c =
    rw (c.deref.ensures.value, c.in_ok-states.ensures.states) (values_past c.args.kind c.args.self.now.core c.args.list.now c.in_ok-states.ensures.allowed)

pub returns-clause-quiet : goal.returns-clause-quiet
returns-clause-quiet g c =
    values_done c.args.kind c.args.self.now.core c.put_assigned.new.self.core c.args.list.now c.in_ok-states.ensures.allowed
    (rw (c.values_noted.ensures.same, c.deref.ensures.value, c.in_ok-states.ensures.states) at c.put_assigned.ensures.state)

pub returns-clause-stage : goal.returns-clause-stage
returns-clause-stage g c = rw (c.values_noted.ensures.same, c.deref.ensures.value, c.in_ok-states.ensures.states) at c.put_assigned.ensures.stage
