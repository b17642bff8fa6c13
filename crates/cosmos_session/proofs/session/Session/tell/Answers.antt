use Rattle.cosmos_session.proofs.session.Session.tell.Goals as goal

pub returns-in-Expect-clause-obeys : goal.returns-in-Expect-clause-obeys
returns-in-Expect-clause-obeys g c = λ texts. rw c.in-Expect.is (c.expect.ensures.obeys texts)

pub returns-in-Show-clause-obeys : goal.returns-in-Show-clause-obeys
returns-in-Show-clause-obeys g c = λ texts. rw c.in-Show.is (c.show.ensures.obeys texts)

pub returns-in-Look-clause-obeys : goal.returns-in-Look-clause-obeys
returns-in-Look-clause-obeys g c = λ texts. rw c.in-Look.is (c.look.ensures.obeys texts)
