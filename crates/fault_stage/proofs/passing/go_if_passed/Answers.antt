-- The phase that began so is taken again.
use Rattle.fault_stage.proofs.passing.go_if_passed.Goals as goal

pub go_again-requires-clause-inside : goal.go_again-requires-clause-inside
go_again-requires-clause-inside c = c.in-Some.ensures.inside

pub returns-in-Some-clause-some : goal.returns-in-Some-clause-some
returns-in-Some-clause-some c = c.go_again.ensures c.args.state.now c.args.limit c.in-Some.ensures
