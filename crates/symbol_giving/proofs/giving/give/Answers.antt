-- A refusal changes nothing, and what isn't refused is given.
use Rattle.std.proofs.Common.{refl}
use Rattle.column_stage.proofs.GivenLemmas.{keeps_none}
use Rattle.symbol_stage.specs.Given.{GivesLetters, letter_given}
use Rattle.symbol_stage.specs.Stages.{bound_in, columns_on}
use Rattle.session_meaning.specs.Refusals.{refusal_of}
use Rattle.std.proofs.lemmas.Result.{IfErr-weaker}
use Rattle.symbol_giving.specs.Giving.{stand_command}
use Rattle.symbol_giving.proofs.LetterLemmas.{only_none}
use Rattle.symbol_giving.proofs.GivingLemmas.{fault_gives, fault_refused, fault_spent, lack_refused}
use Rattle.symbol_giving.proofs.giving.give.Goals as goal

pub give_allowed-requires-clause-allowed : goal.give_allowed-requires-clause-allowed
give_allowed-requires-clause-allowed c = (c.args.kind, rw c.items.ensures c.in-Ok.ensures.allowed)

pub returns-in-Ok-clause-gives : goal.returns-in-Ok-clause-gives
returns-in-Ok-clause-gives c = (rw c.items.ensures at c.give_allowed.ensures.gives) c.args.kind c.in-Ok.ensures.allowed

pub returns-in-Ok-clause-refused : goal.returns-in-Ok-clause-refused
returns-in-Ok-clause-refused c =
    IfErr-weaker c.give_allowed.result _ _ (lack_refused c.args.session.now c.give_allowed.new.session) c.give_allowed.ensures.lacks

pub returns-in-Err-clause-gives : goal.returns-in-Err-clause-gives
returns-in-Err-clause-gives c = fault_gives c.args.kind c.args.table.now c.args.list.now c.args.session.now c.in-Err.fault c.in-Err.ensures.refused

pub returns-in-Err-clause-refused : goal.returns-in-Err-clause-refused
returns-in-Err-clause-refused c = fault_refused c.args.session.now c.in-Err.fault

pub returns-in-Err-clause-only : goal.returns-in-Err-clause-only
returns-in-Err-clause-only c = only_none c.args.session.now

pub returns-in-Err-clause-kept : goal.returns-in-Err-clause-kept
returns-in-Err-clause-kept c = keeps_none columns_on GivesLetters letter_given bound_in c.args.session.now.stage

pub returns-in-Err-clause-columns : goal.returns-in-Err-clause-columns
returns-in-Err-clause-columns c = refl

pub returns-in-Err-clause-spent : goal.returns-in-Err-clause-spent
returns-in-Err-clause-spent c =
    let core = c.args.session.now.core in
    fault_spent (refusal_of core (stand_command c.args.kind c.args.list.now core)) c.args.session.now.stage c.in-Err.fault c.in-Err.ensures.refused
