-- All that nodes are given is made, and then they are given it.
use Rattle.std.proofs.Common.{ℕ, ◌<◌, All, subst, sym, ◌∙◌}
use Rattle.switch_paths.specs.Graphs.{nodes}
use Rattle.column_stage.proofs.GivenLemmas.{keeps_more}
use Rattle.symbol_stage.specs.declared.given.Letters.{Letters}
use Rattle.symbol_stage.specs.Given.{GivesLetters, letter_given}
use Rattle.symbol_stage.specs.Stages.{bound_in, columns_on}
use Rattle.session_meaning.specs.Sessions.{SessionData}
use Rattle.session_meaning.specs.Truths.{GivenInAll, letters_in_column}
use Rattle.symbol_giving.specs.Giving.{data_of}
use Rattle.symbol_giving.proofs.LetterLemmas.{only_columns, only_keeps}
use Rattle.symbol_giving.proofs.GivingLemmas.{command_given, given_past, given_quietly, given_within, graph_gives, graph_lacks, graph_spent}
use Rattle.symbol_giving.proofs.giving.give_allowed.Goals as goal

pub all_letters-requires-clause-given : goal.all_letters-requires-clause-given
all_letters-requires-clause-given c = command_given c.requires.allowed.0 c.args.list.now c.args.session.now.core c.requires.allowed.1

pub give_in_all-requires-clause-within : goal.give_in_all-requires-clause-within
give_in_all-requires-clause-within c =
    let old = c.args.session.now in
    let mid = c.all_letters.new.session in
    let (kind, none) = c.requires.allowed in
    let held = c.circuit-circuit.ensures.session in
    let all = given_within kind c.args.table.now c.args.list.now old mid c.all_letters.ensures.only none c.in-Ok.pairs.items c.in-Ok.ensures.states
    held.core.ready.netlist held.core.vectors in
    subst (λ (core : SessionData). All (λ (pair : ℕ × Letters). pair.0 < nodes core.circuit.graph) c.deref.result.now) (sym c.all_letters.ensures.only.core)
    (rw c.deref.ensures.value all)

pub give_in_all-requires-clause-past : goal.give_in_all-requires-clause-past
give_in_all-requires-clause-past c =
    let (kind, none) = c.requires.allowed in
    rw c.deref.ensures.value
    (given_past kind c.args.table.now c.args.list.now c.args.session.now c.all_letters.new.session c.all_letters.ensures.only none c.in-Ok.pairs.items
    c.in-Ok.ensures.states)

pub give_in_all-requires-clause-own : goal.give_in_all-requires-clause-own
give_in_all-requires-clause-own c = rw c.deref.ensures.value c.in-Ok.ensures.own

pub returns-in-Ok-clause-gives : goal.returns-in-Ok-clause-gives
returns-in-Ok-clause-gives c = λ kind none.
    let old = c.args.session.now in
    let mid = c.all_letters.new.session in
    let new = c.give_in_all.new.self in
    let done : GivenInAll (columns_on mid.stage) (data_of mid) (data_of new) (letters_in_column letter_given mid.stage c.in-Ok.pairs.items) =
    rw c.deref.ensures.value at c.give_in_all.ensures.given in
    given_quietly kind c.args.table.now c.args.list.now old mid c.all_letters.ensures.only none c.in-Ok.pairs.items c.in-Ok.ensures.states new done

pub returns-in-Ok-clause-kept : goal.returns-in-Ok-clause-kept
returns-in-Ok-clause-kept c =
    let old = c.args.session.now in
    let mid = c.all_letters.new.session in
    let only = c.all_letters.ensures.only in
    keeps_more columns_on GivesLetters letter_given bound_in old.stage mid.stage c.give_in_all.new.self.stage (only_columns old mid only) (only_keeps old mid only)
    c.give_in_all.ensures.kept

pub returns-in-Ok-clause-columns : goal.returns-in-Ok-clause-columns
returns-in-Ok-clause-columns c =
    c.give_in_all.ensures.columns ∙ only_columns c.args.session.now c.all_letters.new.session c.all_letters.ensures.only

pub returns-in-Err-clause-gives : goal.returns-in-Err-clause-gives
returns-in-Err-clause-gives c = λ kind none.
    rw c.giving_fault.ensures
    (graph_gives kind c.args.table.now c.args.list.now c.args.session.now c.all_letters.new.session c.in-Err.fault c.all_letters.ensures.only none)

pub returns-in-Err-clause-lacks : goal.returns-in-Err-clause-lacks
returns-in-Err-clause-lacks c = rw c.giving_fault.ensures (graph_lacks c.in-Err.fault)

pub returns-in-Err-clause-kept : goal.returns-in-Err-clause-kept
returns-in-Err-clause-kept c = only_keeps c.args.session.now c.all_letters.new.session c.all_letters.ensures.only

pub returns-in-Err-clause-columns : goal.returns-in-Err-clause-columns
returns-in-Err-clause-columns c = only_columns c.args.session.now c.all_letters.new.session c.all_letters.ensures.only

pub returns-in-Err-clause-spent : goal.returns-in-Err-clause-spent
returns-in-Err-clause-spent c = rw c.giving_fault.ensures (graph_spent c.all_letters.new.session.stage c.in-Err.fault c.in-Err.ensures.spent)
