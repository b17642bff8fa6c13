-- The formula's letters are made, and the first of them stands behind the others for the name.
use Rattle.std.proofs.Common.{ap, sym, subst, ◌∙◌}
use Rattle.symbol_lines.specs.declared.commands.SymbolCommand.TheVariants as command
use Rattle.symbol_script.specs.declared.line.SymbolLine.TheVariants as asks
use Rattle.symbol_equiv.specs.Sharing.{KeepsFunctions}
use Rattle.symbol_session.specs.Sessions.{SymbolData, data_of, maker_of}
use Rattle.symbol_session.proofs.FaultLemmas.{graph_own, memory_own}
use Rattle.symbol_session.proofs.MadeLemmas.{accepted_names, next_added}
use Rattle.symbol_session.proofs.session.SymbolSession.define_new.Goals as goal

pub add_name-requires-clause-fresh : goal.add_name-requires-clause-fresh
add_name-requires-clause-fresh c = rw c.letters_of_formula.ensures.table c.requires

pub add_name-requires-clause-inside : goal.add_name-requires-clause-inside
add_name-requires-clause-inside c = c.in-Ok.ensures.inside

pub returns-in-Ok-clause-quiet : goal.returns-in-Ok-clause-quiet
returns-in-Ok-clause-quiet c = ap (λ (d : SymbolData). d.quiet) c.add_name.ensures.others ∙ c.letters_of_formula.ensures.stays.quiet

pub returns-in-Ok-clause-text : goal.returns-in-Ok-clause-text
returns-in-Ok-clause-text c = ap (λ (d : SymbolData). d.text) c.add_name.ensures.others ∙ c.letters_of_formula.ensures.stays.text

pub returns-in-Ok-clause-same : goal.returns-in-Ok-clause-same
returns-in-Ok-clause-same c = λ column inside.
    ap (λ (d : SymbolData). data_of d column) c.add_name.ensures.others ∙ c.letters_of_formula.ensures.same column inside

pub returns-in-Ok-clause-names : goal.returns-in-Ok-clause-names
returns-in-Ok-clause-names c =
    accepted_names c.args.self.now.names.names (asks.Names (command.Let c.args.name.now c.args.formula.now)) c.add_name.result c.add_name.ensures.accepted

pub returns-in-Ok-clause-next : goal.returns-in-Ok-clause-next
returns-in-Ok-clause-next c =
    next_added c.args.self.now c.letters_of_formula.new.self c.add_name.new.self c.is_well_formed.ensures.own c.letters_of_formula.ensures.keeps
    c.letters_of_formula.ensures.table c.args.name.now c.args.formula.now c.in-Ok.letters.hi c.add_name.ensures.others c.in-Ok.ensures.truth c.add_name.result
    c.add_name.ensures.ok

pub returns-in-Ok-clause-keeps : goal.returns-in-Ok-clause-keeps
returns-in-Ok-clause-keeps c =
    subst (λ (d : SymbolData). KeepsFunctions (maker_of c.args.self.now) (maker_of d)) (sym c.add_name.ensures.others) c.letters_of_formula.ensures.keeps

pub returns-in-Ok-clause-own : goal.returns-in-Ok-clause-own
returns-in-Ok-clause-own c = memory_own c.args.number c.add_name.result c.add_name.ensures.memory

pub returns-in-Err-clause-quiet : goal.returns-in-Err-clause-quiet
returns-in-Err-clause-quiet c = c.letters_of_formula.ensures.stays.quiet

pub returns-in-Err-clause-text : goal.returns-in-Err-clause-text
returns-in-Err-clause-text c = c.letters_of_formula.ensures.stays.text

pub returns-in-Err-clause-next : goal.returns-in-Err-clause-next
returns-in-Err-clause-next c = λ accepted. absurd (cc)

pub returns-in-Err-clause-own : goal.returns-in-Err-clause-own
returns-in-Err-clause-own c = rw c.fault_at.ensures (graph_own c.args.number c.in-Err.fault)
