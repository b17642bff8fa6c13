-- If it is broken off, a right run may have ended so.
use Rattle.run_ends.specs.declared.stop.Stop.TheVariants.{Memory}
use Rattle.symbol_run.specs.declared.session.SymbolFault.TheVariants.{Stopped}
use Rattle.symbol_app.proofs.SymbolLemmas.{broken_at_start, each_fault}
use Rattle.symbol_app.proofs.symbols.session_at_start.Goals as goal

pub returns-in-Ok-clause-broken : goal.returns-in-Ok-clause-broken
returns-in-Ok-clause-broken c =
    each_fault c.start.result (λ why among. broken_at_start c.symbolic_scripts_have_answers.ensures c.args.text.now c.args.circuit why c.requires.circuit among)
    c.start.ensures.among

pub returns-in-Err-clause-broken : goal.returns-in-Err-clause-broken
returns-in-Err-clause-broken c =
    broken_at_start c.symbolic_scripts_have_answers.ensures c.args.text.now c.args.circuit (Stopped Memory) c.requires.circuit tt
