-- States are kept; what else is set is the same in each column.
use Rattle.symbol_session.proofs.SettingLemmas.{shared_setup}
use Rattle.symbol_session.proofs.session.SymbolSession.set_up.Goals as goal

pub set_up_alike-requires : goal.set_up_alike-requires
set_up_alike-requires c = (c.requires.0, shared_setup c.args.setup.now c.requires.1 c.in_default.not-Save)

pub returns-in-Save-clause-quiet : goal.returns-in-Save-clause-quiet
returns-in-Save-clause-quiet c = rw c.in-Save.is c.save.ensures.quiet
