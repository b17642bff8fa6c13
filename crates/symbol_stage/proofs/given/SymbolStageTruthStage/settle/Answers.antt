-- It fits the graph either way, and tells what is so.
use Rattle.symbol_stage.proofs.StayingLemmas.{sound_fitting}
use Rattle.symbol_stage.proofs.given.SymbolStageTruthStage.settle.Goals as goal

pub returns-clause-sound : goal.returns-clause-sound
returns-clause-sound c = sound_fitting c.args.graph.now c.settle_all.new.self c.settle_all.ensures.fits

pub returns-clause-spent : goal.returns-clause-spent
returns-clause-spent c = c.settle_all.ensures.spent
