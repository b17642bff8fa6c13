-- It fits the graph either way, and tells what is so.
use Rattle.symbol_stage.proofs.StayingLemmas.{sound_fitting}
use Rattle.symbol_stage.proofs.given.SymbolStageTruthStage.step.Goals as goal

pub returns-clause-sound : goal.returns-clause-sound
returns-clause-sound c = sound_fitting c.args.graph.now c.step_all.new.self c.step_all.ensures.fits

pub returns-clause-spent : goal.returns-clause-spent
returns-clause-spent c = c.step_all.ensures.spent
