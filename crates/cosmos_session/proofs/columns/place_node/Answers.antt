-- A column gets its letter, at a node past the rails.
use Rattle.column_stage.specs.Columns.{letter_in}
use Rattle.cosmos_session.proofs.StageLemmas.{sounds_put}
use Rattle.cosmos_session.proofs.columns.place_node.Goals as goal

pub returns-clause-sound : goal.returns-clause-sound
returns-clause-sound g c =
    sounds_put g.M.Columns.columns g.M.Columns.states c.args.graph.now c.args.node (λ column. letter_in column c.args.letters.now) c.args.stage.now
    c.place.new.self c.requires.no_rail c.place.ensures.columns c.place.ensures.states c.requires.sound
