-- A column gets its letter, at a node past the rails.
use Rattle.cosmos_session.proofs.StageLemmas.{sounds_put}
use Rattle.cosmos_session.proofs.truths.put_given.Goals as goal

pub returns-clause-keeps : goal.returns-clause-keeps
returns-clause-keeps g c =
    let old = c.args.stage.now in
    let e = c.put.ensures in
    record {
      count = e.columns;
      sound = sounds_put g.M.Columns.columns g.M.Columns.states c.args.graph.now c.args.node (g.M.TruthStage.letter_of old c.args.given) old c.put.new.self
          c.requires.no_rail e.columns e.states c.requires.sound;
      texts = e.last;
      serving = e.serves;
      fitting = e.fits;
    }
