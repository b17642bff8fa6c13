-- One letter is that of each column.
use Rattle.std.proofs.Common.{inl, refl}
use Rattle.cosmos_session.proofs.StageLemmas.{sounds_put}
use Rattle.cosmos_session.proofs.placing.put_in_all.Goals as goal

pub place-requires-clause-letters : goal.place-requires-clause-letters
place-requires-clause-letters g c = inl refl

pub returns-clause-states : goal.returns-clause-states
returns-clause-states g c = λ column inside. c.place.ensures.states column inside

pub returns-clause-keeps : goal.returns-clause-keeps
returns-clause-keeps g c =
    let e = c.place.ensures in
    record {
      count = e.columns;
      sound = sounds_put g.M.Columns.columns g.M.Columns.states c.args.graph.now c.args.node (λ column. c.args.letter) c.args.stage.now c.place.new.self
          c.requires.no_rail e.columns (λ column inside. e.states column inside) c.requires.sound;
      texts = e.last;
      serving = e.serves;
      fitting = e.fits;
    }
