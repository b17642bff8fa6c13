-- One letter is that of each column.
use Rattle.std.proofs.Common.{ap, ◌∙◌}
use Rattle.std.specs.Prelude.{slice_set}
use Rattle.ternary.specs.declared.tern.Tern.{Tern}
use Rattle.cosmos_session.proofs.truths.put_alike.Goals as goal

pub returns-clause-states : goal.returns-clause-states
returns-clause-states g c = λ column inside.
    c.put_given.ensures.states column inside
    ∙ ap (λ (letter : Tern). slice_set (g.M.Columns.states c.args.stage.now column) c.args.node letter) (c.alike-given.ensures.letter column inside)
