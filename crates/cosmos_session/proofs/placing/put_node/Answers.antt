-- One letter is that of the one column.
use Rattle.std.proofs.Common.{inl, refl, ◌∙◌}
use Rattle.column_stage.proofs.SoundLemmas.{first_inside, sound_alone}
use Rattle.session_meaning.proofs.ActLemmas.{sound_put}
use Rattle.cosmos_session.proofs.placing.put_node.Goals as goal

pub place-requires-clause-sound : goal.place-requires-clause-sound
place-requires-clause-sound g c =
    sound_alone c.args.graph.now (g.M.Columns.columns c.args.stage.now) (g.M.Columns.states c.args.stage.now) c.requires.one c.requires.sound

pub place-requires-clause-letters : goal.place-requires-clause-letters
place-requires-clause-letters g c = inl refl

pub returns-clause-one : goal.returns-clause-one
returns-clause-one g c = c.place.ensures.columns ∙ c.requires.one

pub returns-clause-state : goal.returns-clause-state
returns-clause-state g c = c.place.ensures.states 0 (first_inside (g.M.Columns.columns c.args.stage.now) c.requires.one)

pub returns-clause-sound : goal.returns-clause-sound
returns-clause-sound g c =
    sound_put c.args.graph.now c.args.node c.args.value _ _ c.requires.no_rail
    (c.place.ensures.states 0 (first_inside (g.M.Columns.columns c.args.stage.now) c.requires.one)) c.requires.sound
