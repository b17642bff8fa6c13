use Rattle.session_meaning.proofs.EditLemmas.{input_made}
use Rattle.cosmos_session.proofs.edits.put_input.Goals as goal

pub returns : goal.returns
returns c =
    input_made c.args.node c.make_input-made.result _ c.requires.past c.make_input-made.ensures.answer c.make_input-made.ensures.ok
