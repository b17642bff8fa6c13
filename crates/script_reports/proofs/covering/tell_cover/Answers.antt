-- There are notes of each node, and the cover is the text that is written.
use Rattle.std.proofs.Common.{inr, refl, ◌∙◌}
use Rattle.state_cover.specs.Lines.{cover_text}
use Rattle.run_ends.specs.Answers.{plain_answer}
use Rattle.run_ends.specs.declared.status.Status.TheVariants as status
use Rattle.script_reports.proofs.covering.tell_cover.Goals as goal

pub write_cover-requires : goal.write_cover-requires
write_cover-requires g c = rw c.circuit.ensures.value (c.requires ∙ c.circuit.ensures.session.core.ready.states)

pub returns-in-Ok-clause-told : goal.returns-in-Ok-clause-told
returns-in-Ok-clause-told g c = record {
  answer = plain_answer status.Done (cover_text c.args.session.now.core.circuit c.args.cover.now);
  right = record { count = c.requires ∙ c.circuit.ensures.session.core.ready.states; told = refl };
  ended = refl;
  grew = (rw c.circuit.ensures.value at c.in-Ok.ensures.text);
}

pub returns-in-Err-clause-told : goal.returns-in-Err-clause-told
returns-in-Err-clause-told g c =
    inr (record {
      answer = plain_answer status.Done (cover_text c.args.session.now.core.circuit c.args.cover.now);
      right = record { count = c.requires ∙ c.circuit.ensures.session.core.ready.states; told = refl };
      part = (rw c.circuit.ensures.value at c.in-Err.ensures.part);
    })
