-- A part without code has none.
use Rattle.std.proofs.Common.{ap, ◌∙◌}
use Rattle.std.specs.Prelude.{is_some}
use Rattle.unit_step.proofs.among.has_code.Goals as goal

pub returns : goal.returns
returns c = λ none. c.is_some.ensures ∙ ap is_some none
