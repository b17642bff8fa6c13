-- The letters differ in their number, in the first column too.
use Rattle.std.proofs.Common.{◌∙◌}
use Rattle.symbol_comparing.specs.Rails.{rails_seen}
use Rattle.symbol_comparing.proofs.WordLemmas.{found_uneven}
use Rattle.symbol_comparing.proofs.words.first_of_uneven.Goals as goal

pub returns-in-Ok-clause-found : goal.returns-in-Ok-clause-found
returns-in-Ok-clause-found c =
    found_uneven c.args.symbols.now (rails_seen c.args.one) (rails_seen c.args.other) c.requires.one c.requires.other c.requires.uneven c.in-Ok.vars
    (c.in-Ok.ensures.count ∙ c.variables-variables.ensures.value) c.in-Ok.ensures.unset
