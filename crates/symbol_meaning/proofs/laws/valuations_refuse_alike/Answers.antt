use Rattle.symbol_meaning.proofs.RefusalLemmas.{refused_alike}
use Rattle.symbol_meaning.proofs.laws.valuations_refuse_alike.Goals as goal

pub returns : goal.returns
returns c = refused_alike
