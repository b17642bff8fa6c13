use Rattle.session_meaning.proofs.LetterLemmas.{refused_alike}
use Rattle.session_meaning.proofs.laws.columns_refuse_alike.Goals as goal

pub returns : goal.returns
returns c = refused_alike
