-- By the lemmas on distinct texts.
use Rattle.analysis_cache.proofs.DistinctLemmas.{first_texts-first, new_texts-first, kept_after-first}
use Rattle.analysis_cache.proofs.laws.distinct_texts_serve.Goals as goal

pub returns-clause-serve : goal.returns-clause-serve
returns-clause-serve c = λ bound present kept. (new_texts-first kept present, kept_after-first bound present kept)

pub returns-clause-stay : goal.returns-clause-stay
returns-clause-stay c = first_texts-first
