use Rattle.fault_meaning.proofs.OnceLemmas.{analysed_once}
use Rattle.fault_meaning.proofs.laws.each_text_is_analysed_once.Goals as goal

pub returns : goal.returns
returns c = analysed_once
