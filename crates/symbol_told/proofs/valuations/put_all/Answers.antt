-- No variable is left.
use Rattle.std.proofs.lemmas.Slice.Zip.{either_empty_from_Zip}
use Rattle.symbol_meaning.specs.Told.{variable_text}
use Rattle.symbol_told.proofs.ValuationLemmas.{text_done}
use Rattle.symbol_told.proofs.valuations.put_all.Goals as goal

pub returns : goal.returns
returns c =
    text_done variable_text c.loop-name.out.bytes _ _ _ c.loop-name.invariant
    (either_empty_from_Zip c.loop-name.name-iterator c.next.new.self c.next.result c.in-None.is c.next.ensures.steps)
