-- No variable is left.
use Rattle.std.proofs.lemmas.Slice.Zip.{either_empty_from_Zip}
use Rattle.symbol_told.specs.Valuations.{one_text}
use Rattle.symbol_told.proofs.ValuationLemmas.{some_done, text_done}
use Rattle.symbol_told.proofs.valuations.put_each_one.Goals as goal

pub returns-clause-bytes : goal.returns-clause-bytes
returns-clause-bytes c =
    text_done one_text c.loop-name.out.bytes _ _ _ c.loop-name.invariant.bytes
    (either_empty_from_Zip c.loop-name.name-iterator c.next.new.self c.next.result c.in-None.is c.next.ensures.steps)

pub returns-clause-some : goal.returns-clause-some
returns-clause-some c =
    some_done c.loop-name.some _ _ _ c.loop-name.invariant.some
    (either_empty_from_Zip c.loop-name.name-iterator c.next.new.self c.next.result c.in-None.is c.next.ensures.steps)
