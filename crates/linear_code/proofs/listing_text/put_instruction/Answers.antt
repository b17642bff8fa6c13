use Rattle.linear_code.proofs.listing_text.put_instruction.Goals as goal

pub returns-in-And : goal.returns-in-And
returns-in-And c = rw c.in-And.is c.put_pair.ensures

pub returns-in-Or : goal.returns-in-Or
returns-in-Or c = rw c.in-Or.is c.put_pair-in-Or.ensures
