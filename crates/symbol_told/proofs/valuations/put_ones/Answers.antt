-- The variables that are 1 are put, and then a dash if there is none.
use Rattle.std.specs.Prelude.{zip}
use Rattle.symbol_told.proofs.ValuationLemmas.{ones_put}
use Rattle.symbol_told.proofs.valuations.put_ones.Goals as goal

pub returns : goal.returns
returns c =
    ones_put c.args.out.now.bytes c.put_each_one.new.out.bytes c.put_dash.new.out.bytes c.in_ok-some.some (zip c.args.variables.now c.args.truths.now)
    c.put_dash.result c.in_ok-some.ensures.bytes c.in_ok-some.ensures.some c.put_dash.ensures
