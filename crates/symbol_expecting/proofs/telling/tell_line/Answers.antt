-- The hearer hears the line, or a part of it.
use Rattle.std.proofs.Common.{[], inr, refl}
use Rattle.symbol_meaning.specs.Told.{Unmet}
use Rattle.symbol_expecting.specs.Telling.{telling_alone}
use Rattle.symbol_expecting.proofs.telling.tell_line.Goals as goal

pub returns-in-Ok-clause-told : goal.returns-in-Ok-clause-told
returns-in-Ok-clause-told g c = (refl, c.in-Ok.ensures.ok)

pub returns-in-Err-clause-told : goal.returns-in-Err-clause-told
returns-in-Err-clause-told g c =
    inr (record {
      front = [];
      next = telling_alone (Unmet c.args.name.now c.args.wanted.now c.args.got.now c.args.n c.args.truths.now);
      rest = [];
      split = refl;
      heard = c.in-Err.ensures.part;
    })

pub returns-in-Ok-clause-faults : goal.returns-in-Ok-clause-faults
returns-in-Ok-clause-faults g c = c.in-Ok.ensures.faults

pub returns-in-Err-clause-faults : goal.returns-in-Err-clause-faults
returns-in-Err-clause-faults g c = c.in-Err.ensures.faults

pub returns-in-Ok-clause-refusals : goal.returns-in-Ok-clause-refusals
returns-in-Ok-clause-refusals g c = c.in-Ok.ensures.refusals

pub returns-in-Err-clause-refusals : goal.returns-in-Err-clause-refusals
returns-in-Err-clause-refusals g c = c.in-Err.ensures.refusals
