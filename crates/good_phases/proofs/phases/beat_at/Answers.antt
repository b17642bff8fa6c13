-- The phase is one of these.
use Rattle.std.proofs.Common.{arith}
use Rattle.std.proofs.lemmas.List.Elements.{Contains-get_or}
use Rattle.good_phases.specs.declared.beats.Beat.{Beat}
use Rattle.good_phases.proofs.phases.beat_at.Goals as goal

first : Beat
first = record { begin = 0; end = 0; limit = 0 }

pub returns-then-number-count : goal.returns-then-number-count
unfolding first
returns-then-number-count c = Contains-get_or c.args.beats.now c.args.number first (omega (arith, c.if-number-count.true))
