-- The end of the look there.
use Rattle.std.proofs.Common.{false, sym}
use Rattle.std.proofs.lemmas.List.{get_or-map}
use Rattle.good_run.specs.declared.look.Look.{Look}
use Rattle.good_run.proofs.recorder.end_of.Goals as goal

first : Look
first = record { begins = false; end = 0 }

pub returns : goal.returns
unfolding first
returns c = sym (get_or-map (λ (look : Look). look.end) c.args.looks.now c.args.at first 0 c.requires)
