-- What the look there says.
use Rattle.std.proofs.Common.{false, sym}
use Rattle.std.proofs.lemmas.List.{get_or-map}
use Rattle.good_run.specs.declared.look.Look.{Look}
use Rattle.good_run.proofs.recorder.begins_of.Goals as goal

first : Look
first = record { begins = false; end = 0 }

pub returns : goal.returns
unfolding first
returns c = sym (get_or-map (λ (look : Look). look.begins) c.args.looks.now c.args.at first false c.requires)
