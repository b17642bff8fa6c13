-- The node is placed in the machine, or waits for the phase to come; and it has the state.
use Rattle.std.proofs.Common.{◌∙◌, refl}
use Rattle.std.proofs.lemmas.List.{length-set}
use Rattle.session_meaning.proofs.StateLemmas.{sound-set}
use Rattle.fault_stage.proofs.built.Built.place.Goals as goal

pub place_in-requires : goal.place_in-requires
place_in-requires c = rw c.deref.ensures.value (record {
  goes = c.requires.built.goes;
  counted = c.requires.built.counted;
  known = c.requires.built.known;
  inside = c.requires.inside;
  no_rail = c.requires.no_rail;
})

pub returns-clause-built : goal.returns-clause-built
returns-clause-built c = record {
  counted = length-set c.args.self.now.state.items c.args.node c.args.value ∙ c.requires.built.counted;
  railed = c.requires.built.railed;
  sound = sound-set c.args.self.now.state.items c.args.node c.args.value c.requires.no_rail c.requires.built.sound;
  known = c.place_in.ensures.known;
  goes = rw (← c.deref.ensures.value) c.place_in.ensures.gives.goes;
  passes = c.requires.built.passes;
  apart = c.requires.built.apart;
}

pub returns-clause-same : goal.returns-clause-same
returns-clause-same c = rw c.place_in.ensures.gives.last refl
