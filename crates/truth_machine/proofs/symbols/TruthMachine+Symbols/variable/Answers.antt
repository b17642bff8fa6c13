-- The maker made more, and the machine is as before.
use Rattle.std.proofs.Common.{◌<◌, sym, subst}
use Rattle.decision_graph.specs.declared.vertex.Function.{Function}
use Rattle.truth_makers.specs.declared.symbols.Symbols.{Symbols}
use Rattle.truth_machine.specs.Machines.{TruthData}
use Rattle.truth_machine.proofs.MakerLemmas.{stays_whole, whole_makes}
use Rattle.truth_machine.proofs.symbols.TruthMachine+Symbols.variable.Goals as goal

pub variable-requires : goal.variable-requires
variable-requires c = subst (λ (d : TruthData Function Symbols). c.args.number < d.maker.graph.variables) (sym c.self.view_is) c.requires

pub invariant_of-self : goal.invariant_of-self
invariant_of-self c = stays_whole c.self.inside.truths.graph c.variable.new.self c.variable.ensures.shape c.variable.ensures.extends c.self.invariant

pub returns-clause-makes : goal.returns-clause-makes
returns-clause-makes c =
    rw (← c.self.view_is) (whole_makes c.self.inside.truths.graph c.variable.new.self c.variable.ensures.shape c.variable.ensures.extends c.self.invariant)
