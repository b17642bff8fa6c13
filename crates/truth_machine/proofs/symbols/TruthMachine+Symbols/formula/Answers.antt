-- The maker made more, and the machine is as before.
use Rattle.std.proofs.Common.{sym, subst}
use Rattle.decision_graph.specs.declared.vertex.Function.{Function}
use Rattle.formula_functions.specs.Tables.{AreInside}
use Rattle.truth_makers.specs.declared.symbols.Symbols.{Symbols}
use Rattle.truth_machine.specs.Machines.{TruthData}
use Rattle.truth_machine.proofs.MakerLemmas.{stays_whole, whole_makes}
use Rattle.truth_machine.proofs.symbols.TruthMachine+Symbols.formula.Goals as goal

pub function_of-requires : goal.function_of-requires
function_of-requires c =
    subst (λ (d : TruthData Function Symbols). AreInside d.maker.graph.vertices c.args.table.now.functions) (sym c.self.view_is) c.requires

pub invariant_of-self : goal.invariant_of-self
invariant_of-self c = stays_whole c.self.inside.truths.graph c.function_of.new.graph c.function_of.ensures.shape c.function_of.ensures.extends c.self.invariant

pub returns : goal.returns
returns c =
    let made = c.function_of.ensures in
    rw (← c.self.view_is)
    (record { makes = whole_makes c.self.inside.truths.graph c.function_of.new.graph made.shape made.extends c.self.invariant; full = made.full; inside = made.inside; value = made.value })
