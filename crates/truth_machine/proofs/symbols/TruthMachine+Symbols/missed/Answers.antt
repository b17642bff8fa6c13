-- The maker made more, and the machine is as before.
use Rattle.std.proofs.Common.{ℕ, ◌<◌, length, sym, subst}
use Rattle.decision_graph.specs.declared.vertex.Function.{Function}
use Rattle.truth_makers.specs.declared.symbols.Symbols.{Symbols}
use Rattle.truth_machine.specs.Machines.{TruthData}
use Rattle.truth_machine.proofs.MakerLemmas.{stays_whole, whole_makes}
use Rattle.truth_machine.proofs.symbols.TruthMachine+Symbols.missed.Goals as goal

pub missed-requires : goal.missed-requires
missed-requires c =
    let inside = λ (place : ℕ) (is : place < length c.args.self.now.maker.graph.vertices).
    subst (λ (d : TruthData Function Symbols). place < length d.maker.graph.vertices) (sym c.self.view_is) is in
    record {
      hi = inside c.args.hi.place c.requires.hi;
      lo = inside c.args.lo.place c.requires.lo;
      wanted = inside c.args.wanted.place c.requires.wanted;
    }

pub invariant_of-self : goal.invariant_of-self
invariant_of-self c = stays_whole c.self.inside.truths.graph c.missed.new.self.graph c.missed.ensures.shape c.missed.ensures.extends c.self.invariant

pub returns : goal.returns
returns c =
    let made = c.missed.ensures in
    rw (← c.self.view_is)
    (record { makes = whole_makes c.self.inside.truths.graph c.missed.new.self.graph made.shape made.extends c.self.invariant; full = made.full; inside = made.inside; missed = made.missed })
