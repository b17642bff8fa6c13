-- The rails of a constant.
use Rattle.std.proofs.lemmas.Result.{IfOk-weaker}
use Rattle.ternary.specs.Tern.{may_one, may_zero}
use Rattle.node_elimination.proofs.RailLemmas.{IsRail-constant}
use Rattle.node_elimination.proofs.inputs.node_rails.Goals as goal

pub returns-in-Some-clause-hi : goal.returns-in-Some-clause-hi
returns-in-Some-clause-hi g c =
    rw c.in-Some.is
    (IfOk-weaker c.const_rails.result _ _ (λ rails leaf. IsRail-constant may_one c.in-Some.state _ c.const_rails.new.pool
    rails.hi.place leaf) c.const_rails.ensures.hi)

pub returns-in-Some-clause-lo : goal.returns-in-Some-clause-lo
returns-in-Some-clause-lo g c =
    rw c.in-Some.is
    (IfOk-weaker c.const_rails.result _ _ (λ rails leaf. IsRail-constant may_zero c.in-Some.state _ c.const_rails.new.pool
    rails.lo.place leaf) c.const_rails.ensures.lo)
