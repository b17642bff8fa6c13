-- It settles from the state that is meant.
use Rattle.std.proofs.Common.{List, sym, subst}
use Rattle.ternary.specs.declared.tern.Tern.{Tern}
use Rattle.fault_stage.specs.Stages.{SettlesSeen}
use Rattle.fault_stage.proofs.passing.settle_shown.Goals as goal

pub settle_to_rest-requires : goal.settle_to_rest-requires
settle_to_rest-requires g c = record {
  fits = c.requires.goes.fits;
  low = c.requires.low;
  high = c.requires.high;
  knows = subst (λ (s : List Tern). g.O.Observer.knows c.args.onlooker.now s) (sym c.requires.goes.state_is) c.requires.knows;
}

pub returns-clause-settles : goal.returns-clause-settles
returns-clause-settles g c =
    let told = c.settle_to_rest in
    record {
      fits = told.ensures.takes.fits;
      last = told.ensures.takes.last;
      takes = subst (λ (s : List Tern). SettlesSeen g.O.Observer.see c.args.graph.now c.args.limit told.result.steps told.result.joined s told.new.machine.state
          (g.O.Observer.seen c.args.onlooker.now) (g.O.Observer.seen told.new.onlooker)) c.requires.goes.state_is
          (record { settles = told.ensures.takes.settles; seen = told.ensures.seen });
    }
