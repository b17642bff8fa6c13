-- The node is among those that were given states.
use Rattle.std.proofs.Common.{◌<◌, length, refl, sym, subst}
use Rattle.beside_run.specs.Running.{BesideData}
use Rattle.beside_run.proofs.running.RunBeside.give.Goals as goal

pub insert-is_new-requires : goal.insert-is_new-requires
insert-is_new-requires c = subst (λ (b : BesideData). c.args.node < length b.given.inside) (sym c.self.view_is) c.requires

pub returns : goal.returns
returns c = rw (← c.self.view_is) (record { same = refl; inside = c.insert-is_new.ensures.inside })
