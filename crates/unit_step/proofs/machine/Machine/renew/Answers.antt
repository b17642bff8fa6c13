-- The members are cleared, and their part is seated.
use Rattle.machine_laws.proofs.ClearingLemmas.{on_ok, Renews-seated}
use Rattle.unit_step.proofs.machine.Machine.renew.Goals as goal

pub returns-clause-ok : goal.returns-clause-ok
returns-clause-ok c =
    on_ok _ _ c.seat.result
    (λ seats. Renews-seated c.args.members.now c.args.self.now c.vacate_all.new.self c.seat.new.self c.seat.ensures.counted
    c.in_ok-vacate_all.ensures.ok seats
    c.in_ok-vacate_all.ensures.ok.count)
    c.seat.ensures.ok
