-- The words stay, and so does the machine, but for its room.
use Rattle.std.proofs.Common.{◌≤◌, refl, arith}
use Rattle.machine_laws.proofs.ClearingLemmas.{on_ok}
use Rattle.column_machines.specs.Evaluating.{rooms}
use Rattle.column_machines.proofs.EditLemmas.{IsWordMachine-roomed}
use Rattle.column_machines.proofs.machine.WordMachine.reserve.Goals as goal

pub invariant_of-self : goal.invariant_of-self
invariant_of-self c = rw (c.reserve_words.ensures.highs, c.reserve_words.ensures.lows) c.self.invariant

pub invariant_of-self-2 : goal.invariant_of-self-2
invariant_of-self-2 c =
    let i = c.self.inside in
    rw (c.reserve_words.ensures.highs, c.reserve_words.ensures.lows)
    ((
      IsWordMachine-roomed i.columns i.used i.machine c.reserve.new.self i.agenda i.hi.items i.lo.items (rooms i.workspace) c.reserve.ensures.same c.self.invariant.0,
      c.self.invariant.1,
    ))

pub returns-in_err-reserve_words-clause-same : goal.returns-in_err-reserve_words-clause-same
returns-in_err-reserve_words-clause-same c =
    rw (← c.self.view_is) (record { columns = refl; machine = refl; marks = refl; highs = c.reserve_words.ensures.highs; lows = c.reserve_words.ensures.lows })

pub returns-clause-same : goal.returns-clause-same
returns-clause-same c =
    rw (← c.self.view_is) (record {
      columns = refl;
      machine = c.reserve.ensures.same;
      marks = refl;
      highs = c.reserve_words.ensures.highs;
      lows = c.reserve_words.ensures.lows;
    })

pub returns-clause-room : goal.returns-clause-room
returns-clause-room c =
    on_ok _ _ c.reserve.result (λ (enough : 3 ≤ c.reserve.new.self.spare). omega (arith, enough, c.in_ok-reserve_words.ensures.room)) c.reserve.ensures.ok
