-- The words stay, and what machine there is, with more room.
use Rattle.std.proofs.Common.{◌≡◌, Some, ap, ap₂, sym, subst, ◌∙◌}
use Rattle.column_machines.specs.Columns.{column_states}
use Rattle.column_machine_stage.specs.Stages.{StageData, hi_held, last_held, lo_held, machine_held}
use Rattle.std.specs.Prelude.{IfSome}
use Rattle.column_machine_stage.proofs.ServingLemmas.{columns_reserved, words_reserved, last_reserved, reserves_from}
use Rattle.column_machine_stage.proofs.stage.ColumnMachineStage.take_room.Goals as goal

pub invariant_of-self : goal.invariant_of-self
invariant_of-self c =
    let i = c.self.inside in
    let room = c.reserve_in.ensures in
    record {
      some = c.self.invariant.some;
      few = c.self.invariant.few;
      columns_are = rw (room.hi, room.lo)
          (columns_reserved i.columns (machine_held i.held) (machine_held c.reserve_in.new.held) (hi_held i.held) (lo_held i.held) room.machine c.self.invariant.columns_are);
      same = words_reserved i.columns (machine_held i.held) (machine_held c.reserve_in.new.held) room.machine c.self.invariant.same;
    }

pub returns-clause-same : goal.returns-clause-same
returns-clause-same c =
    let left = c.leave_turns.ensures in
    let view = c.self.view_is in
    let room = c.reserve_in.ensures in
    record {
      columns = ap (λ (s : StageData). s.columns) view ∙ left.columns;
      each = λ column inside.
          ap₂ (column_states column) (room.hi ∙ ap (λ (s : StageData). s.hi) view ∙ left.hi) (room.lo ∙ ap (λ (s : StageData). s.lo) view ∙ left.lo);
    }

pub returns-clause-machine : goal.returns-clause-machine
returns-clause-machine c =
    let i = c.self.inside in
    reserves_from c.args.self.now.machine (machine_held i.held) (machine_held c.reserve_in.new.held)
    (subst (λ (s : StageData). IfSome s.machine (λ machine. c.args.self.now.machine ≡ Some machine)) (sym c.self.view_is) c.leave_turns.ensures.machine)
    c.reserve_in.ensures.machine

pub returns-clause-last : goal.returns-clause-last
returns-clause-last c =
    last_reserved (machine_held c.self.inside.held) (machine_held c.reserve_in.new.held) c.reserve_in.ensures.machine
    ∙ ap (λ (s : StageData). last_held s.machine) c.self.view_is ∙ c.leave_turns.ensures.last

pub returns-clause-large : goal.returns-clause-large
returns-clause-large c = ap (λ (s : StageData). s.large) c.self.view_is ∙ c.leave_turns.ensures.large
