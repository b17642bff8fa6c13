-- The line tells the walk that was found.
use Rattle.std.proofs.Common.{◌≡◌, ℕ, Bool, List, Option, None, Some, Result, Ok, Err, IfOk, Bor, subst}
use Rattle.std.specs.Prelude.{MatchOption, Vec}
use Rattle.std.specs.Option.{option_copied}
use Rattle.std.specs.declared.alloc.Global.{Global}
use Rattle.ternary.specs.declared.tern.Tern.{Tern}
use Rattle.switch_paths.specs.declared.walks.Walk.{Walk}
use Rattle.switch_paths.specs.Spread.{rail_of}
use Rattle.netlist.specs.Circuits.{CircuitData}
use Rattle.why_path.specs.Reasons.{Explains}
use Rattle.why_path.specs.Lines.{IsReasonLine, no_reason_line_of}
use Rattle.script_reports.specs.Reasoned.{TellsWalk, ExplainsRail}
use Rattle.script_reports.proofs.reasons.rail_line.Goals as goal

-- the line of a walk that is lent tells the walk
tells : (c : CircuitData) (state : List Tern) (one : Bool) (lent : Option (Bor Walk)) (line : List ℕ) →
    MatchOption lent (line ≡ no_reason_line_of one) (λ walk. IsReasonLine c state one walk.now line) → TellsWalk c state one (option_copied lent) line
tells c state one None line told = told
tells c state one (Some walk) line told = told

explains_rail : {E : Type 0} (c : CircuitData) (state : List Tern) (node : ℕ) (one : Bool) (walk : Option Walk) (lent : Option (Bor Walk)) → option_copied lent ≡ walk →
    Explains (rail_of one) c.graph state node walk → (result : Result (Vec ℕ Global) E) →
    IfOk result (λ line. MatchOption lent (line.items ≡ no_reason_line_of one) (λ walk. IsReasonLine c state one walk.now line.items)) →
    IfOk result (λ line. ExplainsRail c state node one line.items)
explains_rail c state node one walk lent same explains (Ok line) told = record {
  walk = walk;
  explains = explains;
  told = subst (λ (found : Option Walk). TellsWalk c state one found line.items) same (tells c state one lent line.items told);
}
explains_rail c state node one walk lent same explains (Err fault) told = tt

pub returns : goal.returns
returns g c =
    let explains = rw (c.graph.ensures.value, c.circuit-circuit.ensures.value, c.state-state.ensures) at c.in_ok-walk.ensures in
    explains_rail c.args.session.now.core.circuit c.args.session.now.core.state c.args.node c.args.one c.in_ok-walk.walk c.as_ref.result c.as_ref.ensures.value
    explains c.reason_line.result
    (rw (← c.circuit-circuit.ensures.value, ← c.state-state.ensures) c.reason_line.ensures)
