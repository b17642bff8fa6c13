use Rattle.std.proofs.Common.{subst}
use Rattle.netlist.specs.Edits.{add_fault, with_transistor}
use Rattle.ternary.specs.Unmade.{IsFault}
use Rattle.spice_read.specs.Making.{MadeData, edited}
use Rattle.spice_read.proofs.making.Made.place.Goals as goal
use Rattle.spice_read.proofs.making.Made.place.Goals.{in-Ok, in-Err}

pub returns-clause-refused : goal.returns-clause-refused
returns-clause-refused c = elim c.match-add_switch.branch [
  | in-Ok w ↦ rw w.result-is tt
  | in-Err w ↦
      let gate = c.args.gate.now in
      let source = c.args.source.now in
      let drain = c.args.drain.now in
      let refuses : MadeData → Type 0 = λ (m : MadeData). IsFault (edited c.args.line (add_fault m.circuit c.args.strength gate source drain)
      (record { circuit = with_transistor m.circuit c.args.kind c.args.strength gate source drain; calls = m.calls })) w.edit_fault.result in
      rw w.result-is (subst refuses c.self.view_is (w.edit_fault.ensures (add_fault c.self.inside.circuit c.args.strength gate source drain)
      (record { circuit = with_transistor c.self.inside.circuit c.args.kind c.args.strength gate source drain; calls = c.self.inside.calls })
      w.in-Err.ensures.refused))
]
