-- Every circuit has a report, and one alone.
use Rattle.std.proofs.Common.{◌≡◌, ℕ, List, refl, sym, ap, ◌∙◌}
use Rattle.netlist.specs.Circuits.{CircuitData, IsCircuit}
use Rattle.group_meaning.proofs.ExistingGroups.{exists}
use Rattle.group_meaning.proofs.UniqueGroups.{unique}
use Rattle.group_report.specs.Report.{IsReport, lines_of}

-- every circuit has a report
pub report_exists : (c : CircuitData) → IsCircuit c → (text : List ℕ) × IsReport c text
report_exists c is =
    let found = exists c.graph is.wired in
    (lines_of c found.0, record { groups = found.0; are = found.1; lines = refl })

-- and one alone, since its groups are
pub report_unique : (c : CircuitData) (text other : List ℕ) → IsReport c text → IsReport c other → text ≡ other
report_unique c text other one two =
    one.lines ∙ ap (lines_of c) (unique c.graph one.groups two.groups one.are two.are) ∙ sym two.lines
