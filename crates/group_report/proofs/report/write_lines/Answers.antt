-- Each line that is sent takes the report one group on; at each exit what was sent is a part of it.
use Rattle.std.proofs.Common.{◌≡◌, ℕ, ◌+◌, List, drop, Result, Ok, Err, OnOk, is_ok, true, true≢false, subst, ◌∙◌}
use Rattle.ports.proofs.ResultLemmas.{at_err}
use Rattle.ports.proofs.SendingLemmas.{part_none, sends_more, sends_part}
use Rattle.netlist.specs.Circuits.{CircuitData}
use Rattle.group_report.specs.Report.{lines_from, lines_of}
use Rattle.group_meaning.specs.Groups.{Group, IsGroup}
use Rattle.channel_groups.proofs.HeldLemmas.{group_of_id}
use Rattle.group_report.proofs.LineLemmas.{IsMade, AreNoted-made, Sends-made}
use Rattle.group_report.proofs.report.write_lines.Given.{Over}
use Rattle.group_report.proofs.report.write_lines.Goals.{After-bytes}
use Rattle.group_report.proofs.report.write_lines.Goals as goal

-- what holds on an answer holds if there is one
answered : {T E P : Type 0} (result : Result T E) → true ≡ is_ok result → OnOk result P → P
answered (Ok value) is fact = fact
answered (Err fault) is fact = absurd (true≢false is)

-- the text of the group at the place was noted, and then its line was made
line_made : (g : Over) (c : After-bytes g) →
    IsMade c.args.circuit.now c.args.groups.now.groups c.loop-place.place c.group-group.result.now c.loop-place.noted c.make_line.new.noted c.bytes.result.now
line_made g c =
    let here = group_of_id c.args.groups.now.groups c.requires.groups.ascending c.args.ids.now c.requires.ids c.loop-place.place _ c.loop-place-test.true
    c.group-group.result.now c.group-group.ensures in
    record {
      inside = here.0;
      here = here.1;
      before = c.loop-place.invariant.noted;
      notes = answered c.make_line.result c.in_ok-map_err.ensures.variant c.make_line.ensures.noted;
      whole = c.bytes.ensures ∙ answered c.make_line.result c.in_ok-map_err.ensures.variant c.make_line.ensures.line;
    }

-- the lines of the groups behind this place
abbrev lines_after : CircuitData → List Group → ℕ → List ℕ
lines_after circuit groups place = lines_from circuit groups (place + 1 + 1) (drop (place + 1) groups)

pub returns-in_err-line-clause-part : goal.returns-in_err-line-clause-part
returns-in_err-line-clause-part g c = at_err c.from_residual.result (part_none _ _)

pub returns-in_err-send-clause-part : goal.returns-in_err-send-clause-part
returns-in_err-send-clause-part g c =
    let made = line_made g (goal.at.returns-in_err-send-clause-part g c).After-bytes in
    at_err c.from_residual-in_err-send.result
    (sends_part (g.S.Sink.written c.args.out.now) (g.S.Sink.written c.loop-place.out) (g.S.Sink.written c.send.new.out)
    (lines_of c.args.circuit.now c.args.groups.now.groups) c.bytes.result.now (lines_after c.args.circuit.now c.args.groups.now.groups c.loop-place.place)
    (Sends-made made _ _ _ c.loop-place.invariant.sent) c.in_err-send.ensures.part)

pub loop-place-preserved : goal.loop-place-preserved
loop-place-preserved g c =
    let made = line_made g (goal.at.loop-place-preserved g c).After-bytes in
    record {
      sent =
          sends_more (g.S.Sink.written c.args.out.now) (g.S.Sink.written c.loop-place.out) (g.S.Sink.written c.send.new.out)
          (lines_of c.args.circuit.now c.args.groups.now.groups) c.bytes.result.now (lines_after c.args.circuit.now c.args.groups.now.groups c.loop-place.place)
          (Sends-made made _ _ _ c.loop-place.invariant.sent) c.in_ok-send.ensures.ok;
      noted = AreNoted-made made;
      faults = c.in_ok-send.ensures.cause ∙ c.loop-place.invariant.faults;
      refusals = c.in_ok-send.ensures.memory ∙ c.loop-place.invariant.refusals;
    }

pub make_line-requires : goal.make_line-requires
make_line-requires g c =
    let here = group_of_id c.args.groups.now.groups c.requires.groups.ascending c.args.ids.now c.requires.ids c.loop-place.place _ c.loop-place-test.true
    c.group-group.result.now c.group-group.ensures in
    subst (IsGroup c.args.circuit.now.graph) here.1 (c.requires.groups.each c.loop-place.place c.group-group.result.now here.0)
