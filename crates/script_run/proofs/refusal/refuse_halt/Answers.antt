-- Lines that were cut short ended at a refused line, whose refusal is told.
use Rattle.std.proofs.Common.{sym, subst}
use Rattle.script_meaning.specs.declared.halt.Halt.{Halt}
use Rattle.script_meaning.specs.Halts.{IsCutShort, TellsCutShort}
use Rattle.script_run.proofs.refusal.refuse_halt.Goals as goal

pub unreachable-requires : goal.unreachable-requires
unreachable-requires g c = subst (IsCutShort c.args.circuit.now) c.in-End.is c.requires

pub size_cause-code-requires : goal.size_cause-code-requires
size_cause-code-requires g c = subst (IsCutShort c.args.circuit.now) c.in-TooLarge.is c.requires

pub returns-in-Refused-clause-told : goal.returns-in-Refused-clause-told
returns-in-Refused-clause-told g c =
    subst (λ (halt : Halt). TellsCutShort g.L.Lines.hear g.L.Lines.part c.args.circuit.now halt (g.L.Lines.heard c.args.out.now)
    (g.L.Lines.heard c.refuse_line.new.out) c.refuse_line.result) (sym c.in-Refused.is) c.refuse_line.ensures.told

pub returns-in-TooLarge-clause-told : goal.returns-in-TooLarge-clause-told
returns-in-TooLarge-clause-told g c =
    subst (λ (halt : Halt). TellsCutShort g.L.Lines.hear g.L.Lines.part c.args.circuit.now halt (g.L.Lines.heard c.args.out.now)
    (g.L.Lines.heard c.refuse_line-in-TooLarge.new.out) c.refuse_line-in-TooLarge.result) (sym c.in-TooLarge.is)
    (_, c.size_cause-code.ensures, c.refuse_line-in-TooLarge.ensures.told)
