use Rattle.std.proofs.Common.{◌∙◌, ◌++◌, ℕ, List, ap}
use Rattle.told_lines.specs.Lines.{Told, line_seen}
use Rattle.told_lines.specs.Printing.{printed}
use Rattle.told_lines.proofs.PrintingLemmas.{prints_part}
use Rattle.told_lines.proofs.printer.PrinterLines.tell.Goals as goal

pub returns-clause-part : goal.returns-clause-part
returns-clause-part g c =
    let told : Told = record { column = c.args.column; line = line_seen c.args.line } in
    rw (← c.self.view_is)
    (prints_part (record { numbered = c.self.inside.numbered; written = g.S.Sink.written c.self.inside.sink }) told _ _ c.send-sent.result
    (c.bytes.ensures ∙ c.put_told.ensures.bytes ∙ ap (λ (bytes : List ℕ). bytes ++ printed c.self.inside.numbered told) c.self.invariant)
    c.send-sent.ensures.part)
