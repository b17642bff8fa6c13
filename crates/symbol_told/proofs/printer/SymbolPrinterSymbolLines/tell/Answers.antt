-- A part of the line's text was sent.
use Rattle.std.proofs.Common.{refl}
use Rattle.symbol_told.specs.Lines.{told_seen}
use Rattle.symbol_told.specs.Printing.{Page}
use Rattle.symbol_told.proofs.PrintingLemmas.{prints_part}
use Rattle.symbol_told.proofs.printer.SymbolPrinterSymbolLines.tell.Goals as goal

pub returns-clause-part : goal.returns-clause-part
returns-clause-part g c =
    let old : Page = record { variables = c.self.inside.variables; written = g.S.Sink.written c.self.inside.sink; missed = c.self.inside.missed } in
    rw (← c.self.view_is) (prints_part old _ (told_seen c.args.line) c.send_text.result refl (rw c.items.ensures at c.send_text.ensures.part))
