use Rattle.std.proofs.Common.{ap, sym, arith, rules}
use Rattle.std.specs.Prelude.{codes}
use Rattle.std.proofs.lemmas.Slice.Eq.{text_from_reads}
use Rattle.symbol_script.specs.Lines.{is_left_out}
use Rattle.symbol_script.proofs.reader.is_left_out.Goals as goal

pub returns-in-report : goal.returns-in-report
returns-in-report c = ap (is_left_out c.args.quiet) (sym (text_from_reads c.args.verb.now (codes "report") (omega arith) (search rules)))
