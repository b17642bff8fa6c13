use Rattle.std.proofs.Common.{ap, sym, arith, rules}
use Rattle.std.specs.Prelude.{codes}
use Rattle.std.proofs.lemmas.Slice.Eq.{text_from_reads}
use Rattle.symbol_script.specs.Lines.{is_telling}
use Rattle.symbol_script.proofs.reader.is_telling.Goals as goal

pub returns-in-expect : goal.returns-in-expect
returns-in-expect c = ap is_telling (sym (text_from_reads c.args.verb.now (codes "expect") (omega arith) (search rules)))
