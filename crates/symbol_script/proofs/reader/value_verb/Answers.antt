use Rattle.std.proofs.Common.{ap, sym, arith, rules}
use Rattle.std.specs.Prelude.{codes}
use Rattle.std.proofs.lemmas.Slice.Eq.{text_from_reads}
use Rattle.symbol_script.specs.Lines.{value_verb}
use Rattle.symbol_script.proofs.reader.value_verb.Goals as goal

pub returns-in-charge : goal.returns-in-charge
returns-in-charge c = ap value_verb (sym (text_from_reads c.args.verb.now (codes "charge") (omega arith) (search rules)))

pub returns-in-expect : goal.returns-in-expect
returns-in-expect c = ap value_verb (sym (text_from_reads c.args.verb.now (codes "expect") (omega arith) (search rules)))
