use Rattle.std.proofs.Common.{ap, sym, arith, rules}
use Rattle.std.specs.Prelude.{codes}
use Rattle.std.proofs.lemmas.Slice.Eq.{text_from_reads}
use Rattle.column_script.specs.Values.{sort_of}
use Rattle.column_script.proofs.reader.sort_of.Goals as goal

pub returns-in-charge : goal.returns-in-charge
returns-in-charge c = ap sort_of (sym (text_from_reads c.args.verb.now (codes "charge") (omega arith) (search rules)))

pub returns-in-expect-6 : goal.returns-in-expect-6
returns-in-expect-6 c = ap sort_of (sym (text_from_reads c.args.verb.now (codes "expect") (omega arith) (search rules)))

pub returns-in-expect-7 : goal.returns-in-expect-7
returns-in-expect-7 c = ap sort_of (sym (text_from_reads c.args.verb.now (codes "report") (omega arith) (search rules)))
