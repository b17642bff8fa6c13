use Rattle.std.proofs.Common.{ap, sym, arith, rules}
use Rattle.std.specs.Prelude.{codes}
use Rattle.std.proofs.lemmas.Slice.Eq.{text_from_reads}
use Rattle.fault_sim.specs.Faults.{kind_of}
use Rattle.fault_sim.proofs.fault.kind_named.Goals as goal

pub returns-in-closed : goal.returns-in-closed
returns-in-closed c = ap kind_of (sym (text_from_reads c.args.word.now (codes "closed") (omega arith) (search rules)))
