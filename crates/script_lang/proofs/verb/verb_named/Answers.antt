use Rattle.std.proofs.Common.{ap, sym, arith, rules}
use Rattle.std.specs.Prelude.{codes}
use Rattle.std.proofs.lemmas.Slice.Eq.{text_from_reads}
use Rattle.script_lang.specs.Commands.{verb_of}
use Rattle.script_lang.proofs.verb.verb_named.Goals as goal

pub returns-in-input : goal.returns-in-input
returns-in-input c = ap verb_of (sym (text_from_reads c.args.word.now (codes "input") (omega arith) (search rules)))

pub returns-in-store : goal.returns-in-store
returns-in-store c = ap verb_of (sym (text_from_reads c.args.word.now (codes "store") (omega arith) (search rules)))

pub returns-in-charge : goal.returns-in-charge
returns-in-charge c = ap verb_of (sym (text_from_reads c.args.word.now (codes "charge") (omega arith) (search rules)))

pub returns-in-watch : goal.returns-in-watch
returns-in-watch c = ap verb_of (sym (text_from_reads c.args.word.now (codes "watch") (omega arith) (search rules)))

pub returns-in-limit : goal.returns-in-limit
returns-in-limit c = ap verb_of (sym (text_from_reads c.args.word.now (codes "limit") (omega arith) (search rules)))

pub returns-in-phase : goal.returns-in-phase
returns-in-phase c = ap verb_of (sym (text_from_reads c.args.word.now (codes "phase") (omega arith) (search rules)))

pub returns-in-clock : goal.returns-in-clock
returns-in-clock c = ap verb_of (sym (text_from_reads c.args.word.now (codes "clock") (omega arith) (search rules)))

pub returns-in-cycle : goal.returns-in-cycle
returns-in-cycle c = ap verb_of (sym (text_from_reads c.args.word.now (codes "cycle") (omega arith) (search rules)))

pub returns-in-expect : goal.returns-in-expect
returns-in-expect c = ap verb_of (sym (text_from_reads c.args.word.now (codes "expect") (omega arith) (search rules)))

pub returns-in-strength : goal.returns-in-strength
returns-in-strength c = ap verb_of (sym (text_from_reads c.args.word.now (codes "strength") (omega arith) (search rules)))

pub returns-in-report : goal.returns-in-report
returns-in-report c = ap verb_of (sym (text_from_reads c.args.word.now (codes "report") (omega arith) (search rules)))

pub returns-in-vector : goal.returns-in-vector
returns-in-vector c = ap verb_of (sym (text_from_reads c.args.word.now (codes "vector") (omega arith) (search rules)))
