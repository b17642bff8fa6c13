-- The words that tell of the circuit were written, and behind them the line, or a part of both.
use Rattle.symbol_equiv.proofs.AnswerLemmas.{part_before, part_behind, written_behind}
use Rattle.symbol_equiv.proofs.ending.refuse_run.Goals as goal

pub returns-in-Ok-clause-ok : goal.returns-in-Ok-clause-ok
returns-in-Ok-clause-ok g c =
    written_behind (g.S.Sink.written c.args.out.now) (g.S.Sink.written c.send.new.out) (g.S.Sink.written c.refuse_halt.new.out) c.args.net.now _
    c.refuse_halt.result c.in-Ok.ensures.ok c.refuse_halt.ensures.ok

pub returns-in-Ok-clause-part : goal.returns-in-Ok-clause-part
returns-in-Ok-clause-part g c =
    part_behind (g.S.Sink.written c.args.out.now) (g.S.Sink.written c.send.new.out) (g.S.Sink.written c.refuse_halt.new.out) c.args.net.now _
    c.refuse_halt.result c.in-Ok.ensures.ok c.refuse_halt.ensures.part

pub returns-in-Err-clause-part : goal.returns-in-Err-clause-part
returns-in-Err-clause-part g c =
    part_before (g.S.Sink.written c.args.out.now) (g.S.Sink.written c.send.new.out) c.args.net.now _ c.in-Err.ensures.part
