-- What was told of the refusal is told in the place of a run, for which no text of a group is analysed.
use Rattle.std.proofs.Common.{Ok, Err}
use Rattle.symbol_app.proofs.SymbolLemmas.{behind_by}
use Rattle.symbol_app.proofs.refusals.refuse_in_all.Goals as goal

pub returns-in-Ok-clause-told : goal.returns-in-Ok-clause-told
returns-in-Ok-clause-told g c asked =
    behind_by c.args.front.now c.args.refusal (g.S.Sink.written c.args.out) (g.S.Sink.written c.refuse_behind.new.out) asked (Ok c.in-Ok.end) c.in-Ok.ensures.told

pub returns-in-Err-clause-told : goal.returns-in-Err-clause-told
returns-in-Err-clause-told g c asked =
    behind_by c.args.front.now c.args.refusal (g.S.Sink.written c.args.out) (g.S.Sink.written c.refuse_behind.new.out) asked (Err c.in-Err.stop) c.in-Err.ensures.told
