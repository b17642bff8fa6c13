use Rattle.std.proofs.Common.{arith, rules}
use Rattle.std.proofs.lemmas.List.{take_all}
use Rattle.told_lines.specs.Lines.{Line, room_of}
use Rattle.session_meaning.proofs.LineLemmas.{longest-next}
use Rattle.cosmos_session.proofs.telling.room_for.Goals as goal

pub loop-line-preserved : goal.loop-line-preserved
loop-line-preserved c =
    longest-next (λ (line : Line). room_of line) c.args.lines.now c.loop-line.line-index c.line-item.result c.loop-line.most _ (omega arith)
    c.line-item.is (search rules) (search rules) c.loop-line.invariant

pub returns : goal.returns
returns c = rw (take_all c.loop-line.line-index c.args.lines.now (omega arith)) at c.loop-line.invariant
