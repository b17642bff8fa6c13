-- A line that fits is its own prefix, and of another one so many bytes are there.
use Rattle.std.proofs.Common.{sym, arith}
use Rattle.std.proofs.lemmas.List.{take_all, length-take-le}
use Rattle.talk_port.specs.Talks.{kept_bytes}
use Rattle.talk_port.proofs.mem_talk.prefix.Goals as goal

pub slice_bounds-result-end : goal.slice_bounds-result-end
slice_bounds-result-end c = sym (length-take-le kept_bytes c.args.line.now (omega (arith, c.if-line-le-KEPT_BYTES.false)))

pub returns-then-line-le-KEPT_BYTES : goal.returns-then-line-le-KEPT_BYTES
returns-then-line-le-KEPT_BYTES c = sym (take_all kept_bytes c.args.line.now c.if-line-le-KEPT_BYTES.true)
