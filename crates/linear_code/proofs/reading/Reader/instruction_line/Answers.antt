-- What stands behind the number of an instruction is what was read.
use Rattle.std.proofs.Common.{length, codes}
use Rattle.straight_code.specs.Code.{AreAllowed}
use Rattle.linear_code.proofs.TextLemmas.{behind-read}
use Rattle.linear_code.proofs.reading.Reader.instruction_line.Goals as goal

pub returns-in_err-instruction : goal.returns-in_err-instruction
returns-in_err-instruction c =
    let count = c.instruction_count-count in
    rw c.from_residual-in_err-instruction.ensures (λ added line.
    let allowed : AreAllowed c.node_count.result count.result added = rw (c.node_count.ensures, count.ensures) line.fits.1 in
    c.in_err-instruction.ensures added allowed
    (behind-read (codes "t") (codes " = ") c.args.bytes.now c.in_ok-rest.rest.now _ count.result (length c.args.self.now.instructions)
    c.in_ok-rest.ensures count.ensures line.bare))
