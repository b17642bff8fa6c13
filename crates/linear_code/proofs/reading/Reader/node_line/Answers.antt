-- What stands behind the number of a node is what was read.
use Rattle.std.proofs.Common.{length, codes}
use Rattle.linear_code.proofs.TextLemmas.{behind-read}
use Rattle.linear_code.proofs.reading.Reader.node_line.Goals as goal

pub returns-in_err-is_storage : goal.returns-in_err-is_storage
returns-in_err-is_storage c =
    rw c.from_residual-in_err-is_storage.ensures (λ added line.
    c.in_err-is_storage.ensures added.is_storage added.name line.fits.2
    (behind-read (codes "node ") (codes " ") c.args.bytes.now c.in_ok-rest.rest.now _ c.node_count.result (length c.args.self.now.entries)
    c.in_ok-rest.ensures c.node_count.ensures line.bare))
