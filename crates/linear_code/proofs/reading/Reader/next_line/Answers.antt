-- What stands behind the number of a storage node is what was read.
use Rattle.std.proofs.Common.{◌≡◌, codes, ◌∙◌}
use Rattle.straight_code.specs.Code.{IsOutput}
use Rattle.linear_code.proofs.TextLemmas.{behind-read}
use Rattle.linear_code.proofs.reading.Reader.next_line.Goals as goal

pub returns-in_err-output : goal.returns-in_err-output
returns-in_err-output c =
    rw c.from_residual-in_err-output.ensures (λ node added line.
    let here : c.in_ok-node.node ≡ node = (let found = c.in_ok-node.ensures ∙ line.fits.0 in cc) in
    let allowed : IsOutput c.node_count.result c.instruction_count.result added = rw (c.node_count.ensures, c.instruction_count.ensures) line.fits.1 in
    c.in_err-output.ensures added allowed
    (behind-read (codes "next ") (codes " ") c.args.bytes.now c.in_ok-rest.rest.now _ c.in_ok-node.node node c.in_ok-rest.ensures here line.bare))
