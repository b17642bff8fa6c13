-- A text is cut at its first space in one way.
use Rattle.std.proofs.Common.{arith}
use Rattle.linear_code.proofs.OperandLemmas.{IsSmall, output-no_space, output-words}
use Rattle.linear_code.proofs.reading.read_output.Goals as goal

pub returns-in_err-first : goal.returns-in_err-first
returns-in_err-first c =
    rw c.from_residual.ensures (λ output allowed same. output-no_space c.args.bytes.now c.in_err-first.ensures output same)

pub returns-in_err-read_operand : goal.returns-in_err-read_operand
returns-in_err-read_operand c =
    rw c.from_residual-in_err-read_operand.ensures (λ output allowed same.
    let small : IsSmall c.args.nodes c.args.results = record { few_nodes = omega arith; few_results = omega arith } in
    let words = output-words c.args.nodes c.args.results _ _ _ small c.in_ok-first.ensures.0 c.in_ok-first.ensures.1 output allowed same in
    c.in_err-read_operand.ensures output.hi allowed.hi words.0)

pub returns-in_err-read_operand-2 : goal.returns-in_err-read_operand-2
returns-in_err-read_operand-2 c =
    rw c.from_residual-in_err-read_operand-2.ensures (λ output allowed same.
    let small : IsSmall c.args.nodes c.args.results = record { few_nodes = omega arith; few_results = omega arith } in
    let words = output-words c.args.nodes c.args.results _ _ _ small c.in_ok-first.ensures.0 c.in_ok-first.ensures.1 output allowed same in
    c.in_err-read_operand-2.ensures output.lo allowed.lo words.1)
