-- The node's own line, and then those of the transistors with an end at it, and of those that it is the gate of.
use Rattle.std.proofs.Common.{[], ◌∷◌, ◌++◌, Err}
use Rattle.std.proofs.lemmas.Result.{err_from_is_err_and}
use Rattle.symbol_looking.specs.declared.lines.Terminal.TheVariants.{End, Gate}
use Rattle.symbol_looking.specs.Letters.{letter_on}
use Rattle.symbol_looking.specs.Names.{all_told_at, node_told}
use Rattle.symbol_looking.proofs.HeardLemmas.{told_part, told_then}
use Rattle.symbol_looking.proofs.looking.tell_node.Goals as goal

pub returns-in_err-tell_line-clause-heard : goal.returns-in_err-tell_line-clause-heard
returns-in_err-tell_line-clause-heard g c =
    let stopped = err_from_is_err_and c.from_residual.result c.from_residual.ensures.1 in
    rw stopped.1
    (told_part g.L.SymbolLines.hear g.L.SymbolLines.part _ _ (node_told c.args.circuit.now (letter_on c.args.stage.now) c.args.node ∷ []) _
    (rw c.node_line.ensures at c.in_err-tell_line.ensures.heard))

pub returns-in_err-tell_at-clause-heard : goal.returns-in_err-tell_at-clause-heard
returns-in_err-tell_at-clause-heard g c =
    let letters = letter_on c.args.stage.now in
    let ends = all_told_at End c.args.circuit.now letters c.args.node in
    let gates = all_told_at Gate c.args.circuit.now letters c.args.node in
    let stopped = err_from_is_err_and c.from_residual-in_err-tell_at.result c.from_residual-in_err-tell_at.ensures.1 in
    rw stopped.1
    (told_then g.L.SymbolLines.hear g.L.SymbolLines.part _ _ _ (node_told c.args.circuit.now letters c.args.node ∷ []) (ends ++ gates) (Err c.in_err-tell_at.field-0.0)
    (rw c.node_line.ensures at c.in_ok-tell_line.ensures.heard)
    (told_part g.L.SymbolLines.hear g.L.SymbolLines.part _ _ ends gates c.in_err-tell_at.ensures.heard))

pub returns-clause-heard : goal.returns-clause-heard
returns-clause-heard g c =
    let letters = letter_on c.args.stage.now in
    let ends = all_told_at End c.args.circuit.now letters c.args.node in
    let gates = all_told_at Gate c.args.circuit.now letters c.args.node in
    told_then g.L.SymbolLines.hear g.L.SymbolLines.part _ _ _ (node_told c.args.circuit.now letters c.args.node ∷ []) (ends ++ gates) _ (rw c.node_line.ensures at c.in_ok-tell_line.ensures.heard)
    (told_then g.L.SymbolLines.hear g.L.SymbolLines.part _ _ _ ends gates _ c.in_ok-tell_at.ensures.heard c.tell_at-2.ensures.heard)
