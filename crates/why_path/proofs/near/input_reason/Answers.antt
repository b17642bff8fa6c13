-- The empty path, or none.
use Rattle.std.proofs.Common.{◌∙◌, sym}
use Rattle.switch_paths.specs.Spread.{rail_of}
use Rattle.why_path.proofs.NearLemmas.{input_best, input_none}
use Rattle.why_path.proofs.near.input_reason.Goals as goal

pub returns-then-not-has_rail : goal.returns-then-not-has_rail
returns-then-not-has_rail c =
    input_none (rail_of c.args.one) c.args.graph.now c.graphs_are_wired.ensures c.args.state.now c.args.node c.requires.node c.requires.input
    (λ set. absurd (cc (c.has_rail.ensures, c.if-not-has_rail.true)))

pub returns : goal.returns
returns c =
    rw c.new.ensures.items
    (input_best (rail_of c.args.one) c.args.graph.now c.graphs_are_wired.ensures c.args.state.now c.args.node c.requires.node c.requires.input
    (sym c.has_rail.ensures ∙ c.if-not-has_rail.false))
