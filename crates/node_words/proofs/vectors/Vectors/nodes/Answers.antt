use Rattle.std.proofs.Common.{ℕ, List, Some, option_map, ap, ◌∙◌}
use Rattle.node_words.specs.Words.{list_of}
use Rattle.node_words.proofs.VectorLemmas.{list_of-lists_of}
use Rattle.node_words.proofs.vectors.Vectors.nodes.Goals as goal

pub returns-in_err-nodes : goal.returns-in_err-nodes
returns-in_err-nodes c =
    rw c.from_residual.ensures (ap (option_map (λ list. list.items)) c.in_err-nodes.ensures.value
    ∙ list_of-lists_of c.self.inside.table.entries c.args.name.now
    ∙ ap (λ (vectors : List (List ℕ × List ℕ)). list_of vectors c.args.name.now) c.self.view_is)

pub returns : goal.returns
returns c =
    ap Some c.deref.ensures.value
    ∙ ap (option_map (λ list. list.items)) c.in_ok-nodes.ensures.value
    ∙ list_of-lists_of c.self.inside.table.entries c.args.name.now
    ∙ ap (λ (vectors : List (List ℕ × List ℕ)). list_of vectors c.args.name.now) c.self.view_is
