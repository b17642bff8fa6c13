-- What a node is called stands for it.
use Rattle.std.proofs.Common.{◌≡◌, ℕ, List, Some, subst}
use Rattle.std.proofs.lemmas.Bool.{OnTrue_at, OnTrue_from}
use Rattle.netlist.specs.Names.{node_of}
use Rattle.node_values.proofs.guesses.is_called.Goals as goal

pub returns : goal.returns
returns c =
    OnTrue_from c.is_same.result _
    (λ set. subst (λ (name : List ℕ). node_of c.args.circuit.now.names name ≡ Some c.args.node) (OnTrue_at set c.is_same.ensures) c.name_of.ensures.found)
