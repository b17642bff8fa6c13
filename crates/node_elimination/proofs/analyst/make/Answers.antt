-- The code means the formulas, and these the text.
use Rattle.std.proofs.Common.{ap, ◌∙◌}
use Rattle.node_elimination.specs.Holding.{ids_of}
use Rattle.node_elimination.proofs.MeaningLemmas.{MeansText-made}
use Rattle.node_elimination.proofs.analyst.make.Goals as goal

pub linearise-requires-clause-formulas : goal.linearise-requires-clause-formulas
linearise-requires-clause-formulas g c = simp c.deref.ensures.value c.in_ok-answers.ensures.formulas

pub linearise-requires-clause-variables : goal.linearise-requires-clause-variables
linearise-requires-clause-variables g c =
    simp (c.deref.ensures.value, c.nodes.ensures, c.graph.ensures.value) c.in_ok-answers.ensures.variables

pub returns-clause-means : goal.returns-clause-means
returns-clause-means g c =
    MeansText-made c.args.text.now c.graph.ensures.text c.analyse.new.pool c.in_ok-answers.answers.items
    c.in_ok-answers.ensures.count
    c.in_ok-answers.ensures.responses c.in_ok-answers.ensures.gates c.in_ok-code.code
    (simp (c.nodes.ensures, c.graph.ensures.value) at c.in_ok-code.ensures.inputs)
    (simp c.deref.ensures.value at c.in_ok-code.ensures.outputs)
    (simp c.deref.ensures.value at c.in_ok-code.ensures.means) (simp c.deref.ensures.value at c.in_ok-code.ensures.exact)

pub returns-clause-formulas : goal.returns-clause-formulas
returns-clause-formulas g c = record {
  pairs = c.in_ok-answers.answers.items;
  are = c.in_ok-formulas.ensures ∙ ap ids_of c.deref-2.ensures.value;
  count = c.in_ok-answers.ensures.count;
  inside = c.in_ok-answers.ensures.formulas;
  responses = c.in_ok-answers.ensures.responses;
}
