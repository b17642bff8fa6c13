use Rattle.std.proofs.Common.{inl, inr}
use Rattle.std.proofs.lemmas.Result.{err_from_is_err_and}
use Rattle.node_words.specs.declared.TheConstants.{MOST_DEPTH}
use Rattle.node_words.specs.Words.{parts}
use Rattle.node_words.proofs.VectorLemmas.{words-fault, words-take}
use Rattle.node_words.proofs.vectors.Vectors.read_words.Goals as goal

pub returns-in_err-read_word-clause-refused : goal.returns-in_err-read_word-clause-refused
returns-in_err-read_word-clause-refused c =
    let stopped = err_from_is_err_and c.from_residual.result c.from_residual.ensures.1 in
    rw (stopped.1, stopped.2)
    (elim c.in_err-read_word.ensures.refused [
      | inl want ↦ inl want
      | inr made ↦
          inr (words-fault _ (parts c.args.circuit.now c.args.self.now MOST_DEPTH) c.args.words.now c.loop-word.word-index c.loop-word.list.items
          c.word-item.result c.items.result.now c.in_err-read_word.field-0.0 c.loop-word.invariant c.loop-word-test.true c.word-item.is c.items.ensures made)
    ])

pub loop-word-preserved : goal.loop-word-preserved
loop-word-preserved c =
    words-take _ (parts c.args.circuit.now c.args.self.now MOST_DEPTH) c.args.words.now c.loop-word.word-index c.loop-word.list.items
    c.read_word.new.list.items c.word-item.result c.items.result.now c.loop-word.invariant c.loop-word-test.true c.word-item.is c.items.ensures
    c.in_ok-read_word.ensures.ok
