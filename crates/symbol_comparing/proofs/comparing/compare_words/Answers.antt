-- One word more; at a fault at it something is told of the words that are left.
use Rattle.std.proofs.Common.{◌+◌, List, drop, refl, ◌∙◌, arith}
use Rattle.std.proofs.lemmas.List.{at_drop_all}
use Rattle.std.proofs.lemmas.Result.{err_from_is_err_and}
use Rattle.decision_graph.proofs.VertexLemmas.{Extends-same, Extends-trans}
use Rattle.symbol_meaning.specs.Comparing.{Watched, by_words}
use Rattle.symbol_comparing.specs.Rails.{letters_in, rails_seen}
use Rattle.symbol_comparing.proofs.StateLemmas.{rails_later}
use Rattle.symbol_comparing.proofs.CompareLemmas.{words_come, words_come_end, words_come_on, words_come_stop, words_told}
use Rattle.symbol_comparing.proofs.LoopLemmas.{as_many_words, names_first, rails_front, rails_rest, valuations_later, word_lines, word_part, words_both}
use Rattle.symbol_comparing.proofs.comparing.compare_words.Goals as goal

pub loop-j-init : goal.loop-j-init
loop-j-init g c = record {
  shape = record { variables = refl; most = refl };
  extends = Extends-same c.args.symbols.now.graph.vertices;
  first = c.requires.one;
  second = c.requires.other;
  names = c.requires.words;
  come = λ v are. words_come v c.args.line c.args.variables.now _ _ c.args.workspace.now.written c.args.workspace.now.count;
  faults = refl;
  refusals = refl;
}

pub compare_word-requires : goal.compare_word-requires
compare_word-requires g c =
    let old = c.args.symbols.now in
    let now = c.loop-j.symbols in
    let inv = c.loop-j.invariant in
    record {
      one = rails_later old now inv.shape inv.extends (rails_seen c.cut.result.0)
          (rails_front old _ _ c.word_at-first.result.1 c.cut.ensures.front inv.first);
      other = rails_later old now inv.shape inv.extends (rails_seen c.cut-in-loop-j.result.0)
          (rails_front old _ _ c.word_at-second.result.1 c.cut-in-loop-j.ensures.front inv.second);
    }

pub loop-j-preserved : goal.loop-j-preserved
loop-j-preserved g c =
    let old = c.args.symbols.now in
    let now = c.loop-j.symbols in
    let new = c.compare_word.new.symbols in
    let inv = c.loop-j.invariant in
    let names = names_first _ _ _ _ _ _ _ _ c.word_at-first.ensures c.word_at-second.ensures inv.names in
    record {
      shape = record {
        variables = c.compare_word.ensures.shape.variables ∙ inv.shape.variables;
        most = c.compare_word.ensures.shape.most ∙ inv.shape.most;
      };
      extends = Extends-trans old.graph.vertices now.graph.vertices new.graph.vertices inv.extends c.compare_word.ensures.extends;
      first = rails_rest old _ _ c.word_at-first.result.1 c.cut.ensures.rest inv.first;
      second = rails_rest old _ _ c.word_at-second.result.1 c.cut-in-loop-j.ensures.rest inv.second;
      names = names.1;
      come = λ v are. words_come_on v c.args.line c.args.variables.now _ _ _ _ _ _ _ _ _ _ _ _ _ _ _ (inv.come v are)
          (λ column inside. words_both old _ _ _ _ _ _ _ _ _ _ _ _ _ _ c.word_at-first.ensures c.cut.ensures.front c.cut.ensures.rest c.word_at-second.ensures
          c.cut-in-loop-j.ensures.front c.cut-in-loop-j.ensures.rest names.0 column)
          (word_lines old now inv.shape inv.extends v c.args.line _ _ _ c.args.variables.now _ _ _ _
          (rails_front old _ _ c.word_at-first.result.1 c.cut.ensures.front inv.first)
          (rails_front old _ _ c.word_at-second.result.1 c.cut-in-loop-j.ensures.front inv.second)
          (c.in_ok-compare_word.ensures.told v (valuations_later old now inv.shape inv.extends v are)));
      faults = c.in_ok-compare_word.ensures.write ∙ inv.faults;
      refusals = c.in_ok-compare_word.ensures.refused ∙ inv.refusals;
    }

pub returns-in_err-compare_word-clause-told : goal.returns-in_err-compare_word-clause-told
returns-in_err-compare_word-clause-told g c = λ v are.
    let stopped = err_from_is_err_and c.from_residual.result c.from_residual.ensures.1 in
    let old = c.args.symbols.now in
    let now = c.loop-j.symbols in
    let inv = c.loop-j.invariant in
    let names = names_first _ _ _ _ _ _ _ _ c.word_at-first.ensures c.word_at-second.ensures inv.names in
    rw stopped.1
    (words_come_stop v c.args.line c.args.variables.now _ _ _ _ _ _ _ _ _ _ _ c.compare_word.new.workspace.count _ _ _ (inv.come v are)
    (λ column inside. words_both old _ _ _ _ _ _ _ _ _ _ _ _ _ _ c.word_at-first.ensures c.cut.ensures.front c.cut.ensures.rest c.word_at-second.ensures
    c.cut-in-loop-j.ensures.front c.cut-in-loop-j.ensures.rest names.0 column)
    (word_part old now inv.shape inv.extends v c.args.line _ _ _ c.args.variables.now _ _
    (rails_front old _ _ c.word_at-first.result.1 c.cut.ensures.front inv.first)
    (rails_front old _ _ c.word_at-second.result.1 c.cut-in-loop-j.ensures.front inv.second)
    (c.in_err-compare_word.ensures.told v (valuations_later old now inv.shape inv.extends v are)))
    (words_told v c.args.line (drop (c.loop-j.j + 1) c.args.words.now) (drop (c.loop-j.j + 1) c.args.others.now)
    (letters_in old (rails_seen c.cut.result.1)) (letters_in old (rails_seen c.cut-in-loop-j.result.1)) names.1))

pub returns-clause-told : goal.returns-clause-told
returns-clause-told g c = λ v are.
    words_come_end v c.args.line c.args.variables.now _ _ _ _ _ _ _ _ (c.loop-j.invariant.come v are)
    (λ column inside. (
      at_drop_all (λ (words : List Watched). by_words words (letters_in c.args.symbols.now (rails_seen c.loop-j.left) column)) c.args.words.now c.loop-j.j
          (omega (arith, c.loop-j-test.false)),
      at_drop_all (λ (words : List Watched). by_words words (letters_in c.args.symbols.now (rails_seen c.loop-j.right) column)) c.args.others.now c.loop-j.j
          (omega (arith, c.loop-j-test.false, as_many_words c.args.words.now c.args.others.now c.requires.words)),
    ))
