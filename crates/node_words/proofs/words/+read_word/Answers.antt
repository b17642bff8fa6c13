use Rattle.std.proofs.Common.{◌-◌, sym, ap, ◌∙◌, inl, inr, arith}
use Rattle.std.proofs.lemmas.Result.{IfErr-weaker, err_from_is_err_and, on_ok_weaker}
use Rattle.std.specs.List.{flat_map}
use Rattle.node_words.specs.Ranges.{words_in}
use Rattle.node_words.specs.Words.{parts, with_parts}
use Rattle.node_words.proofs.WordLemmas.{parts-range, range-done, range-fault, range-takes, with_parts-deep, with_parts-plain}
use Rattle.node_words.proofs.words.+read_word.Goals as goal

pub returns-in-None-clause-ok : goal.returns-in-None-clause-ok
returns-in-None-clause-ok t c =
    on_ok_weaker c.read_plain.result
    (λ made. with_parts-plain c.args.circuit.now c.args.vectors.now c.args.left c.args.word.now c.args.list.now.items (sym c.in-None.ensures) ∙ made)
    c.read_plain.ensures.ok

pub returns-then-left-eq0-clause-refused : goal.returns-then-left-eq0-clause-refused
returns-then-left-eq0-clause-refused t c =
    inr (with_parts-deep c.args.circuit.now c.args.vectors.now c.args.left c.args.word.now c.args.list.now.items _ c.if-left-eq0.true (sym c.in-Some.ensures))

pub returns-in-None-clause-refused : goal.returns-in-None-clause-refused
returns-in-None-clause-refused t c =
    IfErr-weaker c.read_plain.result _ _
    (λ fault refused. elim refused [
      | inl want ↦ inl want
      | inr made ↦ inr (with_parts-plain c.args.circuit.now c.args.vectors.now c.args.left c.args.word.now c.args.list.now.items (sym c.in-None.ensures) ∙ made)
    ])
    c.read_plain.ensures.refused

pub returns-in_err-read_word-clause-refused : goal.returns-in_err-read_word-clause-refused
returns-in_err-read_word-clause-refused t c =
    let stopped = err_from_is_err_and c.from_residual-in_err-read_word.result c.from_residual-in_err-read_word.ensures.1 in
    rw (stopped.1, stopped.2)
    (elim c.in_err-read_word.ensures.refused [
      | inl want ↦ inl want
      | inr made ↦ inr (ap (with_parts c.args.list.now.items)
          (parts-range c.args.circuit.now c.args.vectors.now c.args.left c.args.word.now c.in-Some.range (omega (arith, c.if-left-eq0.false)) (sym c.in-Some.ensures))
          ∙ range-fault (with_parts c.args.list.now.items (flat_map (parts c.args.circuit.now c.args.vectors.now (c.args.left - 1)) (words_in c.in-Some.range)))
          (parts c.args.circuit.now c.args.vectors.now (c.args.left - 1)) c.in-Some.range c.loop-place.place c.loop-place.list.items
          c.deref.result.now c.in_err-read_word.field-0.0 c.loop-place.invariant (omega (arith, c.loop-place-test.true, c.len-place-end.ensures))
          (c.deref.ensures.value ∙ c.in_ok-inner.ensures) made)
    ])

pub loop-place-preserved : goal.loop-place-preserved
loop-place-preserved t c =
    range-takes (with_parts c.args.list.now.items (flat_map (parts c.args.circuit.now c.args.vectors.now (c.args.left - 1)) (words_in c.in-Some.range)))
    (parts c.args.circuit.now c.args.vectors.now (c.args.left - 1)) c.in-Some.range c.loop-place.place c.loop-place.list.items
    c.read_word.new.list.items c.deref.result.now c.loop-place.invariant (omega (arith, c.loop-place-test.true, c.len-place-end.ensures))
    (c.deref.ensures.value ∙ c.in_ok-inner.ensures) c.in_ok-read_word.ensures.ok

pub returns-clause-ok : goal.returns-clause-ok
returns-clause-ok t c =
    ap (with_parts c.args.list.now.items)
    (parts-range c.args.circuit.now c.args.vectors.now c.args.left c.args.word.now c.in-Some.range (omega (arith, c.if-left-eq0.false)) (sym c.in-Some.ensures))
    ∙ range-done (with_parts c.args.list.now.items (flat_map (parts c.args.circuit.now c.args.vectors.now (c.args.left - 1)) (words_in c.in-Some.range)))
    (parts c.args.circuit.now c.args.vectors.now (c.args.left - 1)) c.in-Some.range c.loop-place.place c.loop-place.list.items
    c.loop-place.invariant (omega (arith, c.loop-place-test.false, c.len-place-end.ensures))
