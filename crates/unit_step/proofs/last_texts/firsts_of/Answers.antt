-- One number more is put there, unless it was seen.
use Rattle.std.proofs.Common.{◌+◌, ◌<◌, None, length, take, sym, ap, subst, arith}
use Rattle.std.specs.Prelude.{slice_index_or}
use Rattle.std.proofs.lemmas.List.{take_all, take_more, with_items_is}
use Rattle.unit_step.specs.LastTexts.{AreFirsts}
use Rattle.unit_step.proofs.LastTextsLemmas.{if_some_each}
use Rattle.unit_step.proofs.last_texts.firsts_of.Goals as goal

pub note_first-requires : goal.note_first-requires
note_first-requires c =
    let i = c.loop-number.number-index in
    if_some_each (slice_index_or c.args.numbers.now i None) (λ one. one < length c.deref_mut.result.now) (λ one is.
    omega (arith, c.requires i one is, ap length c.deref_mut.ensures.value, c.loop-number.invariant.counted))

pub loop-number-preserved : goal.loop-number-preserved
loop-number-preserved c =
    let numbers = c.args.numbers.now in
    let i = c.loop-number.number-index in
    let firsts = c.note_first.new.firsts.items in
    let final = with_items_is c.loop-number.seen c.note_first.new.seen (omega (arith, c.note_first.auto.seen, c.deref_mut.ensures.len)) in
    let passed = take_more numbers i None c.loop-number-test.true in
    let before = subst (AreFirsts (take i numbers) c.loop-number.firsts.items) (sym c.deref_mut.ensures.value) c.loop-number.invariant.are in
    let after = c.in_ok-note_first.ensures (take i numbers) before in
    record {
      counted = omega (arith, ap length final, c.note_first.auto.seen, ap length c.deref_mut.ensures.value, c.loop-number.invariant.counted);
      are = subst (AreFirsts (take (i + 1) numbers) firsts) (sym final) (subst (λ list. AreFirsts list firsts c.note_first.new.seen) (sym passed) after);
    }

pub returns : goal.returns
returns c =
    let seen = c.loop-number.seen.items in (
      seen,
      c.loop-number.invariant.counted,
      subst (λ list. AreFirsts list c.loop-number.firsts.items seen)
          (take_all c.loop-number.number-index c.args.numbers.now (omega (arith, c.loop-number-test.false))) c.loop-number.invariant.are,
    )
