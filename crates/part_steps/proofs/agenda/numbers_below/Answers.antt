-- One number more is listed, up to the last.
use Rattle.std.proofs.Common.{◌≡◌, ◌∷◌, ◌++◌, [], sym, ap, ◌∙◌, arith}
use Rattle.std.proofs.lemmas.List.FromFn.{map-range_with_len_more}
use Rattle.part_steps.proofs.agenda.numbers_below.Goals as goal

pub loop-k-preserved : goal.loop-k-preserved
loop-k-preserved c =
    let k = c.loop-k.k in
    record {
      items = c.push_reserved.ensures.items
          ∙ (ap (λ front. front ++ k ∷ []) c.loop-k.invariant.items ∙ sym (map-range_with_len_more (λ n. n) 0 k k (omega arith)));
      len = omega (arith, c.push_reserved.ensures.len, c.loop-k.invariant.len);
      room = c.push_reserved.ensures.capacity ∙ c.loop-k.invariant.room;
    }

pub returns-clause-numbers : goal.returns-clause-numbers
returns-clause-numbers c =
    let last : c.loop-k.k ≡ c.args.count = omega (arith, c.loop-k.auto.k-end, c.loop-k-test.false) in
    rw last at c.loop-k.invariant.items
