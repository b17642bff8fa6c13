-- The rails of the step are the entries of the two tables.
use Rattle.std.proofs.Common.{◌≡◌, ◌∙◌, ℕ, List, ◌++◌, length, take, arith}
use Rattle.std.proofs.Math.Seq.{take-append_seam}
use Rattle.switch_paths.proofs.TableMeaning.{some_entry, step_from_entries}
use Rattle.switch_paths.proofs.plain.plain_step_into.Goals as goal

-- a vector that was written as a whole holds what was written
written : (count : ℕ) (table rest : List ℕ) → length table ≡ count → take count (table ++ rest) ≡ table
written count table rest whole = rw (← whole) (take-append_seam table rest)

pub put_responses-requires-clause-some : goal.put_responses-requires-clause-some
put_responses-requires-clause-some c =
    let one : c.deref-5.result.now ≡ c.put_reached.new.table =
    c.deref-5.ensures.value ∙ written _ c.put_reached.new.table _ (c.put_reached.auto.table ∙ c.deref_mut-4.ensures.len) in
    let zero : c.deref-6.result.now ≡ c.put_reached-2.new.table =
    c.deref-6.ensures.value ∙ written _ c.put_reached-2.new.table _ (c.put_reached-2.auto.table ∙ c.deref_mut-5.ensures.len) in
    λ n inside. rw (one, zero)
    (some_entry c.args.graph.now c.switches.ensures.wired c.args.state.now c.put_reached.new.table c.put_reached-2.new.table
    c.put_reached.ensures c.put_reached-2.ensures n (omega (arith, c.requires.out)))

pub returns-clause-step : goal.returns-clause-step
returns-clause-step c =
    let one : c.deref-5.result.now ≡ c.put_reached.new.table =
    c.deref-5.ensures.value ∙ written _ c.put_reached.new.table _ (c.put_reached.auto.table ∙ c.deref_mut-4.ensures.len) in
    let zero : c.deref-6.result.now ≡ c.put_reached-2.new.table =
    c.deref-6.ensures.value ∙ written _ c.put_reached-2.new.table _ (c.put_reached-2.auto.table ∙ c.deref_mut-5.ensures.len) in
    let count : length c.put_responses.new.out ≡ length c.args.out.now = c.put_responses.auto.out in
    step_from_entries c.args.graph.now c.switches.ensures.wired c.args.state.now c.put_reached.new.table
    c.put_reached-2.new.table
    c.put_reached.ensures c.put_reached-2.ensures c.put_responses.new.out (count ∙ c.requires.out)
    (λ n inside. rw one at (c.put_responses.ensures.one n (omega (arith, count))))
    (λ n inside. rw zero at (c.put_responses.ensures.zero n (omega (arith, count))))
