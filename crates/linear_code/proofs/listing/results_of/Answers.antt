-- Each instruction reads nodes and earlier results alone, so the results so far serve for the next one.
use Rattle.std.proofs.Common.{◌≡◌, ◌<◌, length, take, ap, ◌∙◌, arith, rules}
use Rattle.std.proofs.lemmas.List.{length-take-le}
use Rattle.std.proofs.lemmas.Option.{slice_get-get_or}
use Rattle.straight_code.specs.Code.{results}
use Rattle.straight_code.proofs.ResultLemmas.{length-results}
use Rattle.linear_code.proofs.ListingLemmas.{results-next}
use Rattle.linear_code.proofs.listing.results_of.Goals as goal

pub loop-instruction-init : goal.loop-instruction-init
unfolding results
loop-instruction-init c = search rules

pub instruction_value-result-requires : goal.instruction_value-result-requires
instruction_value-result-requires c =
    let k = c.loop-instruction.instruction-index in
    let instructions = c.args.instructions.now in
    let inside : k < length instructions = omega arith in
    let before : length (take k instructions) ≡ k = length-take-le k instructions (omega arith) in
    let long : length c.deref.result.now ≡ k =
    ap length (c.deref.ensures.value ∙ c.loop-instruction.invariant) ∙ length-results c.args.state.now (take k instructions) ∙ before in
    rw long (c.requires k _ (slice_get-get_or instructions k _ inside))

pub loop-instruction-preserved : goal.loop-instruction-preserved
loop-instruction-preserved c =
    let k = c.loop-instruction.instruction-index in
    let inside : k < length c.args.instructions.now = omega arith in
    c.in_ok-push.ensures.items
    ∙ results-next c.args.state.now c.args.instructions.now k _ c.loop-instruction.results.items c.instruction_value-result.result inside
    c.loop-instruction.invariant
    (rw c.deref.ensures.value at c.instruction_value-result.ensures)
