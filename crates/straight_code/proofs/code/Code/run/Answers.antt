-- Each instruction reads inputs and earlier results alone, so the results that were written serve for the next one.
use Rattle.std.proofs.Common.{◌≡◌, ◌<◌, length, take, sym, ap, ◌∙◌, arith, rules}
use Rattle.std.proofs.lemmas.List.{length-take-le}
use Rattle.std.proofs.lemmas.Option.{slice_get-get_or}
use Rattle.straight_code.specs.Code.{results}
use Rattle.straight_code.proofs.RunLemmas.{results-written}
use Rattle.straight_code.proofs.code.Code.run.Goals as goal

pub loop-k-init : goal.loop-k-init
unfolding results
loop-k-init g c = search rules

pub instruction_value-requires : goal.instruction_value-requires
instruction_value-requires g c =
    let k = c.loop-k.k in
    let items = c.self.inside.instructions.items in
    let inputs : length c.args.input.now ≡ c.self.inside.inputs = c.requires.input ∙ sym (ap (λ code. code.inputs) c.self.view_is) in
    let count = ap (λ code. length code.instructions) c.self.view_is in
    let value = c.deref-instruction-items.ensures.value in
    let inside : k < length items = omega (arith, ap length value) in
    let room : k < length c.loop-k.scratch = omega arith in
    let long : length (take k c.loop-k.scratch) ≡ k = length-take-le k c.loop-k.scratch (omega arith) in
    rw (inputs, long, value) (c.self.invariant.0.reads k _ (slice_get-get_or items k _ inside))

pub loop-k-preserved : goal.loop-k-preserved
loop-k-preserved g c =
    let k = c.loop-k.k in
    let instructions = c.args.self.now.instructions in
    let value = c.deref-instruction-items.ensures.value ∙ ap (λ code. code.instructions) c.self.view_is in
    let inside : k < length instructions = omega (arith, ap length value) in
    let room : k < length c.loop-k.scratch = omega arith in
    record {
      done =
          results-written c.args.input.now instructions c.loop-k.scratch k _ c.instruction_value.result inside room c.loop-k.invariant.done
          (rw value at c.instruction_value.ensures);
      steps = omega arith;
    }
