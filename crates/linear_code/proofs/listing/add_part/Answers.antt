-- The instructions that were passed stand behind those that were there, and no two inputs stand for one node.
use Rattle.std.proofs.Common.{◌≡◌, ◌<◌, ◌≤◌, length, map, take, ap, subst, ◌∙◌, arith}
use Rattle.std.proofs.lemmas.List.{length-append, length-map, length-take-le, take_all, get_or_read}
use Rattle.std.proofs.lemmas.Option.{slice_get-get_or}
use Rattle.straight_code.specs.Code.{IsCode}
use Rattle.linear_code.specs.Moved.{moved_instruction}
use Rattle.linear_code.proofs.MovedLemmas.{AreAllowed-more, PutsOutputs-next}
use Rattle.linear_code.proofs.listing.add_part.Goals as goal

pub moved_instruction-requires-clause-reads : goal.moved_instruction-requires-clause-reads
moved_instruction-requires-clause-reads c =
    let part = c.args.part.now in
    let k = c.loop-instruction.instruction-index in
    let value = c.instructions-instruction-items.ensures.value ∙ ap (λ code. code.instructions) c.deref.ensures in
    let program : IsCode part.code.value = subst IsCode c.deref.ensures c.instructions-instruction-items.ensures.program in
    let inside : k < length part.code.value.instructions = omega (arith, ap length value) in
    let passed = take k part.code.value.instructions in
    let long = ap length c.loop-instruction.invariant ∙ length-append c.args.instructions.now.items (map (moved_instruction part.map.items c.len-offset.result) passed) in
    let many = length-map passed (moved_instruction part.map.items c.len-offset.result) ∙ length-take-le k part.code.value.instructions (omega arith) in
    let few : k ≤ 9223372036854775808 = omega (arith, long, many, c.loop-instruction.instructions.small, c.loop-instruction.instructions.ok.0, c.loop-instruction.instructions.ok.1) in
    let inputs : length c.deref-in-loop-instruction.result.now ≡ part.code.value.inputs = ap length c.deref-in-loop-instruction.ensures.value ∙ c.requires.inputs in
    rw (inputs, value)
    (AreAllowed-more part.code.value.inputs k 9223372036854775808 _ (program.reads k _ (slice_get-get_or part.code.value.instructions k _ inside)) few)

pub loop-j-preserved : goal.loop-j-preserved
loop-j-preserved c =
    let part = c.args.part.now in
    let value = c.output_pairs-output-items.ensures ∙ ap (λ code. code.outputs) c.deref-2.ensures in
    let inside : c.loop-j.j < length part.map.items = omega (arith, ap length value, c.requires.outputs, c.requires.members) in
    let node = get_or_read part.map.items c.loop-j.j c.index.result.now inside c.index.ensures 0 in
    let room : c.index.result.now < length c.loop-j.outputs =
    omega (arith, c.requires.below c.loop-j.j c.index.result.now inside, c.index.ensures, c.loop-j.invariant.count) in
    let output = rw (c.deref-in-loop-j.ensures.value, value) at c.moved_output.ensures in
    PutsOutputs-next part.map.items c.len-offset.result part.code.value.outputs c.loop-j.j c.index.result.now c.args.outputs.now c.loop-j.outputs c.moved_output.result
    c.requires.apart inside node room output c.loop-j.invariant

pub returns-clause-adds : goal.returns-clause-adds
returns-clause-adds c =
    let part = c.args.part.now in
    let before = c.args.instructions.now in
    let offset : c.len-offset.result ≡ length before.items = omega (arith, before.ok.0, c.len-offset.ensures) in
    let instructions = c.instructions-instruction-items.ensures.value ∙ ap (λ code. code.instructions) c.deref.ensures in
    let outputs = c.output_pairs-output-items.ensures ∙ ap (λ code. code.outputs) c.deref-2.ensures in
    let all : length part.code.value.instructions ≤ c.loop-instruction.instruction-index = omega (arith, ap length instructions) in
    let passed = take_all c.loop-instruction.instruction-index part.code.value.instructions all in
    let last : c.loop-j.j ≡ part.members = omega (arith, ap length outputs, c.requires.outputs) in
    record {
      instructions = rw (passed, offset) at c.loop-instruction.invariant;
      outputs = rw (offset, last) at c.loop-j.invariant;
    }
