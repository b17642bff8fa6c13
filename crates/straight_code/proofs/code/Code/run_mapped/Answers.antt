-- The array begins with the constants and the rails, and each instruction adds its result.
use Rattle.std.proofs.Common.{◌≡◌, ◌+◌, ◌*◌, ◌<◌, List, length, map, take, sym, ap, ◌∙◌, arith}
use Rattle.std.proofs.lemmas.List.{length-map, length-take-le, take_all}
use Rattle.ternary.specs.declared.tern.Tern.{Tern}
use Rattle.switch_paths.specs.Switching.{state_at}
use Rattle.straight_code.specs.Code.{results, output_state}
use Rattle.straight_code.specs.Flat.{flat_values, step_of, pair_of}
use Rattle.straight_code.proofs.RunMappedLemmas.{no_step, no_pair, no_output, reads_within, result_written, pair_within, state_written}
use Rattle.straight_code.proofs.code.Code.run_mapped.Given.{Over}
use Rattle.straight_code.proofs.code.Code.run_mapped.Goals.{After-self}
use Rattle.straight_code.proofs.code.Code.run_mapped.Goals as goal

-- there is a state for each input
many_inputs : (g : Over) (c : After-self g) → length (map (state_at c.args.state.now) c.args.nodes.now) ≡ c.self.inside.inputs
many_inputs g c =
    length-map c.args.nodes.now (state_at c.args.state.now) ∙ c.requires.nodes ∙ sym (ap (λ code. code.inputs) c.self.view_is)

pub loop-k-init : goal.loop-k-init
unfolding results
loop-k-init g c =
    let nodes = c.args.nodes.now in
    let inputs : c.self.inside.inputs ≡ length nodes = ap (λ code. code.inputs) c.self.view_is ∙ sym c.requires.nodes in
    let place : 2 + 2 * c.self.inside.inputs + 0 ≡ 2 + 2 * length nodes = omega (arith, inputs) in
    record { done = ap (λ count. take count c.fill_rails.new.values) place ∙ c.fill_rails.ensures.rails; steps = omega arith }

pub step_value-requires : goal.step_value-requires
step_value-requires g c =
    let input : List Tern = map (state_at c.args.state.now) c.args.nodes.now in
    let k = c.loop-k.k in
    let many = many_inputs g (goal.at.step_value-requires g c).After-self in
    let items = c.self.inside.instructions.items in
    let flat = c.deref-step-items.ensures.value ∙ c.self.invariant.1.steps in
    let inside : k < length items = omega (arith, ap length flat, length-map items (step_of c.self.inside.inputs)) in
    let within = reads_within input items c.deref-step-items.result.now (rw many flat) (rw many c.self.invariant.0.reads) k inside no_step in
    let long = length-take-le (2 + 2 * c.self.inside.inputs + k) c.loop-k.values
    (omega (arith, ap (λ code. code.inputs) c.self.view_is, ap (λ code. length code.instructions) c.self.view_is)) in
    rw long (record { a = omega (arith, within.a, many); b = omega (arith, within.b, many) })

pub loop-k-preserved : goal.loop-k-preserved
loop-k-preserved g c =
    let input : List Tern = map (state_at c.args.state.now) c.args.nodes.now in
    let k = c.loop-k.k in
    let values = c.loop-k.values in
    let many = many_inputs g (goal.at.loop-k-preserved g c).After-self in
    let items = c.self.inside.instructions.items in
    let same : items ≡ c.args.self.now.instructions = ap (λ code. code.instructions) c.self.view_is in
    let flat = c.deref-step-items.ensures.value ∙ c.self.invariant.1.steps in
    let inside : k < length items = omega (arith, ap length flat, length-map items (step_of c.self.inside.inputs)) in
    let so_far : take (2 + 2 * length input + k) values ≡ flat_values input (results input (take k items)) =
    rw (many, same) c.loop-k.invariant.done in
    let room : 2 + 2 * length input + k < length values =
    omega (arith, many, inside, ap (λ code. code.inputs) c.self.view_is, ap (λ code. length code.instructions) c.self.view_is) in
    let written = result_written input items c.deref-step-items.result.now (rw many flat) (rw many c.self.invariant.0.reads) k inside no_step values
    c.step_value.result room so_far (rw many c.step_value.ensures) in
    record { done = rw (many, same) at written; steps = omega arith }

pub pair_value-requires : goal.pair_value-requires
pair_value-requires g c =
    let input : List Tern = map (state_at c.args.state.now) c.args.nodes.now in
    let k = c.loop-k-2.k in
    let many = many_inputs g (goal.at.pair_value-requires g c).After-self in
    let items = c.self.inside.instructions.items in
    let outputs = c.self.inside.outputs.items in
    let counted : c.len.result ≡ length items = omega (arith, c.len.ensures, c.self.inside.instructions.ok.0) in
    let flat = c.deref-pair-items.ensures.value ∙ c.self.invariant.1.pairs in
    let inside : k < length outputs = omega (arith, ap length flat, length-map outputs (pair_of c.self.inside.inputs)) in
    let within = pair_within input items outputs c.deref-pair-items.result.now (rw many flat) (rw many c.self.invariant.0.outputs) k inside no_pair no_output in
    let long = length-take-le (2 + 2 * c.self.inside.inputs + c.len.result) c.loop-k.values
    (omega (arith, counted, ap (λ code. code.inputs) c.self.view_is, ap (λ code. length code.instructions) c.self.view_is)) in
    rw long (record { hi = omega (arith, within.hi, many, counted); lo = omega (arith, within.lo, many, counted) })

pub loop-k-2-preserved : goal.loop-k-2-preserved
loop-k-2-preserved g c =
    let input : List Tern = map (state_at c.args.state.now) c.args.nodes.now in
    let k = c.loop-k-2.k in
    let many = many_inputs g (goal.at.loop-k-2-preserved g c).After-self in
    let items = c.self.inside.instructions.items in
    let outputs = c.self.inside.outputs.items in
    let same : items ≡ c.args.self.now.instructions = ap (λ code. code.instructions) c.self.view_is in
    let same_outputs : outputs ≡ c.args.self.now.outputs = ap (λ code. code.outputs) c.self.view_is in
    let counted : c.len.result ≡ length items = omega (arith, c.len.ensures, c.self.inside.instructions.ok.0) in
    let steps = c.deref-step-items.ensures.value ∙ c.self.invariant.1.steps in
    let last : c.loop-k.k ≡ length items = omega (arith, ap length steps, length-map items (step_of c.self.inside.inputs)) in
    let flat = c.deref-pair-items.ensures.value ∙ c.self.invariant.1.pairs in
    let inside : k < length outputs = omega (arith, ap length flat, length-map outputs (pair_of c.self.inside.inputs)) in
    let all : take c.loop-k.k c.args.self.now.instructions ≡ items =
    take_all c.loop-k.k c.args.self.now.instructions (omega (arith, last, ap length same)) ∙ sym same in
    let whole : take (2 + 2 * c.self.inside.inputs + c.len.result) c.loop-k.values ≡ flat_values input (results input items) =
    ap (λ count. take (2 + 2 * c.self.inside.inputs + count) c.loop-k.values) (counted ∙ sym last)
    ∙ c.loop-k.invariant.done ∙ ap (λ list. flat_values input (results input list)) all in
    let so_far : take k c.loop-k-2.out ≡ map (output_state input (results input items)) (take k outputs) =
    rw (same, same_outputs) c.loop-k-2.invariant in
    let room : k < length c.loop-k-2.out = omega (arith, inside, ap length same_outputs, c.requires.out) in
    let written = state_written input items outputs c.deref-pair-items.result.now (rw many flat) (rw many c.self.invariant.0.outputs) k inside
    no_pair no_output _ c.loop-k-2.out c.pair_value.result room whole so_far c.pair_value.ensures in
    rw (same, same_outputs) at written
