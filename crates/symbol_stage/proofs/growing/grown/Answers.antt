-- All that are wanted stand there.
use Rattle.std.proofs.Common.{◌≡◌, ◌-◌, length, sym, arith, append-nil}
use Rattle.machine_parts.proofs.EditingLemmas.{replicated-more}
use Rattle.symbol_stage.proofs.growing.grown.Goals as goal

pub loop-node-init : goal.loop-node-init
loop-node-init c =
    let rails = c.args.rails.items in
    let all : c.len-node.result ≡ length rails = omega (arith, c.len-node.ensures, c.args.rails.ok.0) in
    let none : c.len-node.result - length rails ≡ 0 = omega (arith, all) in
    record { items = rw none (sym (append-nil rails)); room = c.requires; from = omega (arith, all); to = omega (arith, all) }

pub loop-node-preserved : goal.loop-node-preserved
loop-node-preserved c =
    let so_far = c.loop-node.invariant in
    record {
      items = replicated-more c.args.always c.args.rails.items _ _ c.loop-node._node so_far.from so_far.items c.push_reserved.ensures.items;
      room = omega (arith, c.push_reserved.ensures.capacity, so_far.room);
      from = omega (arith, so_far.from);
      to = omega arith;
    }

pub returns : goal.returns
returns c =
    let rails = c.args.rails.items in
    let so_far = c.loop-node.invariant in
    let all : c.loop-node._node - length rails ≡ c.args.nodes - length rails = omega arith in
    rw all at so_far.items
