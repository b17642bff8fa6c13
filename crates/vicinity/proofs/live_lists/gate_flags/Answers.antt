-- One flag more.
use Rattle.std.proofs.Common.{◌≡◌, [], ◌∷◌, ◌++◌, length, sym, ap, subst, ◌∙◌, rules, arith}
use Rattle.std.proofs.lemmas.Bool.{OnFalse_at}
use Rattle.std.proofs.lemmas.List.{length-append}
use Rattle.vicinity.specs.Lists.{places_of}
use Rattle.vicinity.proofs.GrowingLemmas.{TellGates-more}
use Rattle.vicinity.proofs.live_lists.gate_flags.Goals as goal

pub loop-node-init : goal.loop-node-init
loop-node-init c =
    let none : length c.new-flags.result.items ≡ 0 = ap length c.new-flags.ensures.items in record { count = none; tell = λ node inside. absurd (omega (arith, inside, none)) }

pub loop-node-preserved : goal.loop-node-preserved
loop-node-preserved c =
    let flags = c.loop-node.flags.items in
    let flag = c.has_some.result in
    let pushed : c.push.new.self.items ≡ flags ++ flag ∷ [] = search rules in
    record {
      count = rw pushed (length-append flags (flag ∷ []) ∙ omega (arith, c.loop-node.invariant.count));
      tell = rw pushed (TellGates-more flags flag c.args.gates.now c.loop-node.invariant.tell
          (λ unset. subst (λ n. length (places_of c.args.gates.now n) ≡ 0) (sym c.loop-node.invariant.count) (OnFalse_at unset c.has_some.ensures)));
    }
