-- One list more.
use Rattle.std.proofs.Common.{◌≡◌, [], ◌∷◌, ◌++◌, sym, ap, ◌∙◌, append-nil, append_assoc, rules, arith}
use Rattle.std.specs.Prelude.{replicate}
use Rattle.std.proofs.lemmas.List.{replicate_more}
use Rattle.vicinity.specs.Growing.{no_places}
use Rattle.vicinity.proofs.live_list.add_empty.Goals as goal

pub loop-node-init : goal.loop-node-init
loop-node-init c = record { within = omega arith; lists = sym (append-nil c.args.lists.now.items) }

pub loop-node-preserved : goal.loop-node-preserved
loop-node-preserved c =
    let before = c.args.lists.now.items in
    let i = c.loop-node._node in
    let pushed : c.push.new.self.items ≡ c.loop-node.lists.items ++ no_places ∷ [] = search rules in
    record {
      within = omega (arith, c.loop-node-test.true);
      lists = pushed
          ∙ (ap (λ list. list ++ no_places ∷ []) c.loop-node.invariant.lists
          ∙ (append_assoc before (replicate i no_places) (no_places ∷ []) ∙ ap (λ more. before ++ more) (replicate_more i no_places)));
    }

pub returns-clause-ok : goal.returns-clause-ok
returns-clause-ok c =
    let all : c.loop-node._node ≡ c.args.more = omega (arith, c.loop-node-test.false, c.loop-node.invariant.within) in
    c.loop-node.invariant.lists ∙ ap (λ n. c.args.lists.now.items ++ replicate n no_places) all

pub returns-clause-some : goal.returns-clause-some
returns-clause-some c = (c.loop-node._node, c.loop-node.invariant.lists)

-- no memory for one list more
pub returns-in_err-push-clause-some : goal.returns-in_err-push-clause-some
returns-in_err-push-clause-some c = (c.loop-node._node, (search rules) ∙ c.loop-node.invariant.lists)
