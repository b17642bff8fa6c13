-- The two formulas of a pair more.
use Rattle.std.proofs.Common.{◌≡◌, [], ◌∷◌, ◌++◌, get_or, take, sym, ap, ◌∙◌, append_assoc, arith}
use Rattle.std.proofs.lemmas.Grind.{flat_map-append}
use Rattle.std.proofs.lemmas.List.{take_all, take_more}
use Rattle.bool_pool.specs.declared.gate.Rails.{Rails}
use Rattle.node_elimination.specs.Holding.{ids_of}
use Rattle.node_elimination.proofs.held.ids_of_pairs.Goals as goal

pub loop-rails-preserved : goal.loop-rails-preserved
loop-rails-preserved c =
    let i = c.loop-rails.rails-index in
    let pairs = c.args.pairs.now in
    let none : Rails = record { hi = record { place = 0 }; lo = record { place = 0 } } in
    let rails : Rails = get_or pairs i none in
    let pushed : c.push-in-loop-rails.new.self.items ≡ (c.loop-rails.ids.items ++ rails.hi ∷ []) ++ rails.lo ∷ [] =
    c.in_ok-push-2.ensures.items ∙ ap (λ l. l ++ rails.lo ∷ []) c.in_ok-push.ensures.items in
    pushed
    ∙ append_assoc c.loop-rails.ids.items (rails.hi ∷ []) (rails.lo ∷ [])
    ∙ ap (λ l. l ++ rails.hi ∷ rails.lo ∷ []) c.loop-rails.invariant
    ∙ sym (ap ids_of (take_more pairs i none c.loop-rails-test.true)
    ∙ flat_map-append (λ (one : Rails). one.hi ∷ one.lo ∷ []) (take i pairs) (rails ∷ []))

pub returns : goal.returns
returns c =
    c.loop-rails.invariant ∙ ap ids_of (take_all c.loop-rails.rails-index c.args.pairs.now (omega arith))
