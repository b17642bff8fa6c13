-- One name more.
use Rattle.std.proofs.Common.{ℕ, List, [], ◌∷◌, ◌++◌, sym, ap₂, ◌∙◌, arith}
use Rattle.std.proofs.lemmas.List.{take_all}
use Rattle.symbol_session.proofs.StartLemmas.{take_name}
use Rattle.symbol_session.proofs.quiet_start.same_names.Goals as goal

pub loop-k-preserved : goal.loop-k-preserved
loop-k-preserved c =
    c.in_ok-push.ensures.ok
    ∙ ap₂ (λ (front : List (List ℕ)) (name : List ℕ). front ++ name ∷ []) c.loop-k.invariant c.in_ok-name.ensures
    ∙ sym (take_name c.args.names.now c.loop-k.k c.name_at.result.now c.name_at.ensures)

pub returns : goal.returns
returns c = c.loop-k.invariant ∙ take_all c.loop-k.k c.args.names.now (omega (arith, c.loop-k-test.false))
