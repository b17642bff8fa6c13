-- None is passed over, or the look is at the stepper's own state.
use Rattle.std.proofs.Common.{◌≡◌, inl, refl, sym, ◌∙◌}
use Rattle.std.proofs.lemmas.Bool.{OnFalse_from}
use Rattle.ternary.proofs.CountsLemmas.{raised-none}
use Rattle.settling.proofs.observing.pass_rounds.Goals as goal

pub returns-then-not-once-clause-recalls : goal.returns-then-not-once-clause-recalls
returns-then-not-once-clause-recalls g c = inl (refl, inl refl)

pub returns-then-not-once-clause-moves : goal.returns-then-not-once-clause-moves
returns-then-not-once-clause-moves g c = raised-none (g.M.SeenStepper.moves c.args.m.now)

pub returns-clause-recalls : goal.returns-clause-recalls
returns-clause-recalls g c = rw c.states.ensures at c.rounds_ahead-ahead.ensures.recalls

pub returns-clause-each : goal.returns-clause-each
returns-clause-each g c =
    OnFalse_from c.args.once (c.rounds_ahead-ahead.result ≡ 0) (λ no. absurd (cc (sym c.if-not-once.false ∙ no)))
