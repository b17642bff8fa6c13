-- The first place that leads on is the lowest, since places ascend.
use Rattle.std.proofs.Common.{◌≡◌, ℕ, take, inl, inr, sym, subst, arith}
use Rattle.std.proofs.lemmas.List.{take_all}
use Rattle.std.proofs.lemmas.List.Elements.{Contains-get_or}
use Rattle.circuit_lint.specs.Ways.{IsStep}
use Rattle.circuit_lint.proofs.StartLemmas.{before_or_here, first_among}
use Rattle.circuit_lint.proofs.shorts.first_step.Goals as goal

pub leads_on-requires-clause-place : goal.leads_on-requires-clause-place
leads_on-requires-clause-place c = c.requires.inside _ (Contains-get_or c.args.places.now c.loop-place.place-index 0 c.loop-place-test.true)

pub returns-in-Some-clause-some : goal.returns-in-Some-clause-some
returns-in-Some-clause-some c = record {
  among = Contains-get_or c.args.places.now c.loop-place.place-index 0 c.loop-place-test.true;
  step = c.in-Some.ensures.is;
  first = λ other there within steps.
      first_among c.args.places.now c.loop-place.place-index other c.requires.ascending c.loop-place-test.true
      (λ before. c.loop-place.invariant other there before steps) within;
}

pub loop-place-preserved : goal.loop-place-preserved
loop-place-preserved c place next there steps =
    elim (before_or_here c.args.graph.now c.args.distance.now c.args.places.now c.loop-place.place-index c.loop-place-test.true place there) [
      | inl before ↦ c.loop-place.invariant place next before steps
      | inr same ↦
          absurd (c.in_default.not-Some next
          (c.leads_on.ensures.all next (subst (λ (p : ℕ). IsStep c.args.graph.now c.args.distance.now c.args.node c.args.left p next) (sym same) steps)))
    ]

pub returns-clause-none : goal.returns-clause-none
returns-clause-none c =
    let all : take c.loop-place.place-index c.args.places.now ≡ c.args.places.now = take_all c.loop-place.place-index c.args.places.now (omega arith) in
    rw all at c.loop-place.invariant
