-- A node that doesn't differ puts in nothing.
use Rattle.std.proofs.Common.{◌≡◌, ◌≢◌, inl, inr, subst, arith}
use Rattle.std.proofs.lemmas.Bool.{OnTrue_at, OnFalse_at}
use Rattle.switch_paths.specs.Switching.{state_at}
use Rattle.machine_parts.specs.Stepping.{Concerns}
use Rattle.unit_step.proofs.AmongLemmas.{MarksAll-nobody}
use Rattle.beside_run.proofs.differing.put_if_differs.Goals as goal

pub differs_at-requires-clause-inside : goal.differs_at-requires-clause-inside
differs_at-requires-clause-inside c = rw c.state.ensures (omega (arith, c.requires.inside, c.requires.counted))

pub returns-then-not-differs_at : goal.returns-then-not-differs_at
returns-then-not-differs_at c =
    let node = c.args.node in
    let same : state_at c.args.machine.now.state node ≡ state_at c.args.good.now node =
    subst (λ states. state_at states node ≡ state_at c.args.good.now node) c.state.ensures (OnFalse_at c.if-not-differs_at.true c.differs_at.ensures.no) in
    MarksAll-nobody (λ k. (state_at c.args.machine.now.state node ≢ state_at c.args.good.now node) × Concerns c.args.machine.now.parts k node)
    c.args.apart.now.inside (λ k (differs, concerns). differs same)

pub put_apart-requires-clause-inside : goal.put_apart-requires-clause-inside
put_apart-requires-clause-inside c = omega (arith, c.requires.inside, c.requires.counted)

pub returns : goal.returns
returns c =
    let node = c.args.node in
    let differs : state_at c.args.machine.now.state node ≢ state_at c.args.good.now node =
    subst (λ states. state_at states node ≢ state_at c.args.good.now node) c.state.ensures (OnTrue_at c.if-not-differs_at.false c.differs_at.ensures.yes) in
    let puts = c.put_apart.ensures in
    record {
      count = puts.count;
      stays = puts.stays;
      set = λ k (other, concerns). puts.set k concerns;
      only = λ k is. elim (puts.only k is) [ inl was ↦ inl was | inr concerns ↦ inr (differs, concerns) ];
    }
