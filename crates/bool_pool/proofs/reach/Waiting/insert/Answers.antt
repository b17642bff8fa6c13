-- An older place stands in the set, which has what it had.
use Rattle.std.proofs.Common.{inl, inr, ⊎_elim, sym, subst, ◌<◌}
use Rattle.bool_pool.proofs.CollectLemmas.{Contains-inserted}
use Rattle.bool_pool.proofs.reach.Waiting.insert.Goals as goal

pub returns-in_ok-insert-clause-apart : goal.returns-in_ok-insert-clause-apart
returns-in_ok-insert-clause-apart c = (
  λ k held. ⊎_elim (c.requires.apart.0 k)
      (λ same. subst (λ place. place < c.args.self.now.bottom) (sym same) c.if-place-self.true)
      ((Contains-inserted c.args.self.now.older c.insert.new.self c.args.place k c.in_ok-insert.ensures.updates).0 held),
  c.requires.apart.1,
)

pub returns-in_ok-insert-clause-each : goal.returns-in_ok-insert-clause-each
returns-in_ok-insert-clause-each c = λ k.
    let each = Contains-inserted c.args.self.now.older c.insert.new.self c.args.place k c.in_ok-insert.ensures.updates in (
      ⊎_elim
          (λ held. ⊎_elim (λ before. inl (inl before)) (λ same. inr same) (each.0 held))
          (λ marked. inl (inr marked)),
      ⊎_elim
          (⊎_elim (λ before. inl (each.1 (inl before))) (λ marked. inr marked))
          (λ same. inl (each.1 (inr same))),
    )
