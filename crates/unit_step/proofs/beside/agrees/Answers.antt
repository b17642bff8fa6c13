-- The members first, and then what is read.
use Rattle.std.proofs.Common.{◌≡◌, ℕ, inl, inr, ◌⊎◌, List, take, sym, subst}
use Rattle.std.specs.Prelude.{Contains}
use Rattle.std.proofs.lemmas.Bool.{OnTrue_from, OnTrue_at}
use Rattle.ternary.specs.declared.tern.Tern.{Tern}
use Rattle.switch_paths.specs.Switching.{state_at}
use Rattle.machine_parts.specs.declared.part.MachinePart.{MachinePart}
use Rattle.unit_step.proofs.beside.agrees.Goals as goal

-- the part's members and what it reads have the same states in both runs
abbrev AgreesOn : MachinePart → List Tern → List Tern → Type 0
AgreesOn part good bad =
    (node : ℕ) → Contains (take part.members part.map.items) node ⊎ Contains part.reads.items node → state_at bad node ≡ state_at good node

pub agree_on-requires : goal.agree_on-requires
agree_on-requires c = record {
  inside = λ node there. c.requires.inside node (subst (λ xs. Contains (take c.args.part.now.members xs) node) c.deref.ensures.value there);
  counted = c.requires.counted;
}

pub agree_on-requires-then-agree_on : goal.agree_on-requires-then-agree_on
agree_on-requires-then-agree_on c = record {
  inside = λ node there. c.requires.reads node (subst (λ xs. Contains xs node) c.deref-then-agree_on.ensures.value there);
  counted = c.requires.counted;
}

pub returns-then-agree_on : goal.returns-then-agree_on
returns-then-agree_on c =
    OnTrue_from c.agree_on-then-agree_on.result (AgreesOn c.args.part.now c.args.good.now c.args.bad.now) (λ set node either. elim either [
      | inl member ↦
          OnTrue_at c.if-agree_on.true c.agree_on.ensures node
          (subst (λ xs. Contains (take c.args.part.now.members xs) node) (sym c.deref.ensures.value) member)
      | inr reads ↦ OnTrue_at set c.agree_on-then-agree_on.ensures node (subst (λ xs. Contains xs node) (sym c.deref-then-agree_on.ensures.value) reads)
    ])
