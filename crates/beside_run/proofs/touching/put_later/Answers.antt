-- One part more.
use Rattle.std.proofs.Common.{◌≡◌, ◌≤◌, ◌<◌, inl, inr, length, true, refl, sym, ap, subst, ◌∙◌, arith}
use Rattle.std.specs.Prelude.{slice_set}
use Rattle.std.proofs.lemmas.Bool.{cases_lt}
use Rattle.std.proofs.lemmas.List.{length-set}
use Rattle.machine_parts.proofs.SetMarks.{marked-set, marked-set_cases, marked-stays}
use Rattle.vicinity.specs.NodeSets.{IsIn}
use Rattle.beside_run.proofs.touching.put_later.Goals as goal

pub loop-k-init : goal.loop-k-init
loop-k-init c = record {
  counted = refl;
  all = λ n behind below. absurd (omega (arith, behind, below));
  only = λ n is. absurd (c.requires.empty n is);
  from = omega arith;
}

pub insert-requires : goal.insert-requires
insert-requires c = omega (arith, c.loop-k-test.true, c.parts-k-end.ensures, c.loop-k.invariant.counted, c.requires.counted)

pub loop-k-preserved : goal.loop-k-preserved
loop-k-preserved c =
    let k = c.loop-k.k in
    let old = c.loop-k.set.inside in
    let is = c.insert.ensures.inside in
    let inside : k < length old = omega (arith, c.loop-k-test.true, c.parts-k-end.ensures, c.loop-k.invariant.counted, c.requires.counted) in
    record {
      counted = ap length is ∙ (length-set old k true ∙ c.loop-k.invariant.counted);
      all = λ n behind below. subst (λ marks. IsIn marks n) (sym is) (elim (cases_lt n k) [
        | inl before ↦ marked-stays old k n (c.loop-k.invariant.all n behind before)
        | inr most ↦
            let same : n ≡ k = omega (arith, below, most) in
            subst (IsIn (slice_set old k true)) (sym same) (marked-set old k inside)
      ]);
      only = λ n marked. elim (marked-set_cases old k n (subst (λ marks. IsIn marks n) is marked)) [
        | inl was ↦ c.loop-k.invariant.only n was
        | inr same ↦ subst (λ m. c.args.count ≤ m) (sym same) c.loop-k.invariant.from
      ];
      from = omega (arith, c.loop-k.invariant.from);
    }

pub returns : goal.returns
returns c = record {
  counted = c.loop-k.invariant.counted ∙ c.requires.counted;
  all = λ k behind inside. c.loop-k.invariant.all k behind (omega (arith, inside, c.loop-k-test.false, c.parts-k-end.ensures));
  only = c.loop-k.invariant.only;
}
