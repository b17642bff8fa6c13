-- One part more is listed if it has code.
use Rattle.std.proofs.Common.{◌≡◌, inl, inr, Some, length, refl, sym, ap, subst, ◌∙◌, arith}
use Rattle.std.specs.Prelude.{◌≢◌, Contains, None, slice_get}
use Rattle.std.proofs.lemmas.Bool.{cases_eq}
use Rattle.std.proofs.lemmas.Option.{slice_get_read, slice_get_within}
use Rattle.machine_parts.specs.declared.part.MachinePart.{MachinePart}
use Rattle.unit_step.specs.Bodies.{IsCodedAt}
use Rattle.unit_step.proofs.LongLemmas.{added, added_stays, added_itself, is_there, there_is}
use Rattle.unit_step.proofs.body.parts_with_code.Goals as goal

pub loop-k-preserved : goal.loop-k-preserved
loop-k-preserved c =
    let parts = c.args.parts.now in
    let k = c.loop-k.k in
    let part = c.index-parts-k.result in
    let at = slice_get_read parts (length parts) k part refl c.loop-k-test.true c.index-parts-k.is in
    let old = c.loop-k.coded.items in
    let new = c.add_if.new.list.items in
    let has = c.is_some.result in
    let grown = c.in_ok-add_if.ensures in
    record {
      only = λ n there.
          elim (added has k old new n grown there) [
            | inl before ↦ c.loop-k.invariant.only n before
            | inr (is, same) ↦
                subst (IsCodedAt parts) same (record { part = part; there = at; coded = is_there part.code (sym c.is_some.ensures ∙ is) })
          ];
      all = λ n other before other_at coded.
          elim (cases_eq n k) [
            | inl same ↦
                let both : Some other ≡ Some part = sym other_at ∙ (ap (slice_get parts) same ∙ at) in
                let is : other ≡ part = cc in
                let has_code : part.code ≢ None = subst (λ (one : MachinePart). one.code ≢ None) is coded in
                subst (Contains new) (sym same) (added_itself has k old new grown (c.is_some.ensures ∙ there_is part.code has_code))
            | inr differs ↦ added_stays has k old new n grown (c.loop-k.invariant.all n other (omega (arith, before, differs)) other_at coded)
          ];
    }

pub returns : goal.returns
returns c = λ k. (
  c.loop-k.invariant.only k,
  λ has.
      c.loop-k.invariant.all k has.part (omega (arith, slice_get_within c.args.parts.now k has.part has.there, c.loop-k-test.false)) has.there has.coded,
)
