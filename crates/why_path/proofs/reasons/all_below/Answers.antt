-- One number more.
use Rattle.std.proofs.Common.{rules, ◌≡◌, inl, inr, [], ◌∷◌, ◌++◌, subst, arith}
use Rattle.std.specs.Prelude.{Contains}
use Rattle.std.proofs.lemmas.Bool.{cases_lt}
use Rattle.std.proofs.lemmas.List.Elements.{Contains-append_left, Contains-push, Contains-push_cases}
use Rattle.why_path.proofs.reasons.all_below.Goals as goal

pub loop-number-init : goal.loop-number-init
loop-number-init c =
    rw c.new-numbers.ensures.items (λ number. (λ there. absurd (omega (arith, there.1)), λ below. absurd (omega arith)))

pub loop-number-preserved : goal.loop-number-preserved
loop-number-preserved c =
    let old = c.loop-number.numbers.items in
    let last = c.loop-number.number in
    let so_far = c.loop-number.invariant in
    let longer : c.push.new.self.items ≡ old ++ last ∷ [] = search rules in
    rw longer (λ number. (
      λ there. elim (Contains-push_cases old last number there) [
        | inl before ↦ omega (arith, (so_far number).0 before)
        | inr same ↦ omega (arith, same)
      ],
      λ below. elim (cases_lt number last) [
        | inl less ↦ Contains-append_left old (last ∷ []) number ((so_far number).1 less)
        | inr past ↦
            let same : last ≡ number = omega arith in
            subst (Contains (old ++ last ∷ [])) same (Contains-push old last)
      ],
    ))

pub returns : goal.returns
returns c =
    let whole : c.loop-number.number ≡ c.args.count = omega arith in
    rw whole at c.loop-number.invariant
