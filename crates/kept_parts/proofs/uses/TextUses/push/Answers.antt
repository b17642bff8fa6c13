-- A part without a text is added, and gets it.
use Rattle.std.proofs.Common.{◌≡◌, ◌-◌, [], ◌∷◌, ◌++◌, length, None, Some, ap, ap₂, ◌∙◌, refl, arith}
use Rattle.std.specs.Prelude.{slice_set}
use Rattle.std.proofs.lemmas.List.{set-append_right, length_push}
use Rattle.kept_parts.specs.Uses.{UsesData}
use Rattle.kept_parts.proofs.uses.TextUses.push.Goals as goal

pub returns-clause-ok : goal.returns-clause-ok
returns-clause-ok c =
    let old = c.args.self.now.numbers in
    let added : c.add.new.self.numbers ≡ old ++ None ∷ [] = c.in_ok-add.ensures.ok in
    let last : c.len-part.result - 1 ≡ length old =
    omega (
      arith,
      c.len-part.ensures,
      c.self.inside.numbers.ok.0,
      ap (λ (uses : UsesData). length uses.numbers) c.self.view_is,
      ap length added,
      length_push old None,
    ) in
    let none : length old - length old ≡ 0 = omega arith in
    c.set.ensures.numbers
    ∙ (ap₂ (λ list place. slice_set list place (Some c.args.number)) added last
    ∙ (set-append_right old (None ∷ []) (length old) (length old) (Some c.args.number) refl (omega arith)
    ∙ ap (λ k. old ++ slice_set (None ∷ []) k (Some c.args.number)) none))
