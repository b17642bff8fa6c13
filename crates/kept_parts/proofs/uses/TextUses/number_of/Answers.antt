-- Each number is that of a text.
use Rattle.std.proofs.Common.{◌≡◌, ◌<◌, None, length, ap, sym, ◌∙◌, arith}
use Rattle.std.specs.Prelude.{slice_index_or}
use Rattle.std.proofs.lemmas.List.{get_or_default}
use Rattle.kept_parts.specs.Uses.{UsesData}
use Rattle.kept_parts.proofs.NumberLemmas.{some_below}
use Rattle.kept_parts.proofs.uses.TextUses.number_of.Goals as goal

pub returns-clause-known : goal.returns-clause-known
returns-clause-known c =
    let i = c.self.inside in
    let within : c.args.part < length i.numbers.items = omega (arith, c.requires, ap (λ (uses : UsesData). length uses.numbers) c.self.view_is) in
    let here : slice_index_or i.numbers.items c.args.part None ≡ c.index.result.now =
    get_or_default i.numbers.items c.args.part None c.index.result.now within ∙ sym c.index.ensures in
    rw (← c.self.view_is)
    (some_below c.index.result.now (length i.known.keys) (λ number is. c.self.invariant.inside c.args.part number (here ∙ is)))
