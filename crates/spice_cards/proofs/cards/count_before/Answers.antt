use Rattle.std.proofs.Common.{ap, arith, sym, ◌∙◌}
use Rattle.spice_cards.specs.CardSorts.{ends_names}
use Rattle.spice_cards.proofs.PlaceLemmas.{end-later}
use Rattle.spice_cards.proofs.cards.count_before.Goals as goal

pub loop-place-preserved : goal.loop-place-preserved
loop-place-preserved c =
    end-later (ends_names c.args.settings) c.args.words c.loop-place.place (omega (arith, c.loop-place-test.true, c.len-place-end.ensures))
    (sym (ap (ends_names c.args.settings) c.at.ensures) ∙ sym c.ends_names.ensures ∙ c.if-ends_names.false) c.loop-place.invariant
