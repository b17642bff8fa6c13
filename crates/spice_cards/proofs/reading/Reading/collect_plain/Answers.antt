use Rattle.std.proofs.Common.{List, length, subst, sym}
use Rattle.spice_cards.specs.Decks.{PartCard}
use Rattle.spice_cards.specs.Readings.{IsReading}
use Rattle.spice_cards.proofs.reading.Reading.collect_plain.Goals as goal

pub invariant_of-self : goal.invariant_of-self
invariant_of-self c =
    subst (λ (inside : List PartCard). IsReading (length inside) c.self.inside.subcircuits c.self.inside.begun) (sym c.collect.ensures.stays) c.self.invariant
