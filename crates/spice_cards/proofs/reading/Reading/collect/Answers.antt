use Rattle.std.proofs.Common.{List, length, subst, sym}
use Rattle.spice_cards.specs.Decks.{PartCard}
use Rattle.spice_cards.specs.Readings.{IsReading}
use Rattle.spice_cards.proofs.ReadingLemmas.{collected}
use Rattle.spice_cards.proofs.reading.Reading.collect.Goals as goal

pub invariant_of-self : goal.invariant_of-self
invariant_of-self c =
    subst (λ (inside : List PartCard). IsReading (length inside) c.self.inside.subcircuits c.self.inside.begun) (sym c.collect.ensures.stays) c.self.invariant

pub returns : goal.returns
returns c = collected c.collect.result c.self.inside.pool c.collect.new.self _ _ _ _ _ _ _ c.collect.ensures.ok c.self.view_is
