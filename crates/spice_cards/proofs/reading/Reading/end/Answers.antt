use Rattle.spice_cards.specs.declared.places.SubcircuitPlace.{SubcircuitPlace}
use Rattle.spice_cards.proofs.ReadingLemmas.{ended_reading}
use Rattle.spice_cards.proofs.reading.Reading.end.Goals as goal

pub returns-clause-ok : goal.returns-clause-ok
returns-clause-ok c =
    let place : SubcircuitPlace = record { opening = c.in_ok-short.field-0; end = c.in_ok-short-2.field-0 } in
    ended_reading c.self.inside.pool c.self.inside.subcircuits c.put_first.new.self _ _ c.self.inside.begun c.in-Some.opening _ _
    c.inside_parts.result c.name_of-name.result.now place c.inside-end.result
    c.in-Some.is c.self.view_is c.in_ok-short.ensures c.in_ok-short-2.ensures c.inside-end.ensures c.inside_parts.ensures c.name_of-name.ensures
    c.in_ok-put_first.ensures.ok
