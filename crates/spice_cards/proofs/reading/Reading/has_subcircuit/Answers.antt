use Rattle.std.proofs.Common.{is_some, sym, ◌∙◌, ap}
use Rattle.spice_cards.specs.Readings.{ReadingData}
use Rattle.spice_cards.specs.Tables.{named}
use Rattle.spice_cards.proofs.ReadingLemmas.{is_some-named}
use Rattle.spice_cards.proofs.reading.Reading.has_subcircuit.Goals as goal

pub returns : goal.returns
returns c =
    c.is_some.ensures ∙ ap is_some c.find.ensures ∙ sym (is_some-named c.self.inside.pool.inside c.self.inside.subcircuits c.args.name.now)
    ∙ ap (λ (r : ReadingData). is_some (named r.so_far.deck.subcircuits c.args.name.now)) c.self.view_is
