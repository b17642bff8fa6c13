use Rattle.std.proofs.Common.{ap, ◌∙◌}
use Rattle.spice_cards.specs.Tables.{named}
use Rattle.spice_cards.proofs.TableLemmas.{named-entries_of}
use Rattle.spice_cards.proofs.table.Table.find.Goals as goal

pub returns : goal.returns
returns g c =
    c.copied.ensures ∙ c.get.ensures.value ∙ named-entries_of c.self.inside.entries.entries c.args.name.now
    ∙ ap (λ entries. named entries c.args.name.now) c.self.view_is
