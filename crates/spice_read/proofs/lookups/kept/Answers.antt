use Rattle.std.proofs.Common.{sym, ◌∙◌}
use Rattle.spice_read.proofs.LookupLemmas.{kept-named}
use Rattle.spice_read.proofs.lookups.kept.Goals as goal

pub returns-in-Some : goal.returns-in-Some
returns-in-Some c = λ deck are. kept-named deck c.args.cards.now.entries c.args.line c.in-Some.found.now c.args.name.now c.again.result are
    c.in-Some.ensures.value (sym c.eq.ensures ∙ c.if-eq.true) c.again.ensures.line c.again.ensures.ports c.again.ensures.parts
