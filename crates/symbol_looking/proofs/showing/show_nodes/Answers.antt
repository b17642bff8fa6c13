-- The line was heard, or a part of it.
use Rattle.std.proofs.Common.{[], ◌∷◌, List, subst, ◌∙◌}
use Rattle.std.specs.Prelude.{Option}
use Rattle.ternary.specs.declared.tern.Tern.{Tern}
use Rattle.symbol_meaning.specs.Told.{Shown}
use Rattle.symbol_looking.specs.Tellings.{HearsSome, telling}
use Rattle.symbol_looking.proofs.HeardLemmas.{some_heard}
use Rattle.symbol_looking.proofs.showing.show_nodes.Goals as goal

pub returns-clause-heard : goal.returns-clause-heard
returns-clause-heard g c =
    subst (λ (letters : List (Option Tern)). HearsSome g.L.SymbolLines.hear g.L.SymbolLines.part (g.L.SymbolLines.heard c.args.out.now)
    (g.L.SymbolLines.heard c.tell_line.new.out) (telling (Shown c.args.name.now letters) ∷ []) c.tell_line.result)
    (c.deref.ensures.value ∙ c.in_ok-values.ensures)
    (some_heard g.L.SymbolLines.hear g.L.SymbolLines.part (g.L.SymbolLines.heard c.args.out.now) (g.L.SymbolLines.heard c.tell_line.new.out)
    (telling (Shown c.args.name.now c.deref.result.now) ∷ []) c.tell_line.result c.tell_line.ensures.heard)
