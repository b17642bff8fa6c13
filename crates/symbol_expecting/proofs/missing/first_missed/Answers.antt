-- The first column in which the function holds is the first in which some node isn't as it is wanted.
use Rattle.std.proofs.Common.{◌≡◌, ℕ, Bool, Option, false, length, sym, subst}
use Rattle.truth_parts.proofs.KeptLemmas.{passed_on}
use Rattle.std.specs.Prelude.{IfNone, IfSome, Vec}
use Rattle.std.specs.declared.alloc.Global.{Global}
use Rattle.decision_graph.specs.Meaning.{assigned}
use Rattle.truth_makers.specs.declared.symbols.Symbols.{Symbols}
use Rattle.truth_makers.specs.Makers.{IsFunctionOf}
use Rattle.truth_makers.specs.Valuations.{column_of, holds_in, IsFirstColumn}
use Rattle.symbol_expecting.proofs.MissingLemmas.{found_missed}
use Rattle.symbol_expecting.proofs.missing.first_missed.Goals as goal

pub first-requires : goal.first-requires
first-requires c = subst (λ (symbols : Symbols). IsFunctionOf symbols c.in_ok-made.made) (sym c.symbols.ensures) c.in_ok-made.ensures.inside

pub returns-in-Ok-clause-first : goal.returns-in-Ok-clause-first
returns-in-Ok-clause-first c =
    let new = c.missed_among.new.stage in
    let found : Option (Vec Bool Global) = c.in-Ok.found in
    let made = c.in_ok-made.made in
    found_missed c.args.stage.now new c.missed_among.ensures.makes c.args.pairs.now c.requires made c.in_ok-made.ensures.value found
    (subst (λ (symbols : Symbols). IfSome found (λ vars. length vars.items ≡ symbols.graph.variables)) c.symbols.ensures c.in-Ok.ensures.count)
    (subst (λ (symbols : Symbols). IfSome found (λ vars.
    IsFirstColumn symbols.graph.variables symbols.graph.vertices made.place (column_of (assigned vars.items) symbols.graph.variables))) c.symbols.ensures
    c.in-Ok.ensures.first)
    (subst (λ (symbols : Symbols). IfNone found ((column : ℕ) → holds_in symbols.graph.variables symbols.graph.vertices column made.place ≡ false))
    c.symbols.ensures c.in-Ok.ensures.never)

pub returns-in_err-made-clause-spent : goal.returns-in_err-made-clause-spent
returns-in_err-made-clause-spent c = passed_on _ c.from_residual.result _ c.from_residual.ensures.1 c.in_err-made.ensures.spent

pub returns-in-Err-clause-spent : goal.returns-in-Err-clause-spent
returns-in-Err-clause-spent c = λ full. absurd (cc)
