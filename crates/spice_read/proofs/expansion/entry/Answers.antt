use Rattle.std.proofs.Common.{◌≡◌, Bool, true, false, List, ℕ, length, ap, sym, ◌∙◌}
use Rattle.spice_cards.specs.Decks.{SubcircuitCards}
use Rattle.spice_read.specs.Frames.{scope_of}
use Rattle.spice_read.specs.Steps.{entry_of}
use Rattle.spice_read.proofs.FrameLemmas.{entry-found, entry_or}
use Rattle.spice_read.proofs.expansion.entry.Goals.{After-is_expanding}
use Rattle.spice_read.proofs.expansion.entry.Goals as goal

-- the subcircuit that was found
abbrev called : After-is_expanding → SubcircuitCards
called c = record { line = c.in-Some.subcircuit.line; ports = c.in-Some.subcircuit.ports; parts = c.in-Some.subcircuit.parts }

-- a call of as many nodes as ports opens it, unless it is being expanded
found : (c : After-is_expanding) (again : Bool) → c.is_expanding.result ≡ again →
    entry_of c.args.frame.now.deck (scope_of c.args.frame.now) c.args.words.now ≡ entry_or again (called c)
found c again is =
    entry-found c.args.frame.now c.find.new.self c.args.words.now c.subcircuit_named.result.now (called c) c.is_expanding.result
    (sym (c.len.ensures ∙ ap (λ (ws : List (List ℕ)). length ws) c.nodes_of.ensures) ∙ c.if-len.false ∙ c.len-2.ensures) c.in-Some.ensures.stays
    c.subcircuit_named.ensures c.in-Some.ensures.found c.is_expanding.ensures
    ∙ ap (λ (is : Bool). entry_or is (called c)) is

pub returns-then-is_expanding-clause-value : goal.returns-then-is_expanding-clause-value
returns-then-is_expanding-clause-value c =
    found (goal.at.returns-then-is_expanding-clause-value c).After-is_expanding true c.if-is_expanding.true

pub returns-clause-value : goal.returns-clause-value
returns-clause-value c = found (goal.at.returns-clause-value c).After-is_expanding false c.if-is_expanding.false
