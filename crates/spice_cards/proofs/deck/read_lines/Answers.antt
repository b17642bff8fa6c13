use Rattle.std.proofs.Common.{◌≡◌, IfErr, IfOk, Ok, Option, Result, ap, subst, sym, ◌∙◌}
use Rattle.ternary.specs.Unmade.{IsFault}
use Rattle.spice_cards.specs.declared.fault.DeckRefusal.{DeckRefusal}
use Rattle.spice_cards.specs.Decks.{DeckCards}
use Rattle.spice_cards.specs.Reading.{lines_meaning, unless}
use Rattle.spice_cards.proofs.LineLemmas.{lines-ended, lines-next, lines-none, lines-refused}
use Rattle.spice_cards.proofs.deck.read_lines.Goals as goal
use Rattle.spice_cards.proofs.deck.read_lines.Goals.{After-unless}

pub returns-in-Err-clause-refused : goal.returns-in-Err-clause-refused
returns-in-Err-clause-refused c =
    lines-refused c.args.cut c.lines.reading.so_far c.lines.lines (c.in-Some.line.number, c.in-Some.line.bytes.now) c.next.new.self c.in-Err.stop _ _
    c.in-Some.ensures.steps c.in-Err.ensures.refused c.lines.invariant c.fault_at.ensures

pub lines-preserved : goal.lines-preserved
lines-preserved c =
    lines-next c.args.cut c.lines.reading.so_far c.read_line.new.reading.so_far c.lines.lines (c.in-Some.line.number, c.in-Some.line.bytes.now) c.next.new.self _
    c.in-Some.ensures.steps c.in-Ok.ensures.ok (sym c.is_end.ensures ∙ c.if-is_end.false) c.lines.invariant

-- what is meant at the end of the deck is what all lines mean
ends : (c : After-unless) → unless c.tail_fault.result (Ok c.read_line.new.reading.so_far.deck) ≡ lines_meaning c.args.cut c.args.reading.so_far c.args.lines
ends c =
    ap (λ (refusal : Option DeckRefusal). unless refusal (Ok c.read_line.new.reading.so_far.deck)) c.tail_fault.ensures
    ∙ lines-ended c.args.cut c.lines.reading.so_far c.read_line.new.reading.so_far c.lines.lines (c.in-Some.line.number, c.in-Some.line.bytes.now) c.next.new.self _
    c.in-Some.ensures.steps c.in-Ok.ensures.ok (sym c.is_end.ensures ∙ c.if-is_end.true) c.lines.invariant

pub returns-then-is_end-clause-ok : goal.returns-then-is_end-clause-ok
returns-then-is_end-clause-ok c =
    subst (λ (m : Result DeckCards DeckRefusal). IfOk c.unless.result (λ deck. m ≡ Ok deck)) (ends c) c.unless.ensures.ok

pub returns-then-is_end-clause-refused : goal.returns-then-is_end-clause-refused
returns-then-is_end-clause-refused c =
    subst (λ (m : Result DeckCards DeckRefusal). IfErr c.unless.result (IsFault m)) (ends c) c.unless.ensures.refused

pub returns-clause-ok : goal.returns-clause-ok
returns-clause-ok c = lines-none c.args.cut c.lines.reading.so_far c.lines.lines _ c.in_default.ensures.steps.0 c.lines.invariant
