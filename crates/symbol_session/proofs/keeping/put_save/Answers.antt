-- The name stands where it was, or behind the others.
use Rattle.std.proofs.Common.{sym, ◌∙◌, arith}
use Rattle.symbol_session.proofs.FoundLemmas.{kept_inside, name_behind, name_there}
use Rattle.symbol_session.proofs.keeping.put_save.Goals as goal

pub put_there-requires : goal.put_there-requires
put_there-requires c =
    let saves = c.args.saves.now.items in
    omega (arith, c.requires.number, kept_inside saves c.args.name.now (sym c.requires.there ∙ c.if-found.true))

pub returns-then-found-clause-ok : goal.returns-then-found-clause-ok
returns-then-found-clause-ok c =
    let saves = c.args.saves.now.items in
    rw (c.put_there.ensures, c.in_ok-own.ensures, c.items.ensures, c.requires.number)
    (name_there saves c.args.name.now c.args.nodes (sym c.requires.there ∙ c.if-found.true))

pub returns-clause-ok : goal.returns-clause-ok
returns-clause-ok c =
    let saves = c.args.saves.now.items in
    let none = sym c.requires.there ∙ c.if-found.false in
    let pushed = rw (c.in_ok-own.ensures, c.items.ensures) at c.put_behind.ensures.ok in
    rw (name_behind saves c.args.name.now c.args.nodes none) at pushed
