-- A gate has one operand or two.
use Rattle.std.proofs.Common.{inl, inr, refl, sym, subst}
use Rattle.bool_pool.specs.Gate.{IsOperand}
use Rattle.bool_pool.proofs.WindowLemmas.{operand_of_two, waits_two}
use Rattle.bool_pool.proofs.reach.Waiting.insert_operands.Goals as goal

pub insert-requires-clause-inside : goal.insert-requires-clause-inside
insert-requires-clause-inside c =
    c.requires.inside c.in-Not.a.place (subst (λ gate. IsOperand gate c.in-Not.a.place) (sym c.in-Not.is) refl)

pub insert-requires-in-And-clause-inside : goal.insert-requires-in-And-clause-inside
insert-requires-in-And-clause-inside c =
    c.requires.inside c.in-And.a.place
    (operand_of_two c.args.gate c.in-And.a c.in-And.b c.in-And.a.place c.in-And.is (inl refl))

pub insert-requires-in-And-2-clause-inside : goal.insert-requires-in-And-2-clause-inside
insert-requires-in-And-2-clause-inside c =
    let inside = c.requires.inside c.in-And.b.place
    (operand_of_two c.args.gate c.in-And.a c.in-And.b c.in-And.b.place c.in-And.is (inr refl)) in
    rw c.in_ok-insert-in-And.ensures.room inside

pub returns-in_ok-insert-in-And-2-clause-each : goal.returns-in_ok-insert-in-And-2-clause-each
returns-in_ok-insert-in-And-2-clause-each c = λ k.
    waits_two c.args.gate c.in-And.a c.in-And.b k _ _ _ c.in-And.is (c.in_ok-insert-in-And.ensures.each k)
    (c.in_ok-insert-in-And-2.ensures.each k)
