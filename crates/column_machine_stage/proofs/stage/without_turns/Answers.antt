use Rattle.std.proofs.Common.{◌≡◌, ℕ, refl, subst}
use Rattle.std.specs.Prelude.{IfSome, IfNone}
use Rattle.column_machines.specs.Moving.{columns_of}
use Rattle.column_machines.specs.Running.{AreColumns}
use Rattle.column_machine_stage.specs.declared.stage.Held.{Held}
use Rattle.column_machine_stage.specs.Stages.{hi_held, lo_held, machine_held}
use Rattle.column_machine_stage.proofs.ServingLemmas.{same_found}
use Rattle.column_machine_stage.proofs.stage.without_turns.Goals as goal

pub returns-in-Still-clause-hi : goal.returns-in-Still-clause-hi
returns-in-Still-clause-hi c = rw c.in-Still.is refl

pub returns-in-Still-clause-lo : goal.returns-in-Still-clause-lo
returns-in-Still-clause-lo c = rw c.in-Still.is refl

pub returns-in-Still-clause-last : goal.returns-in-Still-clause-last
returns-in-Still-clause-last c = rw c.in-Still.is refl

pub returns-in-Still-clause-columns_are : goal.returns-in-Still-clause-columns_are
returns-in-Still-clause-columns_are c = λ columns same columns_are.
    subst (λ (held : Held). IfNone (machine_held held) (AreColumns columns (hi_held held) (lo_held held))) c.in-Still.is columns_are

pub returns-in-Built-clause-hi : goal.returns-in-Built-clause-hi
returns-in-Built-clause-hi c = rw c.in-Built.is c.without_turn.ensures.hi

pub returns-in-Built-clause-lo : goal.returns-in-Built-clause-lo
returns-in-Built-clause-lo c = rw c.in-Built.is c.without_turn.ensures.lo

pub returns-in-Built-clause-machine : goal.returns-in-Built-clause-machine
returns-in-Built-clause-machine c = rw c.in-Built.is (same_found c.in-Built.machine (machine_held c.without_turn.result) c.without_turn.ensures.machine)

pub returns-in-Built-clause-last : goal.returns-in-Built-clause-last
returns-in-Built-clause-last c = rw c.in-Built.is c.without_turn.ensures.last

pub returns-in-Built-clause-columns_are : goal.returns-in-Built-clause-columns_are
returns-in-Built-clause-columns_are c = λ columns same columns_are.
    let held = c.without_turn.result in
    let is : columns_of c.in-Built.machine ≡ columns =
    subst (λ (one : Held). IfSome (machine_held one) (λ machine. columns_of machine ≡ columns)) c.in-Built.is same in
    subst (λ (n : ℕ). IfNone (machine_held held) (AreColumns n (hi_held held) (lo_held held))) is c.without_turn.ensures.columns_are
