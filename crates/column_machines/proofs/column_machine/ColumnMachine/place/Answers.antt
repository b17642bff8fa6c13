-- What is placed is no rail, so the columns that take turns stay sound.
use Rattle.std.proofs.Common.{◌<◌, length, refl, sym, ap, subst}
use Rattle.machine_laws.specs.Machines.{MachineData}
use Rattle.machine_laws.specs.Fitting.{IsKeptBy}
use Rattle.column_machines.specs.declared.column_machine.ColumnMachine.{ColumnMachine}
use Rattle.column_machines.specs.Moving.{highs_of, CoversInColumns, FitsInColumns, IsKeptByColumns}
use Rattle.column_machines.specs.Turns.{FitsInTurn}
use Rattle.column_machines.proofs.TurnLemmas.{FitsInTurn-placed}
use Rattle.column_machines.proofs.column_machine.ColumnMachine.place.Goals as goal

pub returns-in-InTurn-clause-fits : goal.returns-in-InTurn-clause-fits
returns-in-InTurn-clause-fits c = λ fits.
    let g = c.args.graph.now in
    let m = c.in-InTurn.machine in
    let fit : FitsInTurn g m = subst (λ (one : ColumnMachine). FitsInColumns g one) c.in-InTurn.is fits in
    let inside : c.args.node < length m.hi = subst (λ (one : ColumnMachine). c.args.node < length (highs_of one)) c.in-InTurn.is c.requires.inside in
    rw c.place-in-InTurn.ensures (FitsInTurn-placed g m c.args.node c.args.hi c.args.lo inside c.requires.no_rail fit)

-- the machine of columns that step together stays
pub returns-in-Together-clause-last : goal.returns-in-Together-clause-last
returns-in-Together-clause-last c = rw c.in-Together.is (ap (λ (m : MachineData). m.last) c.place.ensures.places.machine)

pub returns-in-Together-clause-known : goal.returns-in-Together-clause-known
returns-in-Together-clause-known c = λ g kept known.
    subst (IsKeptBy g kept) (sym c.place.ensures.places.machine) (subst (λ (one : ColumnMachine). IsKeptByColumns g kept one) c.in-Together.is known)

pub returns-in-InTurn-clause-last : goal.returns-in-InTurn-clause-last
returns-in-InTurn-clause-last c = rw c.in-InTurn.is refl

pub returns-in-InTurn-clause-known : goal.returns-in-InTurn-clause-known
returns-in-InTurn-clause-known c = λ g kept known. tt

pub returns-in-Together-clause-covers : goal.returns-in-Together-clause-covers
returns-in-Together-clause-covers c = λ covers.
    c.place.ensures.covers (subst (λ (one : ColumnMachine). CoversInColumns c.args.graph.now one) c.in-Together.is covers)

-- columns that take turns cover what they fit
pub returns-in-InTurn-clause-covers : goal.returns-in-InTurn-clause-covers
returns-in-InTurn-clause-covers c = λ covers.
    let g = c.args.graph.now in
    let m = c.in-InTurn.machine in
    let fit : FitsInTurn g m = subst (λ (one : ColumnMachine). CoversInColumns g one) c.in-InTurn.is covers in
    let inside : c.args.node < length m.hi = subst (λ (one : ColumnMachine). c.args.node < length (highs_of one)) c.in-InTurn.is c.requires.inside in
    rw c.place-in-InTurn.ensures (FitsInTurn-placed g m c.args.node c.args.hi c.args.lo inside c.requires.no_rail fit)

pub returns-in-Together-clause-kind : goal.returns-in-Together-clause-kind
returns-in-Together-clause-kind c = rw c.in-Together.is tt

pub returns-in-InTurn-clause-kind : goal.returns-in-InTurn-clause-kind
returns-in-InTurn-clause-kind c = rw c.in-InTurn.is tt
