-- The commands of a fault are well formed, where the circuit's names are those that a line can hold.
use Rattle.std.proofs.Common.{◌≡◌, ℕ, List, [], ◌∷◌, All, Option, Result, Ok, Err, IfOk, sym, subst, arith}
use Rattle.std.proofs.lemmas.List.Elements.{All-nil, All-cons}
use Rattle.switch_paths.specs.declared.switching.SwitchKind.TheVariants.{Always}
use Rattle.netlist.specs.Circuits.{CircuitData, HasVisibleNames, called}
use Rattle.line_words.specs.Visible.{IsVisibleName}
use Rattle.script_lang.specs.declared.command.Command.{Command}
use Rattle.script_lang.specs.declared.command.Command.TheVariants as family
use Rattle.script_lang.specs.declared.command.Edit.TheVariants.{Input, Del, Kind}
use Rattle.script_lang.specs.declared.command.Give.TheVariants.{Set}
use Rattle.script_lang.specs.declared.value.Value.{Value}
use Rattle.script_lang.specs.declared.value.Value.TheVariants.{Letter}
use Rattle.script_lang.specs.Forms.{IsFormed}
use Rattle.fault_sim.specs.declared.fault.Fault.{Fault}
use Rattle.fault_sim.specs.declared.fault.Fault.TheVariants.{Open, Closed, Stuck}
use Rattle.fault_sim.specs.Faults.{IsFault}
use Rattle.fault_sim.specs.Changes.{commands_of, commands_in}

-- each command that a fault stands for is well formed
pub commands_of-formed : (c : CircuitData) (fault : Fault) → IsFault c fault → HasVisibleNames c → All IsFormed (commands_of c fault)
commands_of-formed c (Open number) is visible = All-cons IsFormed (family.Edit (Del number)) [] tt (All-nil IsFormed)
commands_of-formed c (Closed number) is visible = All-cons IsFormed (family.Edit (Kind number Always)) [] tt (All-nil IsFormed)
commands_of-formed c (Stuck node state) is visible =
    let named : IsVisibleName (called c node) = visible node is.1 in
    let item : List ℕ × Value = (called c node, Letter state) in
    All-cons IsFormed (family.Edit (Input (called c node ∷ []))) (family.Give (Set (item ∷ [])) ∷ [])
    (omega arith, All-cons IsVisibleName (called c node) [] named (All-nil IsVisibleName))
    (All-cons IsFormed (family.Give (Set (item ∷ []))) []
    (omega arith, All-cons (λ (i : List ℕ × Value). IsVisibleName i.0) item [] named (All-nil (λ (i : List ℕ × Value). IsVisibleName i.0)))
    (All-nil IsFormed))

-- the same of what was made, if there was memory for it
pub commands_made : {E : Type 0} (c : CircuitData) (fault : Fault) (made : Result (Command × Option Command) E) → IsFault c fault →
    IfOk made (λ given. commands_in given ≡ commands_of c fault) → HasVisibleNames c → IfOk made (λ given. All IsFormed (commands_in given))
commands_made c fault (Ok given) is same visible = subst (All IsFormed) (sym same) (commands_of-formed c fault is visible)
commands_made c fault (Err want) is same visible = tt
