-- How a script is read while a node may be stuck: soundly, and as ever if no node is stuck.
use Rattle.std.proofs.Common.{◌≡◌, ◌≢◌, ℕ, List, Option, None, Some, Result, Ok, Err, refl, subst, ◌∙◌, IfSome}
use Rattle.ternary.specs.declared.tern.Tern.{Tern}
use Rattle.netlist.specs.Circuits.{CircuitData}
use Rattle.script_lang.specs.declared.command.Command.{Command}
use Rattle.script_lang.specs.declared.command.ScriptFault.{ScriptFault}
use Rattle.script_lang.specs.declared.command.ScriptFault.TheVariants.{NoMemory}
use Rattle.script_lang.specs.Commands.{reading_of}
use Rattle.script_lang.specs.Forms.{IsFormed}
use Rattle.script_lang.proofs.ReadingLemmas.{reading-named, reading-formed}
use Rattle.fault_sim.specs.Masks.{masked_of, masked_reading_by, masked_reading}
use Rattle.fault_sim.proofs.MaskLemmas.{unmasked-reading, masked_of-formed}
use Rattle.script_meaning.specs.Runs.{plain_reading, IsSound}

-- if no node is stuck lines are read as ever
pub masked-plain : masked_reading None ≡ plain_reading
masked-plain = λ i c vectors line. unmasked-reading c vectors line i

module _ (stuck : Option (ℕ × Tern)) (c : CircuitData) (vectors : List (List ℕ × List ℕ)) (line : List ℕ) where
  still_named : (read : Result (Option Command) ScriptFault) → reading_of line ≡ read → masked_reading_by c vectors stuck read ≢ Err NoMemory
  still_named (Ok None) is none = absurd (cc)
  still_named (Ok (Some command)) is none = absurd (cc)
  still_named (Err fault) is none = reading-named line (is ∙ none)

  still_formed : (read : Result (Option Command) ScriptFault) → reading_of line ≡ read → (command : Command) →
      masked_reading_by c vectors stuck read ≡ Ok (Some command) → IsFormed command
  still_formed (Ok None) is command gives = absurd (cc)
  still_formed (Ok (Some given)) is command gives =
      let same : masked_of c vectors stuck given ≡ Some command = cc in
      subst (λ left. IfSome left IsFormed) same (masked_of-formed c vectors stuck given (reading-formed line given is))
  still_formed (Err fault) is command gives = absurd (cc)

-- the reading while a node may be stuck is sound
pub masked-sound : (stuck : Option (ℕ × Tern)) → IsSound (masked_reading stuck)
masked-sound stuck = record {
  named = λ c vectors line. still_named stuck c vectors line (reading_of line) refl;
  formed = λ c vectors line. still_formed stuck c vectors line (reading_of line) refl;
}
