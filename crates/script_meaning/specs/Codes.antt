-- The codes under which faults of scripts are printed.
use Rattle.std.specs.Prelude.{Option, Some, None}
use Rattle.script_lang.specs.declared.command.ScriptFault.{ScriptFault}
use Rattle.script_lang.specs.declared.command.ScriptFault.TheVariants as script
use Rattle.session_meaning.specs.declared.fault.Refusal.{Refusal}
use Rattle.session_meaning.specs.declared.fault.Refusal.TheVariants as refusal
use Rattle.printed_lines.specs.declared.faults.FaultCode.{FaultCode}
use Rattle.printed_lines.specs.declared.faults.FaultCode.TheVariants as code

-- of a line of a script that is no command; lack of memory has none
abbrev pub script_code : ScriptFault → Option FaultCode
script_code script.LineTooLong = Some code.L1LineTooLong
script_code script.BadByte = Some code.L2BadByte
script_code script.BadCommand = Some code.S1BadCommand
script_code script.FewWords = Some code.S2FewWords
script_code script.ManyWords = Some code.S3ManyWords
script_code script.BadValue = Some code.S4BadValue
script_code script.BadNumber = Some code.S5BadNumber
script_code script.NoMemory = None

-- of a refused command
abbrev pub refusal_code : Refusal → FaultCode
refusal_code refusal.UnknownNode = code.E1UnknownNode
refusal_code refusal.NoSuchSwitch = code.E2NoSuchSwitch
refusal_code refusal.Rail = code.E3Rail
refusal_code refusal.BadStrength = code.E4BadStrength
refusal_code refusal.BadSize = code.E5BadSize
refusal_code refusal.TooManyNodes = code.E7TooManyNodes
refusal_code refusal.TooManySwitches = code.E8TooManySwitches
refusal_code refusal.NotInput = code.S6NotInput
refusal_code refusal.NotStore = code.S7NotStore
refusal_code refusal.ClockLength = code.S8ClockLength
refusal_code refusal.NoClock = code.S9NoClock
refusal_code refusal.TooManyWatched = code.S10TooManyWatched
refusal_code refusal.BadValue = code.S4BadValue
refusal_code refusal.NameTaken = code.S12NameTaken
refusal_code refusal.TooMany = code.S13TooMany
refusal_code refusal.VectorValue = code.S14VectorValue
refusal_code refusal.TooManySaves = code.S15TooManySaves
refusal_code refusal.NoSave = code.S16NoSave
