-- The exit statuses of the program.
use Rattle.std.specs.Prelude.{ℕ}
use Rattle.run_ends.specs.declared.status.Status.{Status}
use Rattle.run_ends.specs.declared.status.Status.TheVariants.{Done, Mismatch, Usage, NetRefused, ScriptRefused, ReadFault, WriteFault, NoMemory, Full}

-- the exit status: 0 where all went well, then one for each other case in order
abbrev pub code_of : Status → ℕ
code_of Done = 0
code_of Mismatch = 1
code_of Usage = 2
code_of NetRefused = 3
code_of ScriptRefused = 4
code_of ReadFault = 5
code_of WriteFault = 6
code_of NoMemory = 7
code_of Full = 8
