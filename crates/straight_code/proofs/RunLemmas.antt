-- A run of code: the results that stand in scratch, one instruction after another.
use Rattle.std.proofs.Common.{◌≡◌, ℕ, ◌+◌, ◌<◌, Bool, List, length, take, get_or, set, sym}
use Rattle.std.proofs.lemmas.List.{take_more, take_more_set}
use Rattle.ternary.specs.declared.tern.Tern.{Tern}
use Rattle.straight_code.specs.declared.code.Instruction.{Instruction}
use Rattle.straight_code.specs.Code.{instruction_value, results}
use Rattle.straight_code.proofs.ResultLemmas.{results-more}

-- the results up to the next instruction stand in scratch once its result is written behind the earlier ones
pub results-written : (input : List Tern) (instructions : List Instruction) (scratch : List Bool) (k : ℕ) (past : Instruction) (result : Bool)
    → k < length instructions → k < length scratch
    → take k scratch ≡ results input (take k instructions)
    → result ≡ instruction_value input (take k scratch) (get_or instructions k past)
    → take (k + 1) (set scratch k result) ≡ results input (take (k + 1) instructions)
results-written input instructions scratch k past result inside room done is =
    rw (take_more_set scratch k result room, take_more instructions k past inside, is, done)
    (sym (results-more input (take k instructions) (get_or instructions k past)))
