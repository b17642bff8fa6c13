-- What a call answers if it gives nothing: what the definitions refuse, or lack of memory, which is no meaning.
use Rattle.std.specs.Prelude.{◌≡◌, ⊤, Result, Err}
use Rattle.ternary.specs.declared.unmade.Unmade.{Unmade}
use Rattle.ternary.specs.declared.unmade.Unmade.TheVariants.{Refused, NoMemory}

-- why what has this meaning wasn't made: its refusal, if it means one, or lack of memory
abbrev pub IsFault : {T R : Type 0} → Result T R → Unmade R → Type 0
IsFault meaning (Refused refusal) = meaning ≡ Err refusal
IsFault meaning NoMemory = ⊤
