-- Clauses that hold whatever a call answers, and whether or not a value is known.
use Rattle.std.proofs.Common.{Option, None, Some, IfSome, Result, Ok, Err, OnOk, OnErr}

-- what holds anyway holds on a fault
pub at_err : {T E P : Type 0} (result : Result T E) → P → OnErr result P
at_err (Ok value) fact = tt
at_err (Err fault) fact = fact

-- what holds anyway holds on an answer
pub at_ok : {T E P : Type 0} (result : Result T E) → P → OnOk result P
at_ok (Ok value) fact = fact
at_ok (Err fault) fact = tt

-- what holds of each known value holds if one is known
pub at_known : {X : Type 0} (known : Option X) (P : X → Type 0) → ((value : X) → P value) → IfSome known P
at_known None P each = tt
at_known (Some value) P each = each value
