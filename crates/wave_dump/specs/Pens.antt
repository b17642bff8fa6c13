-- What writes a dump to a sink, and what it comes to at a fault.
use Rattle.std.specs.Prelude.{◌≡◌, ℕ, List, ◌++◌, Option, None, Some, Result, Ok, Err, OnOk, OnErr}
use Rattle.std.specs.Io.KnownBytes.{append_known}
use Rattle.ports.specs.declared.ports.PortFault.{PortFault}
use Rattle.ports.specs.Ports.{faults_after, RefusedOnce}
use Rattle.ports.specs.Sending.{WritesPart}

-- what is seen of a sink: the bytes that were written to it, if they are told, and its counts of faults and of refused memory
pub record SinkSeen : Type 0 where
  pub written : Option (List ℕ)
  pub faults : ℕ
  pub refusals : ℕ

-- a pen: what was seen of its sink as it was given, and all that was put since
pub record PenData : Type 0 where
  pub before : SinkSeen
  pub text : List ℕ

-- a text was written to a sink, and no fault came; or of the text a part was written, and one fault came, which the sink counts, or memory was
-- lacking, of which the sink counts none or one
pub record IsSent (before : SinkSeen) (text : List ℕ) (now : SinkSeen) (result : Result (Unit {0}) PortFault) : Type 0 where
  pub ok : OnOk result (now.written ≡ append_known before.written text)
  pub part : OnErr result (WritesPart before.written now.written text)
  pub faults : now.faults ≡ faults_after before.faults result
  pub refusals : RefusedOnce before.refusals now.refusals result

-- no fault came so far, and all that was put is sent but for a line; or a fault came, and was the only one
abbrev pub Stands : SinkSeen → List ℕ → SinkSeen → List ℕ → Option PortFault → Type 0
Stands before text now line None = (sent : List ℕ) × (text ≡ sent ++ line) × IsSent before sent now (Ok tt)
Stands before text now line (Some fault) = IsSent before text now (Err fault)
