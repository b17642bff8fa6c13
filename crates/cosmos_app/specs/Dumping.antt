-- What a dump comes to, by what its netlist or its deck means.
use Rattle.std.specs.Prelude.{◌≡◌, ℕ, List, Option, Result}
use Rattle.group_text.specs.Texts.{GroupTextData}
use Rattle.run_ends.specs.declared.stop.End as end
use Rattle.run_ends.specs.declared.stop.Stop.{Stop}
use Rattle.run_ends.specs.Answers.{Answer}
use Rattle.run_ends.specs.Ends.{IsToldBy, status_after}
use Rattle.run_ends.specs.declared.status.Status.{Status}
use Rattle.dump_run.specs.Dumped.{IsDumped}
use Rattle.cosmos_app.specs.Named.{circuit_named, IsOverEither}

-- the dump of a script's run in the circuit of what the first name holds, a deck if it is the name of one and else a netlist, or the line of its
-- first refusal
abbrev pub IsDump : List ℕ → List ℕ → (List ℕ → List ℕ) → Answer → Type 0
IsDump net script holds = IsOverEither (IsDumped (holds script)) (circuit_named net (holds net))

-- it was written, and ends with this status; after a fault or lack of memory nothing or a part of it
abbrev pub IsDumpTo : List ℕ → List ℕ → (List ℕ → List ℕ) → Option (List ℕ) → Option (List ℕ) → List GroupTextData → List GroupTextData → Status → Type 0
IsDumpTo net script holds old new before after status =
    (ended : Result end.End Stop) × (status ≡ status_after ended) × IsToldBy (IsDump net script holds) old new before after ended
