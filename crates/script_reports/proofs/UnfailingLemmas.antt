-- Lines that are obeyed while a hearer hears them that never fails: they end as they do, or memory runs out.
use Rattle.std.proofs.Common.{◌≡◌, ◌≢◌, ℕ, List, Option, Result, Ok, Err, IfOk, IfErr, refl, arith}
use Rattle.group_text.specs.Texts.{GroupTextData}
use Rattle.told_lines.specs.Lines.{Told}
use Rattle.session_meaning.specs.Sessions.{SessionData}
use Rattle.run_ends.specs.declared.stop.Stop.{Stop}
use Rattle.run_ends.specs.declared.stop.Stop.TheVariants.{Read, Write, Memory}
use Rattle.run_ends.specs.Stops.{faults_written}
use Rattle.script_meaning.specs.declared.halt.Halt.{Halt}
use Rattle.script_meaning.specs.Runs.{Reading}
use Rattle.script_meaning.specs.Halts.{HaltsAt, TellsHalt}

-- if they were not stopped they end
pub halts_obeyed : {H : Type 0} (hear : H → Told → H) (part : H → Told → H → Type 0) (reading : Reading) (cut : Option ℕ) (start : SessionData)
    (lines : List (ℕ × List ℕ)) (new : SessionData) (before after : H) (asked told : List GroupTextData) (result : Result Halt Stop) →
    TellsHalt hear part reading cut start lines new before after asked told result →
    IfOk result (λ halt. HaltsAt hear reading cut start lines new before after asked told halt)
halts_obeyed hear part reading cut start lines new before after asked told (Ok halt) tells = tells
halts_obeyed hear part reading cut start lines new before after asked told (Err stop) tells = tt

-- they are stopped by lack of memory alone
pub memory_alone : {T : Type 0} (result : Result T Stop) → IfErr result (λ stop. stop ≢ Read) → 0 ≡ faults_written 0 result → IfErr result (λ stop. stop ≡ Memory)
memory_alone (Ok value) other none = tt
memory_alone (Err Read) other none = absurd (other refl)
memory_alone (Err Write) other none = absurd (omega (arith, none))
memory_alone (Err Memory) other none = refl

pub memory_unread : Memory ≢ Read
memory_unread = λ is. absurd (cc (is))
