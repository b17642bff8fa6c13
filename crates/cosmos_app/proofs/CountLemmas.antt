-- The ports' counts after a part of a run, and after the run by its status.
use Rattle.std.proofs.Common.{◌≡◌, ℕ, Result, Ok, Err, refl, sym, subst}
use Rattle.run_ends.specs.declared.stop.End as end
use Rattle.run_ends.specs.declared.stop.End.TheVariants as ended
use Rattle.run_ends.specs.declared.stop.Stop.{Stop}
use Rattle.run_ends.specs.declared.stop.Stop.TheVariants.{Read, Write, Memory}
use Rattle.run_ends.specs.declared.status.Status.{Status}
use Rattle.run_ends.specs.Ends.{status_after}
use Rattle.run_ends.specs.Stops.{faults_read, faults_written, IsRefusedOnce}
use Rattle.cosmos_app.specs.Counts.{files_count, sink_count, HasRefused}

-- the counts by the status of the end
record AreCounted (result : Result end.End Stop) (status : Status) : Type 0 where
  pub files : (faults : ℕ) → faults_read faults result ≡ files_count faults status
  pub sink : (faults : ℕ) → faults_written faults result ≡ sink_count faults status
  pub refused : (before now : ℕ) → IsRefusedOnce before now result → HasRefused before now status

counted : (result : Result end.End Stop) → AreCounted result (status_after result)
counted (Ok ended.Done) = record { files = λ faults. refl; sink = λ faults. refl; refused = λ before now is. is }
counted (Ok ended.Mismatch) = record { files = λ faults. refl; sink = λ faults. refl; refused = λ before now is. is }
counted (Ok ended.Usage) = record { files = λ faults. refl; sink = λ faults. refl; refused = λ before now is. is }
counted (Ok ended.NetRefused) = record { files = λ faults. refl; sink = λ faults. refl; refused = λ before now is. is }
counted (Ok ended.ScriptRefused) = record { files = λ faults. refl; sink = λ faults. refl; refused = λ before now is. is }
counted (Err Read) = record { files = λ faults. refl; sink = λ faults. refl; refused = λ before now is. is }
counted (Err Write) = record { files = λ faults. refl; sink = λ faults. refl; refused = λ before now is. is }
counted (Err Memory) = record { files = λ faults. refl; sink = λ faults. refl; refused = λ before now is. is }

pub files_counted : (faults : ℕ) (result : Result end.End Stop) → faults_read faults result ≡ files_count faults (status_after result)
files_counted faults result = (counted result).files faults

pub sink_counted : (faults : ℕ) (result : Result end.End Stop) → faults_written faults result ≡ sink_count faults (status_after result)
sink_counted faults result = (counted result).sink faults

pub refused_counted : (before now : ℕ) (result : Result end.End Stop) (status : Status) → status ≡ status_after result →
    IsRefusedOnce before now result → HasRefused before now status
refused_counted before now result status same once = subst (HasRefused before now) (sym same) ((counted result).refused before now once)
