-- What was told in one sense is told in another, and how a part of a run ends that reads nothing.
use Rattle.std.proofs.Common.{◌≡◌, ◌≢◌, ℕ, inl, inr, IfErr, List, [], ◌++◌, Option, Result, Ok, Err, refl, sym, ap, ◌∙◌, append-nil}
use Rattle.group_text.specs.Texts.{GroupTextData}
use Rattle.run_ends.specs.declared.stop.End as end
use Rattle.run_ends.specs.declared.stop.End.TheVariants as ended
use Rattle.run_ends.specs.declared.stop.Stop.{Stop}
use Rattle.run_ends.specs.declared.stop.Stop.TheVariants.{Read, Write, Memory}
use Rattle.run_ends.specs.declared.status.Status.TheVariants.{ReadFault}
use Rattle.run_ends.specs.Answers.{Answer}
use Rattle.run_ends.specs.Stops.{faults_read}
use Rattle.run_ends.specs.Ends.{IsTold, IsToldBy, IsUntouched, status_after}

-- what is right in one sense is right in another
pub told_as : (IsRight IsMeant : Answer → Type 0) (old new : Option (List ℕ)) (result : Result end.End Stop)
    → ((answer : Answer) → IsRight answer → IsMeant answer) → IsTold IsRight old new result → IsTold IsMeant old new result
told_as IsRight IsMeant old new (Ok end) means told =
    record { answer = told.answer; right = means told.answer told.right; ended = told.ended; grew = told.grew }
told_as IsRight IsMeant old new (Err stop) means (inl same) = inl same
told_as IsRight IsMeant old new (Err stop) means (inr begun) =
    inr (record { answer = begun.answer; right = means begun.answer begun.right; part = begun.part })

-- where no right answer has texts of groups, none were analysed
pub told_by_none : (IsRight IsMeant : Answer → Type 0) (old new : Option (List ℕ)) (analysed : List GroupTextData) (result : Result end.End Stop)
    → ((answer : Answer) → IsRight answer → IsMeant answer × (answer.texts ≡ [])) → IsTold IsRight old new result
    → IsToldBy IsMeant old new analysed analysed result
told_by_none IsRight IsMeant old new analysed (Ok end) means told =
    let right = means told.answer told.right in
    record {
      answer = told.answer;
      right = (right.0, sym (ap (λ texts. analysed ++ texts) right.1 ∙ append-nil analysed));
      ended = told.ended;
      grew = told.grew;
    }
told_by_none IsRight IsMeant old new analysed (Err stop) means told =
    told_as IsRight IsMeant old new (Err stop) (λ answer right. (means answer right).0) told

-- a part of a run that reads nothing leaves the count of the files' faults
pub read_none : (faults : ℕ) (result : Result end.End Stop) → IfErr result (λ stop. stop ≢ Read) → faults ≡ faults_read faults result
read_none faults (Ok end) other = refl
read_none faults (Err Read) other = absurd (other refl)
read_none faults (Err Write) other = refl
read_none faults (Err Memory) other = refl

-- a part of a run that reads nothing is not stopped by reading
pub untouched_none : {X : Type 0} (old new : X) (result : Result end.End Stop) → IfErr result (λ stop. stop ≢ Read) → IsUntouched old new result
untouched_none old new (Ok end) other = tt
untouched_none old new (Err stop) other = λ is. absurd (other is)

-- what is right in one sense is right in another
pub told_by_as : (IsRight IsMeant : Answer → Type 0) (old new : Option (List ℕ)) (before after : List GroupTextData) (result : Result end.End Stop)
    → ((answer : Answer) → IsRight answer → IsMeant answer) → IsToldBy IsRight old new before after result → IsToldBy IsMeant old new before after result
told_by_as IsRight IsMeant old new before after (Ok end) means told = record {
  answer = told.answer;
  right = (means told.answer told.right.0, told.right.1);
  ended = told.ended;
  grew = told.grew;
}
told_by_as IsRight IsMeant old new before after (Err stop) means told = told_as IsRight IsMeant old new (Err stop) means told

-- if the sink is untouched, what was written is as it was
pub untouched_seen : {X Y : Type 0} (seen : X → Y) (old new : X) (result : Result end.End Stop) → IsUntouched old new result → IsUntouched (seen old) (seen new) result
untouched_seen seen old new (Ok end) untouched = tt
untouched_seen seen old new (Err stop) untouched = λ is. ap seen (untouched is)

-- a fault of reading is the status of a stop by reading alone
pub read_cause : (P : Type 0) (result : Result end.End Stop) → IfErr result (λ stop. stop ≡ Read → P)
    → status_after result ≡ ReadFault → P
read_cause P (Ok ended.Done) cause is = absurd (cc)
read_cause P (Ok ended.Mismatch) cause is = absurd (cc)
read_cause P (Ok ended.Usage) cause is = absurd (cc)
read_cause P (Ok ended.NetRefused) cause is = absurd (cc)
read_cause P (Ok ended.ScriptRefused) cause is = absurd (cc)
read_cause P (Err Read) cause is = cause refl
read_cause P (Err Write) cause is = absurd (cc)
read_cause P (Err Memory) cause is = absurd (cc)
