-- How the ends of the parts of a run become the ends of the whole.
use Rattle.std.proofs.Common.{◌≡◌, ℕ, List, Option, None, Some, IfSome, Result, Ok, Err, refl, sym, subst}
use Rattle.group_text.specs.Texts.{GroupTextData}
use Rattle.run_ends.specs.declared.stop.End as end
use Rattle.run_ends.specs.declared.stop.End.TheVariants as ended
use Rattle.run_ends.specs.declared.stop.Stop.{Stop}
use Rattle.run_ends.specs.declared.stop.Stop.TheVariants.{Read, Write, Memory}
use Rattle.run_ends.specs.declared.status.Status.{Status}
use Rattle.cosmos_app.specs.Answers.{IsAnswer, IsAnswered}
use Rattle.run_ends.specs.Ends.{IsToldBy, IsUntouched, status_after}

-- what was told is answered by the status of the end
pub answered : (words : List (List ℕ)) (holds : List ℕ → List ℕ) (old new : Option (List ℕ)) (before after : List GroupTextData) (result : Result end.End Stop)
    → IsUntouched old new result → IsToldBy (IsAnswer words holds) old new before after result
    → IsAnswered words holds old new before after (status_after result)
answered words holds old new before after (Ok ended.Done) untouched told = told
answered words holds old new before after (Ok ended.Mismatch) untouched told = told
answered words holds old new before after (Ok ended.Usage) untouched told = told
answered words holds old new before after (Ok ended.NetRefused) untouched told = told
answered words holds old new before after (Ok ended.ScriptRefused) untouched told = told
answered words holds old new before after (Err Read) untouched told = untouched refl
answered words holds old new before after (Err Write) untouched told = told
answered words holds old new before after (Err Memory) untouched told = told

pub answered_known : (known : Option (List ℕ → List ℕ)) (words : List (List ℕ)) (old new : Option (List ℕ)) (before after : List GroupTextData) (result : Result end.End Stop) (status : Status)
    → status ≡ status_after result → IsUntouched old new result
    → IfSome known (λ holds. IsToldBy (IsAnswer words holds) old new before after result)
    → IfSome known (λ holds. IsAnswered words holds old new before after status)
answered_known None words old new before after result status same untouched told = tt
answered_known (Some holds) words old new before after result status same untouched told =
    subst (IsAnswered words holds old new before after) (sym same) (answered words holds old new before after result untouched told)
