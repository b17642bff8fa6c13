-- What was told of the case is told of what is asked.
use Rattle.std.proofs.Common.{◌≡◌, ℕ, List, [], Option, Result, ap}
use Rattle.group_text.specs.Texts.{GroupTextData}
use Rattle.run_ends.specs.declared.stop.End as end
use Rattle.run_ends.specs.declared.stop.Stop.{Stop}
use Rattle.run_ends.specs.Answers.{Answer}
use Rattle.run_ends.specs.Ends.{IsTold, IsToldBy}
use Rattle.run_ends.proofs.EndLemmas.{told_by_none}
use Rattle.command_line.specs.Samples.{sample_seen}
use Rattle.circuit_reports.specs.Answers.{IsGenerated, IsShown, IsUsage}
use Rattle.cosmos_app.proofs.top.answer_alone.Goals as goal

-- an answer that has no texts of groups is told with none
without_texts : (IsRight : Answer → Type 0) (old new : Option (List ℕ)) (analysed : List GroupTextData) (result : Result end.End Stop) →
    ((answer : Answer) → IsRight answer → answer.texts ≡ []) → IsTold IsRight old new result → IsToldBy IsRight old new analysed analysed result
without_texts IsRight old new analysed result none told = told_by_none IsRight IsRight old new analysed result (λ answer is. (is, none answer is)) told

pub returns-in-Generate-clause-told : goal.returns-in-Generate-clause-told
returns-in-Generate-clause-told g c = λ holds.
    rw c.in-Generate.is (without_texts (IsGenerated c.in-Generate.part (sample_seen c.in-Generate.sample)) _ _ (g.A.Analyst.analysed c.args.analyst.now)
    c.write_part.result (λ answer is. ap (λ (told : Answer). told.texts) is) c.write_part.ensures.told)

pub returns-in-SumUp-clause-told : goal.returns-in-SumUp-clause-told
returns-in-SumUp-clause-told g c = λ holds. rw c.in-SumUp.is c.sum_up.ensures.told

pub returns-in-Show-clause-told : goal.returns-in-Show-clause-told
returns-in-Show-clause-told g c = λ holds.
    rw c.in-Show.is (without_texts (IsShown c.in-Show.text.now) _ _ (g.A.Analyst.analysed c.args.analyst.now) c.show_text.result
    (λ answer is. ap (λ (told : Answer). told.texts) is) c.show_text.ensures.told)

pub returns-in-Unclear-clause-told : goal.returns-in-Unclear-clause-told
returns-in-Unclear-clause-told g c = λ holds.
    rw c.in-Unclear.is (without_texts IsUsage _ _ (g.A.Analyst.analysed c.args.analyst.now) c.refuse_words.result
    (λ answer is. ap (λ (told : Answer). told.texts) is) c.refuse_words.ensures.told)
