-- What was said of a refusal, and what a talk that was stopped comes to.
use Rattle.std.proofs.Common.{◌≡◌, ℕ, inl, inr, List, [], ◌++◌, Option, None, Some, IfSome, Result, Ok, Err, OnOk, refl, sym, ap, subst, ◌∙◌, arith, append-nil}
use Rattle.std.specs.Prelude.{option_map, unwrap_or}
use Rattle.netlist.specs.Circuits.{CircuitData}
use Rattle.group_text.specs.Texts.{GroupTextData}
use Rattle.talk_port.specs.Talks.{TalkData, SaysPart, said_next}
use Rattle.run_ends.specs.declared.stop.End as end
use Rattle.run_ends.specs.declared.stop.Stop.{Stop}
use Rattle.run_ends.specs.Answers.{Answer, IsWritten}
use Rattle.run_ends.specs.Ends.{status_of, status_after}
use Rattle.run_ends.specs.Stops.{written_at}
use Rattle.run_ends.specs.declared.stop.End.TheVariants as end_is
use Rattle.run_ends.specs.declared.stop.Stop.TheVariants.{Read, Write, Memory}
use Rattle.run_ends.specs.declared.status.Status.{Status}
use Rattle.cosmos_app.specs.declared.named.CircuitRefusal.{CircuitRefusal}
use Rattle.cosmos_app.specs.Counts.{files_count}
use Rattle.cosmos_app.specs.Named.{circuit_named}
use Rattle.cosmos_app.proofs.CountLemmas.{files_counted}
use Rattle.cosmos_app.specs.Talking.{HandsOn, ReadsOnce, HasReadOnce, SaysWhole, SaysText, SaysRefusal, IsTalkOver, IsTalk, IsTalkTo}

-- the line of a refusal that was written to an empty sink was said
pub said_refusal : (IsRefusal : Answer → Type 0) (old new : List ℕ) (before after : Option TalkData) (ending : end.End) (ended : Result end.End Stop) →
    old ≡ [] → IsWritten IsRefusal (Some old) (Some new) (status_of ending) → SaysText new ending before after ended →
    SaysRefusal IsRefusal before after ended
said_refusal IsRefusal old new before after ending ended empty written says = by ended says where
  text : new ≡ written.answer.text
  text = ap (λ (known : Option (List ℕ)). unwrap_or known []) (subst (λ (front : List ℕ). Some new ≡ Some (front ++ written.answer.text)) empty written.grew)

  by : (ended : Result end.End Stop) → SaysText new ending before after ended → SaysRefusal IsRefusal before after ended
  by (Ok other) (is, said) = (
    written.answer,
    written.right,
    written.ended ∙ ap status_of (sym is),
    said ∙ ap (λ (bytes : List ℕ). option_map (said_next bytes) before) text,
  )
  by (Err stop) part = inr (written.answer, written.right, subst (SaysPart before after) text part)

-- a talk that was stopped before it began
untalked_over : (meaning : Result CircuitData CircuitRefusal) (asked : List GroupTextData) (talk : Option TalkData) (stop : Stop) →
    IsTalkOver meaning asked talk talk (Err stop)
untalked_over (Ok circuit) asked talk stop = inl refl
untalked_over (Err refusal) asked talk stop = inl refl

pub untalked : (known : Option (List ℕ → List ℕ)) (net : List ℕ) (asked : List GroupTextData) (talk : Option TalkData) (stop : Stop) →
    IfSome known (λ holds. IsTalk net holds asked talk talk (Err stop))
untalked None net asked talk stop = tt
untalked (Some holds) net asked talk stop = untalked_over (circuit_named net (holds net)) asked talk stop

-- a text that was said, whether it was handed on or not, was said at least in part
pub said_whole : {E : Type 0} (text : List ℕ) (before mid after : Option TalkData) (result : Result (Unit {0}) E) → after ≡ mid →
    mid ≡ option_map (said_next text) before → SaysWhole text before after result
said_whole text before mid after (Ok _) same said = same ∙ said
said_whole text before mid after (Err fault) same said =
    record { said = text; left = []; whole = sym (append-nil text); grew = same ∙ said }

-- a sink that never fails stops nothing by a fault of writing
pub written_none : (stop : Stop) → 0 ≡ written_at 0 stop → (faults : ℕ) → faults ≡ written_at faults stop
written_none Read none faults = refl
written_none Write none faults = absurd (omega (arith, none))
written_none Memory none faults = refl

-- the talk by its status: it is one of some end, and what is handed on and counted is so
pub talk_ended : (known : Option (List ℕ → List ℕ)) (net : List ℕ) (asked : List GroupTextData) (before after : Option TalkData)
    (ended : Result end.End Stop) (status : Status) → status ≡ status_after ended → IfSome known (λ holds. IsTalk net holds asked before after ended) →
    IfSome known (λ holds. IsTalkTo net holds asked before after status)
talk_ended None net asked before after ended status is told = tt
talk_ended (Some holds) net asked before after ended status is told = (ended, is, told)

pub handed_by : (behind : ℕ) (ended : Result end.End Stop) (status : Status) → status ≡ status_after ended → OnOk ended (behind ≡ 0) → HandsOn behind status
handed_by behind ended status is handed = subst (HandsOn behind) (sym is) (by ended handed) where
  by : (ended : Result end.End Stop) → OnOk ended (behind ≡ 0) → HandsOn behind (status_after ended)
  by (Ok end_is.Done) handed = handed
  by (Ok end_is.Mismatch) handed = handed
  by (Ok end_is.Usage) handed = handed
  by (Ok end_is.NetRefused) handed = handed
  by (Ok end_is.ScriptRefused) handed = handed
  by (Err Read) handed = tt
  by (Err Write) handed = tt
  by (Err Memory) handed = tt

pub read_by : (files files_now unheard unheard_now : ℕ) (ended : Result end.End Stop) (status : Status) → status ≡ status_after ended →
    ReadsOnce files files_now unheard unheard_now ended → HasReadOnce files files_now unheard unheard_now status
read_by files files_now unheard unheard_now ended status is (inl (read, same)) =
    inl (read ∙ files_counted files ended ∙ ap (files_count files) (sym is), same)
read_by files files_now unheard unheard_now ended status is (inr (same, heard)) =
    inr (same, heard ∙ files_counted unheard ended ∙ ap (files_count unheard) (sym is))
