-- What was told of a run under all valuations, of a text and of circuits, is told of their names, and so is what was started and read.
use Rattle.std.proofs.Common.{◌≡◌, ◌≢◌, ℕ, ◌^◌, inl, inr, true, false, List, [], ◌∷◌, ◌++◌, length, Option, None, Some, IfSome, Result, Ok, Err, IfErr, refl, sym, ap, subst, ◌∙◌, append-nil}
use Rattle.std.specs.Io.KnownBytes.{append_known}
use Rattle.ports.specs.Ports.{with_name}
use Rattle.ports.specs.Sending.{Sends, WritesPart}
use Rattle.ports.specs.Taken.{Taken}
use Rattle.ports.proofs.SendingLemmas.{append_known-append, append_known-nil, part_longer, part_none, part_whole, sends_part}
use Rattle.line_words.specs.Files.{cut_line, front_of, lines_in}
use Rattle.netlist.specs.Circuits.{CircuitData, IsCircuit}
use Rattle.group_text.specs.Texts.{GroupTextData}
use Rattle.circuit_files.specs.Starts.{Started}
use Rattle.circuit_files.specs.Wholes.{ReadsWhole}
use Rattle.circuit_files.proofs.WholeLemmas.{whole_both}
use Rattle.run_ends.specs.declared.stop.End as end
use Rattle.run_ends.specs.declared.stop.Stop.{Stop}
use Rattle.run_ends.specs.declared.stop.Stop.TheVariants.{Memory, Read, Write}
use Rattle.run_ends.specs.Answers.{Answer}
use Rattle.run_ends.specs.Ends.{IsTold, IsToldBy, IsUntouched}
use Rattle.run_ends.specs.Stops.{faults_read, faults_written, written_at, IsRefusedAt, IsRefusedOnce}
use Rattle.run_ends.proofs.EndLemmas.{told_by_as, told_by_none}
use Rattle.session_meaning.specs.Sessions.{start_of}
use Rattle.session_meaning.proofs.EffectLemmas.{ready-start}
use Rattle.symbol_meaning.specs.Comparing.{IsEqualAnswer}
use Rattle.symbol_meaning.specs.Runs.{IsSymbolicAnswer, StopsFull}
use Rattle.symbol_meaning.specs.Readings.{truths_in, valuations_of}
use Rattle.symbol_meaning.specs.Scripts.{before_stop, bound_of_script, read_of, stop_of, variables_of}
use Rattle.symbol_run.specs.declared.session.SymbolFault.{SymbolFault}
use Rattle.symbol_run.specs.declared.session.SymbolFault.TheVariants as run
use Rattle.symbol_run.specs.Answers.{IsAnsweredBy}
use Rattle.symbol_run.specs.Halts.{StopsAmong}
use Rattle.symbol_run.specs.Turns.{faults_stopped, RefusedStopped}
use Rattle.symbol_outcomes.specs.Laws.{SymbolicScriptsHaveAnswers}
use Rattle.truth_makers.specs.declared.symbols.Symbols.{Symbols}
use Rattle.symbol_comparing.specs.Told.{AreValuationsOf}
use Rattle.symbol_session.specs.Starting.{StartData, data_at_start}
use Rattle.symbol_equiv.specs.declared.fault.EqualFault.{EqualFault}
use Rattle.symbol_equiv.specs.declared.fault.EqualFault.TheVariants as equal
use Rattle.symbol_equiv.specs.Ends.{faults_equal, IsEqualBy, RefusedEqual}
use Rattle.symbol_app.specs.declared.ends.SymbolEnd.{SymbolEnd}
use Rattle.symbol_app.specs.declared.ends.SymbolEnd.TheVariants.{Ended, Full}
use Rattle.cosmos_app.specs.declared.named.CircuitRefusal.{CircuitRefusal}
use Rattle.cosmos_app.specs.declared.named.CircuitRefusal.TheVariants.{Deck, Net}
use Rattle.cosmos_app.specs.Named.{circuit_named, IsCircuitRefusal}
use Rattle.cosmos_app.proofs.NetLemmas.{refusal_texts}
use Rattle.cosmos_app.proofs.PurposeLemmas.{at_front}
use Rattle.cosmos_app.proofs.StartLemmas.{accepted}
use Rattle.symbol_app.specs.Comparisons.{ended_comparison, IsComparedIn, IsObeyedLine, RunsOutComparing, RunsOutWhere}
use Rattle.symbol_app.specs.InTurn.{answer_behind, read_behind, read_in_turn, IsBehind, StartsInTurn}
use Rattle.symbol_app.specs.Symbolic.{ended_run, stop_unread, IsBrokenAtStart, IsSymbolic, IsToldInAll, RunsOutAt}

-- ---- what was told

-- what is right in one sense is right in another
pub told_in_all_as : (IsRight IsMeant : Answer → Type 0) (RunsOut RunsShort : ℕ → Option ℕ → List ℕ → Type 0) (old new : Option (List ℕ))
    (before after : List GroupTextData) (result : Result SymbolEnd Stop) → ((answer : Answer) → IsRight answer → IsMeant answer) →
    ((vertices : ℕ) (line : Option ℕ) (written : List ℕ) → RunsOut vertices line written → RunsShort vertices line written) →
    IsToldInAll IsRight RunsOut old new before after result → IsToldInAll IsMeant RunsShort old new before after result
told_in_all_as IsRight IsMeant RunsOut RunsShort old new before after (Ok (Ended ended)) means short told =
    told_by_as IsRight IsMeant old new before after (Ok ended) means told
told_in_all_as IsRight IsMeant RunsOut RunsShort old new before after (Ok (Full vertices line)) means short (written, grew, out) =
    (written, grew, short vertices line written out)
told_in_all_as IsRight IsMeant RunsOut RunsShort old new before after (Err stop) means short told =
    told_by_as IsRight IsMeant old new before after (Err stop) means told

-- what was told of the text that was read is told of the script, if what is so of a script's front is so of the script
pub told_text : (IsRight : List ℕ → Answer → Type 0) (RunsOut : List ℕ → ℕ → Option ℕ → List ℕ → Type 0) →
    ((script : List ℕ) (answer : Answer) → IsRight (front_of script) answer → IsRight script answer) →
    ((script : List ℕ) (vertices : ℕ) (line : Option ℕ) (written : List ℕ) → RunsOut (front_of script) vertices line written → RunsOut script vertices line written) →
    (known : Option (List ℕ → List ℕ)) (name text seen : List ℕ) (old new : Option (List ℕ)) (before after : List GroupTextData)
    (result : Result SymbolEnd Stop) → IfSome known (λ holds. text ≡ front_of (holds name)) → seen ≡ text →
    IsToldInAll (IsRight seen) (RunsOut seen) old new before after result →
    IfSome known (λ holds. IsToldInAll (IsRight (holds name)) (RunsOut (holds name)) old new before after result)
told_text IsRight RunsOut whole short None name text seen old new before after result front same told = tt
told_text IsRight RunsOut whole short (Some holds) name text seen old new before after result front same told =
    told_in_all_as (IsRight seen) (IsRight (holds name)) (RunsOut seen) (RunsOut (holds name)) old new before after result
    (λ answer right. whole (holds name) answer (subst (λ (bytes : List ℕ). IsRight bytes answer) (same ∙ front) right))
    (λ vertices line written out. short (holds name) vertices line written
    (subst (λ (bytes : List ℕ). RunsOut bytes vertices line written) (same ∙ front) out)) told

-- the answer of a script's front is that of the script, and so it is if vertices run out
pub symbolic-front : (circuit : CircuitData) (script : List ℕ) (answer : Answer) → IsSymbolic (front_of script) circuit answer → IsSymbolic script circuit answer
symbolic-front circuit script answer right = at_front (λ cut lines. IsSymbolicAnswer cut (start_of circuit) lines answer) script right

pub runs_out-front : (circuit : CircuitData) (script : List ℕ) (vertices : ℕ) (line : Option ℕ) (written : List ℕ) →
    RunsOutAt (front_of script) circuit vertices line written → RunsOutAt script circuit vertices line written
runs_out-front circuit script vertices line written out = record {
  bound = at_front (λ cut lines. vertices ≡ bound_of_script (read_of false cut lines)) script out.bound;
  number = out.number;
  at_line = out.at_line;
  stops = at_front (λ cut lines. StopsFull cut (start_of circuit) lines out.number written) script out.stops;
}

pub compared-front : (one other : CircuitData) (script : List ℕ) (answer : Answer) → IsComparedIn (front_of script) one other answer →
    IsComparedIn script one other answer
compared-front one other script answer right =
    at_front (λ cut lines. IsEqualAnswer cut (start_of one) (start_of other) lines answer) script right

where_front : (one other : CircuitData) (script : List ℕ) (line : Option ℕ) (written : List ℕ) → RunsOutWhere (front_of script) one other line written →
    RunsOutWhere script one other line written
where_front one other script (Some number) written (obeyed, none) = (at_front (λ cut lines. IsObeyedLine cut lines number) script obeyed, none)
where_front one other script None written (inl none) = inl none
where_front one other script None written (inr front) = inr (record {
  answer = front.answer;
  right = compared-front one other script front.answer front.right;
  rest = front.rest;
  front = front.front;
})

pub runs_out_comparing-front : (one other : CircuitData) (script : List ℕ) (vertices : ℕ) (line : Option ℕ) (written : List ℕ) →
    RunsOutComparing (front_of script) one other vertices line written → RunsOutComparing script one other vertices line written
runs_out_comparing-front one other script vertices line written out = record {
  bound = at_front (λ cut lines. vertices ≡ bound_of_script (read_of true cut lines)) script out.bound;
  place = where_front one other script line written out.place;
}

-- ---- refusals

-- each refusal has its answer
pub refusal_told : (refusal : CircuitRefusal) → (answer : Answer) × IsCircuitRefusal refusal answer
refusal_told (Net refusal) = (_, refl)
refusal_told (Deck refusal) = (_, refl)

-- behind no text it is as it is
pub refusal_alone : (refusal : CircuitRefusal) (answer : Answer) → IsBehind [] (IsCircuitRefusal refusal) answer → IsCircuitRefusal refusal answer
refusal_alone (Net refusal) answer (own, right, same) = same ∙ ap (answer_behind []) right
refusal_alone (Deck refusal) answer (own, right, same) = same ∙ ap (answer_behind []) right

-- a text was sent, and then an answer told: it is told behind the text
pub told_behind : (front : List ℕ) (IsRight : Answer → Type 0) (old mid new : Option (List ℕ)) (result : Result end.End Stop) →
    (answer : Answer) × IsRight answer → mid ≡ append_known old front → IsTold IsRight mid new result → IsTold (IsBehind front IsRight) old new result
told_behind front IsRight old mid new (Ok ended) some sent told = record {
  answer = answer_behind front told.answer;
  right = (told.answer, told.right, refl);
  ended = told.ended;
  grew = told.grew ∙ ap (λ (known : Option (List ℕ)). append_known known told.answer.text) sent ∙ append_known-append old front told.answer.text;
}
told_behind front IsRight old mid new (Err stop) (own, right) sent (inl same) = inr (record {
  answer = answer_behind front own;
  right = (own, right, refl);
  part = part_longer old new front own.text (part_whole old new front (same ∙ sent));
})
told_behind front IsRight old mid new (Err stop) some sent (inr begun) = inr (record {
  answer = answer_behind front begun.answer;
  right = (begun.answer, begun.right, refl);
  part = sends_part old mid new (front ++ begun.answer.text) begun.answer.text [] (sent_front old mid front begun.answer.text sent) begun.part;
}) where
  sent_front : (old mid : Option (List ℕ)) (front text : List ℕ) → mid ≡ append_known old front → Sends old mid (front ++ text) (text ++ [])
  sent_front old mid front text sent = record { sent = front; whole = ap (λ (more : List ℕ). front ++ more) (sym (append-nil text)); grew = sent }

-- if the text wasn't sent whole, a part of it all was
pub part_behind : (front : List ℕ) (IsRight : Answer → Type 0) (old new : Option (List ℕ)) (stop : Stop) → (answer : Answer) × IsRight answer →
    WritesPart old new front → IsTold (IsBehind front IsRight) old new (Err stop)
part_behind front IsRight old new stop (own, right) part = inr (record {
  answer = answer_behind front own;
  right = (own, right, refl);
  part = part_longer old new front own.text part;
})

-- nor were texts of groups analysed for it
pub behind_by : (front : List ℕ) (refusal : CircuitRefusal) (old new : Option (List ℕ)) (asked : List GroupTextData) (result : Result end.End Stop) →
    IsTold (IsBehind front (IsCircuitRefusal refusal)) old new result → IsToldBy (IsBehind front (IsCircuitRefusal refusal)) old new asked asked result
behind_by front refusal old new asked result told =
    told_by_none (IsBehind front (IsCircuitRefusal refusal)) (IsBehind front (IsCircuitRefusal refusal)) old new asked result
    (λ answer behind. (behind, texts answer behind)) told
  where
    texts : (answer : Answer) → IsBehind front (IsCircuitRefusal refusal) answer → answer.texts ≡ []
    texts answer (own, right, same) = ap (λ (told : Answer). told.texts) same ∙ refusal_texts refusal own right

-- ---- files

-- behind a circuit the others are started
pub starts_next : (known later : Option (List ℕ → List ℕ)) (net : List ℕ) (nets : List (List ℕ)) (script : List ℕ) (circuit : CircuitData) (old mid new : Started) →
    IfSome known (λ holds. circuit_named net (holds net) ≡ Ok circuit) → later ≡ known → mid ≡ with_name old net → StartsInTurn nets script later mid new →
    StartsInTurn (net ∷ nets) script known old new
starts_next known later net nets script circuit old mid new means kept first beside =
    inr (
      accepted (circuit_named net) known net circuit means,
      subst (λ (started : Started). StartsInTurn nets script known started new) first
          (subst (λ (holds : Option (List ℕ → List ℕ)). StartsInTurn nets script holds mid new) kept beside),
    )

-- and read
pub whole_next : (known later : Option (List ℕ → List ℕ)) (net : List ℕ) (nets : List (List ℕ)) (script : List ℕ) (circuit : CircuitData) (old mid new : Taken) →
    IfSome known (λ holds. circuit_named net (holds net) ≡ Ok circuit) → later ≡ known → IfSome known (λ holds. ReadsWhole old mid holds (net ∷ [])) →
    IfSome later (λ holds. ReadsWhole mid new holds (read_in_turn nets script holds)) →
    IfSome known (λ holds. ReadsWhole old new holds (read_in_turn (net ∷ nets) script holds))
whole_next None later net nets script circuit old mid new means kept before after = tt
whole_next (Some holds) later net nets script circuit old mid new means kept before after =
    let here : ReadsWhole mid new holds (read_in_turn nets script holds) =
    subst (λ names. IfSome names (λ holds. ReadsWhole mid new holds (read_in_turn nets script holds))) kept after in
    subst (λ (meaning : Result CircuitData CircuitRefusal). ReadsWhole old new holds (read_behind meaning net (read_in_turn nets script holds))) (sym means)
    (whole_both old mid new holds (net ∷ []) (read_in_turn nets script holds) before here)

-- behind a refusal none is
pub whole_last : (known : Option (List ℕ → List ℕ)) (net : List ℕ) (nets : List (List ℕ)) (script : List ℕ) (refusal : CircuitRefusal) (old new : Taken) →
    IfSome known (λ holds. circuit_named net (holds net) ≡ Err refusal) → IfSome known (λ holds. ReadsWhole old new holds (net ∷ [])) →
    IfSome known (λ holds. ReadsWhole old new holds (read_in_turn (net ∷ nets) script holds))
whole_last None net nets script refusal old new means read = tt
whole_last (Some holds) net nets script refusal old new means read =
    subst (λ (meaning : Result CircuitData CircuitRefusal). ReadsWhole old new holds (read_behind meaning net (read_in_turn nets script holds))) (sym means) read

-- ---- what reads no file

-- it leaves the count of the files' faults, and isn't stopped by reading
pub read_none_in_all : (faults : ℕ) (result : Result SymbolEnd Stop) → IfErr result (λ stop. stop ≢ Read) → faults ≡ faults_read faults result
read_none_in_all faults (Ok ended) other = refl
read_none_in_all faults (Err Read) other = absurd (other refl)
read_none_in_all faults (Err Write) other = refl
read_none_in_all faults (Err Memory) other = refl

pub untouched_in_all : {X : Type 0} (old new : X) (result : Result SymbolEnd Stop) → IfErr result (λ stop. stop ≢ Read) → IsUntouched old new result
untouched_in_all old new (Ok ended) other = tt
untouched_in_all old new (Err stop) other = λ is. absurd (other is)

-- ---- how runs end

-- no run is stopped by reading
unread_other : (stop : Stop) → stop_unread stop ≢ Read
unread_other Read is = absurd (cc is)
unread_other Write is = absurd (cc is)
unread_other Memory is = absurd (cc is)

unread_written : (faults : ℕ) (stop : Stop) → written_at faults stop ≡ written_at faults (stop_unread stop)
unread_written faults Read = refl
unread_written faults Write = refl
unread_written faults Memory = refl

unread_refused : (before now : ℕ) (stop : Stop) → IsRefusedAt before now stop → IsRefusedAt before now (stop_unread stop)
unread_refused before now Read is = inl is
unread_refused before now Write is = is
unread_refused before now Memory is = is

module _ (vertices : ℕ) (result : Result end.End SymbolFault) (ended : Result SymbolEnd Stop) (same : ended ≡ ended_run vertices result) where
  -- what was told of a run is told of its end
  pub run_told : (script : List ℕ) (circuit : CircuitData) (old new : Option (List ℕ)) (asked known : List GroupTextData) →
      vertices ≡ bound_of_script (read_of false (cut_line script) (lines_in script)) →
      IsAnsweredBy (cut_line script) (start_of circuit) (lines_in script) old new asked known result →
      IsToldInAll (IsSymbolic script circuit) (RunsOutAt script circuit) old new asked known ended
  run_told script circuit old new asked known bound told =
      subst (IsToldInAll (IsSymbolic script circuit) (RunsOutAt script circuit) old new asked known) (sym same) (by result told)
    where
      by : (result : Result end.End SymbolFault) → IsAnsweredBy (cut_line script) (start_of circuit) (lines_in script) old new asked known result →
          IsToldInAll (IsSymbolic script circuit) (RunsOutAt script circuit) old new asked known (ended_run vertices result)
      by (Ok ending) told = told
      by (Err (run.Stopped stop)) (answer, right, part) = inr (record { answer = answer; right = right; part = part })
      by (Err (run.Full number)) (written, grew, stops) =
          (written, grew, record { bound = bound; number = number; at_line = refl; stops = stops })

  pub run_unread : IfErr ended (λ stop. stop ≢ Read)
  run_unread = subst (λ (own : Result SymbolEnd Stop). IfErr own (λ stop. stop ≢ Read)) (sym same) (by result) where
    by : (result : Result end.End SymbolFault) → IfErr (ended_run vertices result) (λ stop. stop ≢ Read)
    by (Ok ending) = tt
    by (Err (run.Stopped stop)) = unread_other stop
    by (Err (run.Full number)) = tt

  pub run_faults : (faults : ℕ) → faults_stopped faults result ≡ faults_written faults ended
  run_faults faults = by result ∙ ap (faults_written faults) (sym same) where
    by : (result : Result end.End SymbolFault) → faults_stopped faults result ≡ faults_written faults (ended_run vertices result)
    by (Ok ending) = refl
    by (Err (run.Stopped stop)) = unread_written faults stop
    by (Err (run.Full number)) = refl

  pub run_refused : (before now : ℕ) → RefusedStopped before now result → IsRefusedOnce before now ended
  run_refused before now is = subst (IsRefusedOnce before now) (sym same) (by result is) where
    by : (result : Result end.End SymbolFault) → RefusedStopped before now result → IsRefusedOnce before now (ended_run vertices result)
    by (Ok ending) is = is
    by (Err (run.Stopped stop)) is = unread_refused before now stop is
    by (Err (run.Full number)) is = is

module _ (vertices : ℕ) (result : Result end.End EqualFault) (ended : Result SymbolEnd Stop) (same : ended ≡ ended_comparison vertices result) where
  -- and of a comparison
  pub comparison_told : (script : List ℕ) (one other : CircuitData) (old new : Option (List ℕ)) (asked known : List GroupTextData) →
      vertices ≡ bound_of_script (read_of true (cut_line script) (lines_in script)) →
      IsEqualBy (cut_line script) (start_of one) (start_of other) (lines_in script) old new asked known result →
      IsToldInAll (IsComparedIn script one other) (RunsOutComparing script one other) old new asked known ended
  comparison_told script one other old new asked known bound told =
      subst (IsToldInAll (IsComparedIn script one other) (RunsOutComparing script one other) old new asked known) (sym same) (by result told)
    where
      by : (result : Result end.End EqualFault) → IsEqualBy (cut_line script) (start_of one) (start_of other) (lines_in script) old new asked known result →
          IsToldInAll (IsComparedIn script one other) (RunsOutComparing script one other) old new asked known (ended_comparison vertices result)
      by (Ok ending) told = told
      by (Err (equal.Stopped stop)) told = told
      by (Err (equal.FullAt number)) told = ([], told.unwritten ∙ sym (append_known-nil old), record { bound = bound; place = (told.among, refl) })
      by (Err equal.Full) (inl same) = ([], same ∙ sym (append_known-nil old), record { bound = bound; place = inl refl })
      by (Err equal.Full) (inr begun) =
          let (rest, sends) = begun.part in (
            sends.sent,
            sends.grew,
            record { bound = bound; place = inr (record { answer = begun.answer; right = begun.right; rest = rest; front = sends.whole }) },
          )

  pub comparison_unread : IfErr ended (λ stop. stop ≢ Read)
  comparison_unread = subst (λ (own : Result SymbolEnd Stop). IfErr own (λ stop. stop ≢ Read)) (sym same) (by result) where
    by : (result : Result end.End EqualFault) → IfErr (ended_comparison vertices result) (λ stop. stop ≢ Read)
    by (Ok ending) = tt
    by (Err (equal.Stopped stop)) = unread_other stop
    by (Err (equal.FullAt number)) = tt
    by (Err equal.Full) = tt

  pub comparison_faults : (faults : ℕ) → faults_equal faults result ≡ faults_written faults ended
  comparison_faults faults = by result ∙ ap (faults_written faults) (sym same) where
    by : (result : Result end.End EqualFault) → faults_equal faults result ≡ faults_written faults (ended_comparison vertices result)
    by (Ok ending) = refl
    by (Err (equal.Stopped stop)) = unread_written faults stop
    by (Err (equal.FullAt number)) = refl
    by (Err equal.Full) = refl

  pub comparison_refused : (before now : ℕ) → RefusedEqual before now result → IsRefusedOnce before now ended
  comparison_refused before now is = subst (IsRefusedOnce before now) (sym same) (by result is) where
    by : (result : Result end.End EqualFault) → RefusedEqual before now result → IsRefusedOnce before now (ended_comparison vertices result)
    by (Ok ending) is = is
    by (Err (equal.Stopped stop)) is = unread_refused before now stop is
    by (Err (equal.FullAt number)) is = is
    by (Err equal.Full) is = is

-- ---- a run that is broken off at its start

-- it stopped as a right run may: for want of memory, or of vertices at a line that is obeyed
pub broken_at_start : SymbolicScriptsHaveAnswers → (script : List ℕ) (circuit : CircuitData) (why : SymbolFault) → IsCircuit circuit →
    StopsAmong (before_stop (stop_of false (cut_line script) (lines_in script)) (lines_in script)) why → IsBrokenAtStart script circuit why
broken_at_start exist script circuit (run.Stopped stop) is among old asked =
    let (answer, right) = exist (cut_line script) (start_of circuit) (ready-start circuit is) (lines_in script) in
    (answer, right, part_none old answer.text)
broken_at_start exist script circuit (run.Full number) is (text, earlier, later, split) old asked =
    let (answer, right) = exist (cut_line script) (start_of circuit) (ready-start circuit is) (lines_in script) in (
      [],
      sym (append_known-nil old),
      record { answer = answer; right = right; rest = answer.text; front = refl; text = text; before = earlier; after = later; split = split },
    )

-- what is so of each fault
pub each_fault : {T E : Type 0} {P Q : E → Type 0} (result : Result T E) → ((why : E) → P why → Q why) → IfErr result P → IfErr result Q
each_fault (Ok value) each is = tt
each_fault (Err why) each is = each why is

-- it wrote nothing, so the sink's counts are as they were
pub kept_faults : (faults : ℕ) (why : SymbolFault) → why ≢ run.Stopped Write → faults ≡ faults_stopped {T = end.End} faults (Err why)
kept_faults faults (run.Stopped Read) other = refl
kept_faults faults (run.Stopped Write) other = absurd (other refl)
kept_faults faults (run.Stopped Memory) other = refl
kept_faults faults (run.Full number) other = refl

pub kept_refused : (refusals : ℕ) (why : SymbolFault) → RefusedStopped {T = end.End} refusals refusals (Err why)
kept_refused refusals (run.Stopped Read) = refl
kept_refused refusals (run.Stopped Write) = refl
kept_refused refusals (run.Stopped Memory) = inl refl
kept_refused refusals (run.Full number) = refl

-- ---- both starts

-- the columns of a maker of the script's variables are its valuations
pub valued_start : (symbols : Symbols) (script : List ℕ) → symbols.graph.variables ≡ length (variables_of (read_of true (cut_line script) (lines_in script))) →
    AreValuationsOf symbols (valuations_of (read_of true (cut_line script) (lines_in script)))
valued_start symbols script is = record {
  columns = ap (λ (n : ℕ). 2 ^ n) (sym is);
  truths = λ column. ap (λ (n : ℕ). truths_in n column) (sym is);
}

-- what is told of two starts is told of their circuits
pub told_of_starts : (cut : Option ℕ) (lines : List (ℕ × List ℕ)) (first second : StartData) (one other : CircuitData) (old new : Option (List ℕ))
    (asked known : List GroupTextData) (result : Result end.End EqualFault) → first.circuit ≡ one → second.circuit ≡ other →
    IsEqualBy cut (data_at_start first) (data_at_start second) lines old new asked known result →
    IsEqualBy cut (start_of one) (start_of other) lines old new asked known result
told_of_starts cut lines first second one other old new asked known result same also told =
    subst (λ (circuit : CircuitData). IsEqualBy cut (start_of one) (start_of circuit) lines old new asked known result) also
    (subst (λ (circuit : CircuitData). IsEqualBy cut (start_of circuit) (data_at_start second) lines old new asked known result) same told)
