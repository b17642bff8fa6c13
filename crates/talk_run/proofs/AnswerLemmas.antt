-- What was said for a line is an answer to it, by what the line asks for.
use Rattle.std.proofs.Common.{◌≡◌, ℕ, ◌⊎◌, inl, inr, Bool, not, List, [], Option, Result, Ok, Err, refl, sym, ap, subst, ◌∙◌}
use Rattle.ternary.specs.Counts.{raised}
use Rattle.line_words.specs.Lines.{without_return}
use Rattle.netlist.specs.Names.{node_of}
use Rattle.printed_lines.specs.declared.faults.FaultPlace.TheVariants.{Heard}
use Rattle.printed_lines.specs.declared.faults.FaultCode.{FaultCode}
use Rattle.run_ends.specs.Causes.{plain_cause, cause_line}
use Rattle.group_text.specs.Texts.{GroupTextData}
use Rattle.session_meaning.specs.Sessions.{SessionData}
use Rattle.talk_port.specs.Talks.{TalkData}
use Rattle.talk_port.specs.Conversing.{Answers}
use Rattle.talk_run.specs.Asking.{Asked, OfScript, Why, Echo, Quit, Refused, asked_of, echo_line, is_quit, quits}
use Rattle.talk_run.specs.Answers.{TalkMind, mind_of, counted, IsObeyed, ExplainsName, AnswersAsked, Replies, IsAnswer}
use Rattle.talk_run.specs.Telling.{Says, Begins, Speaks, Tries}
use Rattle.talk_run.proofs.SpokenLemmas.{said-nil}

module _ (asked : Asked) (now new : TalkMind) (line : List ℕ) (before after : Option TalkData) where
  replies_as : {E : Type 0} (other : Asked) (result : Result (Unit {0}) E) → asked ≡ other → Replies other now line new before after result →
      Replies asked now line new before after result
  replies_as other result is replies = subst (λ (what : Asked). Replies what now line new before after result) (sym is) replies

  -- a line of a script
  pub replies_script : {E : Type 0} (result : Result (Unit {0}) E) → asked ≡ OfScript →
      Speaks (λ text. IsObeyed now line text new) (λ text. (end : TalkMind) × IsObeyed now line text end) before after result →
      Replies asked now line new before after result
  replies_script result is says = replies_as OfScript result is says

  -- the reasons of a node
  pub replies_why : {E : Type 0} (result : Result (Unit {0}) E) (name : List ℕ) → asked ≡ Why name → new ≡ now →
      Speaks (ExplainsName now (node_of now.core.circuit.names name)) (ExplainsName now (node_of now.core.circuit.names name)) before after result →
      Replies asked now line new before after result
  replies_why result name is same says = replies_as (Why name) result is (explained result says) where
    explained : {E : Type 0} (result : Result (Unit {0}) E) →
        Speaks (ExplainsName now (node_of now.core.circuit.names name)) (ExplainsName now (node_of now.core.circuit.names name)) before after result →
        Replies (Why name) now line new before after result
    explained (Ok _) says = record { text = says.text; right = (same, says.right); said = says.said }
    explained (Err fault) (inl kept) = inl kept
    explained (Err fault) (inr begins) = inr (record { text = begins.text; right = (now, (refl, begins.right)); part = begins.part })

  -- a text that is known
  replies_text : {E : Type 0} (result : Result (Unit {0}) E) (other : Asked) (text : List ℕ) → asked ≡ other →
      AnswersAsked other now line text new → Tries text before after result → Replies asked now line new before after result
  replies_text result other text is right tries = replies_as other result is (told result tries) where
    told : {E : Type 0} (result : Result (Unit {0}) E) → Tries text before after result → Replies other now line new before after result
    told (Ok _) tries = record { text = text; right = right; said = tries }
    told (Err fault) (inl kept) = inl kept
    told (Err fault) (inr part) = inr (record { text = text; right = (new, right); part = part })

  pub replies_echo : {E : Type 0} (result : Result (Unit {0}) E) (words : List (List ℕ)) → asked ≡ Echo words → new ≡ now →
      Tries (echo_line words) before after result → Replies asked now line new before after result
  replies_echo result words is same tries = replies_text result (Echo words) (echo_line words) is (same, refl) tries

  pub replies_refused : {E : Type 0} (result : Result (Unit {0}) E) (code : FaultCode) → asked ≡ Refused code → new ≡ now →
      Tries (cause_line (Heard now.heard) (plain_cause code)) before after result → Replies asked now line new before after result
  replies_refused result code is same tries =
      replies_text result (Refused code) (cause_line (Heard now.heard) (plain_cause code)) is (same, refl) tries

  -- nothing
  pub replies_quit : asked ≡ Quit → new ≡ now → after ≡ before → Says (λ text. AnswersAsked asked now line text new) before after
  replies_quit is same kept = record {
    text = [];
    right = subst (λ (what : Asked). AnswersAsked what now line [] new) (sym is) (same, refl);
    said = kept ∙ said-nil before;
  }

-- what was asked for is what a line that was heard asks for, with one line more heard
module _ (core : SessionData) (analysed : List GroupTextData) (heard now : ℕ) (kept line : List ℕ) (asked : Asked) (before after : Option TalkData)
    (is : asked ≡ asked_of line) (bytes : line ≡ without_return kept) (counts : now ≡ raised heard 1) where
  abbrev pub old : TalkMind
  old = mind_of core heard analysed

  abbrev pub mind : TalkMind
  mind = mind_of core now analysed

  as_heard : (text : List ℕ) (end : TalkMind) → AnswersAsked asked mind line text end → IsAnswer old kept text end
  as_heard text end right =
      let of_line : AnswersAsked (asked_of line) mind line text end = subst (λ (what : Asked). AnswersAsked what mind line text end) is right in
      let counted_one : AnswersAsked (asked_of line) (counted old) line text end =
      subst (λ (number : ℕ). AnswersAsked (asked_of line) (mind_of core number analysed) line text end) counts of_line in
      subst (λ (one : List ℕ). AnswersAsked (asked_of one) (counted old) one text end) bytes counted_one

  pub answers_heard : (new : TalkMind) → Says (λ text. AnswersAsked asked mind line text new) before after → Answers IsAnswer old kept new before after
  answers_heard new says = record { text = says.text; answered = as_heard says.text new says.right; tells = says.said }

  pub breaks_heard : (after ≡ before) ⊎ Begins (λ text. (end : TalkMind) × AnswersAsked asked mind line text end) before after →
      (after ≡ before) ⊎ Begins (λ text. (end : TalkMind) × IsAnswer old kept text end) before after
  breaks_heard (inl same) = inl same
  breaks_heard (inr begins) = inr (record {
    text = begins.text;
    right = (begins.right.0, as_heard begins.text begins.right.0 begins.right.1);
    part = begins.part;
  })

-- whether the talk goes on
pub goes_on : (kept line : List ℕ) (asked : Asked) (quit more : Bool) → asked ≡ asked_of line → line ≡ without_return kept → quit ≡ is_quit asked →
    more ≡ not quit → more ≡ not (quits kept)
goes_on kept line asked quit more is bytes tested same = same ∙ ap not (tested ∙ ap is_quit (is ∙ ap asked_of bytes))
