-- What a line that was obeyed says, by what it came to.
use Rattle.std.proofs.Common.{◌≡◌, ℕ, ◌⊎◌, inl, inr, List, [], ◌++◌, Option, None, Some, Result, Ok, Err, refl, sym, ap, subst, ◌∙◌, append-nil}
use Rattle.std.specs.Prelude.{option_map}
use Rattle.group_text.specs.Texts.{GroupTextData}
use Rattle.netlist.specs.Circuits.{CircuitData}
use Rattle.circuit_texts.specs.declared.texts.BuildFault.{BuildFault}
use Rattle.circuit_texts.specs.Sizes.{TellsRefused}
use Rattle.talk_port.specs.Talks.{TalkData, SaysPart, said_next}
use Rattle.told_lines.specs.Lines.{Line, text_of}
use Rattle.told_lines.specs.Hearing.{of_column}
use Rattle.printed_lines.specs.declared.faults.FaultPlace.TheVariants.{Heard}
use Rattle.printed_lines.specs.declared.faults.FaultCode.{FaultCode}
use Rattle.session_meaning.specs.Sessions.{SessionData}
use Rattle.session_meaning.specs.Outcomes.{Keeps}
use Rattle.run_ends.specs.declared.stop.Stop.{Stop}
use Rattle.run_ends.specs.Causes.{Cause, plain_cause, size_cause, cause_line}
use Rattle.script_meaning.specs.declared.turn.Turn.{Turn}
use Rattle.script_meaning.specs.declared.turn.Turn.TheVariants.{Accepted, Refused, TooLarge}
use Rattle.script_meaning.specs.Runs.{plain_reading, ends, passes, obeys, refuses, IsRefused, too_large, at_end, refused_at, after_command}
use Rattle.script_meaning.specs.Turns.{TakesTurn}
use Rattle.talk_run.specs.Answers.{TalkMind, mind_of, IsObeyed}
use Rattle.talk_run.specs.Telling.{Spoken, speak, SpeaksPart, Says, Begins, Speaks, Tries}
use Rattle.talk_run.proofs.SpokenLemmas.{said-nil, said-lines, said-part, unheard-all, unheard-part}

-- a text with nothing behind it
text-alone : (lines : List Line) → text_of (lines ++ []) ++ [] ≡ text_of lines
text-alone lines = append-nil (text_of (lines ++ [])) ∙ ap text_of (append-nil lines)

module _ (number : ℕ) (line : List ℕ) (old new : SessionData) (before mid : Spoken) (asked told : List GroupTextData) where
  -- what one line came to
  abbrev pub Took : Result Turn Stop → Type 0
  Took result = TakesTurn speak SpeaksPart plain_reading None (number, line) old new before mid asked told result

  -- what an answer from here may be, with these data at its end and with any
  abbrev pub IsSaid : List ℕ → Type 0
  IsSaid text = IsObeyed (mind_of old number asked) line text (mind_of new number told)

  abbrev pub MayBeSaid : List ℕ → Type 0
  MayBeSaid text = (end : TalkMind) × IsObeyed (mind_of old number asked) line text end

  -- nothing changes
  kept : Keeps old new before mid asked told → mind_of new number told ≡ mind_of old number (asked ++ [])
  kept keeps =
      ap (λ (held : SessionData). mind_of held number told) keeps.same
      ∙ ap (mind_of old number) (keeps.unasked ∙ sym (append-nil asked))

  -- the line was accepted
  followed : Took (Ok Accepted) → Says IsSaid before.talk mid.talk
  followed (inl idle) = record {
    text = [];
    right = record {
      outcome = at_end old;
      runs = passes old (number, line) [] (at_end old) idle.idle (ends old);
      said = refl;
      becomes = kept idle.keeps;
    };
    said = ap (λ (spoken : Spoken). spoken.talk) idle.keeps.unheard ∙ said-nil before.talk;
  }
  followed (inr follows) =
      let did = follows.accepts in
      record {
        text = text_of (did.lines ++ []) ++ [];
        right = record {
          outcome = after_command did.lines did.texts (at_end new);
          runs = obeys old new (number, line) [] follows.command did.lines did.texts (at_end new) follows.asks did.performs (ends new);
          said = refl;
          becomes = ap (mind_of new number) (did.analysed ∙ ap (λ (texts : List GroupTextData). asked ++ texts) (sym (append-nil did.texts)));
        };
        said = ap (λ (spoken : Spoken). spoken.talk) did.heard ∙ said-lines before did.lines
            ∙ ap (λ (text : List ℕ). option_map (said_next text) before.talk) (sym (text-alone did.lines));
      }

  pub accepted_said : (turn : Turn) → turn ≡ Accepted → Took (Ok turn) → Says IsSaid before.talk mid.talk
  accepted_said turn is took = followed (subst (λ (other : Turn). Took (Ok other)) is took)

  -- it was refused for a cause, and the line of its refusal was said, or a part of that
  caused_said : {E : Type 0} (after : Option TalkData) (result : Result (Unit {0}) E) (cause : Cause) →
      IsRefused plain_reading None old (number, line) cause → Keeps old new before mid asked told →
      Tries (cause_line (Heard number) cause) mid.talk after result → Speaks IsSaid MayBeSaid before.talk after result
  caused_said after (Ok _) cause is keeps tries = record {
    text = cause_line (Heard number) cause;
    right = record {
      outcome = refused_at old number cause;
      runs = refuses old (number, line) [] cause is;
      said = refl;
      becomes = kept keeps;
    };
    said = tries ∙ ap (λ (spoken : Spoken). option_map (said_next (cause_line (Heard number) cause)) spoken.talk) keeps.unheard;
  }
  caused_said after (Err fault) cause is keeps (inl same) = inl (same ∙ ap (λ (spoken : Spoken). spoken.talk) keeps.unheard)
  caused_said after (Err fault) cause is keeps (inr part) = inr (record {
    text = cause_line (Heard number) cause;
    right = (
      _,
      record {
        outcome = refused_at old number cause;
        runs = refuses old (number, line) [] cause is;
        said = refl;
        becomes = refl;
      },
    );
    part = subst (λ (spoken : Spoken). SaysPart spoken.talk after (cause_line (Heard number) cause)) keeps.unheard part;
  })

  pub refused_said : {E : Type 0} (after : Option TalkData) (result : Result (Unit {0}) E) (turn : Turn) (code : FaultCode) → turn ≡ Refused code →
      Took (Ok turn) → Tries (cause_line (Heard number) (plain_cause code)) mid.talk after result → Speaks IsSaid MayBeSaid before.talk after result
  refused_said after result turn code is took tries =
      let refused : Took (Ok (Refused code)) = subst (λ (other : Turn). Took (Ok other)) is took in
      caused_said after result (plain_cause code) refused.0 refused.1 tries

  -- since a group is too large: the first such one is told of the present circuit
  module _ (turn : Turn) (size : BuildFault) (is : turn ≡ TooLarge size) (took : Took (Ok turn)) (circuit : CircuitData) (present : circuit ≡ new.circuit) where
    outgrown : Took (Ok (TooLarge size))
    outgrown = subst (λ (other : Turn). Took (Ok other)) is took

    unchanged : circuit ≡ old.circuit
    unchanged = present ∙ ap (λ (held : SessionData). held.circuit) outgrown.refuses.keeps.same

    pub large_told : (large : ℕ) × TellsRefused large circuit.graph size
    large_told = (old.large, subst (λ (one : CircuitData). TellsRefused old.large one.graph size) (sym unchanged) outgrown.refuses.first)

    pub large_said : {E : Type 0} (after : Option TalkData) (result : Result (Unit {0}) E) →
        (cause : Cause) × (size_cause circuit size ≡ Some cause) × Tries (cause_line (Heard number) cause) mid.talk after result →
        Speaks IsSaid MayBeSaid before.talk after result
    large_said after result (cause, caused, tries) =
        let refuses = outgrown.refuses in
        caused_said after result cause
        (too_large outgrown.command size outgrown.asks refuses.allowed refuses.building refuses.first
        (ap (λ (one : CircuitData). size_cause one size) (sym unchanged) ∙ caused))
        refuses.keeps tries

  -- it was stopped
  pub stopped_said : (stop : Stop) → Took (Err stop) → (mid.talk ≡ before.talk) ⊎ Begins MayBeSaid before.talk mid.talk
  stopped_said stop (inl same) = inl (ap (λ (spoken : Spoken). spoken.talk) same)
  stopped_said stop (inr starts) =
      let did = starts.begins in
      inr (record {
        text = text_of (did.lines ++ []) ++ [];
        right = (
          _,
          record {
            outcome = after_command did.lines did.texts (at_end did.end);
            runs = obeys old did.end (number, line) [] starts.command did.lines did.texts (at_end did.end) starts.asks did.performs (ends did.end);
            said = refl;
            becomes = refl;
          },
        );
        part = subst (SaysPart before.talk mid.talk) (sym (text-alone did.lines)) (said-part before mid did.lines did.heard);
      })

  -- whatever it came to, no line was heard
  pub turn_unheard : (result : Result Turn Stop) → Took result → mid.unheard ≡ before.unheard
  turn_unheard (Ok Accepted) (inl idle) = ap (λ (spoken : Spoken). spoken.unheard) idle.keeps.unheard
  turn_unheard (Ok Accepted) (inr follows) =
      ap (λ (spoken : Spoken). spoken.unheard) follows.accepts.heard ∙ unheard-all before (of_column 0 follows.accepts.lines)
  turn_unheard (Ok (Refused code)) (is, keeps) = ap (λ (spoken : Spoken). spoken.unheard) keeps.unheard
  turn_unheard (Ok (TooLarge fault)) outgrows = ap (λ (spoken : Spoken). spoken.unheard) outgrows.refuses.keeps.unheard
  turn_unheard (Err stop) (inl same) = ap (λ (spoken : Spoken). spoken.unheard) same
  turn_unheard (Err stop) (inr starts) = unheard-part before mid (of_column 0 starts.begins.lines) starts.begins.heard
