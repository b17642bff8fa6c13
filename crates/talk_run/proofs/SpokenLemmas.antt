-- What was said after lines: their text, and at a fault a part of it.
use Rattle.std.proofs.Common.{◌≡◌, ℕ, inl, inr, Bool, false, List, [], ◌∷◌, ◌++◌, Option, None, Some, Result, Ok, Err, refl, sym, ap, subst, ◌∙◌, append_assoc, append-nil}
use Rattle.std.specs.Prelude.{option_map, OnOk, OnErr}
use Rattle.talk_port.specs.Talks.{Turn, TalkData, SaysPart, said_next}
use Rattle.told_lines.specs.Lines.{Line, Told, line_text, text_of}
use Rattle.told_lines.specs.Hearing.{hear_all, HearsPart, of_column}
use Rattle.told_lines.specs.Printing.{text_printed}
use Rattle.told_lines.proofs.PrintingLemmas.{text_printed-append, text-plain}
use Rattle.talk_run.specs.Telling.{Spoken, speak, SpeaksPart, Speaks, Tries}

-- nothing is said, and then one piece behind another
said_next-nil : (talk : TalkData) → said_next [] talk ≡ talk
said_next-nil talk = over talk.opening talk.turns talk.ended where
  over : (opening : List ℕ) (turns : List Turn) (ended : Bool) →
      said_next [] (record { opening = opening; turns = turns; ended = ended }) ≡ record { opening = opening; turns = turns; ended = ended }
  over opening [] ended = ap (λ (all : List ℕ). record { opening = all; turns = []; ended = ended }) (append-nil opening)
  over opening (turn ∷ turns) ended =
      ap (λ (all : List ℕ). record { opening = opening; turns = record { heard = turn.heard; said = all } ∷ turns; ended = ended }) (append-nil turn.said)

said_next-append : (one two : List ℕ) (talk : TalkData) → said_next two (said_next one talk) ≡ said_next (one ++ two) talk
said_next-append one two talk = over talk.opening talk.turns talk.ended where
  over : (opening : List ℕ) (turns : List Turn) (ended : Bool) →
      said_next two (said_next one (record { opening = opening; turns = turns; ended = ended }))
      ≡ said_next (one ++ two) (record { opening = opening; turns = turns; ended = ended })
  over opening [] ended = ap (λ (all : List ℕ). record { opening = all; turns = []; ended = ended }) (append_assoc opening one two)
  over opening (turn ∷ turns) ended =
      ap (λ (all : List ℕ). record { opening = opening; turns = record { heard = turn.heard; said = all } ∷ turns; ended = ended })
      (append_assoc turn.said one two)

-- the same, if the talk is told
pub said-nil : (talk : Option TalkData) → talk ≡ option_map (said_next []) talk
said-nil None = refl
said-nil (Some talk) = ap Some (sym (said_next-nil talk))

pub said-append : (one two : List ℕ) (talk : Option TalkData) →
    option_map (said_next two) (option_map (said_next one) talk) ≡ option_map (said_next (one ++ two)) talk
said-append one two None = refl
said-append one two (Some talk) = ap Some (said_next-append one two talk)

-- after lines their text was said
said-all : (spoken : Spoken) (lines : List Told) →
    (hear_all speak spoken lines).talk ≡ option_map (said_next (text_printed false lines)) spoken.talk
said-all spoken [] = said-nil spoken.talk
said-all spoken (told ∷ lines) =
    said-all (speak spoken told) lines ∙ said-append (line_text told.line) (text_printed false lines) spoken.talk

pub said-lines : (spoken : Spoken) (lines : List Line) →
    (hear_all speak spoken (of_column 0 lines)).talk ≡ option_map (said_next (text_of lines)) spoken.talk
said-lines spoken lines =
    said-all spoken (of_column 0 lines) ∙ ap (λ (text : List ℕ). option_map (said_next text) spoken.talk) (text-plain 0 lines)

-- saying lines hears nothing
pub unheard-all : (spoken : Spoken) (lines : List Told) → (hear_all speak spoken lines).unheard ≡ spoken.unheard
unheard-all spoken [] = refl
unheard-all spoken (told ∷ lines) = unheard-all (speak spoken told) lines

-- if a part of lines was heard, a part of their text was said
pub said-part : (before after : Spoken) (lines : List Line) → HearsPart speak SpeaksPart before after (of_column 0 lines) →
    SaysPart before.talk after.talk (text_of lines)
said-part before after lines is =
    let front = text_printed false is.front in
    let rest = text_printed false is.rest in
    let part = is.heard.said in
    record {
      said = front ++ part.said;
      left = part.left ++ rest;
      whole = sym (text-plain 0 lines) ∙ ap (text_printed false) is.split ∙ text_printed-append false is.front (is.next ∷ is.rest)
          ∙ ap (λ (text : List ℕ). front ++ (text ++ rest)) part.whole ∙ ap (λ (text : List ℕ). front ++ text) (append_assoc part.said part.left rest)
          ∙ sym (append_assoc front part.said (part.left ++ rest));
      grew = part.grew ∙ ap (option_map (said_next part.said)) (said-all before is.front) ∙ said-append front part.said before.talk;
    }

pub unheard-part : (before after : Spoken) (lines : List Told) → HearsPart speak SpeaksPart before after lines → after.unheard ≡ before.unheard
unheard-part before after lines is = is.heard.unheard ∙ unheard-all before is.front

-- a line whose text was put into empty room and said is told, and one of which a part was said in part
module _ (talk after : Option TalkData) (unheard now : ℕ) (told : Told) (room bytes : List ℕ) (empty : room ≡ []) (put : bytes ≡ room ++ line_text told.line)
    (still : now ≡ unheard) where
  is_text : bytes ≡ line_text told.line
  is_text = put ∙ ap (λ (front : List ℕ). front ++ line_text told.line) empty

  pub speaks_ok : {E : Type 0} (result : Result (Unit {0}) E) → OnOk result (after ≡ option_map (said_next bytes) talk) →
      OnOk result (record { talk = after; unheard = now } ≡ speak (record { talk = talk; unheard = unheard }) told)
  speaks_ok (Ok _) said = rw (said ∙ ap (λ (text : List ℕ). option_map (said_next text) talk) is_text) (rw still refl)
  speaks_ok (Err fault) said = tt

  pub speaks_part : {E : Type 0} (result : Result (Unit {0}) E) → OnErr result (SaysPart talk after bytes) →
      OnErr result (SpeaksPart (record { talk = talk; unheard = unheard }) told (record { talk = after; unheard = now }))
  speaks_part (Ok _) part = tt
  speaks_part (Err fault) part = record { said = subst (SaysPart talk after) is_text part; unheard = still }

-- and so its text was said, or a part of it, and no line was heard
pub told_tries : {E : Type 0} (before mid after : Spoken) (told : Told) (result : Result (Unit {0}) E) → mid ≡ before →
    OnOk result (after ≡ speak mid told) → OnErr result (SpeaksPart mid told after) → Tries (line_text told.line) before.talk after.talk result
told_tries before mid after told (Ok _) same said part =
    ap (λ (spoken : Spoken). spoken.talk) said ∙ ap (λ (spoken : Spoken). option_map (said_next (line_text told.line)) spoken.talk) same
told_tries before mid after told (Err fault) same said part =
    inr (subst (λ (spoken : Spoken). SaysPart spoken.talk after.talk (line_text told.line)) same part.said)

pub told_unheard : {E : Type 0} (before mid after : Spoken) (told : Told) (result : Result (Unit {0}) E) → mid ≡ before →
    OnOk result (after ≡ speak mid told) → OnErr result (SpeaksPart mid told after) → after.unheard ≡ before.unheard
told_unheard before mid after told (Ok _) same said part =
    ap (λ (spoken : Spoken). spoken.unheard) said ∙ ap (λ (spoken : Spoken). spoken.unheard) same
told_unheard before mid after told (Err fault) same said part = part.unheard ∙ ap (λ (spoken : Spoken). spoken.unheard) same

-- a text that was said, or a part of it
pub says_tries : {E : Type 0} (text wanted : List ℕ) (before after : Option TalkData) (result : Result (Unit {0}) E) → text ≡ wanted →
    OnOk result (after ≡ option_map (said_next text) before) → OnErr result (SaysPart before after text) → Tries wanted before after result
says_tries text wanted before after (Ok _) is said part = said ∙ ap (λ (bytes : List ℕ). option_map (said_next bytes) before) is
says_tries text wanted before after (Err fault) is said part = inr (subst (SaysPart before after) is part)

-- if it is right, a right text was said
pub tries_right : {E : Type 0} (IsRight : List ℕ → Type 0) (text : List ℕ) (before after : Option TalkData) (result : Result (Unit {0}) E) →
    IsRight text → Tries text before after result → Speaks IsRight IsRight before after result
tries_right IsRight text before after (Ok _) right tries = record { text = text; right = right; said = tries }
tries_right IsRight text before after (Err fault) right (inl same) = inl same
tries_right IsRight text before after (Err fault) right (inr part) = inr (record { text = text; right = right; part = part })
