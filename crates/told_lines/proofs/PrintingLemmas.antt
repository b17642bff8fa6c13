-- What a printer has written after lines: their text, and at a fault a part of it.
use Rattle.std.proofs.Common.{◌≡◌, ℕ, Bool, true, false, inl, inr, List, [], ◌∷◌, ◌++◌, Option, refl, sym, ap, subst, ◌∙◌, append_assoc, append-nil}
use Rattle.std.specs.Prelude.{Result, Ok, Err, OnErr}
use Rattle.std.specs.Io.KnownBytes.{append_known}
use Rattle.ports.specs.Sending.{Sends, WritesPart}
use Rattle.ports.proofs.SendingLemmas.{append_known-nil, append_known-append, sends_part}
use Rattle.printed_lines.specs.declared.faults.FaultPlace.{FaultPlace}
use Rattle.printed_lines.specs.declared.faults.FaultCode.{FaultCode}
use Rattle.told_lines.specs.Lines.{Line, Refused, Told, line_text, text_of}
use Rattle.told_lines.specs.Hearing.{hear_all, HearsPart, HearsFront, of_column}
use Rattle.told_lines.specs.Printing.{Page, print, PrintsPart, printed, text_printed}
use Rattle.told_lines.specs.Laws.{LinesArePrinted}

-- a part of a line that was sent is a part of the line that was told
pub prints_part : {E : Type 0} (old : Page) (told : Told) (written : Option (List ℕ)) (bytes : List ℕ) (result : Result (Unit {0}) E) →
    bytes ≡ printed old.numbered told → OnErr result (WritesPart old.written written bytes) →
    OnErr result (PrintsPart old told (record { numbered = old.numbered; written = written }))
prints_part old told written bytes (Ok _) is part = part
prints_part old told written bytes (Err fault) is part = record { same = refl; written = rw is at part }

-- lines leave it to the printer whether columns are numbered
pub numbered-still : (page : Page) (lines : List Told) → (hear_all print page lines).numbered ≡ page.numbered
numbered-still page [] = refl
numbered-still page (told ∷ lines) = numbered-still (print page told) lines

-- after lines their text was written
pub written-all : (page : Page) (lines : List Told) → (hear_all print page lines).written ≡ append_known page.written (text_printed page.numbered lines)
written-all page [] = sym (append_known-nil page.written)
written-all page (told ∷ lines) =
    written-all (print page told) lines
    ∙ append_known-append page.written (printed page.numbered told) (text_printed page.numbered lines)

-- the text of a front and of the rest
pub text_printed-append : (numbered : Bool) (front rest : List Told) →
    text_printed numbered (front ++ rest) ≡ text_printed numbered front ++ text_printed numbered rest
text_printed-append numbered [] rest = refl
text_printed-append numbered (told ∷ front) rest =
    ap (λ (text : List ℕ). printed numbered told ++ text) (text_printed-append numbered front rest)
    ∙ sym (append_assoc (printed numbered told) (text_printed numbered front) (text_printed numbered rest))

-- where a part of lines was heard, a part of their text was written
pub written-part : (page after : Page) (lines : List Told) → HearsPart print PrintsPart page after lines →
    WritesPart page.written after.written (text_printed page.numbered lines)
written-part page after lines is =
    let front = text_printed page.numbered is.front in
    let next = printed page.numbered is.next in
    let rest = text_printed page.numbered is.rest in
    let still = numbered-still page is.front in
    let part : WritesPart (append_known page.written front) after.written next =
    subst (λ (known : Option (List ℕ)). WritesPart known after.written next) (written-all page is.front)
    (subst (λ (numbered : Bool). WritesPart (hear_all print page is.front).written after.written (printed numbered is.next)) still is.heard.written) in
    let sent : Sends page.written (append_known page.written front) (text_printed page.numbered lines) (next ++ rest) = record {
      sent = front;
      whole = ap (text_printed page.numbered) is.split ∙ text_printed-append page.numbered is.front (is.next ∷ is.rest);
      grew = refl;
    } in
    sends_part page.written (append_known page.written front) after.written (text_printed page.numbered lines) next rest sent part

-- and where a prefix of them was heard, and perhaps a part of the next one
pub written-front : (page after : Page) (lines : List Told) → HearsFront print PrintsPart page after lines →
    WritesPart page.written after.written (text_printed page.numbered lines)
written-front page after lines (inl (left, is)) = (
  text_printed page.numbered left,
  record {
    sent = text_printed page.numbered is.done;
    whole = ap (text_printed page.numbered) is.split ∙ text_printed-append page.numbered is.done left;
    grew = ap (λ (now : Page). now.written) is.heard ∙ written-all page is.done;
  },
)
written-front page after lines (inr is) = written-part page after lines is

-- the text of lines and of others behind them
pub text_of-append : (lines more : List Line) → text_of (lines ++ more) ≡ text_of lines ++ text_of more
text_of-append [] more = refl
text_of-append (line ∷ lines) more =
    ap (λ (text : List ℕ). line_text line ++ text) (text_of-append lines more)
    ∙ sym (append_assoc (line_text line) (text_of lines) (text_of more))

-- the text of a column's lines without numbers
pub text-plain : (column : ℕ) (lines : List Line) → text_printed false (of_column column lines) ≡ text_of lines
text-plain column [] = refl
text-plain column (line ∷ lines) = ap (λ (text : List ℕ). line_text line ++ text) (text-plain column lines)

-- the line of a refusal is printed alike with the number of its column and without
pub refusal-printed : (numbered : Bool) (column : ℕ) (place : FaultPlace) (code : FaultCode) (name : List ℕ) (count : ℕ) →
    text_printed numbered (of_column column (Refused place code name count ∷ [])) ≡ line_text (Refused place code name count)
refusal-printed true column place code name count = append-nil (line_text (Refused place code name count))
refusal-printed false column place code name count = append-nil (line_text (Refused place code name count))

-- after a column's lines without numbers their text was written
pub plain-all : (page : Page) (column : ℕ) (lines : List Line) → page.numbered ≡ false →
    (hear_all print page (of_column column lines)).written ≡ append_known page.written (text_of lines)
plain-all page column lines plain =
    written-all page (of_column column lines)
    ∙ ap (λ (numbered : Bool). append_known page.written (text_printed numbered (of_column column lines))) plain
    ∙ ap (append_known page.written) (text-plain column lines)

-- and where a prefix of them was heard, and perhaps a part of the next one
pub plain-front : (page after : Page) (column : ℕ) (lines : List Line) → page.numbered ≡ false →
    HearsFront print PrintsPart page after (of_column column lines) → WritesPart page.written after.written (text_of lines)
plain-front page after column lines plain is =
    subst (WritesPart page.written after.written)
    (ap (λ (numbered : Bool). text_printed numbered (of_column column lines)) plain ∙ text-plain column lines)
    (written-front page after (of_column column lines) is)

-- so where a part of them was heard
pub plain-part : (page after : Page) (column : ℕ) (lines : List Line) → page.numbered ≡ false →
    HearsPart print PrintsPart page after (of_column column lines) → WritesPart page.written after.written (text_of lines)
plain-part page after column lines plain is = plain-front page after column lines plain (inr is)

-- so a printer writes lines
pub lines_printed : LinesArePrinted
lines_printed = record { all = written-all; plain = text-plain }
