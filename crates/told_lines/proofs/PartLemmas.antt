-- A part of the text of lines is some whole lines and a part of the next one: so if a text of several lines was sent in one piece, and a fault ended
-- it, a part of the lines was heard.
use Rattle.std.proofs.Common.{◌≡◌, ℕ, Bool, inl, inr, List, [], ◌∷◌, ◌++◌, length, Option, refl, sym, ap, ap₂, subst, ◌∙◌, append-nil}
use Rattle.std.specs.Prelude.{◌⊎◌, Result, Ok, Err, OnOk, OnErr}
use Rattle.std.specs.Io.KnownBytes.{append_known}
use Rattle.ports.specs.Sending.{Sends, WritesPart}
use Rattle.ports.proofs.SendingLemmas.{append_known-append}
use Rattle.told_lines.specs.Lines.{Told}
use Rattle.told_lines.specs.Hearing.{HearsPart, Hears}
use Rattle.told_lines.specs.Printing.{Page, print, PrintsPart, printed, text_printed}
use Rattle.told_lines.proofs.PrintingLemmas.{numbered-still, written-all}

-- what is sent of two texts is a prefix of the first one, or all of it and a prefix of the second one
abbrev EndsIn : List ℕ → List ℕ → List ℕ → List ℕ → Type 0
EndsIn first second sent left =
    ((more : List ℕ) × (first ≡ sent ++ more)) ⊎ ((more : List ℕ) × (sent ≡ first ++ more) × (second ≡ more ++ left))

-- so it is with a byte more before both
ends_later : (byte other : ℕ) (first second sent left : List ℕ) → byte ≡ other → EndsIn first second sent left → EndsIn (byte ∷ first) second (other ∷ sent) left
ends_later byte other first second sent left same (inl (more, is)) = inl (more, cc (same, is))
ends_later byte other first second sent left same (inr (more, is, rest)) = inr (more, cc (same, is), rest)

ends_in : (first second sent left : List ℕ) → first ++ second ≡ sent ++ left → EndsIn first second sent left
ends_in [] second sent left same = inr (sent, refl, same)
ends_in (byte ∷ first) second [] left same = inl (byte ∷ first, refl)
ends_in (byte ∷ first) second (other ∷ sent) left same =
    let head : byte ≡ other = cc same in
    let tail : first ++ second ≡ sent ++ left = cc same in
    ends_later byte other first second sent left head (ends_in first second sent left tail)

-- a part of two texts was written: a part of the first one, or all of it and a part of the second one
part_of_two : (old new : Option (List ℕ)) (first second left : List ℕ) (is : Sends old new (first ++ second) left) → EndsIn first second is.sent left →
    WritesPart old new first ⊎ WritesPart (append_known old first) new second
part_of_two old new first second left is (inl (more, here)) = inl (more, record { sent = is.sent; whole = here; grew = is.grew })
part_of_two old new first second left is (inr (more, all, rest)) =
    inr (left, record { sent = more; whole = rest; grew = is.grew ∙ ap (append_known old) all ∙ sym (append_known-append old first more) })

-- a part of one line was heard
part_here : (page after : Page) (told : Told) (others : List Told) → after.numbered ≡ page.numbered →
    WritesPart page.written after.written (printed page.numbered told) → HearsPart print PrintsPart page after (told ∷ others)
part_here page after told others same part = record { front = []; next = told; rest = others; split = refl; heard = record { same = same; written = part } }

-- a line was heard, and a part of those behind it
part_later : (page after : Page) (told : Told) (others : List Told) → HearsPart print PrintsPart (print page told) after others →
    HearsPart print PrintsPart page after (told ∷ others)
part_later page after told others is = record {
  front = told ∷ is.front;
  next = is.next;
  rest = is.rest;
  split = ap (λ (lines : List Told). told ∷ lines) is.split;
  heard = is.heard;
}

-- where two lines or more were told, a part of the first one was written, or all of it and a part of the others'
part_among : (page after : Page) (told : Told) (others : List Told) → after.numbered ≡ page.numbered →
    (WritesPart (append_known page.written (printed page.numbered told)) after.written (text_printed page.numbered others) →
    HearsPart print PrintsPart (print page told) after others) →
    WritesPart page.written after.written (printed page.numbered told)
    ⊎ WritesPart (append_known page.written (printed page.numbered told)) after.written (text_printed page.numbered others) →
    HearsPart print PrintsPart page after (told ∷ others)
part_among page after told others same later (inl part) = part_here page after told others same part
part_among page after told others same later (inr part) = part_later page after told others (later part)

-- a part of the text of one line or more was written: so a part of the lines was heard
pub part_heard : (page after : Page) (told : Told) (others : List Told) → after.numbered ≡ page.numbered →
    WritesPart page.written after.written (text_printed page.numbered (told ∷ others)) → HearsPart print PrintsPart page after (told ∷ others)
part_heard page after told [] same part =
    part_here page after told [] same (subst (WritesPart page.written after.written) (append-nil (printed page.numbered told)) part)
part_heard page after told (next ∷ others) same (left, is) =
    part_among page after told (next ∷ others) same (λ part. part_heard (print page told) after next others same part)
    (part_of_two page.written after.written (printed page.numbered told) (text_printed page.numbered (next ∷ others)) left is
    (ends_in (printed page.numbered told) (text_printed page.numbered (next ∷ others)) is.sent left is.whole))

-- a printer that writes so
abbrev page_of : Bool → Option (List ℕ) → Page
page_of numbered written = record { numbered = numbered; written = written }

-- lines whose text was sent in one piece were heard, or at a fault a part of them
pub sent_heard : {E : Type 0} (numbered : Bool) (before after : Option (List ℕ)) (lines : List Told) (text : List ℕ) (result : Result (Unit {0}) E) →
    text ≡ text_printed numbered lines → OnOk result (after ≡ append_known before text) → (length text ≡ 0 → result ≡ Ok tt) →
    OnErr result (WritesPart before after text) → Hears print PrintsPart (page_of numbered before) (page_of numbered after) lines result
sent_heard numbered before after lines text (Ok _) is ok empty part =
    ap₂ page_of (sym (numbered-still (page_of numbered before) lines))
    (ok ∙ ap (append_known before) is ∙ sym (written-all (page_of numbered before) lines))
sent_heard numbered before after [] text (Err fault) is ok empty part = absurd (cc (empty (ap (λ (bytes : List ℕ). length bytes) is)))
sent_heard numbered before after (told ∷ others) text (Err fault) is ok empty part =
    part_heard (page_of numbered before) (page_of numbered after) told others refl (subst (WritesPart before after) is part)
