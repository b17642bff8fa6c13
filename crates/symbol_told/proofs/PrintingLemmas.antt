-- What a printer has written after lines: their text, and at a fault a part of it.
use Rattle.std.proofs.Common.{◌≡◌, ℕ, ◌||◌, inl, inr, List, [], ◌∷◌, ◌++◌, Option, refl, sym, ap, subst, ◌∙◌, append_assoc}
use Rattle.std.specs.Prelude.{Result, Ok, Err, OnErr}
use Rattle.std.specs.List.{list_any}
use Rattle.std.specs.Io.KnownBytes.{append_known}
use Rattle.ports.specs.declared.ports.PortFault.{PortFault}
use Rattle.ports.specs.declared.ports.PortFault.TheVariants.{Failed, NoMemory}
use Rattle.ports.specs.Ports.{refusals_after, RefusedOnce}
use Rattle.ports.specs.Sending.{Sends, WritesPart}
use Rattle.ports.proofs.SendingLemmas.{append_known-nil, append_known-append, sends_part}
use Rattle.told_lines.specs.Hearing.{hear_all, HearsPart, HearsFront}
use Rattle.symbol_meaning.specs.Told.{SymbolTold, is_unmet, told_text, texts_told}
use Rattle.symbol_told.specs.Lines.{Telling}
use Rattle.symbol_told.specs.Printing.{Page, print, part_printed, PrintsPart, lines_told}
use Rattle.symbol_told.specs.Laws.{SymbolLinesArePrinted}
use Rattle.symbol_told.proofs.ValuationLemmas.{or_later, or_none}

-- a part of a line that was sent is a part of the line that was told
pub prints_part : {E : Type 0} (old new : Page) (line : SymbolTold) (result : Result (Unit {0}) E) → new.variables ≡ old.variables →
    OnErr result (WritesPart old.written new.written (told_text old.variables line)) → OnErr result (PrintsPart old line new)
prints_part old new line (Ok _) same part = part
prints_part old new line (Err fault) same part = record { same = same; written = part }

-- a sink's count of refused memory after a call, as one of who takes memory of its own too
pub refused_once : {T : Type 0} (before now : ℕ) (result : Result T PortFault) → now ≡ refusals_after before result → RefusedOnce before now result
refused_once before now (Ok _) is = is
refused_once before now (Err Failed) is = is
refused_once before now (Err NoMemory) is = inr is

pub unsent_once : (T : Type 0) (count : ℕ) → RefusedOnce {T = T} count count (Err NoMemory)
unsent_once T count = inl refl

-- lines leave the variables
pub variables-still : (page : Page) (lines : List Telling) → (hear_all print page lines).variables ≡ page.variables
variables-still page [] = refl
variables-still page (told ∷ lines) = variables-still (print page told) lines

-- after lines their text was written
pub written-all : (page : Page) (lines : List Telling) →
    (hear_all print page lines).written ≡ append_known page.written (texts_told page.variables (lines_told lines))
written-all page [] = sym (append_known-nil page.written)
written-all page (told ∷ lines) =
    written-all (print page told) lines
    ∙ append_known-append page.written (told_text page.variables told.line) (texts_told page.variables (lines_told lines))

-- and it is remembered whether an expectation among them isn't met
pub missed-all : (page : Page) (lines : List Telling) → (hear_all print page lines).missed ≡ (page.missed || list_any is_unmet (lines_told lines))
missed-all page [] = sym (or_none page.missed)
missed-all page (told ∷ lines) =
    missed-all (print page told) lines ∙ or_later page.missed (is_unmet told.line) (list_any is_unmet (lines_told lines))

-- the lines of a front and of the rest, and their text
pub lines_told-append : (front rest : List Telling) → lines_told (front ++ rest) ≡ lines_told front ++ lines_told rest
lines_told-append [] rest = refl
lines_told-append (told ∷ front) rest = ap (λ (lines : List SymbolTold). told.line ∷ lines) (lines_told-append front rest)

pub texts_told-append : (variables : List (List ℕ)) (front rest : List SymbolTold) →
    texts_told variables (front ++ rest) ≡ texts_told variables front ++ texts_told variables rest
texts_told-append variables [] rest = refl
texts_told-append variables (told ∷ front) rest =
    ap (λ (text : List ℕ). told_text variables told ++ text) (texts_told-append variables front rest)
    ∙ sym (append_assoc (told_text variables told) (texts_told variables front) (texts_told variables rest))

-- the text of lines that are told in two pieces
abbrev text_of : List (List ℕ) → List Telling → List ℕ
text_of variables lines = texts_told variables (lines_told lines)

text_of-append : (variables : List (List ℕ)) (front rest : List Telling) → text_of variables (front ++ rest) ≡ text_of variables front ++ text_of variables rest
text_of-append variables front rest =
    ap (texts_told variables) (lines_told-append front rest) ∙ texts_told-append variables (lines_told front) (lines_told rest)

-- where a part of lines was heard, a part of their text was written
pub written-part : (page after : Page) (lines : List Telling) → HearsPart print part_printed page after lines →
    WritesPart page.written after.written (texts_told page.variables (lines_told lines))
written-part page after lines is =
    let names = page.variables in
    let front = text_of names is.front in
    let next = told_text names is.next.line in
    let rest = text_of names is.rest in
    let still = variables-still page is.front in
    let part : WritesPart (append_known page.written front) after.written next =
    subst (λ (known : Option (List ℕ)). WritesPart known after.written next) (written-all page is.front)
    (subst (λ (own : List (List ℕ)). WritesPart (hear_all print page is.front).written after.written (told_text own is.next.line)) still is.heard.written) in
    let sent : Sends page.written (append_known page.written front) (text_of names lines) (next ++ rest) = record {
      sent = front;
      whole = ap (text_of names) is.split ∙ text_of-append names is.front (is.next ∷ is.rest);
      grew = refl;
    } in
    sends_part page.written (append_known page.written front) after.written (text_of names lines) next rest sent part

-- and where a prefix of them was heard, and perhaps a part of the next one
pub written-front : (page after : Page) (lines : List Telling) → HearsFront print part_printed page after lines →
    WritesPart page.written after.written (texts_told page.variables (lines_told lines))
written-front page after lines (inl (left, is)) = (
  text_of page.variables left,
  record {
    sent = text_of page.variables is.done;
    whole = ap (text_of page.variables) is.split ∙ text_of-append page.variables is.done left;
    grew = ap (λ (now : Page). now.written) is.heard ∙ written-all page is.done;
  },
)
written-front page after lines (inr is) = written-part page after lines is

-- so a printer writes lines
pub symbol_lines_printed : SymbolLinesArePrinted
symbol_lines_printed = record { written = written-all; missed = missed-all }
