-- What a writer has told, part by part.
use Rattle.std.proofs.Common.{◌≡◌, ℕ, ◌+◌, ◌<◌, Bool, true, false, List, [], ◌++◌, length, Option, Some, None, append_assoc, append-nil, refl, sym, ◌∙◌, ap, arith, subst, true≢false}
use Rattle.std.specs.Prelude.{All, Contains, IsSome, unwrap_or, slice_index_or, if◌then◌else◌}
use Rattle.std.specs.List.Sorted.{IsStrictlyIncreasing}
use Rattle.std.proofs.lemmas.List.{get_or-map, get_or_default, length-map}
use Rattle.settling.specs.Moved.{ListsChanges}
use Rattle.settling.specs.PlainStepping.{numbers_from}
use Rattle.settling.proofs.NumbersLemmas.{numbers-count, number_at}
use Rattle.ternary.specs.declared.tern.Tern.{Tern}
use Rattle.wave_dump.specs.Dumps.{Page, later, change_text, header, ending, closing}
use Rattle.wave_dump.specs.Entries.{ShownEntry, IsInside, entries_of, shown_of, no_entry, AreMarked, AreListed, MarksAll}
use Rattle.wave_dump.specs.Scenes.{EntryData}
use Rattle.wave_dump.specs.Values.{value_in, values_in, change_lines}
use Rattle.wave_dump.specs.Pens.{SinkSeen}
use Rattle.wave_dump.specs.Writing.{Sheet, DumpData, Shows, page_held, with_changes, open_in, pass, finished, refusal_lines}
use Rattle.wave_dump.proofs.EntryLemmas.{marked_changes}
use Rattle.wave_dump.proofs.HeaderLemmas.{header_taken}

-- the sheet of entries as they are held
abbrev pub sheet_held : SinkSeen → Bool → Bool → ℕ → ℕ → List ShownEntry → Option (List ℕ) → List ℕ → Sheet
sheet_held before is_open is_begun time start held refused due =
    record { before = before; page = page_held is_begun time held; start = start; is_open = is_open; refused = refused; due = due }

-- a sheet with values, by its parts
abbrev sheet_of : SinkSeen → Bool → ℕ → ℕ → List EntryData → List (List Tern) → Option (List ℕ) → List ℕ → Sheet
sheet_of before is_open time start entries shown refused due = record {
  before = before;
  page = record { entries = entries; time = time; shown = Some shown };
  start = start;
  is_open = is_open;
  refused = refused;
  due = due;
}

-- two of them are the same if their parts are
same_sheet : {before1 before2 : SinkSeen} {entries1 entries2 : List EntryData} {shown1 shown2 : List (List Tern)} {due1 due2 : List ℕ}
    (time start : ℕ) (is_open : Bool) (refused : Option (List ℕ)) → before1 ≡ before2 → entries1 ≡ entries2 → shown1 ≡ shown2 → due1 ≡ due2 →
    sheet_of before1 is_open time start entries1 shown1 refused due1 ≡ sheet_of before2 is_open time start entries2 shown2 refused due2
same_sheet time start is_open refused before entries shown due = rw before (rw entries (rw shown (rw due refl)))

-- what a call does to a writer is what it does to its sheet
pub same_dump : (sheet new : Sheet) (room faults refusals : ℕ) (old : DumpData) (after : Sheet → Sheet) →
    record { sheet = sheet; room = room; faults = faults; refusals = refusals } ≡ old → new ≡ after sheet →
    record { sheet = new; room = room; faults = faults; refusals = refusals } ≡ record old { sheet = after old.sheet }
same_dump sheet new room faults refusals old after view is =
    rw (← view) (ap (λ (sheet : Sheet). record { sheet = sheet; room = room; faults = faults; refusals = refusals }) is)

-- values were taken of entries that were lent, and those that changed are told
pub changes_held : (before after : SinkSeen) (is_open is_begun is_told : Bool) (time start : ℕ) (old lent fresh held : List ShownEntry)
    (refused : Option (List ℕ)) (was due : List ℕ) (given state : List Tern) → is_begun ≡ true → after ≡ before → lent ≡ old → held ≡ fresh →
    given ≡ state → entries_of fresh ≡ entries_of lent → shown_of fresh ≡ values_in given (entries_of lent) →
    due ≡ was ++ change_text is_told time (change_lines 0 (shown_of lent) (values_in given (entries_of lent))) →
    sheet_held after is_open is_begun time start held refused due ≡ with_changes (sheet_held before is_open is_begun time start old refused was) is_told state
changes_held before after is_open true is_told time start old lent fresh held refused was due given state begun kept same all there entries shown grew =
    ap (λ (held : List ShownEntry). sheet_held after is_open true time start held refused due) all
    ∙ (same_sheet time start is_open refused kept entries shown grew
    ∙ (ap (λ (held : List ShownEntry). with_changes (sheet_held before is_open true time start held refused was) is_told given) same
    ∙ ap (with_changes (sheet_held before is_open true time start old refused was) is_told) there))
changes_held before after is_open false is_told time start old lent fresh held refused was due given state begun kept same all there entries shown grew = absurd cc

-- the same at the next time: a state more was passed through
pub passed_held : (before after : SinkSeen) (is_open is_begun : Bool) (time next start : ℕ) (old lent fresh held : List ShownEntry)
    (refused : Option (List ℕ)) (was due : List ℕ) (given state : List Tern) → next ≡ later time 1 → is_begun ≡ true → after ≡ before → lent ≡ old →
    held ≡ fresh → given ≡ state → entries_of fresh ≡ entries_of lent → shown_of fresh ≡ values_in given (entries_of lent) →
    due ≡ was ++ change_text false next (change_lines 0 (shown_of lent) (values_in given (entries_of lent))) →
    sheet_held after is_open is_begun next start held refused due ≡ pass (sheet_held before is_open is_begun time start old refused was) state
passed_held before after is_open is_begun time next start old lent fresh held refused was due given state is begun kept same all there entries shown grew =
    changes_held before after is_open is_begun false next start old lent fresh held refused was due given state begun kept same all there entries shown grew
    ∙ ap (λ time. with_changes (sheet_held before is_open is_begun time start old refused was) false state) is

-- values were taken, and the header is told
pub opened_held : (before after : SinkSeen) (is_open is_begun : Bool) (time start : ℕ) (old fresh lent held : List ShownEntry) (refused : Option (List ℕ))
    (was due : List ℕ) (state : List Tern) → is_begun ≡ false → after ≡ before → held ≡ fresh → lent ≡ fresh → entries_of fresh ≡ entries_of old →
    shown_of fresh ≡ values_in state (entries_of old) → due ≡ was ++ header (entries_of lent) (shown_of lent) →
    sheet_held after is_open true time start held refused due ≡ open_in (sheet_held before is_open is_begun time start old refused was) state
opened_held before after is_open false time start old fresh lent held refused was due state begun kept all same entries shown grew =
    ap (λ (held : List ShownEntry). sheet_held after is_open true time start held refused due) all
    ∙ same_sheet time start is_open refused kept entries shown (grew ∙ ap (λ text. was ++ text) (header_taken state old fresh lent same entries shown))
opened_held before after is_open true time start old fresh lent held refused was due state begun kept all same entries shown grew = absurd cc

-- behind the header the values that changed are what is due
pub due_held : (is_begun : Bool) (before : SinkSeen) (is_open : Bool) (time start : ℕ) (held : List ShownEntry) (refused : Option (List ℕ)) (due : List ℕ)
    (state : List Tern) → is_begun ≡ true →
    with_changes (sheet_held before is_open is_begun time start held refused due) false state
    ≡ open_in (sheet_held before is_open is_begun time start held refused due) state
due_held true before is_open time start held refused due state begun = refl
due_held false before is_open time start held refused due state begun = absurd cc

-- the header was written exactly if values are shown
pub begun_if : (is_begun : Bool) (shown : List (List Tern)) → IsSome (if is_begun then Some shown else None) → is_begun ≡ true
begun_if true shown some = refl
begun_if false shown some = absurd (true≢false (sym some))

pub not_begun_if : (is_begun : Bool) (shown : List (List Tern)) → (if is_begun then Some shown else None) ≡ None → is_begun ≡ false
not_begun_if true shown none = absurd cc
not_begun_if false shown none = refl

some_same : {X : Type 0} {one two : X} → Some one ≡ Some two → one ≡ two
some_same {one = one} same = ap (λ (known : Option _). unwrap_or known one) same

numbers_at : (count number : ℕ) → number < count → slice_index_or (numbers_from 0 count) number number ≡ number
numbers_at count number inside =
    get_or_default (numbers_from 0 count) number number 0 (omega (arith, inside, numbers-count 0 count)) ∙ (number_at 0 count number inside ∙ (omega arith))

-- if all entries are marked, those that changed are
pub all_marked : (held : List ShownEntry) (state : List Tern) (marked : List ℕ) → marked ≡ numbers_from 0 (length held) → AreMarked held state marked
all_marked held state marked is = λ number inside differs.
    subst (λ marked. Contains marked number) (sym is)
    (number, omega (arith, inside, numbers-count 0 (length held)), numbers_at (length held) number inside)

-- at each place of all numbers it stands itself
pub number_here : (count at : ℕ) → at < count → slice_index_or (numbers_from 0 count) at 0 ≡ at
number_here count at inside = number_at 0 count at inside ∙ (omega arith)

-- numbers upwards are ascending
pub numbers_ascend : (count : ℕ) (marked : List ℕ) → marked ≡ numbers_from 0 count → IsStrictlyIncreasing marked
numbers_ascend count marked is = λ k inside.
    let here = number_at 0 count k (omega (arith, inside, ap length is, numbers-count 0 count)) in
    let next = number_at 0 count (k + 1) (omega (arith, inside, ap length is, numbers-count 0 count)) in
    omega (arith, here, next, ap (λ all. slice_index_or all k 0) is, ap (λ all. slice_index_or all (k + 1) 0) is)

-- values that are shown are those that are held, and the header was written
begun_shown : (is_begun : Bool) (shown values : List (List Tern)) → (if is_begun then Some shown else None) ≡ Some values →
    (is_begun ≡ true) × (shown ≡ values)
begun_shown true shown values some = (refl, some_same some)
begun_shown false shown values some = absurd cc

-- the entries that a move may have changed are marked, if the state before it is known
pub changes_marked : (sheet : Sheet) (is_begun : Bool) (held : List ShownEntry) (lists : List (List ℕ)) (nodes marked : List ℕ) (old new : List Tern) →
    entries_of held ≡ sheet.page.entries → (if is_begun then Some (shown_of held) else None) ≡ sheet.page.shown → sheet.is_open ≡ true →
    (is_begun ≡ true → AreListed (entries_of held) lists) → Shows sheet old → ListsChanges nodes old new → MarksAll lists nodes marked →
    AreMarked held new marked
changes_marked sheet is_begun held lists nodes marked old new all shown is_open listed shows changes marks =
    let entries = length-map held (λ (one : ShownEntry). one.entry) in
    let (begun, same) = begun_shown is_begun (shown_of held) (values_in old (entries_of held))
    (shown ∙ (shows.shown is_open ∙ ap (λ entries. Some (values_in old entries)) (sym all))) in
    let inside = subst (All (IsInside (length old))) (sym all) shows.inside in
    marked_changes held lists nodes marked old new (listed begun) entries
    (λ number within.
    ap (λ values. slice_index_or values number []) same
    ∙ get_or-map (value_in old) (entries_of held) number no_entry [] (omega (arith, within, entries)))
    (λ number node within has.
    let (k, below, is) = has in
    subst (λ node. node < length old) is (inside number no_entry (omega (arith, within, entries)) k node below))
    changes marks

closed : (page : Page) (state : List Tern) (refused : Option (List ℕ)) → ending page page.shown state ++ refusal_lines refused ≡ closing page state refused
closed page state None = append-nil (ending page page.shown state)
closed page state (Some refusal) = refl

-- the end of a run, and then the line of the refusal, if there is one
pub ended : (sheet : Sheet) (state : List Tern) (kept : Option (List ℕ)) (mid new : List ℕ) → mid ≡ sheet.due ++ ending sheet.page sheet.page.shown state →
    kept ≡ sheet.refused → new ≡ mid ++ refusal_lines kept → new ≡ finished sheet state
ended sheet state kept mid new is same grew =
    let text = ending sheet.page sheet.page.shown state in
    grew
    ∙ (ap (λ mid. mid ++ refusal_lines kept) is
    ∙ (ap (λ kept. (sheet.due ++ text) ++ refusal_lines kept) same
    ∙ (append_assoc sheet.due text (refusal_lines sheet.refused) ∙ ap (λ text. sheet.due ++ text) (closed sheet.page state sheet.refused))))
