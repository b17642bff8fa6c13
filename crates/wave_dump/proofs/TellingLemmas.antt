-- What is told scene by scene is the dump of the run.
use Rattle.std.proofs.Common.{◌≡◌, ℕ, ◌+◌, List, [], ◌∷◌, ◌++◌, true, false, Some, refl, sym, ◌∙◌, ap, append-nil, append_assoc}
use Rattle.ternary.specs.declared.tern.Tern.{Tern}
use Rattle.settling.specs.Passing.{see_all, last_state}
use Rattle.wave_dump.specs.Comments.{comment}
use Rattle.wave_dump.specs.Dumps.{later, at_time, opening, passing_lines, moving, page_behind, dump_from}
use Rattle.wave_dump.specs.Laws.{DumpsAreTold}
use Rattle.wave_dump.specs.Scenes.{Wrote, Watched, Became, Passed}
use Rattle.wave_dump.specs.Values.{values_in, change_lines}
use Rattle.wave_dump.specs.Writing.{Sheet, with_text, begin, see_state, rest, finished, Telling, tell, tell_all}

-- a sheet during a step or a phase, with this time and these values shown, and with this text more
abbrev at : Sheet → ℕ → List (List Tern) → List ℕ → Sheet
at sheet time shown text =
    with_text (record sheet { is_open = true; page = record sheet.page { time = time; shown = Some shown } }) text

-- a text behind a text is both
at-at : (sheet : Sheet) (time one_time : ℕ) (shown one_shown : List (List Tern)) (text one_text : List ℕ) →
    at (at sheet one_time one_shown one_text) time shown text ≡ at sheet time shown (one_text ++ text)
at-at sheet time one_time shown one_shown text one_text =
    ap (λ due. record sheet { is_open = true; page = record sheet.page { time = time; shown = Some shown }; due = due })
    (append_assoc sheet.due one_text text)

-- the same sheet, closed
abbrev closed : Sheet → ℕ → List (List Tern) → List ℕ → Sheet
closed sheet time shown text = record (at sheet time shown text) { is_open = false }

-- the states that are passed through, seen one after the other from these values, and the rest behind them
seen_all : (sheet : Sheet) (time steps : ℕ) (state : List Tern) (text : List ℕ) (states : List (List Tern)) →
    let entries = sheet.page.entries in
    rest (see_all see_state (at sheet time (values_in state entries) text) states) steps
    ≡ closed sheet (later sheet.start (steps + 1)) (values_in (last_state state states) entries)
    (text ++ passing_lines entries (later time 1) (values_in state entries) states)
seen_all sheet time steps state text [] =
    ap (λ text. closed sheet (later sheet.start (steps + 1)) (values_in state sheet.page.entries) text) (sym (append-nil text))
seen_all sheet time steps state text (next ∷ states) =
    let entries = sheet.page.entries in
    let lines = at_time (later time 1) (change_lines 0 (values_in state entries) (values_in next entries)) in
    let more = passing_lines entries (later (later time 1) 1) (values_in next entries) states in
    ap (λ sheet. rest (see_all see_state sheet states) steps)
    (at-at sheet (later time 1) time (values_in next entries) (values_in state entries) lines text)
    ∙ (seen_all sheet (later time 1) steps next (text ++ lines) states
    ∙ ap (λ all. closed sheet (later sheet.start (steps + 1)) (values_in (last_state next states) entries) all) (append_assoc text lines more))

-- a step or a phase
phase : (sheet : Sheet) (steps : ℕ) (state : List Tern) (states : List (List Tern)) →
    rest (see_all see_state (begin sheet state) states) steps
    ≡ with_text (record sheet { page = page_behind sheet.page state steps states; start = sheet.page.time; is_open = false }) (moving sheet.page state states)
phase sheet steps state states =
    seen_all (record sheet { start = sheet.page.time }) sheet.page.time steps state (opening sheet.page sheet.page.shown (values_in state sheet.page.entries)) states

pub told : DumpsAreTold
told telling [] = refl
told telling (Wrote line ∷ scenes) =
    told (tell telling (Wrote line)) scenes
    ∙ append_assoc telling.sheet.due (comment line) (dump_from telling.sheet.page telling.state scenes telling.sheet.refused)
told telling (Watched entry ∷ scenes) = told (tell telling (Watched entry)) scenes
told telling (Became state ∷ scenes) = told (tell telling (Became state)) scenes
told telling (Passed steps states ∷ scenes) =
    let sheet = telling.sheet in
    let behind : Sheet =
    with_text (record sheet { page = page_behind sheet.page telling.state steps states; start = sheet.page.time; is_open = false }) (moving sheet.page telling.state states) in
    let after : Telling = record { state = last_state telling.state states; sheet = behind } in
    ap (λ sheet. finished (tell_all (record { state = last_state telling.state states; sheet = sheet }) scenes).sheet
    (tell_all (record { state = last_state telling.state states; sheet = sheet }) scenes).state) (phase sheet steps telling.state states)
    ∙ (told after scenes
    ∙ append_assoc sheet.due (moving sheet.page telling.state states)
    (dump_from (page_behind sheet.page telling.state steps states) (last_state telling.state states) scenes sheet.refused))
