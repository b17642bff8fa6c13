-- Scenes that are told one after the other: the text that is due grows by them, the sink as it was given stays, and so does the line of a refusal.
use Rattle.std.proofs.Common.{◌≡◌, ◌⊎◌, ℕ, inl, inr, true≢false, Bool, true, false, List, [], ◌∷◌, ◌++◌, map, length, drop, get_or, ◌<◌, ◌≤◌, ◌+◌, Option, refl, sym, ap, subst, ◌∙◌, append_assoc, append-nil}
use Rattle.std.specs.Prelude.{if◌then◌else◌, unwrap_or}
use Rattle.std.proofs.lemmas.List.{drop_all, drop_more}
use Rattle.ternary.specs.declared.tern.Tern.{Tern}
use Rattle.settling.specs.Passing.{see_all}
use Rattle.settling.specs.Passes.{Pass, state_behind, see_pass, see_passes, last_behind}
use Rattle.told_lines.specs.Lines.{Line, Wave, Refused, Told, line_text}
use Rattle.told_lines.specs.Hearing.{hear_all, HearsFront, HearsPart as HearsLines, of_column}
use Rattle.told_lines.proofs.HearingLemmas.{hear_all-append}
use Rattle.wave_dump.specs.Comments.{comment}
use Rattle.wave_dump.specs.Dumps.{dump_of, later, change_text, opening}
use Rattle.wave_dump.specs.Laws.{DumpsAreTold}
use Rattle.wave_dump.specs.Pens.{SinkSeen}
use Rattle.wave_dump.specs.Scenes.{EntryData, Scene, Wrote, Watched, Became, Passed}
use Rattle.wave_dump.specs.Values.{values_in, change_lines}
use Rattle.wave_dump.specs.Writing.{Sheet, first_sheet, hear, hear_line, HearsPart, watch, begin, pass, see_state, rest, finished, without_end, Telling, tell, tell_all}
use Rattle.session_meaning.specs.Sessions.{SessionData}
use Rattle.dump_run.specs.Dumped.{comments, entry_of, passing}
use Rattle.dump_run.specs.Turns.{has_begun, told_in, watched_in}

-- ---- one after the other

pub tell_all-append : (telling : Telling) (front back : List Scene) → tell_all telling (front ++ back) ≡ tell_all (tell_all telling front) back
tell_all-append telling [] back = refl
tell_all-append telling (scene ∷ front) back = tell_all-append (tell telling scene) front back

-- what a command tells, part by part, and the state behind it
pub parts_told : (telling first second third : Telling) (words moves lines : List Scene) (state : List Tern) → tell_all telling words ≡ first →
    tell_all first moves ≡ second → tell_all second lines ≡ third →
    tell_all telling (words ++ (moves ++ (lines ++ Became state ∷ []))) ≡ told_in state third.sheet
parts_told telling first second third words moves lines state one two three =
    tell_all-append telling words (moves ++ (lines ++ Became state ∷ []))
    ∙ (ap (λ (t : Telling). tell_all t (moves ++ (lines ++ Became state ∷ []))) one
    ∙ (tell_all-append first moves (lines ++ Became state ∷ [])
    ∙ (ap (λ (t : Telling). tell_all t (lines ++ Became state ∷ [])) two
    ∙ (tell_all-append second lines (Became state ∷ [])
    ∙ ap (λ (t : Telling). tell_all t (Became state ∷ [])) three))))

-- ---- words

tell_words : (state : List Tern) (sheet : Sheet) (entries : List EntryData) →
    tell_all (told_in state sheet) (map Watched entries)
    ≡ told_in state (record sheet { page = record sheet.page { entries = sheet.page.entries ++ entries } })
tell_words state sheet [] =
    ap (λ (all : List EntryData). told_in state (record sheet { page = record sheet.page { entries = all } })) (sym (append-nil sheet.page.entries))
tell_words state sheet (entry ∷ entries) =
    tell_words state (watch sheet entry) entries
    ∙ ap (λ (all : List EntryData). told_in state (record sheet { page = record sheet.page { entries = all } }))
    (append_assoc sheet.page.entries (entry ∷ []) entries)

-- the words of a `watch`, by the sheet behind them
pub tell_watched : (session : SessionData) (names : List (List ℕ)) (sheet : Sheet) →
    tell_all (told_in session.state sheet) (map Watched (map (entry_of session.circuit session.vectors) names))
    ≡ told_in session.state (watched_in session names sheet)
tell_watched session names sheet =
    let told = tell_words session.state sheet (map (entry_of session.circuit session.vectors) names) in
    told ∙ ap (told_in session.state) (sym (ap (λ (t : Telling). t.sheet) told))

-- and what that is
pub watched_sheet : (session : SessionData) (names : List (List ℕ)) (sheet : Sheet) →
    watched_in session names sheet
    ≡ record sheet { page = record sheet.page { entries = sheet.page.entries ++ map (entry_of session.circuit session.vectors) names } }
watched_sheet session names sheet =
    ap (λ (t : Telling). t.sheet) (tell_words session.state sheet (map (entry_of session.circuit session.vectors) names))

-- from the next of the words on, once one was watched
pub next_watched : (session : SessionData) (names : List (List ℕ)) (place : ℕ) (name : List ℕ) (before after whole : Sheet) → place < length names →
    name ≡ get_or names place name → watched_in session (drop place names) before ≡ whole →
    after ≡ watch before (entry_of session.circuit session.vectors name) → watched_in session (drop (place + 1) names) after ≡ whole
next_watched session names place name before after whole inside is same watched =
    let next : drop place names ≡ name ∷ drop (place + 1) names =
    drop_more names place name inside ∙ ap (λ (one : List ℕ). one ∷ drop (place + 1) names) (sym is) in
    ap (watched_in session (drop (place + 1) names)) watched
    ∙ (sym (ap (λ (all : List (List ℕ)). watched_in session all before) next) ∙ same)

-- behind the last of them all were
pub all_watched : (session : SessionData) (names : List (List ℕ)) (place : ℕ) (now whole : Sheet) → length names ≤ place →
    watched_in session (drop place names) now ≡ whole → now ≡ whole
all_watched session names place now whole past same =
    sym (ap (λ (all : List (List ℕ)). watched_in session all now) (drop_all place names past)) ∙ same

-- ---- steps and phases

pub tell_passing : (state : List Tern) (sheet : Sheet) (passes : List Pass) →
    tell_all (told_in state sheet) (passing passes) ≡ told_in (last_behind state passes) (see_passes begin see_state rest sheet passes)
tell_passing state sheet [] = refl
tell_passing state sheet (pass ∷ passes) = tell_passing (state_behind pass) (see_pass begin see_state rest sheet pass) passes

-- ---- lines

-- the line is that of a refusal
abbrev pub is_refusal : Line → Bool
is_refusal (Refused place code name count) = true
is_refusal line = false

-- none of the lines is
abbrev pub AreTold : List Line → Type 0
AreTold [] = Unit {0}
AreTold (line ∷ lines) = (is_refusal line ≡ false) × AreTold lines

pub tell_comments : (state : List Tern) (sheet : Sheet) (lines : List Line) → AreTold lines →
    tell_all (told_in state sheet) (comments lines) ≡ told_in state (hear_all hear sheet (of_column 0 lines))
tell_comments state sheet [] told = refl
tell_comments state sheet (Wave n k mark values ∷ lines) told = tell_comments state sheet lines told.1
tell_comments state sheet (Refused place code name count ∷ lines) told = absurd (true≢false told.0)
tell_comments state sheet (line ∷ lines) told = tell_comments state (hear_line sheet line) lines told.1

-- ---- what is due

-- the text that is due has grown, or stays, and the sink as it was given stays
pub record Adds (old new : Sheet) : Type 0 where
  pub sink : new.before ≡ old.before
  pub more : List ℕ
  pub due : new.due ≡ old.due ++ more

pub adds_none : (sheet : Sheet) → Adds sheet sheet
adds_none sheet = record { sink = refl; more = []; due = sym (append-nil sheet.due) }

pub adds_both : (old mid new : Sheet) → Adds old mid → Adds mid new → Adds old new
adds_both old mid new first second = record {
  sink = second.sink ∙ first.sink;
  more = first.more ++ second.more;
  due = second.due ∙ (ap (λ (due : List ℕ). due ++ second.more) first.due ∙ append_assoc old.due first.more second.more);
}

-- by a state that is seen
see-adds : (sheet : Sheet) (state : List Tern) → Adds sheet (see_state sheet state)
see-adds sheet state = by sheet.is_open
  where
    by : (stands : Bool) → Adds sheet (if stands then pass sheet state else sheet)
    by true = record {
      sink = refl;
      more = change_text false (later sheet.page.time 1) (change_lines 0 (unwrap_or sheet.page.shown []) (values_in state sheet.page.entries));
      due = refl;
    }
    by false = adds_none sheet

see_all-adds : (sheet : Sheet) (states : List (List Tern)) → Adds sheet (see_all see_state sheet states)
see_all-adds sheet [] = adds_none sheet
see_all-adds sheet (state ∷ states) =
    adds_both sheet (see_state sheet state) (see_all see_state (see_state sheet state) states) (see-adds sheet state)
    (see_all-adds (see_state sheet state) states)

see_pass-adds : (sheet : Sheet) (pass : Pass) → Adds sheet (see_pass begin see_state rest sheet pass)
see_pass-adds sheet pass =
    let seen = see_all-adds (begin sheet pass.before) pass.states in
    let first : Adds sheet (begin sheet pass.before) = record {
      sink = refl;
      more = opening sheet.page sheet.page.shown (values_in pass.before sheet.page.entries);
      due = refl;
    } in
    let both = adds_both sheet (begin sheet pass.before) (see_all see_state (begin sheet pass.before) pass.states) first seen in
    record { sink = both.sink; more = both.more; due = both.due }

-- by a scene
tell-adds : (telling : Telling) (scene : Scene) → Adds telling.sheet (tell telling scene).sheet
tell-adds telling (Wrote line) = record { sink = refl; more = comment line; due = refl }
tell-adds telling (Watched entry) = record { sink = refl; more = []; due = sym (append-nil telling.sheet.due) }
tell-adds telling (Became state) = adds_none telling.sheet
tell-adds telling (Passed steps states) =
    see_pass-adds telling.sheet (record { before = telling.state; states = states; steps = steps })

pub tell_all-adds : (telling : Telling) (scenes : List Scene) → Adds telling.sheet (tell_all telling scenes).sheet
tell_all-adds telling [] = adds_none telling.sheet
tell_all-adds telling (scene ∷ scenes) =
    adds_both telling.sheet (tell telling scene).sheet (tell_all (tell telling scene) scenes).sheet (tell-adds telling scene)
    (tell_all-adds (tell telling scene) scenes)

-- what was told of all is by another name
pub told-adds : (state other : List Tern) (before after : Sheet) (scenes : List Scene) →
    tell_all (told_in state before) scenes ≡ told_in other after → Adds before after
told-adds state other before after scenes told =
    subst (λ (t : Telling). Adds before t.sheet) told (tell_all-adds (told_in state before) scenes)

-- by a line
hear-adds : (sheet : Sheet) (line : Line) → Adds sheet (hear_line sheet line)
hear-adds sheet (Wave n k mark values) = adds_none sheet
hear-adds sheet (Refused place code name count) = record { sink = refl; more = []; due = sym (append-nil sheet.due) }
hear-adds sheet line = record { sink = refl; more = comment (without_end (line_text line)); due = refl }

pub hear_all-adds : (sheet : Sheet) (lines : List Told) → Adds sheet (hear_all hear sheet lines)
hear_all-adds sheet [] = adds_none sheet
hear_all-adds sheet (told ∷ lines) =
    adds_both sheet (hear sheet told) (hear_all hear (hear sheet told) lines) (hear-adds sheet told.line) (hear_all-adds (hear sheet told) lines)

-- of lines a part was heard: the sink stays, and what all lines make due is longer
pub record IsPartOf (before after : Sheet) (lines : List Told) : Type 0 where
  pub sink : after.before ≡ before.before
  pub longer : Adds after (hear_all hear before lines)

part-of : (before after : Sheet) (lines front left : List Told) → lines ≡ front ++ left → after ≡ hear_all hear before front →
    IsPartOf before after lines
part-of before after lines front left split heard = record {
  sink = ap (λ (sheet : Sheet). sheet.before) heard ∙ (hear_all-adds before front).sink;
  longer = subst (λ (all : List Told). Adds after (hear_all hear before all)) (sym split)
      (subst (Adds after) (sym (hear_all-append hear before front left))
      (subst (λ (sheet : Sheet). Adds after (hear_all hear sheet left)) heard (hear_all-adds after left)));
}

pub lines_part : (before after : Sheet) (lines : List Told) → HearsLines hear HearsPart before after lines → IsPartOf before after lines
lines_part before after lines part = by part.heard
  where
    by : (after ≡ hear (hear_all hear before part.front) part.next) ⊎ (after ≡ hear_all hear before part.front) → IsPartOf before after lines
    by (inl heard) =
        part-of before after lines (part.front ++ part.next ∷ []) part.rest
        (part.split ∙ sym (append_assoc part.front (part.next ∷ []) part.rest))
        (heard ∙ sym (hear_all-append hear before part.front (part.next ∷ [])))
    by (inr heard) = part-of before after lines part.front (part.next ∷ part.rest) part.split heard

pub front_part : (before after : Sheet) (lines : List Told) → HearsFront hear HearsPart before after lines → IsPartOf before after lines
front_part before after lines (inl (left, sent)) = part-of before after lines sent.done left sent.split sent.heard
front_part before after lines (inr part) = lines_part before after lines part

-- ---- the line of a refusal

-- what was told, with this line of a refusal
abbrev with_refused : Telling → Option (List ℕ) → Telling
with_refused telling refused = record telling { sheet = record telling.sheet { refused = refused } }

see-refused : (sheet : Sheet) (state : List Tern) (refused : Option (List ℕ)) →
    see_state (record sheet { refused = refused }) state ≡ record (see_state sheet state) { refused = refused }
see-refused sheet state refused = by sheet.is_open
  where
    by : (stands : Bool) → (if stands then pass (record sheet { refused = refused }) state else record sheet { refused = refused })
        ≡ record (if stands then pass sheet state else sheet) { refused = refused }
    by true = refl
    by false = refl

see_all-refused : (sheet : Sheet) (states : List (List Tern)) (refused : Option (List ℕ)) →
    see_all see_state (record sheet { refused = refused }) states ≡ record (see_all see_state sheet states) { refused = refused }
see_all-refused sheet [] refused = refl
see_all-refused sheet (state ∷ states) refused =
    ap (λ (one : Sheet). see_all see_state one states) (see-refused sheet state refused) ∙ see_all-refused (see_state sheet state) states refused

tell-refused : (telling : Telling) (scene : Scene) (refused : Option (List ℕ)) →
    tell (with_refused telling refused) scene ≡ with_refused (tell telling scene) refused
tell-refused telling (Wrote line) refused = refl
tell-refused telling (Watched entry) refused = refl
tell-refused telling (Became state) refused = refl
tell-refused telling (Passed steps states) refused =
    ap (λ (seen : Sheet). told_in (tell telling (Passed steps states)).state (rest seen steps))
    (see_all-refused (begin telling.sheet telling.state) states refused)

tell_all-refused : (telling : Telling) (scenes : List Scene) (refused : Option (List ℕ)) →
    tell_all (with_refused telling refused) scenes ≡ with_refused (tell_all telling scenes) refused
tell_all-refused telling [] refused = refl
tell_all-refused telling (scene ∷ scenes) refused =
    ap (λ (t : Telling). tell_all t scenes) (tell-refused telling scene refused) ∙ tell_all-refused (tell telling scene) scenes refused

-- scenes leave it
pub told-refused : (state other : List Tern) (before after : Sheet) (scenes : List Scene) →
    tell_all (told_in state before) scenes ≡ told_in other after → after.refused ≡ before.refused
told-refused state other before after scenes told =
    sym (ap (λ (t : Telling). t.sheet.refused) told)
    ∙ ap (λ (t : Telling). t.sheet.refused) (tell_all-refused (told_in state before) scenes before.refused)

-- so scenes that were told from the start, the line of a refusal, and the end come to the dump of the run
pub dump_told : DumpsAreTold → (state other : List Tern) (sink : SinkSeen) (last : Sheet) (scenes : List Scene) (refused : Option (List ℕ)) →
    tell_all (told_in state (first_sheet sink)) scenes ≡ told_in other last →
    finished (record last { refused = refused }) other ≡ dump_of state scenes refused
dump_told law state other sink last scenes refused told =
    let first = told_in state (first_sheet sink) in
    sym (ap (λ (t : Telling). finished t.sheet t.state)
    (tell_all-refused first scenes refused ∙ ap (λ (t : Telling). with_refused t refused) told))
    ∙ law (with_refused first refused) scenes

-- ---- steps and phases on the page

see-begun : (sheet : Sheet) (state : List Tern) → has_begun sheet ≡ true → has_begun (see_state sheet state) ≡ true
see-begun sheet state begun = by sheet.is_open
  where
    by : (stands : Bool) → has_begun (if stands then pass sheet state else sheet) ≡ true
    by true = refl
    by false = begun

see_all-begun : (sheet : Sheet) (states : List (List Tern)) → has_begun sheet ≡ true → has_begun (see_all see_state sheet states) ≡ true
see_all-begun sheet [] begun = begun
see_all-begun sheet (state ∷ states) begun = see_all-begun (see_state sheet state) states (see-begun sheet state begun)

passes-begun : (sheet : Sheet) (passes : List Pass) → has_begun sheet ≡ true → has_begun (see_passes begin see_state rest sheet passes) ≡ true
passes-begun sheet [] begun = begun
passes-begun sheet (pass ∷ passes) begun =
    passes-begun (see_pass begin see_state rest sheet pass) passes (see_all-begun (begin sheet pass.before) pass.states refl)

-- behind a step or a phase, one was told
pub some-begun : (sheet : Sheet) (pass : Pass) (passes : List Pass) → has_begun (see_passes begin see_state rest sheet (pass ∷ passes)) ≡ true
some-begun sheet pass passes =
    passes-begun (see_pass begin see_state rest sheet pass) passes (see_all-begun (begin sheet pass.before) pass.states refl)

-- and none is open
pub passes-closed : (sheet : Sheet) (passes : List Pass) → sheet.is_open ≡ false → (see_passes begin see_state rest sheet passes).is_open ≡ false
passes-closed sheet [] closed = closed
passes-closed sheet (pass ∷ passes) closed = passes-closed (see_pass begin see_state rest sheet pass) passes refl

-- ---- lines on the page

hear-page : (sheet : Sheet) (line : Line) → ((hear_line sheet line).page ≡ sheet.page) × ((hear_line sheet line).is_open ≡ sheet.is_open)
hear-page sheet line = by line
  where
    by : (line : Line) → ((hear_line sheet line).page ≡ sheet.page) × ((hear_line sheet line).is_open ≡ sheet.is_open)
    by (Wave n k mark values) = (refl, refl)
    by (Refused place code name count) = (refl, refl)
    by other = (refl, refl)

-- lines leave it
pub hear_all-page : (sheet : Sheet) (lines : List Told) →
    ((hear_all hear sheet lines).page ≡ sheet.page) × ((hear_all hear sheet lines).is_open ≡ sheet.is_open)
hear_all-page sheet [] = (refl, refl)
hear_all-page sheet (told ∷ lines) =
    let first = hear-page sheet told.line in
    let others = hear_all-page (hear sheet told) lines in
    (others.0 ∙ first.0, others.1 ∙ first.1)
