-- The lines of expectations that aren't met, and of names that are shown, item by item.
use Rattle.std.proofs.Common.{◌≡◌, ℕ, zero, suc, ◌+◌, ◌<◌, ◌≤◌, Bool, true, false, not, List, [], ◌∷◌, ◌++◌, length, map, get_or, take, drop, All, ◌||◌, Option, Some, None, Result, Ok, if◌then◌else◌, refl, sym, ap, subst, ◌∙◌, arith}
use Rattle.std.specs.Prelude.{◌==◌}
use Rattle.std.specs.List.{cons_option, list_all, list_any}
use Rattle.std.proofs.lemmas.Bool.{ne_eqb}
use Rattle.std.proofs.lemmas.List.{drop_more, length-map, take_more}
use Rattle.std.proofs.lemmas.List.Elements.{filter_map-append, All-nil, All-cons, All-append, All-head, All-tail, All-weaker}
use Rattle.ternary.specs.declared.tern.Tern.{Tern}
use Rattle.switch_paths.specs.Switching.{state_at}
use Rattle.vector_values.specs.Values.{Letter}
use Rattle.script_lang.specs.declared.value.Value.{Value}
use Rattle.node_values.specs.declared.fault.GivenFault.{GivenFault}
use Rattle.node_values.specs.Givings.{letters_given}
use Rattle.printed_lines.specs.declared.lines.TheConstants.{COLUMN_ROOM, SHOW_LINE_ROOM}
use Rattle.group_text.specs.FirstTexts.{first_texts}
use Rattle.group_text.specs.Texts.{GroupTextData}
use Rattle.circuit_texts.specs.Building.{HasTexts}
use Rattle.told_lines.specs.Lines.{Line, Reported, Unmet, AreInRoom, is_unmet, room_of}
use Rattle.told_lines.specs.Hearing.{of_column}
use Rattle.session_meaning.specs.Sessions.{SessionData}
use Rattle.session_meaning.specs.Refusals.{nodes_named}
use Rattle.session_meaning.specs.Effects.{IsReported, is_met, letters_in, shown_line, unmet_by, unmet_line, unmet_lines, with_told}
use Rattle.session_meaning.specs.Stages.{AreShortLists}

-- the lines from one item on are its own and those after it
pub unmet_lines-next : (session : SessionData) (list : List (List ℕ × Value)) (place : ℕ) (item : List ℕ × Value) → place < length list →
    item ≡ get_or list place item →
    unmet_lines session (drop place list) ≡ unmet_lines session (item ∷ []) ++ unmet_lines session (drop (place + 1) list)
unmet_lines-next session list place item inside is =
    ap (unmet_lines session) (drop_more list place item inside)
    ∙ ap (λ (first : List ℕ × Value). unmet_lines session (first ∷ drop (place + 1) list)) (sym is)
    ∙ filter_map-append (unmet_line session) (item ∷ []) (drop (place + 1) list)

-- one of them is of an expectation that isn't met exactly if there is one
pub unmet_any : (session : SessionData) (list : List (List ℕ × Value)) →
    list_any is_unmet (unmet_lines session list) ≡ not (length (unmet_lines session list) == 0)
unmet_any session [] = refl
unmet_any session (item ∷ list) =
    by (unmet_any session list)
    (list_all (λ pair. is_met pair.1 (state_at session.state pair.0)) (letters_in (letters_given session.circuit session.vectors item)))
  where
    pairs : List (ℕ × Letter)
    pairs = letters_in (letters_given session.circuit session.vectors item)

    line : Line
    line = Unmet item.0 (map (λ pair. pair.1) pairs) (map (λ pair. state_at session.state pair.0) pairs) session.count

    by : list_any is_unmet (unmet_lines session list) ≡ not (length (unmet_lines session list) == 0) → (met : Bool) →
        list_any is_unmet (cons_option (if met then None else Some line) (unmet_lines session list))
        ≡ not (length (cons_option (if met then None else Some line) (unmet_lines session list)) == 0)
    by later true = later
    by later false = ap not (sym (ne_eqb (suc (length (unmet_lines session list))) 0 (λ same. absurd (omega (arith, same)))))

-- the lines of names that are shown are told from one name on: its own, and those after it
pub shown-next : (session : SessionData) (names : List (List ℕ)) (place : ℕ) (name : List ℕ) → place < length names → name ≡ get_or names place name →
    of_column 0 (map (shown_line session) (drop place names))
    ≡ of_column 0 (shown_line session name ∷ []) ++ of_column 0 (map (shown_line session) (drop (place + 1) names))
shown-next session names place name inside is =
    ap (λ (left : List (List ℕ)). of_column 0 (map (shown_line session) left)) (drop_more names place name inside)
    ∙ ap (λ (first : List ℕ). of_column 0 (map (shown_line session) (first ∷ drop (place + 1) names))) (sym is)

-- none of them is of an expectation that isn't met
pub shown_met : (session : SessionData) (names : List (List ℕ)) → false ≡ list_any is_unmet (map (shown_line session) names)
shown_met session [] = refl
shown_met session (name ∷ names) = shown_met session names

-- what is the most of some items so far, or more, is no less than any so far
pub longest-next : {X : Type 0} (size : X → ℕ) (list : List X) (place : ℕ) (item : X) (most next : ℕ) → place < length list →
    item ≡ get_or list place item → most ≤ next → size item ≤ next → All (λ one. size one ≤ most) (take place list) → All (λ one. size one ≤ next) (take (place + 1) list)
longest-next size list place item most next inside is more fits so_far =
    rw (take_more list place item inside, ← is)
    (All-append (λ one. size one ≤ next) (take place list) (item ∷ [])
    (All-weaker (λ one. size one ≤ most) (λ one. size one ≤ next) (λ one short. omega (arith, short, more)) (take place list) so_far)
    (All-cons (λ one. size one ≤ next) item [] fits (All-nil (λ one. size one ≤ next))))

-- if no name is longer and none has more nodes, there is room for their lines
pub shown_room : (session : SessionData) (names : List (List ℕ)) (longest most room : ℕ) → All (λ name. length name ≤ longest) names →
    AreShortLists session.circuit session.vectors most names → COLUMN_ROOM + (SHOW_LINE_ROOM + (longest + most)) ≤ room →
    AreInRoom room (map (shown_line session) names)
shown_room session [] longest most room named listed enough = All-nil (λ line. room_of line ≤ room)
shown_room session (name ∷ names) longest most room named listed enough =
    let long = All-head (λ (one : List ℕ). length one ≤ longest) name names named in
    let wide = All-head (λ (one : List ℕ). length (nodes_named session.circuit session.vectors one) ≤ most) name names listed in
    let same = length-map (nodes_named session.circuit session.vectors name) (state_at session.state) in
    All-cons (λ line. room_of line ≤ room) (shown_line session name) (map (shown_line session) names) (omega (arith, long, wide, enough, same))
    (shown_room session names longest most room (All-tail (λ (one : List ℕ). length one ≤ longest) name names named)
    (All-tail (λ (one : List ℕ). length (nodes_named session.circuit session.vectors one) ≤ most) name names listed) enough)

-- if there is room for the lines of all names, there is for that of each
pub shown_room-at : (session : SessionData) (names : List (List ℕ)) (place : ℕ) (name : List ℕ) (room : ℕ) → place < length names →
    name ≡ get_or names place name → AreInRoom room (map (shown_line session) names) → room_of (shown_line session name) ≤ room
shown_room-at session (first ∷ names) zero name room inside is fit =
    subst (λ (one : List ℕ). room_of (shown_line session one) ≤ room) (sym is)
    (All-head (λ line. room_of line ≤ room) (shown_line session first) (map (shown_line session) names) fit)
shown_room-at session (first ∷ names) (suc place) name room inside is fit =
    shown_room-at session names place name room (omega (arith, inside)) is
    (All-tail (λ line. room_of line ≤ room) (shown_line session first) (map (shown_line session) names) fit)
shown_room-at session [] place name room inside is fit = absurd (omega (arith, inside))

-- if each letter is met, there is no line
pub unmet_none : (session : SessionData) (name : List ℕ) (pairs : List (ℕ × Letter)) →
    true ≡ list_all (λ pair. is_met pair.1 (state_at session.state pair.0)) pairs → None ≡ unmet_by session name pairs
unmet_none session name pairs is =
    ap (λ (met : Bool). if met then None
    else Some (Unmet name (map (λ pair. pair.1) pairs) (map (λ pair. state_at session.state pair.0) pairs) session.count)) is

-- if one isn't, there is that of the letters and the states
pub unmet_some : (session : SessionData) (name : List ℕ) (pairs : List (ℕ × Letter)) (want : List Letter) (got : List Tern) →
    false ≡ list_all (λ pair. is_met pair.1 (state_at session.state pair.0)) pairs → want ≡ map (λ pair. pair.1) pairs →
    got ≡ map (λ pair. state_at session.state pair.0) pairs → Some (Unmet name want got session.count) ≡ unmet_by session name pairs
unmet_some session name pairs want got is wanted present =
    ap (λ (letters : List Letter). Some (Unmet name letters got session.count)) wanted
    ∙ ap (λ (states : List Tern). Some (Unmet name (map (λ pair. pair.1) pairs) states session.count)) present
    ∙ ap (λ (met : Bool). if met then None
    else Some (Unmet name (map (λ pair. pair.1) pairs) (map (λ pair. state_at session.state pair.0) pairs) session.count)) is

-- the line of an assignment whose letters are these
pub unmet_put : (session : SessionData) (item : List ℕ × Value) (pairs : List (ℕ × Letter)) (line : Option Line) (old new : List Line) →
    letters_given session.circuit session.vectors item ≡ Ok pairs → line ≡ unmet_by session item.0 pairs → new ≡ old ++ cons_option line [] →
    new ≡ old ++ unmet_lines session (item ∷ [])
unmet_put session item pairs line old new given found grown =
    grown
    ∙ ap (λ (one : Option Line). old ++ cons_option one [])
    (found ∙ ap (λ (letters : Result (List (ℕ × Letter)) GivenFault). unmet_by session item.0 (letters_in letters)) (sym given))

-- lines are told from one on: it, and those after it
pub lines-next : (lines : List Line) (place : ℕ) (line : Line) → place < length lines → line ≡ get_or lines place line →
    of_column 0 (drop place lines) ≡ of_column 0 (line ∷ []) ++ of_column 0 (drop (place + 1) lines)
lines-next lines place line inside is =
    ap (of_column 0) (drop_more lines place line inside)
    ∙ ap (λ (first : Line). of_column 0 (first ∷ drop (place + 1) lines)) (sym is)

-- the data stay as they are if names are shown
pub shown_told : (session : SessionData) (names : List (List ℕ)) → session ≡ with_told session (map (shown_line session) names)
shown_told session names =
    by session.missed ∙ ap (λ (any : Bool). record session { missed = session.missed || any }) (shown_met session names)
  where
    by : (missed : Bool) → record session { missed = missed } ≡ record session { missed = missed || false }
    by true = refl
    by false = refl

-- ---- reports

-- the line with these numbers is the report's, if they are those of the circuit's groups and of their texts
pub reported : (session : SessionData) (texts : List GroupTextData) (has : HasTexts session.large session.circuit.graph texts) (groups distinct : ℕ) →
    groups ≡ length has.groups → distinct ≡ length (first_texts texts) →
    IsReported session (record session { fresh = 0 }) (Reported groups distinct session.fresh ∷ [])
reported session texts has groups distinct counted differ = record {
  texts = texts;
  has = has;
  moved = refl;
  wrote = λ i. Reported (counted i) (differ i) session.fresh ∷ [];
}
