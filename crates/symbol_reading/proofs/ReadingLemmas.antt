-- What is read line by line is what the script's lines mean. Lines are numbered upwards, so those before the one that is refused by its names are
-- those with smaller numbers.
use Rattle.std.proofs.Common.{◌≡◌, ◌≢◌, ℕ, ◌+◌, ◌<◌, ◌≤◌, Bool, true, false, ◌⊎◌, inl, inr, List, [], ◌∷◌, map, filter, filter_map, flat_map, nat_eq, nat_lt, Option, Some, None, option_map, Result, Ok, Err, IfOk, refl, sym, ap, ap₂, subst, ◌∙◌, arith, if◌then◌else◌}
use Rattle.std.specs.List.{cons_option, enumerate_from}
use Rattle.std.specs.Option.{option_eq}
use Rattle.std.proofs.lemmas.Bool.{le-ltb, lt-ltb}
use Rattle.std.proofs.lemmas.List.Folds.{flat_map-map}
use Rattle.line_words.specs.Files.{is_cut}
use Rattle.script_lang.specs.declared.command.ScriptFault.{ScriptFault}
use Rattle.symbol_lines.specs.declared.names.NameFault.{NameFault}
use Rattle.symbol_lines.specs.declared.names.NameFault.TheVariants as lack
use Rattle.symbol_lines.specs.Names.{NamesData, line_of, names_fault, names_in_value, no_names, unless_fault, with_line, with_lines}
use Rattle.symbol_script.specs.declared.line.Assignment.{Assignment}
use Rattle.symbol_script.specs.declared.line.SymbolLine.{SymbolLine}
use Rattle.symbol_script.specs.Lines.{names_of_line, symbol_reading_of}
use Rattle.symbol_meaning.specs.Scripts.{NamedStop, and_others, asked_lines, before_stop, bound_in, first_by_names, last_or, this_or, usual_bound}
use Rattle.symbol_reading.specs.declared.reading.Next.{Next}
use Rattle.symbol_reading.specs.declared.reading.Next.TheVariants as next
use Rattle.symbol_reading.specs.declared.reading.ScriptRead.{ScriptRead}
use Rattle.symbol_reading.specs.Reading.{by_names, ended, names_in_assignment, number_or, read_data, rest_read, Reads, Takes}

-- what a line asks for, with its number
abbrev pub Asked : Type 0
Asked = ℕ × Option SymbolLine

-- the names of assignments' values, assignment by assignment
pub names_of_values : (list : List Assignment) → flat_map names_in_value (map (λ (own : Assignment). own.value) list) ≡ flat_map names_in_assignment list
names_of_values list = flat_map-map names_in_value (λ (own : Assignment). own.value) list

-- ---- lines that are numbered upwards

-- each number is greater than the one before it, and the first than this
abbrev pub Rises : {A : Type 0} → ℕ → List (ℕ × A) → Type 0
Rises number [] = Unit {0}
Rises number (own ∷ others) = (number < own.0) × Rises own.0 others

-- so are the numbers of a text's lines
pub rises-enumerated : {A : Type 0} (number : ℕ) (texts : List A) → Rises number (enumerate_from (number + 1) texts)
rises-enumerated number [] = tt
rises-enumerated number (text ∷ texts) = (omega arith, rises-enumerated (number + 1) texts)

-- and of lines behind a smaller number
pub rises-later : {A : Type 0} (number other : ℕ) (lines : List (ℕ × A)) → number < other → Rises other lines → Rises number lines
rises-later number other [] less rises = tt
rises-later number other (own ∷ lines) less (first, rest) = (omega (arith, less, first), rest)

-- and of what they ask for
rises-read : (number own : ℕ) (reading : Result (Option SymbolLine) ScriptFault) (others : List Asked) → number < own → Rises own others →
    Rises number (and_others own reading others)
rises-read number own (Ok asked) others less rises = (less, rises)
rises-read number own (Err fault) others less rises = tt

rises-cut : (number : ℕ) (cut : Bool) (asked : List Asked) → Rises number asked → Rises number (if cut then [] else asked)
rises-cut number true asked rises = tt
rises-cut number false asked rises = rises

pub rises-asked : (quiet : Bool) (cut : Option ℕ) (number : ℕ) (lines : List (ℕ × List ℕ)) → Rises number lines → Rises number (asked_lines quiet cut lines)
rises-asked quiet cut number [] rises = tt
rises-asked quiet cut number (own ∷ lines) (first, rest) =
    rises-cut number (is_cut cut own.0) (and_others own.0 (symbol_reading_of quiet own.1) (asked_lines quiet cut lines))
    (rises-read number own.0 (symbol_reading_of quiet own.1) (asked_lines quiet cut lines) first (rises-asked quiet cut own.0 lines rest))

-- the line has a number below this one
abbrev pub before : {A : Type 0} → ℕ → ℕ × A → Bool
before number = λ own. nat_lt own.0 number

-- a number isn't below a smaller one, nor below itself
pub not_before : (own number : ℕ) → number ≤ own → nat_lt own number ≡ false
not_before own number past = le-ltb own number past

pub is_before : (own number : ℕ) → own < number → nat_lt own number ≡ true
is_before own number less = lt-ltb own number less

-- a test decides whether a line is kept
pub kept_if : {A : Type 0} (number : ℕ) (own : ℕ × A) (others : List (ℕ × A)) (test : Bool) → before number own ≡ test →
    filter (before number) (own ∷ others) ≡ (if test then own ∷ filter (before number) others else filter (before number) others)
kept_if number own others test is =
    ap (λ (keeps : Bool). if keeps then own ∷ filter (before number) others else filter (before number) others) is

-- no line behind a number has a smaller one
pub none_before : {A : Type 0} (number : ℕ) (lines : List (ℕ × A)) → Rises number lines → filter (before number) lines ≡ []
none_before number [] rises = refl
none_before number (own ∷ others) (first, rest) =
    kept_if number own others false (not_before own.0 number (omega (arith, first)))
    ∙ none_before number others (rises-later number own.0 others first rest)

-- a line that is refused by its names is one of these, so its number is greater
stop_behind : (d : NamesData) (number : ℕ) (asked : List Asked) (stop : NamedStop) → Rises number asked → first_by_names d asked ≡ Some stop → number < stop.0
stop_behind d number [] stop rises is = absurd (cc)
stop_behind d number (own ∷ others) stop (first, rest) is =
    by (names_fault d (names_of_line own.1)) (λ found. stop_behind (with_line d (names_of_line own.1)) own.0 others stop rest found) is
  where
    by : (found : Option NameFault) → (first_by_names (with_line d (names_of_line own.1)) others ≡ Some stop → own.0 < stop.0) →
        this_or (option_map (λ fault. (own.0, fault)) found) (first_by_names (with_line d (names_of_line own.1)) others) ≡ Some stop → number < stop.0
    by (Some fault) later found =
        let same : (own.0, fault) ≡ stop = cc found in
        subst (λ (at : NamedStop). number < at.0) same first
    by None later found =
        let behind : own.0 < stop.0 = later found in
        omega (arith, first, behind)

-- a line that stands before one that is refused by its names stays, if there is one
pub front_kept : (d : NamesData) (own : Asked) (others : List Asked) (stop : Option NamedStop) → Rises own.0 others → first_by_names d others ≡ stop →
    before_stop stop (own ∷ others) ≡ own ∷ before_stop stop others
front_kept d own others None rises is = refl
front_kept d own others (Some stop) rises is =
    kept_if stop.0 own others true (is_before own.0 stop.0 (stop_behind d own.0 others stop rises is))

-- ---- what is read

-- what is read of what lines ask for, if this one is refused by its names
abbrev made : List (List ℕ) → ℕ → Option NamedStop → ScriptRead
made variables bound stop = record { variables = variables; bound = bound; stop = stop }

abbrev kept_of : Option NamedStop → List Asked → List (Option SymbolLine)
kept_of stop asked = map (λ own. own.1) (before_stop stop asked)

abbrev whole : NamesData → ℕ → List Asked → Option NamedStop → ScriptRead
whole d bound asked stop =
    made (with_lines (map names_of_line (kept_of stop asked)) d).variables (last_or bound (filter_map bound_in (kept_of stop asked))) stop

-- of no lines
whole-none : (d : NamesData) (bound : ℕ) (asked : List Asked) (stop : Option NamedStop) → before_stop stop asked ≡ [] → whole d bound asked stop ≡ ended d bound stop
whole-none d bound asked stop none =
    ap (λ (kept : List Asked). made (with_lines (map names_of_line (map (λ (own : Asked). own.1) kept)) d).variables
    (last_or bound (filter_map bound_in (map (λ (own : Asked). own.1) kept))) stop) none

-- the last bound, with one more before the others
last_one : (found : Option ℕ) (bound : ℕ) (own : Option SymbolLine) (others : List (Option SymbolLine)) → bound_in own ≡ found →
    last_or bound (filter_map bound_in (own ∷ others)) ≡ last_or (number_or found bound) (filter_map bound_in others)
last_one found bound own others is =
    ap (λ (first : Option ℕ). last_or bound (cons_option first (filter_map bound_in others))) is ∙ by found
  where
    by : (first : Option ℕ) → last_or bound (cons_option first (filter_map bound_in others)) ≡ last_or (number_or first bound) (filter_map bound_in others)
    by (Some number) = refl
    by None = refl

-- of a line that isn't refused and those behind it
whole-more : (d : NamesData) (bound : ℕ) (own : Asked) (others : List Asked) (stop : Option NamedStop) → names_fault d (names_of_line own.1) ≡ None →
    before_stop stop (own ∷ others) ≡ own ∷ before_stop stop others →
    whole d bound (own ∷ others) stop ≡ whole (with_line d (names_of_line own.1)) (number_or (bound_in own.1) bound) others stop
whole-more d bound own others stop allowed front =
    let later = kept_of stop others in
    let next_d = with_line d (names_of_line own.1) in
    let names : (with_lines (names_of_line own.1 ∷ map names_of_line later) d).variables ≡ (with_lines (map names_of_line later) next_d).variables =
    ap (λ (found : Option NameFault). (unless_fault found (with_lines (map names_of_line later) next_d) d).variables) allowed in
    ap (λ (kept : List Asked). made (with_lines (map names_of_line (map (λ (one : Asked). one.1) kept)) d).variables
    (last_or bound (filter_map bound_in (map (λ (one : Asked). one.1) kept))) stop) front
    ∙ ap₂ (λ (variables : List (List ℕ)) (most : ℕ). made variables most stop) names (last_one (bound_in own.1) bound own.1 later refl)

-- a line more
read_more : (d : NamesData) (bound : ℕ) (own : Asked) (others : List Asked) (found : Option NameFault) → names_fault d (names_of_line own.1) ≡ found →
    Rises own.0 others →
    rest_read (with_line d (names_of_line own.1)) (number_or (bound_in own.1) bound) others
    ≡ whole (with_line d (names_of_line own.1)) (number_or (bound_in own.1) bound) others (first_by_names (with_line d (names_of_line own.1)) others) →
    by_names found own.0 d bound (rest_read (with_line d (names_of_line own.1)) (number_or (bound_in own.1) bound) others)
    ≡ whole d bound (own ∷ others)
    (this_or (option_map (λ fault. (own.0, fault)) found) (first_by_names (with_line d (names_of_line own.1)) others))
read_more d bound own others (Some fault) is rises later =
    sym (whole-none d bound (own ∷ others) (Some (own.0, fault))
    (kept_if own.0 own others false (not_before own.0 own.0 (omega arith)) ∙ none_before own.0 others rises))
read_more d bound own others None is rises later =
    let next_d = with_line d (names_of_line own.1) in
    later ∙ sym (whole-more d bound own others (first_by_names next_d others) is (front_kept next_d own others (first_by_names next_d others) rises refl))

-- so what is read line by line is what stands before the line that is refused by its names
read_from : (d : NamesData) (bound number : ℕ) (asked : List Asked) → Rises number asked → rest_read d bound asked ≡ whole d bound asked (first_by_names d asked)
read_from d bound number [] rises = refl
read_from d bound number (own ∷ others) (first, rest) =
    read_more d bound own others (names_fault d (names_of_line own.1)) refl rest
    (read_from (with_line d (names_of_line own.1)) (number_or (bound_in own.1) bound) own.0 others rest)

-- and that of a text's lines is what they mean
pub read_whole : (quiet : Bool) (cut : Option ℕ) (texts : List (List ℕ)) →
    rest_read no_names usual_bound (asked_lines quiet cut (enumerate_from 1 texts)) ≡ read_data quiet cut (enumerate_from 1 texts)
read_whole quiet cut texts =
    read_from no_names usual_bound 0 (asked_lines quiet cut (enumerate_from 1 texts))
    (rises-asked quiet cut 0 (enumerate_from 1 texts) (rises-enumerated 0 texts))

-- the record of it
pub read_made : (variables : List (List ℕ)) (d : NamesData) (bound : ℕ) (stop : Option NamedStop) (target : ScriptRead) → variables ≡ d.variables →
    ended d bound stop ≡ target → made variables bound stop ≡ target
read_made variables d bound stop target same is = ap (λ (names : List (List ℕ)). made names bound stop) same ∙ is

-- ---- line by line

-- what a line says of names, by its parts
line_is : (asked : Option SymbolLine) (used : List (List ℕ)) (defines : Option (List ℕ)) → used ≡ (names_of_line asked).used →
    defines ≡ (names_of_line asked).defines → line_of used defines ≡ names_of_line asked
line_is asked used defines one two = ap₂ line_of one two

-- a line whose names are taken
pub taken : (d new : NamesData) (bound new_bound : ℕ) (asked : Option SymbolLine) (used : List (List ℕ)) (defines : Option (List ℕ)) →
    used ≡ (names_of_line asked).used → defines ≡ (names_of_line asked).defines → names_fault d (line_of used defines) ≡ None →
    new ≡ with_line d (line_of used defines) → new_bound ≡ number_or (bound_in asked) bound → Takes d bound asked new new_bound next.Line
taken d new bound new_bound asked used defines one two allowed with_it gives =
    let is = line_is asked used defines one two in
    (ap (names_fault d) (sym is) ∙ allowed, with_it ∙ ap (with_line d) is, gives)

-- and one whose names are refused
pub stopped : {E : Type 0} (d new : NamesData) (bound : ℕ) (asked : Option SymbolLine) (used : List (List ℕ)) (defines : Option (List ℕ)) (why : NameFault)
    (result : Result Next E) → used ≡ (names_of_line asked).used → defines ≡ (names_of_line asked).defines →
    (why ≡ lack.NoMemory) ⊎ (names_fault d (line_of used defines) ≡ Some why) → new ≡ d →
    IfOk result (λ what. (what ≡ next.Stop why) × (why ≢ lack.NoMemory)) → IfOk result (Takes d bound asked new bound)
stopped d new bound asked used defines why (Ok what) one two (inl lacks) still (same, other) = absurd (other lacks)
stopped d new bound asked used defines why (Ok what) one two (inr refused) still (same, other) =
    subst (Takes d bound asked new bound) (sym same)
    (ap (names_fault d) (sym (line_is asked used defines one two)) ∙ refused, still, refl)
stopped d new bound asked used defines why (Err error) one two refused still none = tt

-- a line that was read is taken or refused by its names
reads_by : (quiet : Bool) (cut : Option ℕ) (d new : NamesData) (bound new_bound : ℕ) (line : ℕ × List ℕ) (asked : Option SymbolLine) (what : Next) →
    is_cut cut line.0 ≡ false → symbol_reading_of quiet line.1 ≡ Ok asked → Takes d bound asked new new_bound what →
    Reads quiet cut d bound line new new_bound what
reads_by quiet cut d new bound new_bound line asked next.Line inside asks takes =
    record { asked = asked; inside = inside; asks = asks; takes = takes }
reads_by quiet cut d new bound new_bound line asked (next.Stop why) inside asks takes =
    record { asked = asked; inside = inside; asks = asks; takes = takes }
reads_by quiet cut d new bound new_bound line asked next.End inside asks takes = absurd takes

pub reads : {E : Type 0} (quiet : Bool) (cut : Option ℕ) (d new : NamesData) (bound new_bound : ℕ) (line : ℕ × List ℕ) (asked : Option SymbolLine)
    (result : Result Next E) → is_cut cut line.0 ≡ false → symbol_reading_of quiet line.1 ≡ Ok asked → IfOk result (Takes d bound asked new new_bound) →
    IfOk result (Reads quiet cut d bound line new new_bound)
reads quiet cut d new bound new_bound line asked (Ok what) inside asks takes =
    reads_by quiet cut d new bound new_bound line asked what inside asks takes
reads quiet cut d new bound new_bound line asked (Err error) inside asks takes = tt

-- the line that holds the first byte too many
pub is_at : (cut : Option ℕ) (number : ℕ) (same : Bool) → same ≡ option_eq nat_eq cut (Some number) → same ≡ true → is_cut cut number ≡ true
is_at None number same tested is = absurd (let e : false ≡ true = sym tested ∙ is in cc)
is_at (Some line) number same tested is = sym tested ∙ is

-- one that is no command ends it
pub unread_ends : {E : Type 0} (quiet : Bool) (cut : Option ℕ) (d : NamesData) (bound : ℕ) (line : ℕ × List ℕ) (why lacks : ScriptFault)
    (result : Result Next E) → (why ≡ lacks) ⊎ (symbol_reading_of quiet line.1 ≡ Err why) → IfOk result (λ what. (what ≡ next.End) × (why ≢ lacks)) →
    IfOk result (Reads quiet cut d bound line d bound)
unread_ends quiet cut d bound line why lacks (Ok what) (inl is) (same, other) = absurd (other is)
unread_ends quiet cut d bound line why lacks (Ok what) (inr is) (same, other) =
    subst (Reads quiet cut d bound line d bound) (sym same) (inr (why, is), refl, refl)
unread_ends quiet cut d bound line why lacks (Err error) is none = tt

-- ---- all lines

-- what is read of lines from here on is what it was to be
abbrev pub SoFar : Bool → Option ℕ → NamesData → ℕ → List (ℕ × List ℕ) → ScriptRead → Type 0
SoFar quiet cut d bound lines target = rest_read d bound (asked_lines quiet cut lines) ≡ target

-- a line's reading is stuck on nothing
asked-first : (quiet : Bool) (cut : Option ℕ) (line : ℕ × List ℕ) (lines : List (ℕ × List ℕ)) (cuts : Bool) (reading : Result (Option SymbolLine) ScriptFault) →
    is_cut cut line.0 ≡ cuts → symbol_reading_of quiet line.1 ≡ reading →
    asked_lines quiet cut (line ∷ lines) ≡ (if cuts then [] else and_others line.0 reading (asked_lines quiet cut lines))
asked-first quiet cut line lines cuts reading one two =
    ap₂ (λ (test : Bool) (found : Result (Option SymbolLine) ScriptFault). if test then [] else and_others line.0 found (asked_lines quiet cut lines)) one two

-- where a line is taken it goes on
pub goes_on : (quiet : Bool) (cut : Option ℕ) (d new : NamesData) (bound new_bound : ℕ) (line : ℕ × List ℕ) (lines : List (ℕ × List ℕ)) (target : ScriptRead) →
    SoFar quiet cut d bound (line ∷ lines) target → Reads quiet cut d bound line new new_bound next.Line → SoFar quiet cut new new_bound lines target
goes_on quiet cut d new bound new_bound line lines target so_far is =
    let (allowed, names, gives) = is.takes in
    let later = asked_lines quiet cut lines in
    ap₂ (λ (own : NamesData) (most : ℕ). rest_read own most later) names gives
    ∙ sym (ap (λ (found : Option NameFault). by_names found line.0 d bound
    (rest_read (with_line d (names_of_line is.asked)) (number_or (bound_in is.asked) bound) later)) allowed)
    ∙ sym (ap (rest_read d bound) (asked-first quiet cut line lines false (Ok is.asked) is.inside is.asks))
    ∙ so_far

-- the same lines
pub so_far_to : (quiet : Bool) (cut : Option ℕ) (d : NamesData) (bound : ℕ) (left rest : List (ℕ × List ℕ)) (target : ScriptRead) → left ≡ rest →
    SoFar quiet cut d bound left target → SoFar quiet cut d bound rest target
so_far_to quiet cut d bound left rest target same so_far = subst (λ (lines : List (ℕ × List ℕ)). SoFar quiet cut d bound lines target) same so_far

-- where one ends it, that is what was read
pub ends_before : (quiet : Bool) (cut : Option ℕ) (d new : NamesData) (bound new_bound : ℕ) (line : ℕ × List ℕ) (lines : List (ℕ × List ℕ)) (target : ScriptRead) →
    SoFar quiet cut d bound (line ∷ lines) target → Reads quiet cut d bound line new new_bound next.End → ended new new_bound None ≡ target
ends_before quiet cut d new bound new_bound line lines target so_far (inl cuts, names, most) =
    ap₂ (λ (own : NamesData) (number : ℕ). ended own number None) names most
    ∙ sym (ap (rest_read d bound) (asked-first quiet cut line lines true (symbol_reading_of quiet line.1) cuts refl)) ∙ so_far
ends_before quiet cut d new bound new_bound line lines target so_far (inr (why, unread), names, most) =
    ap₂ (λ (own : NamesData) (number : ℕ). ended own number None) names most
    ∙ sym (ap (rest_read d bound) (asked-first quiet cut line lines (is_cut cut line.0) (Err why) refl unread ∙ nothing (is_cut cut line.0)))
    ∙ so_far
  where
    nothing : (test : Bool) → ◌≡◌ {A = List Asked} (if test then [] else []) []
    nothing true = refl
    nothing false = refl

-- and where one is refused by its names
pub stops_at : (quiet : Bool) (cut : Option ℕ) (d new : NamesData) (bound new_bound : ℕ) (line : ℕ × List ℕ) (lines : List (ℕ × List ℕ)) (target : ScriptRead)
    (why : NameFault) → SoFar quiet cut d bound (line ∷ lines) target → Reads quiet cut d bound line new new_bound (next.Stop why) →
    ended new new_bound (Some (line.0, why)) ≡ target
stops_at quiet cut d new bound new_bound line lines target why so_far is =
    let (refused, names, most) = is.takes in
    let later = asked_lines quiet cut lines in
    ap₂ (λ (own : NamesData) (number : ℕ). ended own number (Some (line.0, why))) names most
    ∙ sym (ap (λ (found : Option NameFault). by_names found line.0 d bound
    (rest_read (with_line d (names_of_line is.asked)) (number_or (bound_in is.asked) bound) later)) refused)
    ∙ sym (ap (rest_read d bound) (asked-first quiet cut line lines false (Ok is.asked) is.inside is.asks))
    ∙ so_far
