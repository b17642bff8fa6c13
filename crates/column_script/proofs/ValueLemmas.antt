-- Values in a column: what a word gives for all columns at once has in each column what the column's word gives there.
use Rattle.std.proofs.Common.{◌≡◌, ◌≢◌, ℕ, zero, suc, ◌+◌, ◌-◌, ◌<◌, Bool, true, false, ◌&&◌, ◌||◌, List, [], ◌∷◌, ◌++◌, length, map, drop, get_or, Option, Some, None, option_map, Result, Ok, Err, ◌==◌, refl, sym, ap, ap₂, ◌∙◌, subst, arith, if◌then◌else◌, eqb-true, eq-eqb, ne_eqb}
use Rattle.std.specs.Prelude.{is_some}
use Rattle.std.specs.Option.{ok_or, option_and_then, option_map_or}
use Rattle.std.proofs.Math.Seq.{take-append_seam, get_or-append_seam}
use Rattle.std.proofs.lemmas.List.{length-append, get_or-append_right}
use Rattle.std.proofs.lemmas.Option.{cond_some}
use Rattle.std.proofs.lemmas.Bool.{and_parts}
use Rattle.ternary.specs.declared.tern.Tern.{Tern}
use Rattle.ternary.specs.Tern.{of_letter}
use Rattle.switch_paths.specs.Switching.{state_at}
use Rattle.line_words.specs.Words.{is_word}
use Rattle.script_lang.specs.declared.command.ScriptFault.{ScriptFault}
use Rattle.script_lang.specs.declared.command.ScriptFault.TheVariants as fault
use Rattle.script_lang.specs.Parts.{all_of, letter_of, equals, is_equals, parts_of, state_of, states_of, IsLastEquals}
use Rattle.script_lang.proofs.CutLemmas.{parts_at}
use Rattle.std.specs.List.{before_last, after_last}
use Rattle.column_script.specs.Columns.{letters_given, parts_in, word_in}
use Rattle.column_script.specs.Commands.{state_in, value_in}
use Rattle.column_script.specs.Values.{are_fit, column_value_of, values_given}

-- what is made of the front and the rest, if both are there
abbrev joined : {X : Type 0} → Option X → Option (List X) → Option (List X)
joined first rest = option_and_then (λ x. option_map (λ xs. x ∷ xs) rest) first

-- letters that stand for no states have none that stands alone for one
state-none : (letters : List ℕ) → states_of letters ≡ None → state_of letters ≡ None
state-none [] none = refl
state-none (letter ∷ other ∷ letters) none = refl
state-none (letter ∷ []) none = by (of_letter letter) none
  where
    by : (found : Option Tern) → joined found (Some []) ≡ None → found ≡ None
    by None none = refl
    by (Some state) none = cc

-- the parts of a list of letters with a state each
both : {X : Type 0} (first : Option X) (rest : Option (List X)) (all : List X) → joined first rest ≡ Some all →
    (x : X) × (xs : List X) × (first ≡ Some x) × (rest ≡ Some xs) × (x ∷ xs ≡ all)
both None rest all is = cc
both (Some x) None all is = cc
both (Some x) (Some xs) all is = (x, xs, refl, refl, cc)

-- each letter stands for the state at its place
pub letters_at : (letters : List ℕ) (states : List Tern) → states_of letters ≡ Some states →
    (length states ≡ length letters) × ((k : ℕ) → k < length letters → of_letter (get_or letters k 0) ≡ Some (state_at states k))
letters_at [] states is = subst (λ (all : List Tern). (length all ≡ 0) × ((k : ℕ) → k < 0 → of_letter (get_or [] k 0) ≡ Some (state_at all k)))
    (let e : [] ≡ states = cc in e) (refl, λ k inside. absurd (omega arith))
letters_at (letter ∷ letters) states is =
    let parts = both (of_letter letter) (states_of letters) states is in
    let more = letters_at letters parts.1 parts.3 in
    subst (λ (all : List Tern). (length all ≡ length (letter ∷ letters)) × ((k : ℕ) → k < length (letter ∷ letters) → of_letter (get_or (letter ∷ letters) k 0) ≡ Some (state_at all k)))
    parts.4 (ap suc more.0, at parts.0 parts.1 parts.2 more.1)
  where
    at : (state : Tern) (states : List Tern) → of_letter letter ≡ Some state →
        ((k : ℕ) → k < length letters → of_letter (get_or letters k 0) ≡ Some (state_at states k)) →
        (k : ℕ) → k < length (letter ∷ letters) → of_letter (get_or (letter ∷ letters) k 0) ≡ Some (state_at (state ∷ states) k)
    at state states first rest zero inside = first
    at state states first rest (suc k) inside = rest k (omega arith)

-- the byte `=` is no letter
no_letter : (letter : ℕ) (state : Tern) → of_letter letter ≡ Some state → letter ≢ equals
no_letter letter state is same = let none : of_letter letter ≡ None = ap of_letter same in cc

drop-seam : (name rest : List ℕ) (byte : ℕ) → drop (length name + 1) (name ++ byte ∷ rest) ≡ rest
drop-seam [] rest byte = refl
drop-seam (first ∷ name) rest byte = let next : length (first ∷ name) + 1 ≡ suc (length name + 1) = omega arith in rw next (drop-seam name rest byte)

-- a name with one letter is cut into both
pub cut_again : (name : List ℕ) (letter : ℕ) (state : Tern) → is_word name ≡ true → of_letter letter ≡ Some state →
    parts_of (name ++ equals ∷ letter ∷ []) ≡ Some (name, letter ∷ [])
cut_again name letter state some is =
    let word : List ℕ = name ++ equals ∷ letter ∷ [] in
    let long : length word ≡ length name + 2 = length-append name (equals ∷ letter ∷ []) in
    let last : IsLastEquals word (length name) = record {
      inside = omega (arith, long);
      here = get_or-append_seam name equals (letter ∷ []) 0;
      after = λ k from within same.
          let at : k - length name ≡ 1 = omega (arith, long) in
          no_letter letter state is
          (sym (get_or-append_right name (equals ∷ letter ∷ []) (length name) k 0 refl (omega arith) ∙ ap (λ j. get_or (equals ∷ letter ∷ []) j 0) at) ∙ same);
    } in
    parts_at word (length name) last
    ∙ ap (λ (front : List ℕ). if is_word front && is_word (drop (length name + 1) word) then Some (front, drop (length name + 1) word) else None) (take-append_seam name (equals ∷ letter ∷ []))
    ∙ ap (λ (back : List ℕ). if is_word name && is_word back then Some (name, back) else None) (drop-seam name (letter ∷ []) equals)
    ∙ ap (λ (b : Bool). if b && true then Some (name, letter ∷ []) else None) some

-- an assignment, by the parts of its word
abbrev assigned : Option (List ℕ × List ℕ) → Option (List ℕ × Tern)
assigned cut = option_and_then (λ parts. option_map (λ state. (parts.0, state)) (state_of parts.1)) cut

-- a value with one letter or many that fit, by the parts of its word
abbrev fitting : ℕ → Option (List ℕ × List Tern) → Option (List ℕ × List Tern)
fitting columns value = option_and_then (λ value. if are_fit columns value.1 then Some value else None) value

abbrev named : List ℕ → Option (List Tern) → Option (List ℕ × List Tern)
named name states = option_map (λ states. (name, states)) states

-- a value with a letter for each column, in a column
of_columns : (columns column : ℕ) (states : List Tern) → column < columns → length states ≡ columns → state_in column states ≡ state_at states column
of_columns columns column states inside counted = by (length states == 1) refl
  where
    by : (alone : Bool) → (length states == 1) ≡ alone → (if alone then state_at states 0 else state_at states column) ≡ state_at states column
    by false is = refl
    by true is = let one = eqb-true (length states) 1 is in let first : column ≡ 0 = omega arith in ap (state_at states) (sym first)

or-right : (a b : Bool) → b ≡ true → (a || b) ≡ true
or-right true b is = refl
or-right false b is = is

-- a value of other letters, in a column
other_letters : (columns column : ℕ) (name letters : List ℕ) (states : List Tern) → states_of letters ≡ Some states →
    (length letters == columns) ≡ false →
    option_map (λ state. (name, state)) (state_of letters) ≡ option_map (value_in column) (fitting columns (Some (name, states)))
other_letters columns column name [] states is differs =
    let none : [] ≡ states = let e : Some [] ≡ Some states = is in cc in
    subst (λ (all : List Tern). None ≡ option_map (value_in column) (fitting columns (Some (name, all)))) none
    (ap (λ b. option_map (value_in column) (if b then Some (name, []) else None)) (sym differs))
other_letters columns column name (letter ∷ []) states is differs =
    let parts = both (of_letter letter) (Some []) states is in
    let alone : parts.0 ∷ [] ≡ states = ap (λ (rest : List Tern). parts.0 ∷ rest) (let e : [] ≡ parts.1 = let f : Some [] ≡ Some parts.1 = parts.3 in cc in e) ∙ parts.4 in
    ap (option_map (λ (state : Tern). (name, state))) parts.2
    ∙ subst (λ (all : List Tern). Some (name, parts.0) ≡ option_map (value_in column) (fitting columns (Some (name, all)))) alone refl
other_letters columns column name (letter ∷ more ∷ letters) states is differs =
    let long = (letters_at (letter ∷ more ∷ letters) states is).0 in
    let many : (length states == 1) ≡ false = ne_eqb (length states) 1 (λ one. absurd (omega arith)) in
    let other : (length states == columns) ≡ false = ap (λ n. n == columns) long ∙ differs in
    ap₂ (λ a b. option_map (value_in column) (if a || b then Some (name, states) else None)) (sym many) (sym other)

-- a word with these parts, whose letters stand for these states or for none
parts_given : (columns column : ℕ) (word name letters : List ℕ) → column < columns → parts_of word ≡ Some (name, letters) → is_word name ≡ true →
    (found : Option (List Tern)) → states_of letters ≡ found →
    letter_of (parts_in columns column word (name, letters)) ≡ option_map (value_in column) (fitting columns (named name found))
parts_given columns column word name letters inside cut some None is =
    ap (λ (states : Option (List Tern)). letter_of (if is_some states && (length letters == columns) then name ++ equals ∷ get_or letters column 0 ∷ [] else word)) is
    ∙ ap assigned cut ∙ ap (option_map (λ (state : Tern). (name, state))) (state-none letters is)
parts_given columns column word name letters inside cut some (Some states) is =
    ap (λ (all : Option (List Tern)). letter_of (if is_some all && (length letters == columns) then name ++ equals ∷ get_or letters column 0 ∷ [] else word)) is
    ∙ by (length letters == columns) refl
  where
    by : (counted : Bool) → (length letters == columns) ≡ counted →
        letter_of (if counted then name ++ equals ∷ get_or letters column 0 ∷ [] else word) ≡ option_map (value_in column) (fitting columns (Some (name, states)))
    by false differs = ap assigned cut ∙ other_letters columns column name letters states is differs
    by true same =
        let count : length letters ≡ columns = eqb-true (length letters) columns same in
        let all = letters_at letters states is in
        let own = all.1 column (omega arith) in
        let counted : length states ≡ columns = all.0 ∙ count in
        ap assigned (cut_again name (get_or letters column 0) (state_at states column) some own)
        ∙ ap (option_map (λ (state : Tern). (name, state))) own
        ∙ ap (λ (state : Tern). Some (name, state)) (sym (of_columns columns column states inside counted))
        ∙ ap (λ b. option_map (value_in column) (if b then Some (name, states) else None)) (sym (or-right (length states == 1) (length states == columns) (eq-eqb _ _ counted)))

-- a word's name has a byte
named_word : (word name letters : List ℕ) → parts_of word ≡ Some (name, letters) → is_word name ≡ true
named_word word name letters cut =
    let parts = cond_some (is_word (before_last is_equals word) && is_word (after_last is_equals word)) (before_last is_equals word, after_last is_equals word) (name, letters) cut in
    subst (λ (p : List ℕ × List ℕ). is_word p.0 ≡ true) parts.1 (and_parts (is_word (before_last is_equals word)) (is_word (after_last is_equals word)) parts.0).0

-- a word gives for all columns what its word in a column gives there
pub value_in_column : (columns column : ℕ) (word : List ℕ) → column < columns →
    letter_of (word_in columns column word) ≡ option_map (value_in column) (column_value_of columns word)
value_in_column columns column word inside = by (parts_of word) refl
  where
    by : (cut : Option (List ℕ × List ℕ)) → parts_of word ≡ cut →
        letter_of (option_map_or (parts_in columns column word) cut word)
        ≡ option_map (value_in column) (fitting columns (option_and_then (λ parts. named parts.0 (states_of parts.1)) cut))
    by None is = ap assigned is
    by (Some (name, letters)) is = parts_given columns column word name letters inside is (named_word word name letters is) (states_of letters) refl

-- the same of all items
all-mapped : {X Y Z : Type 0} (f : X → Option Z) (change : X → X) (g : X → Option Y) (h : Y → Z) →
    ((x : X) → f (change x) ≡ option_map h (g x)) → (items : List X) → all_of f (map change items) ≡ option_map (map h) (all_of g items)
all-mapped f change g h each [] = refl
all-mapped {X} {Y} {Z} f change g h each (item ∷ items) =
    ap₂ (λ (first : Option Z) (rest : Option (List Z)). joined first rest) (each item) (all-mapped f change g h each items)
    ∙ pushed (g item) (all_of g items)
  where
    pushed : (first : Option Y) (rest : Option (List Y)) → joined (option_map h first) (option_map (map h) rest) ≡ option_map (map h) (joined first rest)
    pushed None rest = refl
    pushed (Some x) None = refl
    pushed (Some x) (Some xs) = refl

-- what all words give, in a column
pub values_in_column : (columns column : ℕ) (words : List (List ℕ)) → column < columns →
    all_of letter_of (map (word_in columns column) words) ≡ option_map (map (value_in column)) (all_of (column_value_of columns) words)
values_in_column columns column words inside =
    all-mapped letter_of (word_in columns column) (column_value_of columns) (value_in column)
    (λ word. value_in_column columns column word inside) words

-- values that are given are, in a column, the assignments that are given there
abbrev pub given_in : ℕ → Result (List (List ℕ × List Tern)) ScriptFault → Result (List (List ℕ × Tern)) ScriptFault
given_in column (Ok list) = Ok (map (value_in column) list)
given_in column (Err fault) = Err fault

pub given_in_column : (columns column : ℕ) (words : List (List ℕ)) → column < columns →
    letters_given (map (word_in columns column) words) ≡ given_in column (values_given columns words)
given_in_column columns column [] inside = refl
given_in_column columns column (word ∷ words) inside =
    ap (λ (found : Option (List (List ℕ × Tern))). ok_or found fault.BadValue) (values_in_column columns column (word ∷ words) inside)
    ∙ turned (all_of (column_value_of columns) (word ∷ words))
  where
    turned : (found : Option (List (List ℕ × List Tern))) → ok_or (option_map (map (value_in column)) found) fault.BadValue ≡ given_in column (ok_or found fault.BadValue)
    turned None = refl
    turned (Some list) = refl
