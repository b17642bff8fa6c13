-- A word stands for at least one name, so only no words stand for none.
use Rattle.std.proofs.Common.{◌≡◌, ℕ, ◌+◌, ◌-◌, ◌≤◌, Bool, true, false, List, [], ◌∷◌, ◌++◌, length, nat_le, Option, Some, None, option_map, Err, refl, arith, if◌then◌else◌}
use Rattle.std.specs.Option.{option_and_then}
use Rattle.script_lang.specs.Parts.{all_of}
use Rattle.script_lang.specs.declared.command.ScriptFault.TheVariants.{FewWords}
use Rattle.node_words.specs.Ranges.{RangeData, count_between, first_range}
use Rattle.symbol_lines.specs.declared.TheConstants.{MOST_ITEMS}
use Rattle.symbol_lines.specs.Items.{words_by, words_of_part}
use Rattle.symbol_lines.specs.Commands.{names_of_word, names_of_words, variable_of, variables_given, with_front}
use Rattle.symbol_lines.proofs.CommandLemmas.{length-words}

-- a range has a number
some_number : (first last : ℕ) → 1 ≤ count_between first last
some_number first last = by (nat_le first last)
  where
    by : (test : Bool) → 1 ≤ (if test then last - first + 1 else first - last + 1)
    by true = omega arith
    by false = omega arith

-- a part of a word has a word
some_word : (part : List ℕ) → 1 ≤ length (words_of_part part)
some_word part = by (first_range part)
  where
    by : (found : Option RangeData) → 1 ≤ length (words_by part found)
    by None = omega arith
    by (Some range) = omega (arith, length-words range, some_number range.first range.last)

-- words that stand for names have as many
some_name : (words : List (List ℕ)) → 1 ≤ length words → ¬ (all_of variable_of words ≡ Some [])
some_name [] some none = absurd (omega (arith, some))
some_name (word ∷ words) some none = by (variable_of word) (all_of variable_of words) none
  where
    by : (own : Option (List ℕ)) (rest : Option (List (List ℕ))) → ¬ (option_and_then (λ first. option_map (λ more. first ∷ more) rest) own ≡ Some [])
    by None rest same = absurd (let e : ◌≡◌ {A = Option (List (List ℕ))} None (Some []) = same in cc)
    by (Some own) None same = absurd (let e : ◌≡◌ {A = Option (List (List ℕ))} None (Some []) = same in cc)
    by (Some own) (Some rest) same = absurd (let e : Some (own ∷ rest) ≡ Some [] = same in cc)

-- so does one word
name_of_word : (word : List ℕ) → ¬ (names_of_word word ≡ Some [])
name_of_word word none = by (nat_le (length (words_of_part word)) MOST_ITEMS) none
  where
    by : (test : Bool) → ¬ (option_and_then (all_of variable_of) (if test then Some (words_of_part word) else None) ≡ Some [])
    by true same = some_name (words_of_part word) (some_word word) same
    by false same = absurd (let e : ◌≡◌ {A = Option (List (List ℕ))} None (Some []) = same in cc)

-- no names are those of no words, of which `variables` has too few
pub no_names : (words names : List (List ℕ)) → names_of_words words ≡ Some names → length names ≡ 0 → Err FewWords ≡ variables_given words
no_names [] names found none = refl
no_names (word ∷ words) (name ∷ names) found none = absurd (omega (arith, none))
no_names (word ∷ words) [] found none = absurd (by (names_of_word word) (names_of_words words) (name_of_word word) found)
  where
    by : (own rest : Option (List (List ℕ))) → (¬ (own ≡ Some [])) → ¬ (option_and_then (λ names. with_front names rest) own ≡ Some [])
    by None rest some same = absurd (let e : ◌≡◌ {A = Option (List (List ℕ))} None (Some []) = same in cc)
    by (Some []) rest some same = some refl
    by (Some (name ∷ names)) None some same = absurd (let e : ◌≡◌ {A = Option (List (List ℕ))} None (Some []) = same in cc)
    by (Some (name ∷ names)) (Some more) some same = absurd (let e : Some (name ∷ (names ++ more)) ≡ Some [] = same in cc)
