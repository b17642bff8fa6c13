-- The text of a name in two tables: that in the first or, if it has none there, that in the second. So a topic's text is that of
-- the first request with its name or, if there is none, that of the first command.
use Rattle.std.proofs.Common.{◌≡◌, ℕ, List, Option, Some, None, ap, ◌∙◌, refl}
use Rattle.std.specs.Prelude.{◌++◌, bytes_eq, find, option_map}
use Rattle.std.specs.Option.{option_or}
use Rattle.std.proofs.lemmas.List.Folds.{find-append}
use Rattle.help_texts.specs.Texts.{commands, requests, text_of, topics}

either : (first later : Option (List ℕ × List ℕ)) →
    option_map (λ entry. entry.1) (option_or first later) ≡ option_or (option_map (λ entry. entry.1) first) (option_map (λ entry. entry.1) later)
either (Some entry) later = refl
either None later = refl

by_parts : (front behind : List (List ℕ × List ℕ)) (name : List ℕ) →
    text_of (front ++ behind) name ≡ option_or (text_of front name) (text_of behind name)
by_parts front behind name =
    let named = λ (entry : List ℕ × List ℕ). bytes_eq entry.0 name in
    ap (option_map (λ entry. entry.1)) (find-append named front behind) ∙ either (find named front) (find named behind)

-- a name of a table in front has its text there
pub text_first : (front behind : List (List ℕ × List ℕ)) (name text : List ℕ) → text_of front name ≡ Some text →
    text_of (front ++ behind) name ≡ Some text
text_first front behind name text is = by_parts front behind name ∙ ap (λ first. option_or first (text_of behind name)) is

-- every other name has the text that it has in the table behind
pub text_later : (front behind : List (List ℕ × List ℕ)) (name : List ℕ) → text_of front name ≡ None →
    text_of (front ++ behind) name ≡ text_of behind name
text_later front behind name none = by_parts front behind name ∙ ap (λ first. option_or first (text_of behind name)) none

pub topic_first : (name text : List ℕ) → text_of requests name ≡ Some text → text_of topics name ≡ Some text
unfolding topics
topic_first name text is = text_first requests commands name text is

pub topic_later : (name : List ℕ) → text_of requests name ≡ None → text_of topics name ≡ text_of commands name
unfolding topics
topic_later name none = text_later requests commands name none
