-- Texts that are found by their names.
use Rattle.std.specs.Prelude.{ℕ, List, ◌++◌, Option, bytes_eq, option_map, find, map}
use Rattle.std.specs.Borrow.{Bor}
use Rattle.help_texts.specs.declared.cures.TheConstants.{CURES, SYMBOLIC_CURES}
use Rattle.help_texts.specs.declared.topics.TheConstants.{COMMANDS, REQUESTS}

-- the names of a table, each with its text
abbrev pub entries_of : List (Bor (List ℕ) × Bor (List ℕ)) → List (List ℕ × List ℕ)
entries_of table = map (λ entry. (entry.0.now, entry.1.now)) table

-- the text of the first entry with this name, if there is one
abbrev pub text_of : List (List ℕ × List ℕ) → List ℕ → Option (List ℕ)
text_of entries name = option_map (λ entry. entry.1) (find (λ entry. bytes_eq entry.0 name) entries)

-- the names of `REQUESTS`, each with its text
unfoldable pub requests : List (List ℕ × List ℕ)
requests = map (λ topic. (topic.0.now, topic.1.now)) REQUESTS

-- those of `COMMANDS`
unfoldable pub commands : List (List ℕ × List ℕ)
commands = map (λ topic. (topic.0.now, topic.1.now)) COMMANDS

-- all topics: the requests, and the commands behind them
unfoldable pub topics : List (List ℕ × List ℕ)
topics = requests ++ commands

-- the codes of `CURES`, each with what it says
unfoldable pub cures : List (List ℕ × List ℕ)
cures = map (λ cure. (cure.0.now, cure.1.now)) CURES

-- the codes of `SYMBOLIC_CURES`, each with what it says
unfoldable pub symbolic_cures : List (List ℕ × List ℕ)
symbolic_cures = map (λ cure. (cure.0.now, cure.1.now)) SYMBOLIC_CURES
