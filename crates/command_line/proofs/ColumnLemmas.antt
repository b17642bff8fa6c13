-- A request for columns asks for one at least.
use Rattle.std.proofs.Common.{◌≡◌, ℕ, ◌<◌, Bool, true, false, ◌&&◌, List, [], ◌∷◌, nat_le, Option, None, Some, refl, arith}
use Rattle.std.specs.Prelude.{if◌then◌else◌, bytes_eq, codes}
use Rattle.std.specs.Option.{option_and_then}
use Rattle.std.proofs.lemmas.Bool.{leb-true}
use Rattle.line_words.specs.Decimals.{decimal_of}
use Rattle.help_texts.specs.Texts.{text_of, topics}
use Rattle.help_texts.specs.declared.pages.TheConstants.{PAGE, VERSION}
use Rattle.net_gen.specs.declared.families.GenPart.{GenPart}
use Rattle.command_line.specs.Columns.{columns_of}
use Rattle.command_line.specs.Decks.{is_deck_name}
use Rattle.command_line.specs.Samples.{Sample, part_of, sample_of}
use Rattle.command_line.specs.Requests.{Question, Simulate, Batch, Check, Groups, Compile, Lint, Explain, Judge, Cover, Request, About, OverDeck, Show, Unclear, request_of, about, shown, generate, sum_up, in_columns}

-- a question for columns is for one at least
abbrev pub HasColumns : Question → Type 0
HasColumns (Batch columns script) = 0 < columns
HasColumns question = Unit {0}

-- so is a request
abbrev pub AsksColumns : Request → Type 0
AsksColumns (About net question) = HasColumns question
AsksColumns (OverDeck deck question) = HasColumns question
AsksColumns request = Unit {0}

-- a word that tells of columns tells of one at least
told_columns : (net script : List ℕ) (columns : ℕ) (low high : Bool) → nat_le 1 columns ≡ low →
    AsksColumns (in_columns net (if low && high then Some columns else None) script)
told_columns net script columns true true is = (let least = leb-true 1 columns is in omega arith)
told_columns net script columns true false is = tt
told_columns net script columns false high is = tt

columns_fit : (net script : List ℕ) (found : Option ℕ) →
    AsksColumns (in_columns net (option_and_then (λ columns. if nat_le 1 columns && nat_le columns 64 then Some columns else None) found) script)
columns_fit net script None = tt
columns_fit net script (Some columns) = told_columns net script columns (nat_le 1 columns) (nat_le columns 64) refl

-- the other requests ask for none
one_fits : (help version : Bool) → AsksColumns (if help then Show PAGE.now else (if version then Show VERSION.now else Unclear))
one_fits true version = tt
one_fits false true = tt
one_fits false false = tt

shown_fits : (text : Option (List ℕ)) → AsksColumns (shown text)
shown_fits (Some text) = tt
shown_fits None = tt

about_fits : (net : List ℕ) (check groups compile : Bool) →
    AsksColumns (about net (if check then Some Check else (if groups then Some Groups else (if compile then Some Compile else None))))
about_fits net true groups compile = tt
about_fits net false true compile = tt
about_fits net false false true = tt
about_fits net false false false = tt

cover_fits : (net script : List ℕ) (deck : Bool) → AsksColumns (if deck then OverDeck net (Cover script) else About net (Cover script))
cover_fits net script true = tt
cover_fits net script false = tt

lint_fits : (net : List ℕ) (deck : Bool) → AsksColumns (if deck then OverDeck net Lint else About net Lint)
lint_fits net true = tt
lint_fits net false = tt

two_fit : (net : List ℕ) (text : Option (List ℕ)) (help lint deck check groups compile : Bool) →
    AsksColumns (if help then shown text else (if lint then (if deck then OverDeck net Lint else About net Lint)
    else about net (if check then Some Check else (if groups then Some Groups else (if compile then Some Compile else None)))))
two_fit net text true lint deck check groups compile = shown_fits text
two_fit net text false true deck check groups compile = lint_fits net deck
two_fit net text false false deck check groups compile = about_fits net check groups compile

three_fit : (circuit script : List ℕ) (plain deck cover named : Bool) →
    AsksColumns (if plain then About circuit (Simulate script) else (if deck then OverDeck circuit (Simulate script)
    else (if cover then (if named then OverDeck circuit (Cover script) else About circuit (Cover script)) else Unclear)))
three_fit circuit script true deck cover named = tt
three_fit circuit script false true cover named = tt
three_fit circuit script false false true named = cover_fits circuit script named
three_fit circuit script false false false named = tt

sum_fits : (sample : Option Sample) → AsksColumns (sum_up sample)
sum_fits None = tt
sum_fits (Some sample) = tt

four_fit : (first second third : List ℕ) (sample : Option Sample) (large why faults batch : Bool) →
    AsksColumns (if large then sum_up sample else (if why then About first (Explain second third)
    else (if faults then About first (Judge second third) else (if batch then in_columns first (columns_of second) third else Unclear))))
four_fit first second third sample true why faults batch = sum_fits sample
four_fit first second third sample false true faults batch = tt
four_fit first second third sample false false true batch = tt
four_fit first second third sample false false false true = columns_fit first third (decimal_of second)
four_fit first second third sample false false false false = tt

part_fits : (part : Option GenPart) (sample : Option Sample) → AsksColumns (generate part sample)
part_fits None sample = tt
part_fits (Some part) None = tt
part_fits (Some part) (Some sample) = tt

five_fit : (part : Option GenPart) (sample : Option Sample) (gen : Bool) → AsksColumns (if gen then generate part sample else Unclear)
five_fit part sample true = part_fits part sample
five_fit part sample false = tt

-- so words that ask for columns ask for one at least
pub asks_columns : (words : List (List ℕ)) → AsksColumns (request_of words)
asks_columns [] = tt
asks_columns (command ∷ []) = one_fits (bytes_eq command (codes "help")) (bytes_eq command (codes "version"))
asks_columns (command ∷ net ∷ []) =
    two_fit net (text_of topics net) (bytes_eq command (codes "help")) (bytes_eq command (codes "lint")) (is_deck_name net)
    (bytes_eq command (codes "check")) (bytes_eq command (codes "groups")) (bytes_eq command (codes "compile"))
asks_columns (command ∷ circuit ∷ script ∷ []) =
    three_fit circuit script (bytes_eq command (codes "sim")) (bytes_eq command (codes "sim-spice")) (bytes_eq command (codes "cover")) (is_deck_name circuit)
asks_columns (command ∷ first ∷ second ∷ third ∷ []) =
    four_fit first second third (sample_of first second third) (bytes_eq command (codes "large")) (bytes_eq command (codes "why"))
    (bytes_eq command (codes "faults")) (bytes_eq command (codes "batch"))
asks_columns (command ∷ part ∷ kind ∷ seed ∷ rows ∷ []) =
    five_fit (part_of part) (sample_of kind seed rows) (bytes_eq command (codes "gen"))
asks_columns (command ∷ one ∷ two ∷ three ∷ four ∷ five ∷ words) = tt
