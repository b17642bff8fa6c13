-- What a line of a symbolic script may ask for: a plain command of it is well formed, is given no values, and is none of those that such a script lacks.
use Rattle.std.proofs.Common.{◌≡◌, ℕ, Bool, true, false, ◌&&◌, ◌||◌, List, [], ◌∷◌, Option, None, Some, Result, Ok, Err, refl, ap, ◌∙◌, if◌then◌else◌}
use Rattle.std.specs.Prelude.{codes, bytes_eq}
use Rattle.std.proofs.lemmas.Slice.Eq.{bytes_eq-Decides}
use Rattle.line_words.specs.declared.line_check.LineFault.{LineFault}
use Rattle.line_words.specs.declared.line_check.LineFault.TheVariants.{TooLong, BadByte}
use Rattle.line_words.specs.LineFaults.{line_fault, is_comment}
use Rattle.line_words.specs.Words.{words_of}
use Rattle.script_lang.specs.declared.command.Command.{Command}
use Rattle.script_lang.specs.declared.command.Command.TheVariants as family
use Rattle.script_lang.specs.declared.command.ScriptFault.{ScriptFault}
use Rattle.script_lang.specs.declared.command.ScriptFault.TheVariants.{BadCommand}
use Rattle.script_lang.specs.declared.command.Give.TheVariants.{Set, Charge, Back}
use Rattle.script_lang.specs.declared.command.Setup.{Setup}
use Rattle.script_lang.specs.declared.command.Setup.TheVariants.{Keep, Widen}
use Rattle.script_lang.specs.declared.command.Run.{Run}
use Rattle.script_lang.specs.declared.command.Run.TheVariants.{Report}
use Rattle.script_lang.specs.declared.command.Tell.{Tell}
use Rattle.script_lang.specs.declared.command.Tell.TheVariants.{Expect}
use Rattle.script_lang.specs.Commands.{reading_by, reading_of, reading_of_words, word_of, word_of_run, word_of_setup, word_of_tell}
use Rattle.script_lang.proofs.ReadingLemmas.{reading-formed}
use Rattle.script_lang.proofs.VerbLemmas.{first_word}
use Rattle.symbol_lines.specs.declared.commands.SymbolCommand.{SymbolCommand}
use Rattle.symbol_lines.specs.Commands.{symbol_command_of}
use Rattle.symbol_script.specs.declared.line.SymbolLine.{SymbolLine}
use Rattle.symbol_script.specs.declared.line.SymbolLine.TheVariants as asks
use Rattle.symbol_script.specs.declared.line.ValueVerb.{ValueVerb}
use Rattle.symbol_script.specs.declared.line.ValueVerb.TheVariants as verb
use Rattle.symbol_script.specs.Lines.{asked_by, asked_by_line, asked_by_words, asked_plain, assignments_given, by_names, by_verb, has_dashes, is_left_out, is_telling, symbol_reading_of, value_verb}
use Rattle.symbol_session.specs.Asked.{IsAskable, IsOfRun, IsOfScript, IsOfSetup, IsOfTell}

-- what the word of such a command isn't
record IsOther (word : List ℕ) : Type 0 where
  pub set : bytes_eq word (codes "set") ≡ false
  pub charge : bytes_eq word (codes "charge") ≡ false
  pub expect : bytes_eq word (codes "expect") ≡ false
  pub report : bytes_eq word (codes "report") ≡ false
  pub keep : bytes_eq word (codes "keep") ≡ false
  pub wide : bytes_eq word (codes "wide") ≡ false

other_word : (quiet : Bool) (word : List ℕ) → value_verb word ≡ None → is_left_out quiet word ≡ false → IsOther word
other_word quiet word none stays =
    by (bytes_eq word (codes "set")) (bytes_eq word (codes "charge")) (bytes_eq word (codes "expect")) (bytes_eq word (codes "report"))
    (bytes_eq word (codes "keep")) (bytes_eq word (codes "wide")) refl refl refl refl refl refl none stays
  where
    by : (set charge expect report keep wide : Bool) → bytes_eq word (codes "set") ≡ set → bytes_eq word (codes "charge") ≡ charge →
        bytes_eq word (codes "expect") ≡ expect → bytes_eq word (codes "report") ≡ report → bytes_eq word (codes "keep") ≡ keep → bytes_eq word (codes "wide") ≡ wide →
        (if set then Some verb.Set else (if charge then Some verb.Charge else (if expect then Some verb.Expect else None))) ≡ None →
        (report || keep || wide || (quiet && is_telling word)) ≡ false → IsOther word
    by true charge expect report keep wide a b c d e f none stays = absurd (cc)
    by false true expect report keep wide a b c d e f none stays = absurd (cc)
    by false false true report keep wide a b c d e f none stays = absurd (cc)
    by false false false true keep wide a b c d e f none stays = absurd (let no : true ≡ false = stays in cc)
    by false false false false true wide a b c d e f none stays = absurd (let no : true ≡ false = stays in cc)
    by false false false false false true a b c d e f none stays = absurd (let no : true ≡ false = stays in cc)
    by false false false false false false a b c d e f none stays = record { set = a; charge = b; expect = c; report = d; keep = e; wide = f }

-- a word that is this text isn't another
is_text : (word text : List ℕ) → word ≡ text → bytes_eq word text ≡ false → ⊥
is_text word text is other =
    let yes : bytes_eq word text ≡ true = ap (λ (own : List ℕ). bytes_eq own text) is ∙ (bytes_eq-Decides text text).1 refl in cc

-- a command with such a word is one of a symbolic script
of_script : (word : List ℕ) → IsOther word → (command : Command) → word ≡ word_of command → IsOfScript command
of_script word other command is = by command is
  where
    setup_of : (setup : Setup) → word ≡ word_of_setup setup → IsOfSetup setup
    setup_of (Keep number) is = is_text word (codes "keep") is other.keep
    setup_of (Widen number) is = is_text word (codes "wide") is other.wide
    setup_of setup is = tt

    run_of : (run : Run) → word ≡ word_of_run run → IsOfRun run
    run_of Report is = is_text word (codes "report") is other.report
    run_of run is = tt

    tell_of : (tell : Tell) → word ≡ word_of_tell tell → IsOfTell tell
    tell_of (Expect list) is = is_text word (codes "expect") is other.expect
    tell_of tell is = tt

    by : (command : Command) → word ≡ word_of command → IsOfScript command
    by (family.Edit edit) is = tt
    by (family.Give (Set list)) is = is_text word (codes "set") is other.set
    by (family.Give (Charge list)) is = is_text word (codes "charge") is other.charge
    by (family.Give (Back name)) is = tt
    by (family.Setup setup) is = setup_of setup is
    by (family.Run run) is = run_of run is
    by (family.Tell tell) is = tell_of tell is

-- ---- a line that asks for a plain command

-- what asks for something else asks for none
not_plain : {X : Type 0} (asks_for : X → SymbolLine) (given : Result X ScriptFault) (command : Command) →
    ((x : X) → asks_for x ≡ asks.Plain command → ⊥) → asked_by asks_for given ≡ Ok (Some (asks.Plain command)) → ⊥
not_plain asks_for (Ok x) command never is = never x (let e : asks_for x ≡ asks.Plain command = cc in e)
not_plain asks_for (Err fault) command never is = absurd (cc)

plain_found : (found : Result (Option Command) ScriptFault) (command : Command) → asked_plain found ≡ Ok (Some (asks.Plain command)) → found ≡ Ok (Some command)
plain_found (Ok (Some own)) command is = let e : own ≡ command = cc in ap (λ (one : Command). Ok (Some one)) e
plain_found (Ok None) command is = absurd (cc)
plain_found (Err fault) command is = absurd (cc)

-- it is read as in a plain script, and its first word is none of those that others have
record ReadsPlain (quiet : Bool) (bytes : List ℕ) (command : Command) : Type 0 where
  pub word : List ℕ
  pub words : List (List ℕ)
  pub others : IsOther word
  pub reads : reading_of_words (word ∷ words) ≡ Ok (Some command)
  pub line : reading_of bytes ≡ reading_of_words (word ∷ words)

plain_words : (quiet : Bool) (word : List ℕ) (words : List (List ℕ)) (command : Command) → asked_by_words quiet (word ∷ words) ≡ Ok (Some (asks.Plain command)) →
    IsOther word × (reading_of_words (word ∷ words) ≡ Ok (Some command))
plain_words quiet word words command is = by_left (is_left_out quiet word) refl is
  where
    by_command : (found : Option (Result SymbolCommand ScriptFault)) → by_names word words found ≡ Ok (Some (asks.Plain command)) →
        reading_of_words (word ∷ words) ≡ Ok (Some command)
    by_command (Some given) is = absurd (not_plain asks.Names given command (λ own same. cc) is)
    by_command None is = plain_found (reading_of_words (word ∷ words)) command is

    by_value : (found : Option ValueVerb) → value_verb word ≡ found → is_left_out quiet word ≡ false → by_verb word words found ≡ Ok (Some (asks.Plain command)) →
        IsOther word × (reading_of_words (word ∷ words) ≡ Ok (Some command))
    by_value (Some own) found stays is = absurd (not_plain (asks.Values own) (assignments_given (has_dashes own) words) command (λ list same. cc) is)
    by_value None found stays is = (other_word quiet word found stays, by_command (symbol_command_of word words) is)

    by_left : (test : Bool) → is_left_out quiet word ≡ test → (if test then Err BadCommand else by_verb word words (value_verb word)) ≡ Ok (Some (asks.Plain command)) →
        IsOther word × (reading_of_words (word ∷ words) ≡ Ok (Some command))
    by_left true out is = absurd (cc)
    by_left false stays is = by_value (value_verb word) refl stays is

reads_plain : (quiet : Bool) (bytes : List ℕ) (command : Command) → symbol_reading_of quiet bytes ≡ Ok (Some (asks.Plain command)) → ReadsPlain quiet bytes command
reads_plain quiet bytes command is = by (line_fault bytes) refl is
  where
    by_words : (words : List (List ℕ)) → words_of bytes ≡ words → line_fault bytes ≡ None → is_comment bytes ≡ false →
        asked_by_words quiet words ≡ Ok (Some (asks.Plain command)) → ReadsPlain quiet bytes command
    by_words [] same right comment is = absurd (cc)
    by_words (word ∷ words) same right comment is =
        let (others, reads) = plain_words quiet word words command is in
        record {
          word = word;
          words = words;
          others = others;
          reads = reads;
          line = ap (reading_by bytes) right
              ∙ ap (λ (test : Bool). if test then Ok None else reading_of_words (words_of bytes)) comment ∙ ap reading_of_words same;
        }

    by_comment : (test : Bool) → is_comment bytes ≡ test → line_fault bytes ≡ None →
        (if test then Ok None else asked_by_words quiet (words_of bytes)) ≡ Ok (Some (asks.Plain command)) → ReadsPlain quiet bytes command
    by_comment true comment right is = absurd (cc)
    by_comment false comment right is = by_words (words_of bytes) refl right comment is

    by : (fault : Option LineFault) → line_fault bytes ≡ fault → asked_by_line quiet bytes fault ≡ Ok (Some (asks.Plain command)) → ReadsPlain quiet bytes command
    by (Some TooLong) found is = absurd (cc)
    by (Some BadByte) found is = absurd (cc)
    by None right is = by_comment (is_comment bytes) refl right is

-- so what a line asks for may be asked for
pub asked_askable : (quiet : Bool) (bytes : List ℕ) (asked : SymbolLine) → symbol_reading_of quiet bytes ≡ Ok (Some asked) → IsAskable asked
asked_askable quiet bytes (asks.Values own list) is = tt
asked_askable quiet bytes (asks.Names command) is = tt
asked_askable quiet bytes (asks.Plain command) is =
    let plain = reads_plain quiet bytes command is in (
      reading-formed bytes command (plain.line ∙ plain.reads),
      of_script plain.word plain.others command (first_word plain.word plain.words command plain.reads),
    )
