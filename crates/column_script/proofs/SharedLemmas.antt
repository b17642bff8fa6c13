-- The commands that columns are given all alike: what a line asks for whose verb is none of those that give values or are left out.
use Rattle.std.proofs.Common.{◌≡◌, ℕ, Bool, true, false, List, ◌∷◌, Some, Ok, refl, sym, ap, ◌∙◌, if◌then◌else◌}
use Rattle.std.specs.Prelude.{codes, bytes_eq}
use Rattle.std.proofs.lemmas.Slice.Eq.{bytes_eq-Decides}
use Rattle.script_lang.specs.declared.command.Command.{Command}
use Rattle.script_lang.specs.declared.command.Command.TheVariants as family
use Rattle.script_lang.specs.declared.command.Give.TheVariants.{Set, Charge, Back}
use Rattle.script_lang.specs.declared.command.Setup.{Setup}
use Rattle.script_lang.specs.declared.command.Setup.TheVariants.{Keep, Save}
use Rattle.script_lang.specs.declared.command.Run.{Run}
use Rattle.script_lang.specs.declared.command.Run.TheVariants.{Report}
use Rattle.script_lang.specs.declared.command.Tell.TheVariants.{Expect, Show, Look}
use Rattle.script_lang.specs.Commands.{reading_of_words, word_of, word_of_run, word_of_setup}
use Rattle.script_lang.proofs.VerbLemmas.{first_word}
use Rattle.column_script.specs.declared.command.ValueCommand.TheVariants as value
use Rattle.column_script.specs.declared.reader.Sort.TheVariants as sort
use Rattle.column_script.specs.Columns.{is_left_out}
use Rattle.column_script.specs.Commands.{IsShared, IsSharedRun, IsSharedSetup}
use Rattle.column_script.specs.Values.{sort_of}

-- what the word of such a command isn't
pub record IsOther (word : List ℕ) : Type 0 where
  pub set : bytes_eq word (codes "set") ≡ false
  pub charge : bytes_eq word (codes "charge") ≡ false
  pub out : is_left_out word ≡ false

-- a word that names no sort but the shared one
pub other_sort : (word : List ℕ) → sort_of word ≡ sort.Shared → IsOther word
other_sort word is = by (bytes_eq word (codes "set")) (bytes_eq word (codes "charge")) (is_left_out word) refl refl refl is
  where
    by : (set charge out : Bool) → bytes_eq word (codes "set") ≡ set → bytes_eq word (codes "charge") ≡ charge → is_left_out word ≡ out →
        (if set then sort.Valued value.Set else (if charge then sort.Valued value.Charge else (if out then sort.LeftOut else sort.Shared))) ≡ sort.Shared → IsOther word
    by true charge out a b c is = cc
    by false true out a b c is = cc
    by false false true a b c is = cc
    by false false false a b c is = record { set = a; charge = b; out = c }

-- a text is the text that it is
not_itself : (text : List ℕ) → bytes_eq text text ≡ false → ⊥
not_itself text is = let yes : bytes_eq text text ≡ true = (bytes_eq-Decides text text).1 refl in cc

left_out : (word text : List ℕ) → word ≡ text → is_left_out text ≡ true → is_left_out word ≡ false → ⊥
left_out word text is out other = let yes : is_left_out word ≡ true = ap is_left_out is ∙ out in cc

-- what a line asks for whose first word is that of no other sort can be given to all columns alike
pub shared_words : (word : List ℕ) (words : List (List ℕ)) (made : Command) → IsOther word → reading_of_words (word ∷ words) ≡ Ok (Some made) → IsShared made
shared_words word words made other is = by made (first_word word words made is)
  where
    setup_shared : (setup : Setup) → word ≡ word_of_setup setup → IsSharedSetup setup
    setup_shared (Keep number) is = left_out word (codes "keep") is refl other.out
    setup_shared (Save name) is = left_out word (codes "save") is refl other.out
    setup_shared setup is = tt

    run_shared : (run : Run) → word ≡ word_of_run run → IsSharedRun run
    run_shared Report is = left_out word (codes "report") is refl other.out
    run_shared run is = tt

    by : (command : Command) → word ≡ word_of command → IsShared command
    by (family.Edit edit) is = tt
    by (family.Give (Set list)) is = not_itself (codes "set") (ap (λ (text : List ℕ). bytes_eq text (codes "set")) (sym is) ∙ other.set)
    by (family.Give (Charge list)) is = not_itself (codes "charge") (ap (λ (text : List ℕ). bytes_eq text (codes "charge")) (sym is) ∙ other.charge)
    by (family.Give (Back name)) is = left_out word (codes "back") is refl other.out
    by (family.Setup setup) is = setup_shared setup is
    by (family.Run run) is = run_shared run is
    by (family.Tell (Expect list)) is = left_out word (codes "expect") is refl other.out
    by (family.Tell (Show names)) is = left_out word (codes "show") is refl other.out
    by (family.Tell (Look names)) is = left_out word (codes "look") is refl other.out
