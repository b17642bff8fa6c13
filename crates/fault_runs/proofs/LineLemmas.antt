-- Lines that were read once are what each run reads.
use Rattle.std.proofs.Common.{◌≡◌, ℕ, ◌+◌, ◌<◌, ◌++◌, Bool, true, false, nat_eq, drop, get_or, List, [], ◌∷◌, length, map, Option, None, Some, IfSome, Result, Ok, refl, sym, ap, subst, ◌∙◌, append-nil, append_assoc, arith}
use Rattle.std.specs.Option.{option_eq}
use Rattle.std.proofs.lemmas.List.{drop_more, get_or-map, length-map, map-append}
use Rattle.ternary.specs.declared.tern.Tern.{Tern}
use Rattle.line_words.specs.Files.{is_cut, lines_in}
use Rattle.netlist.specs.Circuits.{CircuitData}
use Rattle.script_lang.specs.declared.command.Command.{Command}
use Rattle.script_lang.specs.declared.command.ScriptFault.{ScriptFault}
use Rattle.script_lang.specs.Commands.{reading_of}
use Rattle.script_lang.specs.Forms.{IsFormed}
use Rattle.script_lang.proofs.ReadingLemmas.{reading-formed}
use Rattle.session_meaning.specs.Sessions.{SessionData}
use Rattle.script_meaning.specs.Runs.{Asks, IsIdle}
use Rattle.fault_sim.specs.declared.masks.Left.{Left}
use Rattle.fault_sim.specs.Masks.{command_left, masked_of, masked_reading, masked_reading_by}
use Rattle.fault_runs.specs.declared.lines.ReadLine.{ReadLine}
use Rattle.fault_runs.specs.Lines.{AreRead, line_read}

-- ---- the lines so far

-- so many of the lines were read
pub record HasRead (all left : List (ℕ × List ℕ)) (read : List ReadLine) : Type 0 where
  pub done : List (ℕ × List ℕ)
  pub split : all ≡ done ++ left
  pub are : read ≡ map line_read done

pub read_first : (all : List (ℕ × List ℕ)) → HasRead all all []
read_first all = record { done = []; split = refl; are = refl }

pub read_on : (all left rest : List (ℕ × List ℕ)) (line : ℕ × List ℕ) (read more : List ReadLine) (asked : Result (Option Command) ScriptFault) →
    left ≡ line ∷ rest → HasRead all left read → reading_of line.1 ≡ asked → more ≡ read ++ record { number = line.0; asked = asked } ∷ [] → HasRead all rest more
read_on all left rest line read more asked steps so_far is grown = record {
  done = so_far.done ++ line ∷ [];
  split = so_far.split ∙ ap (λ (lines : List (ℕ × List ℕ)). so_far.done ++ lines) steps ∙ sym (append_assoc so_far.done (line ∷ []) rest);
  are = grown
      ∙ ap (λ (asked : Result (Option Command) ScriptFault). read ++ record { number = line.0; asked = asked } ∷ []) (sym is)
      ∙ ap (λ (front : List ReadLine). front ++ line_read line ∷ []) so_far.are
      ∙ sym (map-append line_read so_far.done (line ∷ []));
}

pub read_last : (script : List ℕ) (left : List (ℕ × List ℕ)) (read : List ReadLine) → left ≡ [] → HasRead (lines_in script) left read → AreRead script read
read_last script left read none so_far =
    so_far.are ∙ ap (map line_read) (sym (so_far.split ∙ ap (λ (lines : List (ℕ × List ℕ)). so_far.done ++ lines) none ∙ append-nil so_far.done))

-- ---- the line at a place

-- the line at this place, of which this was read
pub record IsLineAt (all : List (ℕ × List ℕ)) (place : ℕ) (read : ReadLine) : Type 0 where
  pub text : List ℕ
  pub asks : reading_of text ≡ read.asked
  pub steps : drop place all ≡ (read.number, text) ∷ drop (place + 1) all

no_line : ℕ × List ℕ
no_line = (0, [])

pub line_at : (script : List ℕ) (read : List ReadLine) (place : ℕ) (one : ReadLine) → AreRead script read → place < length read →
    one ≡ get_or read place one → IsLineAt (lines_in script) place one
line_at script read place one are low here =
    let all = lines_in script in
    let line = get_or all place no_line in
    let count : length read ≡ length all = ap length are ∙ length-map all line_read in
    let is : one ≡ line_read line =
    here ∙ ap (λ (list : List ReadLine). get_or list place one) are ∙ read_there all place one (omega (arith, low, count)) in
    record {
      text = line.1;
      asks = sym (ap (λ (read : ReadLine). read.asked) is);
      steps = subst (λ (number : ℕ). drop place all ≡ (number, line.1) ∷ drop (place + 1) all) (sym (ap (λ (read : ReadLine). read.number) is))
          (drop_more all place no_line (omega (arith, low, count)));
    }
  where
    read_there : (all : List (ℕ × List ℕ)) (place : ℕ) (one : ReadLine) → place < length all →
        get_or (map line_read all) place one ≡ line_read (get_or all place no_line)
    read_there all place one low = get_or-map line_read all place no_line one low

-- ---- what a line comes to

-- what a line asks for is well formed
pub asked_formed : (text : List ℕ) (asked : Option Command) → reading_of text ≡ Ok asked → IfSome asked IsFormed
asked_formed text None is = tt
asked_formed text (Some command) is = reading-formed text command is

-- the line that holds the first byte too many
pub is_outside : (cut : Option ℕ) (number : ℕ) (same : Bool) → same ≡ option_eq nat_eq cut (Some number) → same ≡ true → is_cut cut number ≡ true
is_outside None number same tested is = let no : false ≡ true = sym tested ∙ is in absurd (cc)
is_outside (Some line) number same tested is = sym tested ∙ is

-- what a line asks for while a node may be stuck is what is left of its command
module _ (stuck : Option (ℕ × Tern)) (cut : Option ℕ) (session : SessionData) (line : ℕ × List ℕ) (command : Command) (c : CircuitData)
    (vectors : List (List ℕ × List ℕ)) (left : Left) (inside : is_cut cut line.0 ≡ false) (read : reading_of line.1 ≡ Ok (Some command))
    (there : c ≡ session.circuit) (alike : vectors ≡ session.vectors) (is : command_left command left ≡ masked_of c vectors stuck command) where
  left_asked : masked_reading stuck session.circuit session.vectors line.1 ≡ Ok (command_left command left)
  left_asked =
      ap (masked_reading_by session.circuit session.vectors stuck) read
      ∙ ap (λ (circuit : CircuitData). Ok (masked_of circuit session.vectors stuck command)) (sym there)
      ∙ ap (λ (vectors : List (List ℕ × List ℕ)). Ok (masked_of c vectors stuck command)) (sym alike)
      ∙ ap Ok (sym is)

  pub asks_left : (other : Command) → command_left command left ≡ Some other → Asks (masked_reading stuck) cut session line other
  asks_left other gives = record { inside = inside; asked = left_asked ∙ ap Ok gives }

  pub idle_left : command_left command left ≡ None → IsIdle (masked_reading stuck) cut session line
  idle_left gives = record { inside = inside; nothing = left_asked ∙ ap Ok gives }
