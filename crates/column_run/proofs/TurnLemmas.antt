-- What a line comes to in columns, by what its command comes to or by how it is refused.
use Rattle.std.proofs.Common.{◌≡◌, ℕ, ◌<◌, ◌⊎◌, inl, inr, false, List, Option, None, Some, option_map, IfSome, Result, Ok, Err, refl, sym, ap, subst, ◌∙◌}
use Rattle.line_words.specs.Files.{is_cut}
use Rattle.script_lang.specs.declared.command.ScriptFault.{ScriptFault}
use Rattle.script_lang.specs.declared.command.ScriptFault.TheVariants as script
use Rattle.group_text.specs.Texts.{GroupTextData}
use Rattle.column_script.specs.declared.command.ColumnCommand.{ColumnCommand}
use Rattle.column_script.specs.Columns.{column_reading_of}
use Rattle.column_script.specs.Commands.{in_column}
use Rattle.column_script.specs.Forms.{IsFormed}
use Rattle.session_meaning.specs.declared.fault.ApplyFault.{ApplyFault}
use Rattle.session_meaning.specs.declared.fault.ApplyFault.TheVariants.{Refused, GroupNodes, GroupSwitches, WriteFault, NoMemory}
use Rattle.session_meaning.specs.Sessions.{SessionData}
use Rattle.session_meaning.specs.Columns.{Cuts, ObeysInAll}
use Rattle.session_meaning.specs.Outcomes.{Keeps}
use Rattle.told_lines.specs.Lines.{Told}
use Rattle.printed_lines.specs.declared.faults.FaultCode.{FaultCode}
use Rattle.run_ends.specs.Causes.{plain_cause}
use Rattle.script_meaning.specs.Codes.{script_code}
use Rattle.script_meaning.specs.Runs.{refused, unread}
use Rattle.run_ends.specs.Stops.{IsRefusedOnce}
use Rattle.script_meaning.specs.Turns.{turn_after}
use Rattle.column_run.specs.Turns.{AreIdle, AreRefused, AskInAll, KeepInAll, TakesTurn}

-- what keeps each column keeps all
pub keep_each : {H : Type 0} (columns : ℕ) (old new : ℕ → SessionData) (before after : H) (asked known : List GroupTextData) → 0 < columns →
    ((column : ℕ) → column < columns → Keeps (old column) (new column) before after asked known) → KeepInAll columns old new before after asked known
keep_each columns old new before after asked known some keeps = record {
  same = λ column inside. (keeps column inside).same;
  unheard = (keeps 0 some).unheard;
  unasked = (keeps 0 some).unasked;
}

-- a line that asks for a command comes to what the command comes to, and the hearer lacked memory once at the most
module _ {H : Type 0} (cuts : Cuts) (hear : H → Told → H) (part : H → Told → H → Type 0) (columns : ℕ) (some : 0 < columns) (cut : Option ℕ) (line : ℕ × List ℕ)
    (command : ColumnCommand) (old new : ℕ → SessionData) (before after : H) (asked known : List GroupTextData) (refusals now : ℕ)
    (asks : AskInAll columns cut old line command) where
  pub takes_turn : (ended : Result (Unit {0}) ApplyFault) → ObeysInAll cuts hear part columns old command new before after asked known refusals now ended →
      TakesTurn hear part columns cut line old new before after asked known (turn_after ended) × IsRefusedOnce refusals now (turn_after ended)
  takes_turn (Ok _) (accepts, same) = (inr (record { command = command; asks = asks; accepts = accepts }), same)
  takes_turn (Err (Refused refusal)) (refuses, same) = (
    (
      λ column inside. refused _ refusal (asks.each column inside) (refuses column inside).cause refl,
      keep_each columns old new before after asked known some (λ column inside. (refuses column inside).keeps),
    ),
    same,
  )
  takes_turn (Err (GroupNodes node count)) (refuses, same) = (record { command = command; asks = asks; refuses = refuses }, same)
  takes_turn (Err (GroupSwitches node count)) (refuses, same) = (record { command = command; asks = asks; refuses = refuses }, same)
  takes_turn (Err WriteFault) (begins, same) = (inr (record { command = command; asks = asks; begins = begins }), same)
  takes_turn (Err NoMemory) (inl (stays, same)) = (inl (stays 0 some).unheard, inl same)
  takes_turn (Err NoMemory) (inr (begins, more)) = (inr (record { command = command; asks = asks; begins = begins }), inr more)

-- a line that can't be read is refused in each column, if its fault has a code
pub are_unread : (columns : ℕ) (cut : Option ℕ) (sessions : ℕ → SessionData) (line : ℕ × List ℕ) (fault : ScriptFault) (code : FaultCode) → is_cut cut line.0 ≡ false →
    (fault ≡ script.NoMemory) ⊎ ((column : ℕ) → column < columns → column_reading_of columns column line.1 ≡ Err fault) →
    script_code fault ≡ Some code →
    AreRefused columns cut sessions line (plain_cause code)
are_unread columns cut sessions line fault code inside (inl want) coded =
    let none : None ≡ Some code = sym (ap script_code want) ∙ coded in absurd (cc)
are_unread columns cut sessions line fault code inside (inr is) coded = λ column within. unread fault code inside (is column within) coded refl

-- nothing was done
pub keep_all : {H : Type 0} (columns : ℕ) (sessions : ℕ → SessionData) (heard : H) (asked : List GroupTextData) → KeepInAll columns sessions sessions heard heard asked asked
keep_all columns sessions heard asked = record { same = λ column inside. refl; unheard = refl; unasked = refl }

-- what was read for as many columns as there are was read for each
module _ (columns count : ℕ) (cut : Option ℕ) (sessions : ℕ → SessionData) (line : ℕ × List ℕ) (found : Option ColumnCommand) (inside : is_cut cut line.0 ≡ false)
    (same : count ≡ columns) where
  -- a command
  pub asks_in_all : (command : ColumnCommand) → found ≡ Some command →
      ((column : ℕ) → column < count → column_reading_of count column line.1 ≡ Ok (option_map (in_column column) found)) →
      IfSome found (IsFormed count) →
      AskInAll columns cut sessions line command
  asks_in_all command is read formed = record {
    formed = subst (λ n. IsFormed n command) same (subst (λ (f : Option ColumnCommand). IfSome f (IsFormed count)) is formed);
    each = λ column within. record {
      inside = inside;
      asked = subst (λ n. column_reading_of n column line.1 ≡ Ok (Some (in_column column command))) same
          (read column (subst (λ n. column < n) (sym same) within) ∙ ap (λ (f : Option ColumnCommand). Ok (option_map (in_column column) f)) is);
    };
  }

  -- or nothing
  pub idle_in_all : found ≡ None → ((column : ℕ) → column < count →
      column_reading_of count column line.1 ≡ Ok (option_map (in_column column) found)) →
      AreIdle columns cut sessions line
  idle_in_all is read column within = record {
    inside = inside;
    nothing = subst (λ n. column_reading_of n column line.1 ≡ Ok None) same
        (read column (subst (λ n. column < n) (sym same) within) ∙ ap (λ (f : Option ColumnCommand). Ok (option_map (in_column column) f)) is);
  }

-- or a refusal
pub unread_in : (columns count : ℕ) (bytes : List ℕ) (fault : ScriptFault) → count ≡ columns →
    (fault ≡ script.NoMemory) ⊎ ((column : ℕ) → column < count → column_reading_of count column bytes ≡ Err fault) →
    (fault ≡ script.NoMemory) ⊎ ((column : ℕ) → column < columns → column_reading_of columns column bytes ≡ Err fault)
unread_in columns count bytes fault same read =
    subst (λ n. (fault ≡ script.NoMemory) ⊎ ((column : ℕ) → column < n → column_reading_of n column bytes ≡ Err fault)) same read
