-- Something comes of the dump of every script, from ready data.
use Rattle.std.proofs.Common.{◌≡◌, ◌⊎◌, ℕ, inl, inr, Bool, true, false, ◌&&◌, ◌||◌, List, [], ◌∷◌, Option, None, Some, Result, Ok, Err, refl, ap, subst, ◌∙◌}
use Rattle.line_words.specs.Files.{is_cut}
use Rattle.script_lang.specs.declared.command.Command.{Command}
use Rattle.script_lang.specs.declared.command.ScriptFault.{ScriptFault}
use Rattle.session_meaning.specs.Sessions.{SessionData, IsReady}
use Rattle.session_meaning.proofs.EffectLemmas.{refused as refused_so, too_large as large_so, performed as performed_so}
use Rattle.session_meaning.proofs.PassExistence.{command_passes}
use Rattle.printed_lines.specs.declared.faults.FaultCode.TheVariants.{S11TooLong, S17LateWatch}
use Rattle.run_ends.specs.Causes.{Cause, plain_cause}
use Rattle.run_ends.proofs.SizeLemmas.{size_caused}
use Rattle.script_meaning.specs.Codes.{refusal_code}
use Rattle.script_meaning.specs.Runs.{Asks, IsRefused, refused, too_large, plain_reading}
use Rattle.script_meaning.proofs.LowerLemmas.{command_ends, ready-performs}
use Rattle.script_meaning.proofs.ReadingLemmas.{plain-sound}
use Rattle.script_meaning.proofs.UniqueRuns.{same_command}
use Rattle.script_meaning.proofs.RunLemmas.{script_coded}
use Rattle.dump_run.specs.Dumped.{Dumped, Dumps, IsDumpRefused, as_ever, too_late, ends, passes, obeys, refuses, IsTimely, is_watch, is_move, scenes_of, behind, dumped_at, dump_refused}
use Rattle.dump_run.proofs.TurnLemmas.{far_turn, unread_turn}

abbrev pub HasDump : Option ℕ → Bool → SessionData → List (ℕ × List ℕ) → Type 0
HasDump cut begun session lines = (dumped : Dumped) × Dumps cut begun session lines dumped

-- one line, from ready data, if something comes of the lines after it from all ready data
module _ (cut : Option ℕ) (begun : Bool) (session : SessionData) (line : ℕ × List ℕ) (lines : List (ℕ × List ℕ)) (ready : IsReady session)
    (goes : (began : Bool) (new : SessionData) → IsReady new → HasDump cut began new lines) where
  -- of a refused line its refusal
  dump-refused : (cause : Cause) → IsDumpRefused cut begun session line cause → HasDump cut begun session (line ∷ lines)
  dump-refused cause is = (dump_refused session line.0 cause, refuses begun session line lines cause is)

  -- of a line that asks for a command in time, by what that comes to
  dump-timely : (command : Command) → Asks plain_reading cut session line command → IsTimely begun command → HasDump cut begun session (line ∷ lines)
  dump-timely command asks timely =
      let alone : (other : Command) → Asks plain_reading cut session line other → IsTimely begun other =
      λ other again. subst (IsTimely begun) (same_command asks again) timely in
      elim (command_ends session command ready (plain-sound.formed session.circuit session.vectors line.1 command asks.asked)) [
        | refused_so refusal is ↦ dump-refused (plain_cause (refusal_code refusal)) (as_ever (refused command refusal asks is refl) alone)
        | large_so fault allowed building first ↦
            let caused = size_caused session.large session.circuit fault first in
            dump-refused caused.0 (as_ever (too_large command fault asks allowed building first caused.1) alone)
        | performed_so new wrote texts performs ↦
            let through = command_passes session ready command in
            let rest = goes (begun || is_move command) new (ready-performs session new command wrote texts ready performs) in (
              behind (scenes_of session command through.0 wrote new) texts rest.0,
              obeys begun session new line lines command through.0 wrote texts rest.0 asks timely performs through.1 rest.1,
            )
      ]

  -- of one that asks for a command
  dump-asked : (command : Command) → Asks plain_reading cut session line command → HasDump cut begun session (line ∷ lines)
  dump-asked command asks = by (begun && is_watch command) refl
    where
      by : (late : Bool) → (begun && is_watch command) ≡ late → HasDump cut begun session (line ∷ lines)
      by true is = dump-refused (plain_cause S17LateWatch) (too_late command asks is refl)
      by false is = dump-timely command asks is

  -- by what the line is read as
  dump-read : is_cut cut line.0 ≡ false → (read : Result (Option Command) ScriptFault) → plain_reading session.circuit session.vectors line.1 ≡ read →
      HasDump cut begun session (line ∷ lines)
  dump-read inside (Ok None) is =
      let rest = goes begun session ready in
      (rest.0, passes begun session line lines rest.0 (record { inside = inside; nothing = is }) rest.1)
  dump-read inside (Ok (Some command)) is = dump-asked command (record { inside = inside; asked = is })
  dump-read inside (Err fault) is =
      let coded = script_coded fault (λ want. plain-sound.named session.circuit session.vectors line.1 (is ∙ ap Err want)) in
      dump-refused (plain_cause coded.0) (unread_turn cut begun session line fault coded.0 inside (inr is) coded.1)

  -- by whether the line holds the first byte too many
  dump-by_cut : (far : Bool) → is_cut cut line.0 ≡ far → HasDump cut begun session (line ∷ lines)
  dump-by_cut true is = dump-refused (plain_cause S11TooLong) (far_turn cut begun session line is)
  dump-by_cut false is = dump-read is (plain_reading session.circuit session.vectors line.1) refl

pub dump_exists : (cut : Option ℕ) (lines : List (ℕ × List ℕ)) (begun : Bool) (session : SessionData) → IsReady session → HasDump cut begun session lines
dump_exists cut [] begun session ready = (dumped_at session, ends begun session)
dump_exists cut (line ∷ lines) begun session ready =
    dump-by_cut cut begun session line lines ready (λ began new still. dump_exists cut lines began new still) (is_cut cut line.0) refl
