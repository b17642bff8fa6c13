-- Outcomes in columns: a command whose effect was done in each of them, and whose rows were heard or a part of them, is obeyed.
use Rattle.std.proofs.Common.{◌≡◌, ℕ, ◌<◌, false, List, [], ◌∷◌, length, None, Some, Ok, Err, refl, sym, ap, subst, ◌∙◌, inl, inr, append-nil}
use Rattle.std.specs.Prelude.{IfErr, OnErr, OnOk, Option, Result, map}
use Rattle.ternary.specs.declared.tern.Tern.{Tern}
use Rattle.group_text.specs.Texts.{GroupTextData}
use Rattle.switch_paths.specs.Graphs.{nodes}
use Rattle.switch_paths.specs.Switching.{state_at}
use Rattle.circuit_texts.specs.declared.texts.BuildFault.{BuildFault}
use Rattle.circuit_texts.specs.declared.texts.BuildFault.TheVariants as build
use Rattle.circuit_texts.proofs.SizeLemmas.{told_node}
use Rattle.script_lang.specs.declared.command.Command.TheVariants as family
use Rattle.script_lang.specs.declared.command.Run.{Run}
use Rattle.script_lang.specs.declared.command.Run.TheVariants as run
use Rattle.column_script.specs.declared.command.ColumnCommand.{ColumnCommand}
use Rattle.column_script.specs.declared.command.ColumnCommand.TheVariants.{Shared, Values}
use Rattle.column_script.specs.declared.command.ValueCommand.{ValueCommand}
use Rattle.column_script.specs.Commands.{in_column, value_in}
use Rattle.settling.specs.declared.settling.Settled.{Settled}
use Rattle.column_stage.specs.Acts.{Act, Leads, Rested, Stepped}
use Rattle.column_stage.specs.Moving.{MovesColumns}
use Rattle.column_stage.proofs.LeadingLemmas.{leads_one}
use Rattle.told_lines.specs.Lines.{Line, Told}
use Rattle.told_lines.specs.Hearing.{Hears}
use Rattle.session_meaning.specs.declared.fault.Refusal.{Refusal}
use Rattle.session_meaning.specs.declared.fault.ApplyFault.{ApplyFault}
use Rattle.session_meaning.specs.declared.fault.ApplyFault.TheVariants.{Refused, GroupNodes, GroupSwitches, WriteFault, NoMemory}
use Rattle.session_meaning.specs.Sessions.{SessionData, HeldSession}
use Rattle.session_meaning.specs.Refusals.{refusal_of}
use Rattle.session_meaning.specs.Preparing.{IsFaultFor, NamesNode, builds}
use Rattle.session_meaning.specs.Effects.{IsPhase, IsUnitStep, RunEffect, assigned}
use Rattle.session_meaning.specs.Outcomes.{DoesPart, RefusesSize}
use Rattle.session_meaning.specs.Sinks.{IsSinkFault, faults_applied, refusals_sent}
use Rattle.session_meaning.specs.Stages.{IsStill, Readied, ReadiesBy, TooLarge}
use Rattle.session_meaning.specs.Columns.{AreRows, AreRunActsInAll, BeginsInAll, Cuts, IsStageAfterInAll, MovesInAll, ObeysInAll, ObeysInAllOn, QuietlyInAll, RestsInAll, SettledInAll, StepInAll, acts_of_letters, column_of, count_in, given_states, wave_in, waves_of}
use Rattle.session_meaning.proofs.ColumnLemmas.{column_built, column_data, letters_moved}
use Rattle.session_meaning.proofs.LetterLemmas.{builds_alike, letters_effect, names_known, refused_alike}
use Rattle.session_meaning.proofs.MoveLemmas.{built_same}
use Rattle.session_meaning.proofs.OutcomeLemmas.{built_performs, fault_quiet, still_performs}
use Rattle.session_meaning.proofs.RowLemmas.{rows-none, rows-one}

-- ---- commands that tell nothing

-- no fault of a hearer ends one
pub quietly_faults : (columns : ℕ) (old new : ℕ → SessionData) (command : ColumnCommand) (faults : ℕ) → 0 < columns → (result : Result (Unit {0}) ApplyFault) →
    QuietlyInAll columns old command new result → faults ≡ faults_applied faults result
quietly_faults columns old new command faults some (Ok done) quiet = refl
quietly_faults columns old new command faults some (Err (Refused refusal)) quiet = refl
quietly_faults columns old new command faults some (Err (GroupNodes node count)) quiet = absurd (quiet 0 some)
quietly_faults columns old new command faults some (Err (GroupSwitches node count)) quiet = absurd (quiet 0 some)
quietly_faults columns old new command faults some (Err WriteFault) quiet = absurd (quiet 0 some)
quietly_faults columns old new command faults some (Err NoMemory) quiet = refl

module _ {H M : Type 0} (cuts : Cuts) (hear : H → Told → H) (part : H → Told → H → Type 0) (columns : M → ℕ) (states : M → ℕ → List Tern)
    (did : Act → M → M → Type 0) where
  -- one that is done, refused or stopped in each column is obeyed
  pub quietly_obeys : (old new : HeldSession M) (command : ColumnCommand) (before : H) (asked : List GroupTextData) (refusals : ℕ) → 0 < columns old.stage →
      builds (in_column 0 command) ≡ false → (result : Result (Unit {0}) ApplyFault) →
      QuietlyInAll (columns old.stage) (column_of states old) command (column_of states new) result →
      OnOk result (IsStageAfterInAll columns states did old command new) → OnErr result (IsStill did old.stage new.stage) →
      ObeysInAllOn cuts hear part columns states did old command new before before asked asked refusals refusals result
  quietly_obeys old new command before asked refusals some still (Ok done) quiet later stays = (
    (
      record {
        told = [];
        texts = [];
        performs = record {
          lines = λ column. [];
          each = λ column inside.
              still_performs (column_of states old column) (column_of states new column) (in_column column command) []
              (builds_alike command column 0 ∙ still)
              (quiet column inside).allowed (quiet column inside).effect;
          rows = rows-none (columns old.stage);
        };
        heard = refl;
        analysed = sym (append-nil asked);
      },
      later,
    ),
    refl,
  )
  quietly_obeys old new command before asked refusals some still (Err (Refused refusal)) quiet later stays = (
    (
      λ column inside.
          record { cause = (quiet column inside).0; keeps = record { same = (quiet column inside).1; unheard = refl; unasked = refl } },
      stays,
    ),
    refl,
  )
  quietly_obeys old new command before asked refusals some still (Err (GroupNodes node count)) quiet later stays = absurd (quiet 0 some)
  quietly_obeys old new command before asked refusals some still (Err (GroupSwitches node count)) quiet later stays = absurd (quiet 0 some)
  quietly_obeys old new command before asked refusals some still (Err WriteFault) quiet later stays = absurd (quiet 0 some)
  quietly_obeys old new command before asked refusals some still (Err NoMemory) quiet later stays =
      inl (
        (
          λ column inside.
              record {
                core = subst (λ (s : SessionData). s ≡ record (column_of states old column) { kept = s.kept }) (sym (quiet column inside)) refl;
                cut_off = inl (ap (λ (s : SessionData). s.kept) (quiet column inside), refl);
                unheard = refl;
              },
          stays,
        ),
        refl,
      )

  -- ---- commands that did nothing

  -- one that each column refuses
  pub refused_obeys : (session : HeldSession M) (command : ColumnCommand) (refusal : Refusal) (before : H)
      (asked : List GroupTextData) (refusals : ℕ) →
      ((column : ℕ) → column < columns session.stage → refusal_of (column_of states session column) (in_column column command) ≡ Some refusal) →
      ObeysInAllOn cuts hear part columns states did session command session before before asked asked refusals refusals (Err (Refused refusal))
  refused_obeys session command refusal before asked refusals cause =
      ((λ column inside. record { cause = cause column inside; keeps = record { same = refl; unheard = refl; unasked = refl } }, inl refl), refl)

  -- one that lacks memory before it began
  pub stopped_in_all : (session : HeldSession M) (command : ColumnCommand) (before : H) (asked : List GroupTextData) (refusals : ℕ) →
      ObeysInAllOn cuts hear part columns states did session command session before before asked asked refusals refusals (Err NoMemory)
  stopped_in_all session command before asked refusals =
      inl ((λ column inside. record { core = refl; cut_off = inl (refl, refl); unheard = refl }, inl refl), refl)

  -- one that came to this with nothing heard since
  pub obeys_unheard : (old new : HeldSession M) (command : ColumnCommand) (before after : H) (asked known : List GroupTextData) (refusals now : ℕ)
      (result : Result (Unit {0}) ApplyFault) → after ≡ before → now ≡ refusals →
      ObeysInAllOn cuts hear part columns states did old command new before before asked known refusals refusals result →
      ObeysInAllOn cuts hear part columns states did old command new before after asked known refusals now result
  obeys_unheard old new command before after asked known refusals now result same counted obeys =
      subst (λ (h : H). ObeysInAllOn cuts hear part columns states did old command new before h asked known refusals now result) (sym same)
      (subst (λ (n : ℕ). ObeysInAllOn cuts hear part columns states did old command new before before asked known refusals n result) (sym counted) obeys)

  -- ---- in fewer words

  -- what a command comes to with the stage it comes to without
  pub in_all_alone : (old new : HeldSession M) (command : ColumnCommand) (before after : H) (asked known : List GroupTextData) (refusals now : ℕ)
      (result : Result (Unit {0}) ApplyFault) →
      ObeysInAllOn cuts hear part columns states did old command new before after asked known refusals now result →
      ObeysInAll cuts hear part (columns old.stage) (column_of states old) command (column_of states new) before after asked known refusals now result
  in_all_alone old new command before after asked known refusals now (Ok done) obeys = (obeys.0.0, obeys.1)
  in_all_alone old new command before after asked known refusals now (Err (Refused refusal)) obeys = (obeys.0.0, obeys.1)
  in_all_alone old new command before after asked known refusals now (Err (GroupNodes node count)) obeys = (obeys.0.0, obeys.1)
  in_all_alone old new command before after asked known refusals now (Err (GroupSwitches node count)) obeys = (obeys.0.0, obeys.1)
  in_all_alone old new command before after asked known refusals now (Err WriteFault) obeys = obeys
  in_all_alone old new command before after asked known refusals now (Err NoMemory) (inl stopped) = inl (stopped.0.0, stopped.1)
  in_all_alone old new command before after asked known refusals now (Err NoMemory) (inr begun) = inr begun

-- ---- faults

module _ {H : Type 0} (cuts : Cuts) (hear : H → Told → H) (part : H → Told → H → Type 0) (columns : ℕ) where
  -- a fault that tells of a group names a node of the graph
  pub names_node_in_all : (old new : ℕ → SessionData) (command : ColumnCommand) (before after : H) (asked known : List GroupTextData) (refusals now : ℕ) →
      0 < columns → (result : Result (Unit {0}) ApplyFault) → ObeysInAll cuts hear part columns old command new before after asked known refusals now result →
      IfErr result (NamesNode (new 0).circuit.graph)
  names_node_in_all old new command before after asked known refusals now some (Ok done) obeys = tt
  names_node_in_all old new command before after asked known refusals now some (Err (Refused refusal)) obeys = tt
  names_node_in_all old new command before after asked known refusals now some (Err (GroupNodes node count)) (refuses, same) =
      let one = refuses 0 some in
      subst (λ (s : SessionData). node < nodes s.circuit.graph) (sym one.keeps.same)
      (told_node (old 0).large (old 0).circuit.graph (build.GroupNodes node count) node count one.first (inl refl))
  names_node_in_all old new command before after asked known refusals now some (Err (GroupSwitches node count)) (refuses, same) =
      let one = refuses 0 some in
      subst (λ (s : SessionData). node < nodes s.circuit.graph) (sym one.keeps.same)
      (told_node (old 0).large (old 0).circuit.graph (build.GroupSwitches node count) node count one.first (inr refl))
  names_node_in_all old new command before after asked known refusals now some (Err WriteFault) obeys = tt
  names_node_in_all old new command before after asked known refusals now some (Err NoMemory) obeys = tt

-- ---- letters

module _ {M : Type 0} (states : M → ℕ → List Tern) (columns : ℕ) (session : HeldSession M) (command : ColumnCommand) where
  -- a command whose first column is refused is refused so in each, and one that lacks memory leaves each as it was
  pub refused_in_all : (fault : ApplyFault) → IsFaultFor (refusal_of session.core (in_column 0 command)) fault →
      QuietlyInAll columns (column_of states session) command (column_of states session) (Err fault)
  refused_in_all fault is column inside =
      fault_quiet (column_of states session column) (in_column column command) fault
      (subst (λ (found : Option Refusal). IsFaultFor found fault)
      (sym (refused_alike session.core (states session.stage column) command column 0)) is)

-- letters that nodes were given are given in each column, which has its own
pub letters_in_all : {M : Type 0} (columns : M → ℕ) (states : M → ℕ → List Tern) (did : Act → M → M → Type 0)
    (moves : (act : Act) (old new : M) → did act old new → MovesColumns columns states act old new) (old new : HeldSession M) (kind : ValueCommand)
    (list : List (List ℕ × List Tern)) → refusal_of old.core (in_column 0 (Values kind list)) ≡ None → new.core ≡ record old.core { state = new.core.state } →
    Leads did old.stage (acts_of_letters old.core.circuit list) new.stage →
    QuietlyInAll (columns old.stage) (column_of states old) (Values kind list) (column_of states new) (Ok tt)
letters_in_all columns states did moves old new kind list allowed same leads column inside =
    let before = states old.stage column in
    let known = names_known old.core (columns old.stage) kind list allowed in
    let given = given_states old.core.circuit (map (value_in column) list) in
    record {
      allowed = refused_alike old.core before (Values kind list) column 0 ∙ allowed;
      effect = letters_effect old.core before column list known kind (column_of states new column)
          (column_data states new (record old.core { state = new.core.state }) column (assigned before given) same
          (letters_moved columns states did moves old.core.circuit list old.stage new.stage leads column inside));
    }

-- ---- steps and phases

module _ {H M : Type 0} (hear : H → Told → H) (part : H → Told → H → Type 0) (columns : M → ℕ) (states : M → ℕ → List Tern)
    (did : Act → M → M → Type 0)
    (old new : HeldSession M) (counts : List Settled) (before after : H) (result : Result (Unit {0}) ApplyFault)
    (sent : Hears hear part before after (waves_of (columns old.stage) (column_of states new) (count_in counts)) result) where
  -- the waveform lines of the columns, with these counts
  abbrev waves : ℕ → List Line
  waves = λ column. wave_in (column_of states new) (count_in counts) column ∷ []

  -- a command whose effect one act had in each column, with these lines, whose row was heard, or a part of it
  row_moves : (asked : Run) (act : Act) → ((column : ℕ) → column < columns old.stage → RunEffect (column_of states old column) asked (column_of states new column) (waves column)) →
      ((column : ℕ) → column < columns old.stage → DoesPart (column_of states old column) (family.Run asked) (column_of states new column)) →
      AreRunActsInAll (columns old.stage) old.core asked waves (act ∷ []) → did act old.stage new.stage →
      MovesInAll hear part columns states did asked old new before after result
  row_moves asked act effect part_of are done = by result sent
    where
      rows : AreRows (columns old.stage) waves (waves_of (columns old.stage) (column_of states new) (count_in counts))
      rows = rows-one (columns old.stage) (wave_in (column_of states new) (count_in counts))

      by : (told : Result (Unit {0}) ApplyFault) → Hears hear part before after (waves_of (columns old.stage) (column_of states new) (count_in counts)) told →
          MovesInAll hear part columns states did asked old new before after told
      by (Ok _) heard = record {
        lines = waves;
        each = effect;
        told = waves_of (columns old.stage) (column_of states new) (count_in counts);
        rows = rows;
        heard = heard;
        acts = act ∷ [];
        are = are;
        leads = leads_one did act old.stage new.stage done;
      }
      by (Err fault) heard = record {
        end = column_of states new;
        lines = waves;
        each = effect;
        told = waves_of (columns old.stage) (column_of states new) (count_in counts);
        rows = rows;
        heard = heard;
        done = part_of;
      }

  -- a unit step was taken in each column
  pub step_moves : StepInAll (columns old.stage) (column_of states old) (column_of states new) →
      ((column : ℕ) → column < columns old.stage → count_in counts column ≡ record { steps = 1; joined = false }) →
      did (Stepped old.core.circuit.graph) old.stage new.stage → MovesInAll hear part columns states did run.Step old new before after result
  step_moves steps single done =
      row_moves run.Step (Stepped old.core.circuit.graph) effect (λ column inside. (waves column, effect column inside)) refl done
    where
      effect : (column : ℕ) → column < columns old.stage → IsUnitStep (column_of states old column) (column_of states new column) (waves column)
      effect column inside =
          let one = steps.each column inside in
          record {
            next = one.next;
            step = one.step;
            moved = one.moved;
            wrote = ap (λ (c : Settled). wave_in (column_of states new) (λ k. c) column ∷ []) (single column inside);
          }

  -- each column settled
  pub phase_moves : SettledInAll (columns old.stage) (column_of states old) (column_of states new) (count_in counts) →
      length counts ≡ columns old.stage →
      did (Rested old.core.circuit.graph old.core.limit counts) old.stage new.stage → MovesInAll hear part columns states did run.Phase old new before after result
  phase_moves settled counted done =
      row_moves run.Phase (Rested old.core.circuit.graph old.core.limit counts) effect (λ column inside. (waves column, effect column inside))
      (Rested old.core.circuit.graph old.core.limit counts, rests, refl) done
    where
      effect : (column : ℕ) → column < columns old.stage → IsPhase (column_of states old column) (column_of states new column) (waves column)
      effect column inside =
          let one = settled.each column inside in
          record {
            next = one.next;
            steps = (count_in counts column).steps;
            joined = (count_in counts column).joined;
            settles = one.settles;
            moved = one.moved;
            wrote = refl;
          }

      rests : RestsInAll (columns old.stage) old.core.circuit.graph old.core.limit waves (Rested old.core.circuit.graph old.core.limit counts)
      rests = record {
        counts = counts;
        counted = counted;
        each = λ column inside. record { n = new.core.count; values = map (state_at (states new.stage column)) new.core.watched; line = refl };
        is = refl;
      }

-- ---- commands that have the circuit built

module _ {H M : Type 0} (cuts : Cuts) (hear : H → Told → H) (part : H → Told → H → Type 0) (columns : M → ℕ) (states : M → ℕ → List Tern)
    (did : Act → M → M → Type 0) (old : HeldSession M) (asked : Run) (allowed : refusal_of old.core (family.Run asked) ≡ None) where
  -- a group is too large: so it is in each column
  large_in_all : (new : HeldSession M) (before : H) (texts known : List GroupTextData) (fault : BuildFault) → TooLarge old new texts known fault →
      ((column : ℕ) → column < columns old.stage →
      RefusesSize (column_of states old column) (in_column column (Shared (family.Run asked))) (column_of states new column) before before texts known fault)
      × IsStill did old.stage new.stage
  large_in_all new before texts known fault large = (
    λ column inside.
        record {
          allowed = allowed;
          building = refl;
          first = large.first;
          keeps = record { same = ap (λ (s : HeldSession M). column_of states s column) large.same; unheard = refl; unasked = large.unasked };
        },
    inl (ap (λ (s : HeldSession M). s.stage) large.same),
  )

  -- one for which the circuit wasn't built
  pub unready_in_all : (new : HeldSession M) (before : H) (texts known : List GroupTextData) (refusals : ℕ) (fault : ApplyFault) →
      ReadiesBy cuts did old new texts known (Err fault) →
      ObeysInAllOn cuts hear part columns states did old (Shared (family.Run asked)) new before before texts known refusals refusals (Err fault)
  unready_in_all new before texts known refusals (Refused refusal) none = absurd none
  unready_in_all new before texts known refusals (GroupNodes node count) large = (large_in_all new before texts known (build.GroupNodes node count) large, refl)
  unready_in_all new before texts known refusals (GroupSwitches node count) large = (large_in_all new before texts known (build.GroupSwitches node count) large, refl)
  unready_in_all new before texts known refusals WriteFault none = absurd none
  unready_in_all new before texts known refusals NoMemory cut =
      inl (
        (
          λ column inside.
              record {
                core = column_data states new (record old.core { kept = new.core.kept }) column (states old.stage column) cut.core
                    (ap (λ (stage : M). states stage column) cut.stage);
                cut_off = inr cut.cut_off;
                unheard = refl;
              },
          inl cut.stage,
        ),
        refl,
      )

  module _ (mid : HeldSession M) (texts known : List GroupTextData) (ready : Readied did old mid texts known) (count : columns mid.stage ≡ columns old.stage)
      (still : (column : ℕ) → column < columns old.stage → states mid.stage column ≡ states old.stage column) where
    inside_built : (column : ℕ) → column < columns old.stage → column < columns mid.stage
    inside_built column inside = subst (λ (n : ℕ). column < n) (sym count) inside

    -- its effect was begun in each column behind the build, and the rows heard in part
    begun_in_all : (new : HeldSession M) (before after : H) (fault : ApplyFault) →
        MovesInAll hear part columns states did asked mid new before after (Err fault) →
        BeginsInAll hear part (columns old.stage) (column_of states old) (Shared (family.Run asked)) (column_of states new) before after texts known
    unfolding built_performs
    begun_in_all new before after fault moves = record {
      end = moves.end;
      told = moves.told;
      texts = ready.texts;
      performs = record {
        lines = moves.lines;
        each = λ column inside.
            built_performs (column_of states old column) (column_of states mid column) (moves.end column) (family.Run asked) (moves.lines column) ready.texts refl
            (column_built columns states did old mid texts known ready still column inside) allowed (moves.each column (inside_built column inside));
        rows = subst (λ (n : ℕ). AreRows n moves.lines moves.told) count moves.rows;
      };
      heard = moves.heard;
      done = λ column inside. moves.done column (inside_built column inside);
      analysed = ready.analysed;
    }

    -- it was done, or begun: the command is obeyed
    pub run_in_all : (new : HeldSession M) (before after : H) (refusals now : ℕ) (result : Result (Unit {0}) ApplyFault) →
        MovesInAll hear part columns states did asked mid new before after result → IfErr result IsSinkFault → now ≡ refusals_sent refusals result →
        ObeysInAllOn cuts hear part columns states did old (Shared (family.Run asked)) new before after texts known refusals now result
    run_in_all new before after refusals now (Ok done) moves cause counted = (
      (
        record {
          told = moves.told;
          texts = ready.texts;
          performs = record {
            lines = moves.lines;
            each = λ column inside.
                built_performs (column_of states old column) (column_of states mid column) (column_of states new column) (family.Run asked) (moves.lines column)
                ready.texts refl (column_built columns states did old mid texts known ready still column inside) allowed (moves.each column (inside_built column inside));
            rows = subst (λ (n : ℕ). AreRows n moves.lines moves.told) count moves.rows;
          };
          heard = moves.heard;
          analysed = ready.analysed;
        },
        record {
          mid = mid;
          same = built_same did old mid texts known ready;
          count = count;
          still = still;
          built = ready.built;
          lines = moves.lines;
          each = moves.each;
          acts = moves.acts;
          are = moves.are;
          leads = moves.leads;
        },
      ),
      counted,
    )
    run_in_all new before after refusals now (Err (Refused refusal)) moves cause counted = absurd cause
    run_in_all new before after refusals now (Err (GroupNodes node size)) moves cause counted = absurd cause
    run_in_all new before after refusals now (Err (GroupSwitches node size)) moves cause counted = absurd cause
    run_in_all new before after refusals now (Err WriteFault) moves cause counted = (begun_in_all new before after WriteFault moves, counted)
    run_in_all new before after refusals now (Err NoMemory) moves cause counted = inr (begun_in_all new before after NoMemory moves, counted)
