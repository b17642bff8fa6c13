-- Outcomes: a command whose effect was done, and whose lines were heard or a part of them, is obeyed; and what a build before it comes to.
use Rattle.std.proofs.Common.{◌≡◌, ℕ, ◌<◌, Bool, true, false, List, [], ◌++◌, None, Ok, Err, refl, sym, ap, subst, ◌∙◌, inl, inr, append-nil}
use Rattle.std.specs.Prelude.{Option, Result, OnOk, OnErr, IfErr}
use Rattle.switch_paths.specs.Graphs.{nodes}
use Rattle.circuit_texts.specs.declared.texts.BuildFault.TheVariants as build
use Rattle.group_text.specs.Texts.{GroupTextData}
use Rattle.script_lang.specs.declared.command.Command.{Command}
use Rattle.script_lang.specs.declared.command.Command.TheVariants as family
use Rattle.session_meaning.specs.declared.fault.Refusal.{Refusal}
use Rattle.session_meaning.specs.declared.fault.ApplyFault.{ApplyFault}
use Rattle.session_meaning.specs.declared.fault.ApplyFault.TheVariants.{Refused, GroupNodes, GroupSwitches, WriteFault, NoMemory}
use Rattle.session_meaning.specs.Sessions.{SessionData, HeldSession}
use Rattle.session_meaning.specs.Refusals.{refusal_of}
use Rattle.session_meaning.specs.Preparing.{builds, with_present, IsBuild, IsFaultFor, BuildsIf, Prepares, NamesNode}
use Rattle.told_lines.specs.Lines.{Line, Told}
use Rattle.session_meaning.specs.Effects.{Effect}
use Rattle.session_meaning.specs.Sinks.{IsSinkFault, faults_with, refusals_sent, refusals_with}
use Rattle.column_stage.specs.Acts.{Act, Reserved}
use Rattle.session_meaning.specs.Outcomes.{Performs, DoesPart, Begins, Obeys, Quietly, Sent}
use Rattle.session_meaning.specs.Stages.{IsStageAfter, IsStill, ObeysOn}
use Rattle.circuit_texts.proofs.SizeLemmas.{told_node}

-- what holds anyhow holds where all went well
pub on_ok : {T E : Type 0} (P : Type 0) (result : Result T E) → P → OnOk result P
on_ok P (Ok done) holds = holds
on_ok P (Err fault) holds = tt

pub on_ok-map : {T E : Type 0} (P Q : Type 0) (result : Result T E) → (P → Q) → OnOk result P → OnOk result Q
on_ok-map P Q (Ok done) leads holds = leads holds
on_ok-map P Q (Err fault) leads holds = tt

-- a stage to which nothing was done is as it was
pub still_yet : {M : Type 0} (did : Act → M → M → Type 0) (stage : M) → IsStill did stage stage
still_yet did stage = inl refl

-- so is one in which room was taken, but for the room
pub still_roomed : {M : Type 0} (did : Act → M → M → Type 0) (old new : M) → did Reserved old new → IsStill did old new
still_roomed did old new done = inr done

-- so is one that is the same where a call didn't go well, or anyhow
pub still_after : {M T E : Type 0} (did : Act → M → M → Type 0) (old new : M) (result : Result T E) → OnErr result (new ≡ old) →
    OnErr result (IsStill did old new)
still_after did old new (Ok done) same = tt
still_after did old new (Err fault) same = inl same

pub still_always : {M T E : Type 0} (did : Act → M → M → Type 0) (old new : M) (result : Result T E) → new ≡ old → OnErr result (IsStill did old new)
still_always did old new (Ok done) same = tt
still_always did old new (Err fault) same = inl same

-- ---- builds

-- no refusal asks what is kept
refusal_of-with_present : (session : SessionData) (command : Command) (present : List GroupTextData) →
    refusal_of (with_present session present) command ≡ refusal_of session command
refusal_of-with_present session (family.Edit edit) present = refl
refusal_of-with_present session command present = refl

-- so a build changes no refusal
pub refusal_of-built : (old mid : SessionData) (command : Command) (texts : List GroupTextData) → IsBuild old mid texts →
    refusal_of mid command ≡ refusal_of old command
refusal_of-built old mid command texts build =
    ap (λ (session : SessionData). refusal_of session command) build.used ∙ refusal_of-with_present old command build.present

-- a command that builds is prepared by a build
pub prepared : (old mid : SessionData) (command : Command) (texts : List GroupTextData) → builds command ≡ true → IsBuild old mid texts →
    Prepares old command mid texts
prepared old mid command texts building build = subst (λ (does : Bool). BuildsIf does old mid texts) (sym building) build

-- any other by nothing
unprepared : (session : SessionData) (command : Command) → builds command ≡ false → Prepares session command session []
unprepared session command still = subst (λ (does : Bool). BuildsIf does session session []) (sym still) (refl, refl)

-- a build, and then the command
unfoldable pub built_performs : (old mid new : SessionData) (command : Command) (lines : List Line) (texts : List GroupTextData) →
    builds command ≡ true → IsBuild old mid texts → refusal_of old command ≡ None → Effect mid command new lines → Performs old command new lines texts
built_performs old mid new command lines texts building build allowed effect = record {
  mid = mid;
  prepares = prepared old mid command texts building build;
  does = record { allowed = refusal_of-built old mid command texts build ∙ allowed; effect = effect };
}

-- the command alone
pub still_performs : (old new : SessionData) (command : Command) (lines : List Line) → builds command ≡ false → refusal_of old command ≡ None →
    Effect old command new lines → Performs old command new lines []
still_performs old new command lines still allowed effect =
    record { mid = old; prepares = unprepared old command still; does = record { allowed = allowed; effect = effect } }

-- ---- what is obeyed

-- a command that isn't done for its refusal, or for lack of memory, changes nothing
pub fault_quiet : (session : SessionData) (command : Command) (fault : ApplyFault) → IsFaultFor (refusal_of session command) fault →
    Quietly session command session (Err fault)
fault_quiet session command (Refused refusal) is = (is, refl)
fault_quiet session command (GroupNodes node count) is = absurd is
fault_quiet session command (GroupSwitches node count) is = absurd is
fault_quiet session command WriteFault is = absurd is
fault_quiet session command NoMemory is = refl

-- the same if the data are as before, and the fault is given by another name
pub fault_kept : (session new : SessionData) (command : Command) (fault told : ApplyFault) → new ≡ session → told ≡ fault →
    IsFaultFor (refusal_of session command) fault → Quietly session command new (Err told)
fault_kept session new command fault told same tells is =
    subst (λ (other : ApplyFault). Quietly session command new (Err other)) (sym tells)
    (subst (λ (other : SessionData). Quietly session command other (Err fault)) (sym same) (fault_quiet session command fault is))

-- it is no fault of the hearer
pub fault_uncounted : (found : Option Refusal) (fault : ApplyFault) (faults : ℕ) → IsFaultFor found fault → faults ≡ faults_with faults fault
fault_uncounted found (Refused refusal) faults is = refl
fault_uncounted found (GroupNodes node count) faults is = absurd is
fault_uncounted found (GroupSwitches node count) faults is = absurd is
fault_uncounted found WriteFault faults is = absurd is
fault_uncounted found NoMemory faults is = refl

module _ {H M : Type 0} (hear : H → Told → H) (part : H → Told → H → Type 0) (did : Act → M → M → Type 0) where
  -- the hearer ended a command that was begun: the command is obeyed
  begun_obeys : (old new : HeldSession M) (command : Command) (before after : H) (asked told : List GroupTextData) (refusals now : ℕ) (fault : ApplyFault) →
      Begins hear part old.core command new.core before after asked told → IsSinkFault fault → now ≡ refusals_with refusals fault →
      ObeysOn hear part did old command new before after asked told refusals now (Err fault)
  begun_obeys old new command before after asked told refusals now (Refused refusal) begun cause counted = absurd cause
  begun_obeys old new command before after asked told refusals now (GroupNodes node count) begun cause counted = absurd cause
  begun_obeys old new command before after asked told refusals now (GroupSwitches node count) begun cause counted = absurd cause
  begun_obeys old new command before after asked told refusals now WriteFault begun cause counted = (begun, counted)
  begun_obeys old new command before after asked told refusals now NoMemory begun cause counted = inr (begun, counted)

  -- a command was performed and its lines were heard, or the hearer ended that: the command is obeyed
  sent_obeys : (old new : HeldSession M) (command : Command) (lines : List Line) (texts : List GroupTextData) (before after : H)
      (asked told : List GroupTextData) (refusals now : ℕ) (result : Result (Unit {0}) ApplyFault) →
      (performs : Performs old.core command new.core lines texts) → DoesPart performs.mid command new.core → told ≡ asked ++ texts →
      Sent hear part before after lines result → IfErr result IsSinkFault → now ≡ refusals_sent refusals result →
      OnOk result (IsStageAfter did old command new) → ObeysOn hear part did old command new before after asked told refusals now result
  sent_obeys old new command lines texts before after asked told refusals now (Ok finished) performs done analysed sent cause counted later =
      ((record { lines = lines; texts = texts; performs = performs; heard = sent; analysed = analysed }, later), counted)
  sent_obeys old new command lines texts before after asked told refusals now (Err fault) performs done analysed sent cause counted later =
      begun_obeys old new command before after asked told refusals now fault
      (record { end = new.core; lines = lines; texts = texts; performs = performs; heard = sent; done = done; analysed = analysed }) cause counted

  -- so it is where nothing is built before it
  pub still_obeys : (old new : HeldSession M) (command : Command) (lines : List Line) (before after : H) (texts : List GroupTextData)
      (refusals now : ℕ) (result : Result (Unit {0}) ApplyFault) → builds command ≡ false → refusal_of old.core command ≡ None →
      Effect old.core command new.core lines → DoesPart old.core command new.core → Sent hear part before after lines result →
      IfErr result IsSinkFault → now ≡ refusals_sent refusals result → IsStageAfter did old command new →
      ObeysOn hear part did old command new before after texts texts refusals now result
  unfolding still_performs
  still_obeys old new command lines before after texts refusals now result still allowed effect done sent cause counted later =
      sent_obeys old new command lines [] before after texts texts refusals now result
      (still_performs old.core new.core command lines still allowed effect) done (sym (append-nil texts)) sent cause counted
      (on_ok (IsStageAfter did old command new) result later)

  -- and where it tells nothing
  pub quiet_obeys : (old new : HeldSession M) (command : Command) (before : H) (texts : List GroupTextData) (refusals : ℕ)
      (result : Result (Unit {0}) ApplyFault) → builds command ≡ false → Quietly old.core command new.core result →
      OnOk result (IsStageAfter did old command new) → OnErr result (IsStill did old.stage new.stage) →
      ObeysOn hear part did old command new before before texts texts refusals refusals result
  quiet_obeys old new command before texts refusals (Ok done) still quiet later stays = (
    (
      record {
        lines = [];
        texts = [];
        performs = still_performs old.core new.core command [] still quiet.allowed quiet.effect;
        heard = refl;
        analysed = sym (append-nil texts);
      },
      later,
    ),
    refl,
  )
  quiet_obeys old new command before texts refusals (Err (Refused refusal)) still quiet later stays =
      ((record { cause = quiet.0; keeps = record { same = quiet.1; unheard = refl; unasked = refl } }, stays), refl)
  quiet_obeys old new command before texts refusals (Err (GroupNodes node count)) still quiet later stays = absurd quiet
  quiet_obeys old new command before texts refusals (Err (GroupSwitches node count)) still quiet later stays = absurd quiet
  quiet_obeys old new command before texts refusals (Err WriteFault) still quiet later stays = absurd quiet
  quiet_obeys old new command before texts refusals (Err NoMemory) still quiet later stays =
      inl (
        (
          record {
            core = subst (λ (s : SessionData). s ≡ record old.core { kept = s.kept }) (sym quiet) refl;
            cut_off = inl (ap (λ (s : SessionData). s.kept) quiet, refl);
            unheard = refl;
          },
          stays,
        ),
        refl,
      )

  -- a command that isn't done for its refusal, or for lack of memory, is obeyed so
  pub fault_obeys : (session : HeldSession M) (command : Command) (before : H) (texts : List GroupTextData) (refusals : ℕ) (fault : ApplyFault) →
      IsFaultFor (refusal_of session.core command) fault →
      ObeysOn hear part did session command session before before texts texts refusals refusals (Err fault)
  fault_obeys session command before texts refusals (Refused refusal) is =
      ((record { cause = is; keeps = record { same = refl; unheard = refl; unasked = refl } }, inl refl), refl)
  fault_obeys session command before texts refusals (GroupNodes node count) is = absurd is
  fault_obeys session command before texts refusals (GroupSwitches node count) is = absurd is
  fault_obeys session command before texts refusals WriteFault is = absurd is
  fault_obeys session command before texts refusals NoMemory is =
      inl ((record { core = refl; cut_off = inl (refl, refl); unheard = refl }, inl refl), refl)

  -- so is one that lacks memory before it began
  pub stopped_obeys : (session : HeldSession M) (command : Command) (before : H) (texts : List GroupTextData) (refusals : ℕ) →
      ObeysOn hear part did session command session before before texts texts refusals refusals (Err NoMemory)
  stopped_obeys session command before texts refusals = fault_obeys session command before texts refusals NoMemory tt

  -- what a command comes to with the stage it comes to without
  pub obeys_alone : (old new : HeldSession M) (command : Command) (before after : H) (asked told : List GroupTextData) (refusals now : ℕ)
      (result : Result (Unit {0}) ApplyFault) → ObeysOn hear part did old command new before after asked told refusals now result →
      Obeys hear part old.core command new.core before after asked told refusals now result
  obeys_alone old new command before after asked told refusals now (Ok done) obeys = (obeys.0.0, obeys.1)
  obeys_alone old new command before after asked told refusals now (Err (Refused refusal)) obeys = (obeys.0.0, obeys.1)
  obeys_alone old new command before after asked told refusals now (Err (GroupNodes node count)) obeys = (obeys.0.0, obeys.1)
  obeys_alone old new command before after asked told refusals now (Err (GroupSwitches node count)) obeys = (obeys.0.0, obeys.1)
  obeys_alone old new command before after asked told refusals now (Err WriteFault) obeys = obeys
  obeys_alone old new command before after asked told refusals now (Err NoMemory) (inl stopped) = inl (stopped.0.0, stopped.1)
  obeys_alone old new command before after asked told refusals now (Err NoMemory) (inr begun) = inr begun

-- a fault that tells of a group names a node of the graph
module _ {H : Type 0} (hear : H → Told → H) (part : H → Told → H → Type 0) where
  pub names_node : (old new : SessionData) (command : Command) (before after : H) (asked told : List GroupTextData) (refusals now : ℕ)
      (result : Result (Unit {0}) ApplyFault) → Obeys hear part old command new before after asked told refusals now result →
      IfErr result (NamesNode new.circuit.graph)
  names_node old new command before after asked told refusals now (Ok done) obeys = tt
  names_node old new command before after asked told refusals now (Err (Refused refusal)) obeys = tt
  names_node old new command before after asked told refusals now (Err (GroupNodes node count)) obeys =
      subst (λ (session : SessionData). node < nodes session.circuit.graph) (sym obeys.0.keeps.same)
      (told_node old.large old.circuit.graph (build.GroupNodes node count) node count obeys.0.first (inl refl))
  names_node old new command before after asked told refusals now (Err (GroupSwitches node count)) obeys =
      subst (λ (session : SessionData). node < nodes session.circuit.graph) (sym obeys.0.keeps.same)
      (told_node old.large old.circuit.graph (build.GroupSwitches node count) node count obeys.0.first (inr refl))
  names_node old new command before after asked told refusals now (Err WriteFault) obeys = tt
  names_node old new command before after asked told refusals now (Err NoMemory) obeys = tt
