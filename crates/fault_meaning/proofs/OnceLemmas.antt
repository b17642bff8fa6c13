-- No text of a group is analysed twice for a list of faults.
-- The plan: a build has no text analysed that is kept, and without a bound keeps what it has analysed; no command lets go of what is kept, and
-- none but `keep` bounds it; and each run goes on from what the last one keeps.
use Rattle.std.proofs.Common.{◌≡◌, ◌≢◌, ℕ, ◌⊎◌, inl, inr, Bool, true, false, ◌||◌, List, [], ◌∷◌, ◌++◌, All, Option, Some, None, option_map, Result, Ok, Err, refl, sym, ap, subst, ◌∙◌, append_assoc, append-nil, true≢false}
use Rattle.std.specs.List.{IsDistinct}
use Rattle.std.proofs.lemmas.List.Elements.{All-nil, All-cons, All-head, All-tail}
use Rattle.std.proofs.lemmas.List.Folds.{list_any-append}
use Rattle.std.proofs.lemmas.Map.Keys.{IsDistinct-push}
use Rattle.std.proofs.lemmas.Map.Made.{AllPairs-from_IsDistinct}
use Rattle.ternary.specs.declared.tern.Tern.{Tern}
use Rattle.switch_paths.specs.declared.switching.SwitchKind.TheVariants.{Always}
use Rattle.line_words.specs.Files.{cut_line, lines_in}
use Rattle.netlist.specs.Circuits.{CircuitData, called}
use Rattle.group_text.specs.Texts.{GroupTextData}
use Rattle.group_text.specs.Compared.{same_text, same_text_decides, same_text_equivalence}
use Rattle.group_text.specs.FirstTexts.{is_among, new_texts}
use Rattle.group_analysis.specs.Using.{used_texts, kept_after}
use Rattle.analysis_cache.proofs.NewTextLemmas.{new_texts-new, new_texts-known, is_among-kept}
use Rattle.analysis_cache.proofs.UseLemmas.{is_among-used}
use Rattle.script_lang.specs.declared.command.Command.{Command}
use Rattle.script_lang.specs.declared.command.Command.TheVariants as family
use Rattle.script_lang.specs.declared.command.Edit.TheVariants.{Input, Del, Kind}
use Rattle.script_lang.specs.declared.command.Give.TheVariants.{Set}
use Rattle.script_lang.specs.declared.value.Value.TheVariants.{Letter}
use Rattle.script_lang.specs.declared.command.Setup.{Setup}
use Rattle.script_lang.specs.declared.command.Setup.TheVariants.{Clock, Keep, Widen}
use Rattle.script_lang.specs.declared.command.ScriptFault.{ScriptFault}
use Rattle.script_lang.specs.Commands.{reading_of}
use Rattle.session_meaning.specs.Sessions.{SessionData}
use Rattle.session_meaning.specs.Preparing.{BuildsIf, builds}
use Rattle.told_lines.specs.Lines.{Line}
use Rattle.session_meaning.specs.Effects.{Effect, setup_after}
use Rattle.session_meaning.specs.Outcomes.{Performs}
use Rattle.session_meaning.proofs.LeavingLemmas.{run_leaves, setup_leaves}
use Rattle.run_ends.specs.Answers.{Answer}
use Rattle.script_meaning.specs.Runs.{Outcome, Runs, ends, passes, obeys, refuses}
use Rattle.fault_sim.specs.declared.fault.Fault.{Fault}
use Rattle.fault_sim.specs.declared.fault.Fault.TheVariants.{Open, Closed, Stuck}
use Rattle.fault_sim.specs.Traces.{Trace}
use Rattle.fault_sim.specs.Masks.{masked_edit, masked_give, masked_setup, masked_of, masked_reading_by, masked_reading}
use Rattle.fault_meaning.specs.declared.listed.ListedFault.{ListedFault}
use Rattle.fault_meaning.specs.declared.listed.ListRefusal.{ListRefusal}
use Rattle.fault_meaning.specs.Early.{sets_bound, unsettles}
use Rattle.fault_meaning.specs.Lists.{faults_in}
use Rattle.fault_meaning.specs.Laws.{AsksNoBound, NeverKeeps, TextsAreAnalysedOnce}
use Rattle.fault_meaning.specs.Traces.{start_with, commands_under, stuck_under, AreDone, RunsUnder}
use Rattle.fault_meaning.specs.Judging.{LineVerdict, AreJudged, no_fault, one_more, TellsVerdicts, TellsRefused, AnswersList}

-- ---- either of two

or_true : (a b : Bool) → a ≡ true → (a || b) ≡ true
or_true true b is = refl
or_true false b is = absurd cc

or_all : (a : Bool) → (a || true) ≡ true
or_all true = refl
or_all false = refl

or_false : (a b : Bool) → (a || b) ≡ false → b ≡ false
or_false true b is = absurd cc
or_false false b is = is

or_none : (a : Bool) → (a || false) ≡ a
or_none true = refl
or_none false = refl

or_swap : (a b : Bool) → (a || b) ≡ (b || a)
or_swap true true = refl
or_swap true false = refl
or_swap false true = refl
or_swap false false = refl

or_assoc : (a b c : Bool) → ((a || b) || c) ≡ (a || (b || c))
or_assoc true b c = refl
or_assoc false b c = refl

-- no text stands twice
abbrev StandOnce : List GroupTextData → Type 0
StandOnce texts = IsDistinct same_text texts

none : StandOnce []
unfolding IsDistinct
none = tt

-- ---- a build

-- what is among some texts is among those
abbrev pub Within : List GroupTextData → List GroupTextData → Type 0
Within told kept = (text : GroupTextData) → is_among told text ≡ true → is_among kept text ≡ true

-- a text that isn't among two lists is in neither
apart_both : (told kept fresh : List GroupTextData) (text : GroupTextData) → Within told kept → is_among (kept ++ fresh) text ≡ false →
    is_among (told ++ fresh) text ≡ false
apart_both told kept fresh text within is =
    list_any-append (same_text text) told fresh
    ∙ by (is_among told text) refl (within text) (sym (list_any-append (same_text text) kept fresh) ∙ is)
  where
    by : (here : Bool) → is_among told text ≡ here → (is_among told text ≡ true → is_among kept text ≡ true) →
        (is_among kept text || is_among fresh text) ≡ false → (here || is_among fresh text) ≡ false
    by true there inside neither = absurd (true≢false (sym (or_true (is_among kept text) (is_among fresh text) (inside there)) ∙ neither))
    by false there inside neither = or_false (is_among kept text) (is_among fresh text) neither

-- of texts behind others, those that are new stand once behind what was told, which is kept, with the new ones before
new_once : (told kept front back : List GroupTextData) → Within told kept → StandOnce (told ++ new_texts kept front) →
    StandOnce (told ++ new_texts kept (front ++ back))
new_once told kept front [] within once = subst (λ texts. StandOnce (told ++ new_texts kept texts)) (sym (append-nil front)) once
new_once told kept front (text ∷ back) within once =
    subst (λ texts. StandOnce (told ++ new_texts kept texts)) (append_assoc front (text ∷ []) back)
    (new_once told kept (front ++ text ∷ []) back within (more (is_among (kept ++ new_texts kept front) text) refl))
  where
    more : (known : Bool) → is_among (kept ++ new_texts kept front) text ≡ known → StandOnce (told ++ new_texts kept (front ++ text ∷ []))
    more true is = subst (λ new. StandOnce (told ++ new)) (sym (new_texts-known kept front text is)) once
    more false is =
        subst (λ new. StandOnce (told ++ new)) (sym (new_texts-new kept front text [] is))
        (subst StandOnce (append_assoc told (new_texts kept front) (text ∷ []))
        (IsDistinct-push same_text_equivalence (told ++ new_texts kept front) text once (apart_both told kept (new_texts kept front) text within is)))

-- what is kept afterwards is what was kept, and these texts, which stand once behind any that are told and kept before
pub record IsOnce (kept texts new : List GroupTextData) : Type 0 where
  pub among : (text : GroupTextData) → is_among new text ≡ (is_among kept text || is_among texts text)
  pub once : (told : List GroupTextData) → Within told kept → StandOnce told → StandOnce (told ++ texts)

none_new : (kept new : List GroupTextData) → new ≡ kept → IsOnce kept [] new
none_new kept new same = record {
  among = λ text. ap (λ list. is_among list text) same ∙ sym (or_none (is_among kept text));
  once = λ told within once. subst StandOnce (sym (append-nil told)) once;
}

-- what was told is kept still, and so is what is told behind it
within_next : (kept texts new told : List GroupTextData) → IsOnce kept texts new → Within told kept → Within (told ++ texts) new
within_next kept texts new told is within text there =
    is.among text ∙ by (is_among told text) refl (within text) (sym (list_any-append (same_text text) told texts) ∙ there)
  where
    by : (here : Bool) → is_among told text ≡ here → (is_among told text ≡ true → is_among kept text ≡ true) → (here || is_among texts text) ≡ true →
        (is_among kept text || is_among texts text) ≡ true
    by true was inside some = or_true (is_among kept text) (is_among texts text) (inside was)
    by false was inside some = ap (λ b. is_among kept text || b) some ∙ or_all (is_among kept text)

-- after some texts and then more
both_new : (kept some mid more new : List GroupTextData) → IsOnce kept some mid → IsOnce mid more new → IsOnce kept (some ++ more) new
both_new kept some mid more new first second = record {
  among = λ text.
      second.among text ∙ ap (λ b. b || is_among more text) (first.among text)
      ∙ or_assoc (is_among kept text) (is_among some text) (is_among more text)
      ∙ ap (λ b. is_among kept text || b) (sym (list_any-append (same_text text) some more));
  once = λ told within once.
      subst StandOnce (append_assoc told some more)
      (second.once (told ++ some) (within_next kept some mid told first within) (first.once told within once));
}

-- ---- a command

-- it is `keep`
abbrev pub is_keep : Setup → Bool
is_keep (Keep number) = true
is_keep other = false

-- the command is `keep`
abbrev pub bounds : Command → Bool
bounds (family.Setup setup) = is_keep setup
bounds other = false

never_bounds : (command : Command) → ((number : ℕ) → command ≢ family.Setup (Keep number)) → bounds command ≡ false
never_bounds (family.Setup (Keep number)) never = absurd (never number refl)
never_bounds (family.Setup other) never = refl
never_bounds other never = refl

-- no other command sets a bound on what is kept
set_unbound : (old : SessionData) (setup : Setup) → is_keep setup ≡ false → (setup_after old setup).bound ≡ old.bound
set_unbound old (Keep number) never = absurd cc
set_unbound old other never = refl

-- nor does one that is no `wide` either set any bound
pub set_unbounded : (old : SessionData) (setup : Setup) → sets_bound setup ≡ false →
    ((setup_after old setup).bound ≡ old.bound) × ((setup_after old setup).large ≡ old.large)
set_unbounded old (Keep number) never = absurd cc
set_unbounded old (Widen number) never = absurd cc
set_unbounded old other never = (refl, refl)

effect_unbound : (old new : SessionData) (command : Command) (lines : List Line) → bounds command ≡ false → Effect old command new lines →
    new.bound ≡ old.bound
effect_unbound old new (family.Edit edit) lines never effect = ap (λ (session : SessionData). session.bound) effect.0
effect_unbound old new (family.Give give) lines never effect = ap (λ (session : SessionData). session.bound) effect.0
effect_unbound old new (family.Setup setup) lines never effect = ap (λ (session : SessionData). session.bound) effect.0 ∙ set_unbound old setup never
effect_unbound old new (family.Run run) lines never effect = (run_leaves old new run lines effect).bound
effect_unbound old new (family.Tell tell) lines never effect = ap (λ (session : SessionData). session.bound) effect.0

-- no effect lets go of what is kept, or adds to it
effect_keeps : (old new : SessionData) (command : Command) (lines : List Line) → Effect old command new lines → new.kept ≡ old.kept
effect_keeps old new (family.Edit edit) lines effect = ap (λ (session : SessionData). session.kept) effect.0
effect_keeps old new (family.Give give) lines effect = ap (λ (session : SessionData). session.kept) effect.0
effect_keeps old new (family.Setup setup) lines effect = ap (λ (session : SessionData). session.kept) effect.0 ∙ (setup_leaves old setup).kept
effect_keeps old new (family.Run run) lines effect = (run_leaves old new run lines effect).kept
effect_keeps old new (family.Tell tell) lines effect = ap (λ (session : SessionData). session.kept) effect.0

prepares_once : (does : Bool) (old mid : SessionData) (texts : List GroupTextData) → old.bound ≡ None → BuildsIf does old mid texts →
    IsOnce old.kept texts mid.kept
prepares_once true old mid texts free build =
    let present = build.present in
    let used : mid.kept ≡ used_texts present old.kept =
    ap (λ (session : SessionData). session.kept) build.used ∙ ap (λ (bound : Option ℕ). kept_after bound present old.kept) free in
    subst (λ fresh. IsOnce old.kept fresh mid.kept) (sym build.news) (record {
      among = λ text.
          ap (λ list. is_among list text) used ∙ is_among-used present old.kept text
          ∙ or_swap (is_among present text) (is_among old.kept text)
          ∙ sym (sym (list_any-append (same_text text) old.kept (new_texts old.kept present)) ∙ is_among-kept old.kept present text);
      once = λ told within once. new_once told old.kept [] present within (subst StandOnce (sym (append-nil told)) once);
    })
prepares_once false old mid texts free still =
    subst (λ none. IsOnce old.kept none mid.kept) (sym still.1) (none_new old.kept mid.kept (ap (λ (session : SessionData). session.kept) still.0))

prepares_unbound : (does : Bool) (old mid : SessionData) (texts : List GroupTextData) → BuildsIf does old mid texts → mid.bound ≡ old.bound
prepares_unbound true old mid texts build = ap (λ (session : SessionData). session.bound) build.used
prepares_unbound false old mid texts still = ap (λ (session : SessionData). session.bound) still.0

performs_once : (old new : SessionData) (command : Command) (lines : List Line) (texts : List GroupTextData) → old.bound ≡ None →
    bounds command ≡ false → Performs old command new lines texts → IsOnce old.kept texts new.kept × (new.bound ≡ None)
performs_once old new command lines texts free never performs =
    let built = prepares_once (builds command) old performs.mid texts free performs.prepares in
    let same = effect_keeps performs.mid new command lines performs.does.effect in (
      subst (IsOnce old.kept texts) (sym same) built,
      effect_unbound performs.mid new command lines never performs.does.effect
          ∙ prepares_unbound (builds command) old performs.mid texts performs.prepares ∙ free,
    )

-- ---- the commands of a script that asks for no bound

-- what is left of a command under a stuck node asks for a bound exactly if the command does, and so it is with unsettling what is built
pub record IsMaskAlike (command masked : Command) : Type 0 where
  pub bound : bounds masked ≡ bounds command
  pub unsettled : unsettles masked ≡ unsettles command

in_family : {X : Type 0} (whole : X → Command) (left : Option X) (masked : Command) → option_map whole left ≡ Some masked → (x : X) × (masked ≡ whole x)
in_family whole None masked is = absurd cc
in_family whole (Some x) masked is = (x, cc)

setup_masked : (c : CircuitData) (stuck : Option (ℕ × Tern)) (setup : Setup) → sets_bound (masked_setup c stuck setup) ≡ sets_bound setup
setup_masked c stuck (Clock list) = refl
setup_masked c stuck other = refl

keep_masked : (c : CircuitData) (stuck : Option (ℕ × Tern)) (setup : Setup) → is_keep (masked_setup c stuck setup) ≡ is_keep setup
keep_masked c stuck (Clock list) = refl
keep_masked c stuck other = refl

pub mask_alike : (c : CircuitData) (vectors : List (List ℕ × List ℕ)) (stuck : Option (ℕ × Tern)) (command masked : Command) →
    masked_of c vectors stuck command ≡ Some masked →
    IsMaskAlike command masked
mask_alike c vectors stuck (family.Edit edit) masked is =
    let left = in_family family.Edit (masked_edit c stuck edit) masked is in record { bound = ap bounds left.1; unsettled = ap unsettles left.1 }
mask_alike c vectors stuck (family.Give give) masked is =
    let left = in_family family.Give (masked_give c vectors stuck give) masked is in record { bound = ap bounds left.1; unsettled = ap unsettles left.1 }
mask_alike c vectors stuck (family.Setup setup) masked is =
    let e : masked ≡ family.Setup (masked_setup c stuck setup) = cc in
    record { bound = ap bounds e ∙ keep_masked c stuck setup; unsettled = ap unsettles e ∙ setup_masked c stuck setup }
mask_alike c vectors stuck (family.Run run) masked is =
    let e : masked ≡ family.Run run = cc in record { bound = ap bounds e; unsettled = ap unsettles e }
mask_alike c vectors stuck (family.Tell tell) masked is =
    let e : masked ≡ family.Tell tell = cc in record { bound = ap bounds e; unsettled = ap unsettles e }

-- a line asks for none if no line of the script does
asked_never : (c : CircuitData) (vectors : List (List ℕ × List ℕ)) (stuck : Option (ℕ × Tern)) (read : Result (Option Command) ScriptFault)
    (command : Command) → ((number : ℕ) → read ≢ Ok (Some (family.Setup (Keep number)))) → masked_reading_by c vectors stuck read ≡ Ok (Some command) →
    bounds command ≡ false
asked_never c vectors stuck (Ok None) command never asked = absurd cc
asked_never c vectors stuck (Ok (Some plain)) command never asked =
    let is : masked_of c vectors stuck plain ≡ Some command = cc in
    (mask_alike c vectors stuck plain command is).bound ∙ never_bounds plain (λ bound same. never bound (ap (λ (one : Command). Ok (Some one)) same))
asked_never c vectors stuck (Err fault) command never asked = absurd cc

-- ---- a run

runs_once : (stuck : Option (ℕ × Tern)) (cut : Option ℕ) (session : SessionData) (lines : List (ℕ × List ℕ)) (outcome : Outcome) →
    session.bound ≡ None → All AsksNoBound lines → Runs (masked_reading stuck) cut session lines outcome →
    IsOnce session.kept outcome.texts outcome.end.kept
runs_once stuck cut _ _ _ free never (ends session) = none_new session.kept session.kept refl
runs_once stuck cut _ _ _ free never (passes session line lines rest idle runs) =
    runs_once stuck cut session lines rest free (All-tail AsksNoBound line lines never) runs
runs_once stuck cut _ _ _ free never (obeys session new line lines command wrote texts rest asks performs runs) =
    let here = asked_never session.circuit session.vectors stuck (reading_of line.1) command (All-head AsksNoBound line lines never) asks.asked in
    let first = performs_once session new command wrote texts free here performs in
    both_new session.kept texts new.kept rest.texts rest.end.kept first.0
    (runs_once stuck cut new lines rest first.1 (All-tail AsksNoBound line lines never) runs)
runs_once stuck cut _ _ _ free never (refuses session line lines cause is) = none_new session.kept session.kept refl

-- ---- the commands of a fault

abbrev Never : Command → Type 0
Never command = bounds command ≡ false

commands_never : (c : CircuitData) (fault : Option Fault) → All Never (commands_under c fault)
commands_never c None = All-nil Never
commands_never c (Some (Open place)) = All-cons Never (family.Edit (Del place)) [] refl (All-nil Never)
commands_never c (Some (Closed place)) = All-cons Never (family.Edit (Kind place Always)) [] refl (All-nil Never)
commands_never c (Some (Stuck node state)) =
    All-cons Never (family.Edit (Input (called c node ∷ []))) (family.Give (Set ((called c node, Letter state) ∷ [])) ∷ []) refl
    (All-cons Never (family.Give (Set ((called c node, Letter state) ∷ []))) [] refl (All-nil Never))

done_keeps : (commands : List Command) (old new : SessionData) → All Never commands → AreDone old commands new →
    (new.kept ≡ old.kept) × (new.bound ≡ old.bound)
done_keeps [] old new never same = (ap (λ (session : SessionData). session.kept) same, ap (λ (session : SessionData). session.bound) same)
done_keeps (command ∷ commands) old new never (mid, does, done) =
    let rest = done_keeps commands mid new (All-tail Never command commands never) done in (
      rest.0 ∙ effect_keeps old mid command [] does.effect,
      rest.1 ∙ effect_unbound old mid command [] (All-head Never command commands never) does.effect,
    )

under_once : (c : CircuitData) (script : List ℕ) (kept : List GroupTextData) (fault : Option Fault) (outcome : Outcome) → NeverKeeps script →
    RunsUnder c script kept fault outcome → IsOnce kept outcome.texts outcome.end.kept
under_once c script kept fault outcome never under =
    let same = done_keeps (commands_under c fault) (start_with c kept) under.start (commands_never c fault) under.begins in
    subst (λ before. IsOnce before outcome.texts outcome.end.kept) same.0
    (runs_once (stuck_under fault) (cut_line script) under.start (lines_in script) outcome same.1 never under.runs)

-- ---- all runs

judged_once : (c : CircuitData) (script : List ℕ) (good : Trace) (kept : List GroupTextData) (faults : List ListedFault) (judged : List LineVerdict)
    (texts told : List GroupTextData) → NeverKeeps script → Within told kept → StandOnce told → AreJudged c script good kept faults judged texts →
    StandOnce (told ++ texts)
judged_once c script good _ _ _ _ told never within once (no_fault kept) = subst StandOnce (sym (append-nil told)) once
judged_once c script good _ _ _ _ told never within once (one_more kept after listed faults bad verdict judged texts more is judges rest) =
    let ran : IsOnce kept texts after =
    subst (λ fresh. IsOnce kept fresh after) (sym is.analysed)
    (subst (IsOnce kept is.outcome.texts) (sym is.left) (under_once c script kept (Some listed.fault) is.outcome never is.runs)) in
    subst StandOnce (append_assoc told texts more)
    (judged_once c script good after faults judged more (told ++ texts) never (within_next kept texts after told ran within) (ran.once told within once) rest)

told_once : (c : CircuitData) (script : List ℕ) (faults : List ListedFault) (outcome : Outcome) (answer : Answer) → NeverKeeps script →
    RunsUnder c script [] None outcome → TellsVerdicts c script faults outcome answer ⊎ TellsRefused outcome answer → StandOnce answer.texts
told_once c script faults outcome answer never runs tells =
    let ran = under_once c script [] None outcome never runs in
    let within : Within [] [] = λ text there. there in
    let once : StandOnce outcome.texts = ran.once [] within none in
    by tells (within_next [] outcome.texts outcome.end.kept [] ran within) once
  where
    by : TellsVerdicts c script faults outcome answer ⊎ TellsRefused outcome answer → Within outcome.texts outcome.end.kept → StandOnce outcome.texts →
        StandOnce answer.texts
    by (inl tells) within once =
        subst StandOnce (sym (ap (λ (told : Answer). told.texts) tells.told))
        (judged_once c script tells.good outcome.end.kept faults tells.judged tells.texts outcome.texts never within once tells.are)
    by (inr refused) within once = subst StandOnce (sym (ap (λ (told : Answer). told.texts) refused.told)) once

answers_once : (c : CircuitData) (script : List ℕ) (read : Result (List ListedFault) ListRefusal) (answer : Answer) → NeverKeeps script →
    AnswersList c script read answer → StandOnce answer.texts
answers_once c script (Ok faults) answer never judges = told_once c script faults judges.outcome answer never judges.runs judges.tells
answers_once c script (Err refusal) answer never refused = subst StandOnce (sym (ap (λ (told : Answer). told.texts) refused)) none

pub analysed_once : TextsAreAnalysedOnce
analysed_once script list circuit answer never right =
    AllPairs-from_IsDistinct same_text_decides answer.texts (answers_once circuit script (faults_in circuit list) answer never right)
