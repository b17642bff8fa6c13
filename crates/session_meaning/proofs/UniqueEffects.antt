-- A command has one effect on some data, and one alone is performed: its data, its lines and the texts that are analysed for it.
-- The plan: a step, a phase and a report are determined, since a state has one step and settles in one way, and a graph's groups have one list of
-- texts; a cycle is phases; each other command's effect is a function.
use Rattle.std.proofs.Common.{◌≡◌, ℕ, Bool, false, List, [], ◌∷◌, ◌++◌, length, refl, sym, ap, subst, ◌∙◌}
use Rattle.group_meaning.proofs.UniqueGroups.{unique}
use Rattle.switch_paths.proofs.UniqueSteps as step
use Rattle.settling.proofs.UniqueSettling.{settling_is_unique}
use Rattle.group_text.specs.Texts.{GroupTextData}
use Rattle.group_text.specs.FirstTexts.{first_texts}
use Rattle.script_lang.specs.declared.command.Command.{Command}
use Rattle.script_lang.specs.declared.command.Command.TheVariants as family
use Rattle.script_lang.specs.declared.command.Run.{Run}
use Rattle.script_lang.specs.declared.command.Run.TheVariants.{Step, Phase, Cycle, Report}
use Rattle.session_meaning.specs.Sessions.{SessionData, places_of}
use Rattle.session_meaning.specs.Preparing.{builds, BuildsIf}
use Rattle.told_lines.specs.Lines.{Line, Reported}
use Rattle.session_meaning.specs.Effects.{Effect, RunEffect, IsUnitStep, IsPhase, AreBeats, IsReported, moved_to, wave_by, with_beat, with_told, places_in}
use Rattle.session_meaning.specs.Outcomes.{Performs}
use Rattle.session_meaning.specs.Laws.{EffectsAreUnique, CommandsPerformOneThing}
use Rattle.session_meaning.proofs.UniqueBuilds.{HasTexts-unique, built_unique}

-- data and lines that are the same as others are the others
same_as : (to new other : SessionData) (wrote lines more : List Line) → (new ≡ to) × (lines ≡ wrote) → (other ≡ to) × (more ≡ wrote) →
    (new ≡ other) × (lines ≡ more)
same_as to new other wrote lines more one two = (one.0 ∙ sym two.0, one.1 ∙ sym two.1)

-- a unit step
step_unique : (old new other : SessionData) (lines more : List Line) → IsUnitStep old new lines → IsUnitStep old other more →
    (new ≡ other) × (lines ≡ more)
step_unique old new other lines more one two =
    let next : one.next ≡ two.next = step.unique old.circuit.graph old.state one.next two.next one.step two.step in
    let moved : new ≡ other = one.moved ∙ ap (moved_to old) next ∙ sym two.moved in
    (moved, one.wrote ∙ ap (λ (session : SessionData). wave_by session 1 false ∷ []) moved ∙ sym two.wrote)

-- a phase
phase_unique : (old new other : SessionData) (lines more : List Line) → IsPhase old new lines → IsPhase old other more →
    (new ≡ other) × (lines ≡ more)
phase_unique old new other lines more one two =
    let same = settling_is_unique old.circuit.graph old.state old.limit one.next two.next one.steps two.steps one.joined two.joined one.settles two.settles in
    let moved : new ≡ other = one.moved ∙ ap (moved_to old) same.0 ∙ sym two.moved in (
      moved,
      one.wrote ∙ ap (λ (session : SessionData). wave_by session one.steps one.joined ∷ []) moved
          ∙ ap (λ (steps : ℕ). wave_by other steps one.joined ∷ []) same.1 ∙ ap (λ (joined : Bool). wave_by other two.steps joined ∷ []) same.2
          ∙ sym two.wrote,
    )

-- the phases of a cycle
beats_unique : (places : List ℕ) (old new other : SessionData) (lines more : List Line) → AreBeats old places new lines → AreBeats old places other more →
    (new ≡ other) × (lines ≡ more)
beats_unique [] old new other lines more one two = same_as old new other [] lines more one two
beats_unique (place ∷ places) old new other lines more (mid, front, back, phase, beats, whole) (then, first, rest, settled, others, parts) =
    let here = phase_unique (with_beat old place) mid then front first phase settled in
    let later = beats_unique places mid new other back rest beats
    (subst (λ (session : SessionData). AreBeats session places other rest) (sym here.0) others) in (
      later.0,
      whole ∙ ap (λ (line : List Line). line ++ back) here.1 ∙ ap (λ (wrote : List Line). first ++ wrote) later.1 ∙ sym parts,
    )

-- a report
report_unique : (old new other : SessionData) (lines more : List Line) → IsReported old new lines → IsReported old other more →
    (new ≡ other) × (lines ≡ more)
report_unique old new other lines more one two =
    let texts : one.texts ≡ two.texts = HasTexts-unique old.large old.circuit.graph one.texts two.texts one.has two.has in
    let groups : length one.has.groups ≡ length two.has.groups =
    ap length (unique old.circuit.graph one.has.groups two.has.groups one.has.are two.has.are) in (
      one.moved ∙ sym two.moved,
      one.wrote
          ∙ ap (λ (count : ℕ). Reported count (length (first_texts one.texts)) old.fresh ∷ []) groups
          ∙ ap (λ (all : List GroupTextData). Reported (length two.has.groups) (length (first_texts all)) old.fresh ∷ []) texts
          ∙ sym two.wrote,
    )

-- so a command that has the circuit built has one effect
run_unique : (old new other : SessionData) (run : Run) (lines more : List Line) → RunEffect old run new lines → RunEffect old run other more →
    (new ≡ other) × (lines ≡ more)
run_unique old new other Step lines more one two = step_unique old new other lines more one two
run_unique old new other Phase lines more one two = phase_unique old new other lines more one two
run_unique old new other (Cycle times) lines more one two =
    beats_unique (places_in (places_of old.clocks) times) old new other lines more one two
run_unique old new other Report lines more one two = report_unique old new other lines more one two

-- and so has any other, whose effect is a function
pub effect_unique : EffectsAreUnique
effect_unique old new other (family.Edit edit) lines more one two = same_as _ new other [] lines more one two
effect_unique old new other (family.Give give) lines more one two = same_as _ new other [] lines more one two
effect_unique old new other (family.Setup setup) lines more one two = same_as _ new other [] lines more one two
effect_unique old new other (family.Run run) lines more one two = run_unique old new other run lines more one two
effect_unique old new other (family.Tell tell) lines more one two =
    let same : lines ≡ more = one.1 ∙ sym two.1 in (one.0 ∙ ap (with_told old) same ∙ sym two.0, same)

-- and what two performances of it come to is the same, by its two names
pub record IsOnePerformance (new other : SessionData) (lines more : List Line) (texts others : List GroupTextData) : Type 0 where
  pub end : new ≡ other
  pub wrote : lines ≡ more
  pub analysed : texts ≡ others

pub performs_unique : (old new other : SessionData) (command asked : Command) (lines more : List Line) (texts others : List GroupTextData) →
    Performs old command new lines texts → Performs old asked other more others → command ≡ asked → IsOnePerformance new other lines more texts others
performs_unique old new other command asked lines more texts others one two same =
    let built = built_unique (builds command) old one.mid two.mid texts others one.prepares
    (subst (λ (it : Command). BuildsIf (builds it) old two.mid others) (sym same) two.prepares) in
    let effect : Effect one.mid command other more =
    subst (λ (session : SessionData). Effect session command other more) (sym built.0)
    (subst (λ (it : Command). Effect two.mid it other more) (sym same) two.does.effect) in
    let did = effect_unique one.mid new other command lines more one.does.effect effect in
    record { end = did.0; wrote = did.1; analysed = built.1 }

-- so it comes to one thing
pub performs_one : CommandsPerformOneThing
performs_one old new other command lines more texts others one two =
    let same = performs_unique old new other command command lines more texts others one two refl in (same.end, same.wrote, same.analysed)
