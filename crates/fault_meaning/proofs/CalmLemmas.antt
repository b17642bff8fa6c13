-- Once the circuit is built, calm lines have nothing analysed, and leave what is kept.
-- The plan: a build puts the present texts in front of what is kept, where a further build finds them; and no effect of a calm command
-- changes the circuit, a bound or what is kept. While a node is stuck a line stays calm, and one that builds still builds.
use Rattle.std.proofs.Common.{◌≡◌, ℕ, Bool, true, false, inl, inr, List, [], ◌++◌, All, Option, Some, None, Result, Ok, Err, refl, sym, ap, subst, ◌∙◌}
use Rattle.std.proofs.lemmas.List.Elements.{All-head, All-tail}
use Rattle.ternary.specs.declared.tern.Tern.{Tern}
use Rattle.netlist.specs.Circuits.{CircuitData}
use Rattle.group_text.specs.Texts.{GroupTextData}
use Rattle.group_text.specs.FirstTexts.{new_texts}
use Rattle.group_analysis.specs.Using.{kept_after}
use Rattle.analysis_cache.proofs.SettleLemmas.{none_is_new_again, kept_after-again}
use Rattle.circuit_texts.specs.Building.{HasTexts}
use Rattle.script_lang.specs.declared.command.Command.{Command}
use Rattle.script_lang.specs.declared.command.Command.TheVariants as family
use Rattle.script_lang.specs.declared.command.ScriptFault.{ScriptFault}
use Rattle.script_lang.specs.Commands.{reading_of}
use Rattle.session_meaning.specs.Sessions.{SessionData}
use Rattle.session_meaning.specs.Preparing.{IsBuild, BuildsIf, builds}
use Rattle.told_lines.specs.Lines.{Line, Told}
use Rattle.session_meaning.specs.Effects.{Effect}
use Rattle.session_meaning.specs.Outcomes.{Performs}
use Rattle.session_meaning.proofs.LeavingLemmas.{run_leaves, setup_leaves}
use Rattle.session_meaning.proofs.UniqueBuilds.{HasTexts-unique}
use Rattle.script_meaning.specs.Runs.{Outcome, Runs, ends, passes, obeys, refuses}
use Rattle.script_meaning.specs.declared.turn.Turn.TheVariants.{Accepted}
use Rattle.script_meaning.specs.Turns.{TakesTurn}
use Rattle.fault_sim.specs.Masks.{masked_of, masked_reading_by, masked_reading}
use Rattle.fault_meaning.specs.Early.{unsettles, IsCalm, IsBuilding}
use Rattle.fault_meaning.proofs.OnceLemmas.{mask_alike, set_unbounded}

-- ---- builds

-- a build would find no new text, and leave what is kept
pub record IsCurrent (session : SessionData) : Type 0 where
  pub present : List GroupTextData
  pub has : HasTexts session.large session.circuit.graph present
  pub known : new_texts session.kept present ≡ []
  pub same : kept_after session.bound present session.kept ≡ session.kept

-- so it is after a build
built_current : (old mid : SessionData) (texts : List GroupTextData) → IsBuild old mid texts → IsCurrent mid
built_current old mid texts build =
    subst IsCurrent (sym build.used) (record {
      present = build.present;
      has = build.has;
      known = none_is_new_again old.bound build.present old.kept;
      same = kept_after-again old.bound build.present old.kept;
    })

-- ---- effects

-- the circuit, both bounds and what is kept are as before
record LeavesBuilt (old new : SessionData) : Type 0 where
  circuit : new.circuit ≡ old.circuit
  bound : new.bound ≡ old.bound
  large : new.large ≡ old.large
  kept : new.kept ≡ old.kept

-- where the new data are the old ones but for what isn't among these
leaves_by : (old new next : SessionData) → new ≡ next → LeavesBuilt old next → LeavesBuilt old new
leaves_by old new next same left = subst (LeavesBuilt old) (sym same) left

-- so it is after the effect of a command that doesn't unsettle them
effect_leaves : (old new : SessionData) (command : Command) (lines : List Line) → unsettles command ≡ false → Effect old command new lines →
    LeavesBuilt old new
effect_leaves old new (family.Edit edit) lines calm effect = absurd (cc)
effect_leaves old new (family.Give give) lines calm effect = leaves_by old new _ effect.0 (record { circuit = refl; bound = refl; large = refl; kept = refl })
effect_leaves old new (family.Setup setup) lines calm effect =
    let left = setup_leaves old setup in
    let bounds = set_unbounded old setup calm in
    leaves_by old new _ effect.0 (record { circuit = left.circuit; bound = bounds.0; large = bounds.1; kept = left.kept })
effect_leaves old new (family.Run run) lines calm effect =
    let left = run_leaves old new run lines effect in record { circuit = left.circuit; bound = left.bound; large = left.large; kept = left.kept }
effect_leaves old new (family.Tell tell) lines calm effect = leaves_by old new _ effect.0 (record { circuit = refl; bound = refl; large = refl; kept = refl })

left_current : (old new : SessionData) → LeavesBuilt old new → IsCurrent old → IsCurrent new
left_current old new left current = record {
  present = current.present;
  has = subst (λ (large : ℕ). HasTexts large new.circuit.graph current.present) (sym left.large)
      (subst (λ (circuit : CircuitData). HasTexts old.large circuit.graph current.present) (sym left.circuit) current.has);
  known = ap (λ kept. new_texts kept current.present) left.kept ∙ current.known;
  same = ap (λ (bound : Option ℕ). kept_after bound current.present new.kept) left.bound
      ∙ ap (kept_after old.bound current.present) left.kept ∙ current.same ∙ sym left.kept;
}

-- ---- commands

-- a command that builds unsettles nothing
building_calm : (command : Command) → builds command ≡ true → unsettles command ≡ false
building_calm (family.Run run) building = refl
building_calm other building = absurd (cc)

-- so a line that builds is calm
pub building_line : (line : List ℕ) → IsBuilding line → IsCalm line
building_line line is command asked =
    let both = sym is.asked ∙ asked in
    let same : is.command ≡ command = cc in
    subst (λ one. unsettles one ≡ false) same (building_calm is.command is.building)

-- after a command that builds a build would find nothing new
performs_built : (old new : SessionData) (command : Command) (lines : List Line) (texts : List GroupTextData) → builds command ≡ true →
    Performs old command new lines texts → IsCurrent new
performs_built old new command lines texts building performs =
    let build = subst (λ does. BuildsIf does old performs.mid texts) building performs.prepares in
    let left = effect_leaves performs.mid new command lines (building_calm command building) performs.does.effect in
    left_current performs.mid new left (built_current old performs.mid texts build)

-- nothing was analysed, what is kept is as before, and a build would find nothing new
record GoesOn (old new : SessionData) (texts : List GroupTextData) : Type 0 where
  current : IsCurrent new
  none : texts ≡ []
  kept : new.kept ≡ old.kept

prepares_calm : (does : Bool) (old mid : SessionData) (texts : List GroupTextData) → IsCurrent old → BuildsIf does old mid texts → GoesOn old mid texts
prepares_calm true old mid texts current build =
    let present : build.present ≡ current.present = HasTexts-unique old.large old.circuit.graph build.present current.present build.has current.has in
    record {
      current = built_current old mid texts build;
      none = build.news ∙ ap (new_texts old.kept) present ∙ current.known;
      kept = ap (λ (session : SessionData). session.kept) build.used ∙ ap (λ texts. kept_after old.bound texts old.kept) present ∙ current.same;
    }
prepares_calm false old mid texts current still = record {
  current = subst IsCurrent (sym still.0) current;
  none = still.1;
  kept = ap (λ (session : SessionData). session.kept) still.0;
}

performs_calm : (old new : SessionData) (command : Command) (lines : List Line) (texts : List GroupTextData) → IsCurrent old → unsettles command ≡ false →
    Performs old command new lines texts → GoesOn old new texts
performs_calm old new command lines texts current calm performs =
    let first = prepares_calm (builds command) old performs.mid texts current performs.prepares in
    let left = effect_leaves performs.mid new command lines calm performs.does.effect in
    record {
      current = left_current performs.mid new left first.current;
      none = first.none;
      kept = left.kept ∙ first.kept;
    }

-- ---- while a node is stuck

-- what a calm line asks for is calm
asked_calm : (c : CircuitData) (vectors : List (List ℕ × List ℕ)) (stuck : Option (ℕ × Tern)) (line : List ℕ) (command : Command) → IsCalm line →
    masked_reading stuck c vectors line ≡ Ok (Some command) → unsettles command ≡ false
asked_calm c vectors stuck line command calm asked = by (reading_of line) refl asked
  where
    by : (read : Result (Option Command) ScriptFault) → reading_of line ≡ read → masked_reading_by c vectors stuck read ≡ Ok (Some command) →
        unsettles command ≡ false
    by (Ok None) is gives = absurd (cc)
    by (Ok (Some plain)) is gives =
        let masked : masked_of c vectors stuck plain ≡ Some command = cc in
        (mask_alike c vectors stuck plain command masked).unsettled ∙ calm plain is
    by (Err fault) is gives = absurd (cc)

-- a command that builds stays as it is
masked_building : (c : CircuitData) (vectors : List (List ℕ × List ℕ)) (stuck : Option (ℕ × Tern)) (command : Command) → builds command ≡ true →
    masked_of c vectors stuck command ≡ Some command
masked_building c vectors stuck (family.Run run) building = refl
masked_building c vectors stuck other building = absurd (cc)

-- so a line that builds asks for its command still
asked_building : (c : CircuitData) (vectors : List (List ℕ × List ℕ)) (stuck : Option (ℕ × Tern)) (line : List ℕ) (is : IsBuilding line) →
    masked_reading stuck c vectors line ≡ Ok (Some is.command)
asked_building c vectors stuck line is =
    ap (masked_reading_by c vectors stuck) is.asked ∙ ap Ok (masked_building c vectors stuck is.command is.building)

-- ---- lines

module _ {H : Type 0} (hear : H → Told → H) (part : H → Told → H → Type 0) (stuck : Option (ℕ × Tern)) (cut : Option ℕ) (old new : SessionData)
    (line : ℕ × List ℕ) (before after : H) (asked told : List GroupTextData) where
  -- what one line comes to that is obeyed: where it builds, a build would find nothing new then
  pub line_built : IsBuilding line.1 → TakesTurn hear part (masked_reading stuck) cut line old new before after asked told (Ok Accepted) → IsCurrent new
  line_built is (inl passed) =
      let nothing = sym passed.idle.nothing ∙ asked_building old.circuit old.vectors stuck line.1 is in
      absurd (cc)
  line_built is (inr follows) =
      let both = sym follows.asks.asked ∙ asked_building old.circuit old.vectors stuck line.1 is in
      let same : is.command ≡ follows.command = cc in
      performs_built old new follows.command follows.accepts.lines follows.accepts.texts
      (subst (λ command. builds command ≡ true) same is.building) follows.accepts.performs

  -- and where it is calm, that stays so
  pub line_calm : IsCalm line.1 → IsCurrent old →
      TakesTurn hear part (masked_reading stuck) cut line old new before after asked told (Ok Accepted) → IsCurrent new
  line_calm calm current (inl passed) = subst (λ (session : SessionData). IsCurrent session) (sym passed.keeps.same) current
  line_calm calm current (inr follows) =
      (performs_calm old new follows.command follows.accepts.lines follows.accepts.texts current
      (asked_calm old.circuit old.vectors stuck line.1 follows.command calm follows.asks.asked) follows.accepts.performs).current

-- all lines: nothing is analysed, and what is kept stays
pub runs_calm : (stuck : Option (ℕ × Tern)) (cut : Option ℕ) (session : SessionData) (lines : List (ℕ × List ℕ)) (outcome : Outcome) →
    IsCurrent session → All (λ (line : ℕ × List ℕ). IsCalm line.1) lines → Runs (masked_reading stuck) cut session lines outcome →
    (outcome.texts ≡ []) × (outcome.end.kept ≡ session.kept)
runs_calm stuck cut _ _ _ current calm (ends session) = (refl, refl)
runs_calm stuck cut _ _ _ current calm (passes session line lines rest idle runs) =
    runs_calm stuck cut session lines rest current (All-tail (λ (one : ℕ × List ℕ). IsCalm one.1) line lines calm) runs
runs_calm stuck cut _ _ _ current calm (obeys session new line lines command wrote texts rest asks performs runs) =
    let here = All-head (λ (one : ℕ × List ℕ). IsCalm one.1) line lines calm in
    let settled = asked_calm session.circuit session.vectors stuck line.1 command here asks.asked in
    let goes = performs_calm session new command wrote texts current settled performs in
    let left = runs_calm stuck cut new lines rest goes.current (All-tail (λ (one : ℕ × List ℕ). IsCalm one.1) line lines calm) runs in (
      ap (λ (first : List GroupTextData). first ++ rest.texts) goes.none ∙ left.0,
      left.1 ∙ goes.kept,
    )
runs_calm stuck cut _ _ _ current calm (refuses session line lines cause is) = (refl, refl)
