-- A machine that is led from graph to graph between runs: where its run is over, where it starts again, and where it was led and finished.
use Rattle.std.proofs.Common.{◌≡◌, ℕ, ◌↔◌, true, false, List, length, Option, None, Some, refl, sym, ap, subst, ◌∙◌}
use Rattle.std.specs.Prelude.{IfSome, is_some}
use Rattle.ternary.specs.declared.tern.Tern.{Tern}
use Rattle.switch_paths.specs.Graphs.{GraphData}
use Rattle.switch_paths.specs.Rails.{IsSound}
use Rattle.group_text.specs.Texts.{GroupTextData}
use Rattle.vicinity.specs.NodeSets.{NodeSetData}
use Rattle.machine_parts.specs.Parts.{HasMember}
use Rattle.machine_laws.specs.Machines.{MachineData}
use Rattle.machine_laws.specs.Fitting.{Covers, IsKeptBy}
use Rattle.machine_laws.specs.Editing.{KeepsCoded}
use Rattle.unit_step.specs.Restarting.{MarksParts, Restarts}
use Rattle.edits_between.specs.Leading.{CodedAreAlike, DifferAt, EarlyAreAlike, LedBy, last_in}
use Rattle.beside.specs.Fitting.{all_marked}
use Rattle.beside_run.specs.Running.{HasLater}
use Rattle.beside_run.proofs.RunningLemmas.{marked_is}
use Rattle.beside_run.proofs.TouchingLemmas.{alike_finished}
use Rattle.fault_stage.specs.declared.built.Built.{Built}
use Rattle.fault_stage.specs.declared.waiting.LastRun.{LastRun}
use Rattle.fault_stage.specs.Runs.{IsBuilt, IsCovered, IsCoveredIn, IsLastRun, IsLed, IsLedIn, IsTouched}
use Rattle.fault_stage.specs.Stages.{texts_in}
use Rattle.fault_stage.proofs.CourseLemmas.{fits_anyway}
use Rattle.fault_stage.proofs.KnownLemmas.{known_held}

-- the texts of a last build are told in one way and in the other
pub texts_same : (slot : Option MachineData) → texts_in slot ≡ last_in slot
texts_same None = refl
texts_same (Some machine) = refl

-- where a run is over, with all its parts marked the machine covers its graph
pub covered_ended : (b : Built) (new : MachineData) → IsBuilt b → length b.machine.marks ≡ length b.machine.parts → MarksParts b.machine new →
    IsCovered b.graph new
covered_ended b new built counted marks =
    let is : new ≡ all_marked b.machine = marked_is b.machine new counted marks in
    let fits = fits_anyway b.good b.graph b.machine b.state.items b.course built.goes in
    subst (IsCovered b.graph) (sym is) (record { covers = fits.covers; known = built.known; sound = fits.sound })

-- and its texts are those of its last build
pub last_ended : (old new : MachineData) → MarksParts old new → new.last ≡ old.last
last_ended old new marks = ap (λ (m : MachineData). m.last) marks.rest

-- it starts again in another state
pub covered_again : (g : GraphData) (state : List Tern) (old new : MachineData) → IsCovered g old → IsSound state → Restarts g state old new →
    IsCoveredIn g state new
covered_again g state old new covered sound restarts = record {
  covered = record {
    covers = restarts.covers covered.covers;
    known = known_held g old new restarts.held restarts.build.last covered.known;
    sound = subst IsSound (sym restarts.state_is) sound;
  };
  state_is = restarts.state_is;
}

-- what it covers then
pub covers_again : (g : GraphData) (state : List Tern) (slot : Option MachineData) → IfSome slot (IsCoveredIn g state) → IfSome slot (Covers g)
covers_again g state None covered = tt
covers_again g state (Some machine) covered = covered.covered.covers

-- it was led
pub led_there : (f g h : GraphData) (count : ℕ) (state : List Tern) (old new : Option MachineData) → IsSound state → IfSome old (IsCoveredIn f state) →
    is_some new ≡ true → LedBy f g h count old new → IsLedIn g h count state new
led_there f g h count state None new sound covered there (none, alike, early) = absurd (let is : is_some new ≡ false = ap is_some none in cc (is, there))
led_there f g h count state (Some old) new sound covered there ((machine, is, led), alike, early) =
    let known : IsKeptBy h old.last machine = led.known old.last covered.covered.known in
    let state_is = led.state ∙ covered.state_is in
    record {
      machine = machine;
      there = is;
      led = record {
        covered = record {
          covers = led.covers;
          known = subst (λ (texts : List GroupTextData). IsKeptBy h texts machine) (sym led.last) known;
          sound = subst IsSound (sym state_is) sound;
        };
        state_is = state_is;
        alike = subst (λ (slot : Option MachineData). IfSome slot (CodedAreAlike g h)) is alike;
        early = subst (λ (slot : Option MachineData). IfSome slot (EarlyAreAlike g count h)) is early;
      };
    }

-- so it covers the graph that it was led to
pub last_run_led : (l : LastRun) (g : GraphData) (count : ℕ) (state : List Tern) → l.graph ≡ g → IsLedIn l.good.graph g count state l.machine →
    DifferAt g l.good.graph l.apart → IsLastRun l
last_run_led l g count state graph led apart covered = record {
  machine = subst (λ (slot : Option MachineData). IfSome slot (IsCovered l.graph)) (sym led.there)
      (subst (λ (f : GraphData). IsCovered f led.machine) (sym graph) led.led.covered);
  apart = subst (λ (f : GraphData). DifferAt f l.good.graph l.apart) (sym graph) apart;
}

-- the machine that is there was led
pub led_machine : (base g : GraphData) (count : ℕ) (state : List Tern) (found : Option MachineData) (machine : MachineData) → found ≡ Some machine →
    IsLedIn base g count state found → IsLed base g count state machine
led_machine base g count state found machine is led =
    let same : Some led.machine ≡ Some machine = sym led.there ∙ is in
    let one : led.machine ≡ machine = cc in
    subst (IsLed base g count state) one led.led

-- and there is one
pub led_some : (base g : GraphData) (count : ℕ) (state : List Tern) (found : Option MachineData) → found ≡ None → IsLedIn base g count state found → ⊥
led_some base g count state found none led = let same : Some led.machine ≡ None = sym led.there ∙ none in absurd (cc (same))

-- once it was finished, the parts that it had there stand alike in both graphs
pub touched_finished : (base g : GraphData) (count : ℕ) (state : List Tern) (m new : MachineData) (touched : NodeSetData) → IsLed base g count state m →
    HasLater count m touched → length m.marks ≡ length m.parts → length new.marks ≡ length new.parts → KeepsCoded m new →
    ((k node : ℕ) → HasMember new.parts k node ↔ HasMember m.parts k node) → IsTouched base g new touched
touched_finished base g count state m new touched led has counted counted_new keeps members =
    let same : length new.parts ≡ length m.parts = sym counted_new ∙ ap length keeps.marks ∙ counted in record {
      counted = has.counted ∙ sym same;
      alike = alike_finished base g count m new touched led.early led.covered.covers has same members;
    }

-- where it is known which these are
pub touched_if : (base g : GraphData) (count : ℕ) (state : List Tern) (m new : MachineData) (found : Option NodeSetData) → IsLed base g count state m →
    IfSome found (HasLater count m) → length m.marks ≡ length m.parts → length new.marks ≡ length new.parts → KeepsCoded m new →
    ((k node : ℕ) → HasMember new.parts k node ↔ HasMember m.parts k node) → IfSome found (IsTouched base g new)
touched_if base g count state m new None led has counted counted_new keeps members = tt
touched_if base g count state m new (Some touched) led has counted counted_new keeps members =
    touched_finished base g count state m new touched led has counted counted_new keeps members

-- its texts are those of the machine that was there
pub texts_led : (old found : Option MachineData) (machine : MachineData) → found ≡ Some machine → texts_in found ≡ texts_in old → machine.last ≡ texts_in old
texts_led old found machine is same = ap texts_in (sym is) ∙ same
