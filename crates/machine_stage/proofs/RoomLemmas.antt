-- What holds of a machine holds of it without its room, and the other way round: no fact but the room itself speaks of it.
use Rattle.std.proofs.Common.{◌≡◌, ℕ, ◌<◌, Bool, false, List, Option, Some, None, refl, sym, ap, subst, ◌∙◌, rules}
use Rattle.ternary.specs.declared.tern.Tern.{Tern}
use Rattle.switch_paths.specs.Graphs.{GraphData}
use Rattle.channel_groups.specs.declared.change.Change.{Change}
use Rattle.machine_parts.specs.Parts.{HasMember}
use Rattle.machine_laws.specs.Machines.{MachineData, Places, IsAtRest}
use Rattle.machine_laws.specs.Fitting.{Covers, FitsGraph}
use Rattle.machine_laws.specs.Editing.{Edits, Finishes, StaysKnown}
use Rattle.machine_stage.specs.declared.stage.Held.{Held}
use Rattle.machine_stage.specs.declared.stage.Held.TheVariants.{Built}
use Rattle.machine_stage.specs.Held.{machine_held}
use Rattle.machine_stage.specs.Machines.{FitsIn, without_room}
use Rattle.machine_stage.specs.Stages.{BuiltFrom, MovesBy, PutsNode, TakesStep, TakesPhase}

-- another amount of room
abbrev roomed : MachineData → ℕ → MachineData
roomed machine spare = record machine { spare = spare }

-- a machine covers what it covers with any room
pub covers-roomed : (g : GraphData) (machine : MachineData) (spare : ℕ) → Covers g machine → Covers g (roomed machine spare)
covers-roomed g machine spare covers = search rules

-- and fits what it fits
pub fits-roomed : (g : GraphData) (machine : MachineData) (spare : ℕ) → FitsGraph g machine → FitsGraph g (roomed machine spare)
fits-roomed g machine spare fits = search rules

-- a machine without its room covers and fits what it does with it
pub covers-told : (g : GraphData) (machine : MachineData) → Covers g machine → Covers g (without_room machine)
covers-told g machine covers = covers-roomed g machine 0 covers

pub covers-whole : (g : GraphData) (machine : MachineData) → Covers g (without_room machine) → Covers g machine
covers-whole g machine covers = covers-roomed g (without_room machine) machine.spare covers

pub fits-told : (g : GraphData) (machine : MachineData) → FitsGraph g machine → FitsGraph g (without_room machine)
fits-told g machine fits = fits-roomed g machine 0 fits

pub fits-whole : (g : GraphData) (machine : MachineData) → FitsGraph g (without_room machine) → FitsGraph g machine
fits-whole g machine fits = fits-roomed g (without_room machine) machine.spare fits

-- a node is placed in it
pub places-told : (node : ℕ) (value : Tern) (old new : MachineData) → Places node value old new → Places node value (without_room old) (without_room new)
places-told node value old new places = search rules

pub puts_told : (g : GraphData) (node : ℕ) (value : Tern) (old new : MachineData) → Places node value old new → (Covers g old → Covers g new) →
    (FitsGraph g old → FitsGraph g new) → (((k : ℕ) → ¬ HasMember old.parts k node) → new.placed ≡ old.placed) →
    PutsNode g node value (without_room old) (without_room new)
puts_told g node value old new places covers fits unplaced = record {
  places = places-told node value old new places;
  covers = λ before. covers-told g new (covers (covers-whole g old before));
  fits = λ before. fits-told g new (fits (fits-whole g old before));
  unplaced = unplaced;
}

-- the machine that is there, without its room, fits with it
pub fits_inside : (g : GraphData) (machine : MachineData) → FitsIn g (Some (without_room machine)) → FitsGraph g machine
fits_inside g machine built =
    let same : Some built.machine ≡ Some (without_room machine) = sym built.there in
    let is : built.machine ≡ without_room machine = cc in
    fits-whole g machine (subst (FitsGraph g) is built.fits)

-- of what is held, the machine that is there fits with its room
pub held_fits : (g : GraphData) (machine : MachineData) (held : Held) (found : Option MachineData) → held ≡ Built machine → machine_held held ≡ found →
    FitsIn g found → FitsGraph g machine
held_fits g machine held found is there fits = fits_inside g machine (subst (FitsIn g) (sym there ∙ ap machine_held is) fits)

-- and a state that stands alone is no machine that fits
pub alone_fits : (g : GraphData) (held : Held) (found : Option MachineData) → machine_held held ≡ None → machine_held held ≡ found → FitsIn g found → ⊥
alone_fits g held found is there fits =
    let none : None ≡ Some fits.machine = sym is ∙ (there ∙ fits.there) in
    absurd (cc (none))

-- it moves
pub held_moves : (Leads : MachineData → MachineData → Type 0) (old new : MachineData) (before after : ℕ) → Leads (without_room old) (without_room new) →
    MovesBy Leads (record { state = old.state; machine = Some (without_room old); spare = before })
    (record { state = new.state; machine = Some (without_room new); spare = after })
held_moves Leads old new before after leads =
    record { before = without_room old; after = without_room new; was = refl; there = refl; from = refl; to = refl; leads = leads }

-- its stale parts got their codes
pub built_finished : (large : ℕ) (g : GraphData) (old new : MachineData) (before after : ℕ) → Finishes g old new → StaysKnown large old new →
    BuiltFrom large g (record { state = old.state; machine = Some (without_room old); spare = before })
    (record { state = new.state; machine = Some (without_room new); spare = after })
built_finished large g old new before after finishes stays = record {
  machine = without_room new;
  there = refl;
  fits = fits-told g new finishes.fits;
  same = finishes.state;
  state = finishes.state;
  moves = finishes.moves;
  placed = finishes.placed;
  stays = stays;
}

-- or it was built
pub built_anew : (large : ℕ) (g : GraphData) (state : List Tern) (machine : MachineData) (before after : ℕ) → FitsGraph g machine →
    machine.state ≡ state → machine.moves ≡ 0 → machine.placed ≡ 0 →
    BuiltFrom large g (record { state = state; machine = None; spare = before })
    (record { state = machine.state; machine = Some (without_room machine); spare = after })
built_anew large g state machine before after fits same moves placed = record {
  machine = without_room machine;
  there = refl;
  fits = fits-told g machine fits;
  same = same;
  state = same;
  moves = moves;
  placed = placed;
  stays = tt;
}

-- it takes steps and phases
pub step-told : (g : GraphData) (old new : MachineData) → TakesStep g old new → TakesStep g (without_room old) (without_room new)
step-told g old new takes = search rules

pub phase-told : (g : GraphData) (limit : ℕ) (old new : MachineData) (steps : ℕ) (joined : Bool) → TakesPhase g limit old new steps joined →
    TakesPhase g limit (without_room old) (without_room new) steps joined
phase-told g limit old new steps joined takes =
    let rests : joined ≡ false → steps < limit → IsAtRest (without_room new) = λ unjoined few.
    let at_rest = takes.rests unjoined few in
    record { marks = at_rest.marks; untouched = at_rest.untouched } in
    search (rules, rests)

-- and it lives through edits
pub edits-told : (g : GraphData) (change : Change) (old new : MachineData) → Edits g change old new →
    Edits g change (without_room old) (without_room new)
edits-told g change old new edits = search rules
