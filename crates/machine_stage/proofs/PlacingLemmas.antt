-- Nodes that are placed in a machine, one after the other: what is known of it then.
-- The plan: what is done to the machine is read by cases on whether there is one.
use Rattle.std.proofs.Common.{◌≡◌, ℕ, ◌<◌, List, All, Option, None, Some, IfSome, refl, sym, ap, subst, ◌∙◌, inl, inr, arith}
use Rattle.std.specs.Prelude.{Contains, ◌⊎◌}
use Rattle.std.proofs.lemmas.List.Elements.{All-contains}
use Rattle.ternary.specs.declared.tern.Tern.{Tern}
use Rattle.strength_order.specs.declared.TheConstants.{INPUT_LEVEL}
use Rattle.switch_paths.specs.Graphs.{GraphData, level_of}
use Rattle.group_text.specs.Texts.{GroupTextData}
use Rattle.machine_parts.specs.declared.part.MachinePart.{MachinePart}
use Rattle.machine_parts.specs.Parts.{HasMember}
use Rattle.machine_laws.specs.Machines.{MachineData}
use Rattle.machine_parts.specs.Marking.{IsMarked}
use Rattle.machine_parts.specs.Stepping.{Concerns}
use Rattle.machine_laws.specs.Fitting.{Covers, FitsGraph, IsKeptBy}
use Rattle.machine_laws.proofs.PartGroups.{member_in_group}
use Rattle.machine_laws.proofs.KeptLemmas.{placing_keeps_texts}
use Rattle.group_meaning.proofs.GroupLemmas.{member_storage}
use Rattle.session_meaning.specs.Sessions.{ClockData}
use Rattle.machine_stage.specs.Machines.{Serves, FitsIn, ConcernsGiven, PlacesIn, placed_of}
use Rattle.machine_stage.specs.Stages.{PutsNode, PutsIn, PlacesSome, Assigns, AssignsIn, Ticks, TicksIn}

-- ---- input nodes

-- an input node is no member of a part
pub no_member : (g : GraphData) (machine : MachineData) → Covers g machine → (node : ℕ) → level_of g node ≡ INPUT_LEVEL →
    (k : ℕ) → ¬ HasMember machine.parts k node
no_member g machine covers node input k has =
    let some : 0 < has.part.members = omega (arith, has.member.inside) in
    let (group, is_part) = covers.whole k has.part has.stands some in
    let storage = member_storage g group is_part.is_group node (member_in_group g group has.part is_part has.place node has.member) in
    absurd (omega (storage.below, input, arith))

-- ---- nodes and clocks that are placed

-- no node was placed yet
pub places-none : (g : GraphData) (Concerned : List MachinePart → ℕ → Type 0) (machine : MachineData) → PlacesSome g Concerned machine machine
places-none g Concerned machine = record {
  covers = λ covers. covers;
  known = λ kept known. known;
  last = refl;
  parts = refl;
  moves = refl;
  marks = λ k marked. inl marked;
}

-- one node more was placed
pub places-more : (g : GraphData) (Concerned : List MachinePart → ℕ → Type 0) (node : ℕ) (value : Tern) (old mid new : MachineData) →
    ((parts : List MachinePart) (k : ℕ) → Concerns parts k node → Concerned parts k) → PlacesSome g Concerned old mid →
    PutsNode g node value mid new →
    PlacesSome g Concerned old new
places-more g Concerned node value old mid new concerned so_far puts = record {
  covers = λ covers. puts.covers (so_far.covers covers);
  known = λ kept known. placing_keeps_texts g kept node value mid new puts.places (so_far.known kept known);
  last = puts.places.last ∙ so_far.last;
  parts = puts.places.parts ∙ so_far.parts;
  moves = puts.places.moves ∙ so_far.moves;
  marks = λ k marked. marked_by k (puts.places.only k marked);
}
  where
    marked_by : (k : ℕ) → IsMarked mid.marks k ⊎ Concerns mid.parts k node → IsMarked old.marks k ⊎ Concerned old.parts k
    marked_by k (inl was) = so_far.marks k was
    marked_by k (inr concerns) = inr (concerned old.parts k (subst (λ (parts : List MachinePart). Concerns parts k node) so_far.parts concerns))

-- nothing was placed yet
assigns-none : (g : GraphData) (given : List ℕ) (machine : MachineData) → Assigns g given machine machine
assigns-none g given machine = record { some = places-none g (ConcernsGiven given) machine; unplaced = λ covers inputs. refl }

pub assigns_in-none : (g : GraphData) (given : List ℕ) (machine : Option MachineData) → AssignsIn g given machine machine
assigns_in-none g given None = refl
assigns_in-none g given (Some machine) = (machine, refl, assigns-none g given machine)

-- one more of the nodes was placed
assigns-more : (g : GraphData) (given : List ℕ) (node : ℕ) (value : Tern) (old mid new : MachineData) → Contains given node →
    Assigns g given old mid → PutsNode g node value mid new → Assigns g given old new
assigns-more g given node value old mid new among so_far puts = record {
  some = places-more g (ConcernsGiven given) node value old mid new (λ parts k concerns. record { node = node; among = among; concerns = concerns })
      so_far.some puts;
  unplaced = λ covers inputs. puts.unplaced (no_member g mid (so_far.covers covers) node (input_of inputs)) ∙ so_far.unplaced covers inputs;
}
  where
    input_of : All (λ other. level_of g other ≡ INPUT_LEVEL) given → level_of g node ≡ INPUT_LEVEL
    input_of inputs = All-contains (λ (other : ℕ). level_of g other ≡ INPUT_LEVEL) given node inputs among

pub assigns_in-more : (g : GraphData) (given : List ℕ) (node : ℕ) (value : Tern) (old mid new : Option MachineData) → Contains given node →
    AssignsIn g given old mid → PutsIn g node value mid new → AssignsIn g given old new
assigns_in-more g given node value None mid new among none puts = subst (λ (m : Option MachineData). PutsIn g node value m new) none puts
assigns_in-more g given node value (Some old) mid new among (between, there, so_far) puts =
    let (next, is, put) = subst (λ (m : Option MachineData). PutsIn g node value m new) there puts in
    (next, is, assigns-more g given node value old between next among so_far put)

-- no clock ticked yet
ticks-none : (g : GraphData) (clocks : List ClockData) (machine : MachineData) → Ticks g clocks machine machine
ticks-none g clocks machine = record {
  fits = λ fits. fits;
  known = λ kept known. known;
  last = refl;
  moves = refl;
  unplaced = λ fits inputs. refl;
}

pub ticks_in-none : (g : GraphData) (clocks : List ClockData) (machine : Option MachineData) → TicksIn g clocks machine machine
ticks_in-none g clocks None = refl
ticks_in-none g clocks (Some machine) = (machine, refl, ticks-none g clocks machine)

-- one more of the clocks ticked
ticks-more : (g : GraphData) (clocks : List ClockData) (clock : ClockData) (value : Tern) (old mid new : MachineData) →
    (All (λ other. level_of g other.node ≡ INPUT_LEVEL) clocks → level_of g clock.node ≡ INPUT_LEVEL) → Ticks g clocks old mid →
    PutsNode g clock.node value mid new → Ticks g clocks old new
ticks-more g clocks clock value old mid new input_of so_far puts = record {
  fits = λ fits. puts.fits (so_far.fits fits);
  known = λ kept known. placing_keeps_texts g kept clock.node value mid new puts.places (so_far.known kept known);
  last = puts.places.last ∙ so_far.last;
  moves = puts.places.moves ∙ so_far.moves;
  unplaced = λ fits inputs. puts.unplaced (no_member g mid (so_far.fits fits).covers clock.node (input_of inputs)) ∙ so_far.unplaced fits inputs;
}

pub ticks_in-more : (g : GraphData) (clocks : List ClockData) (clock : ClockData) (value : Tern) (old mid new : Option MachineData) →
    (All (λ other. level_of g other.node ≡ INPUT_LEVEL) clocks → level_of g clock.node ≡ INPUT_LEVEL) → TicksIn g clocks old mid →
    PutsIn g clock.node value mid new → TicksIn g clocks old new
ticks_in-more g clocks clock value None mid new input_of none puts =
    subst (λ (m : Option MachineData). PutsIn g clock.node value m new) none puts
ticks_in-more g clocks clock value (Some old) mid new input_of (between, there, so_far) puts =
    let (next, is, put) = subst (λ (m : Option MachineData). PutsIn g clock.node value m new) there puts in
    (next, is, ticks-more g clocks clock value old between next input_of so_far put)

-- ---- what the machine then is

-- a machine that covers serves a state that is its own
pub serves_there : (g : GraphData) (kept : List GroupTextData) (states : List Tern) (new : Option MachineData) (next : MachineData) →
    new ≡ Some next → IfSome new (λ machine. machine.state ≡ states) → Covers g next → IsKeptBy g kept next → IfSome new (Serves g states kept)
serves_there g kept states new next there same covers known =
    subst (λ (m : Option MachineData). IfSome m (Serves g states kept)) (sym there)
    (record { covers = covers; same = subst (λ (m : Option MachineData). IfSome m (λ machine. machine.state ≡ states)) there same; known = known })

-- after nodes were given states
pub places-assigned : (g : GraphData) (given : List ℕ) (old new : Option MachineData) → AssignsIn g given old new → PlacesIn given old new
places-assigned g given None new none = none
places-assigned g given (Some machine) new (next, there, assigns) =
    record { machine = next; there = there; parts = assigns.parts; moves = assigns.moves; marks = assigns.marks }

-- if all of the nodes are input nodes no member was placed
pub unplaced-assigned : (g : GraphData) (given : List ℕ) (old new : Option MachineData) → IfSome old (Covers g) → AssignsIn g given old new →
    All (λ node. level_of g node ≡ INPUT_LEVEL) given → placed_of new ≡ placed_of old
unplaced-assigned g given None new covers none inputs = ap placed_of none
unplaced-assigned g given (Some machine) new covers (next, there, assigns) inputs = ap placed_of there ∙ assigns.unplaced covers inputs

-- a machine that serves covers
pub covers-serves : (g : GraphData) (states : List Tern) (kept : List GroupTextData) (machine : Option MachineData) → IfSome machine (Serves g states kept) →
    IfSome machine (Covers g)
covers-serves g states kept None serves = tt
covers-serves g states kept (Some machine) serves = serves.covers

-- the machine that fits is the one that is there
pub fits_there : (g : GraphData) (found : Option MachineData) (machine : MachineData) → FitsIn g found → found ≡ Some machine → FitsGraph g machine
fits_there g found machine built there =
    let same : Some built.machine ≡ Some machine = sym built.there ∙ there in
    let is : built.machine ≡ machine = cc in
    subst (FitsGraph g) is built.fits
