-- The first group of a circuit that is too large: it has a cause that its line tells, its line is written, and the circuit can't be built.
use Rattle.std.proofs.Common.{◌≡◌, ℕ, ◌<◌, ◌⊎◌, inl, inr, Bool, true, false, List, [], Option, None, Some, Result, slice_get, unwrap_or, refl, sym, ap, subst, ◌∙◌}
use Rattle.std.specs.Prelude.{if◌then◌else◌}
use Rattle.std.proofs.lemmas.Option.{slice_get_within, get_or_from_slice_get}
use Rattle.switch_paths.specs.Graphs.{GraphData, nodes}
use Rattle.netlist.specs.Names.{name_at}
use Rattle.netlist.specs.Circuits.{CircuitData}
use Rattle.printed_lines.specs.declared.faults.FaultPlace.{FaultPlace}
use Rattle.printed_lines.specs.declared.faults.FaultCode.{FaultCode}
use Rattle.printed_lines.specs.declared.faults.FaultCode.TheVariants.{G1GroupNodes, G2GroupSwitches}
use Rattle.group_meaning.specs.Groups.{id_of}
use Rattle.group_meaning.proofs.UniqueGroups.{unique}
use Rattle.group_text.specs.declared.text.TextFault.{TextFault}
use Rattle.group_text.specs.declared.text.TextFault.TheVariants as text
use Rattle.group_text.specs.Texts.{GroupTextData}
use Rattle.circuit_texts.specs.declared.texts.BuildFault.{BuildFault}
use Rattle.circuit_texts.specs.declared.texts.BuildFault.TheVariants.{GroupNodes, GroupSwitches, NoMemory}
use Rattle.circuit_texts.specs.Sizes.{fault_in, at_node, TellsRefused}
use Rattle.circuit_texts.specs.Building.{HasTexts}
use Rattle.run_ends.specs.declared.stop.Stop.{Stop}
use Rattle.run_ends.specs.declared.stop.End as end
use Rattle.run_ends.specs.declared.status.Status.{Status}
use Rattle.run_ends.specs.Causes.{Cause, size_cause}
use Rattle.run_ends.specs.Answers.{IsTooLarge, IsRefusalFor}
use Rattle.run_ends.specs.Ends.{IsTold}
use Rattle.circuit_texts.proofs.SizeLemmas.{refused_fault, told_node}
use Rattle.run_ends.proofs.EndLemmas.{told_as}

-- a graph that can be built with a bound has no group that is refused with it
pub not_both : (large : ℕ) (g : GraphData) (fault : BuildFault) (texts : List GroupTextData) → TellsRefused large g fault → ¬ HasTexts large g texts
not_both large g fault texts told has =
    let first = told.first in
    let here = subst (λ groups. slice_get groups first.k ≡ Some first.group) (unique g told.groups has.groups told.are has.are) first.stands in
    let fit = rw (get_or_from_slice_get has.groups first.k first.group first.group here) at
    (has.fit first.k first.group (slice_get_within has.groups first.k first.group here)) in
    let none : None ≡ Some first.cause = sym fit ∙ first.too_large in absurd (cc)

-- the size of a group is never lack of memory
sizes_named : (first second : Bool) (members switches : ℕ) →
    (if first then Some (text.GroupNodes members) else (if second then Some (text.GroupSwitches switches) else None)) ≡ Some text.NoMemory → ⊥
sizes_named true second members switches is = absurd (cc)
sizes_named false true members switches is = absurd (cc)
sizes_named false false members switches is = absurd (cc)

-- so the fault has a cause
pub size_caused : (large : ℕ) (c : CircuitData) (fault : BuildFault) → TellsRefused large c.graph fault → (cause : Cause) × (size_cause c fault ≡ Some cause)
size_caused large c fault told = caused told.first.cause told.first.named (refused_fault large told.first.group told.first.cause told.first.too_large)
  where
    caused : (cause : TextFault) → fault ≡ at_node (id_of told.first.group) cause → fault_in told.first.group ≡ Some cause →
        (cause : Cause) × (size_cause c fault ≡ Some cause)
    caused (text.GroupNodes count) named is = (_, ap (size_cause c) named)
    caused (text.GroupSwitches count) named is = (_, ap (size_cause c) named)
    caused text.NoMemory named is = absurd (sizes_named _ _ _ _ is)

-- lack of memory is no size
pub no_want : (large : ℕ) (c : CircuitData) → TellsRefused large c.graph NoMemory → ⊥
no_want large c tells =
    let caused = size_caused large c NoMemory tells in
    let none : None ≡ Some caused.0 = caused.1 in
    absurd (cc)

-- the cause tells the name of the group's least node, and the count
abbrev cause_of : FaultCode → ℕ → Option (List ℕ) → Cause
cause_of code count known = record { code = code; name = unwrap_or known []; count = count }

pub nodes_named : (c : CircuitData) (size : BuildFault) (node count : ℕ) (name : List ℕ) → size ≡ GroupNodes node count → name_at c.names node ≡ Some name →
    size_cause c size ≡ Some (record { code = G1GroupNodes; name = name; count = count })
nodes_named c size node count name is found =
    ap (size_cause c) is ∙ ap (λ (known : Option (List ℕ)). Some (cause_of G1GroupNodes count known)) found

pub switches_named : (c : CircuitData) (size : BuildFault) (node count : ℕ) (name : List ℕ) → size ≡ GroupSwitches node count →
    name_at c.names node ≡ Some name → size_cause c size ≡ Some (record { code = G2GroupSwitches; name = name; count = count })
switches_named c size node count name is found =
    ap (size_cause c) is ∙ ap (λ (known : Option (List ℕ)). Some (cause_of G2GroupSwitches count known)) found

-- the line of the first group that is too large is a right answer
told_size : (large : ℕ) (c : CircuitData) (place : FaultPlace) (ended : Status) (fault : BuildFault) (cause : Cause) (old new : Option (List ℕ)) (result : Result end.End Stop) →
    TellsRefused large c.graph fault → size_cause c fault ≡ Some cause → IsTold (IsRefusalFor place cause ended) old new result →
    IsTold (IsTooLarge large c place ended) old new result
told_size large c place ended fault cause old new result first named told =
    told_as (IsRefusalFor place cause ended) (IsTooLarge large c place ended) old new result
    (λ answer right. record { fault = fault; first = first; cause = cause; named = named; told = right }) told

-- a fault that names a group isn't lack of memory
is_no_size : (fault : BuildFault) (node count : ℕ) → fault ≡ NoMemory → (fault ≡ GroupNodes node count) ⊎ (fault ≡ GroupSwitches node count) → ⊥
is_no_size fault node count want (inl is) = absurd (cc)
is_no_size fault node count want (inr is) = absurd (cc)

is_too_large : (large : ℕ) (g : GraphData) (fault : BuildFault) (node count : ℕ) → (fault ≡ NoMemory) ⊎ TellsRefused large g fault →
    (fault ≡ GroupNodes node count) ⊎ (fault ≡ GroupSwitches node count) → TellsRefused large g fault
is_too_large large g fault node count (inl want) is = absurd (is_no_size fault node count want is)
is_too_large large g fault node count (inr told) is = told

pub node-inside : (g : GraphData) (fault : BuildFault) (node count : ℕ) → (fault ≡ NoMemory) ⊎ ((large : ℕ) × TellsRefused large g fault) →
    (fault ≡ GroupNodes node count) ⊎ (fault ≡ GroupSwitches node count) → node < nodes g
node-inside g fault node count (inl want) is = absurd (is_no_size fault node count want is)
node-inside g fault node count (inr (large, told)) is = told_node large g fault node count told is

module _ (c : CircuitData) (place : FaultPlace) (ended : Status) (fault : BuildFault) (node count : ℕ) (name : List ℕ) (large : ℕ) (refused : (fault ≡ NoMemory) ⊎ TellsRefused large c.graph fault)
    (found : name_at c.names node ≡ Some name) (old new : Option (List ℕ)) (result : Result end.End Stop) where
  -- the node is called by its name
  named : name ≡ unwrap_or (name_at c.names node) []
  named = sym (ap (λ known. unwrap_or known []) found)

  -- the line of its group is told of the circuit, under the code of the fault
  told_named : (size : BuildFault) (code : FaultCode) → fault ≡ size → TellsRefused large c.graph fault →
      size_cause c size ≡ Some (record { code = code; name = unwrap_or (name_at c.names node) []; count = count }) →
      IsTold (IsRefusalFor place (record { code = code; name = name; count = count }) ended) old new result →
      IsTold (IsTooLarge large c place ended) old new result
  told_named size code is tells caused told =
      told_size large c place ended size _ old new result (subst (TellsRefused large c.graph) is tells) caused
      (subst (λ called. IsTold (IsRefusalFor place (record { code = code; name = called; count = count }) ended) old new result) named told)

  -- so of a group with too many members
  pub told_nodes : fault ≡ GroupNodes node count →
      IsTold (IsRefusalFor place (record { code = G1GroupNodes; name = name; count = count }) ended) old new result →
      IsTold (IsTooLarge large c place ended) old new result
  told_nodes is told = told_named (GroupNodes node count) G1GroupNodes is (is_too_large large c.graph fault node count refused (inl is)) refl told

  -- and of one with too many switches
  pub told_switches : fault ≡ GroupSwitches node count →
      IsTold (IsRefusalFor place (record { code = G2GroupSwitches; name = name; count = count }) ended) old new result →
      IsTold (IsTooLarge large c place ended) old new result
  told_switches is told = told_named (GroupSwitches node count) G2GroupSwitches is (is_too_large large c.graph fault node count refused (inr is)) refl told
