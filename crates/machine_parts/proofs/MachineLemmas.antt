-- A machine after a step or after a node was placed: its parts, readers and owners stay, and so does its room.
use Rattle.std.proofs.Common.{◌≡◌, ℕ, ◌<◌, ◌≤◌, Bool, List, length, get_or, Option, Some, None, refl, sym, subst, ◌∙◌, arith}
use Rattle.std.specs.Prelude.{slice_index_or, IfSome, IfNone}
use Rattle.smallvec.specs.SmallVec.{SmallVec}
use Rattle.machine_parts.specs.declared.part.MachinePart.{MachinePart}
use Rattle.machine_parts.specs.Evaluating.{Rooms, IsSeated}
use Rattle.machine_parts.specs.Running.{AreOwners, IsMachine}
use Rattle.machine_parts.specs.Readers.{HaveSameReaders}

-- a wider workspace has room for a part too
pub IsSeated-wider : (count : ℕ) (room wide : Rooms) (part : MachinePart) → room.values ≤ wide.values → IsSeated count room part →
    IsSeated count wide part
IsSeated-wider count room wide part values seated = record {
  below = seated.below;
  members = seated.members;
  apart = seated.apart;
  coded = λ code has.
      let is = seated.coded code has in
      record { inputs = is.inputs; outputs = is.outputs; value_room = omega (arith, is.value_room, values) };
}

pub HaveSameReaders-refl : (lists : List (SmallVec ℕ)) → HaveSameReaders lists lists
HaveSameReaders-refl lists = record { count = refl; stays = λ node l there. there; only = λ node l there. there }

-- a machine with other marks, with more room and more places for texts, and whose nodes have the same readers, can run
pub IsMachine-with : (parts : List MachinePart) (marks new_marks waiting : List Bool) (count : ℕ) (lists new_lists : List (SmallVec ℕ))
    (owners numbers new_numbers : List (Option ℕ)) (held most : ℕ) (room wide : Rooms) → length new_marks ≡ length marks →
    HaveSameReaders lists new_lists → length numbers ≤ length new_numbers → room.values ≤ wide.values → room.changes ≤ wide.changes →
    room.parts ≤ wide.parts → IsMachine parts marks waiting count lists owners numbers held most room →
    IsMachine parts new_marks waiting count new_lists owners new_numbers held most wide
IsMachine-with parts marks new_marks waiting count lists new_lists owners numbers new_numbers held most room wide counted same more values changes parts_more machine = record {
  runs = record {
    counted = counted ∙ machine.runs.counted;
    seated = λ k d inside. IsSeated-wider count room wide (get_or parts k d) values (machine.runs.seated k d inside);
    apart = machine.runs.apart;
    waits = machine.runs.waits;
    stale = machine.runs.stale;
    readers_counted = same.count ∙ machine.runs.readers_counted;
    readers = λ node k reads. same.stays node k (machine.runs.readers node k reads);
    reads = λ node k there. machine.runs.reads node k (same.only node k there);
    changes_room = omega (arith, machine.runs.changes_room, changes);
    parts_room = omega (arith, machine.runs.parts_room, parts_more);
  };
  own = machine.own;
  numbered = omega (arith, machine.numbered, more);
  number = machine.number;
  most_members = machine.most_members;
  most_room = omega (arith, machine.most_room, changes);
}

-- with other marks alone
IsMachine-remarked : (parts : List MachinePart) (marks new_marks : List Bool) (waiting : List Bool) (count : ℕ) (lists : List (SmallVec ℕ))
    (owners numbers : List (Option ℕ)) (held most : ℕ) (room : Rooms) → length new_marks ≡ length marks →
    IsMachine parts marks waiting count lists owners numbers held most room → IsMachine parts new_marks waiting count lists owners numbers held most room
IsMachine-remarked parts marks new_marks waiting count lists owners numbers held most room counted machine =
    IsMachine-with parts marks new_marks waiting count lists lists owners numbers numbers held most room room counted (HaveSameReaders-refl lists)
    (omega arith) (omega arith) (omega arith) (omega arith) machine

-- and with the same room
pub IsMachine-again : (parts : List MachinePart) (marks new_marks : List Bool) (waiting new_waiting : List Bool) (count new_count : ℕ)
    (lists : List (SmallVec ℕ)) (owners numbers : List (Option ℕ)) (held most : ℕ) (room new_room : Rooms) → length new_marks ≡ length marks →
    new_waiting ≡ waiting → new_count ≡ count → new_room ≡ room → IsMachine parts marks waiting count lists owners numbers held most room →
    IsMachine parts new_marks new_waiting new_count lists owners numbers held most new_room
IsMachine-again parts marks new_marks waiting new_waiting count new_count lists owners numbers held most room new_room counted waits nodes rooms machine =
    subst (λ list. IsMachine parts new_marks list new_count lists owners numbers held most new_room) (sym waits)
    (subst (λ n. IsMachine parts new_marks waiting n lists owners numbers held most new_room) (sym nodes)
    (subst (IsMachine parts new_marks waiting count lists owners numbers held most) (sym rooms)
    (IsMachine-remarked parts marks new_marks waiting count lists owners numbers held most room counted machine)))

-- the part that owns a node has a mark
pub owner_inside : (parts : List MachinePart) (marks : List Bool) (count : ℕ) (owners : List (Option ℕ)) → AreOwners parts count owners →
    length marks ≡ length parts → (node : ℕ) (owner : Option ℕ) → owner ≡ slice_index_or owners node None → IfSome owner (λ k. k < length marks)
owner_inside parts marks count owners own counted node None is = tt
owner_inside parts marks count owners own counted node (Some k) is =
    let has = own.member node k (sym is) in
    omega (arith, has.stands.inside, counted)

-- what holds if there is an owner, or where there is none
pub at_owner : (P : Type 0) (owner : Option ℕ) (k : ℕ) → owner ≡ Some k → IfSome owner (λ _. P) → P
at_owner P None k is holds = absurd (cc)
at_owner P (Some other) k is holds = holds

pub at_no_owner : (P : Type 0) (owner : Option ℕ) → ((k : ℕ) → ¬ (owner ≡ Some k)) → IfNone owner P → P
at_no_owner P None none holds = holds
at_no_owner P (Some k) none holds = absurd (none k refl)
