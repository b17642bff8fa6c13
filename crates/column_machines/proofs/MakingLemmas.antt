-- A machine of columns that is made or changes: its columns, and its room.
use Rattle.std.proofs.Common.{◌≡◌, ℕ, zero, suc, ◌<◌, ◌≤◌, Bool, true, List, [], ◌∷◌, length, refl, sym, subst, ◌∙◌, arith}
use Rattle.std.specs.Prelude.{replicate, slice_index_or}
use Rattle.std.specs.List.{sum_by}
use Rattle.std.proofs.lemmas.Bool.{lt-ltb, le-ltb}
use Rattle.std.proofs.lemmas.List.{length-replicate}
use Rattle.std.proofs.lemmas.List.Sums.{sum_by-cons}
use Rattle.word_columns.specs.Columns.{AreUsed}
use Rattle.machine_parts.specs.declared.part.MachinePart.{MachinePart}
use Rattle.machine_parts.specs.Marking.{members_of}
use Rattle.machine_laws.specs.Machines.{MachineData}
use Rattle.column_machines.specs.Evaluating.{Rooms, HasRoomFor}
use Rattle.column_machines.specs.Columns.{column_states, HasColumn}
use Rattle.column_machines.specs.Running.{AreColumns, IsWordMachine, StepsInAll}
use Rattle.column_machines.specs.Stepping.{StepsColumns}

-- ---- room

-- a part has no more members than all parts together
each_below : (parts : List MachinePart) (k : ℕ) (d : MachinePart) → k < length parts → members_of (slice_index_or parts k d) ≤ sum_by members_of parts
each_below [] k d inside = absurd (omega (arith, inside))
each_below (part ∷ parts) zero d inside = omega (arith, sum_by-cons members_of part parts)
each_below (part ∷ parts) (suc k) d inside = omega (arith, sum_by-cons members_of part parts, each_below parts k d (omega (arith, inside)))

-- there is room for the parts if there is for as many members as all have
pub HasRoomFor-sum : (parts : List MachinePart) (members : ℕ) (room : Rooms) → sum_by members_of parts ≤ members → members ≤ room.outs → members ≤ room.changes →
    length parts ≤ room.parts → HasRoomFor parts room
HasRoomFor-sum parts members room below outs changes count = record {
  outs = λ k d inside.
      let least : members_of (slice_index_or parts k d) ≤ sum_by members_of parts = each_below parts k d inside in
      omega (arith, least, below, outs);
  changes = omega (arith, below, changes);
  parts_room = count;
}

-- ---- the made machine

-- a machine of columns with all parts marked
pub IsWordMachine-made : (columns used : ℕ) (machine : MachineData) (members : ℕ) (hi lo : List ℕ) (room : Rooms) → columns ≤ 64 →
    AreUsed columns used →
    length hi ≡ length machine.state → sum_by members_of machine.parts ≤ members → members ≤ room.outs → members ≤ room.changes →
    length machine.parts ≤ room.parts → AreColumns columns hi lo →
    IsWordMachine columns used machine (replicate (length machine.parts) true) hi lo room
IsWordMachine-made columns used machine members hi lo room few used_are nodes below outs changes count columns_are = record {
  few = few;
  used_are = used_are;
  nodes = nodes;
  runs = record { counted = length-replicate (length machine.parts) true; room_for = HasRoomFor-sum machine.parts members room below outs changes count };
  columns_are = columns_are;
}

-- ---- marks and words of a machine that change

-- with other marks and words it is one again, and with the same room
pub IsWordMachine-again : (columns used : ℕ) (machine : MachineData) (marks new_marks : List Bool) (hi lo new_hi new_lo : List ℕ) (room new_room : Rooms) →
    length new_marks ≡ length marks → length new_hi ≡ length hi → new_room ≡ room → AreColumns columns new_hi new_lo →
    IsWordMachine columns used machine marks hi lo room → IsWordMachine columns used machine new_marks new_hi new_lo new_room
IsWordMachine-again columns used machine marks new_marks hi lo new_hi new_lo room new_room counted long rooms columns_are is =
    subst (IsWordMachine columns used machine new_marks new_hi new_lo) (sym rooms) (record {
      few = is.few;
      used_are = is.used_are;
      nodes = long ∙ is.nodes;
      runs = record { counted = counted ∙ is.runs.counted; room_for = is.runs.room_for };
      columns_are = columns_are;
    })

-- ---- a step

module _ (columns used : ℕ) (machine : MachineData) (marks : List Bool) (hi lo : List ℕ) (room : Rooms)
    (is : IsWordMachine columns used machine marks hi lo room) where
  -- each column is one of the used ones
  pub column_there : (column : ℕ) → column < columns → HasColumn used hi lo column (column_states column hi lo)
  column_there column inside = record {
    inside = omega (arith, inside, is.few);
    used_is = is.used_are column ∙ lt-ltb column columns inside;
    has = is.columns_are.each column inside;
  }

  module _ (joining : Bool) (new_marks : List Bool) (new_hi new_lo : List ℕ) (changed : ℕ)
      (steps : StepsInAll joining machine.parts used marks new_marks hi lo new_hi new_lo changed) where
    -- the words are states after a step
    pub AreColumns-stepped : AreColumns columns new_hi new_lo
    AreColumns-stepped = record {
      counted = steps.lows ∙ (is.columns_are.counted ∙ sym steps.highs);
      each = λ column inside. steps.has column (column_states column hi lo) (column_there column inside);
    }

    -- and each column took the step
    pub StepsColumns-stepped : (spare new_spare : ℕ) →
        StepsColumns joining (record { columns = columns; machine = machine; marks = marks; hi = hi; lo = lo; spare = spare })
        (record { columns = columns; machine = machine; marks = new_marks; hi = new_hi; lo = new_lo; spare = new_spare }) changed
    StepsColumns-stepped spare new_spare = record {
      each = λ column inside. steps.each column (column_states column hi lo) (column_there column inside);
      beyond = λ column past. steps.beyond column (is.used_are column ∙ le-ltb column columns past);
      columns = refl;
      machine = refl;
      highs = steps.highs;
      lows = steps.lows;
    }
