-- What a step reads of the parts, in a dense form: the codes, the maps one behind the other, and a seat for each part that has code.
use Rattle.std.specs.Prelude.{◌≡◌, ℕ, ◌+◌, ◌≤◌, List, ◌++◌, length, Option, None, Some, slice_get}
use Rattle.std.specs.declared.rc.Rc.{Rc}
use Rattle.std.proofs.Common.{Global}
use Rattle.straight_code.specs.Code.{CodeData}
use Rattle.part_words.specs.Noting.{map_at}
use Rattle.machine_parts.specs.declared.part.MachinePart.{MachinePart}
use Rattle.part_steps.specs.declared.dense.Seat.{Seat}
use Rattle.part_steps.specs.declared.dense.DenseParts.{DenseParts}
use Rattle.part_steps.specs.Known.{Knows, KeepsKnown}

-- the part's code, if it has one, has an input for each node of the part's map
abbrev pub HasInputs : MachinePart → Type 0
HasInputs part = (code : Rc CodeData Global) → part.code ≡ Some code → length part.map.items ≡ code.value.inputs

-- there is a list of codes, one for each number of a text, and the code of each part, if it has one, is that of its text's number
pub record HaveCodes (numbers : List (Option ℕ)) (parts : List MachinePart) : Type 0 where
  pub codes : List CodeData
  pub each : (k n : ℕ) (part : MachinePart) (code : Rc CodeData Global) → slice_get numbers k ≡ Some (Some n) → slice_get parts k ≡ Some part →
      part.code ≡ Some code → slice_get codes n ≡ Some code.value

-- the code at this place among the codes is this one
pub record IsCodeAt (codes : List (Rc CodeData Global)) (place : ℕ) (is : CodeData) : Type 0 where
  pub code : Rc CodeData Global
  pub there : slice_get codes place ≡ Some code
  pub same : code.value ≡ is

-- this map begins at this place among the nodes
pub record IsMapAt (nodes : List ℕ) (at : ℕ) (these : List ℕ) : Type 0 where
  pub inside : at + length these ≤ length nodes
  pub map : map_at nodes (length these) at ≡ these

-- of the list of codes by number, each that has a place is at its place among the codes
abbrev pub ArePlaces : List CodeData → List (Rc CodeData Global) → List (Option ℕ) → Type 0
ArePlaces list codes places = (n place : ℕ) → slice_get places n ≡ Some (Some place) → (code : CodeData) × (slice_get list n ≡ Some code) × IsCodeAt codes place code

-- the code is that of the number, if there is one, in the list of codes by number
abbrev pub IsNumbered : List CodeData → Option ℕ → CodeData → Type 0
IsNumbered list number code = (n : ℕ) → number ≡ Some n → slice_get list n ≡ Some code

-- the part's code, if it has one, is that of the number
abbrev pub IsPartNumbered : List CodeData → Option ℕ → MachinePart → Type 0
IsPartNumbered list number part = (code : Rc CodeData Global) → part.code ≡ Some code → IsNumbered list number code.value

-- the seat tells the part's code, by its place among these codes, and the part's map, which begins at its place among these nodes
pub record IsPlace (part : MachinePart) (codes : List (Rc CodeData Global)) (nodes : List ℕ) (seat : Seat) : Type 0 where
  pub own : Rc CodeData Global
  pub has : part.code ≡ Some own
  pub code : Rc CodeData Global
  pub there : slice_get codes seat.code ≡ Some code
  pub same : code.value ≡ own.value
  pub inside : seat.at + code.value.inputs ≤ length nodes
  pub map : map_at nodes code.value.inputs seat.at ≡ part.map.items

-- a part with code has a seat, and one without code has none
pub record IsSeatOf (part : MachinePart) (codes : List (Rc CodeData Global)) (nodes : List ℕ) (seat : Option Seat) : Type 0 where
  pub none : seat ≡ None → part.code ≡ None
  pub some : (one : Seat) → seat ≡ Some one → IsPlace part codes nodes one

-- these are the seats of the parts, in their order
pub record AreSeatsOf (parts : List MachinePart) (codes : List (Rc CodeData Global)) (nodes : List ℕ) (seats : List (Option Seat)) : Type 0 where
  pub counted : length seats ≡ length parts
  pub each : (k : ℕ) (part : MachinePart) (seat : Option Seat) → slice_get parts k ≡ Some part → slice_get seats k ≡ Some seat →
      IsSeatOf part codes nodes seat

-- what a step reads of these parts
pub record AreDense (parts : List MachinePart) (dense : DenseParts) : Type 0 where
  pub seats : AreSeatsOf parts dense.codes.items dense.nodes.items dense.seats.items
  pub known : Knows dense.codes.items dense.known.codes.items

-- more came behind what was there
pub record BeginsWith {X : Type 0} (front list : List X) : Type 0 where
  pub more : List X
  pub is : list ≡ front ++ more

-- codes and nodes came behind the others, all seats stayed, and what is known of runs is still true
pub record Grows (old new : DenseParts) : Type 0 where
  pub codes : BeginsWith old.codes.items new.codes.items
  pub nodes : BeginsWith old.nodes.items new.nodes.items
  pub seats : new.seats ≡ old.seats
  pub known : KeepsKnown old.known.codes.items new.known.codes.items
