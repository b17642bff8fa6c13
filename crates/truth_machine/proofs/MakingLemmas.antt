-- A machine over truths that is made, and one with other marks and rails.
use Rattle.std.proofs.Common.{◌≡◌, ℕ, Bool, true, false, List, length, All, Vec, Global, Result, Ok, Err, sym, subst, ◌∙◌}
use Rattle.std.specs.Prelude.{replicate, IfOk}
use Rattle.std.proofs.lemmas.List.{length-replicate}
use Rattle.machine_parts.specs.declared.part.MachinePart.{MachinePart}
use Rattle.machine_parts.specs.Parts.{IsStale, AreApart}
use Rattle.machine_laws.specs.Columns.{AreSeated}
use Rattle.part_lists.specs.Listing.{AreLists}
use Rattle.truth_parts.specs.Columns.{AreColumns}
use Rattle.truth_parts.specs.Evaluating.{Rooms, IsSeated, HasRoomFor}
use Rattle.truth_parts.specs.Stepping.{IsRunnable}
use Rattle.truth_machine.specs.Machines.{IsTruthMachine}

-- the parts are seated in room for their codes
pub seated_in : (count : ℕ) (parts : List MachinePart) (room : Rooms) → AreSeated count parts → HasRoomFor parts room →
    All (IsSeated count room) parts
seated_in count parts room (other, seated) fits k d inside =
    record { other = other; seated = seated k d inside; value_room = fits.values k d inside; out_room = fits.outs k d inside }

-- a machine of such parts, all of them marked, is one over truths
pub IsTruthMachine-made : {A : Type 0} → (columns : ℕ) (has : A → Type 0) (holds : A → ℕ → Bool) (parts : List MachinePart) (readers owners : List (Vec ℕ Global))
    (hi lo : List A) (room : Rooms) → AreSeated (length hi) parts → HasRoomFor parts room → AreApart parts → ((k : ℕ) → ¬ IsStale parts k) →
    AreLists false parts (length hi) readers → AreLists true parts (length hi) owners → AreColumns columns holds hi lo → All has hi → All has lo →
    IsTruthMachine columns has holds parts (replicate (length parts) true) readers owners hi lo room
IsTruthMachine-made columns has holds parts readers owners hi lo room seated fits apart fresh readers_are owners_are are highs lows = record {
  runs = record {
    counted = length-replicate (length parts) true;
    seated = seated_in (length hi) parts room seated fits;
    apart = apart;
    fresh = fresh;
    readers_are = readers_are;
    changes_room = fits.changes;
    parts_room = fits.parts_room;
  };
  owners_are = owners_are;
  columns = are;
  highs = highs;
  lows = lows;
}

-- with other marks and rails it is one again, and with the same room, also of a later maker
pub IsTruthMachine-again : {A : Type 0} → (columns : ℕ) (has : A → Type 0) (holds : A → ℕ → Bool) (later : ℕ) (later_has : A → Type 0) (later_holds : A → ℕ → Bool)
    (parts : List MachinePart) (marks new_marks : List Bool) (readers owners : List (Vec ℕ Global)) (hi lo new_hi new_lo : List A) (room new_room : Rooms) →
    length new_marks ≡ length marks → length new_hi ≡ length hi → new_room ≡ room → AreColumns later later_holds new_hi new_lo → All later_has new_hi → All later_has new_lo →
    IsTruthMachine columns has holds parts marks readers owners hi lo room →
    IsTruthMachine later later_has later_holds parts new_marks readers owners new_hi new_lo new_room
IsTruthMachine-again columns has holds later later_has later_holds parts marks new_marks readers owners hi lo new_hi new_lo room new_room counted long rooms are highs lows machine =
    subst (IsTruthMachine later later_has later_holds parts new_marks readers owners new_hi new_lo) (sym rooms) (record {
      runs = subst (λ n. IsRunnable parts new_marks n readers room) (sym long) (record {
        counted = counted ∙ machine.runs.counted;
        seated = machine.runs.seated;
        apart = machine.runs.apart;
        fresh = machine.runs.fresh;
        readers_are = machine.runs.readers_are;
        changes_room = machine.runs.changes_room;
        parts_room = machine.runs.parts_room;
      });
      owners_are = subst (λ n. AreLists true parts n owners) (sym long) machine.owners_are;
      columns = are;
      highs = highs;
      lows = lows;
    })

-- what holds of a machine holds of what was made, if it is that machine
pub if_made : {D E : Type 0} → (made : D) (P : D → Type 0) (result : Result D E) → IfOk result (λ machine. machine ≡ made) → P made → IfOk result P
if_made made P (Ok machine) same fact = subst P (sym same) fact
if_made made P (Err fault) same fact = same
