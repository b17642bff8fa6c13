-- After a step beside a good run the machine fits beside it again: a part that is apart and isn't marked afterwards was apart before, its members took
-- their steady states, in this step or before, and it read no change, so it rests.
use Rattle.std.proofs.Common.{◌≡◌, ℕ, ◌<◌, Bool, true, false, inl, inr, List, length, replicate, take, sym, subst, ◌∙◌}
use Rattle.std.specs.Prelude.{Option}
use Rattle.std.proofs.lemmas.Bool.{cases_lt}
use Rattle.std.proofs.lemmas.List.{get_or-replicate}
use Rattle.ternary.specs.declared.tern.Tern.{Tern}
use Rattle.switch_paths.specs.Switching.{state_at}
use Rattle.switch_paths.specs.Graphs.{GraphData, IsWired, nodes}
use Rattle.switch_paths.specs.Rails.{IsSound}
use Rattle.switch_paths.specs.Step.{IsResponse, IsStep}
use Rattle.group_meaning.specs.Groups.{Group}
use Rattle.group_rest.specs.Rest.{Rests, Responded, ReadsNoChange}
use Rattle.group_rest.proofs.RestingGroups.{unread_group_rests}
use Rattle.part_words.specs.declared.change.Change.{Change}
use Rattle.machine_parts.specs.declared.part.MachinePart.{MachinePart}
use Rattle.machine_parts.specs.Parts.{Stands, HasMember, IsStale}
use Rattle.machine_parts.specs.Marking.{IsMarked}
use Rattle.machine_parts.specs.Running.{AreOwners, IsTaken}
use Rattle.machine_parts.specs.Stepping.{ReadsChange, StaysMarked}
use Rattle.machine_parts.proofs.CaseLemmas.{same_or_not, something}
use Rattle.vicinity.specs.Wides.{WideData}
use Rattle.wide_groups.specs.Moving.{RetouchesIn}
use Rattle.wide_groups.proofs.WideCases.{none_retouched}
use Rattle.machine_laws.specs.Machines.{MachineData}
use Rattle.machine_laws.specs.Fitting.{IsPartOf, FitsGraph}
use Rattle.machine_laws.proofs.FittingLemmas.{fits_with, none_rest, same_machine}
use Rattle.machine_laws.proofs.HeldAgain.{held_again, stale_only_again}
use Rattle.machine_laws.proofs.PartGroups.{member_of_part}
use Rattle.run_beside.specs.Agreeing.{IsMove}
use Rattle.run_beside.specs.Stepping.{MovesBeside, RemarksBeside}
use Rattle.unit_step.specs.Beside.{KeepsPartsApart}
use Rattle.beside.specs.Fitting.{FitsBeside, all_marked}
use Rattle.beside.specs.Laws.{StepsFitBeside}
use Rattle.beside.proofs.BesideSteps.{is_storage, input_stays, unmarked_stays, stale_stays, unmarked_response, is_move}

module _ (g h : GraphData) (wired : IsWired g) (wired_too : IsWired h) (good : List Tern) (apart : List Bool) (m : MachineData) (fits : FitsBeside g h good apart m)
    (joining : Bool) (good_next : List Tern) (changes : List Change) (owners : List (Option ℕ)) (owned : AreOwners m.parts (length m.state) owners)
    (new : List Tern) (taken : IsTaken changes good good_next) (moves : MovesBeside joining m.parts m.marks m.wide owners apart changes m.state new)
    (move : IsMove joining h m.state new) (new_apart marks : List Bool) (remarks : RemarksBeside joining m.parts m.marks m.state new apart new_apart marks)
    (wide : Option WideData) (retouches : RetouchesIn joining m.wide wide m.state new) where
  -- stale parts stay marked
  stale_marked : (k : ℕ) → IsStale m.parts k → IsMarked marks k
  stale_marked k stale = remarks.stays k (by_kind joining)
    where
      by_kind : (kind : Bool) → StaysMarked kind m.parts m.marks k
      by_kind true = fits.waits k stale
      by_kind false = (fits.waits k stale, stale)

  -- the members of a part that was apart and isn't marked afterwards took their steady states, in this step or before
  responded : (k : ℕ) (part : MachinePart) → Stands m.parts k part → IsMarked apart k → (¬ IsMarked marks k) → (group : Group) →
      IsPartOf h group part →
      Responded h m.state new group.members
  responded k part stands is unmarked group is_part node member =
      let (place, there) = member_of_part h group part is_part node member in
      let has : HasMember m.parts k node = record { part = part; stands = stands; place = place; member = there } in
      by_kind joining move remarks.stays has (is_storage g h wired wired_too good apart m fits k node has).inside
    where
      by_kind : (kind : Bool) → IsMove kind h m.state new → ((l : ℕ) → StaysMarked kind m.parts m.marks l → IsMarked marks l) → HasMember m.parts k node →
          node < nodes h → IsResponse h m.state node (state_at new node)
      by_kind false step stays has in_range = step.each node in_range
      by_kind true step stays has in_range =
          let before : ¬ IsMarked m.marks k = λ marked. unmarked (stays k marked) in
          subst (IsResponse h m.state node)
          (sym (unmarked_stays g h wired wired_too good apart m fits joining good_next changes owners owned new taken moves k node has is before))
          (unmarked_response g h wired wired_too good apart m fits joining good_next changes owners owned new taken moves k node has is before)

  -- and it read no change
  reads_no_change : (k : ℕ) (part : MachinePart) → Stands m.parts k part → 0 < part.members → IsMarked new_apart k → (¬ IsMarked marks k) → (group : Group) →
      IsPartOf h group part → ReadsNoChange h group m.state new
  reads_no_change k part stands some is unmarked group is_part node reads =
      let (code, has) = something part.code (λ none. unmarked (stale_marked k (record { part = part; stands = stands; some = some; none = none }))) in
      let contained = ((is_part.coded code has).reads node).1 reads in
      elim (same_or_not (state_at new node) (state_at m.state node)) [
        | inl same ↦ same
        | inr changed ↦
            let change : ReadsChange m.parts m.state new k = record {
              node = node;
              reads = record { part = part; stands = stands; reads = contained };
              changed = changed;
            } in
            absurd (unmarked (remarks.reads k change is))
      ]

  -- so it rests
  part_rests : (k : ℕ) (part : MachinePart) → Stands m.parts k part → IsMarked new_apart k → (¬ IsMarked marks k) → Rests h new (take part.members part.map.items)
  part_rests k part stands is unmarked =
      elim (remarks.entered k is) [
        | inr marked ↦ absurd (unmarked marked)
        | inl was ↦
            elim (cases_lt 0 part.members) [
              | inl some ↦
                  let (group, is_part) = fits.fits.covers.whole k part stands some in
                  let rests = unread_group_rests h group m.state new wired_too is_part.is_group (responded k part stands was unmarked group is_part)
                  (reads_no_change k part stands some is unmarked group is_part) in
                  subst (Rests h new) (sym is_part.members) rests
              | inr none ↦ none_rest h new part.map.items part.members none
            ]
      ]

  -- a plain step is the graph's
  plain : joining ≡ false → IsStep h m.state new
  plain is = subst (λ (kind : Bool). IsMove kind h m.state new) is move

  -- the rails keep their states
  stays_sound : IsSound new
  stays_sound = record {
    gnd = input_stays g h wired wired_too good apart m fits joining good_next changes owners owned new taken moves _ fits.fits.railed.gnd ∙ fits.fits.sound.gnd;
    vdd = input_stays g h wired wired_too good apart m fits joining good_next changes owners owned new taken moves _ fits.fits.railed.vdd ∙ fits.fits.sound.vdd;
  }

  -- with all parts marked the machine fits the fault's graph
  all_fit : (moved placed : ℕ) →
      FitsGraph h (record m { marks = replicate (length m.parts) true; state = new; moves = moved; placed = placed; wide = wide })
  all_fit moved placed =
      let marked : (k : ℕ) (part : MachinePart) → Stands m.parts k part → IsMarked (replicate (length m.parts) true) k =
      λ k part stands. get_or-replicate (length m.parts) k true false stands.inside in
      let inputs = input_stays g h wired wired_too good apart m fits joining good_next changes owners owned new taken moves in
      let asleep = stale_stays g h wired wired_too good apart m fits joining good_next changes owners owned new taken moves in
      fits_with h (all_marked m) fits.fits (replicate (length m.parts) true) new m.last moved placed wide (moves.count ∙ fits.fits.covers.counted)
      (λ k part stands some none. marked k part stands) (λ k part stands unmarked. absurd (unmarked (marked k part stands)))
      (stale_only_again h wired_too (all_marked m) fits.fits joining new plain inputs asleep wide retouches)
      (held_again h wired_too (all_marked m) fits.fits joining new plain inputs asleep wide retouches)
      (none_retouched joining m.wide wide m.state new retouches) stays_sound

  -- and it fits beside the good run
  pub fits_again : (moved placed : ℕ) → KeepsPartsApart m.parts new_apart good_next new →
      FitsBeside g h good_next new_apart (record m { marks = marks; state = new; moves = moved; placed = placed; wide = wide })
  fits_again moved placed kept = record {
    fits = all_fit moved placed;
    counted = remarks.count ∙ fits.counted;
    apart_counted = remarks.count_apart ∙ fits.apart_counted;
    good_counted = taken.count ∙ (fits.good_counted ∙ sym moves.count);
    shared = λ k part stands out. fits.shared k part stands (λ is. out (remarks.still_apart k is));
    kept = kept;
    waits = stale_marked;
    only = remarks.only;
    rests = part_rests;
  }

pub steps_fit_beside : StepsFitBeside
steps_fit_beside joining g h good good_next changes apart new_apart old new wired wired_too fits move taken advances kept =
    let moved = is_move g h wired wired_too good apart old fits joining good_next changes advances.owners advances.owned new.state taken advances.moves_so move in
    let again = fits_again g h wired wired_too good apart old fits joining good_next changes advances.owners advances.owned new.state taken advances.moves_so
    moved new_apart new.marks advances.marks new.wide advances.wide new.moves new.placed
    (subst (λ parts. KeepsPartsApart parts new_apart good_next new.state) advances.held.parts kept) in (
      moved,
      subst (FitsBeside g h good_next new_apart)
          (same_machine old new advances.build.groups advances.held.parts advances.held.uses advances.held.texts advances.build.last advances.build.spare) again,
    )
