-- A column of a machine covers the graph after an edit, and fits it once the stale parts have their codes: a part without a mark has the group that
-- it had, which rests as it did.
use Rattle.std.proofs.Common.{◌≡◌, ℕ, ◌-◌, ◌<◌, ◌≤◌, Bool, inl, inr, List, length, take, Option, Some, None, sym, ap, subst, ◌∙◌, arith}
use Rattle.std.specs.Prelude.{slice_get}
use Rattle.std.proofs.lemmas.Bool.{cases_lt}
use Rattle.ternary.specs.declared.tern.Tern.{Tern}
use Rattle.switch_paths.specs.Graphs.{GraphData, IsWired, nodes}
use Rattle.switch_paths.specs.Rails.{IsSound}
use Rattle.group_meaning.specs.Groups.{Group, id_of}
use Rattle.group_meaning.proofs.UniqueGroups.{id_member, same_by_member, unique}
use Rattle.channel_groups.specs.declared.change.Change.{Change}
use Rattle.channel_groups.specs.Changes.{undo}
use Rattle.group_rest.specs.Rest.{Rests}
use Rattle.group_rest.proofs.AlikeGroups.{alike_groups_rest_alike}
use Rattle.machine_parts.specs.declared.part.MachinePart.{MachinePart}
use Rattle.machine_parts.specs.Parts.{Stands, HasMember, IsMemberAt}
use Rattle.machine_parts.specs.Marking.{IsMarked}
use Rattle.machine_parts.proofs.PartLemmas.{same_part}
use Rattle.machine_laws.specs.Machines.{MachineData}
use Rattle.machine_laws.specs.Fitting.{IsPartOf, Covers, FitsGraph}
use Rattle.machine_laws.specs.Editing.{Edits, Finishes, is_touched_in, with_new_nodes}
use Rattle.machine_laws.specs.Columns.{in_column, KeepsMarking, EditsKeepColumns, EditsAddNoTexts, FinishesKeepColumns, FittingMachinesFitAll}
use Rattle.machine_laws.proofs.FittingLemmas.{none_rest, covers_with, fits_with}
use Rattle.machine_laws.proofs.HeldLemmas.{coded_without, known_or_not}
use Rattle.machine_laws.proofs.KeptLemmas.{untouched_alike}
use Rattle.machine_laws.proofs.PartGroups.{some_members, member_in_group, member_of_part}
use Rattle.machine_laws.proofs.TouchedLemmas.{touched_or_not}
use Rattle.machine_laws.proofs.CoveringLemmas.{counted_grown, rests_grown}

-- what is nothing is not something
none_known : {X : Type 0} (found : Option X) (x : X) → found ≡ None → ¬ (found ≡ Some x)
none_known found x none is =
    let both : None ≡ Some x = sym none ∙ is in
    absurd cc

-- ---- an edit

module _ (g : GraphData) (change : Change) (old new : MachineData) (marks new_marks : List Bool) (state : List Tern) (wired_before : IsWired (undo g change))
    (wired : IsWired g) (covers : Covers (undo g change) old) (column : Covers (undo g change) (in_column old marks state)) (edits : Edits g change old new)
    (without : new.wide ≡ None) (keeps : KeepsMarking old new marks new_marks) where
  -- the part of a group that the edit touches is marked, and that of another one rests as it did
  still_rests : (k : ℕ) (part : MachinePart) → Stands new.parts k part → ¬ IsMarked new_marks k →
      Rests g (with_new_nodes state (nodes g)) (take part.members part.map.items)
  still_rests k part stands unmarked =
      elim (cases_lt 0 part.members) [
        | inr none ↦ none_rest g (with_new_nodes state (nodes g)) part.map.items part.members none
        | inl some ↦
            let (group, is_part) = edits.covers.whole k part stands some in
            elim (touched_or_not (is_touched_in g change old group)) [
              | inl touched ↦ absurd (unmarked (keeps.later k (edits.later k part group stands is_part touched) stands.inside))
              | inr untouched ↦
                  let before = undo g change in
                  let alike = untouched_alike g change old new wired_before wired covers edits group is_part.is_group untouched in
                  let stood = edits.stays k part group stands is_part untouched in
                  let was : Rests before state group.members =
                  subst (Rests before state) is_part.members (column.rests k part stood (λ marked. unmarked (keeps.stays k marked))) in
                  let grown = rests_grown before group state (nodes g - length state) wired_before alike.here column.counted was in
                  let now = (alike_groups_rest_alike before g group (with_new_nodes state (nodes g)) wired_before wired alike).1 grown in
                  subst (Rests g (with_new_nodes state (nodes g))) (sym is_part.members) now
            ]
      ]

  -- stale parts are marked: they came behind the others, or were stale before
  still_waits : (k : ℕ) (part : MachinePart) → Stands new.parts k part → 0 < part.members → part.code ≡ None → IsMarked new_marks k
  still_waits k part stands some none =
      let (group, is_part) = edits.covers.whole k part stands some in
      elim (touched_or_not (is_touched_in g change old group)) [
        | inl touched ↦ keeps.later k (edits.later k part group stands is_part touched) stands.inside
        | inr untouched ↦ keeps.stays k (column.waits k part (edits.stays k part group stands is_part untouched) some none)
      ]

  column_covers : Covers g (in_column new new_marks (with_new_nodes state (nodes g)))
  column_covers =
      covers_with g new edits.covers new_marks (with_new_nodes state (nodes g)) new.last new.moves new.placed new.spare new.wide
      (counted_grown g change state column.counted) still_waits still_rests (λ wide is. absurd (none_known new.wide wide without is))
      (λ wide is. absurd (none_known new.wide wide without is))

-- a column covers the graph after an edit
pub edits_keep_columns : EditsKeepColumns
edits_keep_columns g change old new marks new_marks state wired_before wired covers column edits without keeps =
    column_covers g change old new marks new_marks state wired_before wired covers column edits without keeps

-- a part that comes has no text, and one that stays has the text that it had
pub edits_add_no_texts : EditsAddNoTexts
edits_add_no_texts g change old new edits none k stale =
    let (group, is_part) = edits.covers.whole k stale.part stale.stands stale.some in
    elim (touched_or_not (is_touched_in g change old group)) [
      | inl touched ↦ edits.untold k stale.part group stale.stands is_part touched
      | inr untouched ↦
          let stood = edits.stays k stale.part group stale.stands is_part untouched in
          edits.texts k stale.part group stale.stands is_part untouched
          ∙ none k (record { part = stale.part; stands = stood; some = stale.some; none = stale.none })
    ]

-- ---- a finish

-- of a part with members its group, whose least member was one of the part before
member_before : (g : GraphData) (old new : MachineData) → Finishes g old new → (k : ℕ) (part : MachinePart) → Stands new.parts k part → 0 < part.members →
    (group : Group) × IsPartOf g group part × HasMember old.parts k (id_of group)
member_before g old new finishes k part stands some =
    let (group, is_part) = finishes.fits.covers.whole k part stands some in
    let (place, at) = member_of_part g group part is_part (id_of group) (id_member g group is_part.is_group) in
    (group, is_part, (finishes.members k (id_of group)).0 (record { part = part; stands = stands; place = place; member = at }))

module _ (g : GraphData) (old new : MachineData) (marks : List Bool) (state : List Tern) (finishes : Finishes g old new) (without : new.wide ≡ None)
    (column : Covers g (in_column old marks state)) (sound : IsSound state) where
  -- a part has the members that it had, so those of one without a mark rest
  finished_rests : (k : ℕ) (part : MachinePart) → Stands new.parts k part → ¬ IsMarked marks k → Rests g state (take part.members part.map.items)
  finished_rests k part stands unmarked =
      elim (cases_lt 0 part.members) [
        | inr none ↦ none_rest g state part.map.items part.members none
        | inl some ↦
            let (group, is_part, had) = member_before g old new finishes k part stands some in
            let node = id_of group in
            let member = id_member g group is_part.is_group in
            let (was, was_part) = column.whole k had.part had.stands (omega (arith, had.member.inside)) in
            let same : was ≡ group =
            same_by_member g was group was_part.is_group is_part.is_group node (member_in_group g was had.part was_part had.place node had.member) member in
            subst (Rests g state) (was_part.members ∙ ap (λ (one : Group). one.members) same ∙ sym is_part.members)
            (column.rests k had.part had.stands unmarked)
      ]

  column_fits : FitsGraph g (in_column new marks state)
  column_fits =
      fits_with g new finishes.fits marks state new.last new.moves new.placed new.wide column.counted
      (λ k part stands some none. absurd (coded_without g new finishes.fits without k part stands some none)) finished_rests
      (λ wide is. absurd (none_known new.wide wide without is)) (λ wide is. absurd (none_known new.wide wide without is)) (λ none. none) sound

-- a part has no more members than it had
pub finished_members : (g : GraphData) (old new : MachineData) → Finishes g old new → Covers g old → (k : ℕ) (was part : MachinePart) → Stands old.parts k was →
    Stands new.parts k part → part.members ≤ was.members
finished_members g old new finishes covers k was part stood stands =
    elim (cases_lt 0 part.members) [
      | inr none ↦ omega (arith, none)
      | inl some ↦
          let (group, is_part, had) = member_before g old new finishes k part stands some in
          let node = id_of group in
          let member = id_member g group is_part.is_group in
          let own : had.part ≡ was = same_part old.parts k had.part was had.stands stood in
          let before : IsMemberAt was had.place node = subst (λ (one : MachinePart). IsMemberAt one had.place node) own had.member in
          let (one, was_part) = covers.whole k was stood (omega (arith, before.inside)) in
          let same : one ≡ group =
          same_by_member g one group was_part.is_group is_part.is_group node (member_in_group g one was was_part had.place node before) member in
          omega (arith, is_part.count, was_part.count, ap (λ (it : Group). length it.members) same)
    ]

-- a column fits the graph once the stale parts have their codes
pub finishes_keep_columns : FinishesKeepColumns
finishes_keep_columns g old new marks state finishes without column sound = column_fits g old new marks state finishes without column sound

-- a machine with more room covers and fits what it did
pub covers_roomed : (g : GraphData) (m : MachineData) (spare : ℕ) → Covers g m → Covers g (record m { spare = spare })
covers_roomed g m spare covers =
    covers_with g m covers m.marks m.state m.last m.moves m.placed spare m.wide covers.counted covers.waits covers.rests covers.stale_only covers.held

pub fits_roomed : (g : GraphData) (m : MachineData) (spare : ℕ) → FitsGraph g m → FitsGraph g (record m { spare = spare })
fits_roomed g m spare fits = record {
  covers = covers_roomed g m spare fits.covers;
  coded = fits.coded;
  railed = fits.railed;
  sound = fits.sound;
  texts = fits.texts;
}

-- if none is known before an edit, none is after it
pub edits_without : (g : GraphData) (change : Change) (old new : MachineData) → Edits g change old new → old.wide ≡ None → new.wide ≡ None
edits_without g change old new edits none =
    elim (known_or_not new.wide) [
      | inr known ↦ known
      | inl (later, is) ↦
          let (wide, was, grows) = edits.wide.known later is in
          absurd (none_known old.wide wide none was)
    ]

-- if no group is stepped by vicinities, each part with a member has code, so its group has a text
pub fitting_machines_fit_all : FittingMachinesFitAll
fitting_machines_fit_all g m fits without = (
  λ groups are k group at.
      let covers = fits.covers in
      let same : covers.groups.groups ≡ groups = unique g covers.groups.groups groups covers.are.are are in
      let has = covers.each k group (subst (λ list. slice_get list k ≡ Some group) (sym same) at) in
      let some = some_members has.is_part in
      let numbered = covers.numbered has.k has.part has.stands some (coded_without g m fits without has.k has.part has.stands some) in
      (covers.known has.k has.part has.stands numbered group has.is_part).fits,
  λ k stale. coded_without g m fits without k stale.part stale.stands stale.some stale.none,
)
