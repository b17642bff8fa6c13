-- A machine covers or fits a graph after a node was placed: a part that isn't marked has the node neither as a member nor among what it
-- reads, so its members stay and read no change.
use Rattle.std.proofs.Common.{◌≡◌, ◌≢◌, ℕ, ◌<◌, ◌⊎◌, inl, inr, length, take, sym, ap, subst, ◌∙◌, arith, Bool, List, Option, Some, None, refl}
use Rattle.std.specs.Prelude.{Contains, slice_index_or, slice_set}
use Rattle.std.proofs.lemmas.Bool.{cases_lt}
use Rattle.std.proofs.lemmas.List.{get_or-set_other, length-set}
use Rattle.ternary.specs.declared.tern.Tern.{Tern}
use Rattle.ternary.specs.declared.tern.Tern.TheVariants.{Zero}
use Rattle.switch_paths.specs.Switching.{state_at}
use Rattle.switch_paths.specs.Graphs.{GraphData, IsWired}
use Rattle.switch_paths.specs.Step.{IsResponse}
use Rattle.group_meaning.specs.Groups.{Group}
use Rattle.group_text.specs.Texts.{GroupTextData}
use Rattle.circuit_texts.specs.Sizes.{refused_in}
use Rattle.group_rest.specs.Rest.{Rests, Responded, ReadsNoChange}
use Rattle.group_rest.proofs.RestingGroups.{unread_group_rests}
use Rattle.machine_parts.specs.declared.part.MachinePart.{MachinePart}
use Rattle.group_rest.specs.Alike.{IsAlike}
use Rattle.vicinity.specs.Touching.{RestsAsleep}
use Rattle.vicinity.specs.Wides.{WideData, PlacesWide}
use Rattle.wide_groups.specs.Moving.{HasStaleOnly, PlacesIn}
use Rattle.wide_groups.proofs.WideCases.{placed_wide, none_placed}
use Rattle.machine_parts.specs.Parts.{Stands, HasMember}
use Rattle.machine_laws.specs.Machines.{MachineData, Places}
use Rattle.machine_parts.specs.Marking.{IsMarked, MarksAll}
use Rattle.machine_parts.specs.Stepping.{Concerns}
use Rattle.machine_laws.specs.Fitting.{IsPartOf, IsHeldIn, IsOutside, Covers, FitsGraph}
use Rattle.machine_laws.specs.Laws.{PlacingKeepsCover, PlacingKeepsFit}
use Rattle.machine_parts.proofs.CaseLemmas.{something}
use Rattle.machine_laws.proofs.PartGroups.{member_of_part}
use Rattle.machine_laws.proofs.HeldLemmas.{known_or_not, held_at, coded_without}
use Rattle.machine_laws.proofs.FittingLemmas.{covers_with, none_rest, same_machine}
use Rattle.smallvec.specs.SmallVec.{SmallVec}
use Rattle.machine_parts.specs.Evaluating.{Rooms}
use Rattle.machine_parts.specs.Running.{IsMachine}
use Rattle.machine_parts.specs.Readers.{readers_of}

module _ (g : GraphData) (wired : IsWired g) (node : ℕ) (value : Tern) (old new : MachineData) (covers : Covers g old) (places : Places node value old new) where
  -- any other node stays
  others_stay : (other : ℕ) → other ≢ node → state_at new.state other ≡ state_at old.state other
  others_stay other differs = ap (λ state. state_at state other) places.state ∙ get_or-set_other old.state node other value Zero differs

  module _ (k : ℕ) (part : MachinePart) (stands : Stands old.parts k part) (unmarked : ¬ IsMarked new.marks k) (some : 0 < part.members)
      (group : Group) (is_part : IsPartOf g group part) where
    -- the part wasn't marked before
    before : ¬ IsMarked old.marks k
    before marked = unmarked (places.stays k marked)

    -- its members stayed at their steady states
    members_responded : Responded g old.state new.state group.members
    members_responded member contained =
        let (place, there) = member_of_part g group part is_part member contained in
        let has : HasMember old.parts k member = record { part = part; stands = stands; place = place; member = there } in
        let differs : member ≢ node = λ same. unmarked (places.concerns k (inl (subst (HasMember old.parts k) same has))) in
        let rests = covers.rests k part stands before member (subst (λ members. Contains members member) (sym is_part.members) contained) in
        subst (IsResponse g old.state member) (sym (others_stay member differs)) rests

    -- and it read no change
    read_none : ReadsNoChange g group old.state new.state
    read_none other reads =
        let (code, is) = something part.code (λ none. before (covers.waits k part stands some none)) in
        let contained = ((is_part.coded code is).reads other).1 reads in
        let differs : other ≢ node = λ same.
        unmarked (places.concerns k (inr (record { part = part; stands = stands; reads = subst (Contains part.reads.items) same contained }))) in
        others_stay other differs

  -- so they rest
  part_rests : (k : ℕ) (part : MachinePart) → Stands old.parts k part → (¬ IsMarked new.marks k) →
      Rests g new.state (take part.members part.map.items)
  part_rests k part stands unmarked =
      elim (cases_lt 0 part.members) [
        | inl some ↦
            let (group, is_part) = covers.whole k part stands some in
            let rests = unread_group_rests g group old.state new.state wired is_part.is_group
            (members_responded k part stands unmarked some group is_part) (read_none k part stands unmarked some group is_part) in
            subst (Rests g new.state) (sym is_part.members) rests
        | inr none ↦ none_rest g new.state part.map.items part.members none
      ]

  -- a group that is stepped by vicinities rests again but for what is awake
  held_placed : (before_it one : WideData) → PlacesWide node before_it one old.state new.state → (text : Option GroupTextData) (part : MachinePart) →
      IsHeldIn g old.state before_it text part → IsHeldIn g new.state one text part
  held_placed before_it one placed text part held =
      let same = placed.stays.graph in
      record {
        group = held.group;
        is_part = held.is_part;
        allowed = subst (λ large. refused_in large held.group ≡ None) (sym placed.stays.large) held.allowed;
        told = held.told;
        wired = subst IsWired (sym same) held.wired;
        alike = subst (λ h. IsAlike g h held.group) (sym same) held.alike;
        rests = subst (λ h. RestsAsleep h new.state held.group.members one.touched.list) (sym same) (placed.group held.group held.alike.there held.rests);
      }

  -- and a part that waits has no member of such a group still
  held_again : (one : WideData) → new.wide ≡ Some one → (k : ℕ) (part : MachinePart) → Stands old.parts k part → 0 < part.members → part.code ≡ None →
      IsHeldIn g new.state one (slice_index_or old.uses k None) part ⊎ IsOutside one.graph part
  held_again one is k part stands some none =
      let (before_it, was, placed) = placed_wide node old.wide new.wide old.state new.state places.wide one is in
      elim (covers.held before_it was k part stands some none) [
        | inl held ↦ inl (held_placed before_it one placed (slice_index_or old.uses k None) part held)
        | inr outside ↦ inr (subst (λ h. IsOutside h part) (sym placed.stays.graph) outside)
      ]

  stale_only_again : (one : WideData) → new.wide ≡ Some one → HasStaleOnly old.parts one.graph
  stale_only_again one is =
      let (before_it, was, placed) = placed_wide node old.wide new.wide old.state new.state places.wide one is in
      subst (HasStaleOnly old.parts) (sym placed.stays.graph) (covers.stale_only before_it was)

  covers_again : (moved placed : ℕ) → Covers g (record old { marks = new.marks; state = new.state; moves = moved; placed = placed; wide = new.wide })
  covers_again moved placed =
      covers_with g old covers new.marks new.state old.last moved placed old.spare new.wide
      (ap length places.state ∙ (length-set old.state node value ∙ covers.counted))
      (λ k part stands some none. places.stays k (covers.waits k part stands some none)) part_rests stale_only_again held_again

-- a machine covers the graph again
pub placing_keeps_cover : PlacingKeepsCover
placing_keeps_cover g node value old new wired covers places =
    subst (Covers g) (same_machine old new places.groups places.parts places.uses places.texts places.last places.spare)
    (covers_again g wired node value old new covers places new.moves new.placed)

-- and fits it
pub placing_keeps_fit : PlacingKeepsFit
placing_keeps_fit g node value old new wired no_rail fits places =
    let gnd_stays = others_stay g wired node value old new fits.covers places 0 (λ same. absurd (omega (arith, no_rail, same))) in
    let vdd_stays = others_stay g wired node value old new fits.covers places 1 (λ same. absurd (omega (arith, no_rail, same))) in
    let again : FitsGraph g (record old { marks = new.marks; state = new.state; moves = new.moves; placed = new.placed; wide = new.wide }) = record {
      covers = covers_again g wired node value old new fits.covers places new.moves new.placed;
      coded = λ k part stands some none.
          elim (known_or_not new.wide) [
            | inl (one, is) ↦
                let (before, was, placed) = placed_wide node old.wide new.wide old.state new.state places.wide one is in
                (one, is, held_placed g wired node value old new fits.covers places before one placed (slice_index_or old.uses k None) part (held_at g old fits before was k part stands some none))
            | inr gone ↦
                absurd (coded_without g old fits (none_placed node old.wide new.wide old.state new.state places.wide gone) k part stands some none)
          ];
      railed = fits.railed;
      sound = record { gnd = gnd_stays ∙ fits.sound.gnd; vdd = vdd_stays ∙ fits.sound.vdd };
      texts = fits.texts;
    } in
    subst (FitsGraph g) (same_machine old new places.groups places.parts places.uses places.texts places.last places.spare) again

-- a node is placed in a machine of which nothing else is another but the marks, the count of placed members and what is stepped by vicinities
pub Places-beside : (node : ℕ) (value : Tern) (old : MachineData) (marks : List Bool) (state : List Tern) (placed : ℕ) (wide : Option WideData) →
    state ≡ slice_set old.state node value → length marks ≡ length old.marks → ((k : ℕ) → IsMarked old.marks k → IsMarked marks k) →
    ((k : ℕ) → Concerns old.parts k node → IsMarked marks k) → ((k : ℕ) → IsMarked marks k → IsMarked old.marks k ⊎ Concerns old.parts k node) →
    PlacesIn node old.wide wide old.state state → Places node value old (record old { marks = marks; state = state; placed = placed; wide = wide })
Places-beside node value old marks state placed wide state_is count stays concerns only wide_placed = record {
  wide = wide_placed;
  state = state_is;
  count = count;
  stays = stays;
  concerns = concerns;
  only = only;
  build = record { groups = refl; last = refl; spare = refl };
  held = record { parts = refl; uses = refl; texts = refl };
  moves = refl;
}

-- a node is placed where its owner and its readers are marked
pub Places-marked : (node : ℕ) (value : Tern) (old : MachineData) (waiting : List Bool) (lists : List (SmallVec ℕ)) (owners numbers : List (Option ℕ)) (held most : ℕ)
    (room : Rooms) → IsMachine old.parts old.marks waiting (length old.state) lists owners numbers held most room → (owner : Option ℕ) →
    owner ≡ slice_index_or owners node None → (mid new : List Bool) → MarksAll (λ k. owner ≡ Some k) old.marks mid → (read : List ℕ) →
    read ≡ readers_of lists node → MarksAll (Contains read) mid new → (placed : ℕ) (wide : Option WideData) →
    PlacesIn node old.wide wide old.state (slice_set old.state node value) →
    Places node value old (record old { marks = new; state = slice_set old.state node value; placed = placed; wide = wide })
Places-marked node value old waiting lists owners numbers held most room machine owner owner_is mid new first read read_is second placed wide wide_placed =
    Places-beside node value old new (slice_set old.state node value) placed wide refl (second.count ∙ first.count)
    (λ k was. second.stays k (first.stays k was)) concerns only wide_placed
  where
    concerns : (k : ℕ) → Concerns old.parts k node → IsMarked new k
    concerns k (inl has) = second.stays k (first.set k (owner_is ∙ machine.own.owner node k has))
    concerns k (inr reads) = second.set k (subst (λ xs. Contains xs k) (sym read_is) (machine.runs.readers node k reads))

    only : (k : ℕ) → IsMarked new k → IsMarked old.marks k ⊎ Concerns old.parts k node
    only k marked =
        elim (second.only k marked) [
          | inl before ↦
              elim (first.only k before) [
                | inl was ↦ inl was
                | inr is ↦ inr (inl (machine.own.member node k (sym owner_is ∙ is)))
              ]
          | inr there ↦ inr (inr (machine.runs.reads node k (subst (λ xs. Contains xs k) read_is there)))
        ]
