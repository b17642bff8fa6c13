-- A machine that is ready fits the graph once the groups of its stale parts are held, anew or as before.
use Rattle.std.proofs.Common.{◌≡◌, ℕ, ◌<◌, ◌≤◌, inl, inr, List, [], length, map, All, Option, None, Some, refl, sym, ap, subst, ◌∙◌, arith}
use Rattle.std.specs.Prelude.{Contains, slice_index_or, vec_capacity}
use Rattle.std.proofs.lemmas.List.{get_or-map}
use Rattle.ternary.specs.declared.tern.Tern.{Tern}
use Rattle.switch_paths.specs.Graphs.{GraphData, IsStorage}
use Rattle.switch_paths.specs.Rails.{IsRailed, IsSound}
use Rattle.group_meaning.specs.Groups.{Group, id_of}
use Rattle.group_meaning.proofs.UniqueGroups.{id_member, same_by_member}
use Rattle.group_meaning.proofs.GroupLemmas.{member_storage}
use Rattle.group_text.specs.Texts.{GroupTextData}
use Rattle.circuit_texts.specs.Sizes.{NoneRefused}
use Rattle.vicinity.specs.Wides.{WideData}
use Rattle.wide_groups.specs.Awake.{HoldsWide}
use Rattle.wide_groups.specs.Holding.{HoldsMembers}
use Rattle.wide_groups.specs.Moving.{graph_in}
use Rattle.wide_groups.specs.Staying.{HoldsNode, lowered}
use Rattle.machine_parts.specs.declared.part.MachinePart.{MachinePart}
use Rattle.machine_parts.specs.Parts.{Stands, IsMemberAt, IsStale}
use Rattle.machine_parts.proofs.PartLemmas.{same_part}
use Rattle.machine_laws.specs.Machines.{MachineData}
use Rattle.machine_laws.specs.Fitting.{IsPartOf, IsOutside, Covers, FitsGraph, AreUntold}
use Rattle.machine_laws.specs.Editing.{StaysKnown}
use Rattle.machine_laws.specs.Finishing.{first_node}
use Rattle.machine_laws.specs.Holding.{HoldsStale, IsReady}
use Rattle.machine_laws.proofs.KeptLemmas.{group_there}
use Rattle.machine_laws.proofs.PartGroups.{some_members, member_in_group, member_of_part}
use Rattle.machine_laws.proofs.HeldParts.{taken_member, member_taken}
use Rattle.machine_laws.proofs.HoldingGroups.{FitsGraph-kept, FitsGraph-holding, held_stale_only}
use Rattle.machine_laws.proofs.FinishingWaiting.{first_is}
use Rattle.unit_step.specs.declared.holding.Holding.{Holding}
use Rattle.unit_step.specs.Holding.{HasNodes, GoesOn, HoldsAll, HoldsAnew, HoldsNextIn, wide_after, wide_in, room_in}
use Rattle.unit_step.specs.Waking.{Wakes}

pub none_after : (large : ℕ) (wide : Option WideData) (holding : Option Holding) → wide ≡ None → wide_in holding ≡ None → wide_after large wide holding ≡ None
none_after large wide None is none = ap (lowered large) is
none_after large wide (Some holding) is none = absurd (cc none)

-- a stale part has nodes
pub some_nodes : (parts : List MachinePart) (count : ℕ) → All (HasNodes count) parts → (k : ℕ) → IsStale parts k →
    0 < length (slice_index_or (map (λ (part : MachinePart). part.map.items) parts) k [])
some_nodes parts count there k stale =
    let part = stale.part in
    let inside = stale.stands.inside in
    let has = subst (HasNodes count) stale.stands.here (there k part inside) in
    let is = get_or-map (λ (one : MachinePart). one.map.items) parts k part [] inside ∙ ap (λ (one : MachinePart). one.map.items) stale.stands.here in
    subst (λ (xs : List ℕ). 0 < length xs) (sym is) (omega (arith, stale.some, has.members))

-- of no list a part is one
not_among : (k : ℕ) → ¬ Contains [] k
not_among k there = absurd (omega (arith, there.1))

-- a stale part goes on waiting if none gets its code
goes_on : (parts : List MachinePart) (k : ℕ) → IsStale parts k → GoesOn parts [] k
goes_on parts k stale = record { stale = stale; other = not_among k }

-- if no part has a group without a text, and each other one has code, nothing is held anew
pub none_held : (g : GraphData) (m : MachineData) (holding : Option Holding) → Covers g m → AreUntold g m.parts → NoneRefused 0 g →
    HoldsNextIn 0 g m [] holding → wide_in holding ≡ None
none_held g m None covers untold few next = refl
none_held g m (Some holding) covers untold few next = absurd (next.new (λ k goes.
    let stale = goes.stale in
    let (group, is_part) = covers.whole k stale.part stale.stands stale.some in
    let (i, inside, at) = group_there g covers.groups.groups covers.are.are group is_part.is_group in
    absurd (untold k stale.part group stale.stands stale.none is_part (few covers.groups.groups covers.are.are i group at))))

module _ (large : ℕ) (g : GraphData) (m : MachineData) (ready : IsReady g m) (few : NoneRefused large g) (railed : IsRailed g) (sound : IsSound m.state) where
  -- what is held anew are the groups of the stale parts
  stale_held : (holding : Holding) → HoldsAnew large g m.parts m.wide m.state [] holding → HoldsStale large g m.parts m.state holding.wide
  stale_held holding anew = record {
    inside = anew.holds.inside;
    members = λ node.
        let (to, back) = anew.holds.members node in (
          λ among.
              let (k, there, has) = to among in
              record { k = k; has = has; stale = ((anew.are k).0 there).stale },
          λ of. back (of.k, (anew.are of.k).1 (goes_on m.parts of.k of.stale), of.has),
        );
    holds = anew.holds.holds;
  }

  -- so the machine fits the graph with what is held
  pub FitsGraph-next : (holding : Option Holding) → HoldsNextIn large g m [] holding → FitsGraph g (record m { wide = wide_after large m.wide holding })
  FitsGraph-next None all =
      FitsGraph-kept g m ready railed sound large few (λ k part group stands stale is_part.
      subst (HoldsNode m.wide) (first_is g m.parts k part stands group is_part)
      (all k (goes_on m.parts k (record { part = part; stands = stands; some = some_members is_part; none = stale }))))
  FitsGraph-next (Some holding) anew = FitsGraph-holding g m ready railed sound large few holding.wide (stale_held holding anew)

  -- and it can be stepped with the machine's parts
  pub HoldsWide-next : (holding : Option Holding) → HoldsNextIn large g m [] holding → HoldsWide m.parts m.state (room_in holding) (wide_in holding)
  HoldsWide-next None all = tt
  HoldsWide-next (Some holding) anew = record {
    listed = anew.holds.holds.listed;
    stale_only = held_stale_only g m ready railed sound large few holding.wide (stale_held holding anew);
    enough = anew.holds.enough;
  }

module _ (g : GraphData) (old mid : MachineData) (coded : List ℕ) (covers : Covers g old) (wakes : Wakes g coded old mid) where
  -- a part that waits still has the group that it had
  pub same_group : (k : ℕ) (was part : MachinePart) (one group : Group) → Stands old.parts k was → Stands mid.parts k part → IsPartOf g one was → IsPartOf g group part →
      one ≡ group
  same_group k was part one group stood stands was_part is_part =
      let node = id_of group in
      let member = id_member g group is_part.is_group in
      let (place, at) = member_of_part g group part is_part node member in
      let has = (wakes.members k node).0 (record { part = part; stands = stands; place = place; member = at }) in
      let same : has.part ≡ was = same_part old.parts k has.part was has.stands stood in
      let before : IsMemberAt was has.place node = subst (λ it. IsMemberAt it has.place node) same has.member in
      same_by_member g one group was_part.is_group is_part.is_group node (member_in_group g one was was_part has.place node before) member

  -- so it begins where it did
  same_first : (k : ℕ) → IsStale old.parts k → IsStale mid.parts k → first_node old.parts k ≡ first_node mid.parts k
  same_first k was now =
      let (one, was_part) = covers.whole k was.part was.stands was.some in
      let (group, is_part) = wakes.ready.covers.whole k now.part now.stands now.some in
      let same = same_group k was.part now.part one group was.stands now.stands was_part is_part in
      first_is g old.parts k was.part was.stands one was_part ∙ (ap id_of same ∙ sym (first_is g mid.parts k now.part now.stands group is_part))

  all_then : HoldsAll old.parts old.wide coded → HoldsAll mid.parts mid.wide []
  all_then all k goes =
      let before = (wakes.stale k).0 goes.stale in
      subst (λ wide. HoldsNode wide (first_node mid.parts k)) (sym wakes.wide)
      (subst (HoldsNode old.wide) (same_first k before.stale goes.stale) (all k before))

  all_before : HoldsAll mid.parts mid.wide [] → HoldsAll old.parts old.wide coded
  all_before all k goes =
      let now = (wakes.stale k).1 goes in
      subst (HoldsNode old.wide) (sym (same_first k goes.stale now))
      (subst (λ wide. HoldsNode wide (first_node mid.parts k)) wakes.wide (all k (goes_on mid.parts k now)))

  -- what was to be held once these got their codes is to be held now
  pub next_woken : (large : ℕ) (holding : Option Holding) → HoldsNextIn large g old coded holding → HoldsNextIn large g mid [] holding
  next_woken large None all = all_then all
  next_woken large (Some holding) anew = record {
    new = λ all. anew.new (all_before all);
    these = anew.these;
    are = λ k.
        let (to, back) = anew.are k in
        (λ there. goes_on mid.parts k ((wakes.stale k).1 (to there)), λ goes. back ((wakes.stale k).0 goes.stale));
    holds = record {
      inside = anew.holds.inside;
      members = λ node.
          let (to, back) = anew.holds.members node in (
            λ among.
                let (k, there, has) = to among in
                (k, there, (wakes.members k node).1 has),
            λ of.
                let (k, there, has) = of in
                back (k, there, (wakes.members k node).0 has),
          );
      holds = subst (λ state. HoldsMembers large g state anew.holds.inside holding.wide) (sym wakes.state) anew.holds.holds;
      enough = subst (λ (state : List Tern). length state ≤ vec_capacity holding.noted) (sym wakes.state) anew.holds.enough;
    };
  }

  -- if each stale part is that of a group that was held, the same groups are held
  stays_next : (large : ℕ) (holding : Option Holding) → HoldsNextIn large g old coded holding →
      StaysKnown large old (record mid { wide = wide_after large mid.wide holding })
  stays_next large None next = λ wide is inside. ap (lowered large) (wakes.wide ∙ is)
  stays_next large (Some holding) next = λ wide is inside. absurd (next.new (all_held wide is inside))
    where
      all_held : (wide : WideData) → old.wide ≡ Some wide →
          ((k : ℕ) (part : MachinePart) → Stands mid.parts k part → 0 < part.members → part.code ≡ None → ¬ IsOutside wide.graph part) →
          HoldsAll old.parts old.wide coded
      all_held wide is inside k goes =
          let was = goes.stale in
          elim (covers.held wide is k was.part was.stands was.some was.none) [
            | inl held ↦
                let group = held.group in
                let storage : IsStorage wide.graph (id_of group) =
                member_storage wide.graph group held.alike.there (id_of group) (id_member wide.graph group held.alike.there) in
                subst (HoldsNode old.wide) (sym (first_is g old.parts k was.part was.stands group held.is_part))
                (subst (λ one. IsStorage (graph_in one) (id_of group)) (sym is) storage)
            | inr outside ↦
                let now = (wakes.stale k).1 goes in
                absurd (inside k now.part now.stands now.some now.none (λ node there.
                let has = (wakes.members k node).0 (taken_member mid.parts k now.part now.stands node there) in
                outside node (member_taken old.parts k was.part was.stands node has)))
          ]

  pub StaysKnown-next : (large : ℕ) (holding : Option Holding) (new : MachineData) → HoldsNextIn large g old coded holding →
      new ≡ record mid { wide = wide_after large mid.wide holding } → StaysKnown large old new
  StaysKnown-next large holding new next same = subst (StaysKnown large old) (sym same) (stays_next large holding next)

-- whatever the texts of the last build are
pub StaysKnown-last : (large : ℕ) (old mid : MachineData) (last : List GroupTextData) → StaysKnown large old mid → StaysKnown large old (record mid { last = last })
StaysKnown-last large old mid last stays wide is inside = stays wide is inside
