-- A machine that is ready fits the graph once the groups of its stale parts are held, or if they are already.
use Rattle.std.proofs.Common.{◌≡◌, ℕ, ◌<◌, ◌≤◌, inl, inr, List, length, take, Option, None, Some, refl, sym, ap, subst, arith}
use Rattle.std.specs.Prelude.{Contains, min, slice_index_or}
use Rattle.std.proofs.lemmas.Bool.{cases_lt}
use Rattle.switch_paths.specs.Graphs.{GraphData, IsStorage}
use Rattle.switch_paths.specs.Rails.{IsRailed, IsSound}
use Rattle.group_meaning.specs.Groups.{Group, id_of}
use Rattle.group_meaning.proofs.UniqueGroups.{id_member}
use Rattle.vicinity.specs.Wides.{WideData}
use Rattle.circuit_texts.specs.Sizes.{NoneRefused, fault_in, refused_in}
use Rattle.circuit_texts.proofs.SizeLemmas.{fits_any, few_any, few_members}
use Rattle.machine_parts.specs.declared.part.MachinePart.{MachinePart}
use Rattle.machine_parts.specs.Parts.{Stands}
use Rattle.wide_groups.specs.Moving.{HasStaleOnly, graph_in}
use Rattle.wide_groups.specs.Staying.{HoldsNode, lowered}
use Rattle.wide_groups.proofs.StayingLemmas.{none_holds_node, lowered_from}
use Rattle.wide_groups.specs.Holding.{IsWithin}
use Rattle.machine_laws.specs.Machines.{MachineData}
use Rattle.machine_laws.specs.Fitting.{IsPartOf, IsHeldIn, Covers, FitsGraph}
use Rattle.machine_laws.specs.Holding.{HoldsStale, IsReady}
use Rattle.machine_laws.proofs.FittingLemmas.{covers_with}
use Rattle.machine_laws.proofs.HeldLemmas.{known_or_not}
use Rattle.machine_laws.proofs.KeptLemmas.{group_there}
use Rattle.machine_laws.proofs.PartGroups.{member_of_part}

-- a group that isn't refused isn't with a larger bound either
pub allowed_more : (one two : ℕ) (group : Group) → 0 < length group.members → one ≤ two → refused_in one group ≡ None → refused_in two group ≡ None
allowed_more one two group some more allowed =
    elim (known_or_not (fault_in group)) [
      | inr fits ↦ fits_any two group fits
      | inl (fault, is) ↦
          let few = few_members one group allowed (λ none. absurd (cc (none, is))) in
          few_any two group (λ zero_is. omega (arith, zero_is, more, few, some)) (omega (arith, few, more))
    ]

-- nor is it with the smaller of two bounds
allowed_less : (one two : ℕ) (group : Group) → refused_in one group ≡ None → refused_in two group ≡ None → refused_in (min one two) group ≡ None
allowed_less one two group first second =
    elim (cases_lt one two) [
      | inl below ↦
          let is : min one two ≡ one = omega (arith, below) in
          subst (λ bound. refused_in bound group ≡ None) (sym is) first
      | inr past ↦
          let is : min one two ≡ two = omega (arith, past) in
          subst (λ bound. refused_in bound group ≡ None) (sym is) second
    ]

module _ (g : GraphData) (m : MachineData) (ready : IsReady g m) (railed : IsRailed g) (sound : IsSound m.state) (large : ℕ) (few : NoneRefused large g) where
  abbrev all_groups : List Group
  all_groups = ready.covers.groups.groups

  -- it covers the graph with other groups that are stepped by vicinities, if all its stale parts are those of such groups
  with_wide : (wide : Option WideData) → ((one : WideData) → wide ≡ Some one → HasStaleOnly m.parts one.graph) →
      ((one : WideData) → wide ≡ Some one → (k : ℕ) (part : MachinePart) → Stands m.parts k part → 0 < part.members → part.code ≡ None →
      IsHeldIn g m.state one (slice_index_or m.uses k None) part) → Covers g (record m { wide = wide })
  with_wide wide stale_only held =
      covers_with g m ready.covers m.marks m.state m.last m.moves m.placed m.spare wide ready.covers.counted ready.covers.waits ready.covers.rests stale_only
      (λ one is k part stands some none. inl (held one is k part stands some none))

  -- if each stale part is that of a group that is stepped by vicinities already, these groups are known as before, with this bound besides
  module _ (known : (k : ℕ) (part : MachinePart) (group : Group) → Stands m.parts k part → part.code ≡ None → IsPartOf g group part → HoldsNode m.wide (id_of group)) where
    held_still : (wide : WideData) → m.wide ≡ Some wide → (k : ℕ) (part : MachinePart) → Stands m.parts k part → 0 < part.members → part.code ≡ None →
        IsHeldIn g m.state (record wide { large = min wide.large large }) (slice_index_or m.uses k None) part
    held_still wide is k part stands some none =
        elim (ready.covers.held wide is k part stands some none) [
          | inl held ↦
              let (i, inside, at) = group_there g all_groups ready.covers.are.are held.group held.is_part.is_group in
              record {
                group = held.group;
                is_part = held.is_part;
                allowed = allowed_less wide.large large held.group held.allowed (few all_groups ready.covers.are.are i held.group at);
                told = held.told;
                wired = held.wired;
                alike = held.alike;
                rests = held.rests;
              }
          | inr outside ↦
              let (group, is_part) = ready.covers.whole k part stands some in
              let there : Contains (take part.members part.map.items) (id_of group) =
              subst (λ xs. Contains xs (id_of group)) (sym is_part.members) (id_member g group is_part.is_group) in
              absurd (outside (id_of group) there (subst (λ one. IsStorage (graph_in one) (id_of group)) is (known k part group stands none is_part)))
        ]

    pub FitsGraph-kept : FitsGraph g (record m { wide = lowered large m.wide })
    FitsGraph-kept = record {
      covers = with_wide (lowered large m.wide)
          (λ later is.
          let (wide, was, same) = lowered_from large m.wide later is in
          subst (λ (w : WideData). HasStaleOnly m.parts w.graph) (sym same) (ready.covers.stale_only wide was))
          (λ later is k part stands some none.
          let (wide, was, same) = lowered_from large m.wide later is in
          subst (λ (w : WideData). IsHeldIn g m.state w (slice_index_or m.uses k None) part) (sym same) (held_still wide was k part stands some none));
      coded = λ k part stands some none.
          elim (known_or_not m.wide) [
            | inl (wide, was) ↦
                (record wide { large = min wide.large large }, ap (lowered large) was, held_still wide was k part stands some none)
            | inr unknown ↦
                let (group, is_part) = ready.covers.whole k part stands some in
                absurd (none_holds_node m.wide unknown (id_of group) (known k part group stands none is_part))
          ];
      railed = railed;
      sound = sound;
      texts = ready.texts;
    }

  module _ (wide : WideData) (these : HoldsStale large g m.parts m.state wide) where
    -- its storage nodes are members of stale parts
    pub held_stale_only : HasStaleOnly m.parts wide.graph
    held_stale_only node storage =
        let of = (these.members node).0 (these.holds.storage node storage) in
        (of.k, of.has, of.stale)

    held_part : (k : ℕ) (part : MachinePart) → Stands m.parts k part → 0 < part.members → part.code ≡ None →
        IsHeldIn g m.state wide (slice_index_or m.uses k None) part
    held_part k part stands some none =
        let (group, is_part) = ready.covers.whole k part stands some in
        let within : IsWithin these.inside group = λ node member.
        let (place, is) = member_of_part g group part is_part node member in
        (these.members node).1 (record {
          k = k;
          has = record { part = part; stands = stands; place = place; member = is };
          stale = record { part = part; stands = stands; some = some; none = none };
        }) in
        let (i, inside, at) = group_there g all_groups ready.covers.are.are group is_part.is_group in
        record {
          group = group;
          is_part = is_part;
          allowed = subst (λ bound. refused_in bound group ≡ None) (sym these.holds.bound) (few all_groups ready.covers.are.are i group at);
          told = ready.told k part group stands none is_part;
          wired = these.holds.wired;
          alike = these.holds.alike group is_part.is_group within;
          rests = these.holds.rests group is_part.is_group within;
        }

    -- the machine fits the graph with them
    pub FitsGraph-holding : FitsGraph g (record m { wide = Some wide })
    FitsGraph-holding = record {
      covers = with_wide (Some wide)
          (λ known is.
          let same : wide ≡ known = cc is in
          subst (λ (w : WideData). HasStaleOnly m.parts w.graph) same held_stale_only)
          (λ known is k part stands some none.
          let same : wide ≡ known = cc is in
          subst (λ (w : WideData). IsHeldIn g m.state w (slice_index_or m.uses k None) part) same (held_part k part stands some none));
      coded = λ k part stands some none. (wide, refl, held_part k part stands some none);
      railed = railed;
      sound = sound;
      texts = ready.texts;
    }
