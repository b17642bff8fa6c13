-- A step of a machine beside a good run is a step of the fault's graph: a node whose part isn't apart follows, one whose part is marked is evaluated, and
-- all others rest.
use Rattle.std.proofs.Common.{◌≡◌, ℕ, ◌<◌, Bool, true, false, inl, inr, ◌⊎◌, Some, Global, List, length, map, take, refl, sym, ap, subst, ◌∙◌, arith}
use Rattle.std.specs.Prelude.{Contains, Option, slice_index_or}
use Rattle.std.specs.declared.rc.Rc.{Rc}
use Rattle.std.proofs.lemmas.List.{get_or-replicate}
use Rattle.ternary.specs.declared.tern.Tern.{Tern}
use Rattle.strength_order.specs.declared.TheConstants.{INPUT_LEVEL}
use Rattle.switch_paths.specs.Switching.{state_at}
use Rattle.switch_paths.specs.Graphs.{GraphData, IsWired, IsStorage, nodes, level_of}
use Rattle.switch_paths.specs.Step.{IsResponse}
use Rattle.group_meaning.specs.Groups.{Group}
use Rattle.group_meaning.proofs.GroupLemmas.{storage_or_input}
use Rattle.group_rest.specs.Rest.{Reads}
use Rattle.group_rest.proofs.AlikeGroups.{alike_groups_read_alike}
use Rattle.straight_code.specs.Code.{CodeData, code_value}
use Rattle.part_words.specs.declared.change.Change.{Change}
use Rattle.machine_parts.specs.declared.part.MachinePart.{MachinePart}
use Rattle.machine_parts.specs.Parts.{Stands, HasMember, IsStale}
use Rattle.machine_parts.specs.Marking.{IsMarked}
use Rattle.machine_parts.specs.Running.{AreOwners, IsTaken}
use Rattle.machine_parts.specs.Stepping.{Concerns, IsGiven}
use Rattle.machine_parts.proofs.CaseLemmas.{same_or_not, something, true_or_not}
use Rattle.machine_parts.proofs.PartLemmas.{same_part, HasMember-from_Gives}
use Rattle.vicinity.specs.Wides.{WideData}
use Rattle.wide_groups.specs.Moving.{IsAwakeIn}
use Rattle.wide_groups.proofs.WideCases.{awake_stale}
use Rattle.part_steps.proofs.TakingLemmas.{change_of}
use Rattle.machine_laws.specs.Machines.{MachineData}
use Rattle.machine_laws.specs.Fitting.{IsPartOf}
use Rattle.machine_laws.proofs.HeldLemmas.{known_or_not}
use Rattle.machine_laws.proofs.PartGroups.{member_in_group, member_of_part}
use Rattle.machine_laws.proofs.ResponseLemmas.{MovesTo-held, given_is_response, member_is_storage, storage_has_part}
use Rattle.run_beside.specs.Agreeing.{Agrees, IsMove, Follows, IsEvaluated, StaysAtRest}
use Rattle.run_beside.specs.Following.{FollowsAt}
use Rattle.run_beside.specs.Stepping.{MovesBeside}
use Rattle.run_beside.proofs.DifferenceSteps.{steps_by_difference}
use Rattle.beside.specs.Fitting.{FitsBeside, all_marked}

module _ (g h : GraphData) (wired : IsWired g) (wired_too : IsWired h) (good : List Tern) (apart : List Bool) (m : MachineData) (fits : FitsBeside g h good apart m) where
  -- what a marked part gives, it gives if all parts are marked
  all_given : (node : ℕ) (value : Tern) → IsGiven m.parts m.marks m.state node value → IsGiven m.parts (all_marked m).marks m.state node value
  all_given node value given = record {
    k = given.k;
    marked = get_or-replicate (length m.parts) given.k true false given.gives.stands.inside;
    gives = given.gives;
  }

  -- so it is the steady state
  pub given_response : (node : ℕ) (value : Tern) → IsGiven m.parts m.marks m.state node value → IsResponse h m.state node value
  given_response node value given = given_is_response h wired_too (all_marked m) fits.fits node value (all_given node value given)

  -- a member of a part is a storage node
  pub is_storage : (k node : ℕ) → HasMember m.parts k node → IsStorage h node
  is_storage = member_is_storage h wired_too (all_marked m) fits.fits

  -- a stale part is apart
  pub stale_apart : (k : ℕ) → IsStale m.parts k → IsMarked apart k
  stale_apart k stale = fits.only k (fits.waits k stale)

  -- a part that isn't stale and has members has code
  code_of : (k : ℕ) (part : MachinePart) → Stands m.parts k part → 0 < part.members → (¬ IsStale m.parts k) → (code : Rc CodeData Global) × (part.code ≡ Some code)
  code_of k part stands some fresh =
      something part.code (λ none. fresh (record { part = part; stands = stands; some = some; none = none }))

  -- what is awake is of a stale part
  awake_has_stale : (node : ℕ) → IsAwakeIn m.wide m.state node → (k : ℕ) × HasMember m.parts k node × IsStale m.parts k
  awake_has_stale = awake_stale m.parts m.wide fits.fits.covers.stale_only m.state

  -- a node that is given a value or is awake is a member of a marked part
  given_marked : (k node : ℕ) → HasMember m.parts k node → (¬ IsMarked m.marks k) → (value : Tern) → ¬ IsGiven m.parts m.marks m.state node value
  given_marked k node has unmarked value given =
      let same = fits.fits.covers.apart given.k k node (HasMember-from_Gives m.parts m.state given.k node value given.gives) has in
      unmarked (subst (IsMarked m.marks) same given.marked)

  awake_marked : (k node : ℕ) → HasMember m.parts k node → (¬ IsMarked m.marks k) → ¬ IsAwakeIn m.wide m.state node
  awake_marked k node has unmarked awake =
      let (l, has_too, stale) = awake_has_stale node awake in
      unmarked (subst (IsMarked m.marks) (fits.fits.covers.apart l k node has_too has) (fits.waits l stale))

  -- so no input node is
  given_inside : (node : ℕ) → level_of h node ≡ INPUT_LEVEL → (value : Tern) → ¬ IsGiven m.parts m.marks m.state node value
  given_inside node input value given =
      let storage = is_storage given.k node (HasMember-from_Gives m.parts m.state given.k node value given.gives) in
      absurd (omega (arith, storage.below, input))

  awake_inside : (node : ℕ) → level_of h node ≡ INPUT_LEVEL → ¬ IsAwakeIn m.wide m.state node
  awake_inside node input awake =
      let (k, has, stale) = awake_has_stale node awake in
      absurd (omega (arith, (is_storage k node has).below, input))

  -- a stale part gives nothing
  stale_gives : (k node : ℕ) → HasMember m.parts k node → IsStale m.parts k → (value : Tern) → ¬ IsGiven m.parts m.marks m.state node value
  stale_gives k node has stale value given =
      let gives = given.gives in
      let same = fits.fits.covers.apart given.k k node (HasMember-from_Gives m.parts m.state given.k node value gives) has in
      let part = same_part m.parts k stale.part gives.part stale.stands (subst (λ l. Stands m.parts l gives.part) same gives.stands) in
      absurd (cc (ap (λ (p : MachinePart). p.code) part, stale.none, gives.has))

  -- both runs agree on the group of a part that isn't apart
  agrees_on : (k : ℕ) (part : MachinePart) → Stands m.parts k part → 0 < part.members → (¬ IsMarked apart k) → (group : Group) →
      IsPartOf h group part →
      Agrees g group good m.state
  agrees_on k part stands some out group is_part =
      let alike = fits.shared k part stands out group is_part in
      record {
        members = λ node member.
            let (place, there) = member_of_part h group part is_part node member in
            same_here node (inl (record { part = part; stands = stands; place = place; member = there }));
        reads = λ node reads.
            let here : Reads h group node = (alike_groups_read_alike g h group wired wired_too alike node).1 reads in
            let (code, is) = code_of k part stands some (λ stale. out (stale_apart k stale)) in
            same_here node (inr (record { part = part; stands = stands; reads = ((is_part.coded code is).reads node).1 here }));
      }
    where
      same_here : (node : ℕ) → Concerns m.parts k node → state_at m.state node ≡ state_at good node
      same_here node concerns =
          elim (same_or_not (state_at m.state node) (state_at good node)) [
            | inl same ↦ same
            | inr differs ↦ absurd (out (fits.kept node differs k concerns))
          ]

  module _ (joining : Bool) (good_next : List Tern) (changes : List Change) (owners : List (Option ℕ)) (owned : AreOwners m.parts (length m.state) owners)
      (new : List Tern) (taken : IsTaken changes good good_next) (moves : MovesBeside joining m.parts m.marks m.wide owners apart changes m.state new) where
    -- a member of a part that is apart doesn't follow
    apart_stays : (k node : ℕ) → HasMember m.parts k node → IsMarked apart k → ¬ FollowsAt owners apart node
    apart_stays k node has is (l, owner, out) =
        out (subst (IsMarked apart) (fits.fits.covers.apart k l node has (owned.member node l owner)) is)

    -- nor does an input node
    input_stays_out : (node : ℕ) → level_of h node ≡ INPUT_LEVEL → ¬ FollowsAt owners apart node
    input_stays_out node input (l, owner, out) =
        absurd (omega (arith, (is_storage l node (owned.member node l owner)).below, input))

    -- which stays
    pub input_stays : (node : ℕ) → level_of h node ≡ INPUT_LEVEL → state_at new node ≡ state_at m.state node
    input_stays node input =
        moves.stays node (given_inside node input) (awake_inside node input)
        (λ change there asked same. input_stays_out node input (subst (FollowsAt owners apart) same asked))

    -- a member of a part that is apart and isn't marked stays
    pub unmarked_stays : (k node : ℕ) → HasMember m.parts k node → IsMarked apart k → (¬ IsMarked m.marks k) → state_at new node ≡ state_at m.state node
    unmarked_stays k node has is unmarked =
        moves.stays node (given_marked k node has unmarked) (awake_marked k node has unmarked)
        (λ change there asked same. apart_stays k node has is (subst (FollowsAt owners apart) same asked))

    -- and so does one of a stale part that is asleep
    pub stale_stays : (k node : ℕ) → HasMember m.parts k node → IsStale m.parts k → (¬ IsAwakeIn m.wide m.state node) → state_at new node ≡ state_at m.state node
    stale_stays k node has stale asleep =
        moves.stays node (stale_gives k node has stale) asleep
        (λ change there asked same. apart_stays k node has (stale_apart k stale) (subst (FollowsAt owners apart) same asked))

    -- a member of a part that isn't apart follows
    follows : (k node : ℕ) → HasMember m.parts k node → (¬ IsMarked apart k) → Follows g h good good_next m.state new node
    follows k node has out =
        let part = has.part in
        let some : 0 < part.members = omega (arith, has.member.inside) in
        let (group, is_part) = fits.fits.covers.whole k part has.stands some in
        let agrees = agrees_on k part has.stands some out group is_part in
        let member = member_in_group h group part is_part has.place node has.member in
        let unmarked : ¬ IsMarked m.marks k = λ marked. out (fits.only k marked) in
        record {
          group = group;
          alike = fits.shared k part has.stands out group is_part;
          member = member;
          agrees = agrees;
          takes = elim (change_of changes node) [
            | inl (change, there, same) ↦
                let asked : FollowsAt owners apart change.node = subst (FollowsAt owners apart) (sym same) (k, owned.owner node k has, out) in
                subst (λ n. state_at new n ≡ state_at good_next n) same (moves.follows change there asked ∙ sym (taken.taken change there))
            | inr none ↦
                moves.stays node (given_marked k node has unmarked) (awake_marked k node has unmarked) (λ change there asked. none change there)
                ∙ (agrees.members node member ∙ sym (taken.stays node none))
          ];
        }

    -- a member of a marked part with code is evaluated
    coded : (k node : ℕ) (has : HasMember m.parts k node) → IsMarked m.marks k → (code : Rc CodeData Global) → has.part.code ≡ Some code →
        IsEvaluated joining h m.state new node
    coded k node has marked code is =
        let given : IsGiven m.parts m.marks m.state node (state_at (code_value code.value (map (state_at m.state) has.part.map.items)) has.place) = record {
          k = k;
          marked = marked;
          gives = record {
            part = has.part;
            stands = has.stands;
            code = code;
            has = is;
            place = has.place;
            member = has.member;
            value_is = refl;
          };
        } in
        record { answer = _; response = given_response node _ given; takes = moves.given node _ given }

    -- and so is one of a group that is stepped by vicinities
    held : (wide : WideData) → m.wide ≡ Some wide → (k node : ℕ) → HasMember m.parts k node → IsStale m.parts k → node < nodes h →
        IsEvaluated joining h m.state new node
    held wide is k node has stale in_range =
        let to = MovesTo-held h wired_too (all_marked m) fits.fits joining new moves.awake wide is k node has stale in_range (stale_stays k node has stale) in
        record { answer = to.value; response = to.response; takes = to.moves }

    -- a member of a marked part is evaluated
    evaluated : (k node : ℕ) → HasMember m.parts k node → IsMarked m.marks k → node < nodes h → IsEvaluated joining h m.state new node
    evaluated k node has marked in_range =
        let some : 0 < has.part.members = omega (arith, has.member.inside) in
        elim (known_or_not has.part.code) [
          | inl (code, is) ↦ coded k node has marked code is
          | inr none ↦
              let (wide, is, there) = fits.fits.coded k has.part has.stands some none in
              held wide is k node has (record { part = has.part; stands = has.stands; some = some; none = none }) in_range
        ]

    -- one of a part that is apart and isn't marked rests
    pub unmarked_response : (k node : ℕ) → HasMember m.parts k node → IsMarked apart k → (¬ IsMarked m.marks k) → IsResponse h m.state node (state_at m.state node)
    unmarked_response k node has is unmarked =
        let part = has.part in
        let some : 0 < part.members = omega (arith, has.member.inside) in
        let (group, is_part) = fits.fits.covers.whole k part has.stands some in
        let there : Contains (take part.members part.map.items) node =
        subst (λ members. Contains members node) (sym is_part.members) (member_in_group h group part is_part has.place node has.member) in
        fits.rests k part has.stands is unmarked node there

    -- so each node follows, is evaluated or stays at rest
    each_node : (node : ℕ) → node < nodes h →
        Follows g h good good_next m.state new node ⊎ (IsEvaluated joining h m.state new node ⊎ StaysAtRest h m.state new node)
    each_node node in_range =
        elim (storage_or_input h wired_too node in_range) [
          | inr input ↦ inr (inr (record { steady = inr input; stays = input_stays node input }))
          | inl storage ↦
              let (k, has) = storage_has_part h wired_too (all_marked m) fits.fits node storage in
              elim (true_or_not (slice_index_or apart k false)) [
                | inr out ↦ inl (follows k node has out)
                | inl is ↦
                    elim (true_or_not (slice_index_or m.marks k false)) [
                      | inl marked ↦ inr (inl (evaluated k node has marked in_range))
                      | inr unmarked ↦
                          inr (inr (record { steady = inl (unmarked_response k node has is unmarked); stays = unmarked_stays k node has is unmarked }))
                    ]
              ]
        ]

    -- and the step is one of the fault's graph
    pub is_move : IsMove joining g good good_next → IsMove joining h m.state new
    is_move move =
        steps_by_difference joining g h good good_next m.state new wired wired_too fits.fits.covers.counted (moves.count ∙ fits.fits.covers.counted) move each_node
