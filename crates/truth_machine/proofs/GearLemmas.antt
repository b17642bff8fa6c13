-- A machine with no parts, and one that takes the gear for a graph.
use Rattle.std.proofs.Common.{◌≡◌, ℕ, ◌≤◌, Bool, true, false, List, [], length, map, take, get_or, All, Contains, Vec, Global, inl, inr, refl, sym, ap, subst, ◌∙◌, arith}
use Rattle.std.specs.List.{take-map}
use Rattle.std.proofs.lemmas.Bool.{cases_lt}
use Rattle.std.proofs.lemmas.List.{get_or_past, get_or-take, length-map, length-take-le}
use Rattle.switch_paths.specs.Graphs.{GraphData, nodes}
use Rattle.machine_laws.specs.Columns.{AreSeated}
use Rattle.part_lists.specs.Listing.{AreLists, IsAmong, listed_at}
use Rattle.truth_parts.specs.Columns.{AreColumns}
use Rattle.truth_parts.specs.Evaluating.{rooms}
use Rattle.truth_machine.specs.declared.gears.Gear.{Gear}
use Rattle.truth_machine.specs.Machines.{IsTruthMachine}
use Rattle.truth_machine.specs.Gears.{IsEmptyGear, IsGear}
use Rattle.truth_machine.proofs.MakingLemmas.{IsTruthMachine-made}

-- no part is listed for a node where there are none
pub AreLists-cut : (members : Bool) (count fewer : ℕ) (lists : List (Vec ℕ Global)) → fewer ≤ count → AreLists members [] count lists →
    AreLists members [] fewer (take fewer lists)
AreLists-cut members count fewer lists less are = record {
  counted = length-take-le fewer lists (omega (arith, less, are.counted));
  listed = λ node k among. absurd (omega (arith, among.stands.inside));
  only = by;
}
  where
    by : (node k : ℕ) → Contains (listed_at (take fewer lists) node) k → IsAmong members [] k node
    by node k inside =
        elim (cases_lt node fewer) [
          | inl below ↦
              let same : listed_at (take fewer lists) node ≡ listed_at lists node =
              ap (λ (all : List (List ℕ)). get_or all node []) (sym (take-map (λ (list : Vec ℕ Global). list.items) fewer lists))
              ∙ get_or-take fewer (map (λ (list : Vec ℕ Global). list.items) lists) node [] below in
              are.only node k (subst (λ (list : List ℕ). Contains list k) same inside)
          | inr above ↦
              let cut = take fewer (map (λ (list : Vec ℕ Global). list.items) lists) in
              let all : fewer ≤ length (map (λ (list : Vec ℕ Global). list.items) lists) =
              omega (arith, less, are.counted, length-map lists (λ (list : Vec ℕ Global). list.items)) in
              let long : length cut ≡ fewer = length-take-le fewer (map (λ (list : Vec ℕ Global). list.items) lists) all in
              let empty : listed_at (take fewer lists) node ≡ [] =
              ap (λ (all : List (List ℕ)). get_or all node []) (sym (take-map (λ (list : Vec ℕ Global). list.items) fewer lists))
              ∙ get_or_past cut node [] (omega (arith, long, above)) in
              let held : Contains [] k = subst (λ (list : List ℕ). Contains list k) empty inside in
              absurd (omega (arith, held.1))
        ]

-- a machine without parts
pub IsTruthMachine-still : {A : Type 0} → (columns : ℕ) (has : A → Type 0) (holds : A → ℕ → Bool) (gear : Gear A) (hi lo : List A) →
    IsEmptyGear has (length hi) gear → AreColumns columns holds hi lo → All has hi → All has lo →
    IsTruthMachine columns has holds gear.parts.items gear.agenda gear.readers.items gear.owners.items hi lo (rooms gear.workspace)
IsTruthMachine-still columns has holds gear hi lo is are highs lows =
    rw (is.parts_are, is.agenda_is) (record {
      runs = record {
        counted = refl;
        seated = λ k d inside. absurd (omega (arith, inside));
        apart = λ k l node first second. absurd (omega (arith, first.stands.inside));
        fresh = λ k stale. absurd (omega (arith, stale.stands.inside));
        readers_are = is.readers_are;
        changes_room = omega arith;
        parts_room = omega arith;
      };
      owners_are = is.owners_are;
      columns = are;
      highs = highs;
      lows = lows;
    })

-- a machine with a gear for a graph
pub IsTruthMachine-geared : {A : Type 0} → (g : GraphData) (columns : ℕ) (has : A → Type 0) (holds : A → ℕ → Bool) (gear : Gear A) (hi lo : List A) →
    IsGear g has (nodes g) gear → length hi ≡ nodes g → AreColumns columns holds hi lo → All has hi → All has lo →
    IsTruthMachine columns has holds gear.parts.items gear.agenda gear.readers.items gear.owners.items hi lo (rooms gear.workspace)
IsTruthMachine-geared g columns has holds gear hi lo is counted are highs lows =
    let count = sym counted in
    rw is.agenda_is
    (IsTruthMachine-made columns has holds gear.parts.items gear.readers.items gear.owners.items hi lo (rooms gear.workspace)
    (subst (λ n. AreSeated n gear.parts.items) count is.seated) is.room is.apart is.fresh
    (subst (λ n. AreLists false gear.parts.items n gear.readers.items) count is.readers_are)
    (subst (λ n. AreLists true gear.parts.items n gear.owners.items) count is.owners_are) are highs lows)
