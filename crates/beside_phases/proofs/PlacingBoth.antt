-- A node is placed beside a run in both.
use Rattle.std.proofs.Common.{◌≡◌, ◌≢◌, ℕ, ◌<◌, Bool, true, inl, inr, List, length, take, refl, sym, ap, subst, ◌∙◌}
use Rattle.std.specs.Prelude.{slice_set}
use Rattle.std.proofs.lemmas.Bool.{cases_eq}
use Rattle.std.proofs.lemmas.List.{get_or-set_other, get_or-set_same, length-set}
use Rattle.ternary.specs.declared.tern.Tern.{Tern}
use Rattle.ternary.specs.declared.tern.Tern.TheVariants.{Zero}
use Rattle.switch_paths.specs.Switching.{state_at}
use Rattle.switch_paths.specs.Graphs.{GraphData, IsWired}
use Rattle.group_rest.specs.Rest.{Rests}
use Rattle.machine_parts.specs.declared.part.MachinePart.{MachinePart}
use Rattle.machine_parts.specs.Parts.{Stands, IsStale}
use Rattle.machine_parts.specs.Marking.{IsMarked}
use Rattle.machine_parts.specs.Stepping.{Concerns}
use Rattle.machine_laws.specs.Machines.{MachineData}
use Rattle.machine_laws.specs.Fitting.{FitsGraph}
use Rattle.machine_laws.proofs.PlacingLemmas.{placing_keeps_fit}
use Rattle.unit_step.specs.Among.{PlacesAmong}
use Rattle.beside.specs.Fitting.{FitsBeside, all_marked}
use Rattle.beside.specs.Laws.{PutsApart}
use Rattle.beside.proofs.PlacingLemmas.{placed_marked, rests_unmoved}
use Rattle.beside_phases.specs.Placing.{ComesApart, PlacingBothFitsBeside}

module _ (g h : GraphData) (good : List Tern) (apart new_apart : List Bool) (node : ℕ) (value bad_value : Tern) (old new : MachineData) (wired : IsWired h)
    (fits : FitsBeside g h good apart old) (comes : ComesApart (value ≢ bad_value) old node apart new_apart)
    (places : PlacesAmong node bad_value new_apart old new) where
  -- any other node stays in both runs
  stays_bad : (n : ℕ) → n ≢ node → state_at new.state n ≡ state_at old.state n
  stays_bad n differs = ap (λ states. state_at states n) places.state ∙ get_or-set_other old.state node n bad_value Zero differs

  stays_good : (n : ℕ) → n ≢ node → state_at (slice_set good node value) n ≡ state_at good n
  stays_good n differs = get_or-set_other good node n value Zero differs

  -- a part that is apart and isn't marked afterwards has nothing to do with the node
  unconcerned : (k n : ℕ) → IsMarked new_apart k → (¬ IsMarked new.marks k) → Concerns old.parts k n → n ≢ node
  unconcerned k n is unmarked concerns same = unmarked (places.concerns k (subst (Concerns old.parts k) same concerns) is)

  -- and rests
  part_rests : (k : ℕ) (part : MachinePart) → Stands old.parts k part → IsMarked new_apart k → (¬ IsMarked new.marks k) →
      Rests h new.state (take part.members part.map.items)
  part_rests k part stands is unmarked =
      elim (comes.only k is) [
        | inr concerns ↦ absurd (unmarked (places.concerns k concerns is))
        | inl was ↦
            rests_unmoved g h good apart old new.state wired fits k part stands was (λ marked. unmarked (places.stays k marked))
            (λ n concerns. stays_bad n (unconcerned k n is unmarked concerns))
      ]

  -- what differs at the node was placed at two values
  two_values : node < length old.state → state_at new.state node ≢ state_at (slice_set good node value) node → value ≢ bad_value
  two_values inside differs same =
      let in_good : node < length good = subst (λ n. node < n) (sym fits.good_counted) inside in
      let bad = ap (λ states. state_at states node) places.state ∙ get_or-set_same old.state node bad_value Zero inside in
      let there = get_or-set_same good node value Zero in_good in
      differs (bad ∙ (sym same ∙ sym there))

  -- the machine fits beside the run, by its parts from before
  placed_both : node < length old.state → FitsGraph h (all_marked new) → FitsBeside g h (slice_set good node value) new_apart new
  placed_both inside all = record {
    fits = all;
    counted = places.count ∙ (fits.counted ∙ sym (ap length places.held.parts));
    apart_counted = comes.count ∙ (fits.apart_counted ∙ sym (ap length places.held.parts));
    good_counted = length-set good node value ∙ (fits.good_counted ∙ sym (ap length places.state ∙ length-set old.state node bad_value));
    shared = λ k part stands out. fits.shared k part (back k part stands) (λ is. out (comes.stays k is));
    kept = λ n differs k concerns.
        let there = subst (λ parts. Concerns parts k n) places.held.parts concerns in
        elim (cases_eq n node) [
          | inl same ↦
              comes.set (two_values inside (subst (λ x. state_at new.state x ≢ state_at (slice_set good node value) x) same differs)) k
              (subst (Concerns old.parts k) same there)
          | inr other ↦ comes.stays k (fits.kept n (λ same. differs (stays_bad n other ∙ (same ∙ sym (stays_good n other)))) k there)
        ];
    waits = λ k stale. places.stays k (fits.waits k (subst (λ parts. IsStale parts k) places.held.parts stale));
    only = λ k marked. elim (places.only k marked) [ inl was ↦ comes.stays k (fits.only k was) | inr (concerns, is) ↦ is ];
    rests = λ k part stands is unmarked. part_rests k part (back k part stands) is unmarked;
  }
    where
      back : (k : ℕ) (part : MachinePart) → Stands new.parts k part → Stands old.parts k part
      back k part stands = subst (λ parts. Stands parts k part) places.held.parts stands

pub placing_both : PlacingBothFitsBeside
placing_both g h good apart new_apart node value bad_value old new wired no_rail inside fits comes places =
    placed_both g h good apart new_apart node value bad_value old new wired fits comes places inside
    (placing_keeps_fit h node bad_value (all_marked old) (all_marked new) wired no_rail fits.fits
    (placed_marked node bad_value old new places.state places.wide places.build places.held places.moves))

-- none comes apart
pub comes_none : (Differs : Type 0) (m : MachineData) (node : ℕ) (apart : List Bool) → (¬ Differs) → ComesApart Differs m node apart apart
comes_none Differs m node apart never = record { count = refl; stays = λ k was. was; set = λ differs. absurd (never differs); only = λ k is. inl is }

-- all do that the node concerns
pub comes_all : (Differs : Type 0) (m : MachineData) (node : ℕ) (old new : List Bool) → PutsApart m node old new → ComesApart Differs m node old new
comes_all Differs m node old new puts = record { count = puts.count; stays = puts.stays; set = λ differs. puts.set; only = puts.only }

-- two values differ where a test says so
pub comes_so : (value other : Tern) (differs : Bool) (m : MachineData) (node : ℕ) (old new : List Bool) → (value ≢ other → differs ≡ true) →
    ComesApart (differs ≡ true) m node old new → ComesApart (value ≢ other) m node old new
comes_so value other differs m node old new so comes =
    record { count = comes.count; stays = comes.stays; set = λ two. comes.set (so two); only = comes.only }
