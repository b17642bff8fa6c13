-- The parts that are apart where a run begins, and that with just these marked a machine fits beside the good run.
use Rattle.std.proofs.Common.{◌≡◌, ◌≢◌, ℕ, ◌+◌, inl, inr, Bool, false, List, length, replicate, refl, sym, subst, ◌∙◌, arith}
use Rattle.std.specs.Prelude.{Contains}
use Rattle.std.proofs.lemmas.Bool.{cases_lt}
use Rattle.std.proofs.lemmas.List.{get_or_past}
use Rattle.ternary.specs.declared.tern.Tern.{Tern}
use Rattle.ternary.specs.declared.tern.Tern.TheVariants.{Zero}
use Rattle.switch_paths.specs.Graphs.{GraphData}
use Rattle.switch_paths.specs.Switching.{state_at}
use Rattle.machine_parts.specs.Marking.{MarksAll}
use Rattle.machine_parts.specs.Parts.{IsStale}
use Rattle.machine_parts.specs.Stepping.{Concerns}
use Rattle.vicinity.specs.NodeSets.{NodeSetData, IsIn}
use Rattle.machine_laws.specs.Machines.{MachineData}
use Rattle.machine_laws.specs.Fitting.{FitsGraph}
use Rattle.unit_step.specs.Beside.{KeepsPartsApart}
use Rattle.unit_step.specs.Remarking.{MarksJust}
use Rattle.unit_step.proofs.AmongLemmas.{MarksAll-nobody}
use Rattle.beside.specs.Fitting.{FitsBeside}
use Rattle.beside_run.specs.Differing.{AreFirstApart, IsConcerned}
use Rattle.beside_run.specs.Running.{AreAlikeBut}
use Rattle.beside_run.proofs.RunningLemmas.{may_leave, none_in}

-- ---- the parts that a node concerns which differs

-- no node is below the first
pub concerned_none : (m : MachineData) (good : List Tern) (marks : List Bool) → MarksAll (IsConcerned m good 0) marks marks
concerned_none m good marks = MarksAll-nobody (IsConcerned m good 0) marks (λ k concerned. absurd (omega (arith, concerned.below)))

-- one node more
pub concerned_more : (m : MachineData) (good : List Tern) (node : ℕ) (old mid new : List Bool) → MarksAll (IsConcerned m good node) old mid →
    MarksAll (λ k. (state_at m.state node ≢ state_at good node) × Concerns m.parts k node) mid new → MarksAll (IsConcerned m good (node + 1)) old new
concerned_more m good node old mid new so_far one = record {
  count = one.count ∙ so_far.count;
  stays = λ k was. one.stays k (so_far.stays k was);
  set = λ k concerned.
      elim (cases_lt concerned.node node) [
        | inl before ↦
            one.stays k (so_far.set k (record { node = concerned.node; below = before; differs = concerned.differs; concerns = concerned.concerns }))
        | inr most ↦
            let same : concerned.node ≡ node = omega (arith, concerned.below, most) in
            one.set k (
              subst (λ n. state_at m.state n ≢ state_at good n) same concerned.differs,
              subst (Concerns m.parts k) same concerned.concerns,
            )
      ];
  only = λ k is. elim (one.only k is) [
    | inr (differs, concerns) ↦ inr (record { node = node; below = omega arith; differs = differs; concerns = concerns })
    | inl was ↦ elim (so_far.only k was) [
      | inl before ↦ inl before
      | inr concerned ↦
          inr (record { node = concerned.node; below = omega (arith, concerned.below); differs = concerned.differs; concerns = concerned.concerns })
    ]
  ];
}

-- all nodes
pub concerned_all : (m : MachineData) (good : List Tern) (node end : ℕ) (old new : List Bool) → node ≡ end → MarksAll (IsConcerned m good node) old new →
    MarksAll (IsConcerned m good end) old new
concerned_all m good node end old new same all = subst (λ n. MarksAll (IsConcerned m good n) old new) same all

-- ---- the parts that are apart

-- those that are touched, those that are stale, and those that a node concerns which differs
pub first_apart_are : (m : MachineData) (touched : NodeSetData) (good : List Tern) (count : ℕ) (none first second apart : List Bool) →
    none ≡ replicate count false → length good ≡ length m.state → ((k : ℕ) → IsIn touched.inside k → Contains touched.list k) →
    ((k : ℕ) → Contains touched.list k → IsIn touched.inside k) → MarksAll (Contains touched.list) none first → MarksAll (IsStale m.parts) first second →
    MarksAll (IsConcerned m good (length good)) second apart → length none ≡ length m.parts → AreFirstApart m touched.inside good apart
first_apart_are m touched good count none first second apart none_is good_counted listed only one two three counted = record {
  counted = three.count ∙ (two.count ∙ (one.count ∙ counted));
  all = λ k is. elim is [
    | inl touches ↦ three.stays k (two.stays k (one.set k (listed k touches)))
    | inr other ↦ elim other [
      | inl stale ↦ three.stays k (two.set k stale)
      | inr concerned ↦ three.set k (subst (λ n. IsConcerned m good n k) (sym good_counted) concerned)
    ]
  ];
  only = λ k is. elim (three.only k is) [
    | inr concerned ↦ inr (inr (subst (λ n. IsConcerned m good n k) good_counted concerned))
    | inl before ↦ elim (two.only k before) [
      | inr stale ↦ inr (inl stale)
      | inl was ↦ elim (one.only k was) [
        | inr there ↦ inl (only k there)
        | inl never ↦ absurd (none_in count k (subst (λ marks. IsIn marks k) none_is never))
      ]
    ]
  ];
}

-- what differs is apart
pub first_kept : (m : MachineData) (touched : List Bool) (good : List Tern) (apart : List Bool) → length good ≡ length m.state →
    AreFirstApart m touched good apart → KeepsPartsApart m.parts apart good m.state
first_kept m touched good apart counted first node differs k concerns =
    elim (cases_lt node (length m.state)) [
      | inl inside ↦ first.all k (inr (inr (record { node = node; below = inside; differs = differs; concerns = concerns })))
      | inr past ↦ absurd (differs (get_or_past m.state node Zero past ∙ sym (get_or_past good node Zero (omega (arith, past, counted)))))
    ]

-- with just these marked a machine fits beside the good run
pub first_fits : (g h : GraphData) (good : List Tern) (touched : List Bool) (apart : NodeSetData) (old new : MachineData) → FitsGraph h old →
    length old.marks ≡ length old.parts → length good ≡ length old.state → AreAlikeBut g h old touched → AreFirstApart old touched good apart.inside →
    ((k : ℕ) → IsIn apart.inside k → Contains apart.list k) → ((k : ℕ) → Contains apart.list k → IsIn apart.inside k) → MarksJust apart.list old new →
    FitsBeside g h good apart.inside new
first_fits g h good touched apart old new fits counted good_counted alike first listed only marks =
    subst (FitsBeside g h good apart.inside) (sym marks.rest) (record {
      fits = may_leave h old (record old { marks = new.marks }) fits (record { same = refl });
      counted = marks.count ∙ counted;
      apart_counted = first.counted;
      good_counted = good_counted;
      shared = λ k part stands out. alike k part stands (λ is. out (first.all k (inl is)));
      kept = first_kept old touched good apart.inside good_counted first;
      waits = marks.stale;
      only = λ k is. elim (marks.only k is) [ inl there ↦ only k there | inr stale ↦ first.all k (inr (inl stale)) ];
      rests = λ k part stands is unmarked. absurd (unmarked (marks.set k (listed k is)));
    })
