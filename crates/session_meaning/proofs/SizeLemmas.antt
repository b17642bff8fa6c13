-- No group of a graph is refused with a bound, or one is the first that is.
use Rattle.std.proofs.Common.{◌≡◌, ℕ, zero, suc, ◌+◌, ◌<◌, ◌⊎◌, inl, inr, List, length, get_or, Option, Some, None, refl, ap, subst, ◌∙◌, arith}
use Rattle.std.proofs.lemmas.Bool.{cases_lt}
use Rattle.std.specs.Prelude.{slice_get}
use Rattle.std.proofs.lemmas.Option.{slice_get-get_or}
use Rattle.switch_paths.specs.Graphs.{GraphData, IsWired}
use Rattle.group_meaning.specs.Groups.{Group, id_of, AreGroups}
use Rattle.group_meaning.proofs.ExistingGroups.{exists}
use Rattle.group_text.specs.declared.text.TextFault.{TextFault}
use Rattle.group_text.specs.Texts.{GroupTextData}
use Rattle.circuit_texts.specs.declared.texts.BuildFault.{BuildFault}
use Rattle.circuit_texts.specs.Sizes.{refused_in, at_node, IsFirstRefused, TellsRefused}
use Rattle.circuit_texts.specs.Building.{HasTexts}
use Rattle.circuit_texts.specs.Told.{told}

-- none of the groups before this one is refused
abbrev FitBefore : ℕ → List Group → ℕ → Type 0
FitBefore large groups k = (j : ℕ) (other : Group) → j < k → slice_get groups j ≡ Some other → refused_in large other ≡ None

-- nor are they where this one isn't either
fit_next : (large : ℕ) (groups : List Group) (k : ℕ) → ((other : Group) → slice_get groups k ≡ Some other → refused_in large other ≡ None) → FitBefore large groups k →
    FitBefore large groups (suc k)
fit_next large groups k here before = λ j other low there. elim (cases_lt j k) [
  | inl below ↦ before j other below there
  | inr past ↦
      let same : j ≡ k = omega (arith, low, past) in
      here other (subst (λ i. slice_get groups i ≡ Some other) same there)
]

-- no group is refused, or one is the first
abbrev FitOrNot : ℕ → List Group → Type 0
FitOrNot large groups = FitBefore large groups (length groups) ⊎ ((fault : BuildFault) × IsFirstRefused large groups fault)

-- a group is the first that is refused, or one looks on
fit_here : (large : ℕ) (groups : List Group) (k : ℕ) (group : Group) (cause : Option TextFault) → slice_get groups k ≡ Some group → refused_in large group ≡ cause →
    FitBefore large groups k → (FitBefore large groups (suc k) → FitOrNot large groups) → FitOrNot large groups
fit_here large groups k group (Some cause) stands is before go = inr (
  at_node (id_of group) cause,
  record {
    k = k;
    group = group;
    stands = stands;
    cause = cause;
    too_large = is;
    named = refl;
    before = before;
  },
)
fit_here large groups k group None stands is before go = go (fit_next large groups k (λ other there. same_fits other there) before)
  where
    same_fits : (other : Group) → slice_get groups k ≡ Some other → refused_in large other ≡ None
    same_fits other there = let same : other ≡ group = cc in ap (refused_in large) same ∙ is

-- so is what stands at a place
fit_at : (large : ℕ) (groups : List Group) (k : ℕ) (found : Option Group) → slice_get groups k ≡ found → FitBefore large groups k →
    (FitBefore large groups (suc k) → FitOrNot large groups) → FitOrNot large groups
fit_at large groups k (Some group) stands before go = fit_here large groups k group (refused_in large group) stands refl before go
fit_at large groups k None stands before go = go (fit_next large groups k (λ other there. absurd (cc)) before)

-- from some group on
fit_from : (large : ℕ) (groups : List Group) (left k : ℕ) → k + left ≡ length groups → FitBefore large groups k → FitOrNot large groups
fit_from large groups zero k all before = let end : k ≡ length groups = omega arith in inl (subst (FitBefore large groups) end before)
fit_from large groups (suc left) k all before =
    fit_at large groups k (slice_get groups k) refl before (λ more. fit_from large groups left (suc k) (omega arith) more)

-- a build of the graph has texts, or the first group that is refused is told
pub texts_or_size : (large : ℕ) (g : GraphData) → IsWired g →
    ((texts : List GroupTextData) × HasTexts large g texts) ⊎ ((fault : BuildFault) × TellsRefused large g fault)
texts_or_size large g wired =
    let found = exists g wired in
    by found.0 found.1 (fit_from large found.0 (length found.0) 0 (omega arith) (λ j other low there. absurd (omega (arith, low))))
  where
    by : (groups : List Group) → AreGroups g groups → FitOrNot large groups →
        ((texts : List GroupTextData) × HasTexts large g texts) ⊎ ((fault : BuildFault) × TellsRefused large g fault)
    by groups are (inl fit) = inl (
      told g groups,
      record {
        groups = groups;
        are = are;
        fit = λ k d inside. fit k (get_or groups k d) inside (slice_get-get_or groups k d inside);
        texts_are = refl;
      },
    )
    by groups are (inr first) = inr (first.0, record { groups = groups; are = are; first = first.1 })
