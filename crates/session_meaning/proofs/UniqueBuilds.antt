-- A graph's groups have one list of texts, and one of them is the first that is refused with a bound; so a build has one outcome.
use Rattle.std.proofs.Common.{◌≡◌, ℕ, Bool, true, false, inl, inr, List, Some, slice_get, sym, ap, subst, ◌∙◌, arith}
use Rattle.std.proofs.lemmas.Bool.{cases_lt}
use Rattle.switch_paths.specs.Graphs.{GraphData}
use Rattle.group_meaning.specs.Groups.{Group, id_of}
use Rattle.group_meaning.proofs.UniqueGroups.{unique}
use Rattle.group_text.specs.Texts.{GroupTextData}
use Rattle.group_text.specs.FirstTexts.{new_texts}
use Rattle.circuit_texts.specs.declared.texts.BuildFault.{BuildFault}
use Rattle.circuit_texts.specs.Sizes.{refused_in, at_node, IsFirstRefused, TellsRefused}
use Rattle.circuit_texts.specs.Building.{HasTexts}
use Rattle.circuit_texts.specs.Told.{told}
use Rattle.session_meaning.specs.Sessions.{SessionData}
use Rattle.session_meaning.specs.Preparing.{with_present, BuildsIf}

-- the texts of a graph are the same however its groups are listed
pub HasTexts-unique : (large : ℕ) (g : GraphData) (texts others : List GroupTextData) → HasTexts large g texts → HasTexts large g others → texts ≡ others
HasTexts-unique large g texts others one two =
    one.texts_are ∙ ap (λ (groups : List Group). told g groups) (unique g one.groups two.groups one.are two.are) ∙ sym two.texts_are

-- of two firsts neither stands before the other, so they are one
first_unique : (large : ℕ) (groups : List Group) (fault other : BuildFault) → IsFirstRefused large groups fault → IsFirstRefused large groups other → fault ≡ other
first_unique large groups fault other one two = elim (cases_lt one.k two.k) [
  | inl before ↦ absurd (cc (two.before one.k one.group before one.stands, one.too_large))
  | inr past ↦ elim (cases_lt two.k one.k) [
    | inl before ↦ absurd (cc (one.before two.k two.group before two.stands, two.too_large))
    | inr still ↦
        let place : one.k ≡ two.k = omega (arith, past, still) in
        let stands : slice_get groups two.k ≡ Some one.group = subst (λ k. slice_get groups k ≡ Some one.group) place one.stands in
        let group : one.group ≡ two.group = cc (stands, two.stands) in
        let refused : refused_in large two.group ≡ Some one.cause = subst (λ g. refused_in large g ≡ Some one.cause) group one.too_large in
        let cause : one.cause ≡ two.cause = cc (refused, two.too_large) in
        one.named ∙ ap (λ (g : Group). at_node (id_of g) one.cause) group ∙ ap (at_node (id_of two.group)) cause ∙ sym two.named
  ]
]

-- one group of a graph is told as the first that is refused
pub TellsRefused-unique : (large : ℕ) (g : GraphData) (fault other : BuildFault) → TellsRefused large g fault → TellsRefused large g other → fault ≡ other
TellsRefused-unique large g fault other one two =
    first_unique large one.groups fault other one.first
    (subst (λ (groups : List Group). IsFirstRefused large groups other) (unique g two.groups one.groups two.are one.are) two.first)

-- a build has one outcome, and the same texts are analysed for it
pub built_unique : (building : Bool) (old mid then : SessionData) (texts others : List GroupTextData) → BuildsIf building old mid texts →
    BuildsIf building old then others → (mid ≡ then) × (texts ≡ others)
built_unique true old mid then texts others one two =
    let present : one.present ≡ two.present = HasTexts-unique old.large old.circuit.graph one.present two.present one.has two.has in
    (one.used ∙ ap (with_present old) present ∙ sym two.used, one.news ∙ ap (new_texts old.kept) present ∙ sym two.news)
built_unique false old mid then texts others one two = (one.0 ∙ sym two.0, one.1 ∙ sym two.1)
