-- A list from one item on: its first refusal, and what its items give, by those of the item and of the items after it.
use Rattle.std.proofs.Common.{◌≡◌, ℕ, ◌+◌, ◌-◌, ◌<◌, ◌≤◌, nat_lt, Bool, true, false, List, [], ◌∷◌, ◌++◌, length, get_or, drop, Option, Some, None, refl, sym, ap, ◌∙◌, arith, append_assoc, append-nil}
use Rattle.std.specs.Prelude.{if◌then◌else◌, Result, Ok}
use Rattle.std.proofs.lemmas.Bool.Decides.{nat_tests}
use Rattle.std.proofs.lemmas.List.{drop_more}
use Rattle.ternary.specs.declared.tern.Tern.{Tern}
use Rattle.netlist.specs.Circuits.{CircuitData}
use Rattle.vector_values.specs.Values.{Letter}
use Rattle.script_lang.specs.declared.value.Value.{Value}
use Rattle.node_values.specs.Givings.{letters_given, states_given}
use Rattle.session_meaning.specs.declared.TheConstants.{MOST_WATCHED}
use Rattle.session_meaning.specs.declared.fault.Refusal.{Refusal}
use Rattle.session_meaning.specs.declared.fault.Refusal.TheVariants.{TooManyWatched}
use Rattle.session_meaning.specs.declared.fault.ApplyFault.{ApplyFault}
use Rattle.session_meaning.specs.declared.fault.ApplyFault.TheVariants.{Refused, GroupNodes, GroupSwitches, WriteFault, NoMemory}
use Rattle.node_values.specs.declared.fault.GivenFault.{GivenFault}
use Rattle.session_meaning.specs.Preparing.{IsFaultFor}
use Rattle.session_meaning.specs.Refusals.{all_named, first_refusal, given_refusal, nodes_named, none_at, or_else, watch_refusal}
use Rattle.session_meaning.specs.Effects.{letters_in, states_by}
use Rattle.session_meaning.proofs.RefusalLemmas.{or_else-none}

-- a list from one item on is the item, and those after it
from_item : {X : Type 0} (list : List X) (place : ℕ) (item : X) → place < length list → item ≡ get_or list place item →
    drop place list ≡ item ∷ drop (place + 1) list
from_item {X} list place item inside is = drop_more list place item inside ∙ ap (λ (one : X). one ∷ drop (place + 1) list) (sym is)

-- if the item isn't refused, the first refusal from it on is that of those after it
pub refusal-next : {X : Type 0} (f : X → Option Refusal) (list : List X) (place : ℕ) (item : X) → place < length list → item ≡ get_or list place item →
    f item ≡ None → first_refusal f (drop (place + 1) list) ≡ first_refusal f (drop place list)
refusal-next f list place item inside is none =
    sym (ap (first_refusal f) (from_item list place item inside is)
    ∙ ap (λ (found : Option Refusal). or_else found (first_refusal f (drop (place + 1) list))) none)

-- if none before it is refused, what ends it for the item ends it for all
pub refusal-stops : {X : Type 0} (f : X → Option Refusal) (list : List X) (place : ℕ) (item : X) (fault : ApplyFault) → place < length list →
    item ≡ get_or list place item → first_refusal f (drop place list) ≡ first_refusal f list → IsFaultFor (f item) fault →
    IsFaultFor (first_refusal f list) fault
refusal-stops f list place item (Refused refusal) inside is so_far stops =
    sym so_far ∙ ap (first_refusal f) (from_item list place item inside is)
    ∙ ap (λ (found : Option Refusal). or_else found (first_refusal f (drop (place + 1) list))) stops
refusal-stops f list place item (GroupNodes node count) inside is so_far stops = absurd stops
refusal-stops f list place item (GroupSwitches node count) inside is so_far stops = absurd stops
refusal-stops f list place item WriteFault inside is so_far stops = absurd stops
refusal-stops f list place item NoMemory inside is so_far stops = tt

-- what was given before an item, what the item gives, and what those after it give are all
pub given-next : {Y : Type 0} (front given more left rest all : List Y) → front ++ left ≡ all → left ≡ given ++ rest → more ≡ front ++ given →
    more ++ rest ≡ all
given-next {Y} front given more left rest all whole parted grown =
    ap (λ (l : List Y). l ++ rest) grown ∙ append_assoc front given rest ∙ ap (λ (l : List Y). front ++ l) (sym parted) ∙ whole

-- the states that assignments give from one on are its own, and those of the assignments after it
pub states_by-next : (c : CircuitData) (vectors : List (List ℕ × List ℕ)) (list : List (List ℕ × Value)) (place : ℕ) (item : List ℕ × Value) →
    place < length list → item ≡ get_or list place item →
    states_by c vectors (drop place list) ≡ states_given (letters_in (letters_given c vectors item)) ++ states_by c vectors (drop (place + 1) list)
states_by-next c vectors list place item inside is = ap (states_by c vectors) (from_item list place item inside is)

-- the nodes of names from one on are its own, and those of the names after it
pub all_named-next : (c : CircuitData) (vectors : List (List ℕ × List ℕ)) (names : List (List ℕ)) (place : ℕ) (name : List ℕ) →
    place < length names → name ≡ get_or names place name →
    all_named c vectors (drop place names) ≡ nodes_named c vectors name ++ all_named c vectors (drop (place + 1) names)
all_named-next c vectors names place name inside is = ap (all_named c vectors) (from_item names place name inside is)

-- the states of letters from one on are its own, if it is one of a state, and those of the letters after it
pub states_given-next : (pairs : List (ℕ × Letter)) (place : ℕ) (pair : ℕ × Letter) → place < length pairs → pair ≡ get_or pairs place pair →
    states_given (drop place pairs) ≡ states_given (pair ∷ []) ++ states_given (drop (place + 1) pairs)
states_given-next pairs place pair inside is = ap states_given (from_item pairs place pair inside is) ∙ by pair
  where
    by : (one : ℕ × Letter) → states_given (one ∷ drop (place + 1) pairs) ≡ states_given (one ∷ []) ++ states_given (drop (place + 1) pairs)
    by (node, None) = refl
    by (node, Some state) = refl

-- a letter that isn't refused leaves the refusal of its list to the letters after it
pub pairs-next : (at : ℕ → Option Refusal) (pairs : List (ℕ × Letter)) (place : ℕ) (pair : ℕ × Letter) → place < length pairs →
    pair ≡ get_or pairs place pair → given_refusal at (Ok (pair ∷ [])) ≡ None →
    given_refusal at (Ok (drop (place + 1) pairs)) ≡ given_refusal at (Ok (drop place pairs))
pairs-next at pairs place pair inside is none =
    sym (ap (λ (left : List (ℕ × Letter)). given_refusal at (Ok left)) (from_item pairs place pair inside is) ∙ by pair none)
  where
    by : (one : ℕ × Letter) → given_refusal at (Ok (one ∷ [])) ≡ None →
        given_refusal at (Ok (one ∷ drop (place + 1) pairs)) ≡ given_refusal at (Ok (drop (place + 1) pairs))
    by (node, None) none = refl
    by (node, Some state) none =
        ap (λ (found : Option Refusal). or_else found (given_refusal at (Ok (drop (place + 1) pairs)))) (or_else-none (at node) None none).0

-- one that is refused is the refusal of any list that it begins
begins-refused : (at : ℕ → Option Refusal) (pair : ℕ × Letter) (rest : List (ℕ × Letter)) (refusal : Refusal) →
    given_refusal at (Ok (pair ∷ [])) ≡ Some refusal → given_refusal at (Ok (pair ∷ rest)) ≡ Some refusal
begins-refused at (node, None) rest refusal is = absurd (cc)
begins-refused at (node, Some state) rest refusal is = by (at node) is
  where
    by : (found : Option Refusal) → or_else found None ≡ Some refusal → or_else found (given_refusal at (Ok rest)) ≡ Some refusal
    by (Some other) is = is
    by None is = absurd (cc)

-- so what ends it for a letter ends it for all, if none before it is refused
pub pairs-stops : (at : ℕ → Option Refusal) (pairs : List (ℕ × Letter)) (place : ℕ) (pair : ℕ × Letter) (fault : ApplyFault) → place < length pairs →
    pair ≡ get_or pairs place pair → given_refusal at (Ok (drop place pairs)) ≡ given_refusal at (Ok pairs) →
    IsFaultFor (given_refusal at (Ok (pair ∷ []))) fault → IsFaultFor (given_refusal at (Ok pairs)) fault
pairs-stops at pairs place pair (Refused refusal) inside is so_far stops =
    sym so_far ∙ ap (λ (left : List (ℕ × Letter)). given_refusal at (Ok left)) (from_item pairs place pair inside is)
    ∙ begins-refused at pair (drop (place + 1) pairs) refusal stops
pairs-stops at pairs place pair (GroupNodes node count) inside is so_far stops = absurd stops
pairs-stops at pairs place pair (GroupSwitches node count) inside is so_far stops = absurd stops
pairs-stops at pairs place pair WriteFault inside is so_far stops = absurd stops
pairs-stops at pairs place pair NoMemory inside is so_far stops = tt

-- if no node is refused, no letters are
none_refused : (states : List (ℕ × Tern)) → first_refusal (λ (pair : ℕ × Tern). none_at pair.0) states ≡ None
none_refused [] = refl
none_refused (pair ∷ states) = none_refused states

pub letters_allowed : (found : Result (List (ℕ × Letter)) GivenFault) (pairs : List (ℕ × Letter)) → found ≡ Ok pairs → given_refusal none_at found ≡ None
letters_allowed found pairs is = ap (given_refusal none_at) is ∙ none_refused (states_given pairs)

-- what was given before the end is all
pub given-end : {Y : Type 0} (front left all : List Y) → front ++ left ≡ all → left ≡ [] → front ≡ all
given-end {Y} front left all whole none = sym (append-nil front) ∙ ap (λ (l : List Y). front ++ l) (sym none) ∙ whole

-- ---- watched nodes

-- if there are more than may be, `watch` is refused behind the names
pub watch-refused : (known : Option Refusal) (watched more : ℕ) → known ≡ None → MOST_WATCHED - watched < more →
    or_else known (watch_refusal (watched + more)) ≡ Some TooManyWatched
watch-refused (Some refusal) watched more none many = absurd (cc)
watch-refused None watched more none many = by (nat_lt MOST_WATCHED (watched + more)) refl
  where
    by : (test : Bool) → nat_lt MOST_WATCHED (watched + more) ≡ test → (if test then Some TooManyWatched else None) ≡ Some TooManyWatched
    by true is = refl
    by false is = absurd (grind (arith, nat_tests))

-- if there aren't, it isn't
pub watch-allowed : (known : Option Refusal) (watched more : ℕ) → known ≡ None → watched + more ≤ MOST_WATCHED →
    or_else known (watch_refusal (watched + more)) ≡ None
watch-allowed (Some refusal) watched more none few = absurd (cc)
watch-allowed None watched more none few = by (nat_lt MOST_WATCHED (watched + more)) refl
  where
    by : (test : Bool) → nat_lt MOST_WATCHED (watched + more) ≡ test → (if test then Some TooManyWatched else None) ≡ None
    by true is = absurd (grind (arith, nat_tests))
    by false is = refl
