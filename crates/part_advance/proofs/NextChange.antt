-- The next of the changes of a step: of which node it is, and that it is written behind those before it.
use Rattle.std.proofs.Common.{◌≡◌, ℕ, ◌+◌, ◌<◌, List, length, take, get_or, sym, subst, arith}
use Rattle.std.specs.Prelude.{Contains, Option, slice_set}
use Rattle.std.proofs.lemmas.List.Elements.{Contains-get_or}
use Rattle.ternary.specs.declared.tern.Tern.{Tern}
use Rattle.ternary.specs.declared.tern.Tern.TheVariants.{Zero}
use Rattle.part_words.specs.declared.change.Change.{Change}
use Rattle.machine_parts.specs.Running.{AreAgreed, IsTaken}
use Rattle.vicinity.specs.Wides.{WideData}
use Rattle.vicinity.proofs.TouchLemmas.{IsTaken-more, NoneTwice, none_twice-next}
use Rattle.wide_groups.specs.Awake.{TurnedIn}
use Rattle.wide_groups.proofs.WideCases.{TurnedIn-then}

-- what stands for a change where there is none
abbrev pub default_change : Change
default_change = record { node = 0; value = Zero }

-- the next of these changes is of a node that is there
pub next_inside : (changes : List Change) (i count : ℕ) → i < length changes → ((change : Change) → Contains changes change → change.node < count) →
    (get_or changes i default_change).node < count
next_inside changes i count there inside = inside (get_or changes i default_change) (Contains-get_or changes i default_change there)

-- one change more is written, and touches the groups that are stepped by vicinities
pub written_next : (changes : List Change) (i : ℕ) (old now new : List Tern) (a b c : Option WideData) → i < length changes →
    ((change : Change) → Contains changes change → change.node < length old) → AreAgreed changes → IsTaken (take i changes) old now → TurnedIn a b old now →
    new ≡ slice_set now (get_or changes i default_change).node (get_or changes i default_change).value → TurnedIn b c now new →
    IsTaken (take (i + 1) changes) old new × TurnedIn a c old new
written_next changes i old now new a b c there inside agreed so_far turned set then =
    let own = next_inside changes i (length old) there inside in
    let here : (get_or changes i default_change).node < length now = omega (arith, own, so_far.count) in
    let once : NoneTwice old now new = subst (NoneTwice old now) (sym set) (none_twice-next changes i default_change old now there here agreed so_far) in (
      subst (IsTaken (take (i + 1) changes) old) (sym set) (IsTaken-more changes i default_change old now there own agreed so_far),
      TurnedIn-then a b c old now new once turned then,
    )
