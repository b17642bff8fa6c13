-- Changes that are applied to a state, one after the other.
use Rattle.std.proofs.Common.{◌≡◌, ◌≢◌, ℕ, suc, List, [], ◌∷◌, ◌++◌, length, refl, sym, ap, ◌∙◌, arith}
use Rattle.std.specs.Prelude.{Contains, slice_set}
use Rattle.std.proofs.lemmas.List.{get_or-set_other, length-set}
use Rattle.ternary.specs.declared.tern.Tern.{Tern}
use Rattle.ternary.specs.declared.tern.Tern.TheVariants.{Zero}
use Rattle.switch_paths.specs.Switching.{state_at}
use Rattle.part_words.specs.declared.change.Change.{Change}
use Rattle.machine_parts.specs.Running.{AreAgreed, IsTaken}
use Rattle.good_run.specs.Looks.{applied, GiveStates}

-- as many nodes are there
pub length-applied : (changes : List Change) (state : List Tern) → length (applied changes state) ≡ length state
length-applied [] state = refl
length-applied (change ∷ changes) state =
    length-applied changes (slice_set state change.node change.value) ∙ length-set state change.node change.value

-- some changes and then others
pub applied-append : (xs ys : List Change) (state : List Tern) → applied (xs ++ ys) state ≡ applied ys (applied xs state)
applied-append [] ys state = refl
applied-append (change ∷ xs) ys state = applied-append xs ys (slice_set state change.node change.value)

-- a node of which no change is stays
pub applied-stays : (changes : List Change) (state : List Tern) (node : ℕ) → ((change : Change) → Contains changes change → change.node ≢ node) →
    state_at (applied changes state) node ≡ state_at state node
applied-stays [] state node none = refl
applied-stays (change ∷ changes) state node none =
    applied-stays changes (slice_set state change.node change.value) node (λ other (k, inside, is). none other (suc k, omega (arith, inside), is))
    ∙ get_or-set_other state change.node node change.value Zero (λ same. none change (0, omega arith, refl) (sym same))

-- changes that give the states to which they lead are taken
pub IsTaken-applied : (changes : List Change) (old : List Tern) → GiveStates changes (applied changes old) → IsTaken changes old (applied changes old)
IsTaken-applied changes old give = record {
  count = length-applied changes old;
  taken = λ change there. sym (give change there).1;
  stays = λ node none. applied-stays changes old node none;
}

-- and changes of one node agree
pub AreAgreed-give : (changes : List Change) (state : List Tern) → GiveStates changes state → AreAgreed changes
AreAgreed-give changes state give one two here there same = (give one here).1 ∙ (ap (state_at state) same ∙ sym (give two there).1)
