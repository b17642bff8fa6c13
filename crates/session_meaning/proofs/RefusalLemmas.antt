-- Refusals: what it says of each item that there is none among them.
use Rattle.std.proofs.Common.{◌≡◌, ℕ, true, List, [], ◌∷◌, All, Option, Some, None, is_some, refl}
use Rattle.std.proofs.lemmas.List.Elements.{All-nil, All-cons, All-weaker}
use Rattle.netlist.specs.Names.{node_of}
use Rattle.netlist.specs.Circuits.{CircuitData}
use Rattle.session_meaning.specs.declared.fault.Refusal.{Refusal}
use Rattle.session_meaning.specs.Refusals.{first_refusal, or_else, set_refusal}

-- each of two refusals is none if the first of them is
pub or_else-none : (first second : Option Refusal) → or_else first second ≡ None → (first ≡ None) × (second ≡ None)
or_else-none None second none = (refl, none)
or_else-none (Some refusal) second none = absurd (cc)

-- there is none among some items: the first has none, and none of the others has one
pub first_refusal-none : {X : Type 0} (f : X → Option Refusal) (item : X) (items : List X) → first_refusal f (item ∷ items) ≡ None →
    (f item ≡ None) × (first_refusal f items ≡ None)
first_refusal-none f item items none = or_else-none (f item) (first_refusal f items) none

-- if there is none among them, no item has one
pub none_of_all : {X : Type 0} (f : X → Option Refusal) (items : List X) → first_refusal f items ≡ None → All (λ item. f item ≡ None) items
none_of_all {X} f [] none = All-nil (λ item. f item ≡ None)
none_of_all {X} f (item ∷ items) none =
    let both = first_refusal-none f item items none in
    All-cons (λ item. f item ≡ None) item items both.0 (none_of_all f items both.1)

-- a name that is set is in use
pub is_some-set : (c : CircuitData) (found : Option ℕ) → set_refusal c found ≡ None → is_some found ≡ true
is_some-set c None none = absurd (cc)
is_some-set c (Some node) none = refl

-- so are those of a list of names with values whose names are set
pub set_known : {V : Type 0} (c : CircuitData) (list : List (List ℕ × V)) → first_refusal (λ item. set_refusal c (node_of c.names item.0)) list ≡ None →
    All (λ item. is_some (node_of c.names item.0) ≡ true) list
set_known {V} c list none =
    All-weaker (λ (item : List ℕ × V). set_refusal c (node_of c.names item.0) ≡ None) (λ item. is_some (node_of c.names item.0) ≡ true)
    (λ item. is_some-set c (node_of c.names item.0)) list (none_of_all (λ item. set_refusal c (node_of c.names item.0)) list none)
