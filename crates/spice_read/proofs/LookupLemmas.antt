-- What is kept of look-ups holds of the deck.
use Rattle.std.proofs.Common.{◌≡◌, ℕ, Bool, true, false, List, [], ◌∷◌, All, Some, nat_eq, if◌then◌else◌, Option, bytes_eq, ap, subst, sym, ◌∙◌}
use Rattle.std.specs.Map.{lookup}
use Rattle.std.proofs.lemmas.List.Elements.{All-cons, All-head, All-nil, All-tail}
use Rattle.std.proofs.lemmas.Slice.Eq.{bytes_eq-Decides}
use Rattle.indexmap.specs.IndexMap.{insert_entry}
use Rattle.spice_cards.specs.declared.deck.Subcircuit.{Subcircuit}
use Rattle.spice_cards.specs.Decks.{DeckCards}
use Rattle.spice_cards.specs.Tables.{named}
use Rattle.spice_read.specs.declared.found.Found.{Found}
use Rattle.spice_read.specs.Lookups.{IsFound}

-- what is kept for a line
pub kept-found : (deck : DeckCards) (entries : List (ℕ × Found)) (line : ℕ) (found : Found) → All (IsFound deck) entries →
    Some found ≡ lookup (nat_eq line) entries → IsFound deck (line, found)
kept-found deck [] line found are is = absurd (cc)
kept-found deck (entry ∷ entries) line found are is =
    by (nat_eq line entry.0) is (kept-found deck entries line found (All-tail (IsFound deck) entry entries are))
  where
    same : (one other : Found) → ◌≡◌ {A = Option Found} (Some one) (Some other) → one ≡ other
    same one other is = cc

    by : (here : Bool) → Some found ≡ (if here then Some entry.1 else lookup (nat_eq line) entries) →
        (Some found ≡ lookup (nat_eq line) entries → IsFound deck (line, found)) → IsFound deck (line, found)
    by true is later =
        subst (λ (f : Found). IsFound deck (line, f)) (sym (same found entry.1 is)) (All-head (IsFound deck) entry entries are)
    by false is later = later is

-- what is kept with one more
pub kept-more : (deck : DeckCards) (entries : List (ℕ × Found)) (line : ℕ) (found : Found) → All (IsFound deck) entries →
    IsFound deck (line, found) → All (IsFound deck) (insert_entry nat_eq entries line found)
kept-more deck [] line found are is = All-cons (IsFound deck) (line, found) [] is (All-nil (IsFound deck))
kept-more deck (entry ∷ entries) line found are is =
    by (nat_eq line entry.0) (kept-more deck entries line found (All-tail (IsFound deck) entry entries are) is)
  where
    by : (here : Bool) → All (IsFound deck) (insert_entry nat_eq entries line found) →
        All (IsFound deck) (if here then (entry.0, found) ∷ entries else entry ∷ insert_entry nat_eq entries line found)
    by true later = All-cons (IsFound deck) (entry.0, found) entries is (All-tail (IsFound deck) entry entries are)
    by false later = All-cons (IsFound deck) entry (insert_entry nat_eq entries line found) (All-head (IsFound deck) entry entries are) later

-- what is kept for a line, by the name that it is kept with
pub kept-named : (deck : DeckCards) (entries : List (ℕ × Found)) (line : ℕ) (found : Found) (name : List ℕ) (s : Subcircuit) →
    All (IsFound deck) entries → Some found ≡ lookup (nat_eq line) entries → bytes_eq found.name.now name ≡ true →
    s.line ≡ found.subcircuit.line → s.ports ≡ found.subcircuit.ports → s.parts ≡ found.subcircuit.parts →
    named deck.subcircuits name ≡ Some (record { line = s.line; ports = s.ports; parts = s.parts })
kept-named deck entries line found name s are is same lines ports parts =
    let cards : Some (record { line = found.subcircuit.line; ports = found.subcircuit.ports; parts = found.subcircuit.parts })
    ≡ Some (record { line = s.line; ports = s.ports; parts = s.parts }) =
    λ j. Some (record { line = sym lines j; ports = sym ports j; parts = sym parts j }) in
    ap (named deck.subcircuits) (sym ((bytes_eq-Decides found.name.now name).0 same))
    ∙ kept-found deck entries line found are is
    ∙ cards
