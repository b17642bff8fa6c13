use Rattle.std.proofs.Common.{◌≡◌, ℕ, List, [], None, Option, option_map, IfSome, ap, ◌∙◌, subst}
use Rattle.std.specs.Borrow.{Bor}
use Rattle.std.specs.List.{zip}
use Rattle.indexmap.specs.IndexMap.{IndexMap}
use Rattle.table_keys.specs.declared.TableKeys.{TableKeys}
use Rattle.spice_cards.specs.Tables.{named}
use Rattle.spice_read.specs.Expansions.{last_named}
use Rattle.spice_read.specs.Ports.{PortsData, entries_of}
use Rattle.spice_read.specs.Scopes.{with_each}
use Rattle.spice_read.proofs.PortsLemmas.{last_counts, lookup-entries_of}
use Rattle.spice_read.proofs.ports.Ports.find.Goals as goal

pub returns-in-Some : goal.returns-in-Some
returns-in-Some c =
    let name = c.args.name.now in
    let entries = zip c.self.inside.ports c.self.inside.words in
    let kept : entries_of c.in-Some.table.entries ≡ with_each [] entries =
    subst (λ (o : Option (IndexMap (Bor (List ℕ)) (Bor (List ℕ)) TableKeys)). IfSome o (λ t. entries_of t.entries ≡ with_each [] entries)) c.in-Some.is
    c.self.invariant.last in
    ap (option_map (λ (word : Bor (List ℕ)). word.now)) (c.copied.ensures ∙ c.get.ensures.value)
    ∙ lookup-entries_of c.in-Some.table.entries name
    ∙ ap (λ (e : List (List ℕ × List ℕ)). named e name) kept
    ∙ last_counts entries name
    ∙ ap (λ (p : PortsData). last_named None (zip p.ports p.words) name) c.self.view_is
