-- No switch, one that isn't dead, and one that is counted with those that are alike.
use Rattle.std.proofs.Common.{◌≡◌, ◌+◌, true, false, ◌&&◌, Some, None, unwrap_or, sym, ap, subst, ◌∙◌, arith, rules}
use Rattle.indexmap.specs.IndexMap.{Updates}
use Rattle.switch_paths.specs.declared.switching.Switch.{Switch}
use Rattle.switch_paths.specs.Graphs.{place_at}
use Rattle.circuit_lint.specs.Dead.{is_dead, likeness, same_switch, is_dead_like}
use Rattle.circuit_lint.specs.Tallies.{count_at}
use Rattle.circuit_lint.proofs.TallyLemmas.{tally_within, tallied-not, tallied-dead}
use Rattle.circuit_lint.proofs.dead.note_place.Goals as goal

pub returns-in_default : goal.returns-in_default
returns-in_default c =
    let none : place_at c.args.graph.now.places c.args.place ≡ None = let is = c.in_default.is in let value = c.switch_at.ensures.value in cc in
    tallied-not c.args.graph.now.places c.args.place c.requires.place c.args.tally.now (λ alike. ap (is_dead_like alike) none) c.requires.before

pub returns-then-not-is_dead : goal.returns-then-not-is_dead
returns-then-not-is_dead c =
    let switch = c.in-Some.switch in
    let there : place_at c.args.graph.now.places c.args.place ≡ Some switch = sym c.in-Some.ensures.value in
    let fails : is_dead switch ≡ false = let is = c.is_dead.ensures in let test = c.if-not-is_dead.true in cc in
    tallied-not c.args.graph.now.places c.args.place c.requires.place c.args.tally.now
    (λ alike. ap (is_dead_like alike) there ∙ ap (λ b. b && same_switch (likeness switch) alike) fails) c.requires.before

pub overflow_add-count : goal.overflow_add-count
overflow_add-count c =
    let is : c.unwrap_or-count.result ≡ unwrap_or (count_at c.args.tally.now c.likeness-alike.result) 0 = search rules in
    omega (arith, is, c.requires.fits, tally_within c.args.graph.now.places c.args.place c.args.tally.now c.likeness-alike.result c.requires.place c.requires.before)

pub returns : goal.returns
returns c =
    let switch = c.in-Some.switch in
    let there : place_at c.args.graph.now.places c.args.place ≡ Some switch = sym c.in-Some.ensures.value in
    let dead : is_dead switch ≡ true = let is = c.is_dead.ensures in let test = c.if-not-is_dead.false in cc in
    let is : c.unwrap_or-count.result ≡ unwrap_or (count_at c.args.tally.now c.likeness-alike.result) 0 = search rules in
    tallied-dead c.args.graph.now.places c.args.place c.requires.place switch c.args.tally.now c.insert.new.self c.unwrap_or-count.result there dead
    (rw c.likeness-alike.ensures at is)
    (subst (λ (alike : Switch). Updates same_switch c.args.tally.now c.insert.new.self alike (Some (c.unwrap_or-count.result + 1))) c.likeness-alike.ensures
    c.in_ok-insert.ensures.updates)
    c.requires.before
