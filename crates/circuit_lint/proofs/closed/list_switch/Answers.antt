-- No switch, one that isn't always closed, one with one node at both ends, and one with two.
use Rattle.std.proofs.Common.{◌≡◌, true, false, ◌&&◌, ◌||◌, Some, None, nat_eq, sym, ap, ◌∙◌}
use Rattle.switch_paths.specs.Graphs.{place_at}
use Rattle.circuit_lint.specs.Conducting.{is_always_closed}
use Rattle.circuit_lint.specs.Closed.{is_closed_end}
use Rattle.circuit_lint.proofs.ClosedLemmas.{closed-none, closed-once, closed-twice}
use Rattle.circuit_lint.proofs.closed.list_switch.Goals as goal

pub returns-in_default : goal.returns-in_default
returns-in_default c =
    let none : place_at c.args.graph.now.places c.args.place ≡ None = let is = c.in_default.is in let value = c.switch_at.ensures.value in cc in
    closed-none c.args.graph.now c.args.place c.args.lists.now.items (λ node. ap (is_closed_end node) none) c.requires.before

pub returns-then-not-is_always_closed : goal.returns-then-not-is_always_closed
returns-then-not-is_always_closed c =
    let switch = c.in-Some.switch in
    let there : place_at c.args.graph.now.places c.args.place ≡ Some switch = sym c.in-Some.ensures.value in
    let fails : is_always_closed switch ≡ false = let is = c.is_always_closed.ensures in let test = c.if-not-is_always_closed.true in cc in
    closed-none c.args.graph.now c.args.place c.args.lists.now.items
    (λ node. ap (is_closed_end node) there ∙ ap (λ b. b && (nat_eq switch.a node || nat_eq switch.b node)) fails) c.requires.before

pub returns-in_ok-list_at_node-2 : goal.returns-in_ok-list_at_node-2
returns-in_ok-list_at_node-2 c =
    let switch = c.in-Some.switch in
    let closed : is_always_closed switch ≡ true = let is = c.is_always_closed.ensures in let test = c.if-not-is_always_closed.false in cc in
    closed-twice c.args.graph.now c.args.place switch (sym c.in-Some.ensures.value) closed c.args.lists.now.items c.list_at_node.new.lists.items
    c.list_at_node-then-switch.new.lists.items c.if-switch.true c.in_ok-list_at_node.ensures c.in_ok-list_at_node-2.ensures c.requires.before

pub returns-else-switch : goal.returns-else-switch
returns-else-switch c =
    let switch = c.in-Some.switch in
    let closed : is_always_closed switch ≡ true = let is = c.is_always_closed.ensures in let test = c.if-not-is_always_closed.false in cc in
    closed-once c.args.graph.now c.args.place switch (sym c.in-Some.ensures.value) closed c.args.lists.now.items c.list_at_node.new.lists.items
    c.if-switch.false c.in_ok-list_at_node.ensures c.requires.before
