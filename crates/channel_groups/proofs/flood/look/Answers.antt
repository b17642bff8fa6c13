-- No switch with an end at the node, one that leads to a storage node, and one that leads to an input node.
use Rattle.std.proofs.Common.{◌≡◌, Some}
use Rattle.switch_paths.specs.Graphs.{IsStorage}
use Rattle.channel_groups.proofs.FloodLemmas.{Sees-none, Sees-storage, Sees-input, only_end}
use Rattle.channel_groups.proofs.flood.look.Goals as goal

pub returns-in_default-clause-sees : goal.returns-in_default-clause-sees
returns-in_default-clause-sees g c =
    Sees-none c.args.graph.now c.args.node (λ one. one ≡ c.args.place) c.args.flood.now.nodes.keys c.args.flood.now.places.items
    (λ one n looked to.
    let some : c.across.result ≡ Some n = c.across.ensures.all n (rw looked at to) in
    let none = c.in_default.is in
    cc)

pub returns-in_ok-insert-clause-sees : goal.returns-in_ok-insert-clause-sees
returns-in_ok-insert-clause-sees g c =
    let graph = c.args.graph.now in
    let storage : IsStorage graph c.in-Some.other = c.is_storage.ensures.0 c.if-is_storage.true in
    rw c.in_ok-push.ensures.items
    (Sees-storage graph c.args.node c.args.place c.in-Some.other c.in-Some.ensures.joined
    (λ n to. only_end c.in-Some.other n (c.in-Some.ensures.all n to))
    c.args.flood.now.nodes.keys c.args.flood.now.places.items storage c.insert.new.self.keys c.in_ok-insert.ensures.keys)

pub returns-else-is_storage-clause-sees : goal.returns-else-is_storage-clause-sees
returns-else-is_storage-clause-sees g c =
    let graph = c.args.graph.now in
    let input : ¬ IsStorage graph c.in-Some.other = λ storage. let yes = c.is_storage.ensures.1 storage in absurd (cc) in
    rw c.in_ok-push.ensures.items
    (Sees-input graph c.args.node c.args.place c.in-Some.other c.in-Some.ensures.joined
    (λ n to. only_end c.in-Some.other n (c.in-Some.ensures.all n to))
    c.args.flood.now.nodes.keys c.args.flood.now.places.items input)
