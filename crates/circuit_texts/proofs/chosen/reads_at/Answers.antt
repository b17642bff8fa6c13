-- Each chosen group before the next one has its list.
use Rattle.std.proofs.Common.{◌≡◌, ℕ, ◌+◌, ◌<◌, List, All, [], ◌∷◌, ◌++◌, length, take, sym, subst}
use Rattle.std.specs.List.{flat_map}
use Rattle.std.specs.List.Sorted.{IsPermutation}
use Rattle.std.proofs.lemmas.Slice.Zip.{all_zipped_more}
use Rattle.switch_paths.specs.Graphs.{place_at}
use Rattle.group_meaning.specs.Groups.{IsGroup}
use Rattle.channel_groups.proofs.HeldLemmas.{IsGroup-found}
use Rattle.group_text.specs.Texts.{firsts}
use Rattle.group_text.proofs.GroupLemmas.{switches_inside}
use Rattle.circuit_texts.specs.Reading.{AreReads, reads_at}
use Rattle.circuit_texts.specs.Choosing.{chosen}
use Rattle.circuit_texts.proofs.ReadLemmas.{AreReads-permuted}
use Rattle.circuit_texts.proofs.ChosenLemmas.{chosen-more}
use Rattle.circuit_texts.proofs.chosen.reads_at.Goals as goal

pub sorted_reads-requires : goal.sorted_reads-requires
sorted_reads-requires c =
    let graph = c.args.graph.now in
    let group = c.group-group.result.now in
    let is_group : IsGroup graph group = IsGroup-found graph c.args.groups.now.groups _ group c.requires.groups.each c.group-group.ensures in
    subst (λ xs. All (λ place. place < length graph.places) xs) (sym c.switches.ensures) (switches_inside graph group is_group)

pub loop-id-preserved : goal.loop-id-preserved
loop-id-preserved c =
    let graph = c.args.graph.now in
    let groups = c.args.groups.now.groups in
    let group = c.group-group.result.now in
    let i = c.loop-id.id-index in
    let ids = c.args.ids.now in
    let list = c.in_ok-sorted_reads.field-0 in
    let pieces : ℕ → List ℕ = λ place. reads_at graph (place_at graph.places place) in
    let made : IsPermutation (firsts (flat_map pieces group.switches)) list.items =
    subst (λ xs. IsPermutation (firsts (flat_map pieces xs)) list.items) c.switches.ensures c.in_ok-sorted_reads.ensures in
    let are : AreReads graph group list.items = AreReads-permuted graph group list.items made in
    let grown : chosen groups (take (i + 1) ids) ≡ chosen groups (take i ids) ++ group ∷ [] =
    chosen-more groups ids i _ group c.loop-id-test.true c.group-group.ensures in
    rw (grown, c.in_ok-push.ensures.items)
    (all_zipped_more (λ group list. AreReads graph group list.items) (chosen groups (take i ids)) c.loop-id.lists.items group list c.loop-id.invariant are)
