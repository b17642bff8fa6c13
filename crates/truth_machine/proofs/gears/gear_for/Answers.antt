-- The parts are those of the machine, and all that was made is of them.
use Rattle.std.proofs.Common.{◌≡◌, ◌<◌, ℕ, true, false, List, length, sym, ap, subst, ◌∙◌, arith}
use Rattle.std.specs.Prelude.{replicate}
use Rattle.switch_paths.specs.Graphs.{nodes}
use Rattle.machine_parts.specs.declared.part.MachinePart.{MachinePart}
use Rattle.machine_parts.specs.Parts.{ReadsAt, IsStale}
use Rattle.machine_laws.specs.Machines.{MachineData}
use Rattle.machine_laws.specs.Columns.{AreSeated}
use Rattle.machine_laws.proofs.HeldLemmas.{coded_without}
use Rattle.part_lists.specs.Listing.{AreLists}
use Rattle.part_lists.proofs.ListLemmas.{members_front, nodes_inside}
use Rattle.truth_parts.specs.Evaluating.{rooms, HasRoomFor}
use Rattle.truth_machine.proofs.gears.gear_for.Goals as goal

-- the machine's parts, once they are handed out, have their nodes among those of the graph
handed_out : (m : MachineData) (parts : List MachinePart) (count : ℕ) → parts ≡ m.parts → length m.state ≡ count → AreSeated (length m.state) m.parts →
    ((k node : ℕ) → ReadsAt m.parts k node → node < length m.state) → AreSeated count parts × ((k node : ℕ) → ReadsAt parts k node → node < count)
handed_out m parts count same counted seated reads = (
  rw same (subst (λ n. AreSeated n m.parts) counted seated),
  rw same (λ k node (at : ReadsAt m.parts k node). subst (λ n. node < n) counted (reads k node at)),
)

pub lists_of-requires : goal.lists_of-requires
lists_of-requires g c =
    let (seated, reads) = handed_out c.args.machine c.into_parts-parts.result.items c.nodes-nodes.result c.into_parts-parts.ensures.parts
    (c.requires.machine.covers.counted ∙ sym c.nodes-nodes.ensures) c.into_parts-parts.ensures.seated c.into_parts-parts.ensures.reads in
    rw c.deref.ensures.value (record { below = nodes_inside false _ _ seated reads; front = members_front _ _ seated })

pub lists_of-requires-2 : goal.lists_of-requires-2
lists_of-requires-2 g c =
    let (seated, reads) = handed_out c.args.machine c.into_parts-parts.result.items c.nodes-nodes.result c.into_parts-parts.ensures.parts
    (c.requires.machine.covers.counted ∙ sym c.nodes-nodes.ensures) c.into_parts-parts.ensures.seated c.into_parts-parts.ensures.reads in
    rw c.deref-2.ensures.value (record { below = nodes_inside true _ _ seated reads; front = members_front _ _ seated })

pub returns : goal.returns
returns g c =
    let m = c.args.machine in
    let graph = c.args.graph.now in
    let fits = c.requires.machine in
    let parts = c.into_parts-parts.result.items in
    let same = c.into_parts-parts.ensures.parts in
    let count : c.nodes-nodes.result ≡ nodes graph = c.nodes-nodes.ensures in
    let long : c.len.result ≡ length parts = omega (arith, c.len.ensures, c.into_parts-parts.result.ok.0) in
    record {
      machine = m;
      fits = fits;
      without = c.requires.without;
      parts_are = same;
      seated = rw same (subst (λ n. AreSeated n m.parts) fits.covers.counted c.into_parts-parts.ensures.seated);
      apart = rw same c.into_parts-parts.ensures.apart;
      fresh = rw same (λ k (stale : IsStale m.parts k). coded_without graph m fits c.requires.without k stale.part stale.stands stale.some stale.none);
      agenda_is = c.in_ok-agenda.ensures ∙ ap (λ n. replicate n true) long;
      readers_are = subst (λ n. AreLists false parts n c.in_ok-readers.readers.items) count
          (subst (λ list. AreLists false list c.nodes-nodes.result c.in_ok-readers.readers.items) c.deref.ensures.value c.in_ok-readers.ensures);
      owners_are = subst (λ n. AreLists true parts n c.in_ok-owners.owners.items) count
          (subst (λ list. AreLists true list c.nodes-nodes.result c.in_ok-owners.owners.items) c.deref-2.ensures.value c.in_ok-owners.ensures);
      room = subst (λ list. HasRoomFor list (rooms c.in_ok-workspace.workspace)) c.deref-3.ensures.value c.in_ok-workspace.ensures.room;
      workspace_is = c.in_ok-workspace.ensures.workspace;
    }
