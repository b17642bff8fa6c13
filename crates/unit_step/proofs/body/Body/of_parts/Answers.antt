-- All that was made is of these parts, so the machine can run.
use Rattle.std.proofs.Common.{◌≡◌, ℕ, List, true, length, ap, refl, sym, subst, ◌∙◌, arith}
use Rattle.std.specs.Prelude.{◌↔◌, All, Contains, replicate, count_by}
use Rattle.machine_parts.specs.declared.part.MachinePart.{MachinePart}
use Rattle.machine_parts.specs.Parts.{ReadsAt, IsStale, AreApart, has_members}
use Rattle.machine_parts.specs.Marking.{IsMarked}
use Rattle.part_steps.specs.Workspaces.{rooms}
use Rattle.machine_parts.specs.Running.{AreOwners}
use Rattle.machine_parts.specs.Readers.{readers_of}
use Rattle.machine_parts.specs.Making.{HasRoomFor}
use Rattle.part_steps.specs.Dense.{AreDense, HasInputs, HaveCodes}
use Rattle.unit_step.specs.LastTexts.{AreLastTexts}
use Rattle.unit_step.proofs.LastTextsOrder.{AreInOrder-last_texts}
use Rattle.machine_parts.proofs.MakingLemmas.{IsMachine-started}
use Rattle.unit_step.proofs.body.Body.of_parts.Goals as goal

pub agenda_of-requires : goal.agenda_of-requires
agenda_of-requires c = rw c.deref-2.ensures.value (record { some = c.requires.some })

pub all_owners-requires-clause-apart : goal.all_owners-requires-clause-apart
all_owners-requires-clause-apart c = subst AreApart (sym c.deref-4.ensures.value) c.requires.apart

pub dense_of-requires-clause-inputs : goal.dense_of-requires-clause-inputs
dense_of-requires-clause-inputs c =
    subst (All HasInputs) (sym c.deref-6.ensures.value) (λ k d inside code has. (c.requires.formed k d inside).inputs code has)

pub dense_of-requires-clause-coded : goal.dense_of-requires-clause-coded
dense_of-requires-clause-coded c = subst (HaveCodes c.args.uses.numbers) (sym c.deref-6.ensures.value) c.requires.coded

pub of_parts-requires-2-clause-apart : goal.of_parts-requires-2-clause-apart
of_parts-requires-2-clause-apart c = subst AreApart (sym c.deref-7.ensures.value) c.requires.apart

pub returns-clause-starts : goal.returns-clause-starts
returns-clause-starts c =
    let parts = c.args.parts.items in
    let nodes = length c.args.state.items in
    let lists = c.in_ok-readers.readers in
    let owners = c.in_ok-owners.owners.items in
    let room = rooms c.in_ok-workspace.workspace in
    let nodes_are : c.len-nodes.result ≡ nodes = omega (arith, c.len-nodes.ensures, c.args.state.ok.0) in
    let marks : c.in_ok-agenda.agenda.marks ≡ replicate (length parts) true =
    c.in_ok-agenda.ensures.marks ∙ ap (λ (list : List MachinePart). replicate (length list) true) c.deref-2.ensures.value in
    let readers = subst (λ list. (node k : ℕ) → ReadsAt list k node → Contains (readers_of lists node) k) c.deref-3.ensures.value
    c.in_ok-readers.ensures.readers in
    let reads = subst (λ list. (node k : ℕ) → Contains (readers_of lists node) k → ReadsAt list k node) c.deref-3.ensures.value
    c.in_ok-readers.ensures.reads in
    let own = subst (λ list. AreOwners list nodes owners) c.deref-4.ensures.value
    (subst (λ n. AreOwners c.deref-4.result.now n owners) nodes_are c.in_ok-owners.ensures) in
    let number = c.count_held-held.ensures ∙ ap (count_by has_members) c.deref.ensures.value in
    let fits = subst (λ list. HasRoomFor list room) c.deref-5.ensures.value c.in_ok-workspace.ensures in
    let waits = subst (λ (list : List MachinePart). (k : ℕ) → IsMarked c.in_ok-agenda.agenda.waiting k ↔ IsStale list k) c.deref-2.ensures.value
    c.in_ok-agenda.ensures.waiting in
    let dense = subst (λ list. AreDense list c.in_ok-dense.dense) c.deref-6.ensures.value c.in_ok-dense.ensures in
    record {
      marked = marks;
      runs = rw (marks, c.capacity.ensures)
          (IsMachine-started parts nodes lists owners c.args.uses.numbers c.count_held-held.result room.changes room c.requires.formed c.requires.apart
          (c.in_ok-readers.ensures.count ∙ nodes_are) readers reads own (omega (arith, c.requires.numbered)) number refl fits _ waits);
      dense = dense;
      without = refl;
      unknown = refl;
      last_texts = subst (λ list. AreLastTexts list c.args.uses.numbers nodes (length c.args.uses.known) c.in_ok-last_texts.last_texts)
          c.deref-7.ensures.value
          (subst (λ n. AreLastTexts c.deref-7.result.now c.args.uses.numbers n (length c.args.uses.known) c.in_ok-last_texts.last_texts) nodes_are
          c.in_ok-last_texts.ensures.last_texts);
    }

pub returns-clause-order : goal.returns-clause-order
returns-clause-order c =
    let uses = c.args.uses in
    AreInOrder-last_texts c.args.parts.items uses c.len-nodes.result c.in_ok-last_texts.last_texts
    (subst (λ list. AreLastTexts list uses.numbers c.len-nodes.result (length uses.known) c.in_ok-last_texts.last_texts) c.deref-7.ensures.value
    c.in_ok-last_texts.ensures.last_texts)
    c.in_ok-last_texts.ensures.none
