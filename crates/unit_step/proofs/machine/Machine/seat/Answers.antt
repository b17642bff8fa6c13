-- The new part comes behind the others, and its members are its own.
use Rattle.std.proofs.Common.{◌≡◌, ◌+◌, ◌<◌, ◌++◌, ◌∷◌, [], ℕ, List, Option, None, length, refl, sym, ap, subst, ◌∙◌, arith}
use Rattle.std.specs.Prelude.{Contains, slice_index_or, vec_capacity, All}
use Rattle.std.proofs.lemmas.List.{with_items_is, length_push}
use Rattle.channel_groups.proofs.StoreLemmas.{same_more}
use Rattle.group_text.specs.Texts.{GroupTextData}
use Rattle.kept_parts.specs.Uses.{UsesData, texts_used}
use Rattle.kept_parts.proofs.NumberLemmas.{texts_added}
use Rattle.machine_laws.specs.Machines.{MachineData}
use Rattle.part_steps.specs.Workspaces.{rooms}
use Rattle.machine_parts.specs.Parts.{HasMember}
use Rattle.machine_parts.specs.Marking.{AgendaData}
use Rattle.machine_parts.specs.Making.{Owns}
use Rattle.part_steps.specs.Dense.{AreDense}
use Rattle.unit_step.specs.LastTexts.{texts_of_last}
use Rattle.machine_laws.proofs.SeatingLemmas.{IsMachine-roomier, IsMachine-seated}
use Rattle.unit_step.proofs.LastTextsEdits.{AreLastTexts-same, AreLastTexts-seated}
use Rattle.machine_laws.proofs.HeldParts.{KeepsKnown-seated, holds_kept}
use Rattle.unit_step.proofs.machine.Machine.seat.Goals as goal

-- the numbers of the parts read as before
numbers_read : (old new : UsesData) → new.numbers ≡ old.numbers ++ None ∷ [] → (k : ℕ) →
    slice_index_or new.numbers k None ≡ slice_index_or old.numbers k None
numbers_read old new pushed k = ap (λ (list : List (Option ℕ)). slice_index_or list k None) pushed ∙ same_more ℕ old.numbers k

pub invariant_of-self-in_err-widen_for_parts : goal.invariant_of-self-in_err-widen_for_parts
invariant_of-self-in_err-widen_for_parts c =
    let i = c.self.inside in
    rw c.reserve.ensures.items (
      (IsMachine-roomier i.body.parts.items i.body.agenda.marks i.body.agenda.waiting (length i.body.state.items) i.body.readers i.body.owners.items i.body.uses.numbers i.body.held i.body.most (rooms i.body.workspace) c.self.invariant.0 i.body.uses.numbers (rooms c.widen_for_parts.new.workspace) (omega arith)
          c.widen_for_parts.ensures.values c.widen_for_parts.ensures.changes c.widen_for_parts.ensures.parts),
      c.make_room.ensures.same i.body.parts.items c.self.invariant.1,
      c.self.invariant.2,
      c.self.invariant.3,
      c.self.invariant.4,
    )

pub invariant_of-self-in_err-add : goal.invariant_of-self-in_err-add
invariant_of-self-in_err-add c =
    let i = c.self.inside in
    let same = ap (λ (uses : UsesData). length uses.numbers) c.in_err-add.ensures.err in
    rw c.reserve.ensures.items (
      (IsMachine-roomier i.body.parts.items i.body.agenda.marks i.body.agenda.waiting (length i.body.state.items) i.body.readers i.body.owners.items i.body.uses.numbers i.body.held i.body.most (rooms i.body.workspace) c.self.invariant.0 c.add.new.self.numbers (rooms c.widen_for_parts.new.workspace)
          (omega (arith, same)) c.widen_for_parts.ensures.values c.widen_for_parts.ensures.changes c.widen_for_parts.ensures.parts),
      c.make_room.ensures.same i.body.parts.items c.self.invariant.1,
      rw (ap (λ (uses : UsesData). length uses.known) c.in_err-add.ensures.err, ap (λ (uses : UsesData). uses.numbers) c.in_err-add.ensures.err)
          c.self.invariant.2,
      c.self.invariant.3,
      c.self.invariant.4,
    )

pub invariant_of-self-in_err-wait_more : goal.invariant_of-self-in_err-wait_more
invariant_of-self-in_err-wait_more c =
    let i = c.self.inside in
    let more = ap length c.in_ok-add.ensures.ok in
    rw (c.reserve.ensures.items, c.in_err-wait_more.ensures.err) (
      (IsMachine-roomier i.body.parts.items i.body.agenda.marks i.body.agenda.waiting (length i.body.state.items) i.body.readers i.body.owners.items i.body.uses.numbers i.body.held i.body.most (rooms i.body.workspace) c.self.invariant.0 c.add.new.self.numbers (rooms c.widen_for_parts.new.workspace)
          (omega (arith, more, length_push i.body.uses.numbers None)) c.widen_for_parts.ensures.values c.widen_for_parts.ensures.changes c.widen_for_parts.ensures.parts),
      c.make_room.ensures.same i.body.parts.items c.self.invariant.1,
      rw c.add.ensures.known (AreLastTexts-same i.body.parts.items i.body.uses.numbers (length i.body.state.items) (length i.body.uses.known) i.body.last_texts c.self.invariant.2
          c.add.new.self.numbers i.body.last_texts (numbers_read i.body.uses c.add.new.self c.in_ok-add.ensures.ok) refl refl),
      c.self.invariant.3,
      c.self.invariant.4,
    )

pub invariant_of-self-2 : goal.invariant_of-self-2
invariant_of-self-2 c =
    let i = c.self.inside in
    let members = c.args.members.now in
    let e = c.in_ok-part.part in
    let room = rooms c.widen_for_parts.new.workspace in
    let most : c.in-Some.most ≡ i.body.most + length members = omega (arith, c.in-Some.ensures) in
    let parts = c.push_reserved.ensures.items ∙ ap (λ xs. xs ++ e ∷ []) c.reserve.ensures.items in
    let count : c.len-2.result ≡ length i.body.parts.items = omega (arith, c.len-2.ensures, c.reserve.ensures.len, i.body.parts.ok.0) in
    let before : c.len.result ≡ length i.body.parts.items = omega (arith, c.len.ensures, c.reserve.ensures.len, i.body.parts.ok.0) in
    let owners = with_items_is i.body.owners c.own.new.owners (omega (arith, c.own.auto.owners, c.deref_mut.ensures.len)) in
    let owns : Owns (length i.body.parts.items) members i.body.owners.items c.own.new.owners =
    subst (λ n. Owns n members i.body.owners.items c.own.new.owners) count
    (subst (λ list. Owns c.len-2.result members list c.own.new.owners) c.deref_mut.ensures.value c.own.ensures) in
    let marks = ap (λ (agenda : AgendaData). agenda.marks) c.in_ok-wait_more.ensures.ok in
    let waits = ap (λ (agenda : AgendaData). agenda.waiting) c.in_ok-wait_more.ensures.ok in
    let waiting : length i.body.agenda.waiting ≡ length i.body.parts.items = c.wait_more.ensures.counted ∙ c.self.invariant.0.runs.counted in
    let numbers = ap length c.in_ok-add.ensures.ok ∙ length_push i.body.uses.numbers None in
    let roomier = IsMachine-roomier i.body.parts.items i.body.agenda.marks i.body.agenda.waiting (length i.body.state.items) i.body.readers i.body.owners.items i.body.uses.numbers i.body.held i.body.most (rooms i.body.workspace) c.self.invariant.0 i.body.uses.numbers room (omega arith)
    c.widen_for_parts.ensures.values c.widen_for_parts.ensures.changes c.widen_for_parts.ensures.parts in
    let inside : All (λ node. node < length i.body.state.items) members =
    subst (λ n. All (λ node. node < n) members) (ap (λ (m : MachineData). length m.state) (sym c.self.view_is)) c.requires.inside in
    let free : (k node : ℕ) → Contains members node → ¬ HasMember i.body.parts.items k node =
    λ k node there has. c.requires.free k node there (subst (λ list. HasMember list k node) (ap (λ (m : MachineData). m.parts) c.self.view_is) has) in
    let kept = c.make_room.ensures.same i.body.parts.items c.self.invariant.1 in
    let dense : AreDense (i.body.parts.items ++ e ∷ []) c.add_stale.new.self = c.add_stale.ensures i.body.parts.items e c.in_ok-part.ensures.code kept in
    rw (parts, marks, waits, owners, most) (
      (IsMachine-seated i.body.parts.items i.body.agenda.marks i.body.agenda.waiting (length i.body.state.items) i.body.readers i.body.owners.items i.body.uses.numbers i.body.held i.body.most
          room roomier members e c.in_ok-part.ensures c.requires.some inside c.requires.once free c.own.new.owners owns c.add.new.self.numbers numbers
          (omega (arith, most, c.in_ok-widen_for_parts.ensures.more_changes)) (omega (arith, before, c.in_ok-widen_for_parts.ensures.more_parts)) waiting),
      dense,
      rw c.add.ensures.known (AreLastTexts-seated i.body.parts.items i.body.uses.numbers (length i.body.state.items) (length i.body.uses.known) i.body.last_texts c.self.invariant.2
          e c.add.new.self.numbers (numbers_read i.body.uses c.add.new.self c.in_ok-add.ensures.ok)),
      holds_kept i.body.parts.items (i.body.parts.items ++ e ∷ []) i.body.state.items (vec_capacity i.body.noted) i.body.wide i.body.wide
          (KeepsKnown-seated i.body.parts.items e i.body.wide i.body.wide refl) c.self.invariant.3,
      tt,
    )

pub returns-clause-ok : goal.returns-clause-ok
returns-clause-ok c =
    let i = c.self.inside in
    let e = c.in_ok-part.part in
    rw (← c.self.view_is) (record {
      part = e;
      is_new = c.in_ok-part.ensures;
      parts = c.push_reserved.ensures.items ∙ ap (λ xs. xs ++ e ∷ []) c.reserve.ensures.items;
      uses = λ k.
          ap (λ (list : List (Option GroupTextData)). slice_index_or list k None) (texts_added i.body.uses c.add.new.self c.add.ensures.known c.in_ok-add.ensures.ok)
          ∙ same_more GroupTextData (texts_used i.body.uses) k;
      more_uses =
          ap length (texts_added i.body.uses c.add.new.self c.add.ensures.known c.in_ok-add.ensures.ok) ∙ length_push (texts_used i.body.uses) None;
      marks = ap (λ (agenda : AgendaData). agenda.marks) c.in_ok-wait_more.ensures.ok;
      rest = record {
        groups = refl;
        state = refl;
        last = ap (λ known. texts_of_last known i.body.last_texts) c.add.ensures.known;
        moves = refl;
        placed = refl;
        spare = refl;
      };
      wide = refl;
    })

pub returns-clause-counted : goal.returns-clause-counted
returns-clause-counted c = rw (← c.self.view_is) c.self.invariant.0.runs.counted
