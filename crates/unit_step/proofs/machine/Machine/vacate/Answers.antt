-- The part leaves its members and what it reads.
use Rattle.std.proofs.Common.{◌≡◌, ℕ, Option, Vec, Global, ◌+◌, ◌-◌, ◌++◌, ◌≤◌, length, take, get_or, refl, sym, ap, subst, ◌∙◌, arith}
use Rattle.std.specs.Prelude.{count_by, slice_set, vec_capacity}
use Rattle.std.specs.List.{sum_by}
use Rattle.std.proofs.lemmas.List.{with_items_is, get_or_default}
use Rattle.std.proofs.lemmas.List.Sums.{get_or-le-sum_by}
use Rattle.kept_parts.proofs.NumberLemmas.{texts_freed}
use Rattle.machine_parts.specs.declared.part.MachinePart.{MachinePart}
use Rattle.machine_parts.specs.Parts.{Stands, has_members}
use Rattle.machine_laws.specs.Machines.{MachineData}
use Rattle.machine_parts.specs.Marking.{members_of}
use Rattle.part_steps.specs.Workspaces.{rooms}
use Rattle.machine_parts.specs.Evaluating.{IsSeated}
use Rattle.machine_laws.specs.Seating.{Disowns, IsVacant, one_of}
use Rattle.machine_parts.specs.Readers.{Unlists}
use Rattle.part_steps.specs.Dense.{AreDense}
use Rattle.unit_step.specs.LastTexts.{starts_of, texts_numbered, texts_of_last}
use Rattle.machine_laws.proofs.SeatingLemmas.{seat_of, members_there, reads_there, IsMachine-vacated}
use Rattle.unit_step.proofs.LastTextsEdits.{AreLastTexts-same, AreLastTexts-vacated}
use Rattle.vicinity.specs.Wides.{WideData}
use Rattle.wide_groups.specs.Staying.{ForgetsWith}
use Rattle.machine_laws.specs.Seating.{KeepsKnown}
use Rattle.machine_laws.proofs.HeldParts.{KeepsKnown-vacated, holds_kept}
use Rattle.unit_step.proofs.machine.Machine.vacate.Goals.{After-replace-gone, After-forget_with}
use Rattle.unit_step.proofs.machine.Machine.vacate.Goals as goal

-- the part that was taken out is the one with this number
gone_read : (c : After-replace-gone) → c.replace-gone.result ≡ get_or c.self.inside.body.parts.items c.args.k c.replace-gone.result
gone_read c =
    c.replace-gone.ensures.value ∙ (c.index_mut.ensures.value ∙ ap (get_or c.self.inside.body.parts.items c.args.k) (sym c.replace-gone.ensures.value))

gone_stands : (c : After-replace-gone) → Stands c.self.inside.body.parts.items c.args.k c.replace-gone.result
gone_stands c = record {
  inside = omega (arith, c.requires.inside, ap (λ (m : MachineData). length m.parts) c.self.view_is);
  here = sym (gone_read c);
}

gone_seat : (c : After-replace-gone) → IsSeated (length c.self.inside.body.state.items) (rooms c.self.inside.body.workspace) c.replace-gone.result
gone_seat c =
    let i = c.self.inside in
    seat_of i.body.parts.items i.body.agenda.marks i.body.agenda.waiting (length i.body.state.items) i.body.readers i.body.owners.items i.body.uses.numbers i.body.held i.body.most
    (rooms i.body.workspace) c.self.invariant.0 c.args.k c.replace-gone.result (gone_stands c)

-- the groups that are stepped by vicinities are known still if none of its members is theirs
forgot_in : (c : After-forget_with) →
    ForgetsWith (take c.replace-gone.result.members c.replace-gone.result.map.items) c.self.inside.body.wide c.forget_with.new.wide
forgot_in c =
    subst (λ list. ForgetsWith (take c.replace-gone.result.members list) c.self.inside.body.wide c.forget_with.new.wide) c.deref-4.ensures.value c.forget_with.ensures

kept_known : (c : After-replace-gone) (e : MachinePart) → IsVacant e → (new : Option WideData) →
    ForgetsWith (take c.replace-gone.result.members c.replace-gone.result.map.items) c.self.inside.body.wide new →
    KeepsKnown c.self.inside.body.parts.items (slice_set c.self.inside.body.parts.items c.args.k e) c.self.inside.body.wide new
kept_known c e vacant new forgets =
    KeepsKnown-vacated c.self.inside.body.parts.items c.args.k c.replace-gone.result e (gone_stands c) c.self.invariant.0.runs.apart vacant c.self.inside.body.wide
    new forgets

pub disown-requires : goal.disown-requires
disown-requires c =
    let i = c.self.inside in
    let seat = gone_seat (goal.at.disown-requires c).After-replace-gone in
    rw (c.deref.ensures.value, c.deref_mut.ensures.value, c.self.invariant.0.own.counted) (members_there (length i.body.state.items) c.replace-gone.result seat.below)

pub unlist-requires : goal.unlist-requires
unlist-requires c =
    let i = c.self.inside in
    rw (c.deref-2.ensures.value, c.self.invariant.0.runs.readers_counted)
    (reads_there i.body.parts.items i.body.agenda.marks i.body.agenda.waiting (length i.body.state.items) i.body.readers i.body.owners.items i.body.uses.numbers i.body.held i.body.most
    (rooms i.body.workspace) c.self.invariant.0 c.args.k c.replace-gone.result (gone_stands (goal.at.unlist-requires c).After-replace-gone))

pub invariant_of-self : goal.invariant_of-self
invariant_of-self c =
    let i = c.self.inside in (
      c.self.invariant.0,
      c.self.invariant.1,
      AreLastTexts-same i.body.parts.items i.body.uses.numbers (length i.body.state.items) (length i.body.uses.known) i.body.last_texts c.self.invariant.2 i.body.uses.numbers
          c.note.new.self (λ k. refl) (ap (λ (list : Vec (Option ℕ) Global). list.items) c.note.ensures.numbers) c.in_err-note.ensures.err,
      c.self.invariant.3,
      c.self.invariant.4,
    )

pub invariant_of-self-2 : goal.invariant_of-self-2
invariant_of-self-2 c =
    let i = c.self.inside in
    let k = c.args.k in
    let gone = c.replace-gone.result in
    let was = (goal.at.invariant_of-self-2 c).After-replace-gone in
    let read = gone_read was in
    let stands = gone_stands was in
    let seat = gone_seat was in
    let inside = stands.inside in
    let e = c.replace-gone.new.dest in
    let vacant : IsVacant e = subst IsVacant (sym c.replace-gone.ensures.after) c.no_part.ensures in
    let owners = with_items_is i.body.owners c.disown.new.owners (omega (arith, c.disown.auto.owners, c.deref_mut.ensures.len)) in
    let disowns : Disowns (take gone.members gone.map.items) i.body.owners.items c.disown.new.owners =
    subst (λ list. Disowns (take gone.members list) i.body.owners.items c.disown.new.owners) c.deref.ensures.value
    (subst (λ list. Disowns (take gone.members c.deref.result.now) list c.disown.new.owners) c.deref_mut.ensures.value c.disown.ensures) in
    let unlists : Unlists k gone.reads.items i.body.readers c.unlist.new.self =
    subst (λ list. Unlists k list i.body.readers c.unlist.new.self) c.deref-2.ensures.value c.unlist.ensures in
    let some : gone.members ≤ sum_by members_of i.body.parts.items =
    subst (λ (part : MachinePart). part.members ≤ sum_by members_of i.body.parts.items) (sym read) (get_or-le-sum_by members_of i.body.parts.items k gone inside) in
    let one : one_of gone ≤ count_by has_members i.body.parts.items =
    subst (λ (part : MachinePart). one_of part ≤ count_by has_members i.body.parts.items) (sym read) (get_or-le-sum_by one_of i.body.parts.items k gone inside) in
    let held : i.body.held - c.count_one.result + one_of gone ≡ i.body.held = omega (arith, one, c.count_one.ensures, c.self.invariant.0.number) in
    let most : i.body.most - gone.members + gone.members ≡ i.body.most = omega (arith, some, c.self.invariant.0.most_members) in
    let dense : AreDense (slice_set i.body.parts.items k e) c.clear.new.self = c.clear.ensures i.body.parts.items e vacant.code c.self.invariant.1 in
    let noted : c.note.new.self.changed.items ≡ i.body.last_texts.changed.items ++ starts_of gone =
    c.in_ok-note.ensures.ok ∙ ap (λ part. i.body.last_texts.changed.items ++ starts_of part)
    (c.index.ensures ∙ get_or_default i.body.parts.items k c.index.result.now gone inside ∙ sym read) in
    let last_texts = AreLastTexts-vacated i.body.parts.items i.body.uses.numbers (length i.body.state.items) (length i.body.uses.known) i.body.last_texts c.self.invariant.2 k
    gone stands seat.below e vacant c.note.new.self c.note.ensures.numbers noted in (
      rw (owners, c.release.ensures.marks, c.release.ensures.waiting, c.free.ensures.numbers)
          (IsMachine-vacated i.body.parts.items i.body.agenda.marks i.body.agenda.waiting (length i.body.state.items) i.body.readers i.body.owners.items i.body.uses.numbers i.body.held i.body.most
          (rooms i.body.workspace) c.self.invariant.0 k gone stands e vacant c.unlist.new.self c.disown.new.owners disowns unlists _ _ held most),
      dense,
      rw (c.free.ensures.numbers, c.free.ensures.known) last_texts,
      holds_kept i.body.parts.items (slice_set i.body.parts.items k e) i.body.state.items (vec_capacity i.body.noted) i.body.wide c.forget_with.new.wide
          (kept_known was e vacant c.forget_with.new.wide (forgot_in (goal.at.invariant_of-self-2 c).After-forget_with)) c.self.invariant.3,
      tt,
    )

pub returns-clause-ok : goal.returns-clause-ok
returns-clause-ok c =
    let i = c.self.inside in
    let e = c.replace-gone.new.dest in
    let vacant : IsVacant e = subst IsVacant (sym c.replace-gone.ensures.after) c.no_part.ensures in
    rw (← c.self.view_is) (record {
      part = e;
      none = vacant;
      parts = refl;
      uses = texts_freed i.body.uses c.free.new.self c.args.k c.free.ensures.known c.free.ensures.numbers;
      marks = c.release.ensures.marks;
      rest = record {
        groups = refl;
        state = refl;
        last =
            ap (λ known. texts_of_last known c.note.new.self) c.free.ensures.known
            ∙ ap (λ (list : Vec (Option ℕ) Global). texts_numbered i.body.uses.known list.items) c.note.ensures.numbers;
        moves = refl;
        placed = refl;
        spare = refl;
      };
      wide = kept_known (goal.at.returns-clause-ok c).After-replace-gone e vacant c.forget_with.new.wide (forgot_in (goal.at.returns-clause-ok c).After-forget_with);
    })
