-- The stale parts get their texts, and some of them their codes.
use Rattle.std.proofs.Common.{◌≡◌, ℕ, ◌<◌, ◌⊎◌, Bool, List, length, map, All, Some, refl, sym, ap, subst, ◌∙◌, arith}
use Rattle.std.specs.Prelude.{◌↔◌, Contains, slice_get, vec_capacity}
use Rattle.std.specs.Vec.{with_items}
use Rattle.std.proofs.lemmas.List.{length-map, with_items_is}
use Rattle.std.proofs.lemmas.List.Elements.{All-weaker}
use Rattle.smallvec.specs.SmallVec.{SmallVec}
use Rattle.switch_paths.specs.Graphs.{GraphData}
use Rattle.group_meaning.specs.Groups.{Group}
use Rattle.group_text.specs.Texts.{GroupTextData, text_of_group}
use Rattle.kept_parts.specs.Uses.{texts_used, count_distinct}
use Rattle.machine_parts.specs.declared.part.MachinePart.{MachinePart}
use Rattle.unit_step.specs.declared.last_texts.LastTexts.{LastTexts}
use Rattle.unit_step.specs.contracts.machine.Machine.{the_view}
use Rattle.machine_laws.specs.Machines.{MachineData}
use Rattle.machine_parts.specs.Making.{IsCodeRoom}
use Rattle.part_steps.specs.Workspaces.{rooms}
use Rattle.machine_parts.specs.Running.{IsMachine}
use Rattle.machine_laws.specs.Fitting.{Covers}
use Rattle.unit_step.specs.Waking.{AreMade, IsRisen, Wakes}
use Rattle.machine_parts.specs.Putting.{Puts}
use Rattle.machine_parts.specs.Marking.{AreOnce, IsMarked}
use Rattle.machine_parts.specs.Readers.{ListsAll, HaveSameReaders}
use Rattle.part_steps.specs.Dense.{AreDense, AreSeatsOf}
use Rattle.machine_laws.specs.Beginnings.{BeginsAt}
use Rattle.unit_step.specs.LastTexts.{AreLastTexts, texts_of_last}
use Rattle.unit_step.proofs.LastTextsReadied.{AreLastTexts-numbered, AreLastTexts-noted, AreLastTexts-readied, texts_of_last-numbered, same_texts_left}
use Rattle.machine_laws.proofs.FillingLemmas.{on_err}
use Rattle.unit_step.proofs.FinishingReadied.{coded_below, unlisted, known_inside, IsMachine-readied, Wakes-readied}
use Rattle.machine_laws.proofs.StayingParts.{IsMachine-wider, stale_only_readied}
use Rattle.machine_parts.proofs.MachineLemmas.{HaveSameReaders-refl}
use Rattle.unit_step.proofs.machine.Machine.make_ready.Goals.{In-Some, After-numbers_of, In_ok-numbers, After-widen_for_codes, In_ok-seats, After-note_all, After-make_ready}
use Rattle.wide_groups.specs.Moving.{HasStaleOnly}
use Rattle.wide_groups.proofs.StayingLemmas.{holds_parts}
use Rattle.unit_step.proofs.machine.Machine.make_ready.Goals as goal

-- the machine covers the graph
covers_in : (c : In-Some) → Covers c.args.graph.now (the_view c.self.inside)
covers_in c = subst (Covers c.args.graph.now) (sym c.self.view_is) c.requires.covers

-- what the parts that wait become
risen_in : (c : In-Some) → IsRisen c.args.graph.now (the_view c.self.inside) c.args.risen
risen_in c = subst (λ (m : MachineData). IsRisen c.args.graph.now m c.args.risen) (sym c.self.view_is) c.requires.risen

-- they are parts of the groups that wait
parts_made : (c : In-Some) → AreMade c.args.graph.now (risen_in c).some c.args.risen.slots.items c.self.inside.body.parts.items c.args.risen.parts.items
    (length c.self.inside.body.state.items)
parts_made c =
    subst (AreMade c.args.graph.now (risen_in c).some c.args.risen.slots.items c.self.inside.body.parts.items c.args.risen.parts.items)
    (sym (covers_in c).counted) (risen_in c).made

-- the texts of the last build are known under more numbers
last_texts_numbered : (c : After-numbers_of) → AreLastTexts c.self.inside.body.parts.items c.numbers_of.new.uses.numbers (length c.self.inside.body.state.items)
    (length c.numbers_of.new.uses.known) c.self.inside.body.last_texts
last_texts_numbered c =
    let i = c.self.inside in
    AreLastTexts-numbered i.body.parts.items i.body.uses c.numbers_of.new.uses (length i.body.state.items) i.body.last_texts c.numbers_of.ensures.numbered c.self.invariant.2

-- a machine that only has more numbers, and noted some nodes, is as before
left_as : (c : After-numbers_of) (noted : LastTexts) → noted.numbers ≡ c.self.inside.body.last_texts.numbers →
    record (the_view c.self.inside) {
      uses = texts_used c.numbers_of.new.uses;
      texts = count_distinct (texts_used c.numbers_of.new.uses);
      last = texts_of_last c.numbers_of.new.uses.known noted;
    } ≡ c.args.self.now
left_as c noted numbers_are =
    let i = c.self.inside in
    let uses = c.numbers_of.new.uses in
    let last_is = texts_of_last-numbered i.body.uses uses uses.known i.body.last_texts noted c.numbers_of.ensures.numbered refl numbers_are c.self.invariant.2.inside in
    same_texts_left (the_view i) (texts_used uses) (texts_of_last uses.known noted) c.numbers_of.ensures.same last_is ∙ c.self.view_is

-- each text has its number
texts_numbered : (c : In_ok-numbers) → map (slice_get c.numbers_of.new.uses.known) c.in_ok-numbers.numbers.items ≡ map Some c.args.risen.texts.items
texts_numbered c = c.in_ok-numbers.ensures.numbers ∙ ap (map Some) c.deref-2.ensures.value

-- so there is a number for each slot
numbers_counted : (g : GraphData) (known texts : List GroupTextData) (some : List Group) (slots numbers : List ℕ) →
    map (slice_get known) numbers ≡ map Some texts → texts ≡ map (text_of_group g) some → length some ≡ length slots → length numbers ≡ length slots
numbers_counted g known texts some slots numbers numbered texts_are long =
    omega (
      arith,
      ap length numbered,
      length-map numbers (slice_get known),
      length-map texts Some,
      ap length texts_are,
      length-map some (text_of_group g),
      long,
    )

-- the machine with more room, and lists of the same readers
machine_wider : (c : After-widen_for_codes) (lists : List (SmallVec ℕ)) → HaveSameReaders c.self.inside.body.readers lists →
    IsMachine c.self.inside.body.parts.items c.self.inside.body.agenda.marks c.self.inside.body.agenda.waiting (length c.self.inside.body.state.items) lists
    c.self.inside.body.owners.items c.numbers_of.new.uses.numbers c.self.inside.body.held c.self.inside.body.most
    (rooms c.widen_for_codes.new.workspace)
machine_wider c lists same =
    let i = c.self.inside in
    IsMachine-wider i.body.parts.items i.body.agenda.marks i.body.agenda.waiting (length i.body.state.items) i.body.readers lists i.body.owners.items i.body.uses.numbers
    c.numbers_of.new.uses.numbers i.body.held i.body.most (rooms i.body.workspace) (rooms c.widen_for_codes.new.workspace) (omega (arith, c.widen_for_codes.ensures.more_values))
    c.widen_for_codes.ensures.changes c.widen_for_codes.ensures.done c.numbers_of.ensures.numbered.numbers same c.self.invariant.0

-- the seats are those of the fresh parts
seats_of_fresh : (c : In_ok-seats) → AreSeatsOf c.args.risen.parts.items c.seats_for.new.self.codes.items c.seats_for.new.self.nodes.items c.in_ok-seats.seats.items
seats_of_fresh c =
    subst (λ (list : List MachinePart). AreSeatsOf list c.seats_for.new.self.codes.items c.seats_for.new.self.nodes.items c.in_ok-seats.seats.items)
    c.deref-3.ensures.value c.in_ok-seats.ensures.seats

-- where nodes are noted, the texts of the last build stay known
last_texts_noted : (c : After-note_all) →
    AreLastTexts c.self.inside.body.parts.items c.numbers_of.new.uses.numbers (length c.self.inside.body.state.items)
    (length c.numbers_of.new.uses.known) c.note_all.new.self
last_texts_noted c =
    let i = c.self.inside in
    let slots = c.deref-5.result.now in
    let only = subst (λ parts. (node : ℕ) → Contains c.note_all.new.self.changed.items node →
    Contains i.body.last_texts.changed.items node ⊎ ((k : ℕ) × Contains slots k × BeginsAt parts k node)) c.deref-6.ensures.value c.note_all.ensures.only in
    let more = AreLastTexts-numbered i.body.parts.items i.body.uses c.numbers_of.new.uses (length i.body.state.items) i.body.last_texts c.numbers_of.ensures.numbered c.self.invariant.2 in
    AreLastTexts-noted i.body.parts.items c.numbers_of.new.uses.numbers (length i.body.state.items) (length c.numbers_of.new.uses.known) (rooms i.body.workspace)
    c.self.invariant.0.runs.seated slots i.body.last_texts c.note_all.new.self c.note_all.ensures.numbers c.note_all.ensures.stays only more

pub invariant_of-self : goal.invariant_of-self
invariant_of-self c =
    let i = c.self.inside in (
      IsMachine-wider i.body.parts.items i.body.agenda.marks i.body.agenda.waiting _ i.body.readers i.body.readers i.body.owners.items i.body.uses.numbers c.numbers_of.new.uses.numbers
          i.body.held i.body.most (rooms i.body.workspace) (rooms i.body.workspace) (omega arith) refl refl c.numbers_of.ensures.numbered.numbers (HaveSameReaders-refl i.body.readers)
          c.self.invariant.0,
      c.self.invariant.1,
      last_texts_numbered (goal.at.invariant_of-self c).After-numbers_of,
      c.self.invariant.3,
      c.self.invariant.4,
    )

pub returns-in_err-numbers-clause-err : goal.returns-in_err-numbers-clause-err
returns-in_err-numbers-clause-err c =
    on_err c.from_residual.result (left_as (goal.at.returns-in_err-numbers-clause-err c).After-numbers_of c.self.inside.body.last_texts refl)

pub invariant_of-self-in_err-widen_for_codes : goal.invariant_of-self-in_err-widen_for_codes
invariant_of-self-in_err-widen_for_codes c =
    let i = c.self.inside in (
      machine_wider (goal.at.invariant_of-self-in_err-widen_for_codes c).After-widen_for_codes i.body.readers (HaveSameReaders-refl i.body.readers),
      c.self.invariant.1,
      last_texts_numbered (goal.at.invariant_of-self-in_err-widen_for_codes c).After-numbers_of,
      c.self.invariant.3,
      c.self.invariant.4,
    )

pub returns-in_err-widen_for_codes-clause-err : goal.returns-in_err-widen_for_codes-clause-err
returns-in_err-widen_for_codes-clause-err c =
    on_err c.from_residual-in_err-widen_for_codes.result (left_as (goal.at.returns-in_err-widen_for_codes-clause-err c).After-numbers_of c.self.inside.body.last_texts refl)

pub invariant_of-self-in_err-seats : goal.invariant_of-self-in_err-seats
invariant_of-self-in_err-seats c =
    let i = c.self.inside in (
      machine_wider (goal.at.invariant_of-self-in_err-seats c).After-widen_for_codes i.body.readers (HaveSameReaders-refl i.body.readers),
      c.seats_for.ensures.same i.body.parts.items c.self.invariant.1,
      last_texts_numbered (goal.at.invariant_of-self-in_err-seats c).After-numbers_of,
      c.self.invariant.3,
      c.self.invariant.4,
    )

pub returns-in_err-seats-clause-err : goal.returns-in_err-seats-clause-err
returns-in_err-seats-clause-err c =
    on_err c.from_residual-in_err-seats.result
    (left_as (goal.at.returns-in_err-seats-clause-err c).After-numbers_of c.self.inside.body.last_texts refl)

pub seats_for-requires-clause-inputs : goal.seats_for-requires-clause-inputs
seats_for-requires-clause-inputs c =
    let made = parts_made (goal.at.seats_for-requires-clause-inputs c).In-Some in
    rw c.deref-3.ensures.value (λ k d inside code has. (made.formed k d inside).inputs code has)

pub seats_for-requires-clause-numbered : goal.seats_for-requires-clause-numbered
seats_for-requires-clause-numbered c =
    let found = (goal.at.seats_for-requires-clause-numbered c).In-Some in
    let risen = risen_in found in
    let made = parts_made found in
    let long = numbers_counted c.args.graph.now c.numbers_of.new.uses.known c.args.risen.texts.items risen.some c.args.risen.slots.items c.in_ok-numbers.numbers.items
    (texts_numbered (goal.at.seats_for-requires-clause-numbered c).In_ok-numbers) risen.texts made.long in
    omega (arith, ap length c.deref-3.ensures.value, ap length c.deref-4.ensures.value, long, made.counted)

pub note_all-requires-clause-inside : goal.note_all-requires-clause-inside
note_all-requires-clause-inside c =
    let made = parts_made (goal.at.note_all-requires-clause-inside c).In-Some in
    rw (c.deref-5.ensures.value, c.deref-6.ensures.value) made.inside

pub invariant_of-self-in_err-note_all : goal.invariant_of-self-in_err-note_all
invariant_of-self-in_err-note_all c =
    let i = c.self.inside in (
      machine_wider (goal.at.invariant_of-self-in_err-note_all c).After-widen_for_codes i.body.readers (HaveSameReaders-refl i.body.readers),
      c.seats_for.ensures.same i.body.parts.items c.self.invariant.1,
      last_texts_noted (goal.at.invariant_of-self-in_err-note_all c).After-note_all,
      c.self.invariant.3,
      c.self.invariant.4,
    )

pub returns-in_err-note_all-clause-err : goal.returns-in_err-note_all-clause-err
returns-in_err-note_all-clause-err c =
    on_err c.from_residual-in_err-note_all.result
    (left_as (goal.at.returns-in_err-note_all-clause-err c).After-numbers_of c.note_all.new.self c.note_all.ensures.numbers)

pub list_all-requires-clause-counted : goal.list_all-requires-clause-counted
list_all-requires-clause-counted c =
    let made = parts_made (goal.at.list_all-requires-clause-counted c).In-Some in
    omega (arith, ap length c.deref-8.ensures.value, ap length c.deref-7.ensures.value, made.counted)

pub list_all-requires-clause-below : goal.list_all-requires-clause-below
list_all-requires-clause-below c =
    let fresh = c.args.risen.parts.items in
    let made = parts_made (goal.at.list_all-requires-clause-below c).In-Some in
    rw c.deref-8.ensures.value
    (subst (λ n. All (λ (part : MachinePart). All (λ node. node < n) part.reads.items) fresh)
    (sym c.self.invariant.0.runs.readers_counted) made.below)

pub list_all-requires-clause-once : goal.list_all-requires-clause-once
list_all-requires-clause-once c =
    rw c.deref-7.ensures.value (risen_in (goal.at.list_all-requires-clause-once c).In-Some).waiting.once

pub list_all-requires-clause-unlisted : goal.list_all-requires-clause-unlisted
list_all-requires-clause-unlisted c =
    let found = (goal.at.list_all-requires-clause-unlisted c).In-Some in
    let i = c.self.inside in
    let risen = risen_in found in
    rw c.deref-7.ensures.value
    (unlisted c.args.graph.now (the_view i) (covers_in found) risen.groups risen.some c.args.risen.slots.items risen.waiting i.body.readers
    c.self.invariant.0.runs.reads)

pub invariant_of-self-in_err-list_all : goal.invariant_of-self-in_err-list_all
invariant_of-self-in_err-list_all c =
    let i = c.self.inside in (
      machine_wider (goal.at.invariant_of-self-in_err-list_all c).After-widen_for_codes c.list_all.new.self c.in_err-list_all.ensures.err,
      c.seats_for.ensures.same i.body.parts.items c.self.invariant.1,
      last_texts_noted (goal.at.invariant_of-self-in_err-list_all c).After-note_all,
      c.self.invariant.3,
      c.self.invariant.4,
    )

pub returns-in_err-list_all-clause-err : goal.returns-in_err-list_all-clause-err
returns-in_err-list_all-clause-err c =
    on_err c.from_residual-in_err-list_all.result
    (left_as (goal.at.returns-in_err-list_all-clause-err c).After-numbers_of c.note_all.new.self c.note_all.ensures.numbers)

pub put_texts-requires-clause-inside : goal.put_texts-requires-clause-inside
put_texts-requires-clause-inside c =
    let made = parts_made (goal.at.put_texts-requires-clause-inside c).In-Some in
    rw c.deref-10.ensures.value
    (λ k d inside. omega (arith, made.inside k d inside, c.self.invariant.0.numbered, ap length c.numbers_of.ensures.numbered.numbers))

pub put_texts-requires-clause-counted : goal.put_texts-requires-clause-counted
put_texts-requires-clause-counted c =
    let found = (goal.at.put_texts-requires-clause-counted c).In-Some in
    let risen = risen_in found in
    let made = parts_made found in
    let long = numbers_counted c.args.graph.now c.numbers_of.new.uses.known c.args.risen.texts.items risen.some c.args.risen.slots.items c.in_ok-numbers.numbers.items
    (texts_numbered (goal.at.put_texts-requires-clause-counted c).In_ok-numbers) risen.texts made.long in
    omega (arith, ap length c.deref-11.ensures.value, ap length c.deref-10.ensures.value, long)

pub put_texts-requires-clause-known : goal.put_texts-requires-clause-known
put_texts-requires-clause-known c =
    let numbers = c.in_ok-numbers.numbers.items in
    let texts = c.args.risen.texts.items in
    let numbered = texts_numbered (goal.at.put_texts-requires-clause-known c).In_ok-numbers in
    rw c.deref-11.ensures.value (known_inside c.numbers_of.new.uses.known numbers texts numbered)

pub put_all-requires-clause-inside : goal.put_all-requires-clause-inside
put_all-requires-clause-inside c =
    let i = c.self.inside in
    let made = parts_made (goal.at.put_all-requires-clause-inside c).In-Some in
    let old_seats = c.seats_for.ensures.same i.body.parts.items c.self.invariant.1 in
    rw c.deref-12.ensures.value (λ k d inside. omega (arith, made.inside k d inside, old_seats.seats.counted))

pub put_all-requires-clause-counted : goal.put_all-requires-clause-counted
put_all-requires-clause-counted c =
    let made = parts_made (goal.at.put_all-requires-clause-counted c).In-Some in
    let fresh_seats = seats_of_fresh (goal.at.put_all-requires-clause-counted c).In_ok-seats in
    omega (arith, ap length c.deref-12.ensures.value, made.counted, fresh_seats.counted)

pub put_in-requires-clause-inside : goal.put_in-requires-clause-inside
put_in-requires-clause-inside c =
    let made = parts_made (goal.at.put_in-requires-clause-inside c).In-Some in
    rw (c.deref-13.ensures.value, c.deref_mut.ensures.value) made.inside

pub put_in-requires-clause-counted : goal.put_in-requires-clause-counted
put_in-requires-clause-counted c =
    let made = parts_made (goal.at.put_in-requires-clause-counted c).In-Some in
    omega (arith, ap length c.deref-13.ensures.value, made.counted)

-- all but the parts that got their codes wait still
released : (c : After-make_ready) → (k : ℕ) → IsMarked c.make_ready.new.self.waiting k ↔ (IsMarked c.self.inside.body.agenda.waiting k × (¬ Contains c.args.risen.coded.items k))
released c = rw c.deref-14.ensures.value at c.make_ready.ensures.waiting

pub make_ready-requires : goal.make_ready-requires
make_ready-requires c =
    let below : All (λ k. k < length c.self.inside.body.parts.items) c.args.risen.coded.items =
    coded_below c.args.graph.now (the_view c.self.inside) c.args.risen (risen_in (goal.at.make_ready-requires c).In-Some) in
    rw c.deref-14.ensures.value (λ i d within. omega (arith, below i d within, c.self.invariant.0.runs.counted))

pub invariant_of-self-2 : goal.invariant_of-self-2
invariant_of-self-2 c =
    let g = c.args.graph.now in
    let i = c.self.inside in
    let found = (goal.at.invariant_of-self-2 c).In-Some in
    let covers = covers_in found in
    let risen = risen_in found in
    let slots = c.args.risen.slots.items in
    let fresh = c.args.risen.parts.items in
    let made = parts_made found in
    let numbers = c.in_ok-numbers.numbers.items in
    let numbered = texts_numbered (goal.at.invariant_of-self-2 c).In_ok-numbers in
    let new = c.put_in.new.all in
    let puts : Puts slots fresh i.body.parts.items new = rw (c.deref-13.ensures.value, c.deref_mut.ensures.value) at c.put_in.ensures in
    let text_puts : Puts slots (map Some numbers) c.numbers_of.new.uses.numbers c.put_texts.new.uses.numbers =
    rw (c.deref-10.ensures.value, c.deref-11.ensures.value) at c.put_texts.ensures.puts in
    let parts_now : List MachinePart = (with_items i.body.parts new).items in
    let final_parts = with_items_is i.body.parts new (omega (arith, c.put_in.auto.all, c.deref_mut.ensures.len)) in
    let lists_now = c.list_all.new.self in
    let listed : ListsAll slots fresh i.body.readers lists_now = rw (c.deref-7.ensures.value, c.deref-8.ensures.value) at c.in_ok-list_all.ensures.ok in
    let wide = rooms c.widen_for_codes.new.workspace in
    let values_room : All (IsCodeRoom wide.values) fresh =
    All-weaker (IsCodeRoom c.in-Some.needs.values) (IsCodeRoom wide.values)
    (λ part room code has. omega (arith, room code has, c.in_ok-widen_for_codes.ensures.values)) fresh
    (subst (All (IsCodeRoom c.in-Some.needs.values)) c.deref.ensures.value c.in-Some.ensures.values) in
    let base = IsMachine-readied g (the_view i) covers risen.groups risen.some slots risen.waiting fresh new (length i.body.state.items) made puts
    i.body.readers lists_now i.body.agenda.marks i.body.agenda.waiting c.make_ready.new.self.waiting i.body.owners.items i.body.uses.numbers c.put_texts.new.uses.numbers
    i.body.held i.body.most (rooms i.body.workspace) wide listed values_room (omega (arith, c.widen_for_codes.ensures.more_values))
    c.widen_for_codes.ensures.changes c.widen_for_codes.ensures.done c.args.risen.coded.items risen.coded (released (goal.at.invariant_of-self-2 c).After-make_ready) (text_puts.count ∙ ap length c.numbers_of.ensures.numbered.numbers) c.self.invariant.0 in
    let with_parts = subst (λ (list : List MachinePart). IsMachine list i.body.agenda.marks c.make_ready.new.self.waiting (length i.body.state.items) lists_now i.body.owners.items
    c.put_texts.new.uses.numbers i.body.held i.body.most wide) (sym final_parts) base in
    let old_seats = c.seats_for.ensures.same i.body.parts.items c.self.invariant.1 in
    let fresh_seats = seats_of_fresh (goal.at.invariant_of-self-2 c).In_ok-seats in
    let once : AreOnce c.deref-12.result.now = subst AreOnce (sym c.deref-12.ensures.value) risen.waiting.once in
    let seat_puts = subst (λ (list : List ℕ). Puts list fresh i.body.parts.items new) (sym c.deref-12.ensures.value) puts in
    let put_dense : AreDense new c.put_all.new.self = c.put_all.ensures fresh i.body.parts.items new once fresh_seats seat_puts old_seats in
    let dense = subst (λ (list : List MachinePart). AreDense list c.put_all.new.self) (sym final_parts) put_dense in
    let known = length c.numbers_of.new.uses.known in
    let are_noted = last_texts_noted (goal.at.invariant_of-self-2 c).After-note_all in
    let noted : (k node : ℕ) → Contains slots k → BeginsAt i.body.parts.items k node → Contains c.note_all.new.self.changed.items node =
    rw (c.deref-5.ensures.value, c.deref-6.ensures.value) at c.in_ok-note_all.ensures.all in
    let are_last_texts = AreLastTexts-readied g (the_view i) covers risen.groups risen.some slots risen.waiting fresh made.fresh_are new puts
    c.numbers_of.new.uses.numbers c.put_texts.new.uses.numbers (map Some numbers) text_puts (length i.body.state.items) known c.note_all.new.self are_noted noted made.inside in
    let uses = c.put_texts.new.uses in
    let count = length i.body.state.items in
    let last_texts_known = subst (λ (list : List GroupTextData). AreLastTexts new uses.numbers count (length list) c.note_all.new.self)
    (sym c.put_texts.ensures.known) are_last_texts in
    let last_texts = subst (λ (list : List MachinePart). AreLastTexts list uses.numbers count (length uses.known) c.note_all.new.self)
    (sym final_parts) last_texts_known in (
      subst (λ (marks : List Bool). IsMachine parts_now marks c.make_ready.new.self.waiting (length i.body.state.items) lists_now i.body.owners.items c.put_texts.new.uses.numbers i.body.held i.body.most wide)
          (sym c.make_ready.ensures.marks) with_parts,
      dense,
      last_texts,
      holds_parts i.body.parts.items parts_now i.body.state.items (vec_capacity i.body.noted) i.body.wide
          (λ one is.
          subst (λ list. HasStaleOnly list one.graph) (sym final_parts)
          (stale_only_readied g (the_view i) covers risen.groups risen.some slots risen.waiting fresh made.fresh_are new puts
          c.args.risen.coded.items risen.coded risen.free one is))
          c.self.invariant.3,
      tt,
    )

pub returns-clause-wakes : goal.returns-clause-wakes
returns-clause-wakes c =
    let g = c.args.graph.now in
    let i = c.self.inside in
    let found = (goal.at.returns-clause-wakes c).In-Some in
    let covers = covers_in found in
    let risen = risen_in found in
    let slots = c.args.risen.slots.items in
    let fresh = c.args.risen.parts.items in
    let made = parts_made found in
    let numbers = c.in_ok-numbers.numbers.items in
    let texts = c.args.risen.texts.items in
    let numbered = texts_numbered (goal.at.returns-clause-wakes c).In_ok-numbers in
    let new = c.put_in.new.all in
    let puts : Puts slots fresh i.body.parts.items new = rw (c.deref-13.ensures.value, c.deref_mut.ensures.value) at c.put_in.ensures in
    let text_puts : Puts slots (map Some numbers) c.numbers_of.new.uses.numbers c.put_texts.new.uses.numbers =
    rw (c.deref-10.ensures.value, c.deref-11.ensures.value) at c.put_texts.ensures.puts in
    let parts_now : List MachinePart = (with_items i.body.parts new).items in
    let final_parts = with_items_is i.body.parts new (omega (arith, c.put_in.auto.all, c.deref_mut.ensures.len)) in
    let v = the_view i in
    let mid_are : texts_used c.numbers_of.new.uses ≡ v.uses = c.numbers_of.ensures.same in
    let base = Wakes-readied g v covers risen.groups risen.some slots risen.waiting fresh new (length i.body.state.items) made puts
    c.numbers_of.new.uses c.put_texts.new.uses numbers texts mid_are c.put_texts.ensures.known text_puts numbered risen.texts risen.fit
    c.args.risen.coded.items risen.coded risen.free in
    let used = texts_used c.put_texts.new.uses in
    let last = texts_of_last c.put_texts.new.uses.known c.note_all.new.self in
    let last_is : last ≡ v.last =
    texts_of_last-numbered i.body.uses c.numbers_of.new.uses c.put_texts.new.uses.known i.body.last_texts c.note_all.new.self c.numbers_of.ensures.numbered
    c.put_texts.ensures.known c.note_all.ensures.numbers c.self.invariant.2.inside in
    let machine : List MachinePart → List Bool → List GroupTextData → MachineData = λ list marks texts_left.
    record v { parts = list; uses = used; marks = marks; texts = count_distinct used; last = texts_left } in
    let with_parts = subst (λ (list : List MachinePart). Wakes g c.args.risen.coded.items v (machine list i.body.agenda.marks v.last)) (sym final_parts) base in
    let with_marks = subst (λ (marks : List Bool). Wakes g c.args.risen.coded.items v (machine parts_now marks v.last)) (sym c.make_ready.ensures.marks) with_parts in
    let with_last = subst (λ (texts_left : List GroupTextData). Wakes g c.args.risen.coded.items v (machine parts_now c.make_ready.new.self.marks texts_left)) (sym last_is) with_marks in
    subst (λ (old : MachineData). Wakes g c.args.risen.coded.items old (machine parts_now c.make_ready.new.self.marks last)) c.self.view_is with_last
