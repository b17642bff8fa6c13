-- Where one part more begins is noted.
use Rattle.std.proofs.Common.{◌≡◌, ℕ, ◌<◌, ◌≤◌, ◌++◌, List, take, length, get_or, sym, subst, ◌∙◌, arith}
use Rattle.std.specs.Prelude.{Contains, slice_index_or}
use Rattle.std.proofs.lemmas.List.{take_all}
use Rattle.machine_parts.specs.declared.part.MachinePart.{MachinePart}
use Rattle.machine_parts.specs.Parts.{Stands}
use Rattle.unit_step.specs.LastTexts.{starts_of}
use Rattle.unit_step.proofs.LastTextsLemmas.{noted-stays, noted-only, noted-all}
use Rattle.unit_step.proofs.last_texts.LastTexts.note_all.Goals as goal

pub returns-in_err-note-clause-stays : goal.returns-in_err-note-clause-stays
returns-in_err-note-clause-stays c = λ node there.
    subst (λ xs. Contains xs node) (sym c.in_err-note.ensures.err) (c.loop-k.invariant.stays node there)

pub returns-in_err-note-clause-only : goal.returns-in_err-note-clause-only
returns-in_err-note-clause-only c = λ node there.
    c.loop-k.invariant.only node (subst (λ xs. Contains xs node) c.in_err-note.ensures.err there)

-- the part with this number stands, and has its members in its map
part_stands : (parts : List MachinePart) (k : ℕ) (part : MachinePart) → k < length parts → part ≡ slice_index_or parts k part → Stands parts k part
part_stands parts k part inside is = record { inside = inside; here = sym is }

pub loop-k-preserved : goal.loop-k-preserved
loop-k-preserved c =
    let parts = c.args.parts.now in
    let slots = c.args.slots.now in
    let i = c.loop-k.k-index in
    let k = get_or slots i 0 in
    let part = c.index-parts-k.result in
    let within : k < length parts = c.requires.inside i 0 c.loop-k-test.true in
    let stands : Stands parts k part = part_stands parts k part within c.index-parts-k.is in
    let few : part.members ≤ length part.map.items =
    subst (λ (one : MachinePart). one.members ≤ length one.map.items) (sym c.index-parts-k.is) (c.requires.members k part within) in
    let old = c.loop-k.self.changed.items in
    let new = c.note.new.self.changed.items in
    let noted : new ≡ old ++ starts_of part = c.in_ok-note.ensures.ok in
    record {
      numbers = c.note.ensures.numbers ∙ c.loop-k.invariant.numbers;
      stays = λ node there.
          noted-stays parts slots i k c.loop-k-test.true (λ j. k) part stands few old new noted node (c.loop-k.invariant.stays node there);
      only =
          noted-only parts slots i k c.loop-k-test.true (λ j. k) part stands few old new noted (Contains c.args.self.now.changed.items) c.loop-k.invariant.only;
      all = noted-all parts slots i k c.loop-k-test.true (λ j. k) part stands few old new noted c.loop-k.invariant.all;
    }

pub returns-clause-all : goal.returns-clause-all
returns-clause-all c = λ k node there begins.
    let all : take c.loop-k.k-index c.args.slots.now ≡ c.args.slots.now = take_all c.loop-k.k-index c.args.slots.now (omega (arith, c.loop-k-test.false)) in
    c.loop-k.invariant.all k node (subst (λ xs. Contains xs k) (sym all) there) begins
