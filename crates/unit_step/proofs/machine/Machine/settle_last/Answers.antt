-- The texts that are gone were used, what is past the bound was cut, and the present texts are those of the last build from now on.
use Rattle.std.proofs.Common.{◌≡◌, ℕ, ◌≤◌, Bool, true, List, [], Option, None, All, length, sym, ap, subst, ◌∙◌}
use Rattle.std.specs.Prelude.{slice_index_or}
use Rattle.smallvec.specs.SmallVec.{SmallVec}
use Rattle.group_text.specs.Texts.{GroupTextData}
use Rattle.group_text.specs.FirstTexts.{is_among}
use Rattle.analysis_cache.specs.Keeping.{texts_of}
use Rattle.kept_parts.specs.Uses.{AreSame, UsesData, some_texts, texts_used}
use Rattle.machine_parts.specs.declared.part.MachinePart.{MachinePart}
use Rattle.unit_step.specs.declared.last_texts.LastTexts.{LastTexts}
use Rattle.machine_parts.specs.Parts.{Stands, AreApart}
use Rattle.machine_laws.specs.Machines.{MachineData}
use Rattle.machine_parts.specs.Evaluating.{Rooms}
use Rattle.part_steps.specs.Workspaces.{rooms}
use Rattle.machine_parts.specs.Running.{IsMachine}
use Rattle.machine_laws.specs.Beginnings.{AreInOrder}
use Rattle.unit_step.specs.LastTexts.{AreLastTexts, IsLeft, texts_of_last}
use Rattle.machine_laws.proofs.SeatingLemmas.{seat_of}
use Rattle.unit_step.proofs.LastTextsOrder.{AreInOrder-last_texts, text_at, text_of_part}
use Rattle.unit_step.proofs.LeavingOrder.{AreSame-order, IsLeft-settled, in_use-kept, present-kept}
use Rattle.unit_step.proofs.machine.Machine.settle_last.Given.{Over}
use Rattle.unit_step.proofs.machine.Machine.settle_last.Goals.{After-renew}
use Rattle.unit_step.proofs.machine.Machine.settle_last.Goals as goal

pub use_leavers-requires-clause-kept : goal.use_leavers-requires-clause-kept
use_leavers-requires-clause-kept g c =
    subst (λ (m : MachineData). All (λ text. is_among (texts_of c.args.kept.now) text ≡ true) m.last) (sym c.self.view_is) c.requires.last

pub cut_past_bound-requires : goal.cut_past_bound-requires
cut_past_bound-requires g c =
    let kept = texts_of c.args.kept.now in
    let all : All (λ text. is_among kept text ≡ true) (some_texts (texts_used c.self.inside.body.uses)) =
    subst (λ (m : MachineData). All (λ text. is_among kept text ≡ true) (some_texts m.uses)) (sym c.self.view_is) c.requires.used in
    let leaves = c.use_leavers.ensures.uses in
    in_use-kept c.self.inside.body.uses leaves.leavers kept (texts_of c.use_leavers.new.kept) all leaves.used

pub renew-requires-clause-apart : goal.renew-requires-clause-apart
renew-requires-clause-apart g c = subst AreApart (sym c.deref-2.ensures.value) c.self.invariant.0.runs.apart

-- the texts are in order once no node is noted
in_order : (parts read : List MachinePart) (uses : UsesData) (count : ℕ) (last_texts : LastTexts) → read ≡ parts →
    AreLastTexts read uses.numbers count (length uses.known) last_texts → last_texts.changed.items ≡ [] →
    AreInOrder parts (texts_used uses) (texts_of_last uses.known last_texts)
in_order parts read uses count last_texts is are none =
    AreInOrder-last_texts parts uses count last_texts
    (subst (λ list. AreLastTexts list uses.numbers count (length uses.known) last_texts) is are) none

-- so they are afterwards
order_now : (g : Over) (c : After-renew g) →
    AreInOrder c.self.inside.body.parts.items (texts_used c.self.inside.body.uses) (texts_of_last c.self.inside.body.uses.known c.renew.new.self)
order_now g c =
    let i = c.self.inside in
    in_order i.body.parts.items c.deref-2.result.now i.body.uses (length c.deref-3.result.now) c.renew.new.self c.deref-2.ensures.value c.renew.ensures.last_texts
    c.renew.ensures.none

pub returns-clause-order : goal.returns-clause-order
returns-clause-order g c = order_now g (goal.at.returns-clause-order g c).After-renew

-- and they are those that the parts have
present_same : (parts : List MachinePart) (uses : UsesData) (marks waiting : List Bool) (count : ℕ) (lists : List (SmallVec ℕ)) (owners : List (Option ℕ))
    (held most : ℕ) (room : Rooms) (machine : MachineData) (present : List GroupTextData) → IsMachine parts marks waiting count lists owners uses.numbers held most room →
    ((k : ℕ) → length parts ≤ k → slice_index_or uses.numbers k None ≡ None) → machine.parts ≡ parts → machine.uses ≡ texts_used uses →
    ((k : ℕ) (part : MachinePart) → Stands machine.parts k part → part.members ≡ 0 → slice_index_or machine.uses k None ≡ None) →
    AreInOrder parts (texts_used uses) present → AreSame present (some_texts (texts_used uses))
present_same parts uses marks waiting count lists owners held most room machine present is past_none parts_are uses_are textless order =
    AreSame-order parts (texts_used uses) present order is.runs.apart
    (λ k part stands. (seat_of parts marks waiting count lists owners uses.numbers held most room is k part stands).members)
    (λ k part stands none.
    ap (λ texts. slice_index_or texts k None) (sym uses_are) ∙ textless k part (subst (λ list. Stands list k part) (sym parts_are) stands) none)
    (λ k past. text_of_part uses.known uses.numbers k ∙ ap (text_at uses.known) (past_none k past))

present_now : (g : Over) (c : After-renew g) →
    AreSame (texts_of_last c.self.inside.body.uses.known c.renew.new.self) (some_texts (texts_used c.self.inside.body.uses))
present_now g c =
    let i = c.self.inside in
    present_same i.body.parts.items i.body.uses i.body.agenda.marks i.body.agenda.waiting (length i.body.state.items) i.body.readers i.body.owners.items i.body.held i.body.most (rooms i.body.workspace)
    c.args.self.now (texts_of_last i.body.uses.known c.renew.new.self) c.self.invariant.0 c.self.invariant.2.beyond
    (ap (λ (m : MachineData). m.parts) (sym c.self.view_is)) (ap (λ (m : MachineData). m.uses) (sym c.self.view_is)) c.requires.textless (order_now g c)

pub returns-clause-left : goal.returns-clause-left
returns-clause-left g c =
    let i = c.self.inside in
    let present = texts_of_last i.body.uses.known c.renew.new.self in
    let left : IsLeft c.args.kept.now.bound (texts_of_last i.body.uses.known i.body.last_texts) (texts_of c.args.kept.now) present (texts_of c.cut_past_bound.new.kept) =
    IsLeft-settled i.body.parts.items i.body.uses (length i.body.state.items) i.body.last_texts c.self.invariant.2 present
    (present_now g (goal.at.returns-clause-left g c).After-renew) c.args.kept.now c.use_leavers.new.kept c.cut_past_bound.new.kept
    c.use_leavers.ensures.uses c.use_leavers.ensures.bound c.cut_past_bound.ensures.cuts in
    subst (λ (m : MachineData). IsLeft c.args.kept.now.bound m.last (texts_of c.args.kept.now) present (texts_of c.cut_past_bound.new.kept))
    c.self.view_is left

pub returns-clause-there : goal.returns-clause-there
returns-clause-there g c =
    let i = c.self.inside in
    present-kept i.body.parts.items i.body.uses (length i.body.state.items) i.body.last_texts c.self.invariant.2 (texts_of_last i.body.uses.known c.renew.new.self)
    (present_now g (goal.at.returns-clause-there g c).After-renew) c.args.kept.now c.use_leavers.new.kept c.cut_past_bound.new.kept
    c.use_leavers.ensures.uses c.use_leavers.ensures.bound c.cut_past_bound.ensures.cuts

pub returns-clause-holds : goal.returns-clause-holds
returns-clause-holds g c = λ holds. c.cut_past_bound.ensures.holds (holds ∙ sym c.use_leavers.ensures.set)
