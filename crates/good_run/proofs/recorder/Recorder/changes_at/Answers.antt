-- The changes of a look lead from the state before it to its own.
use Rattle.std.proofs.Common.{◌≡◌, ℕ, ◌+◌, ◌<◌, List, [], ◌∷◌, length, map, refl, sym, ap, subst, ◌∙◌, arith}
use Rattle.std.specs.Prelude.{Contains, slice_index_or}
use Rattle.part_words.specs.declared.change.Change.{Change}
use Rattle.machine_parts.specs.Running.{AreAgreed, IsTaken}
use Rattle.good_run.specs.Recording.{RunData}
use Rattle.good_run.specs.Looks.{between, from_of, shown_in}
use Rattle.good_run.proofs.LookLemmas.{shown_look, there, end_is, changes_taken, changes_agreed, changes_inside}
use Rattle.good_run.proofs.recorder.Recorder.changes_at.Goals.{After-end_of-end}
use Rattle.good_run.proofs.recorder.Recorder.changes_at.Goals as goal

pub end_before-from-requires : goal.end_before-from-requires
end_before-from-requires c =
    let i = c.self.inside in
    shown_look i.start.items i.changes.items i.looks.items _ c.args.at _ c.requires (ap (λ (run : RunData). length run.shown) c.self.view_is) c.deref.ensures.value

pub end_of-end-requires : goal.end_of-end-requires
end_of-end-requires c =
    let i = c.self.inside in
    shown_look i.start.items i.changes.items i.looks.items _ c.args.at _ c.requires (ap (λ (run : RunData). length run.shown) c.self.view_is) c.deref-2.ensures.value

-- the look is there
look_inside : (c : After-end_of-end) → c.args.at < length c.self.inside.looks.items
look_inside c =
    let i = c.self.inside in
    shown_look i.start.items i.changes.items i.looks.items _ c.args.at _ c.requires (ap (λ (run : RunData). length run.shown) c.self.view_is) refl

-- its changes begin and end there
begin_is : (c : After-end_of-end) → c.end_before-from.result ≡ from_of c.self.inside.looks.items c.args.at
begin_is c = c.end_before-from.ensures ∙ ap (λ looks. from_of looks c.args.at) c.deref.ensures.value

stop_is : (c : After-end_of-end) → c.end_of-end.result ≡ from_of c.self.inside.looks.items (c.args.at + 1)
stop_is c =
    c.end_of-end.ensures ∙ (end_is c.deref-2.result.now c.args.at ∙ ap (λ looks. from_of looks (c.args.at + 1)) c.deref-2.ensures.value)

pub part_of-requires-clause-ordered : goal.part_of-requires-clause-ordered
part_of-requires-clause-ordered c =
    let i = c.self.inside in
    let ends = (goal.at.part_of-requires-clause-ordered c).After-end_of-end in
    let look = there i.start.items i.changes.items i.looks.items c.self.invariant.looks_are c.args.at (look_inside ends) in
    omega (arith, look.ordered, begin_is ends, stop_is ends)

pub part_of-requires-clause-within : goal.part_of-requires-clause-within
part_of-requires-clause-within c =
    let i = c.self.inside in
    let ends = (goal.at.part_of-requires-clause-within c).After-end_of-end in
    let look = there i.start.items i.changes.items i.looks.items c.self.invariant.looks_are c.args.at (look_inside ends) in
    omega (arith, look.inside, stop_is ends, ap length c.deref-3.ensures.value)

-- they are these
changes_are : (c : After-end_of-end) (all part : List Change) → all ≡ c.self.inside.changes.items → part ≡ between c.end_before-from.result c.end_of-end.result all →
    part ≡ between (from_of c.self.inside.looks.items c.args.at) (from_of c.self.inside.looks.items (c.args.at + 1)) c.self.inside.changes.items
changes_are c all part is cut = rw (← begin_is c, ← stop_is c, ← is) cut

pub returns-clause-taken : goal.returns-clause-taken
returns-clause-taken c =
    let i = c.self.inside in
    let ends = (goal.at.returns-clause-taken c).After-end_of-end in
    let are = changes_are ends c.deref-3.result.now c.part_of.result.now c.deref-3.ensures.value c.part_of.ensures in
    let state = λ (k : ℕ). slice_index_or (i.start.items ∷ map (λ shown. shown.state) (shown_in i.start.items i.changes.items i.looks.items)) k [] in
    rw (← c.self.view_is)
    (subst (λ list. IsTaken list (state c.args.at) (state (c.args.at + 1))) (sym are)
    (changes_taken i.start.items i.changes.items i.looks.items c.self.invariant.looks_are c.args.at (look_inside ends)))

pub returns-clause-agreed : goal.returns-clause-agreed
returns-clause-agreed c =
    let i = c.self.inside in
    let ends = (goal.at.returns-clause-agreed c).After-end_of-end in
    subst AreAgreed (sym (changes_are ends c.deref-3.result.now c.part_of.result.now c.deref-3.ensures.value c.part_of.ensures))
    (changes_agreed i.start.items i.changes.items i.looks.items c.self.invariant.looks_are c.args.at (look_inside ends))

pub returns-clause-inside : goal.returns-clause-inside
returns-clause-inside c =
    let i = c.self.inside in
    let ends = (goal.at.returns-clause-inside c).After-end_of-end in
    let are = changes_are ends c.deref-3.result.now c.part_of.result.now c.deref-3.ensures.value c.part_of.ensures in
    rw (← c.self.view_is) (λ change contained.
    changes_inside i.start.items i.changes.items i.looks.items c.self.invariant.looks_are c.args.at (look_inside ends) change
    (subst (λ list. Contains list change) are contained))
