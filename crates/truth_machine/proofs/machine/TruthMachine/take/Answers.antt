-- A step of the machine, by its parts; and a fault, after which all but the maker is as before.
use Rattle.std.proofs.Common.{◌≡◌, ◌<◌, length, refl, ap, ◌∙◌, arith}
use Rattle.std.specs.Prelude.{IfOk, OnErr}
use Rattle.std.specs.Vec.{with_items}
use Rattle.std.proofs.lemmas.List.{with_items_is}
use Rattle.truth_parts.specs.Columns.{states_in}
use Rattle.truth_parts.specs.Stepping.{StepsInAll}
use Rattle.truth_parts.proofs.ColumnLemmas.{length-states}
use Rattle.truth_machine.proofs.MakingLemmas.{IsTruthMachine-again}
use Rattle.truth_machine.proofs.MovingLemmas.{Taken, Taken-advanced}
use Rattle.truth_machine.proofs.machine.TruthMachine.take.Given.{Over}
use Rattle.truth_machine.proofs.machine.TruthMachine.take.Goals.{After-advance}
use Rattle.truth_machine.proofs.machine.TruthMachine.take.Goals as goal

pub advance-requires : goal.advance-requires
advance-requires g c =
    let m = c.self.invariant.0 in
    rw (c.deref.ensures.value, c.deref-2.ensures.value, c.deref_mut.ensures.value, c.deref_mut-2.ensures.value)
    (record { rails = m.columns.counted; highs = m.highs; lows = m.lows; runnable = m.runs; workspace = c.self.invariant.1 })

-- the rails as fields are those that the step left
rails_are : (g : Over) (c : After-advance g) → ((with_items c.self.inside.hi c.advance.new.hi).items ≡ c.advance.new.hi)
    × ((with_items c.self.inside.lo c.advance.new.lo).items ≡ c.advance.new.lo)
rails_are g c = (
  with_items_is c.self.inside.hi c.advance.new.hi (omega (arith, c.advance.auto.hi, c.deref_mut.ensures.len)),
  with_items_is c.self.inside.lo c.advance.new.lo (omega (arith, c.advance.auto.lo, c.deref_mut-2.ensures.len)),
)

-- what is known of the machine with the rails that the step left
taken : (g : Over) (c : After-advance g) → Taken g.T.Truths.columns g.T.Truths.has g.T.Truths.holds c.args.joining c.advance.result
    (record { maker = c.self.inside.truths; parts = c.self.inside.parts.items; marks = c.self.inside.agenda; hi = c.self.inside.hi.items; lo = c.self.inside.lo.items })
    (record { maker = c.advance.new.truths; parts = c.self.inside.parts.items; marks = c.advance.new.agenda; hi = c.advance.new.hi; lo = c.advance.new.lo })
taken g c =
    let i = c.self.inside in
    let m = c.self.invariant.0 in
    let T = c.advance.new.truths in
    let told : IfOk c.advance.result (StepsInAll c.args.joining i.parts.items (g.T.Truths.columns T) (g.T.Truths.holds T) i.agenda c.advance.new.agenda i.hi.items i.lo.items
    c.advance.new.hi c.advance.new.lo) = rw (c.deref.ensures.value, c.deref_mut.ensures.value, c.deref_mut-2.ensures.value) at c.advance.ensures.columns in
    let same_hi : OnErr c.advance.result (c.advance.new.hi ≡ i.hi.items) = rw c.deref_mut.ensures.value at c.advance.ensures.err_highs in
    let same_lo : OnErr c.advance.result (c.advance.new.lo ≡ i.lo.items) = rw c.deref_mut-2.ensures.value at c.advance.ensures.err_lows in
    Taken-advanced g.T.Truths.columns g.T.Truths.has g.T.Truths.holds c.args.joining c.advance.result _ _ c.advance.ensures.kept m.highs m.lows m.columns refl
    told same_hi same_lo c.advance.ensures.err_marks

-- and of the machine as it is then
taken_here : (g : Over) (c : After-advance g) → Taken g.T.Truths.columns g.T.Truths.has g.T.Truths.holds c.args.joining c.advance.result
    (record { maker = c.self.inside.truths; parts = c.self.inside.parts.items; marks = c.self.inside.agenda; hi = c.self.inside.hi.items; lo = c.self.inside.lo.items })
    (record {
      maker = c.advance.new.truths;
      parts = c.self.inside.parts.items;
      marks = c.advance.new.agenda;
      hi = (with_items c.self.inside.hi c.advance.new.hi).items;
      lo = (with_items c.self.inside.lo c.advance.new.lo).items;
    })
taken_here g c = rw (rails_are g c).0 (rw (rails_are g c).1 (taken g c))

pub invariant_of-self : goal.invariant_of-self
invariant_of-self g c =
    let all = taken g (goal.at.invariant_of-self g c).After-advance in
    let (highs, lows) = rails_are g (goal.at.invariant_of-self g c).After-advance in
    let long : length c.advance.new.hi ≡ length c.self.inside.hi.items = c.advance.auto.hi ∙ ap length c.deref_mut.ensures.value in
    let again = IsTruthMachine-again _ _ _ (g.T.Truths.columns c.advance.new.truths) (g.T.Truths.has c.advance.new.truths) (g.T.Truths.holds c.advance.new.truths)
    c.self.inside.parts.items c.self.inside.agenda c.advance.new.agenda _ _ _ _ _ _ _ _ all.marks
    long c.advance.ensures.rooms all.are c.advance.ensures.highs c.advance.ensures.lows c.self.invariant.0 in
    (rw (highs, lows) again, c.advance.ensures.workspace)

pub returns-clause-steps : goal.returns-clause-steps
returns-clause-steps g c = rw (← c.self.view_is) (taken_here g (goal.at.returns-clause-steps g c).After-advance).steps

pub returns-clause-rests : goal.returns-clause-rests
returns-clause-rests g c = rw (← c.self.view_is) (taken_here g (goal.at.returns-clause-rests g c).After-advance).rests

pub returns-clause-nodes : goal.returns-clause-nodes
returns-clause-nodes g c = rw (← c.self.view_is) (taken_here g (goal.at.returns-clause-nodes g c).After-advance).nodes

pub returns-clause-unknown : goal.returns-clause-unknown
returns-clause-unknown g c = rw (← c.self.view_is) (taken_here g (goal.at.returns-clause-unknown g c).After-advance).unknown

pub returns-clause-kept : goal.returns-clause-kept
returns-clause-kept g c = rw (← c.self.view_is) c.advance.ensures.kept

pub returns-clause-bound : goal.returns-clause-bound
returns-clause-bound g c = rw (← c.self.view_is) c.advance.ensures.bound

pub returns-clause-spent : goal.returns-clause-spent
returns-clause-spent g c = c.advance.ensures.spent

pub returns-clause-highs : goal.returns-clause-highs
returns-clause-highs g c = rw (← c.self.view_is) c.self.invariant.0.highs

pub returns-clause-lows : goal.returns-clause-lows
returns-clause-lows g c = rw (← c.self.view_is) c.self.invariant.0.lows

pub returns-clause-few : goal.returns-clause-few
returns-clause-few g c =
    let all = taken g (goal.at.returns-clause-few g c).After-advance in
    let (highs, lows) = rails_are g (goal.at.returns-clause-few g c).After-advance in
    let holds = g.T.Truths.holds c.advance.new.truths in
    λ column.
    let counted = length-states holds column c.advance.new.hi c.advance.new.lo all.are.counted in
    let few : length (states_in holds column c.advance.new.hi c.advance.new.lo) < 9223372036854775808 =
    omega (arith, counted, c.advance.auto.hi, c.deref_mut.type_inv.1) in
    rw (highs, lows) few
