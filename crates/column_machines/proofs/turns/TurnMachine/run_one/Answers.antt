-- The column's states are loaded, move, and are written back.
use Rattle.std.proofs.Common.{◌≡◌, ◌<◌, ℕ, List, sym, ap, subst, ◌∙◌, arith}
use Rattle.std.proofs.lemmas.List.{with_items_is}
use Rattle.machine_laws.specs.Fitting.{FitsGraph}
use Rattle.vicinity.specs.NodeSets.{IsIn}
use Rattle.column_machines.specs.Turns.{TurnData, IsLoaded, MovesBy, WritesAt, words_of}
use Rattle.column_machines.proofs.TurnLemmas.{IsTurning-loaded, IsTurning-written, RunsOne-from, Writes-even}
use Rattle.column_machines.proofs.turns.TurnMachine.run_one.Goals as goal

pub load-requires-clause-column : goal.load-requires-clause-column
load-requires-clause-column c = omega (arith, c.requires.column, ap (λ (d : TurnData). d.columns) c.self.view_is, c.self.invariant.is.few)

pub load-requires-clause-counted : goal.load-requires-clause-counted
load-requires-clause-counted c = rw c.deref.ensures.value c.self.invariant.is.counted

pub load-requires-clause-even : goal.load-requires-clause-even
load-requires-clause-even c = rw (c.deref.ensures.value, c.deref-2.ensures.value) c.self.invariant.is.columns_are.counted

pub load-requires-clause-inside : goal.load-requires-clause-inside
load-requires-clause-inside c = rw c.deref.ensures.value c.self.invariant.even.counted

pub invariant_of-self : goal.invariant_of-self
invariant_of-self c =
    let i = c.self.inside in
    let within : c.args.column < i.columns = omega (arith, c.requires.column, ap (λ (d : TurnData). d.columns) c.self.view_is) in
    let loaded = rw (c.deref.ensures.value, c.deref-2.ensures.value) at c.load.ensures in
    IsTurning-loaded c.args.graph.now i.used i.uneven.inside i.spare.inside (record { columns = i.columns; machine = i.machine; hi = i.hi.items; lo = i.lo.items }) c.self.invariant
    c.args.column within c.load.new.machine loaded

pub write-requires-clause-column : goal.write-requires-clause-column
write-requires-clause-column c = omega (arith, c.requires.column, ap (λ (d : TurnData). d.columns) c.self.view_is, c.self.invariant.is.few)

pub write-requires-clause-counted : goal.write-requires-clause-counted
write-requires-clause-counted c = rw (c.state.ensures, c.deref_mut.ensures.value) c.self-2.invariant.is.counted

pub write-requires-clause-even : goal.write-requires-clause-even
write-requires-clause-even c = rw (c.deref_mut.ensures.value, c.deref_mut-2.ensures.value) c.self-2.invariant.is.columns_are.counted

pub write-requires-clause-inside : goal.write-requires-clause-inside
write-requires-clause-inside c = rw c.deref_mut.ensures.value c.self-2.invariant.even.counted

pub invariant_of-self-2 : goal.invariant_of-self-2
invariant_of-self-2 c =
    let j = c.self-2.inside in
    let m : TurnData = record { columns = j.columns; machine = j.machine; hi = j.hi.items; lo = j.lo.items } in
    let new = c.write.new in
    let words : words_of m ≡ (c.self.inside.columns, (c.self.inside.hi.items, c.self.inside.lo.items)) = ap words_of c.self-2.view_is ∙ c.drive-settled.ensures.words in
    let within : c.args.column < j.columns =
    omega (arith, c.requires.column, ap (λ (d : TurnData). d.columns) c.self.view_is, ap (λ (words : ℕ × (List ℕ × List ℕ)). words.0) words) in
    let writes : WritesAt (IsIn j.uneven.inside) c.args.column j.machine.state j.hi.items j.lo.items new.hi new.lo =
    rw (c.state.ensures, c.deref_mut.ensures.value, c.deref_mut-2.ensures.value) at c.write.ensures in
    let highs = with_items_is j.hi new.hi (omega (arith, c.write.auto.hi, c.deref_mut.ensures.len)) in
    let lows = with_items_is j.lo new.lo (omega (arith, c.write.auto.lo, c.deref_mut-2.ensures.len)) in
    rw (highs, lows)
    (IsTurning-written c.args.graph.now j.used j.uneven.inside j.spare.inside m c.self-2.invariant c.args.column within new.hi new.lo
    (Writes-even c.args.graph.now j.used j.uneven.inside j.spare.inside m c.self-2.invariant c.args.column within new.hi new.lo writes))

pub returns-clause-columns : goal.returns-clause-columns
returns-clause-columns c =
    ap (λ (words : ℕ × (List ℕ × List ℕ)). words.0) (ap words_of c.self-2.view_is ∙ c.drive-settled.ensures.words) ∙ ap (λ (d : TurnData). d.columns) c.self.view_is

pub returns-clause-runs : goal.returns-clause-runs
returns-clause-runs c =
    let g = c.args.graph.now in
    let i = c.self.inside in
    let j = c.self-2.inside in
    let old : TurnData = record { columns = i.columns; machine = i.machine; hi = i.hi.items; lo = i.lo.items } in
    let mid : TurnData = record { columns = j.columns; machine = j.machine; hi = j.hi.items; lo = j.lo.items } in
    let new = c.write.new in
    let settled = c.drive-settled.result in
    let words : words_of mid ≡ words_of old = ap words_of c.self-2.view_is ∙ c.drive-settled.ensures.words in
    let within : c.args.column < i.columns = omega (arith, c.requires.column, ap (λ (d : TurnData). d.columns) c.self.view_is) in
    let loaded : IsLoaded g c.args.column (IsIn i.uneven.inside) i.hi.items i.lo.items i.machine c.load.new.machine =
    rw (c.deref.ensures.value, c.deref-2.ensures.value) at c.load.ensures in
    let fits = subst (λ (d : TurnData). FitsGraph g c.load.new.machine → FitsGraph g d.machine) (sym c.self-2.view_is) c.drive-settled.ensures.fits in
    let moves =
    subst (λ (d : TurnData). FitsGraph g c.load.new.machine → MovesBy g c.args.limit c.load.new.machine.state d.machine.state settled) (sym c.self-2.view_is)
    c.drive-settled.ensures.moves in
    let writes : WritesAt (IsIn j.uneven.inside) c.args.column j.machine.state j.hi.items j.lo.items new.hi new.lo =
    rw (c.state.ensures, c.deref_mut.ensures.value, c.deref_mut-2.ensures.value) at c.write.ensures in
    let highs = with_items_is j.hi new.hi (omega (arith, c.write.auto.hi, c.deref_mut.ensures.len)) in
    let lows = with_items_is j.lo new.lo (omega (arith, c.write.auto.lo, c.deref_mut-2.ensures.len)) in
    rw (← c.self.view_is)
    (rw (highs, lows)
    (RunsOne-from g c.args.limit c.args.column i.used j.used i.uneven.inside i.spare.inside j.uneven.inside j.spare.inside old mid c.load.new.machine new.hi new.lo settled
    c.self.invariant within loaded words fits moves c.self-2.invariant writes))
