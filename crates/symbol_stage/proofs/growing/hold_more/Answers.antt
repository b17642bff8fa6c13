-- Each new node has both rails in each column.
use Rattle.std.proofs.Common.{◌≡◌, ◌<◌, ◌+◌, ◌-◌, ◌++◌, ℕ, List, length, replicate, true, ap, sym, subst, ◌∙◌, arith}
use Rattle.std.proofs.lemmas.List.Elements.{All-append, All-replicate}
use Rattle.column_stage.specs.declared.TheConstants.{NEW_NODES}
use Rattle.decision_graph.specs.declared.vertex.Function.{Function}
use Rattle.truth_makers.specs.Makers.{columns_in, function_holds, IsFunctionOf}
use Rattle.truth_makers.specs.declared.symbols.Symbols.{Symbols}
use Rattle.truth_machine.specs.Machines.{TruthData}
use Rattle.truth_machine.specs.Gears.{IsEmptyGear}
use Rattle.symbol_stage.proofs.ColumnLemmas.{AreColumns-grown, length-grown, states-grown}
use Rattle.symbol_stage.proofs.growing.hold_more.Goals.{After-grown-lows}
use Rattle.symbol_stage.proofs.growing.hold_more.Goals as goal

pub cut_gear-requires : goal.cut_gear-requires
cut_gear-requires c =
    let m = c.args.machine.now in
    (length m.hi + NEW_NODES, rw c.truths-symbols.ensures c.requires.room.gear, c.requires.few)

pub grown-highs-requires : goal.grown-highs-requires
grown-highs-requires c =
    omega (arith, c.requires.few, c.requires.room.high_room, ap (λ (list : List Function). length list) c.requires.room.highs)

pub grown-lows-requires : goal.grown-lows-requires
grown-lows-requires c =
    omega (
      arith,
      c.requires.few,
      c.requires.room.low_room,
      ap (λ (list : List Function). length list) c.requires.room.lows,
      c.are_rails.ensures.columns.counted,
    )

-- the rails are the machine's, with those of new nodes behind them
highs_are : (c : After-grown-lows) → c.grown-highs.result.items ≡
    c.args.machine.now.hi ++ replicate (c.args.nodes - length c.args.machine.now.hi) c.constant-always.result
highs_are c =
    c.grown-highs.ensures
    ∙ ap (λ (list : List Function). list ++ replicate (c.args.nodes - length list) c.constant-always.result) c.requires.room.highs

lows_are : (c : After-grown-lows) → c.grown-lows.result.items ≡
    c.args.machine.now.lo ++ replicate (c.args.nodes - length c.args.machine.now.lo) c.constant-always.result
lows_are c =
    c.grown-lows.ensures
    ∙ ap (λ (list : List Function). list ++ replicate (c.args.nodes - length list) c.constant-always.result) c.requires.room.lows

pub hold-requires : goal.hold-requires
hold-requires c =
    let after = (goal.at.hold-requires c).After-grown-lows in
    let m = c.args.machine.now in
    let always = c.constant-always.result in
    let has = IsFunctionOf m.maker in
    let is : has always = rw c.truths-symbols.ensures at c.constant-always.ensures.has in
    let holding : (column : ℕ) → column < columns_in m.maker → function_holds m.maker always column ≡ true =
    rw c.truths-symbols.ensures at c.constant-always.ensures.value in
    let are = c.are_rails.ensures in
    let counted = length-grown (columns_in m.maker) (function_holds m.maker) always holding m.hi m.lo are.columns c.args.nodes c.requires.more in
    let gear : IsEmptyGear has c.args.nodes c.cut_gear.new.gear = rw c.truths-symbols.ensures at c.cut_gear.ensures in
    rw (highs_are after, lows_are after) (record {
      gear = subst (λ n. IsEmptyGear has n c.cut_gear.new.gear) (sym counted) gear;
      columns = AreColumns-grown (columns_in m.maker) (function_holds m.maker) always holding m.hi m.lo are.columns c.args.nodes c.requires.more;
      high_has = All-append has m.hi (replicate (c.args.nodes - length m.hi) always) are.highs (All-replicate has (c.args.nodes - length m.hi) always is);
      low_has = All-append has m.lo (replicate (c.args.nodes - length m.lo) always) are.lows (All-replicate has (c.args.nodes - length m.lo) always is);
    })

pub returns-clause-maker : goal.returns-clause-maker
returns-clause-maker c = ap (λ (d : TruthData Function Symbols). d.maker) c.hold.ensures

pub returns-clause-states : goal.returns-clause-states
returns-clause-states c =
    let after = (goal.at.returns-clause-states c).After-grown-lows in
    let m = c.args.machine.now in
    let always = c.constant-always.result in
    let holding : (column : ℕ) → column < columns_in m.maker → function_holds m.maker always column ≡ true =
    rw c.truths-symbols.ensures at c.constant-always.ensures.value in
    rw (c.hold.ensures, highs_are after, lows_are after)
    (states-grown (columns_in m.maker) (function_holds m.maker) always holding m.hi m.lo c.are_rails.ensures.columns c.args.nodes c.requires.more)
