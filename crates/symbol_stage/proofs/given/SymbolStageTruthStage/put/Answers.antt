-- The machine has both functions at the node, and its maker is the same.
use Rattle.std.proofs.Common.{◌≡◌, ℕ, ◌<◌, length, sym, subst}
use Rattle.std.proofs.lemmas.Nat.{pow_pos}
use Rattle.switch_paths.specs.Graphs.{nodes}
use Rattle.truth_makers.specs.Makers.{columns_in, function_holds}
use Rattle.symbol_stage.proofs.ColumnLemmas.{counted-columns}
use Rattle.symbol_stage.proofs.StayingLemmas.{given_beside, columns_beside, states_put}
use Rattle.symbol_stage.proofs.given.SymbolStageTruthStage.put.Goals as goal

pub place-requires-clause-inside : goal.place-requires-clause-inside
place-requires-clause-inside c =
    let m = c.args.self.now.machine in
    let counted : length m.hi ≡ nodes c.args.graph.now =
    counted-columns c.args.graph.now (columns_in m.maker) (function_holds m.maker) m.hi m.lo c.are_rails.ensures c.requires.sound
    (pow_pos m.maker.graph.variables) in
    subst (λ (n : ℕ). c.args.node < n) (sym counted) c.requires.inside

pub place-requires-clause-high_has : goal.place-requires-clause-high_has
place-requires-clause-high_has c = c.requires.own.high

pub place-requires-clause-low_has : goal.place-requires-clause-low_has
place-requires-clause-low_has c = c.requires.own.low

pub place-requires-clause-states : goal.place-requires-clause-states
place-requires-clause-states c = c.requires.own.some

pub returns-clause-columns : goal.returns-clause-columns
returns-clause-columns c = columns_beside c.args.self.now c.place.new.self c.place.ensures.places.maker

pub returns-clause-states : goal.returns-clause-states
returns-clause-states c =
    let m = c.args.self.now.machine in
    let counted : length m.hi ≡ nodes c.args.graph.now =
    counted-columns c.args.graph.now (columns_in m.maker) (function_holds m.maker) m.hi m.lo c.are_rails.ensures c.requires.sound
    (pow_pos m.maker.graph.variables) in
    let inside : c.args.node < length m.hi = subst (λ (n : ℕ). c.args.node < n) (sym counted) c.requires.inside in
    states_put c.args.self.now c.place.new.self c.args.node c.args.given c.are_rails.ensures inside c.place.ensures.places

pub returns-clause-kept : goal.returns-clause-kept
returns-clause-kept c = given_beside c.args.self.now c.place.new.self c.place.ensures.places.maker
