-- Each node has words, which are the rails of sound states in each column.
use Rattle.std.proofs.Common.{ℕ, ◌<◌, ◌≤◌, List, length, sym, ap, subst, ◌∙◌, arith}
use Rattle.column_machines.specs.Columns.{HasSoundColumn}
use Rattle.column_machine_stage.proofs.MovingLemmas.{node_highs, node_lows, sound_column}
use Rattle.column_machine_stage.proofs.ServingLemmas.{has_states_of}
use Rattle.column_machine_stage.proofs.stage.ColumnMachineStage.machine_of.Goals as goal

pub build-requires-clause-highs : goal.build-requires-clause-highs
build-requires-clause-highs g c =
    let some : 1 ≤ c.args.self.now.columns = omega (arith, c.count-columns.ensures.some, c.count-columns.ensures.value) in
    ap length c.high_words-hi.ensures ∙ node_highs c.args.graph.now c.args.self.now c.are_columns.ensures some c.requires.sound

pub build-requires-clause-lows : goal.build-requires-clause-lows
build-requires-clause-lows g c =
    let some : 1 ≤ c.args.self.now.columns = omega (arith, c.count-columns.ensures.some, c.count-columns.ensures.value) in
    ap length c.low_words-lo.ensures ∙ node_lows c.args.graph.now c.args.self.now c.are_columns.ensures some c.requires.sound

pub build-requires-clause-sound : goal.build-requires-clause-sound
build-requires-clause-sound g c = λ column inside.
    let some : 1 ≤ c.args.self.now.columns = omega (arith, c.count-columns.ensures.some, c.count-columns.ensures.value) in
    let within : column < c.args.self.now.columns = subst (λ (n : ℕ). column < n) c.count-columns.ensures.value inside in
    subst (λ (hi : List ℕ). HasSoundColumn c.args.graph.now hi c.low_words-lo.result.now column) (sym c.high_words-hi.ensures)
    (subst (λ (lo : List ℕ). HasSoundColumn c.args.graph.now c.args.self.now.hi lo column) (sym c.low_words-lo.ensures)
    (sound_column c.args.graph.now c.args.self.now c.are_columns.ensures some c.requires.sound column within))

pub returns-clause-same : goal.returns-clause-same
returns-clause-same g c =
    has_states_of c.args.self.now c.count-columns.result c.high_words-hi.result.now c.low_words-lo.result.now c.build.result c.count-columns.ensures.value c.high_words-hi.ensures
    c.low_words-lo.ensures c.build.ensures.fresh
