-- The constants of its rails are the letter in each column.
use Rattle.std.proofs.Common.{◌≡◌, ℕ, ◌<◌}
use Rattle.ternary.specs.Tern.{may_one, may_zero}
use Rattle.truth_makers.specs.Makers.{columns_in, function_holds, IsFunctionOf}
use Rattle.symbol_stage.proofs.StayingLemmas.{letter_alike, letters_alike}
use Rattle.symbol_stage.proofs.given.SymbolStageTruthStage.alike.Goals as goal

pub returns : goal.returns
returns c =
    let symbols = c.args.self.now.machine.maker in
    let hi = c.constant-hi.result in
    let lo = c.constant-lo.result in
    let highs : (column : ℕ) → column < columns_in symbols → function_holds symbols hi column ≡ may_one c.args.state =
    rw (c.symbols-symbols.ensures, c.may_one.ensures) at c.constant-hi.ensures.value in
    let lows : (column : ℕ) → column < columns_in symbols → function_holds symbols lo column ≡ may_zero c.args.state =
    rw (c.symbols-symbols.ensures, c.may_zero.ensures) at c.constant-lo.ensures.value in
    let high_has : IsFunctionOf symbols hi = rw c.symbols-symbols.ensures at c.constant-hi.ensures.has in
    let low_has : IsFunctionOf symbols lo = rw c.symbols-symbols.ensures at c.constant-lo.ensures.has in
    record { own = letters_alike symbols c.args.state hi lo highs lows high_has low_has; letter = letter_alike symbols c.args.state hi lo highs lows }
