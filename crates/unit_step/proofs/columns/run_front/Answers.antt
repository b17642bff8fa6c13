-- What the code gives stands at the prefix of the outputs.
use Rattle.std.proofs.Common.{◌≡◌, ◌++◌, List, ℕ, length, take, drop, map, sym, ap, subst, ◌∙◌, arith}
use Rattle.std.proofs.Math.Seq.{take-append_seam}
use Rattle.std.proofs.lemmas.List.{length-take-le}
use Rattle.switch_paths.specs.Switching.{state_at}
use Rattle.straight_code.specs.Code.{code_value}
use Rattle.word_columns.specs.Columns.{AreRailsIn}
use Rattle.unit_step.proofs.columns.run_front.Goals as goal

pub returns : goal.returns
returns c column state inside has =
    let count = length c.args.code.now.outputs in
    let outputs = c.outputs-outputs.result in
    let is = c.outputs-outputs.ensures in
    let highs = c.run_words.new.out_hi in
    let lows = c.run_words.new.out_lo in
    let given = code_value c.args.code.now (map (state_at state) c.args.nodes.now) in
    let high_long : length highs ≡ count =
    c.run_words.auto.out_hi ∙ (length-take-le outputs c.args.out_hi.now (omega (arith, is, c.requires.highs)) ∙ is) in
    let low_long : length lows ≡ count =
    c.run_words.auto.out_lo ∙ (length-take-le outputs c.args.out_lo.now (omega (arith, is, c.requires.lows)) ∙ is) in
    let high : take count (highs ++ drop outputs c.args.out_hi.now) ≡ highs =
    ap (λ (n : ℕ). take n (highs ++ drop outputs c.args.out_hi.now)) (sym high_long) ∙ take-append_seam highs (drop outputs c.args.out_hi.now) in
    let low : take count (lows ++ drop outputs c.args.out_lo.now) ≡ lows =
    ap (λ (n : ℕ). take n (lows ++ drop outputs c.args.out_lo.now)) (sym low_long) ∙ take-append_seam lows (drop outputs c.args.out_lo.now) in
    subst (λ (list : List ℕ). AreRailsIn column list (take count (lows ++ drop outputs c.args.out_lo.now)) given) (sym high)
    (subst (λ (list : List ℕ). AreRailsIn column highs list given) (sym low) (c.run_words.ensures column state inside has))
