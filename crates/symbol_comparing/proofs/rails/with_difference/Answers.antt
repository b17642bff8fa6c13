-- What was made is the test of both pairs.
use Rattle.std.proofs.Common.{◌≡◌, ◌↔◌, false, ◌||◌, sym, ap₂, ◌∙◌, subst, arith}
use Rattle.decision_graph.specs.Meaning.{holds}
use Rattle.decision_graph.proofs.ValueLemmas.{holds-extends}
use Rattle.truth_makers.proofs.ExpectLemmas.{unlike}
use Rattle.symbol_comparing.proofs.RailLemmas.{test_of_node}
use Rattle.symbol_comparing.proofs.rails.with_difference.Goals as goal

pub returns-clause-value : goal.returns-clause-value
returns-clause-value c = λ vars.
    let old = c.args.graph.now.vertices in
    let first = c.differ.new.self.vertices in
    let second = c.differ-2.new.self.vertices in
    let third = c.or.new.self.vertices in
    let e1 = c.differ.ensures.extends in
    let e2 = c.differ-2.ensures.extends in
    let e3 = c.or.ensures.extends in
    let m = c.args.made.place in
    let h0 = c.args.highs.0.place in
    let h1 = c.args.highs.1.place in
    let l0 = c.args.lows.0.place in
    let l1 = c.args.lows.1.place in
    let high = c.in_ok-high.high.place in
    let high_is : holds second vars high ≡ unlike (holds old vars h0) (holds old vars h1) =
    holds-extends first second vars high e2 c.in_ok-high.ensures.inside ∙ c.in_ok-high.ensures.value vars in
    let low_is : holds second vars c.in_ok-low.low.place ≡ unlike (holds old vars l0) (holds old vars l1) =
    c.in_ok-low.ensures.value vars
    ∙ ap₂ unlike (holds-extends old first vars l0 e1 c.requires.lows.0) (holds-extends old first vars l1 e1 c.requires.lows.1) in
    let either_is : holds third vars c.in_ok-either.either.place
    ≡ (unlike (holds old vars h0) (holds old vars h1) || unlike (holds old vars l0) (holds old vars l1)) =
    c.in_ok-either.ensures.value vars ∙ ap₂ (λ a b. a || b) high_is low_is in
    let made_is : holds third vars m ≡ holds old vars m =
    holds-extends second third vars m e3 (omega (arith, e1.longer, e2.longer, c.requires.made))
    ∙ holds-extends first second vars m e2 (omega (arith, e1.longer, c.requires.made)) ∙ holds-extends old first vars m e1 c.requires.made in
    let more_is = c.in_ok-more.ensures.value vars ∙ ap₂ (λ a b. a || b) made_is either_is in
    subst (λ t. (t ≡ false) ↔ ((holds old vars m ≡ false) × (holds old vars h0 ≡ holds old vars h1) × (holds old vars l0 ≡ holds old vars l1))) (sym more_is)
    (test_of_node (holds old vars m) (holds old vars h0) (holds old vars h1) (holds old vars l0) (holds old vars l1))
