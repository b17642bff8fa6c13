-- What was made is the test of both rails.
use Rattle.std.proofs.Common.{◌≡◌, ◌↔◌, false, not, ◌||◌, sym, ap, ap₂, ◌∙◌, subst, arith}
use Rattle.ternary.specs.Tern.{may_one, may_zero}
use Rattle.decision_graph.specs.Meaning.{holds}
use Rattle.decision_graph.proofs.ValueLemmas.{holds-extends}
use Rattle.truth_makers.specs.Expecting.{state_of_truth}
use Rattle.truth_makers.proofs.ExpectLemmas.{unlike, test_of_rails}
use Rattle.truth_makers.proofs.symbols.Symbols.missed.Goals as goal

pub returns-clause-missed : goal.returns-clause-missed
returns-clause-missed c = λ vars state one zero_rail.
    let old = c.args.self.now.graph.vertices in
    let first = c.differ.new.self.vertices in
    let second = c.not.new.self.vertices in
    let third = c.differ-2.new.self.vertices in
    let hi = c.args.hi.place in
    let lo = c.args.lo.place in
    let wanted = c.args.wanted.place in
    let e1 = c.differ.ensures.extends in
    let e2 = c.not.ensures.extends in
    let e3 = c.differ-2.ensures.extends in
    let w = holds old vars wanted in
    let high_is : holds third vars c.in_ok-high.high.place ≡ unlike (may_one state) w =
    holds-extends second third vars c.in_ok-high.high.place e3 (omega (arith, e2.longer, c.in_ok-high.ensures.inside))
    ∙ holds-extends first second vars c.in_ok-high.high.place e2 c.in_ok-high.ensures.inside
    ∙ c.in_ok-high.ensures.value vars ∙ ap (λ t. unlike t w) one in
    let lo_is : holds second vars lo ≡ may_zero state =
    holds-extends first second vars lo e2 (omega (arith, e1.longer, c.requires.lo)) ∙ holds-extends old first vars lo e1 c.requires.lo ∙ zero_rail in
    let other_is : holds second vars c.in_ok-other.other.place ≡ not w =
    c.in_ok-other.ensures.value vars ∙ ap not (holds-extends old first vars wanted e1 c.requires.wanted) in
    let low_is : holds third vars c.in_ok-low.low.place ≡ unlike (may_zero state) (not w) =
    c.in_ok-low.ensures.value vars ∙ ap₂ unlike lo_is other_is in
    let made_is : holds c.or.new.self.vertices vars c.in_ok-made.made.place ≡ (unlike (may_one state) w || unlike (may_zero state) (not w)) =
    c.in_ok-made.ensures.value vars ∙ ap₂ (λ a b. a || b) high_is low_is in
    subst (λ t. (t ≡ false) ↔ (state ≡ state_of_truth w)) (sym made_is) (test_of_rails state w)
