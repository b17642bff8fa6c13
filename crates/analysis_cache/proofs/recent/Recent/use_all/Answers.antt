-- Each text goes to the front of those behind it.
use Rattle.std.proofs.Common.{◌≡◌, ◌+◌, ◌-◌, ◌<◌, ◌∷◌, drop, length, sym, ap, ◌∙◌, arith}
use Rattle.std.proofs.Math.Bool.{or-true}
use Rattle.std.proofs.lemmas.List.{drop_all, drop_more}
use Rattle.group_text.specs.FirstTexts.{is_among}
use Rattle.analysis_cache.specs.Keeping.{entry_texts}
use Rattle.std.proofs.Common.{◌||◌}
use Rattle.analysis_cache.proofs.UseLemmas.{all_to_front, all_to_front-next, all_to_front-used, is_among-used}
use Rattle.analysis_cache.proofs.recent.Recent.use_all.Goals as goal

pub loop-left-init : goal.loop-left-init
loop-left-init c =
    record {
      inside = omega arith;
      texts = ap (λ l. all_to_front l (entry_texts c.args.self.now)) (sym (drop_all (length c.args.texts.now) c.args.texts.now (omega arith)));
      same = λ entry there. there;
    }

pub use_text-requires : goal.use_text-requires
use_text-requires c =
    let texts = c.args.texts.now in
    let kept = entry_texts c.args.self.now in
    let text = c.index-texts-left.result in
    let at = c.loop-left.left - 1 in
    let inside : at < length texts = omega (arith, c.loop-left.invariant.inside, c.loop-left-test.true) in
    ap (λ l. is_among l text) (c.loop-left.invariant.texts ∙ all_to_front-used (drop c.loop-left.left texts) kept)
    ∙ is_among-used (drop c.loop-left.left texts) kept text
    ∙ ap (λ b. is_among (drop c.loop-left.left texts) text || b) (ap (is_among kept) c.index-texts-left.is ∙ c.requires at text inside)
    ∙ or-true (is_among (drop c.loop-left.left texts) text)

pub loop-left-preserved : goal.loop-left-preserved
loop-left-preserved c =
    let texts = c.args.texts.now in
    let kept = entry_texts c.args.self.now in
    let text = c.index-texts-left.result in
    let at = c.loop-left.left - 1 in
    let inside : at < length texts = omega (arith, c.loop-left.invariant.inside, c.loop-left-test.true) in
    let next : at + 1 ≡ c.loop-left.left = omega (arith, c.loop-left-test.true) in
    let more : drop at texts ≡ text ∷ drop c.loop-left.left texts =
    drop_more texts at text inside
    ∙ ap (λ one. one ∷ drop (at + 1) texts) (sym c.index-texts-left.is)
    ∙ ap (λ k. text ∷ drop k texts) next in
    record {
      inside = omega (arith, inside);
      texts = all_to_front-next text (drop c.loop-left.left texts) (drop at texts) kept _ _ more c.loop-left.invariant.texts c.use_text.ensures.texts;
      same = λ entry there. c.loop-left.invariant.same entry (c.use_text.ensures.same entry there);
    }

pub returns-clause-texts : goal.returns-clause-texts
returns-clause-texts c =
    let texts = c.args.texts.now in
    let kept = entry_texts c.args.self.now in
    let none : c.loop-left.left ≡ 0 = omega (arith, c.loop-left-test.false) in
    c.loop-left.invariant.texts
    ∙ ap (λ k. all_to_front (drop k texts) kept) none
    ∙ all_to_front-used texts kept

pub returns-clause-same : goal.returns-clause-same
returns-clause-same c = c.loop-left.invariant.same
