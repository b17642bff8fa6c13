-- The first numbers stand for the same texts as all of them.
use Rattle.std.proofs.Common.{◌≡◌, true, length, None, sym, ap, subst, ◌∙◌, arith}
use Rattle.std.specs.Prelude.{All, slice_index_or}
use Rattle.group_text.specs.FirstTexts.{is_among}
use Rattle.analysis_cache.specs.Keeping.{texts_of}
use Rattle.group_analysis.specs.Using.{used_texts}
use Rattle.unit_step.specs.LastTexts.{AreFirsts, texts_numbered}
use Rattle.unit_step.proofs.FirstNumbers.{firsts_all, used-firsts}
use Rattle.unit_step.proofs.last_texts.LastTexts.use_all.Goals.{In-Ok}
use Rattle.unit_step.proofs.last_texts.LastTexts.use_all.Goals as goal

-- each number that was seen has its place among the first ones
firsts_are : (c : In-Ok) → AreFirsts c.args.self.now.numbers.items c.in-Ok.firsts.items c.in-Ok.ensures.0
firsts_are c = subst (λ list. AreFirsts list c.in-Ok.firsts.items c.in-Ok.ensures.0) c.deref.ensures.value c.in-Ok.ensures.2

pub firsts_of-requires : goal.firsts_of-requires
firsts_of-requires c = λ node number is.
    let here = ap (λ list. slice_index_or list node None) (sym c.deref.ensures.value) ∙ is in
    omega (arith, c.requires.inside node number here, ap length c.known.ensures)

pub use_each-requires-clause-inside : goal.use_each-requires-clause-inside
use_each-requires-clause-inside c = λ place number is.
    let are = firsts_are (goal.at.use_each-requires-clause-inside c).In-Ok in
    let here = ap (λ list. slice_index_or list place None) (sym c.deref-in-Ok.ensures.value) ∙ is in
    omega (arith, are.inside place number here, c.in-Ok.ensures.1, ap length c.known.ensures)

pub use_each-requires-clause-kept : goal.use_each-requires-clause-kept
use_each-requires-clause-kept c =
    let kept = texts_of c.args.kept.now in
    let known = c.args.uses.now.known in
    subst (λ list. All (λ text. is_among kept text ≡ true) (texts_numbered known list)) (sym c.deref-in-Ok.ensures.value)
    (firsts_all c.args.self.now.numbers.items c.in-Ok.firsts.items c.in-Ok.ensures.0 (firsts_are (goal.at.use_each-requires-clause-kept c).In-Ok)
    known (is_among kept) c.requires.kept)

pub returns-in-Ok-clause-texts : goal.returns-in-Ok-clause-texts
returns-in-Ok-clause-texts c =
    let kept = texts_of c.args.kept.now in
    let known = c.args.uses.now.known in
    c.use_each.ensures.texts
    ∙ (ap (λ list. used_texts (texts_numbered known list) kept) c.deref-in-Ok.ensures.value
    ∙ used-firsts c.args.self.now.numbers.items c.in-Ok.firsts.items c.in-Ok.ensures.0 (firsts_are (goal.at.returns-in-Ok-clause-texts c).In-Ok) known kept)
