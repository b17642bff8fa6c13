-- A text that some part has goes to the front of those behind it.
use Rattle.std.proofs.Common.{◌≡◌, ◌+◌, ◌-◌, ◌<◌, ◌∷◌, ◌||◌, Some, length, get_or, refl, sym, ap, subst, ◌∙◌, arith}
use Rattle.std.specs.Prelude.{slice_get}
use Rattle.std.proofs.Math.Bool.{or-true}
use Rattle.std.proofs.lemmas.Option.{slice_get_read}
use Rattle.group_text.specs.Texts.{GroupTextData}
use Rattle.group_text.specs.FirstTexts.{is_among}
use Rattle.analysis_cache.specs.Keeping.{texts_of}
use Rattle.analysis_cache.proofs.UseLemmas.{all_to_front, all_to_front-next, all_to_front-used, is_among-used}
use Rattle.analysis_cache.proofs.OrderLemmas.{among_all}
use Rattle.kept_parts.specs.Uses.{in_use}
use Rattle.kept_parts.proofs.BoundLemmas.{in_use_from, in_use-at, in_use_from-used, in_use_from-unused}
use Rattle.kept_parts.proofs.uses.TextUses.use_all.Goals.{Then-is_used}
use Rattle.kept_parts.proofs.uses.TextUses.use_all.Goals as goal

-- the text with the number is known
stands : (c : Then-is_used) (text : GroupTextData) → text ≡ get_or c.known-known.result.now (c.loop-number.number - 1) text →
    slice_get c.args.self.now.known (c.loop-number.number - 1) ≡ Some text
stands c text is =
    let known = c.known-known.result.now in
    let number = c.loop-number.number - 1 in
    let inside : number < length known = omega (arith, c.loop-number.invariant.inside, c.loop-number-test.true, ap length c.known-known.ensures) in
    subst (λ texts. slice_get texts number ≡ Some text) c.known-known.ensures (slice_get_read known (length known) number text refl inside is)

pub use_text-requires : goal.use_text-requires
use_text-requires c =
    let number = c.loop-number.number - 1 in
    let uses = c.args.self.now in
    let old = texts_of c.args.kept.now in
    let text = c.index-known-number.result in
    let later = in_use_from c.loop-number.number uses in
    let there = stands (goal.at.use_text-requires c).Then-is_used text c.index-known-number.is in
    let used = sym (c.is_used.ensures text there) ∙ c.if-is_used.true in
    ap (λ l. is_among l text) (c.loop-number.invariant.texts ∙ all_to_front-used later old)
    ∙ is_among-used later old text
    ∙ ap (λ b. is_among later text || b) (among_all (is_among old) _ (in_use uses) c.requires text (in_use-at uses number text there used))
    ∙ or-true (is_among later text)

pub loop-number-preserved-then-is_used : goal.loop-number-preserved-then-is_used
loop-number-preserved-then-is_used c =
    let uses = c.args.self.now in
    let text = c.index-known-number.result in
    let number = c.loop-number.number - 1 in
    let next : number + 1 ≡ c.loop-number.number = omega (arith, c.loop-number-test.true) in
    let there = stands (goal.at.loop-number-preserved-then-is_used c).Then-is_used text c.index-known-number.is in
    let more = in_use_from-used uses number text there (sym (c.is_used.ensures text there) ∙ c.if-is_used.true)
    ∙ ap (λ n. text ∷ in_use_from n uses) next in
    record {
      inside = omega (arith, c.loop-number.invariant.inside);
      texts = all_to_front-next text _ _ (texts_of c.args.kept.now) _ _ more c.loop-number.invariant.texts c.use_text.ensures.texts;
      bound = c.use_text.ensures.bound ∙ c.loop-number.invariant.bound;
    }

pub loop-number-preserved : goal.loop-number-preserved
loop-number-preserved c =
    let uses = c.args.self.now in
    let old = texts_of c.args.kept.now in
    let number = c.loop-number.number - 1 in
    let next : number + 1 ≡ c.loop-number.number = omega (arith, c.loop-number-test.true) in
    let inside : number < length uses.known = omega (arith, c.loop-number.invariant.inside, c.loop-number-test.true) in
    record {
      inside = omega (arith, c.loop-number.invariant.inside);
      texts =
          c.loop-number.invariant.texts
          ∙ ap (λ n. all_to_front (in_use_from n uses) old) (sym next)
          ∙ ap (λ l. all_to_front l old)
          (sym (in_use_from-unused uses number inside (λ text stands. sym (c.is_used.ensures text stands) ∙ c.if-is_used.false)));
      bound = c.loop-number.invariant.bound;
    }

pub returns-clause-texts : goal.returns-clause-texts
returns-clause-texts c =
    let old = texts_of c.args.kept.now in
    let none : c.loop-number.number ≡ 0 = omega (arith, c.loop-number-test.false) in
    c.loop-number.invariant.texts
    ∙ ap (λ n. all_to_front (in_use_from n c.args.self.now) old) none
    ∙ all_to_front-used (in_use c.args.self.now) old
