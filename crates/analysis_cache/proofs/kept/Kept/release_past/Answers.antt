-- The last text is cut and released.
use Rattle.std.proofs.Common.{◌≡◌, ◌-◌, ◌<◌, Some, None, length, take, drop, sym, ap, ◌∙◌, arith}
use Rattle.std.specs.Prelude.{slice_get}
use Rattle.std.proofs.lemmas.List.{length-map}
use Rattle.group_analysis.specs.Held.{without_text, without_texts}
use Rattle.analysis_cache.specs.Keeping.{Entry, entry_texts}
use Rattle.analysis_cache.proofs.HeldLemmas.{without_texts-more}
use Rattle.analysis_cache.proofs.CutLemmas.{inside_none, length-popped, front-popped, text-popped}
use Rattle.analysis_cache.proofs.kept.Kept.release_past.Goals as goal

pub loop-self-preserved-in-Some : goal.loop-self-preserved-in-Some
loop-self-preserved-in-Some g c =
    let old = c.args.self.now.entries in
    let now = c.loop-self.self.entries in
    let inv = c.loop-self.invariant in
    let same = ap (λ kept. kept.entries) c.self.view_is in
    let popped : c.pop.new.self ≡ take (length now - 1) now = c.pop.ensures.rest ∙ ap (λ l. take (length l - 1) l) same in
    let more : c.args.room < length now = omega (arith, c.loop-self-test.true, c.size.ensures) in
    let some : 0 < length now = omega arith in
    let less = length-popped old now c.pop.new.self inv.entries inv.fewer popped some in
    let last : Some c.in-Some.text ≡ slice_get (entry_texts now) (length now - 1) =
    c.in-Some.ensures.text ∙ ap (λ l. slice_get (entry_texts l) (length l - 1)) same in
    record {
      room = omega arith;
      fewer = omega (arith, inv.fewer);
      entries = front-popped old now c.pop.new.self inv.entries inv.fewer popped some;
      bound = ap (λ kept. kept.bound) c.self.view_is ∙ inv.bound;
      analysed = c.release.ensures.analysed ∙ inv.analysed;
      held =
          c.release.ensures.holds
          ∙ ap (λ held. without_text held c.in-Some.text) inv.held
          ∙ without_texts-more (g.A.Analyst.held c.args.analyst.now) c.in-Some.text (drop (length now) (entry_texts old))
          ∙ ap (without_texts (g.A.Analyst.held c.args.analyst.now))
          (sym (text-popped old now c.pop.new.self inv.entries inv.fewer popped some c.in-Some.text last));
    }

pub loop-self-preserved : goal.loop-self-preserved
loop-self-preserved g c =
    let now = c.loop-self.self.entries in
    let same = ap (λ kept. kept.entries) c.self.view_is in
    let more : c.args.room < length now = omega (arith, c.loop-self-test.true, c.size.ensures) in
    let none : None ≡ slice_get (entry_texts now) (length now - 1) =
    sym c.in_default.is ∙ c.pop.ensures.text ∙ ap (λ l. slice_get (entry_texts l) (length l - 1)) same in
    absurd (inside_none (entry_texts now) (length now - 1) none (omega (arith, length-map now (λ (entry : Entry). entry.0))))
