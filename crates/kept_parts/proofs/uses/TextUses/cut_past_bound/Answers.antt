-- There is room for as many as are in use, or for more; and what is used stands in front if something is cut.
use Rattle.std.proofs.Common.{◌≡◌, max, Some, length, take, sym, ap, ◌∙◌, arith}
use Rattle.group_text.specs.FirstTexts.{first_texts}
use Rattle.group_analysis.specs.Held.{set_of}
use Rattle.analysis_cache.specs.Keeping.{texts_of}
use Rattle.analysis_cache.proofs.HoldingLemmas.{set-used}
use Rattle.kept_parts.specs.Uses.{in_use}
use Rattle.kept_parts.proofs.BoundLemmas.{distinct-in_use, CutsTo-roomy, CutsTo-cut}
use Rattle.kept_parts.proofs.uses.TextUses.cut_past_bound.Given.{Over}
use Rattle.kept_parts.proofs.uses.TextUses.cut_past_bound.Goals.{In-Some, After-room_for-room}
use Rattle.kept_parts.proofs.uses.TextUses.cut_past_bound.Goals as goal

-- there is a bound
bound_is : (g : Over) (c : In-Some g) → c.args.kept.now.bound ≡ Some c.in-Some.bound
bound_is g c = sym c.bound.ensures ∙ c.in-Some.is

-- the texts in use are counted
counted : (g : Over) (c : After-room_for-room g) → c.self.inside.distinct ≡ length (first_texts (in_use c.args.self.now))
counted g c =
    let i = c.self.inside in
    distinct-in_use i.known.keys i.counts.items i.numbers.items i.distinct c.self.invariant
    ∙ ap (λ uses. length (first_texts (in_use uses))) c.self.view_is

pub returns-then-size-room-clause-cuts : goal.returns-then-size-room-clause-cuts
returns-then-size-room-clause-cuts g c =
    let at = goal.at.returns-then-size-room-clause-cuts g c in
    CutsTo-roomy (in_use c.args.self.now) c.args.kept.now c.in-Some.bound (bound_is g at.In-Some)
    (omega (arith, c.if-size-room.true, c.size.ensures.size, c.room_for-room.ensures, ap (max c.in-Some.bound) (counted g at.After-room_for-room))) c.requires

pub returns-clause-cuts : goal.returns-clause-cuts
returns-clause-cuts g c =
    let at = goal.at.returns-clause-cuts g c in
    CutsTo-cut (in_use c.args.self.now) c.args.kept.now c.in-Some.bound (bound_is g at.In-Some) c.use_all.new.kept c.cut_to.new.self c.use_all.ensures.texts
    (c.cut_to.ensures.entries ∙ ap (λ room. take room c.use_all.new.kept.entries) (c.room_for-room.ensures ∙ ap (max c.in-Some.bound) (counted g at.After-room_for-room)))
    (c.cut_to.ensures.bound ∙ c.use_all.ensures.bound)

pub returns-clause-holds : goal.returns-clause-holds
returns-clause-holds g c = λ holds.
    let used = ap (λ texts. set_of texts) c.use_all.ensures.texts ∙ set-used (in_use c.args.self.now) (texts_of c.args.kept.now) c.requires in
    c.cut_to.ensures.holds (holds ∙ sym used)
