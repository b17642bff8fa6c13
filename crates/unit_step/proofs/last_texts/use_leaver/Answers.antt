-- A text that some part has stays if it is.
use Rattle.std.proofs.Common.{◌<◌, length, sym, ap, ◌∙◌}
use Rattle.analysis_cache.specs.Keeping.{texts_of}
use Rattle.group_analysis.specs.Using.{used_texts}
use Rattle.analysis_cache.proofs.OrderLemmas.{used_texts-none}
use Rattle.unit_step.proofs.LastTextsLemmas.{if_some_at}
use Rattle.unit_step.proofs.UsedInTurn.{leaver-none}
use Rattle.unit_step.proofs.last_texts.use_leaver.Goals as goal

pub returns-else-not-is_used-clause-uses : goal.returns-else-not-is_used-clause-uses
returns-else-not-is_used-clause-uses c =
    let uses = c.args.uses.now in
    let kept = texts_of c.args.kept.now in
    let one = c.in-Some.number in
    let inside = if_some_at (λ n. n < length uses.known) c.args.number one c.requires.inside c.in-Some.is in
    let none = leaver-none uses c.args.number one c.in-Some.is inside (λ text here. sym (c.is_used.ensures text here) ∙ c.if-not-is_used.false) in
    sym (ap (λ texts. used_texts texts kept) none ∙ used_texts-none kept)

pub returns-in_default-clause-uses : goal.returns-in_default-clause-uses
returns-in_default-clause-uses c = rw c.in_default.is (sym (used_texts-none (texts_of c.args.kept.now)))
