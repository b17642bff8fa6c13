-- What the table finds for a text is what is shown under it.
use Rattle.std.proofs.Common.{◌≡◌, Option, All, not, sym, ap, subst, ◌∙◌}
use Rattle.std.specs.Map.{lookup}
use Rattle.group_analysis.specs.Meaning.{MeansText}
use Rattle.group_text.specs.Compared.{same_text}
use Rattle.group_text.specs.FirstTexts.{is_among}
use Rattle.analysis_cache.specs.Keeping.{entry_texts}
use Rattle.analysis_cache.specs.Table.{entries_in, shown}
use Rattle.analysis_cache.proofs.TableLemmas.{Table, lookup-shown, is_none-lookup, MeansText-lookup, code-lent, is_none-lent, IfSome-lent}
use Rattle.analysis_cache.proofs.recent.Recent.code.Goals as goal

pub returns-in-Some-clause-code : goal.returns-in-Some-clause-code
returns-in-Some-clause-code c =
    let same : shown c.in-Some.codes.entries ≡ c.args.self.now = sym (ap entries_in c.in-Some.is) ∙ c.self.view_is in
    code-lent c.peek.result _ c.peek.ensures
    ∙ lookup-shown c.in-Some.codes.entries c.args.text.now
    ∙ ap (lookup (same_text c.args.text.now)) same

pub returns-in-Some-clause-means : goal.returns-in-Some-clause-means
returns-in-Some-clause-means c =
    IfSome-lent c.peek.result _ (λ code. MeansText c.args.text.now code.value) c.peek.ensures
    (MeansText-lookup c.in-Some.codes.entries c.args.text.now
    (subst (λ (codes : Option Table). All (λ entry. MeansText entry.0 entry.1) (entries_in codes)) c.in-Some.is c.self.invariant.0.means))

pub returns-in-Some-clause-none : goal.returns-in-Some-clause-none
returns-in-Some-clause-none c =
    let same : shown c.in-Some.codes.entries ≡ c.args.self.now = sym (ap entries_in c.in-Some.is) ∙ c.self.view_is in
    is_none-lent c.peek.result _ c.peek.ensures
    ∙ is_none-lookup c.in-Some.codes.entries c.args.text.now
    ∙ ap (λ kept. not (is_among (entry_texts kept) c.args.text.now)) same
