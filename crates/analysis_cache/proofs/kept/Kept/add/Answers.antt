-- The text goes last, under its own code.
use Rattle.std.proofs.Common.{[], ◌∷◌, ◌++◌, ap, ◌∙◌}
use Rattle.analysis_cache.proofs.CutLemmas.{on_ok}
use Rattle.analysis_cache.proofs.HeldLemmas.{with_texts-one}
use Rattle.analysis_cache.proofs.kept.Kept.add.Goals as goal

pub returns-clause-ok : goal.returns-clause-ok
returns-clause-ok g c =
    let text = c.args.text.now in
    on_ok c.push.result (λ put. record {
      code = c.in_ok-shared.shared.value;
      kept = put ∙ ap (λ kept. kept.entries ++ (text, c.in_ok-shared.shared.value) ∷ []) c.self.view_is;
      bound = ap (λ kept. kept.bound) c.self.view_is;
      analysed = c.in_ok-code.ensures.ok;
      held = c.in_ok-code.ensures.holds ∙ with_texts-one (g.A.Analyst.held c.args.analyst.now) text;
    }) c.push.ensures.ok
