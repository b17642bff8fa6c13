-- A text that isn't here stands behind all others, under its own code.
use Rattle.std.proofs.Common.{◌≡◌, Option, sym, ap, subst, ◌∙◌}
use Rattle.group_text.specs.FirstTexts.{is_among}
use Rattle.analysis_cache.specs.Keeping.{IsKept, entry_texts}
use Rattle.analysis_cache.specs.Table.{IsRoomy, entries_in, shown}
use Rattle.analysis_cache.proofs.TableLemmas.{Table, IsKept-put, entry_texts-shown}
use Rattle.analysis_cache.proofs.recent.Recent.push.Goals as goal

pub put_last-requires-clause-absent : goal.put_last-requires-clause-absent
put_last-requires-clause-absent c =
    let rows = c.in-Some.codes.entries in
    let same : shown rows ≡ c.args.self.now = sym (ap entries_in c.in-Some.is) ∙ c.self.view_is in
    ap (λ texts. is_among texts c.args.text.now) (sym (entry_texts-shown rows) ∙ ap entry_texts same) ∙ c.requires.absent

pub invariant_of-self : goal.invariant_of-self
invariant_of-self c =
    let kept = subst (λ (codes : Option Table). IsKept (entries_in codes)) c.in-Some.is c.self.invariant.0 in
    IsKept-put c.put_last.result c.in-Some.codes c.put_last.new.codes c.args.text.now c.args.code kept (subst IsRoomy c.in-Some.is c.self.invariant.1)
    c.requires.means c.put_last.ensures.ok c.put_last.ensures.apart c.put_last.ensures.err
