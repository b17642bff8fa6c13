-- What stands in the table after a text went to its front is what stood there.
use Rattle.std.proofs.Common.{◌≡◌, Contains, Option, sym, ap, subst, ◌∙◌}
use Rattle.std.specs.Map.{keys_of}
use Rattle.lru.specs.LruCache.{promoted}
use Rattle.lru.proofs.CallerLemmas.{Contains-promoted}
use Rattle.group_text.specs.Compared.{same_text}
use Rattle.group_text.specs.FirstTexts.{is_among}
use Rattle.group_analysis.specs.Using.{to_front}
use Rattle.analysis_cache.specs.Keeping.{IsKept, entry_texts}
use Rattle.analysis_cache.specs.Table.{IsRoomy, entries_in, shown}
use Rattle.analysis_cache.proofs.TableLemmas.{Table, IsKept-some, apart_in, entry_texts-shown, keys-promoted, shown-some}
use Rattle.analysis_cache.proofs.recent.Recent.use_text.Goals as goal

pub invariant_of-self-2 : goal.invariant_of-self-2
invariant_of-self-2 c =
    let rows = c.in-Some.codes.entries in
    let kept = subst (λ (codes : Option Table). IsKept (entries_in codes)) c.in-Some.is c.self.invariant.0 in (
      IsKept-some rows c.promote.new.self.entries
          (λ row there. Contains-promoted (same_text c.args.text.now) rows row
          (subst (λ (table : Table). Contains table.entries row) c.promote.ensures.entries there)) kept c.texts_are_apart.ensures.apart,
      ap (λ table. table.cap) c.promote.ensures.entries ∙ subst IsRoomy c.in-Some.is c.self.invariant.1,
    )

pub returns-clause-texts : goal.returns-clause-texts
returns-clause-texts c =
    let text = c.args.text.now in
    let rows = c.in-Some.codes.entries in
    let same : shown rows ≡ c.args.self.now = sym (ap entries_in c.in-Some.is) ∙ c.self.view_is in
    let kept : IsKept (shown rows) = subst (λ (codes : Option Table). IsKept (entries_in codes)) c.in-Some.is c.self.invariant.0 in
    let keys : keys_of rows ≡ entry_texts c.args.self.now = sym (entry_texts-shown rows) ∙ ap entry_texts same in
    ap (λ table. entry_texts (shown table.entries)) c.promote.ensures.entries
    ∙ entry_texts-shown (promoted (same_text text) rows)
    ∙ keys-promoted rows text (apart_in rows kept) (ap (λ texts. is_among texts text) keys ∙ c.requires)
    ∙ ap (to_front text) keys

pub returns-clause-same : goal.returns-clause-same
returns-clause-same c =
    let rows = c.in-Some.codes.entries in
    let same : shown rows ≡ c.args.self.now = sym (ap entries_in c.in-Some.is) ∙ c.self.view_is in
    λ entry there. subst (λ kept. Contains kept entry) same
    (shown-some rows c.promote.new.self.entries
    (λ row stands. Contains-promoted (same_text c.args.text.now) rows row
    (subst (λ (table : Table). Contains table.entries row) c.promote.ensures.entries stands)) entry there)
