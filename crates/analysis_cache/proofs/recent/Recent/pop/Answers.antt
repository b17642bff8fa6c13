-- The last text of the table goes.
use Rattle.std.proofs.Common.{◌≡◌, ◌-◌, Contains, length, take, Option, sym, ap, subst, ◌∙◌}
use Rattle.std.specs.Prelude.{slice_get}
use Rattle.lru.proofs.CallerLemmas.{Contains-take}
use Rattle.analysis_cache.specs.Keeping.{IsKept, entry_texts}
use Rattle.analysis_cache.specs.Table.{IsRoomy, entries_in, shown}
use Rattle.analysis_cache.proofs.TableLemmas.{Table, IsKept-some, last_text, shown-popped}
use Rattle.analysis_cache.proofs.recent.Recent.pop.Goals as goal

pub invariant_of-self-2 : goal.invariant_of-self-2
invariant_of-self-2 c =
    let rows = c.in-Some.codes.entries in
    let kept = subst (λ (codes : Option Table). IsKept (entries_in codes)) c.in-Some.is c.self.invariant.0 in (
      IsKept-some rows c.pop_lru.new.self.entries
          (λ row there. Contains-take (length rows - 1) rows row
          (subst (λ (table : Table). Contains table.entries row) c.pop_lru.ensures.entries there)) kept c.texts_are_apart.ensures.apart,
      ap (λ table. table.cap) c.pop_lru.ensures.entries ∙ subst IsRoomy c.in-Some.is c.self.invariant.1,
    )

pub returns-clause-text : goal.returns-clause-text
returns-clause-text c =
    let rows = c.in-Some.codes.entries in
    let same : shown rows ≡ c.args.self.now = sym (ap entries_in c.in-Some.is) ∙ c.self.view_is in
    last_text rows (c.in_ok-text.text, c.in_ok-text.field-0-1) c.in_ok-text.ensures.value
    ∙ ap (λ kept. slice_get (entry_texts kept) (length kept - 1)) same

pub returns-clause-rest : goal.returns-clause-rest
returns-clause-rest c =
    let rows = c.in-Some.codes.entries in
    let same : shown rows ≡ c.args.self.now = sym (ap entries_in c.in-Some.is) ∙ c.self.view_is in
    ap (λ table. shown table.entries) c.pop_lru.ensures.entries
    ∙ shown-popped rows
    ∙ ap (λ kept. take (length kept - 1) kept) same
