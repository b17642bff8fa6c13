-- There are no more distinct texts than texts, and those that stand in front are counted.
use Rattle.std.proofs.Common.{◌≡◌, [], ◌++◌, length, sym, ap, ◌∙◌, arith, length-append}
use Rattle.group_text.specs.FirstTexts.{first_texts}
use Rattle.analysis_cache.specs.Keeping.{entry_texts}
use Rattle.analysis_cache.specs.Table.{entries_in, shown}
use Rattle.analysis_cache.proofs.TableLemmas.{entry_texts-shown}
use Rattle.analysis_cache.proofs.CountLemmas.{length-first}
use Rattle.analysis_cache.proofs.recent.Recent.room.Goals as goal
use Rattle.analysis_cache.proofs.recent.Recent.room.Goals.{in-None, in-Some}

pub returns-then-texts-bound : goal.returns-then-texts-bound
returns-then-texts-bound c = omega (arith, length-first c.args.texts.now, c.if-texts-bound.true)

pub count_front-distinct-requires : goal.count_front-distinct-requires
count_front-distinct-requires c =
    let rows = c.in-Some.codes.entries in
    let same : shown rows ≡ c.args.self.now = sym (ap entries_in c.in-Some.is) ∙ c.self.view_is in
    record { others = c.requires.others; are = sym (entry_texts-shown rows) ∙ ap entry_texts same ∙ c.requires.are }

pub returns : goal.returns
returns c =
    let texts = c.args.texts.now in
    let count = length (first_texts texts) in
    let counted : c.match-self.distinct ≡ count = elim c.match-self.branch [
      | in-None w ↦
          let none : [] ≡ first_texts texts ++ c.requires.others =
          ap entry_texts (sym (ap entries_in w.in-None.is) ∙ c.self.view_is) ∙ c.requires.are in
          w.distinct-is ∙ omega (arith, ap length none, length-append (first_texts texts) c.requires.others)
      | in-Some w ↦ w.distinct-is ∙ w.count_front-distinct.ensures
    ] in
    omega (arith, counted, c.max.ensures)
