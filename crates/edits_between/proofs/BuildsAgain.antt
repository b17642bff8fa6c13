-- A build of a graph whose texts are those of the last build: nothing is new, and what is kept stays as it is.
use Rattle.std.proofs.Common.{◌≡◌, ℕ, List, [], ◌++◌, length, None, sym, ap, ◌∙◌}
use Rattle.std.proofs.lemmas.List.{append-nil}
use Rattle.switch_paths.specs.Graphs.{GraphData}
use Rattle.group_text.specs.Texts.{GroupTextData}
use Rattle.group_text.specs.FirstTexts.{new_texts}
use Rattle.group_analysis.specs.Using.{used_texts}
use Rattle.analysis_cache.proofs.OrderLemmas.{used_texts-used}
use Rattle.analysis_cache.proofs.SettleLemmas.{none_is_new_again}
use Rattle.circuit_texts.specs.Building.{Builds, HasTexts}

pub builds_again : (large : ℕ) (g : GraphData) (last kept before : List GroupTextData) → HasTexts large g last →
    Builds large g None (used_texts last kept) (used_texts last kept) before before 0
builds_again large g last kept before has = record {
  present = last;
  has = has;
  kept = sym (used_texts-used last kept);
  analysed = sym (append-nil before) ∙ ap (λ texts. before ++ texts) (sym none);
  number = sym (ap length none);
}
  where
    none : new_texts (used_texts last kept) last ≡ []
    none = none_is_new_again None last kept
