-- Which texts an analyst was given if it was asked for the new ones and nothing was kept: the distinct texts, or a prefix of them.
use Rattle.std.proofs.Common.{◌≡◌, ℕ, List, [], ◌++◌, map, None, Result, Ok, Err, OnErr, refl, sym, ap, ◌∙◌, append_assoc, append-nil}
use Rattle.switch_paths.specs.Graphs.{GraphData}
use Rattle.group_meaning.specs.Groups.{Group, AreGroups}
use Rattle.group_meaning.proofs.UniqueGroups.{unique}
use Rattle.group_text.specs.Texts.{GroupTextData, text_of_group}
use Rattle.group_text.specs.FirstTexts.{first_texts}
use Rattle.group_analysis.specs.Held.{TextSet}
use Rattle.analysis_cache.specs.Keeping.{KeptData, KeepsAll, KeepsSome, entry_texts, texts_of}
use Rattle.analysis_cache.proofs.DistinctLemmas.{first_texts-first}
use Rattle.analysis_cache.proofs.NewTextLemmas.{new_texts-none_kept}
use Rattle.circuit_listing.specs.Analysed.{AnalysesFront}

-- what holds anyway holds on a fault
pub at_err : {T E P : Type 0} (result : Result T E) → P → OnErr result P
at_err (Ok value) fact = tt
at_err (Err fault) fact = fact

-- nothing is kept, and there is no bound
abbrev pub nothing_kept : KeptData
nothing_kept = record { entries = []; bound = None }

-- all distinct texts were analysed
pub all_analysed : {held_before held_after : TextSet} (old new : KeptData) (before after texts : List GroupTextData) (count : ℕ) →
    old ≡ nothing_kept → KeepsAll old new before after held_before held_after texts count → after ≡ before ++ first_texts texts
all_analysed old new before after texts count none keeps =
    let kept : texts_of old ≡ [] = ap texts_of none in
    keeps.analysed ∙ ap (λ more. before ++ more) (rw kept (new_texts-none_kept texts))

-- and so a prefix of them was
pub front_of_all : (before after texts : List GroupTextData) → after ≡ before ++ texts → AnalysesFront before after texts
front_of_all before after texts analysed = record { front = texts; rest = []; texts_are = sym (append-nil texts); analysed = analysed }

-- before the first text none was
pub front_none : (before after texts : List GroupTextData) → after ≡ before → AnalysesFront before after texts
front_none before after texts same = record { front = []; rest = texts; texts_are = refl; analysed = same ∙ sym (append-nil before) }

-- where not all could be kept, a prefix of them was analysed
pub front_some : {held_before held_after : TextSet} (old new : KeptData) (before after texts : List GroupTextData) →
    old ≡ nothing_kept → KeepsSome old new before after held_before held_after texts → AnalysesFront before after (first_texts texts)
front_some old new before after texts none keeps =
    let kept : texts_of old ≡ [] = ap texts_of none in
    record {
      front = entry_texts keeps.more ++ keeps.further;
      rest = keeps.rest;
      texts_are =
          sym (rw kept (new_texts-none_kept texts)) ∙ keeps.front
          ∙ sym (append_assoc (entry_texts keeps.more) keeps.further keeps.rest);
      analysed = keeps.analysed;
    }

module _ (g : GraphData) (groups : List Group) (are : AreGroups g groups) (texts : List GroupTextData)
    (texts_are : texts ≡ first_texts (map (text_of_group g) groups)) (before after : List GroupTextData) where
  -- the texts are distinct already
  distinct : first_texts texts ≡ first_texts (map (text_of_group g) groups)
  distinct = ap first_texts texts_are ∙ first_texts-first (map (text_of_group g) groups)

  -- a prefix of the distinct texts of the groups that were found is one of those of all groups of the graph
  pub front_of_groups : AnalysesFront before after (first_texts texts) → (others : List Group) → AreGroups g others →
      AnalysesFront before after (first_texts (map (text_of_group g) others))
  front_of_groups front others others_are =
      rw (unique g others groups others_are are, ← distinct) front

  -- so are all of them
  pub all_of_groups : after ≡ before ++ first_texts texts → (others : List Group) → AreGroups g others →
      after ≡ before ++ first_texts (map (text_of_group g) others)
  all_of_groups analysed others others_are =
      rw (unique g others groups others_are are, ← distinct) analysed
