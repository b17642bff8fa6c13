-- Texts that stand in front of what is kept since a build, and what a build leaves that ran out of memory once all was analysed.
use Rattle.std.specs.Prelude.{◌≡◌, ℕ, ◌⊎◌, List, [], Option}
use Rattle.switch_paths.specs.Graphs.{GraphData}
use Rattle.group_text.specs.Texts.{GroupTextData}
use Rattle.group_text.specs.FirstTexts.{new_texts}
use Rattle.group_analysis.specs.Using.{used_texts}
use Rattle.circuit_texts.specs.Building.{Builds, HasTexts, IsCutOff}

-- a build was done, whatever the number of texts is that were new
abbrev pub HasBuilt : ℕ → GraphData → Option ℕ → List GroupTextData → List GroupTextData → List GroupTextData → List GroupTextData → Type 0
HasBuilt large g bound old new before after = (count : ℕ) × Builds large g bound old new before after count

-- a build ran out of memory: nothing was analysed, or a prefix of what is new; or all of it was done, and there was none for the columns
abbrev pub IsCutInColumns : ℕ → GraphData → Option ℕ → List GroupTextData → List GroupTextData → List GroupTextData → List GroupTextData → Type 0
IsCutInColumns large g bound old new before after = IsCutOff large g old new before after ⊎ HasBuilt large g bound old new before after

-- the texts of the graph's groups are kept in front of all others, in order of first appearance: a build finds none new, and moves none
pub record StandFirst (large : ℕ) (g : GraphData) (kept : List GroupTextData) : Type 0 where
  pub present : List GroupTextData
  pub has : HasTexts large g present
  pub none : new_texts kept present ≡ []
  pub first : used_texts present kept ≡ kept
