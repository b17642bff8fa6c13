-- What a build of a machine has analysed, and what is kept afterwards.
-- After Beatty and Bryant, "Fast Incremental Circuit Analysis Using Extracted Hierarchy", 1988.
use Rattle.std.specs.Prelude.{◌≡◌, ◌⊎◌, ℕ, List, [], ◌++◌, length, All, Option, None}
use Rattle.switch_paths.specs.Graphs.{GraphData}
use Rattle.group_meaning.specs.Groups.{Group, AreGroups}
use Rattle.group_text.specs.Texts.{GroupTextData}
use Rattle.group_text.specs.FirstTexts.{new_texts}
use Rattle.group_analysis.specs.Using.{kept_after}
use Rattle.circuit_texts.specs.Sizes.{refused_in}
use Rattle.circuit_texts.specs.Told.{told}

-- the texts of those of the graph's groups that have one, in order; none of the groups is refused with this bound
pub record HasTexts (large : ℕ) (g : GraphData) (texts : List GroupTextData) : Type 0 where
  pub groups : List Group
  pub are : AreGroups g groups
  pub fit : All (λ group. refused_in large group ≡ None) groups
  pub texts_are : texts ≡ told g groups

-- a build of the graph over what is kept has these texts analysed: the distinct ones that aren't kept, in order of first appearance
pub record BuildsFresh (large : ℕ) (g : GraphData) (kept fresh : List GroupTextData) : Type 0 where
  pub texts : List GroupTextData
  pub has : HasTexts large g texts
  pub fresh_are : fresh ≡ new_texts kept texts

-- a build was done: so many texts were new, and were analysed, in order; all present texts are at the front of what is kept, in order of
-- first appearance, and what is past the bound was cut
pub record Builds (large : ℕ) (g : GraphData) (bound : Option ℕ) (old new before after : List GroupTextData) (count : ℕ) : Type 0 where
  pub present : List GroupTextData
  pub has : HasTexts large g present
  pub kept : new ≡ kept_after bound present old
  pub analysed : after ≡ before ++ new_texts old present
  pub number : count ≡ length (new_texts old present)

-- what isn't kept of the texts that a build of the graph wants was analysed, in order, and is kept behind what was kept; the count is its
-- number
pub record Fills (large : ℕ) (g : GraphData) (old new before after : List GroupTextData) (count : ℕ) : Type 0 where
  pub fresh : List GroupTextData
  pub news : BuildsFresh large g old fresh
  pub kept : new ≡ old ++ fresh
  pub analysed : after ≡ before ++ fresh
  pub number : count ≡ length fresh

-- a build was cut off: a prefix of what is new was analysed and is kept behind what was kept, and at most the next one was analysed beside
pub record BuildsSome (large : ℕ) (g : GraphData) (old new before after : List GroupTextData) : Type 0 where
  pub fresh : List GroupTextData
  pub more : List GroupTextData
  pub further : List GroupTextData
  pub rest : List GroupTextData
  pub news : BuildsFresh large g old fresh
  pub front : fresh ≡ more ++ (further ++ rest)
  pub kept : new ≡ old ++ more
  pub analysed : after ≡ before ++ (more ++ further)
  pub one : (further ≡ []) ⊎ (length further ≡ 1)

-- a build ran out of memory: nothing was analysed, or a prefix of what is new
abbrev pub IsCutOff : ℕ → GraphData → List GroupTextData → List GroupTextData → List GroupTextData → List GroupTextData → Type 0
IsCutOff large g old new before after = ((new ≡ old) × (after ≡ before)) ⊎ BuildsSome large g old new before after
