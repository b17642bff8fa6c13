-- Which texts an analyst was given.
use Rattle.std.specs.Prelude.{◌≡◌, List, ◌++◌}
use Rattle.group_text.specs.Texts.{GroupTextData}

-- a prefix of these texts was analysed, in order, and no other text
pub record AnalysesFront (before after texts : List GroupTextData) : Type 0 where
  pub front : List GroupTextData
  pub rest : List GroupTextData
  pub texts_are : texts ≡ front ++ rest
  pub analysed : after ≡ before ++ front
