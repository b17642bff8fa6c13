-- Texts that stand in front of others.
use Rattle.std.specs.Prelude.{◌≡◌, List, ◌++◌}
use Rattle.group_text.specs.Texts.{GroupTextData}

-- these texts stand first
pub record StartsWith (front texts : List GroupTextData) : Type 0 where
  pub others : List GroupTextData
  pub are : texts ≡ front ++ others
