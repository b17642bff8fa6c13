-- The texts of a last build in front of what is kept: if there was no build, what is kept stands as a table has it.
use Rattle.std.proofs.Common.{◌≡◌, List, [], sym, subst, arith}
use Rattle.group_text.specs.Texts.{GroupTextData}
use Rattle.group_analysis.specs.Using.{used_texts}
use Rattle.analysis_cache.proofs.OrderLemmas.{used_texts-none}
use Rattle.column_stage.specs.Columns.{AreAmong}

-- if nothing was built, what is kept stands as the table has it
pub kept_alone : (kept : List GroupTextData) → kept ≡ used_texts [] kept
kept_alone kept = sym (used_texts-none kept)

-- and no text of a build is missing
pub none_missing : (kept : List GroupTextData) → AreAmong [] kept
none_missing kept k d inside = absurd (omega (arith, inside))

-- the same texts are among what is kept
pub same_among : (last now kept : List GroupTextData) → now ≡ last → AreAmong last kept → AreAmong now kept
same_among last now kept same among = subst (λ (texts : List GroupTextData). AreAmong texts kept) (sym same) among
