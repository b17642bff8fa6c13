-- Samples of generated circuits, and the words that tell of them.
use Rattle.std.specs.Prelude.{ℕ, List, codes, bytes_eq, if◌then◌else◌, Option, Some, None, option_map}
use Rattle.std.specs.Option.{option_and_then}
use Rattle.line_words.specs.Decimals.{decimal_of}
use Rattle.net_gen.specs.declared.families.GenKind.{GenKind}
use Rattle.net_gen.specs.declared.families.GenKind.TheVariants.{Inverters, Passes, Columns}
use Rattle.net_gen.specs.declared.families.GenPart.{GenPart}
use Rattle.net_gen.specs.declared.families.GenPart.TheVariants.{Net, Script}
use Rattle.net_gen.specs.Families.{is_row_count, generated}
use Rattle.command_line.specs.declared.sample.Sample as code_sample

-- a sample of a family of circuits: the family, the seed of its script's draws, and how many rows it has
pub record Sample : Type 0 where
  pub kind : GenKind
  pub seed : ℕ
  pub rows : ℕ

-- a sample of the code, as it is meant here
abbrev pub sample_seen : code_sample.Sample → Sample
sample_seen sample = record { kind = sample.kind; seed = sample.seed; rows = sample.rows }

-- the text of a part of a sample
abbrev pub text_of : GenPart → Sample → List ℕ
text_of part sample = generated sample.kind part sample.seed sample.rows

-- the part that a word names
abbrev pub part_of : List ℕ → Option GenPart
part_of word = if bytes_eq word (codes "net") then Some Net else (if bytes_eq word (codes "script") then Some Script else None)

-- the family that a word names
abbrev pub kind_of : List ℕ → Option GenKind
kind_of word =
    if bytes_eq word (codes "inverters") then Some Inverters
    else (if bytes_eq word (codes "passes") then Some Passes
    else (if bytes_eq word (codes "columns") then Some Columns else None))

-- the number of rows that a word writes, from 1 to the most that a text may have
abbrev pub rows_of : List ℕ → Option ℕ
rows_of word = option_and_then (λ rows. if is_row_count rows then Some rows else None) (decimal_of word)

-- the sample that the words for its family, its seed and its number of rows tell
abbrev pub sample_of : List ℕ → List ℕ → List ℕ → Option Sample
sample_of kind seed rows =
    option_and_then (λ family. option_and_then (λ start. option_map (λ count. record { kind = family; seed = start; rows = count })
    (rows_of rows)) (decimal_of seed)) (kind_of kind)
