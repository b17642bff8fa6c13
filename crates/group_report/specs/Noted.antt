-- What is noted while a report is written: for each text that was met the number of the first group that has it.
use Rattle.std.specs.Prelude.{◌≡◌, ℕ, List, unwrap_or, Option, Some, None, if◌then◌else◌}
use Rattle.indexmap.specs.IndexMap.{IndexMap, get}
use Rattle.table_keys.specs.declared.TableKeys.{TableKeys}
use Rattle.switch_paths.specs.Graphs.{GraphData}
use Rattle.group_meaning.specs.Groups.{Group}
use Rattle.group_text.specs.Texts.{GroupTextData, text_of_group}
use Rattle.group_text.specs.Compared.{same_text}
use Rattle.group_report.specs.Report.{has_text, is_of_text, number_of_text}

-- texts with numbers
abbrev pub Noted : Type 0
Noted = IndexMap GroupTextData ℕ TableKeys

-- the number under which a text is noted
abbrev pub number_at : Noted → GroupTextData → Option ℕ
number_at noted text = get same_text noted text

-- each text has the number of the first of these groups that has it, and a text that none has isn't noted
abbrev pub AreNoted : GraphData → List Group → Noted → Type 0
AreNoted g groups noted = (text : GroupTextData) → number_at noted text ≡ number_of_text g groups text

-- the text has the number that it had or else this one, and the other texts are noted as before
abbrev pub NotesText : GroupTextData → ℕ → Noted → Noted → Type 0
NotesText text number old new =
    (other : GroupTextData) → number_at new other
    ≡ (if same_text text other then Some (unwrap_or (number_at old other) number) else number_at old other)

-- the text of the group, if it has one, has the number that it had or else this one, and the other texts are noted as before
abbrev pub NotesGroup : GraphData → Group → ℕ → Noted → Noted → Type 0
NotesGroup g group number old new =
    (other : GroupTextData) → number_at new other
    ≡ (if is_of_text g other group then Some (unwrap_or (number_at old other) number) else number_at old other)

-- the number under which the text of a group is noted, if it has one
abbrev pub noted_number : GraphData → Noted → Group → Option ℕ
noted_number g noted group = if has_text group then number_at noted (text_of_group g group) else None
