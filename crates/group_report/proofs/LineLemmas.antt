-- The lines of a report, one after another: the line of a group that is passed stands before those of the groups after it.
use Rattle.std.proofs.Common.{◌≡◌, ℕ, ◌+◌, ◌<◌, List, ◌∷◌, ◌++◌, length, get_or, take, drop, Option, sym, ap, subst, ◌∙◌}
use Rattle.std.proofs.lemmas.List.{drop_more}
use Rattle.ports.specs.Sending.{Sends}
use Rattle.group_meaning.specs.Groups.{Group}
use Rattle.netlist.specs.Circuits.{CircuitData}
use Rattle.group_report.specs.Report.{line_of, line_with, lines_from}
use Rattle.group_report.specs.Noted.{Noted, AreNoted, NotesGroup, noted_number}
use Rattle.group_report.proofs.NumberLemmas.{AreNoted-more, text_number-noted}

-- of the group at this place the text was noted, and then its line was made
pub record IsMade (c : CircuitData) (groups : List Group) (place : ℕ) (group : Group) (old new : Noted) (line : List ℕ) : Type 0 where
  pub inside : place < length groups
  pub here : get_or groups place group ≡ group
  pub before : AreNoted c.graph (take place groups) old
  pub notes : NotesGroup c.graph group (place + 1) old new
  pub whole : line ≡ line_with c (place + 1) (noted_number c.graph new group) group

-- so the texts of the groups up to it are noted
pub AreNoted-made : {c : CircuitData} {groups : List Group} {place : ℕ} {group : Group} {old new : Noted} {line : List ℕ} →
    IsMade c groups place group old new line → AreNoted c.graph (take (place + 1) groups) new
AreNoted-made {c} {groups} {place} {group} {old} {new} made =
    AreNoted-more c.graph groups place group old new made.inside made.here made.before made.notes

-- and the lines from it on are that line and the lines after it
lines_from-made : {c : CircuitData} {groups : List Group} {place : ℕ} {group : Group} {old new : Noted} {line : List ℕ} →
    IsMade c groups place group old new line →
    lines_from c groups (place + 1) (drop place groups) ≡ line ++ lines_from c groups (place + 1 + 1) (drop (place + 1) groups)
lines_from-made {c} {groups} {place} {group} {old} {new} {line} made =
    let number = text_number-noted c.graph groups place group new made.inside made.here (AreNoted-made made) in
    let is : line ≡ line_of c groups (place + 1) group =
    made.whole ∙ ap (λ text. line_with c (place + 1) text group) number in
    ap (lines_from c groups (place + 1)) (drop_more groups place group made.inside)
    ∙ ap (λ first. lines_from c groups (place + 1) (first ∷ drop (place + 1) groups)) made.here
    ∙ sym (ap (λ front. front ++ lines_from c groups (place + 1 + 1) (drop (place + 1) groups)) is)

-- where the lines from it on were left to be sent, that line is the next one
pub Sends-made : {c : CircuitData} {groups : List Group} {place : ℕ} {group : Group} {old new : Noted} {line : List ℕ} →
    IsMade c groups place group old new line → (before now : Option (List ℕ)) (text : List ℕ) →
    Sends before now text (lines_from c groups (place + 1) (drop place groups)) →
    Sends before now text (line ++ lines_from c groups (place + 1 + 1) (drop (place + 1) groups))
Sends-made made before now text sends = subst (Sends before now text) (lines_from-made made) sends
