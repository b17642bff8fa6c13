use Rattle.std.proofs.Common.{◌≡◌, drop}
use Rattle.help_texts.specs.Texts.{entries_of, text_of}
use Rattle.help_texts.proofs.finding.text_of.Given as goal

-- no entry before this one has the name
abbrev pub invariant-loop-entry : goal.invariant-loop-entry
invariant-loop-entry l = text_of (entries_of l.table) l.name ≡ text_of (entries_of (drop l.entry-index l.table)) l.name
