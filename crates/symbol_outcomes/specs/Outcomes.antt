-- What a line of a symbolic script comes to in all columns of a session: it is obeyed, or refused for one cause.
use Rattle.std.specs.Prelude.{ℕ, Bool, List, Option}
use Rattle.group_text.specs.Texts.{GroupTextData}
use Rattle.run_ends.specs.Causes.{Cause}
use Rattle.session_meaning.specs.Sessions.{SessionData}
use Rattle.symbol_meaning.specs.Readings.{Valuations}
use Rattle.symbol_meaning.specs.Told.{SymbolTold}
use Rattle.symbol_meaning.specs.Runs.{AreRefused, IsObeyedInAll}
use Rattle.symbol_outcomes.specs.Families.{IsFamily}

-- the line is obeyed in all columns, which are those of one session behind it too; or it is refused in all for one cause
pub data ComesInAll (quiet : Bool) (v : Valuations) (cut : Option ℕ) (old : ℕ → SessionData) (line : ℕ × List ℕ) : Type 0 where
  obeyed : (new : ℕ → SessionData) (told : List SymbolTold) (texts : List GroupTextData) → IsObeyedInAll quiet v cut old line new told texts →
      IsFamily v.columns new → ComesInAll quiet v cut old line
  refused : (cause : Cause) → AreRefused quiet v cut old line cause → ComesInAll quiet v cut old line
