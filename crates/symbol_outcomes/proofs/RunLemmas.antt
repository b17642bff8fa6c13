-- Lines run in all columns, whatever they are; and a symbolic script has an answer.
use Rattle.std.proofs.Common.{ℕ, Bool, false, List, [], ◌∷◌, ◌++◌, length, Option, None, Some, refl}
use Rattle.std.proofs.lemmas.Nat.{pow_pos}
use Rattle.group_text.specs.Texts.{GroupTextData}
use Rattle.session_meaning.specs.Sessions.{SessionData}
use Rattle.symbol_meaning.specs.Scripts.{before_stop, read_of, stop_of, variables_of}
use Rattle.symbol_meaning.specs.Readings.{Valuations, valuations_of}
use Rattle.symbol_meaning.specs.Told.{SymbolTold}
use Rattle.symbol_meaning.specs.Runs.{IsObeyedInAll, answer_told}
use Rattle.symbol_meaning.specs.Runs.RunsInAll.{ends, obeys, refuses}
use Rattle.symbol_run.specs.Turns.{RunsWith}
use Rattle.symbol_outcomes.specs.Families.{IsFamily}
use Rattle.symbol_outcomes.specs.Laws.{SymbolicLinesRun, SymbolicScriptsHaveAnswers}
use Rattle.symbol_outcomes.specs.Outcomes.{ComesInAll}
use Rattle.symbol_outcomes.specs.Outcomes.ComesInAll.{obeyed, refused}
use Rattle.symbol_outcomes.proofs.FamilyLemmas.{one_family}
use Rattle.symbol_outcomes.proofs.LineLemmas.{family_obeyed, line_comes}

-- a line that is obeyed and tells this, and then what runs behind it
runs_behind : (quiet : Bool) (v : Valuations) (cut : Option ℕ) (old new : ℕ → SessionData) (line : ℕ × List ℕ) (rest : List (ℕ × List ℕ)) (told : List SymbolTold)
    (texts : List GroupTextData) → IsObeyedInAll quiet v cut old line new told texts → RunsWith quiet v cut new rest [] → RunsWith quiet v cut old (line ∷ rest) told
runs_behind quiet v cut old new line rest told texts is later = record {
  new = later.new;
  more = later.more;
  texts = texts ++ later.texts;
  last = later.last;
  runs = obeys old new later.new line rest told later.more texts later.texts later.last is later.runs;
}

-- the same if nothing is asked of what it tells
runs_on : (quiet : Bool) (v : Valuations) (cut : Option ℕ) (old : ℕ → SessionData) (lines : List (ℕ × List ℕ)) (told : List SymbolTold) →
    RunsWith quiet v cut old lines told → RunsWith quiet v cut old lines []
runs_on quiet v cut old lines told is =
    record { new = is.new; more = told ++ is.more; texts = is.texts; last = is.last; runs = is.runs }

pub lines_run : SymbolicLinesRun
lines_run quiet v cut old columns [] = record { new = old; more = []; texts = []; last = None; runs = ends old }
lines_run quiet v cut old columns (line ∷ rest) =
    by (λ new behind. lines_run quiet v cut new behind rest) (line_comes quiet v cut old columns line)
  where
    by : ((new : ℕ → SessionData) → IsFamily v.columns new → RunsWith quiet v cut new rest []) → ComesInAll quiet v cut old line →
        RunsWith quiet v cut old (line ∷ rest) []
    by later (obeyed new told texts is behind) =
        runs_on quiet v cut old (line ∷ rest) told (runs_behind quiet v cut old new line rest told texts is (later new behind))
    by later (refused cause is) =
        record { new = old; more = []; texts = []; last = Some (record { line = line.0; cause = cause }); runs = refuses old line rest cause is }

-- where a line is obeyed and tells this, some run of it and the lines behind it tells it first
pub runs_first : (quiet : Bool) (v : Valuations) (cut : Option ℕ) (old : ℕ → SessionData) → IsFamily v.columns old → (new : ℕ → SessionData) (line : ℕ × List ℕ)
    (rest : List (ℕ × List ℕ)) (told : List SymbolTold) (texts : List GroupTextData) → IsObeyedInAll quiet v cut old line new told texts →
    RunsWith quiet v cut old (line ∷ rest) told
runs_first quiet v cut old columns new line rest told texts is =
    runs_behind quiet v cut old new line rest told texts is (lines_run quiet v cut new (family_obeyed quiet v cut old columns line new told texts is) rest)

pub answers_exist : SymbolicScriptsHaveAnswers
answers_exist cut start ready lines =
    let read = read_of false cut lines in
    let v = valuations_of read in
    let stop = stop_of false cut lines in
    let ran = lines_run false v cut (λ column. start) (one_family v.columns start (pow_pos (length (variables_of read))) ready) (before_stop stop lines) in (
      answer_told (variables_of read) ran.more ran.last stop ran.texts,
      record { end = ran.new; told = ran.more; last = ran.last; runs = ran.runs; told_is = refl },
    )
