-- A script runs line by line: what comes of it is what comes of the lines before the first refused one, and then that refusal.
use Rattle.std.proofs.Common.{◌≡◌, ℕ, inl, inr, true, List, [], ◌∷◌, ◌++◌, Option, refl, sym, ap, subst, ◌∙◌, append_assoc, append-nil, true≢false}
use Rattle.std.specs.Prelude.{◌⊎◌}
use Rattle.group_text.specs.Texts.{GroupTextData}
use Rattle.session_meaning.specs.Sessions.{SessionData}
use Rattle.session_meaning.specs.Preparing.{builds}
use Rattle.told_lines.specs.Lines.{Line}
use Rattle.run_ends.specs.Causes.{Cause}
use Rattle.script_meaning.specs.Runs.{Reading, Outcome, Runs, IsRefused, at_end, refused_at, after_command}
use Rattle.script_meaning.specs.Runs.Runs.{ends, passes, obeys, refuses}
use Rattle.script_meaning.specs.Runs.IsRefused.{too_long, unread, refused, too_large}
use Rattle.script_meaning.specs.FirstRefused.{IsObeyed, AreObeyed, IsWhole, EndsAtFirst, RunsEndAtTheFirst, ObeyedIsNotRefused}
use Rattle.script_meaning.specs.FirstRefused.IsObeyed.{idle, done}
use Rattle.script_meaning.specs.FirstRefused.AreObeyed.{no_line, one_more}
use Rattle.script_meaning.proofs.PerformLemmas.{performs-allowed, performs-fits}

-- how a script ends
abbrev Ends : Reading → Option ℕ → SessionData → List (ℕ × List ℕ) → Outcome → Type 0
Ends reading cut start lines outcome = IsWhole reading cut start lines outcome ⊎ EndsAtFirst reading cut start lines outcome

-- what comes first joins
pub after_command-twice : (wrote more : List Line) (texts others : List GroupTextData) (rest : Outcome) →
    after_command wrote texts (after_command more others rest) ≡ after_command (wrote ++ more) (texts ++ others) rest
after_command-twice wrote more texts others rest =
    let told : List Line → List GroupTextData → Outcome =
    λ lines analysed. record { lines = lines; texts = analysed; end = rest.end; refused = rest.refused } in
    ap (λ lines. told lines (texts ++ (others ++ rest.texts))) (sym (append_assoc wrote more rest.lines))
    ∙ ap (told (wrote ++ more ++ rest.lines)) (sym (append_assoc texts others rest.texts))

-- a line that is obeyed stands before what ends so
later : (reading : Reading) (cut : Option ℕ) (old mid : SessionData) (line : ℕ × List ℕ) (lines : List (ℕ × List ℕ)) (wrote : List Line) (texts : List GroupTextData) (outcome : Outcome)
    → IsObeyed reading cut old line mid wrote texts → Ends reading cut mid lines outcome → Ends reading cut old (line ∷ lines) (after_command wrote texts outcome)
later reading cut old mid line lines wrote texts outcome obeyed (inl whole) = inl (record {
  end = whole.end;
  wrote = wrote ++ whole.wrote;
  texts = texts ++ whole.texts;
  obeyed = one_more old mid whole.end line lines wrote whole.wrote texts whole.texts obeyed whole.obeyed;
  told = ap (after_command wrote texts) whole.told ∙ after_command-twice wrote whole.wrote texts whole.texts (at_end whole.end);
})
later reading cut old mid line lines wrote texts outcome obeyed (inr first) = inr (record {
  before = line ∷ first.before;
  line = first.line;
  after = first.after;
  parts = ap (λ others. line ∷ others) first.parts;
  session = first.session;
  wrote = wrote ++ first.wrote;
  texts = texts ++ first.texts;
  obeyed = one_more old mid first.session line first.before wrote first.wrote texts first.texts obeyed first.obeyed;
  cause = first.cause;
  refused = first.refused;
  told = ap (after_command wrote texts) first.told
      ∙ after_command-twice wrote first.wrote texts first.texts (refused_at first.session first.line.0 first.cause);
})

-- a script that runs ends so
ends-Runs : {reading : Reading} {cut : Option ℕ} {start : SessionData} {lines : List (ℕ × List ℕ)} {outcome : Outcome} →
    Runs reading cut start lines outcome → Ends reading cut start lines outcome
ends-Runs (ends session) = inl (record { end = session; wrote = []; texts = []; obeyed = no_line session; told = refl })
ends-Runs {reading} {cut} (passes session line lines rest asks runs) =
    later reading cut session session line lines [] [] rest (idle asks) (ends-Runs runs)
ends-Runs {reading} {cut} (obeys session new line lines command wrote texts rest asks performs runs) =
    later reading cut session new line lines wrote texts rest (done command new wrote texts asks performs) (ends-Runs runs)
ends-Runs (refuses session line lines cause is) = inr (record {
  before = [];
  line = line;
  after = lines;
  parts = refl;
  session = session;
  wrote = [];
  texts = [];
  obeyed = no_line session;
  cause = cause;
  refused = is;
  told = refl;
})

-- a line that is obeyed, and then what runs so
one_before : {reading : Reading} {cut : Option ℕ} {old mid : SessionData} {line : ℕ × List ℕ} {wrote : List Line} {texts : List GroupTextData} (lines : List (ℕ × List ℕ)) (outcome : Outcome)
    → IsObeyed reading cut old line mid wrote texts → Runs reading cut mid lines outcome → Runs reading cut old (line ∷ lines) (after_command wrote texts outcome)
one_before {reading} {cut} {old} {mid} {line} lines outcome (idle asks) runs = passes old line lines outcome asks runs
one_before {reading} {cut} {old} {mid} {line} lines outcome (done command new wrote texts asks performs) runs =
    obeys old new line lines command wrote texts outcome asks performs runs

-- lines that are obeyed, and then what runs so
all_before : {reading : Reading} {cut : Option ℕ} {old new : SessionData} {lines : List (ℕ × List ℕ)} {wrote : List Line} {texts : List GroupTextData} (others : List (ℕ × List ℕ)) (outcome : Outcome)
    → AreObeyed reading cut old lines new wrote texts → Runs reading cut new others outcome → Runs reading cut old (lines ++ others) (after_command wrote texts outcome)
all_before others outcome (no_line session) runs = runs
all_before {reading} {cut} others outcome (one_more old mid new line lines wrote more texts further obeyed are) runs =
    subst (Runs reading cut old (line ∷ lines ++ others)) (after_command-twice wrote more texts further outcome)
    (one_before (lines ++ others) (after_command more further outcome) obeyed (all_before others outcome are runs))

-- what ends so is a script that runs
Runs-ends : (reading : Reading) (cut : Option ℕ) (start : SessionData) (lines : List (ℕ × List ℕ)) (outcome : Outcome) →
    Ends reading cut start lines outcome → Runs reading cut start lines outcome
Runs-ends reading cut start lines outcome (inl whole) =
    subst (Runs reading cut start lines) (sym whole.told)
    (subst (λ all. Runs reading cut start all (after_command whole.wrote whole.texts (at_end whole.end))) (append-nil lines)
    (all_before [] (at_end whole.end) whole.obeyed (ends whole.end)))
Runs-ends reading cut start lines outcome (inr first) =
    let last = refused_at first.session first.line.0 first.cause in
    subst (Runs reading cut start lines) (sym first.told)
    (subst (λ all. Runs reading cut start all (after_command first.wrote first.texts last)) (sym first.parts)
    (all_before (first.line ∷ first.after) last first.obeyed (refuses first.session first.line first.after first.cause first.refused)))

-- so a script runs exactly so
pub runs_end : RunsEndAtTheFirst
runs_end reading cut start lines outcome = (ends-Runs, Runs-ends reading cut start lines outcome)

-- a line that is obeyed isn't refused: it is within the text, it is read, its command has no refusal, and its circuit is not too large
kept_apart : {reading : Reading} {cut : Option ℕ} {old new : SessionData} {line : ℕ × List ℕ} {wrote : List Line} {texts : List GroupTextData} {cause : Cause}
    → IsObeyed reading cut old line new wrote texts → ¬ IsRefused reading cut old line cause
kept_apart (idle asks) (too_long past is) = true≢false (sym past ∙ asks.inside)
kept_apart (idle asks) (unread fault code inside other coded is) = absurd (cc (asks.nothing, other))
kept_apart (idle asks) (refused command refusal other found is) = absurd (cc (asks.nothing, other.asked))
kept_apart (idle asks) (too_large command fault other allowed building told named) = absurd (cc (asks.nothing, other.asked))
kept_apart (done command new wrote texts asks performs) (too_long past is) = true≢false (sym past ∙ asks.inside)
kept_apart (done command new wrote texts asks performs) (unread fault code inside other coded is) = absurd (cc (asks.asked, other))
kept_apart {old = old} (done command new wrote texts asks performs) (refused other refusal asked found is) =
    let same : other ≡ command = cc (asks.asked, asked.asked) in
    let allowed = performs-allowed old new command wrote texts performs in absurd (cc (allowed, found, same))
kept_apart {old = old} (done command new wrote texts asks performs) (too_large other fault asked allowed building told named) =
    let same : other ≡ command = cc (asks.asked, asked.asked) in
    performs-fits old new command wrote texts fault performs (subst (λ one. builds one ≡ true) same building) told

pub not_refused : ObeyedIsNotRefused
not_refused reading cut old new line wrote texts cause obeyed is = kept_apart obeyed is
