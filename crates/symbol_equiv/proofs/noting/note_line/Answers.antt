-- What the line shows was noted, and what it watches.
use Rattle.std.proofs.Common.{◌≡◌, ◌∙◌, ℕ, Bool, true, List, ◌++◌, Ok, OnOk, ap, sym, subst}
use Rattle.std.proofs.lemmas.Result.{err_from_is_err_and}
use Rattle.script_meaning.specs.declared.turn.Turn.{Turn}
use Rattle.script_meaning.specs.declared.turn.Turn.TheVariants.{Accepted, Refused, TooLarge}
use Rattle.truth_parts.proofs.KeptLemmas.{passed_on}
use Rattle.symbol_meaning.specs.Comparing.{Watched}
use Rattle.symbol_told.specs.Noting.{NotesData, note}
use Rattle.symbol_equiv.specs.Sharing.{KeepsFunctions}
use Rattle.symbol_equiv.specs.Waves.{TakesTurnRailed}
use Rattle.symbol_equiv.specs.Words.{counted_words, names_watched}
use Rattle.symbol_equiv.proofs.FaultLemmas.{memory_stops, memory_unwritten, on_any, words_turn}
use Rattle.symbol_equiv.proofs.LineLemmas.{noted_line}
use Rattle.symbol_equiv.proofs.noting.note_line.Given.{Over}
use Rattle.symbol_equiv.proofs.noting.note_line.Goals.{After-obey_noted}
use Rattle.symbol_equiv.proofs.noting.note_line.Goals as goal

-- the line's turn, by whether the script is quiet
abbrev Takes : (g : Over) → After-obey_noted g → Bool → Turn → Type 0
Takes g c quiet taken =
    TakesTurnRailed (g.M.SharesMaker.maker c.obey_noted.new.self) note quiet (g.M.LineSession.valuations c.args.session.now) c.args.cut (g.M.LineSession.sessions c.args.session.now) (c.args.line.number, c.args.line.bytes.now)
    (g.M.LineSession.sessions c.obey_noted.new.self) c.args.notes.now c.obey_noted.new.out (g.A.Analyst.analysed c.args.analyst.now) (g.A.Analyst.analysed c.obey_noted.new.analyst) (Ok taken)

-- it is quiet
railed : (g : Over) (c : After-obey_noted g) (taken own : Turn) → taken ≡ own → Takes g c (g.M.LineSession.quiet c.args.session.now) taken → Takes g c true own
railed g c taken own same is = subst (Takes g c true) same (subst (λ (quiet : Bool). Takes g c quiet taken) c.requires.quiet is)

pub returns-in-Accepted-clause-turn : goal.returns-in-Accepted-clause-turn
returns-in-Accepted-clause-turn g c = λ rest serves.
    let heard = c.obey_noted.new.out in
    let line : ℕ × List ℕ = (c.args.line.number, c.args.line.bytes.now) in
    let asked = g.A.Analyst.analysed c.args.analyst.now in
    let known = g.A.Analyst.analysed c.obey_noted.new.analyst in
    let more : List Watched = counted_words c.circuit.result.now c.vectors.result.now (names_watched true line) in
    let full : NotesData = record heard { words = heard.words ++ more } in
    let turn = railed g (goal.at.returns-in-Accepted-clause-turn g c).After-obey_noted _ Accepted c.in-Accepted.is (c.in_ok-obey_noted.ensures.turn rest serves) in
    let grew = subst (λ (own : List Watched). OnOk c.note_words.result (c.note_words.new.notes ≡ record heard { words = heard.words ++ own }))
    (c.deref.ensures.value ∙ c.in-Ok.ensures) c.note_words.ensures.ok in
    words_turn (g.M.SharesMaker.maker c.args.session.now) (g.M.SharesMaker.maker c.obey_noted.new.self) (g.M.LineSession.valuations c.args.session.now) c.args.cut (g.M.LineSession.sessions c.args.session.now) line (g.M.LineSession.sessions c.obey_noted.new.self)
    c.args.notes.now c.note_words.new.notes full asked known c.note_words.result grew c.note_words.ensures.accepted
    (noted_line (g.M.LineSession.valuations c.args.session.now) c.args.cut (g.M.LineSession.sessions c.args.session.now) line (g.M.SharesMaker.maker c.args.session.now) (sym c.requires.valued.columns) c.args.notes.now asked known
    (g.M.SharesMaker.maker c.obey_noted.new.self) (g.M.LineSession.sessions c.obey_noted.new.self) heard c.circuit.result.now c.vectors.result.now c.in_ok-obey_noted.ensures.keeps
    c.requires.noted c.circuit.ensures c.vectors.ensures turn)

pub returns-in-Accepted-clause-serves : goal.returns-in-Accepted-clause-serves
returns-in-Accepted-clause-serves g c = λ rest serves same.
    c.obey_noted.ensures.serves rest serves (c.in_ok-obey_noted.was ∙ ap (λ (taken : Turn). Ok taken) c.in-Accepted.is)

pub returns-in-Accepted-clause-keeps : goal.returns-in-Accepted-clause-keeps
returns-in-Accepted-clause-keeps g c =
    on_any (KeepsFunctions (g.M.SharesMaker.maker c.args.session.now) (g.M.SharesMaker.maker c.obey_noted.new.self)) c.note_words.result
    c.in_ok-obey_noted.ensures.keeps

pub returns-in-Accepted-clause-number : goal.returns-in-Accepted-clause-number
returns-in-Accepted-clause-number g c = memory_stops c.args.line.number c.note_words.result c.note_words.ensures.memory

pub returns-in-Accepted-clause-unwritten : goal.returns-in-Accepted-clause-unwritten
returns-in-Accepted-clause-unwritten g c = memory_unwritten c.note_words.result c.note_words.ensures.memory

pub returns-in-Refused-clause-turn : goal.returns-in-Refused-clause-turn
returns-in-Refused-clause-turn g c = λ rest serves.
    railed g (goal.at.returns-in-Refused-clause-turn g c).After-obey_noted _ (Refused c.in-Refused.code) c.in-Refused.is (c.in_ok-obey_noted.ensures.turn rest serves)

pub returns-clause-turn : goal.returns-clause-turn
returns-clause-turn g c = λ rest serves.
    railed g (goal.at.returns-clause-turn g c).After-obey_noted _ (TooLarge c.in-TooLarge.fault) c.in-TooLarge.is (c.in_ok-obey_noted.ensures.turn rest serves)

pub returns-in_err-obey_noted-clause-turn : goal.returns-in_err-obey_noted-clause-turn
returns-in_err-obey_noted-clause-turn g c = λ rest serves. rw (err_from_is_err_and c.from_residual.result c.from_residual.ensures.1).1 tt

pub returns-in_err-obey_noted-clause-number : goal.returns-in_err-obey_noted-clause-number
returns-in_err-obey_noted-clause-number g c = passed_on _ c.from_residual.result _ c.from_residual.ensures.1 c.in_err-obey_noted.ensures.number
