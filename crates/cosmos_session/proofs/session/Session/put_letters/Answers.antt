-- The stage's columns have their letters, and the rest of the session stays.
use Rattle.std.proofs.Common.{◌≡◌, ℕ, ◌≤◌, true, List, All, is_some, refl, sym, subst}
use Rattle.ternary.specs.declared.tern.Tern.{Tern}
use Rattle.switch_paths.specs.declared.TheConstants.{RAILS}
use Rattle.netlist.specs.Edits.{node_named}
use Rattle.netlist.specs.Names.{node_of}
use Rattle.column_stage.specs.Columns.{IsLetters}
use Rattle.analysis_cache.specs.Keeping.{texts_of}
use Rattle.session_meaning.specs.Sessions.{HeldSession}
use Rattle.session_meaning.proofs.StayingLemmas.{core_given, session_of}
use Rattle.cosmos_session.proofs.StageLemmas.{stage_stays, used_same}
use Rattle.cosmos_session.proofs.session.Session.put_letters.Goals as goal

pub place_letters-requires-clause-sound : goal.place_letters-requires-clause-sound
place_letters-requires-clause-sound g c = c.self.invariant.0.sound

pub place_letters-requires-clause-fit : goal.place_letters-requires-clause-fit
place_letters-requires-clause-fit g c =
    subst (λ (s : HeldSession _). All (λ (item : List ℕ × List Tern). IsLetters (g.M.Columns.columns s.stage) item.1) c.args.list.now) (sym c.self.view_is)
    c.requires.fit

pub place_letters-requires-clause-known : goal.place_letters-requires-clause-known
place_letters-requires-clause-known g c =
    subst (λ (s : HeldSession _). All (λ (item : List ℕ × List Tern). is_some (node_of s.core.circuit.names item.0) ≡ true) c.args.list.now)
    (sym c.self.view_is) c.requires.known

pub place_letters-requires-clause-past : goal.place_letters-requires-clause-past
place_letters-requires-clause-past g c =
    subst (λ (s : HeldSession _). All (λ (item : List ℕ × List Tern). RAILS ≤ node_named s.core.circuit item.0) c.args.list.now) (sym c.self.view_is)
    c.requires.past

pub invariant_of-self : goal.invariant_of-self
invariant_of-self g c =
    let e = c.place_letters.ensures in
    stage_stays g.M.Columns.last (texts_of c.self.inside.kept) c.place_letters.new.stage c.self.invariant refl e.last e.columns refl e.sound e.serves

pub returns-clause-stage : goal.returns-clause-stage
returns-clause-stage g c = rw (← c.self.view_is) c.place_letters.ensures.did

pub returns-clause-columns : goal.returns-clause-columns
returns-clause-columns g c = rw (← c.self.view_is) c.place_letters.ensures.columns

pub returns-clause-core : goal.returns-clause-core
returns-clause-core g c =
    let state = g.M.Columns.states c.place_letters.new.stage 0 in
    rw (← c.self.view_is) (core_given (session_of c.self.invariant.0).core state state _ refl (used_same _ _ (texts_of c.self.inside.kept) c.place_letters.ensures.last))
