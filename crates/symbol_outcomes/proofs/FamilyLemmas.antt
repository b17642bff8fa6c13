-- Columns that are those of one session.
use Rattle.std.proofs.Common.{◌≡◌, ℕ, ◌<◌, Bool, List, map, refl, sym, subst, arith}
use Rattle.ternary.specs.declared.tern.Tern.{Tern}
use Rattle.switch_paths.specs.Graphs.{GraphData, nodes}
use Rattle.group_text.specs.Texts.{GroupTextData}
use Rattle.session_meaning.specs.Saves.{AreSaves}
use Rattle.session_meaning.specs.Sessions.{HeldSession, IsHeldSession, IsReady, SessionData}
use Rattle.session_meaning.specs.Columns.{column_of}
use Rattle.session_meaning.proofs.ColumnLemmas.{column_ready}
use Rattle.symbol_meaning.specs.Laws.{AlikeButStates}
use Rattle.symbol_outcomes.specs.Families.{data_in, IsFamily}
use Rattle.symbol_outcomes.proofs.AlikeLemmas.{alike_by}

-- data are alike to themselves
itself : (session : SessionData) → AlikeButStates session session
itself session = alike_by refl refl refl refl refl refl refl refl refl refl refl

-- columns that all have the same data
pub one_family : (columns : ℕ) (session : SessionData) → 0 < columns → IsReady session → IsFamily columns (λ column. session)
one_family columns session some ready = record {
  some = some;
  ready = λ column inside. ready;
  alike = λ one other inside within. itself session;
}

-- data that are the same in each column
pub family_as : (columns : ℕ) (sessions others : ℕ → SessionData) → ((column : ℕ) → column < columns → others column ≡ sessions column) →
    IsFamily columns sessions → IsFamily columns others
family_as columns sessions others same is = record {
  some = is.some;
  ready = λ column inside. subst IsReady (sym (same column inside)) (is.ready column inside);
  alike = λ one other inside within.
      subst (λ (own : SessionData). AlikeButStates own (others other)) (sym (same one inside))
      (subst (λ (its : SessionData). AlikeButStates (sessions one) its) (sym (same other within)) (is.alike one other inside within));
}

-- the columns of a session that has a stage, beside what is missed and kept in each: states are kept under the same names in all columns
pub stage_family : {M : Type 0} (columns : M → ℕ) (states : M → ℕ → List Tern) (serves : M → GraphData → List GroupTextData → Type 0) (session : HeldSession M)
    (missed : ℕ → Bool) (saves : ℕ → List (List ℕ × List Tern)) → IsHeldSession columns states serves session →
    ((column : ℕ) → column < columns session.stage → AreSaves (nodes session.core.circuit.graph) (saves column)) →
    ((one other : ℕ) → one < columns session.stage → other < columns session.stage →
    map (λ (save : List ℕ × List Tern). save.0) (saves other) ≡ map (λ (save : List ℕ × List Tern). save.0) (saves one)) →
    IsFamily (columns session.stage) (data_in (column_of states session) missed saves)
stage_family columns states serves session missed saves held fit named = record {
  some = omega (arith, held.some);
  ready = λ column inside.
      let ready = column_ready columns states serves session held column inside in
      record { netlist = ready.netlist; states = ready.states; sound = ready.sound; free = ready.free; saved = fit column inside };
  alike = λ one other inside within. alike_by refl refl refl refl refl refl (named one other inside within) refl refl refl refl;
}
