-- One more node has its letter in each column.
use Rattle.std.proofs.Common.{◌≡◌, ℕ, ◌<◌, length, refl, sym, ap, subst, ◌∙◌, arith}
use Rattle.std.specs.Prelude.{slice_set}
use Rattle.std.proofs.lemmas.List.{drop_all}
use Rattle.ternary.specs.declared.tern.Tern.{Tern}
use Rattle.column_stage.proofs.GivenLemmas.{keeps_more, keeps_none}
use Rattle.session_meaning.specs.Effects.{assigned}
use Rattle.session_meaning.specs.Truths.{letters_in_column}
use Rattle.session_meaning.proofs.TruthLemmas.{letters_more}
use Rattle.cosmos_session.proofs.StageLemmas.{keeps_stage-both, keeps_stage-none}
use Rattle.cosmos_session.proofs.truths.put_pairs.Goals as goal

pub loop-pair-init : goal.loop-pair-init
loop-pair-init g c = record {
  states = λ column inside. refl;
  keeps = keeps_stage-none g.M.Columns.columns g.M.Columns.states g.M.Columns.last g.M.Columns.serves g.M.Columns.fits c.args.graph.now
      c.args.stage.now c.requires.sound;
  kept = keeps_none g.M.Columns.columns g.M.TruthStage.gives g.M.TruthStage.letter_of g.M.TruthStage.bound c.args.stage.now;
}

pub put_given-requires-clause-own : goal.put_given-requires-clause-own
put_given-requires-clause-own g c =
    let pair = c.pair-item.result in
    let own = subst (λ (one : ℕ × _). g.M.TruthStage.gives c.args.stage.now one.1) (sym c.pair-item.is) (c.requires.own c.loop-pair.pair-index pair (omega arith)) in
    c.loop-pair.invariant.kept.own pair.1 own

pub loop-pair-preserved : goal.loop-pair-preserved
loop-pair-preserved g c =
    let list = c.args.pairs.now in
    let k = c.loop-pair.pair-index in
    let inside : k < length list = omega arith in
    let start = c.args.stage.now in
    let now = c.loop-pair.stage in
    let next = c.put_given.new.stage in
    let pair = c.pair-item.result in
    let own = subst (λ (one : ℕ × _). g.M.TruthStage.gives start one.1) (sym c.pair-item.is) (c.requires.own k pair inside) in
    record {
      states = λ column within.
          let there : column < g.M.Columns.columns now = subst (λ (n : ℕ). column < n) (sym c.loop-pair.invariant.keeps.count) within in
          let state = g.M.Columns.states now column in
          let set : g.M.Columns.states next column ≡ slice_set state pair.0 (g.M.TruthStage.letter_of start pair.1 column) =
          c.put_given.ensures.states column there
          ∙ ap (λ (letter : Tern). slice_set state pair.0 letter) (c.loop-pair.invariant.kept.same pair.1 column own within) in
          letters_more (λ given. g.M.TruthStage.letter_of start given column) list k pair state (g.M.Columns.states next column)
          inside c.pair-item.is set
          ∙ c.loop-pair.invariant.states column within;
      keeps = keeps_stage-both g.M.Columns.columns g.M.Columns.states g.M.Columns.last g.M.Columns.serves g.M.Columns.fits c.args.graph.now
          c.args.stage.now now next c.loop-pair.invariant.keeps c.put_given.ensures.keeps;
      kept = keeps_more g.M.Columns.columns g.M.TruthStage.gives g.M.TruthStage.letter_of g.M.TruthStage.bound start now next c.loop-pair.invariant.keeps.count
          c.loop-pair.invariant.kept c.put_given.ensures.kept;
    }

pub returns-clause-states : goal.returns-clause-states
returns-clause-states g c = λ column inside.
    let start = c.args.stage.now in
    let now = g.M.Columns.states c.loop-pair.stage column in
    ap (λ left. assigned now (letters_in_column g.M.TruthStage.letter_of start left column))
    (sym (drop_all c.loop-pair.pair-index c.args.pairs.now (omega arith)))
    ∙ c.loop-pair.invariant.states column inside
