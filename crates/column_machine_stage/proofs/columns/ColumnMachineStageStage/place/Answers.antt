-- The words of letters have a rail in each column, and the column's letter.
use Rattle.std.proofs.Common.{ℕ, ◌≡◌, ◌<◌, ◌⊎◌, length, sym, subst, arith}
use Rattle.column_machine_stage.specs.Stages.{HasValue}
use Rattle.column_stage.specs.Columns.{letter_in}
use Rattle.column_machine_stage.proofs.MovingLemmas.{letters_placed, letters_rail}
use Rattle.column_machine_stage.proofs.ServingLemmas.{fits_still, last_put, serves_put}
use Rattle.column_machine_stage.proofs.columns.ColumnMachineStageStage.place.Goals.{After-value_words-words}
use Rattle.column_machine_stage.proofs.columns.ColumnMachineStageStage.place.Goals as goal

pub value_words-words-requires-clause-fit : goal.value_words-words-requires-clause-fit
value_words-words-requires-clause-fit c =
    subst (λ (n : ℕ). (length c.args.letters.now ≡ 1) ⊎ (length c.args.letters.now ≡ n)) (sym c.count.ensures.value) c.requires.letters

pub set_node-requires-clause-inside : goal.set_node-requires-clause-inside
set_node-requires-clause-inside c =
    subst (λ (n : ℕ). c.args.node < n) (sym (c.requires.sound 0 (omega (arith, c.count.ensures.some, c.count.ensures.value))).counted) c.requires.inside

-- in each column the words are the rails of its letter
has_letters : (c : After-value_words-words) → (column : ℕ) → column < c.args.self.now.columns → HasValue column (letter_in column c.args.letters.now) c.value_words-words.result
has_letters c column inside = c.value_words-words.ensures column (subst (λ (n : ℕ). column < n) (sym c.count.ensures.value) inside)

pub set_node-requires-clause-states : goal.set_node-requires-clause-states
set_node-requires-clause-states c =
    letters_rail c.args.self.now.columns c.args.letters.now c.value_words-words.result (has_letters (goal.at.set_node-requires-clause-states c).After-value_words-words)

pub returns-clause-states : goal.returns-clause-states
returns-clause-states c =
    letters_placed c.args.self.now.columns c.args.letters.now c.value_words-words.result (has_letters (goal.at.returns-clause-states c).After-value_words-words) c.args.node
    c.args.self.now.hi c.args.self.now.lo c.set_node.new.self.hi c.set_node.new.self.lo c.set_node.ensures.hi c.set_node.ensures.lo

pub returns-clause-serves : goal.returns-clause-serves
returns-clause-serves c = λ kept serves.
    serves_put c.args.graph.now kept c.args.self.now c.set_node.new.self c.set_node.ensures.machine c.set_node.ensures.large serves

pub returns-clause-fits : goal.returns-clause-fits
returns-clause-fits c = λ fits.
    fits_still c.args.graph.now c.args.self.now.machine c.set_node.new.self.machine c.set_node.ensures.machine fits

pub returns-clause-did : goal.returns-clause-did
returns-clause-did c = record {
  columns = c.set_node.ensures.columns;
  each = letters_placed c.args.self.now.columns c.args.letters.now c.value_words-words.result (has_letters (goal.at.returns-clause-did c).After-value_words-words) c.args.node
      c.args.self.now.hi c.args.self.now.lo c.set_node.new.self.hi c.set_node.new.self.lo c.set_node.ensures.hi c.set_node.ensures.lo;
  machine = c.set_node.ensures.machine;
}

pub returns-clause-last : goal.returns-clause-last
returns-clause-last c = last_put c.args.graph.now c.args.self.now.machine c.set_node.new.self.machine c.set_node.ensures.machine
