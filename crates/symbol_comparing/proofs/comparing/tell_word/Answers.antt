-- The difference is the first one of the word; without memory nothing was written.
use Rattle.std.proofs.Common.{List, ap₂, ◌∙◌}
use Rattle.std.proofs.lemmas.Result.{err_from_is_err_and}
use Rattle.ternary.specs.declared.tern.Tern.{Tern}
use Rattle.symbol_comparing.specs.Rails.{letters_in, rails_seen}
use Rattle.symbol_comparing.proofs.WordLemmas.{difference_of, told_of_found, word_told}
use Rattle.symbol_comparing.proofs.CompareLemmas.{none_written, one_told}
use Rattle.symbol_comparing.proofs.comparing.tell_word.Goals as goal

pub returns-in_err-first-clause-told : goal.returns-in_err-first-clause-told
returns-in_err-first-clause-told g c = λ v are.
    let stopped = err_from_is_err_and c.from_residual.result c.from_residual.ensures.1 in
    let told = word_told v c.args.line c.args.word.now (letters_in c.args.symbols.now (rails_seen c.args.one)) (letters_in c.args.symbols.now (rails_seen c.args.other)) in
    rw stopped.1 (none_written _ c.args.variables.now c.args.workspace.now.written told.0 told.1)

pub returns-in_err-second-clause-told : goal.returns-in_err-second-clause-told
returns-in_err-second-clause-told g c = λ v are.
    let stopped = err_from_is_err_and c.from_residual-in_err-second.result c.from_residual-in_err-second.ensures.1 in
    let told = word_told v c.args.line c.args.word.now (letters_in c.args.symbols.now (rails_seen c.args.one)) (letters_in c.args.symbols.now (rails_seen c.args.other)) in
    rw stopped.1 (none_written _ c.args.variables.now c.args.workspace.now.written told.0 told.1)

pub returns-clause-told : goal.returns-clause-told
returns-clause-told g c = λ v are.
    one_told _ c.args.variables.now (difference_of c.args.line c.args.word.now c.deref.result.now c.deref-2.result.now c.args.vars.now) c.args.workspace.now.written c.tell.new.self.written c.args.workspace.now.count c.tell.new.self.count c.tell.result
    (told_of_found c.args.symbols.now v c.args.line c.args.word.now (rails_seen c.args.one) (rails_seen c.args.other) c.args.vars.now _ are c.requires.differ
    (ap₂ (λ (letters others : List Tern). difference_of c.args.line c.args.word.now letters others c.args.vars.now) (c.deref.ensures.value ∙ c.in_ok-first.ensures)
    (c.deref-2.ensures.value ∙ c.in_ok-second.ensures)))
    c.tell.ensures.ok c.tell.ensures.part c.tell.ensures.count
