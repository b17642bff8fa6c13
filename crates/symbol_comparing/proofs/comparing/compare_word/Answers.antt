-- The word is told by its first difference, or nothing is; at a fault nothing was written.
use Rattle.std.proofs.Common.{Bool, List, subst, sym}
use Rattle.symbol_comparing.specs.Words.{DifferFirst}
use Rattle.symbol_comparing.specs.Rails.{letters_in, rails_seen}
use Rattle.symbol_comparing.proofs.StateLemmas.{rails_later}
use Rattle.symbol_comparing.proofs.WordLemmas.{told_of_none, word_told}
use Rattle.symbol_comparing.proofs.CompareLemmas.{none_told, none_written}
use Rattle.symbol_comparing.proofs.LoopLemmas.{differ_later, valuations_later, word_tells}
use Rattle.symbol_comparing.proofs.comparing.compare_word.Goals as goal

pub tell_word-requires : goal.tell_word-requires
tell_word-requires g c =
    let old = c.args.symbols.now in
    let now = c.first_difference.new.symbols in
    let shape = c.first_difference.ensures.shape in
    let extends = c.first_difference.ensures.extends in
    record {
      one = rails_later old now shape extends (rails_seen c.args.one) c.requires.one;
      other = rails_later old now shape extends (rails_seen c.args.other) c.requires.other;
      differ = subst (λ (vars : List Bool). DifferFirst now (rails_seen c.args.one) (rails_seen c.args.other) vars) (sym c.deref.ensures.value) (differ_later old now shape extends (rails_seen c.args.one) (rails_seen c.args.other) c.in-Ok-Some.vars.items c.requires.one c.requires.other
          (rw c.in-Ok-Some.field-0-is at c.in-Ok-Some.ensures.found));
    }

pub returns-in-Ok-Some-clause-told : goal.returns-in-Ok-Some-clause-told
returns-in-Ok-Some-clause-told g c = λ v are.
    word_tells c.args.symbols.now c.first_difference.new.symbols c.first_difference.ensures.shape c.first_difference.ensures.extends v c.args.line
    c.args.word.now (rails_seen c.args.one) (rails_seen c.args.other) c.args.variables.now _ _ _ _ c.tell_word.result c.requires.one c.requires.other
    (c.tell_word.ensures.told v
    (valuations_later c.args.symbols.now c.first_difference.new.symbols c.first_difference.ensures.shape c.first_difference.ensures.extends v are))

pub returns-in-Ok-None-clause-told : goal.returns-in-Ok-None-clause-told
returns-in-Ok-None-clause-told g c = λ v are.
    none_told _ c.args.variables.now c.args.workspace.now.written c.args.workspace.now.count
    (told_of_none c.args.symbols.now v c.args.line c.args.word.now (rails_seen c.args.one) (rails_seen c.args.other) are
    (rw c.in-Ok-None.field-0-is at c.in-Ok-None.ensures.found))

pub returns-in-Err-clause-told : goal.returns-in-Err-clause-told
returns-in-Err-clause-told g c = λ v are.
    let told = word_told v c.args.line c.args.word.now (letters_in c.args.symbols.now (rails_seen c.args.one)) (letters_in c.args.symbols.now (rails_seen c.args.other)) in
    none_written _ c.args.variables.now c.args.workspace.now.written told.0 told.1
