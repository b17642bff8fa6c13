-- Sessions that go on over one maker of functions, one after the other: which functions a later maker has, and what stands for those that were let go.
use Rattle.std.specs.Prelude.{◌≡◌, ℕ, List, length, All}
use Rattle.decision_graph.specs.declared.vertex.Function.{Function}
use Rattle.truth_columns.specs.Columns.{values_in, AreKept}
use Rattle.truth_makers.specs.declared.symbols.Symbols.{Symbols}
use Rattle.truth_makers.specs.Makers.{columns_in, function_holds, IsFunctionOf}

-- a later maker has all functions of an earlier one, and they hold where they held
abbrev pub KeepsFunctions : Symbols → Symbols → Type 0
KeepsFunctions old new = AreKept (columns_in old) (IsFunctionOf old) (function_holds old) (columns_in new) (IsFunctionOf new) (function_holds new)

-- functions of a later maker stand for these, in the same order: each holds in each column where that did in whose place it stands
pub record StandFor (old new : Symbols) (truths made : List Function) : Type 0 where
  pub columns : columns_in new ≡ columns_in old
  pub counted : length made ≡ length truths
  pub inside : All (IsFunctionOf new) made
  pub same : (column : ℕ) → values_in (function_holds new) column made ≡ values_in (function_holds old) column truths
