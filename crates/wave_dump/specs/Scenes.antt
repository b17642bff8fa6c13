-- What a run does that a dump tells.
use Rattle.std.specs.Prelude.{ℕ, List}
use Rattle.ternary.specs.declared.tern.Tern.{Tern}

-- an entry of a dump: the word that was watched, and its nodes
pub record EntryData : Type 0 where
  pub name : List ℕ
  pub nodes : List ℕ

-- a line that is written, without its LF; a word that is watched; a state that is set, placed back or edited; or a step or a phase, of so many
-- steps, which passes through these states
pub data Scene : Type 0 where
  Wrote : List ℕ → Scene
  Watched : EntryData → Scene
  Became : List Tern → Scene
  Passed : ℕ → List (List Tern) → Scene
