-- Lists of which each item is read, as far as a loop has come.
use Rattle.std.proofs.Common.{List, ◌++◌, Option, option_map}

-- what was read, and then what is left, where that can be read
abbrev pub with_front : {X : Type 0} → List X → Option (List X) → Option (List X)
with_front front rest = option_map (λ items. front ++ items) rest
