use Rattle.std.proofs.Common.{◌≡◌, ◌++◌, take}
use Rattle.std.specs.List.{flat_map}
use Rattle.net_gen.specs.Lines.{text_of}
use Rattle.net_gen.proofs.lines.put.Given as goal

abbrev pub invariant-loop-piece : goal.invariant-loop-piece
invariant-loop-piece l = l.text.items ≡ l.initial.text.items ++ flat_map text_of (take l.piece-index l.pieces)
