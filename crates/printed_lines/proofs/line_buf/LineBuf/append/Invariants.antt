use Rattle.std.proofs.Common.{◌≡◌, ◌+◌, ◌++◌, take}
use Rattle.printed_lines.proofs.line_buf.LineBuf.append.Given as goal

-- the bytes before the place are there, and took as much room
abbrev pub invariant-loop-byte : goal.invariant-loop-byte
invariant-loop-byte l =
    (l.self.bytes ≡ l.fn.self.bytes ++ take l.byte-index l.piece)
    × (l.self.spare + l.byte-index ≡ l.fn.self.spare)
