-- The bytes that lines and words are cut at.
use Rattle.std.specs.Prelude.{ℕ, Bool, ◌==◌, ◌||◌, ◌&&◌, nat_le}

-- LF, at which a line ends
abbrev pub line_feed : ℕ
line_feed = 10

-- CR, which may stand before LF
abbrev pub carriage_return : ℕ
carriage_return = 13

-- the byte `|`, with which a comment begins
abbrev pub bar : ℕ
bar = 124

-- a space
abbrev pub space : ℕ
space = 32

-- a tab
abbrev pub tab : ℕ
tab = 9

-- the first visible ASCII character, `!`
abbrev pub first_visible : ℕ
first_visible = 0x21

-- the last one, `~`
abbrev pub last_visible : ℕ
last_visible = 0x7e

-- the byte is LF
abbrev pub is_line_feed : ℕ → Bool
is_line_feed byte = byte == line_feed

-- the byte is a space or a tab
abbrev pub is_blank : ℕ → Bool
is_blank byte = byte == space || byte == tab

-- the byte may stand in a line: it is a blank, or a visible ASCII character
abbrev pub is_line_byte : ℕ → Bool
is_line_byte byte = is_blank byte || (nat_le first_visible byte && nat_le byte last_visible)
