-- The bytes of formulas.
use Rattle.std.specs.Prelude.{◌≡◌, ℕ, ◌<◌, Bool, true, ◌==◌, ◌&&◌, not, List, length, All, Option, Some, None, nat_le, codes, if◌then◌else◌}
use Rattle.std.specs.List.{list_all, list_any}
use Rattle.line_words.specs.Bytes.{first_visible, last_visible}
use Rattle.line_words.specs.Words.{is_word}
use Rattle.formulas.specs.declared.formula.Sign.{Sign}
use Rattle.formulas.specs.declared.formula.Sign.TheVariants.{And, Differ, Or}

-- the bytes `$`, with which a name begins, and `!`, `(` and `)`
abbrev pub dollar : ℕ
dollar = 36

abbrev pub exclamation : ℕ
exclamation = 33

abbrev pub opening : ℕ
opening = 40

abbrev pub closing : ℕ
closing = 41

-- the byte of a sign: `&`, `^` or `|`
abbrev pub byte_of : Sign → ℕ
byte_of And = 38
byte_of Differ = 94
byte_of Or = 124

-- the sign of a byte
abbrev pub sign_of : ℕ → Option Sign
sign_of byte =
    if byte == 38 then Some And
    else (if byte == 94 then Some Differ
    else (if byte == 124 then Some Or else None))

-- how tightly a sign binds, beside 4 for `!`
abbrev pub rank_of : Sign → ℕ
rank_of And = 3
rank_of Differ = 2
rank_of Or = 1

-- the visible bytes that no name has
abbrev pub reserved : List ℕ
reserved = codes "!$&(),=^{|}"

-- the byte may stand in a name
abbrev pub is_name_byte : ℕ → Bool
is_name_byte byte = nat_le first_visible byte && nat_le byte last_visible && not (list_any (λ own. own == byte) reserved)

-- the bytes are a name: there is one at least, and all may stand in it
abbrev pub is_name : List ℕ → Bool
is_name bytes = is_word bytes && list_all is_name_byte bytes

-- the same in words
pub record IsName (name : List ℕ) : Type 0 where
  pub some : 0 < length name
  pub plain : All (λ byte. is_name_byte byte ≡ true) name
