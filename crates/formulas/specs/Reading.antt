-- How a formula is read, byte by byte: an operand that is read is put behind the parts, and what has its operands follows, by how tightly it
-- binds. That this is the grammar is a law.
-- After Dijkstra, "An ALGOL 60 Translator for the X1", 1961.
use Rattle.std.specs.Prelude.{ℕ, Bool, true, false, ◌==◌, List, [], ◌∷◌, ◌++◌, nat_le, Option, Some, None, option_map, if◌then◌else◌}
use Rattle.std.specs.Option.{option_and_then}
use Rattle.line_words.specs.Words.{is_word}
use Rattle.formulas.specs.declared.formula.Sign.{Sign}
use Rattle.formulas.specs.declared.formula.Part.{Part}
use Rattle.formulas.specs.declared.formula.Part.TheVariants as part
use Rattle.formulas.specs.declared.waiting.Waiting.{Waiting}
use Rattle.formulas.specs.declared.waiting.Waiting.TheVariants.{Bracket, Not, Join}
use Rattle.formulas.specs.declared.reader.Next.{Next}
use Rattle.formulas.specs.declared.reader.Next.TheVariants as next
use Rattle.formulas.specs.Bytes.{dollar, exclamation, opening, closing, sign_of, rank_of, is_name_byte}

-- what may come next, the bytes of a name that isn't at its end, what waits for an operand, the last first, and the parts of what was read
pub record ReaderData : Type 0 where
  pub next : Next
  pub name : List ℕ
  pub waiting : List Waiting
  pub parts : List Part

-- nothing was read
abbrev pub start : ReaderData
start = record { next = next.Operand; name = []; waiting = []; parts = [] }

-- what came last, if something waits
abbrev pub first_waiting : List Waiting → Option Waiting
first_waiting [] = None
first_waiting (last ∷ waiting) = Some last

-- the others
abbrev pub but_first : List Waiting → List Waiting
but_first [] = []
but_first (last ∷ waiting) = waiting

-- the part of what waits, if it binds at least so tightly; a bracket doesn't bind, and a negation always does
abbrev pub part_of : ℕ → Waiting → Option Part
part_of bound Bracket = None
part_of bound Not = Some part.Not
part_of bound (Join sign) = if nat_le bound (rank_of sign) then Some (part.Join sign) else None

-- what comes of the part, if there is one, else this
abbrev pub by_part : {A : Type 0} → Option Part → A → (Part → A) → A
by_part None stop go = stop
by_part (Some own) stop go = go own

-- what still waits, and the parts, after all that came last and binds at least so tightly was put behind them
abbrev pub release : ℕ → List Waiting → List Part → List Waiting × List Part
release bound [] parts = ([], parts)
release bound (last ∷ waiting) parts =
    by_part (part_of bound last) (last ∷ waiting, parts) (λ own. release bound waiting (parts ++ own ∷ []))

abbrev pub released : ℕ → ReaderData → ReaderData
released bound r = record r { waiting = (release bound r.waiting r.parts).0; parts = (release bound r.waiting r.parts).1 }

-- the part of what came last, if it binds at least so tightly, and what waits then
abbrev pub first_part : ℕ → List Waiting → Option Part
first_part bound [] = None
first_part bound (last ∷ waiting) = part_of bound last

abbrev pub without_first : ℕ → List Waiting → List Waiting
without_first bound [] = []
without_first bound (last ∷ waiting) = by_part (part_of bound last) (last ∷ waiting) (λ own. waiting)

-- what was read, if a byte may come next
abbrev pub if_taken : Bool → ReaderData → Option ReaderData
if_taken true r = Some r
if_taken false r = None

-- with a byte of a name
abbrev pub with_name_byte : ReaderData → ℕ → ReaderData
with_name_byte r byte = record r { name = r.name ++ byte ∷ [] }

-- with the name at its end, if it has a byte
abbrev pub with_name : ReaderData → Option ReaderData
with_name r =
    if is_word r.name
    then Some (record r { next = next.Sign; name = []; parts = r.parts ++ part.Name r.name ∷ [] })
    else None

-- with a byte with which an operand begins
abbrev pub begun : ReaderData → ℕ → Option ReaderData
begun r byte =
    if byte == dollar then Some (record r { next = next.Name; name = [] })
    else (if byte == exclamation then Some (record r { waiting = Not ∷ r.waiting })
    else (if byte == opening then Some (record r { waiting = Bracket ∷ r.waiting }) else None))

-- with a sign
abbrev pub with_sign : ReaderData → Sign → ReaderData
with_sign r sign =
    record (released (rank_of sign) r) { next = next.Operand; waiting = Join sign ∷ (released (rank_of sign) r).waiting }

-- with a bracket closed, if one waits for that
abbrev pub close_by : List Waiting → ReaderData → Option ReaderData
close_by [] r = None
close_by (Bracket ∷ waiting) r = Some (record r { next = next.Sign; waiting = waiting })
close_by (Not ∷ waiting) r = None
close_by (Join sign ∷ waiting) r = None

abbrev pub closed : ReaderData → Option ReaderData
closed r = close_by (released 1 r).waiting (released 1 r)

-- with a byte that comes behind an operand
abbrev pub gone_on : ReaderData → ℕ → Option ReaderData
gone_on r byte = if byte == closing then closed r else option_map (with_sign r) (sign_of byte)

-- with any byte
abbrev pub taken_by : Next → ReaderData → ℕ → Option ReaderData
taken_by next.Operand r byte = begun r byte
taken_by next.Name r byte =
    if is_name_byte byte then Some (with_name_byte r byte) else option_and_then (λ s. gone_on s byte) (with_name r)
taken_by next.Sign r byte = gone_on r byte

abbrev pub taken : ReaderData → ℕ → Option ReaderData
taken r byte = taken_by r.next r byte

-- with all bytes of a text
abbrev pub taken_all : List ℕ → ReaderData → Option ReaderData
taken_all [] r = Some r
taken_all (byte ∷ text) r = option_and_then (taken_all text) (taken r byte)

-- the parts, if nothing waits
abbrev pub if_none_waits : List Waiting → List Part → Option (List Part)
if_none_waits [] parts = Some parts
if_none_waits (last ∷ waiting) parts = None

abbrev pub ended : ReaderData → Option (List Part)
ended r = if_none_waits (released 1 r).waiting (released 1 r).parts

-- the parts of the formula that was read, if it is one
abbrev pub finished_by : Next → ReaderData → Option (List Part)
finished_by next.Operand r = None
finished_by next.Name r = option_and_then ended (with_name r)
finished_by next.Sign r = ended r

abbrev pub finished : ReaderData → Option (List Part)
finished r = finished_by r.next r

-- the parts of the formula that a text writes
abbrev pub formula_of : List ℕ → Option (List Part)
formula_of text = option_and_then finished (taken_all text start)
