-- A formula that the grammar allows is read: behind it the reader stands where an operand was read, with the formula's parts behind the others,
-- if what waits binds less tightly than the formula does, and so does what follows.
use Rattle.std.proofs.Common.{◌≡◌, ◌⊎◌, ℕ, suc, ◌<◌, ◌≤◌, true, false, List, [], ◌∷◌, ◌++◌, length, All, Option, Some, None, nat_le, refl, sym, ap, ◌∙◌, inl, inr, arith, append_assoc, if◌then◌else◌}
use Rattle.std.specs.Option.{option_and_then}
use Rattle.std.proofs.lemmas.Bool.{cases_Bool, le-leb, lt-leb, leb-true, leb-false}
use Rattle.std.proofs.lemmas.List.{append-nil}
use Rattle.std.proofs.lemmas.List.Elements.{All-head, All-tail}
use Rattle.line_words.specs.Words.{is_word}
use Rattle.formulas.specs.declared.formula.Sign.{Sign}
use Rattle.formulas.specs.declared.formula.Sign.TheVariants.{And, Differ, Or}
use Rattle.formulas.specs.declared.formula.Part.{Part}
use Rattle.formulas.specs.declared.formula.Part.TheVariants as part
use Rattle.formulas.specs.declared.waiting.Waiting.{Waiting}
use Rattle.formulas.specs.declared.waiting.Waiting.TheVariants.{Bracket, Not, Join}
use Rattle.formulas.specs.declared.reader.Next.TheVariants as next
use Rattle.formulas.specs.Bytes.{closing, byte_of, sign_of, rank_of, is_name_byte}
use Rattle.formulas.specs.Formulas.{Formula, Spells, postfix}
use Rattle.formulas.specs.Formulas.Spells.{a_name, brackets, negated, signed, higher}
use Rattle.formulas.specs.Reading.{ReaderData, part_of, by_part, release, with_name, with_name_byte, gone_on, with_sign, close_by, taken_all, if_none_waits, ended, finished, formula_of}

-- what comes of what was read and the rest of a text
abbrev pub outcome : List ℕ → ReaderData → Option (List Part)
outcome rest r = option_and_then finished (taken_all rest r)

-- a reader before an operand, one in a name, and one behind an operand
abbrev pub before : List Waiting → List Part → ReaderData
before waiting parts = record { next = next.Operand; name = []; waiting = waiting; parts = parts }

abbrev pub naming : List Waiting → List Part → List ℕ → ReaderData
naming waiting parts name = record { next = next.Name; name = name; waiting = waiting; parts = parts }

abbrev pub behind : List Waiting → List Part → ReaderData
behind waiting parts = record { next = next.Sign; name = []; waiting = waiting; parts = parts }

-- what may follow a formula of a rank: the end, a closing bracket, or a sign that binds no more tightly
pub data Follows (rank : ℕ) : List ℕ → Type 0 where
  at_end : Follows rank []
  at_closing : (rest : List ℕ) → Follows rank (closing ∷ rest)
  at_sign : (sign : Sign) (rest : List ℕ) → rank_of sign ≤ rank → Follows rank (byte_of sign ∷ rest)

Follows-weaken : {rank other : ℕ} {rest : List ℕ} → rank ≤ other → Follows rank rest → Follows other rest
Follows-weaken less at_end = at_end
Follows-weaken less (at_closing rest) = at_closing rest
Follows-weaken less (at_sign sign rest low) = at_sign sign rest (omega (arith, low, less))

-- what waits binds less tightly than a rank
abbrev pub IsBelow : ℕ → List Waiting → Type 0
IsBelow rank [] = Unit {0}
IsBelow rank (last ∷ waiting) = part_of rank last ≡ None

-- a sign has its part at each bound that isn't past its rank, and none at others
pub sign-part : (sign : Sign) (bound : ℕ) → bound ≤ rank_of sign → part_of bound (Join sign) ≡ Some (part.Join sign)
sign-part sign bound low = ap (λ test. if test then Some (part.Join sign) else None) (le-leb bound (rank_of sign) low)

pub sign-no_part : (sign : Sign) (bound : ℕ) → rank_of sign < bound → part_of bound (Join sign) ≡ None
sign-no_part sign bound high = ap (λ test. if test then Some (part.Join sign) else None) (lt-leb bound (rank_of sign) high)

pub sign-above : (sign : Sign) (bound : ℕ) → part_of bound (Join sign) ≡ None → rank_of sign < bound
sign-above sign bound none =
    elim (cases_Bool (nat_le bound (rank_of sign))) [
      | inl low ↦ absurd (let e : Some (part.Join sign) ≡ None = sym (sign-part sign bound (leb-true bound (rank_of sign) low)) ∙ none in cc)
      | inr high ↦ leb-false bound (rank_of sign) high
    ]

IsBelow-weaken : (rank other : ℕ) (waiting : List Waiting) → rank ≤ other → IsBelow rank waiting → IsBelow other waiting
IsBelow-weaken rank other [] less below = tt
IsBelow-weaken rank other (Bracket ∷ waiting) less below = refl
IsBelow-weaken rank other (Not ∷ waiting) less below = absurd (let e : Some part.Not ≡ None = below in cc)
IsBelow-weaken rank other (Join sign ∷ waiting) less below = sign-no_part sign other (omega (arith, sign-above sign rank below, less))

-- what binds less tightly stays
pub release-stays : (bound : ℕ) (waiting : List Waiting) (parts : List Part) → IsBelow bound waiting → release bound waiting parts ≡ (waiting, parts)
release-stays bound [] parts below = refl
release-stays bound (last ∷ waiting) parts below =
    ap (λ own. by_part own (last ∷ waiting, parts) (λ own. release bound waiting (parts ++ own ∷ []))) below

-- what binds at least so tightly goes
pub release-goes : (bound : ℕ) (last : Waiting) (own : Part) (waiting : List Waiting) (parts : List Part) → part_of bound last ≡ Some own →
    release bound (last ∷ waiting) parts ≡ release bound waiting (parts ++ own ∷ [])
release-goes bound last own waiting parts is =
    ap (λ own. by_part own (last ∷ waiting, parts) (λ own. release bound waiting (parts ++ own ∷ []))) is

-- a sign's byte is its own alone, and in no name
sign-of_byte : (sign : Sign) → sign_of (byte_of sign) ≡ Some sign
sign-of_byte And = refl
sign-of_byte Differ = refl
sign-of_byte Or = refl

pub sign-in_no_name : (sign : Sign) → is_name_byte (byte_of sign) ≡ false
sign-in_no_name And = refl
sign-in_no_name Differ = refl
sign-in_no_name Or = refl

sign-takes : (r : ReaderData) (sign : Sign) → gone_on r (byte_of sign) ≡ Some (with_sign r sign)
sign-takes r And = refl
sign-takes r Differ = refl
sign-takes r Or = refl

sign-ranks : (sign : Sign) → (1 ≤ rank_of sign) × (rank_of sign ≤ 3)
sign-ranks And = (omega arith, omega arith)
sign-ranks Differ = (omega arith, omega arith)
sign-ranks Or = (omega arith, omega arith)

-- the bytes of a name
name-taken : (waiting : List Waiting) (parts : List Part) (front name rest : List ℕ) → All (λ byte. is_name_byte byte ≡ true) name →
    outcome (name ++ rest) (naming waiting parts front) ≡ outcome rest (naming waiting parts (front ++ name))
name-taken waiting parts front [] rest plain = ap (λ own. outcome rest (naming waiting parts own)) (sym (append-nil front))
name-taken waiting parts front (byte ∷ name) rest plain =
    ap (λ test. option_and_then finished (option_and_then (taken_all (name ++ rest))
    (if test then Some (naming waiting parts (front ++ byte ∷ [])) else option_and_then (λ s. gone_on s byte) (with_name (naming waiting parts front)))))
    (All-head (λ b. is_name_byte b ≡ true) byte name plain)
    ∙ name-taken waiting parts (front ++ byte ∷ []) name rest (All-tail (λ b. is_name_byte b ≡ true) byte name plain)
    ∙ ap (λ own. outcome rest (naming waiting parts own)) (append_assoc front (byte ∷ []) name)

-- a name that is at its end
name-ended : (waiting : List Waiting) (parts : List Part) (name : List ℕ) → is_word name ≡ true →
    with_name (naming waiting parts name) ≡ Some (behind waiting (parts ++ part.Name name ∷ []))
name-ended waiting parts name some = ap (λ test. if test then Some (behind waiting (parts ++ part.Name name ∷ [])) else None) some

name-followed : {rank : ℕ} {rest : List ℕ} (waiting : List Waiting) (parts : List Part) (name : List ℕ) → is_word name ≡ true → Follows rank rest →
    outcome rest (naming waiting parts name) ≡ outcome rest (behind waiting (parts ++ part.Name name ∷ []))
name-followed waiting parts name some at_end = ap (option_and_then ended) (name-ended waiting parts name some)
name-followed waiting parts name some (at_closing rest) =
    ap (λ read. option_and_then finished (option_and_then (taken_all rest) (option_and_then (λ s. gone_on s closing) read))) (name-ended waiting parts name some)
name-followed waiting parts name some (at_sign sign rest low) =
    ap (λ test. option_and_then finished (option_and_then (taken_all rest)
    (if test then Some (with_name_byte (naming waiting parts name) (byte_of sign)) else option_and_then (λ s. gone_on s (byte_of sign)) (with_name (naming waiting parts name)))))
    (sign-in_no_name sign)
    ∙ ap (λ read. option_and_then finished (option_and_then (taken_all rest) (option_and_then (λ s. gone_on s (byte_of sign)) read))) (name-ended waiting parts name some)

-- what waits goes where what follows binds no more tightly
goes-first : {rank : ℕ} {rest : List ℕ} (last : Waiting) (own : Part) (waiting : List Waiting) (parts : List Part) →
    ((bound : ℕ) → bound ≤ rank → part_of bound last ≡ Some own) → 1 ≤ rank → Follows rank rest →
    outcome rest (behind (last ∷ waiting) parts) ≡ outcome rest (behind waiting (parts ++ own ∷ []))
goes-first last own waiting parts tight some at_end =
    ap (λ pair. if_none_waits pair.0 pair.1) (release-goes 1 last own waiting parts (tight 1 some))
goes-first last own waiting parts tight some (at_closing rest) =
    ap (λ pair. option_and_then finished (option_and_then (taken_all rest)
    (close_by pair.0 (record { next = next.Sign; name = []; waiting = pair.0; parts = pair.1 }))))
    (release-goes 1 last own waiting parts (tight 1 some))
goes-first last own waiting parts tight some (at_sign sign rest low) =
    ap (λ read. option_and_then finished (option_and_then (taken_all rest) read)) (sign-takes (behind (last ∷ waiting) parts) sign)
    ∙ ap (λ pair. outcome rest (record { next = next.Operand; name = []; waiting = Join sign ∷ pair.0; parts = pair.1 }))
    (release-goes (rank_of sign) last own waiting parts (tight (rank_of sign) low))
    ∙ sym (ap (λ read. option_and_then finished (option_and_then (taken_all rest) read)) (sign-takes (behind waiting (parts ++ own ∷ [])) sign))

-- a sign waits, where what waits before it binds less tightly
sign-waits : (sign : Sign) (waiting : List Waiting) (parts : List Part) (rest : List ℕ) → IsBelow (rank_of sign) waiting →
    outcome (byte_of sign ∷ rest) (behind waiting parts) ≡ outcome rest (before (Join sign ∷ waiting) parts)
sign-waits sign waiting parts rest below =
    ap (λ read. option_and_then finished (option_and_then (taken_all rest) read)) (sign-takes (behind waiting parts) sign)
    ∙ ap (λ pair. outcome rest (record { next = next.Operand; name = []; waiting = Join sign ∷ pair.0; parts = pair.1 }))
    (release-stays (rank_of sign) waiting parts below)

word-some : (name : List ℕ) → 0 < length name → is_word name ≡ true
word-some [] some = absurd (omega (arith, some))
word-some (byte ∷ name) some = refl

-- a formula is read
pub reads : {rank : ℕ} {text : List ℕ} {f : Formula} → Spells rank text f → (waiting : List Waiting) (parts : List Part) (rest : List ℕ) →
    IsBelow rank waiting ⊎ (4 ≤ rank) → Follows rank rest →
    outcome (text ++ rest) (before waiting parts) ≡ outcome rest (behind waiting (parts ++ postfix f))
reads (a_name name is) waiting parts rest below follows =
    name-taken waiting parts [] name rest is.plain ∙ name-followed waiting parts name (word-some name is.some) follows
reads (brackets text f inner) waiting parts rest below follows =
    ap (λ own. outcome own (before (Bracket ∷ waiting) parts)) (append_assoc text (closing ∷ []) rest)
    ∙ reads inner (Bracket ∷ waiting) parts (closing ∷ rest) (inl refl) (at_closing rest)
reads (negated text f inner) waiting parts rest below follows =
    reads inner (Not ∷ waiting) parts rest (inr (omega arith)) follows
    ∙ goes-first Not part.Not waiting (parts ++ postfix f) (λ bound low. refl) (omega arith) follows
    ∙ ap (λ own. outcome rest (behind waiting own)) (append_assoc parts (postfix f) (part.Not ∷ []))
reads (signed sign text more f g one other) waiting parts rest below follows =
    let ranks = sign-ranks sign in
    let weaker : IsBelow (rank_of sign) waiting = only_below waiting (rank_of sign) ranks.1 below in
    ap (λ own. outcome own (before waiting parts)) (append_assoc text (byte_of sign ∷ more) rest)
    ∙ reads one waiting parts (byte_of sign ∷ (more ++ rest)) below (at_sign sign (more ++ rest) (omega arith))
    ∙ sign-waits sign waiting (parts ++ postfix f) (more ++ rest) weaker
    ∙ reads other (Join sign ∷ waiting) (parts ++ postfix f) rest (inl (sign-no_part sign (suc (rank_of sign)) (omega arith))) (Follows-weaken (omega arith) follows)
    ∙ goes-first (Join sign) (part.Join sign) waiting (parts ++ postfix f ++ postfix g) (λ bound low. sign-part sign bound low) ranks.0 follows
    ∙ ap (λ own. outcome rest (behind waiting own))
    (append_assoc (parts ++ postfix f) (postfix g) (part.Join sign ∷ []) ∙ append_assoc parts (postfix f) (postfix g ++ part.Join sign ∷ []))
  where
    only_below : (all : List Waiting) (rank : ℕ) → rank ≤ 3 → IsBelow rank all ⊎ (4 ≤ rank) → IsBelow rank all
    only_below all rank low (inl weaker) = weaker
    only_below all rank low (inr high) = absurd (omega (arith, low, high))
reads (higher rank text f inner) waiting parts rest below follows =
    reads inner waiting parts rest (raised below) (Follows-weaken (omega arith) follows)
  where
    raised : IsBelow rank waiting ⊎ (4 ≤ rank) → IsBelow (suc rank) waiting ⊎ (4 ≤ suc rank)
    raised (inl weaker) = inl (IsBelow-weaken rank (suc rank) waiting (omega arith) weaker)
    raised (inr high) = inr (omega (arith, high))

-- a text that writes a formula is read as its parts
pub reads-formula : (text : List ℕ) (f : Formula) → Spells 1 text f → formula_of text ≡ Some (postfix f)
reads-formula text f spelled =
    ap (λ own. outcome own (before [] [])) (sym (append-nil text)) ∙ reads spelled [] [] [] (inl tt) at_end
