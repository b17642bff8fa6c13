-- What is read is a formula of the grammar: as far as a reader has come, what waits and the parts are those of a text that was begun.
use Rattle.std.proofs.Common.{◌≡◌, ◌⊎◌, ℕ, suc, ◌+◌, ◌<◌, ◌≤◌, true, false, ◌==◌, List, [], ◌∷◌, ◌++◌, length, All, Option, Some, None, option_map, nat_le, get_or, zero, ◌-◌, refl, sym, ap, ◌∙◌, subst, inl, inr, arith, append_assoc, if◌then◌else◌}
use Rattle.std.specs.Option.{option_and_then}
use Rattle.std.proofs.lemmas.Bool.{cases_Bool, leb-true, leb-false, eqb-true}
use Rattle.std.proofs.lemmas.List.{append-nil}
use Rattle.std.proofs.lemmas.List.Elements.{All-append}
use Rattle.line_words.specs.Words.{is_word}
use Rattle.formulas.specs.declared.formula.Sign.{Sign}
use Rattle.formulas.specs.declared.formula.Sign.TheVariants.{And, Differ, Or}
use Rattle.formulas.specs.declared.formula.Part.{Part}
use Rattle.formulas.specs.declared.formula.Part.TheVariants as part
use Rattle.formulas.specs.declared.waiting.Waiting.{Waiting}
use Rattle.formulas.specs.declared.waiting.Waiting.TheVariants.{Bracket, Not, Join}
use Rattle.formulas.specs.declared.reader.Next.{Next}
use Rattle.formulas.specs.declared.reader.Next.TheVariants as next
use Rattle.formulas.specs.Bytes.{dollar, exclamation, opening, closing, byte_of, sign_of, rank_of, is_name_byte}
use Rattle.formulas.specs.Formulas.{Formula, Spells, postfix, IsWritten}
use Rattle.formulas.specs.Formulas.Formula.{variable, negation, joined}
use Rattle.formulas.specs.Formulas.Spells.{a_name, brackets, negated, signed, higher}
use Rattle.formulas.specs.Reading.{ReaderData, release, start, with_name, with_name_byte, begun, gone_on, with_sign, close_by, closed, taken, taken_by, taken_all, if_none_waits, ended, finished, finished_by, formula_of}
use Rattle.formulas.proofs.ReadLemmas.{IsBelow, release-stays, release-goes, sign-part, sign-no_part, sign-above}

-- the text ends with an operand of a rank, behind a text that is so opened
record EndsWith (opened : List Part → List ℕ → Type 0) (rank : ℕ) (parts : List Part) (text : List ℕ) : Type 0 where
  pub first_parts : List Part
  pub first_text : List ℕ
  pub own : List ℕ
  pub formula : Formula
  pub begins : opened first_parts first_text
  pub spelled : Spells rank own formula
  pub parts_are : parts ≡ first_parts ++ postfix formula
  pub text_is : text ≡ first_text ++ own

-- what stands before a sign that waits: what was read before its first operand, and that operand
record HasLeft (opened : List Part → List ℕ → Type 0) (waiting : List Waiting) (sign : Sign) (parts : List Part) (text : List ℕ) : Type 0 where
  pub before : List ℕ
  pub operand : EndsWith opened (rank_of sign) parts before
  pub below : IsBelow (rank_of sign) waiting
  pub sign_is : text ≡ before ++ byte_of sign ∷ []

-- the text, up to where an operand is to come, has what waits and the parts
abbrev IsOpened : List Waiting → List Part → List ℕ → Type 0
IsOpened [] parts text = (parts ≡ []) × (text ≡ [])
IsOpened (Bracket ∷ waiting) parts text = (first : List ℕ) × IsOpened waiting parts first × (text ≡ first ++ opening ∷ [])
IsOpened (Not ∷ waiting) parts text = (first : List ℕ) × IsOpened waiting parts first × (text ≡ first ++ exclamation ∷ [])
IsOpened (Join sign ∷ waiting) parts text = HasLeft (IsOpened waiting) waiting sign parts text

-- the text ends with an operand of a rank
abbrev HasOperand : ℕ → List Waiting → List Part → List ℕ → Type 0
HasOperand rank waiting parts text = EndsWith (IsOpened waiting) rank parts text

-- a formula of a rank is one of each lower rank
lower-by : (count rank other : ℕ) (text : List ℕ) (f : Formula) → rank ≡ other + count → Spells rank text f → Spells other text f
lower-by zero rank other text f far spelled = subst (λ r. Spells r text f) (let e : rank ≡ other = omega (arith, far) in e) spelled
lower-by (suc count) rank other text f far spelled =
    higher other text f (lower-by count rank (suc other) text f (omega (arith, far)) spelled)

lowered : (rank other : ℕ) (text : List ℕ) (f : Formula) → other ≤ rank → Spells rank text f → Spells other text f
lowered rank other text f low spelled = lower-by (rank - other) rank other text f (omega (arith, low)) spelled

-- an operand of a lower rank, with nothing behind it that binds so tightly
abbrev IsReleased : ℕ → List ℕ → List Waiting × List Part → Type 0
IsReleased bound text pair = HasOperand bound pair.0 pair.1 text × IsBelow bound pair.0

HasOperand-lowered : (rank bound : ℕ) (waiting : List Waiting) (parts : List Part) (text : List ℕ) → bound ≤ rank → HasOperand rank waiting parts text →
    HasOperand bound waiting parts text
HasOperand-lowered rank bound waiting parts text low has = record {
  first_parts = has.first_parts;
  first_text = has.first_text;
  own = has.own;
  formula = has.formula;
  begins = has.begins;
  spelled = lowered rank bound has.own has.formula low has.spelled;
  parts_are = has.parts_are;
  text_is = has.text_is;
}

-- an operand behind a negation is one with it
HasOperand-negated : (rank : ℕ) (waiting : List Waiting) (parts : List Part) (text : List ℕ) → 4 ≤ rank → HasOperand rank (Not ∷ waiting) parts text →
    HasOperand 4 waiting (parts ++ part.Not ∷ []) text
HasOperand-negated rank waiting parts text high has =
    let opened : (first : List ℕ) × IsOpened waiting has.first_parts first × (has.first_text ≡ first ++ exclamation ∷ []) = has.begins in
    record {
      first_parts = has.first_parts;
      first_text = opened.0;
      own = exclamation ∷ has.own;
      formula = negation has.formula;
      begins = opened.1;
      spelled = negated has.own has.formula (lowered rank 4 has.own has.formula high has.spelled);
      parts_are = ap (λ all. all ++ part.Not ∷ []) has.parts_are ∙ append_assoc has.first_parts (postfix has.formula) (part.Not ∷ []);
      text_is = has.text_is ∙ ap (λ first. first ++ has.own) opened.2 ∙ append_assoc opened.0 (exclamation ∷ []) has.own;
    }

-- an operand behind a sign and its first operand is one with them
HasOperand-joined : (rank : ℕ) (sign : Sign) (waiting : List Waiting) (parts : List Part) (text : List ℕ) → rank_of sign < rank →
    HasOperand rank (Join sign ∷ waiting) parts text → HasOperand (rank_of sign) waiting (parts ++ part.Join sign ∷ []) text
HasOperand-joined rank sign waiting parts text high has =
    let begun : HasLeft (IsOpened waiting) waiting sign has.first_parts has.first_text = has.begins in
    let left = begun.operand in
    let before : has.first_text ≡ left.first_text ++ (left.own ++ byte_of sign ∷ []) =
    begun.sign_is ∙ ap (λ text. text ++ byte_of sign ∷ []) left.text_is ∙ append_assoc left.first_text left.own (byte_of sign ∷ []) in
    record {
      first_parts = left.first_parts;
      first_text = left.first_text;
      own = left.own ++ byte_of sign ∷ has.own;
      formula = joined sign left.formula has.formula;
      begins = left.begins;
      spelled = signed sign left.own has.own left.formula has.formula left.spelled
          (lowered rank (suc (rank_of sign)) has.own has.formula (omega (arith, high)) has.spelled);
      parts_are =
          ap (λ all. all ++ part.Join sign ∷ []) (has.parts_are ∙ ap (λ first. first ++ postfix has.formula) left.parts_are)
          ∙ append_assoc (left.first_parts ++ postfix left.formula) (postfix has.formula) (part.Join sign ∷ [])
          ∙ append_assoc left.first_parts (postfix left.formula) (postfix has.formula ++ part.Join sign ∷ []);
      text_is =
          has.text_is ∙ ap (λ first. first ++ has.own) before
          ∙ append_assoc left.first_text (left.own ++ byte_of sign ∷ []) has.own
          ∙ ap (λ all. left.first_text ++ all) (append_assoc left.own (byte_of sign ∷ []) has.own);
    }

-- what binds at least so tightly becomes one operand
operand-released : (waiting : List Waiting) (bound rank : ℕ) (parts : List Part) (text : List ℕ) → bound ≤ rank → bound ≤ 4 →
    HasOperand rank waiting parts text → IsBelow rank waiting ⊎ (4 ≤ rank) → IsReleased bound text (release bound waiting parts)
operand-released [] bound rank parts text low small has below = (HasOperand-lowered rank bound [] parts text low has, tt)
operand-released (Bracket ∷ waiting) bound rank parts text low small has below =
    (HasOperand-lowered rank bound (Bracket ∷ waiting) parts text low has, refl)
operand-released (Not ∷ waiting) bound rank parts text low small has below =
    operand-released waiting bound 4 (parts ++ part.Not ∷ []) text small small (HasOperand-negated rank waiting parts text (high below) has) (inr (omega arith))
  where
    high : IsBelow rank (Not ∷ waiting) ⊎ (4 ≤ rank) → 4 ≤ rank
    high (inl none) = absurd (let e : Some part.Not ≡ None = none in cc)
    high (inr more) = more
operand-released (Join sign ∷ waiting) bound rank parts text low small has below =
    elim (cases_Bool (nat_le bound (rank_of sign))) [
      | inl goes ↦
          let tight = leb-true bound (rank_of sign) goes in
          let whole = HasOperand-joined rank sign waiting parts text (higher_rank sign below) has in
          subst (IsReleased bound text) (sym (release-goes bound (Join sign) (part.Join sign) waiting parts (sign-part sign bound tight)))
          (operand-released waiting bound (rank_of sign) (parts ++ part.Join sign ∷ []) text tight small whole (inl (left_below sign has)))
      | inr stays ↦
          let none = sign-no_part sign bound (leb-false bound (rank_of sign) stays) in
          subst (IsReleased bound text) (sym (release-stays bound (Join sign ∷ waiting) parts none))
          (HasOperand-lowered rank bound (Join sign ∷ waiting) parts text low has, none)
    ]
  where
    small_rank : (own : Sign) → rank_of own ≤ 3
    small_rank And = omega arith
    small_rank Differ = omega arith
    small_rank Or = omega arith

    higher_rank : (own : Sign) → IsBelow rank (Join own ∷ waiting) ⊎ (4 ≤ rank) → rank_of own < rank
    higher_rank own (inl none) = sign-above own rank none
    higher_rank own (inr more) = omega (arith, more, small_rank own)

    left_below : (own : Sign) → HasOperand rank (Join own ∷ waiting) parts text → IsBelow (rank_of own) waiting
    left_below own operand =
        let left : HasLeft (IsOpened waiting) waiting own operand.first_parts operand.first_text = operand.begins in left.below

-- where a reader stands that has read a text
abbrev IsStandingBy : Next → List ℕ → List Waiting → List Part → List ℕ → Type 0
IsStandingBy next.Operand name waiting parts text = IsOpened waiting parts text
IsStandingBy next.Name name waiting parts text =
    (first : List ℕ) × IsOpened waiting parts first × (text ≡ first ++ dollar ∷ name) × All (λ byte. is_name_byte byte ≡ true) name
IsStandingBy next.Sign name waiting parts text = HasOperand 4 waiting parts text

abbrev IsStanding : ReaderData → List ℕ → Type 0
IsStanding r text = IsStandingBy r.next r.name r.waiting r.parts text

-- a byte with which an operand begins
begun-standing : (r s : ReaderData) (text : List ℕ) (byte : ℕ) → IsOpened r.waiting r.parts text → (r.next ≡ next.Operand) → begun r byte ≡ Some s → IsStanding s (text ++ byte ∷ [])
begun-standing r s text byte opened at is =
    elim (cases_Bool (byte == dollar)) [
      | inl same ↦
          let made : record r { next = next.Name; name = [] } ≡ s =
          some_same (sym (ap (λ test. if test then Some (record r { next = next.Name; name = [] }) else others) same) ∙ is) in
          subst (λ t. IsStanding t (text ++ byte ∷ [])) made (text, opened, ap (λ b. text ++ b ∷ []) (eqb-true byte dollar same), λ k d inside. absurd (omega (arith, inside)))
      | inr other ↦
          let left = sym (ap (λ test. if test then Some (record r { next = next.Name; name = [] }) else others) other) ∙ is in
          elim (cases_Bool (byte == exclamation)) [
            | inl same ↦ mark_standing Not exclamation last same (λ way. way) left
            | inr more ↦
                let rest = sym (ap (λ test. if test then Some (record r { waiting = Not ∷ r.waiting }) else last) more) ∙ left in
                elim (cases_Bool (byte == opening)) [
                  | inl same ↦ mark_standing Bracket opening None same (λ way. way) rest
                  | inr none ↦
                      absurd (let e : None ≡ Some s = sym (ap (λ test. if test then Some (record r { waiting = Bracket ∷ r.waiting }) else None) none) ∙ rest in cc)
                ]
          ]
    ]
  where
    last : Option ReaderData
    last = if byte == opening then Some (record r { waiting = Bracket ∷ r.waiting }) else None

    others : Option ReaderData
    others = if byte == exclamation then Some (record r { waiting = Not ∷ r.waiting }) else last

    some_same : {one other : ReaderData} → Some one ≡ Some other → one ≡ other
    some_same e = cc

    -- a byte behind which an operand is wanted still, as what waits for it
    mark_standing : (one : Waiting) (mark : ℕ) (more : Option ReaderData) → (byte == mark) ≡ true →
        ((first : List ℕ) × IsOpened r.waiting r.parts first × (text ++ byte ∷ [] ≡ first ++ mark ∷ []) → IsOpened (one ∷ r.waiting) r.parts (text ++ byte ∷ [])) →
        (if byte == mark then Some (record r { waiting = one ∷ r.waiting }) else more) ≡ Some s → IsStanding s (text ++ byte ∷ [])
    mark_standing one mark more same opens made =
        let now : record r { waiting = one ∷ r.waiting } ≡ s =
        some_same (sym (ap (λ test. if test then Some (record r { waiting = one ∷ r.waiting }) else more) same) ∙ made) in
        subst (λ t. IsStanding t (text ++ byte ∷ [])) now
        (subst (λ n. IsStandingBy n r.name (one ∷ r.waiting) r.parts (text ++ byte ∷ [])) (sym at)
        (opens (text, opened, ap (λ b. text ++ b ∷ []) (eqb-true byte mark same))))

-- a byte of a sign
sign_byte : (byte : ℕ) (sign : Sign) → sign_of byte ≡ Some sign → byte ≡ byte_of sign
sign_byte byte sign is =
    elim (cases_Bool (byte == 38)) [
      | inl same ↦ eqb-true byte 38 same ∙ ap byte_of (same_sign (sym (ap (λ test. if test then Some And else not_and) same) ∙ is))
      | inr other ↦
          let left = sym (ap (λ test. if test then Some And else not_and) other) ∙ is in
          elim (cases_Bool (byte == 94)) [
            | inl same ↦ eqb-true byte 94 same ∙ ap byte_of (same_sign (sym (ap (λ test. if test then Some Differ else not_differ) same) ∙ left))
            | inr more ↦
                let rest = sym (ap (λ test. if test then Some Differ else not_differ) more) ∙ left in
                elim (cases_Bool (byte == 124)) [
                  | inl same ↦ eqb-true byte 124 same ∙ ap byte_of (same_sign (sym (ap (λ test. if test then Some Or else None) same) ∙ rest))
                  | inr none ↦ absurd (let e : None ≡ Some sign = sym (ap (λ test. if test then Some Or else None) none) ∙ rest in cc)
                ]
          ]
    ]
  where
    not_differ : Option Sign
    not_differ = if byte == 124 then Some Or else None

    not_and : Option Sign
    not_and = if byte == 94 then Some Differ else not_differ

    same_sign : {one other : Sign} → Some one ≡ Some other → one ≡ other
    same_sign e = cc

-- a bracket that closes ends an operand
closed-standing : (waiting : List Waiting) (name : List ℕ) (parts : List Part) (s : ReaderData) (text : List ℕ) → IsReleased 1 text (waiting, parts) →
    close_by waiting (record { next = next.Sign; name = name; waiting = waiting; parts = parts }) ≡ Some s → IsStanding s (text ++ closing ∷ [])
closed-standing [] name parts s text read is = absurd (let e : None ≡ Some s = is in cc)
closed-standing (Not ∷ waiting) name parts s text read is = absurd (let e : None ≡ Some s = is in cc)
closed-standing (Join sign ∷ waiting) name parts s text read is = absurd (let e : None ≡ Some s = is in cc)
closed-standing (Bracket ∷ waiting) name parts s text read is =
    let has = read.0 in
    let opened : (first : List ℕ) × IsOpened waiting has.first_parts first × (has.first_text ≡ first ++ opening ∷ []) = has.begins in
    let made : record { next = next.Sign; name = name; waiting = waiting; parts = parts } ≡ s = some_same is in
    subst (λ t. IsStanding t (text ++ closing ∷ [])) made (record {
      first_parts = has.first_parts;
      first_text = opened.0;
      own = opening ∷ (has.own ++ closing ∷ []);
      formula = has.formula;
      begins = opened.1;
      spelled = brackets has.own has.formula has.spelled;
      parts_are = has.parts_are;
      text_is =
          ap (λ own. own ++ closing ∷ []) (has.text_is ∙ ap (λ first. first ++ has.own) opened.2 ∙ append_assoc opened.0 (opening ∷ []) has.own)
          ∙ append_assoc opened.0 (opening ∷ has.own) (closing ∷ []);
    })
  where
    some_same : {one other : ReaderData} → Some one ≡ Some other → one ≡ other
    some_same e = cc

-- a sign waits behind its first operand
signed-standing : (sign : Sign) (pair : List Waiting × List Part) (text : List ℕ) → IsReleased (rank_of sign) text pair →
    IsOpened (Join sign ∷ pair.0) pair.1 (text ++ byte_of sign ∷ [])
signed-standing sign pair text read = record { before = text; operand = read.0; below = read.1; sign_is = refl }

-- a byte that comes behind an operand
gone_on-standing : (r s : ReaderData) (text : List ℕ) (byte : ℕ) → r.next ≡ next.Sign → HasOperand 4 r.waiting r.parts text → gone_on r byte ≡ Some s →
    IsStanding s (text ++ byte ∷ [])
gone_on-standing r s text byte at has is =
    elim (cases_Bool (byte == closing)) [
      | inl same ↦
          let made : closed r ≡ Some s = sym (ap (λ test. if test then closed r else option_map (with_sign r) (sign_of byte)) same) ∙ is in
          let read = operand-released r.waiting 1 4 r.parts text (omega arith) (omega arith) has (inr (omega arith)) in
          subst (λ b. IsStanding s (text ++ b ∷ [])) (sym (eqb-true byte closing same))
          (closed-standing (release 1 r.waiting r.parts).0 r.name (release 1 r.waiting r.parts).1 s text read
          (ap (λ n. close_by (release 1 r.waiting r.parts).0 (record { next = n; name = r.name; waiting = (release 1 r.waiting r.parts).0; parts = (release 1 r.waiting r.parts).1 })) (sym at)
          ∙ made))
      | inr other ↦
          let made : option_map (with_sign r) (sign_of byte) ≡ Some s = sym (ap (λ test. if test then closed r else option_map (with_sign r) (sign_of byte)) other) ∙ is in
          by (sign_of byte) refl made
    ]
  where
    low_rank : (own : Sign) → rank_of own ≤ 4
    low_rank And = omega arith
    low_rank Differ = omega arith
    low_rank Or = omega arith

    by : (found : Option Sign) → sign_of byte ≡ found → option_map (with_sign r) found ≡ Some s → IsStanding s (text ++ byte ∷ [])
    by None sign made = absurd (let e : None ≡ Some s = made in cc)
    by (Some own) sign made =
        let same : with_sign r own ≡ s = cc in
        let read = operand-released r.waiting (rank_of own) 4 r.parts text (low_rank own) (low_rank own) has (inr (omega arith)) in
        subst (λ t. IsStanding t (text ++ byte ∷ [])) same
        (subst (λ b. IsStanding (with_sign r own) (text ++ b ∷ [])) (sym (sign_byte byte own sign))
        (signed-standing own (release (rank_of own) r.waiting r.parts) text read))

-- a name with a byte that may stand in it, or one at its end
word-long : (name : List ℕ) → is_word name ≡ true → 0 < length name
word-long [] some = absurd (let e : false ≡ true = some in cc)
word-long (byte ∷ name) some = omega arith

All-push : (name : List ℕ) (byte : ℕ) → All (λ b. is_name_byte b ≡ true) name → is_name_byte byte ≡ true → All (λ b. is_name_byte b ≡ true) (name ++ byte ∷ [])
All-push name byte all plain = All-append (λ b. is_name_byte b ≡ true) name (byte ∷ []) all (λ k d inside. one k d inside)
  where
    one : (k d : ℕ) → k < 1 → is_name_byte (get_or (byte ∷ []) k d) ≡ true
    one zero d inside = plain
    one (suc k) d inside = absurd (omega (arith, inside))

-- a name that is at its end is an operand
name-operand : (waiting : List Waiting) (parts : List Part) (name first : List ℕ) (text : List ℕ) → IsOpened waiting parts first →
    text ≡ first ++ dollar ∷ name → All (λ b. is_name_byte b ≡ true) name → is_word name ≡ true →
    HasOperand 4 waiting (parts ++ part.Name name ∷ []) text
name-operand waiting parts name first text opened whole plain some = record {
  first_parts = parts;
  first_text = first;
  own = dollar ∷ name;
  formula = variable name;
  begins = opened;
  spelled = a_name name (record { some = word-long name some; plain = plain });
  parts_are = refl;
  text_is = whole;
}

-- any byte, by what may come next
taken-standing : (at : Next) (r s : ReaderData) (text : List ℕ) (byte : ℕ) → r.next ≡ at → IsStandingBy at r.name r.waiting r.parts text →
    taken_by at r byte ≡ Some s → IsStanding s (text ++ byte ∷ [])
taken-standing next.Operand r s text byte at stands is = begun-standing r s text byte stands at is
taken-standing next.Sign r s text byte at stands is = gone_on-standing r s text byte at stands is
taken-standing next.Name r s text byte at stands is =
    elim (cases_Bool (is_name_byte byte)) [
      | inl plain ↦
          let made : with_name_byte r byte ≡ s =
          some_same (sym (ap (λ test. if test then Some (with_name_byte r byte) else after_name) plain) ∙ is) in
          subst (λ t. IsStanding t (text ++ byte ∷ [])) made
          (subst (λ n. IsStandingBy n (r.name ++ byte ∷ []) r.waiting r.parts (text ++ byte ∷ [])) (sym at) (
            stands.0,
            stands.1,
            ap (λ own. own ++ byte ∷ []) stands.2 ∙ append_assoc stands.0 (dollar ∷ r.name) (byte ∷ []),
            All-push r.name byte stands.3 plain,
          ))
      | inr other ↦
          let left : after_name ≡ Some s = sym (ap (λ test. if test then Some (with_name_byte r byte) else after_name) other) ∙ is in
          elim (cases_Bool (is_word r.name)) [
            | inl some ↦
                let ended_name = ap (λ test. option_and_then (λ t. gone_on t byte) (if test then Some named else None)) some in
                gone_on-standing named s text byte refl (name-operand r.waiting r.parts r.name stands.0 text stands.1 stands.2 stands.3 some) (sym ended_name ∙ left)
            | inr none ↦
                absurd (let e : None ≡ Some s = sym (ap (λ test. option_and_then (λ t. gone_on t byte) (if test then Some named else None)) none) ∙ left in cc)
          ]
    ]
  where
    named : ReaderData
    named = record r { next = next.Sign; name = []; parts = r.parts ++ part.Name r.name ∷ [] }

    after_name : Option ReaderData
    after_name = option_and_then (λ t. gone_on t byte) (with_name r)

    some_same : {one other : ReaderData} → Some one ≡ Some other → one ≡ other
    some_same e = cc

-- all bytes of a text
taken_all-standing : (rest : List ℕ) (r s : ReaderData) (text : List ℕ) → IsStanding r text → taken_all rest r ≡ Some s → IsStanding s (text ++ rest)
taken_all-standing [] r s text stands is =
    let same : r ≡ s = cc in
    subst (λ t. IsStanding t (text ++ [])) same (subst (IsStanding r) (sym (append-nil text)) stands)
taken_all-standing (byte ∷ rest) r s text stands is =
    by (taken r byte) refl is (λ t. taken_all-standing rest t s (text ++ byte ∷ []))
  where
    by : (found : Option ReaderData) → taken r byte ≡ found → option_and_then (taken_all rest) found ≡ Some s →
        ((t : ReaderData) → IsStanding t (text ++ byte ∷ []) → taken_all rest t ≡ Some s → IsStanding s (text ++ byte ∷ [] ++ rest)) →
        IsStanding s (text ++ byte ∷ rest)
    by None read made later = absurd (let e : None ≡ Some s = made in cc)
    by (Some t) read made later =
        subst (IsStanding s) (append_assoc text (byte ∷ []) rest)
        (later t (taken-standing r.next r t text byte refl stands read) made)

-- the parts of what was read, if nothing waits
ended-written : (waiting : List Waiting) (parts out : List Part) (text : List ℕ) → IsReleased 1 text (waiting, parts) → if_none_waits waiting parts ≡ Some out →
    IsWritten text out
ended-written (last ∷ waiting) parts out text read is = absurd (let e : None ≡ Some out = is in cc)
ended-written [] parts out text read is =
    let has = read.0 in
    let opened : (has.first_parts ≡ []) × (has.first_text ≡ []) = has.begins in
    let same : parts ≡ out = some_same is in
    let text_is : text ≡ has.own = has.text_is ∙ ap (λ first. first ++ has.own) opened.1 in
    record {
      formula = has.formula;
      spelled = subst (λ t. Spells 1 t has.formula) (sym text_is) has.spelled;
      same = sym same ∙ has.parts_are ∙ ap (λ first. first ++ postfix has.formula) opened.0;
    }
  where
    some_same : {one other : List Part} → Some one ≡ Some other → one ≡ other
    some_same e = cc

released-written : (r : ReaderData) (out : List Part) (text : List ℕ) → HasOperand 4 r.waiting r.parts text → ended r ≡ Some out → IsWritten text out
released-written r out text has is =
    ended-written (release 1 r.waiting r.parts).0 (release 1 r.waiting r.parts).1 out text
    (operand-released r.waiting 1 4 r.parts text (omega arith) (omega arith) has (inr (omega arith))) is

finished-written : (at : Next) (r : ReaderData) (out : List Part) (text : List ℕ) → IsStandingBy at r.name r.waiting r.parts text → finished_by at r ≡ Some out →
    IsWritten text out
finished-written next.Operand r out text stands is = absurd (let e : None ≡ Some out = is in cc)
finished-written next.Sign r out text stands is = released-written r out text stands is
finished-written next.Name r out text stands is =
    elim (cases_Bool (is_word r.name)) [
      | inl some ↦
          released-written named out text (name-operand r.waiting r.parts r.name stands.0 text stands.1 stands.2 stands.3 some)
          (sym (ap (λ test. option_and_then ended (if test then Some named else None)) some) ∙ is)
      | inr none ↦ absurd (let e : None ≡ Some out = sym (ap (λ test. option_and_then ended (if test then Some named else None)) none) ∙ is in cc)
    ]
  where
    named : ReaderData
    named = record r { next = next.Sign; name = []; parts = r.parts ++ part.Name r.name ∷ [] }

-- what is read of a text is a formula that it writes
pub formula-written : (text : List ℕ) (out : List Part) → formula_of text ≡ Some out → IsWritten text out
formula-written text out is = by (taken_all text start) refl is
  where
    by : (found : Option ReaderData) → taken_all text start ≡ found → option_and_then finished found ≡ Some out → IsWritten text out
    by None read made = absurd (let e : None ≡ Some out = made in cc)
    by (Some r) read made = finished-written r.next r out text (taken_all-standing text start r [] (refl, refl) read) made
