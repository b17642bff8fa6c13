-- Lines that are told one after the other: what of them was heard so far, and the rows of columns that are left.
use Rattle.std.proofs.Common.{◌≡◌, ℕ, suc, ◌+◌, ◌-◌, ◌<◌, inl, inr, arith, List, [], ◌∷◌, ◌++◌, refl, sym, ap, subst, ◌∙◌, append-nil, append_assoc}
use Rattle.std.specs.Prelude.{Result, Ok, Err, OnOk, OnErr}
use Rattle.told_lines.specs.Lines.{Line, Told}
use Rattle.told_lines.specs.Hearing.{hear_all, HearsPart, Hears, SoFar, HearsFront, of_column, row_from}

-- a front and the rest are heard one after the other
pub hear_all-append : {H A : Type 0} (hear : H → A → H) (before : H) (front rest : List A) →
    hear_all hear before (front ++ rest) ≡ hear_all hear (hear_all hear before front) rest
hear_all-append hear before [] rest = refl
hear_all-append hear before (line ∷ front) rest = hear_all-append hear (hear before line) front rest

-- one line was heard, or a part of it
pub one_heard : {H A E : Type 0} (hear : H → A → H) (part : H → A → H → Type 0) (before after : H) (line : A) (result : Result (Unit {0}) E) →
    OnOk result (after ≡ hear before line) → OnErr result (part before line after) → Hears hear part before after (line ∷ []) result
one_heard hear part before after line (Ok _) ok err = ok
one_heard hear part before after line (Err fault) ok err = record { front = []; next = line; rest = []; split = refl; heard = err }

-- none was heard yet
pub so_far-start : {H A : Type 0} (hear : H → A → H) (start : H) (all : List A) → SoFar hear start start all all
so_far-start hear start all = record { done = []; split = refl; heard = refl }

-- a piece more was heard
pub so_far-more : {H A : Type 0} (hear : H → A → H) (start now after : H) (all left piece rest : List A) → left ≡ piece ++ rest →
    SoFar hear start now all left → after ≡ hear_all hear now piece → SoFar hear start after all rest
so_far-more {A = A} hear start now after all left piece rest parted before heard = record {
  done = before.done ++ piece;
  split = before.split ∙ ap (λ (lines : List A). before.done ++ lines) parted ∙ sym (append_assoc before.done piece rest);
  heard = heard ∙ ap (λ h. hear_all hear h piece) before.heard ∙ sym (hear_all-append hear start before.done piece);
}

-- all was heard
pub so_far-end : {H A : Type 0} (hear : H → A → H) (start now : H) (all : List A) → SoFar hear start now all [] → now ≡ hear_all hear start all
so_far-end {A = A} hear start now all before =
    before.heard ∙ ap (λ (lines : List A). hear_all hear start lines) (sym (append-nil before.done) ∙ sym before.split)

-- of a piece more a part was heard
pub so_far-stopped : {H A : Type 0} (hear : H → A → H) (part : H → A → H → Type 0) (start now after : H) (all left piece rest : List A) →
    left ≡ piece ++ rest → SoFar hear start now all left → HearsPart hear part now after piece → HearsPart hear part start after all
so_far-stopped {A = A} hear part start now after all left piece rest parted before stopped = record {
  front = before.done ++ stopped.front;
  next = stopped.next;
  rest = stopped.rest ++ rest;
  split = before.split ∙ ap (λ (lines : List A). before.done ++ lines) (parted ∙ ap (λ (lines : List A). lines ++ rest) stopped.split
      ∙ append_assoc stopped.front (stopped.next ∷ stopped.rest) rest)
      ∙ sym (append_assoc before.done stopped.front (stopped.next ∷ (stopped.rest ++ rest)));
  heard = subst (λ h. part h stopped.next after)
      (ap (λ h. hear_all hear h stopped.front) before.heard ∙ sym (hear_all-append hear start before.done stopped.front)) stopped.heard;
}

-- of a piece more a front was heard, and perhaps a part of its next line
pub so_far-front : {H A : Type 0} (hear : H → A → H) (part : H → A → H → Type 0) (start now after : H) (all left piece rest : List A) →
    left ≡ piece ++ rest → SoFar hear start now all left → HearsFront hear part now after piece → HearsFront hear part start after all
so_far-front {A = A} hear part start now after all left piece rest parted before (inl (more, heard)) = inl (
  more ++ rest,
  so_far-more hear start now after all left heard.done (more ++ rest)
      (parted ∙ ap (λ (lines : List A). lines ++ rest) heard.split ∙ append_assoc heard.done more rest) before heard.heard,
)
so_far-front hear part start now after all left piece rest parted before (inr stopped) =
    inr (so_far-stopped hear part start now after all left piece rest parted before stopped)

-- a column's lines and others are told one after the other
pub of_column-append : (column : ℕ) (lines more : List Line) → of_column column (lines ++ more) ≡ of_column column lines ++ of_column column more
of_column-append column [] more = refl
of_column-append column (line ∷ lines) more = ap (λ (rest : List Told). record { column = column; line = line } ∷ rest) (of_column-append column lines more)

-- what is left of a row from a column on is that column's lines, and what is left from the next one on
pub row_from-next : (lines : ℕ → List Line) (column count : ℕ) → column < count →
    row_from lines column (count - column) ≡ of_column column (lines column) ++ row_from lines (column + 1) (count - (column + 1))
row_from-next lines column count inside =
    let more : count - column ≡ suc (count - (column + 1)) = omega (arith, inside) in
    ap (row_from lines column) more

-- a column's lines were heard, and then others, or a part of them
pub lines-then : {H E : Type 0} (hear : H → Told → H) (part : H → Told → H → Type 0) (column : ℕ) (before mid after : H) (front rest : List Line)
    (result : Result (Unit {0}) E) → mid ≡ hear_all hear before (of_column column front) → Hears hear part mid after (of_column column rest) result →
    Hears hear part before after (of_column column (front ++ rest)) result
lines-then hear part column before mid after front rest (Ok _) heard sent =
    sent ∙ ap (λ h. hear_all hear h (of_column column rest)) heard ∙ sym (hear_all-append hear before (of_column column front) (of_column column rest))
    ∙ ap (hear_all hear before) (sym (of_column-append column front rest))
lines-then hear part column before mid after front rest (Err fault) heard sent =
    so_far-stopped hear part before mid after (of_column column (front ++ rest)) (of_column column rest) (of_column column rest) []
    (sym (append-nil (of_column column rest)))
    (record { done = of_column column front; split = of_column-append column front rest; heard = heard }) sent

-- of a column's lines a part was heard, so of these and others
pub lines-part : {H : Type 0} (hear : H → Told → H) (part : H → Told → H → Type 0) (column : ℕ) (before after : H) (front rest : List Line) →
    HearsPart hear part before after (of_column column front) → HearsPart hear part before after (of_column column (front ++ rest))
lines-part hear part column before after front rest stopped =
    so_far-stopped hear part before before after (of_column column (front ++ rest)) (of_column column (front ++ rest)) (of_column column front)
    (of_column column rest) (of_column-append column front rest) (so_far-start hear before (of_column column (front ++ rest))) stopped
