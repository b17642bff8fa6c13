-- What a hearer round another one hears: all that the inner one does, and whether an expectation was not met.
use Rattle.std.proofs.Common.{◌≡◌, Bool, true, false, ◌||◌, List, [], ◌∷◌, refl, subst, ◌∙◌}
use Rattle.told_lines.specs.Lines.{Told, is_unmet}
use Rattle.told_lines.specs.Hearing.{hear_all, HearsPart}
use Rattle.told_lines.specs.Meeting.{hear_met, part_met, has_unmet}

-- one or another, or a third
or_later : (one other third : Bool) → ((one || other) || third) ≡ (one || (other || third))
or_later true other third = refl
or_later false other third = refl

or_none : (one : Bool) → one ≡ (one || false)
or_none true = refl
or_none false = refl

-- the inner one hears all lines
pub inner-all : {H : Type 0} (hear : H → Told → H) (before : H × Bool) (lines : List Told) →
    (hear_all (hear_met hear) before lines).0 ≡ hear_all hear before.0 lines
inner-all hear before [] = refl
inner-all hear before (told ∷ lines) = inner-all hear (hear_met hear before told) lines

-- an expectation that was not met is remembered
pub missed-all : {H : Type 0} (hear : H → Told → H) (before : H × Bool) (lines : List Told) →
    (hear_all (hear_met hear) before lines).1 ≡ (before.1 || has_unmet lines)
missed-all hear before [] = or_none before.1
missed-all hear before (told ∷ lines) =
    missed-all hear (hear_met hear before told) lines ∙ or_later before.1 (is_unmet told.line) (has_unmet lines)

-- where a part of lines was heard, the inner one heard it
pub inner-part : {H : Type 0} (hear : H → Told → H) (part : H → Told → H → Type 0) (before after : H × Bool) (lines : List Told) →
    HearsPart (hear_met hear) (part_met part) before after lines → HearsPart hear part before.0 after.0 lines
inner-part hear part before after lines is = record {
  front = is.front;
  next = is.next;
  rest = is.rest;
  split = is.split;
  heard = subst (λ now. part now is.next after.0) (inner-all hear before is.front) is.heard.0;
}
