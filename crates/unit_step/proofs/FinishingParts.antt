-- Texts that got a number, and the texts with these numbers.
use Rattle.std.proofs.Common.{◌≡◌, ℕ, List, [], ◌∷◌, ◌++◌, map, Some, refl, sym, ap, ap₂, ◌∙◌, append_assoc, append-nil}
use Rattle.std.specs.Prelude.{slice_get}
use Rattle.group_text.specs.Texts.{GroupTextData}
use Rattle.kept_parts.specs.Uses.{UsesData, IsNumbered}
use Rattle.list_facts.proofs.PlaceLemmas.{slice_get-grown}

-- if further texts are known, the numbers' texts are the same
pub known_more : (known more : List GroupTextData) (numbers : List ℕ) (texts : List GroupTextData) → map (slice_get known) numbers ≡ map Some texts →
    map (slice_get (known ++ more)) numbers ≡ map Some texts
known_more known more [] texts are = are
known_more known more (n ∷ numbers) [] are = absurd cc
known_more known more (n ∷ numbers) (text ∷ texts) are =
    let first : slice_get known n ≡ Some text = cc in
    let rest : map (slice_get known) numbers ≡ map Some texts = cc in
    ap₂ (λ one list. one ∷ list) (slice_get-grown known more n text first) (known_more known more numbers texts rest)

-- no text more is known, or more are, and then still more
pub IsNumbered-none : (uses : UsesData) → IsNumbered uses uses
IsNumbered-none uses = record { more = []; known = sym (append-nil uses.known); numbers = refl }

pub IsNumbered-then : (old mid new : UsesData) → IsNumbered old mid → IsNumbered mid new → IsNumbered old new
IsNumbered-then old mid new first later = record {
  more = first.more ++ later.more;
  known = later.known ∙ (ap (λ known. known ++ later.more) first.known ∙ append_assoc old.known first.more later.more);
  numbers = later.numbers ∙ first.numbers;
}
