-- Lists of texts: the new ones among all are those of the groups whose texts aren't kept, and lists with the same texts have as many
-- distinct ones.
use Rattle.std.proofs.Common.{◌≡◌, ℕ, zero, suc, ◌<◌, Some, None, Bool, true, false, not, cond, ◌||◌, List, [], ◌∷◌, length, map, filter, refl, sym, ap, ◌∙◌, true≢false, arith}
use Rattle.std.specs.Prelude.{Contains, slice_get}
use Rattle.std.specs.List.{IsDistinct, AllByRecursion, list_any}
use Rattle.std.proofs.lemmas.List.Elements.{Contains-append_right}
use Rattle.std.proofs.lemmas.Bool.{cond-true, cond-false}
use Rattle.std.proofs.lemmas.Map.Made.{length-from_same_keys}
use Rattle.std.proofs.lemmas.Map.Views.{any-filter_same}
use Rattle.group_meaning.specs.Groups.{Group, id_of}
use Rattle.group_text.specs.declared.text.TextFault.{TextFault}
use Rattle.circuit_texts.specs.declared.texts.BuildFault.{BuildFault}
use Rattle.circuit_texts.specs.Sizes.{refused_in, at_node, IsFirstRefused}
use Rattle.group_text.specs.Texts.{GroupTextData}
use Rattle.group_text.specs.Compared.{same_text, same_text_decides, same_text_equivalence}
use Rattle.group_text.specs.FirstTexts.{is_among, first_texts, new_texts}
use Rattle.analysis_cache.proofs.NewTextLemmas.{is_among-kept, new_texts-none_kept}

module _ {X : Type 0} where
  -- what a second test lets through passes the first one: so the first takes nothing out that the second would leave
  filter_within : (p q : X → Bool) → ((x : X) → p x ≡ false → q x ≡ false) → (xs : List X) → filter q (filter p xs) ≡ filter q xs
  filter_within p q implied [] = refl
  filter_within p q implied (x ∷ xs) = by (filter_within p q implied xs) (p x) refl
    where
      by : filter q (filter p xs) ≡ filter q xs → (b : Bool) → p x ≡ b →
          filter q (cond b (x ∷ filter p xs) (filter p xs)) ≡ cond (q x) (x ∷ filter q xs) (filter q xs)
      by later true is = ap (λ rest. cond (q x) (x ∷ rest) rest) later
      by later false is = later ∙ sym (cond-false (q x) (x ∷ filter q xs) (filter q xs) (implied x is))

  -- two tests can be made in either order
  filter_swapped : (p q : X → Bool) (xs : List X) → filter p (filter q xs) ≡ filter q (filter p xs)
  filter_swapped p q [] = refl
  filter_swapped p q (x ∷ xs) = by (filter_swapped p q xs) (p x) (q x) refl refl
    where
      by : filter p (filter q xs) ≡ filter q (filter p xs) → (a b : Bool) → p x ≡ a → q x ≡ b →
          filter p (cond b (x ∷ filter q xs) (filter q xs)) ≡ filter q (cond a (x ∷ filter p xs) (filter p xs))
      by later true true first second =
          cond-true (p x) (x ∷ filter p (filter q xs)) (filter p (filter q xs)) first
          ∙ (ap (λ rest. x ∷ rest) later
          ∙ sym (cond-true (q x) (x ∷ filter q (filter p xs)) (filter q (filter p xs)) second))
      by later true false first second =
          later ∙ sym (cond-false (q x) (x ∷ filter q (filter p xs)) (filter q (filter p xs)) second)
      by later false true first second =
          cond-false (p x) (x ∷ filter p (filter q xs)) (filter p (filter q xs)) first ∙ later
      by later false false first second = later

-- the other texts
abbrev other_than : GroupTextData → GroupTextData → Bool
other_than text other = not (same_text other text)

-- the new ones of a text and those behind it
new_texts-cons : (kept : List GroupTextData) (text : GroupTextData) (texts : List GroupTextData) →
    new_texts kept (text ∷ texts)
    ≡ cond (not (is_among kept text)) (text ∷ filter (other_than text) (new_texts kept texts)) (filter (other_than text) (new_texts kept texts))
new_texts-cons kept text texts =
    ap (λ rest. cond (not (is_among kept text)) (text ∷ rest) rest)
    (filter_swapped (λ one. not (is_among kept one)) (other_than text) (first_texts texts))

-- what a negated test takes out passes the test
passed : (b : Bool) → not b ≡ false → b ≡ true
passed true is = refl
passed false is = absurd (true≢false is)

-- a text that is kept adds none
new_texts-old : (kept : List GroupTextData) (text : GroupTextData) (texts : List GroupTextData) → is_among kept text ≡ true →
    new_texts kept (text ∷ texts) ≡ new_texts kept texts
new_texts-old kept text texts is =
    let new : GroupTextData → Bool = λ one. not (is_among kept one) in
    cond-false (new text) (text ∷ filter new (filter (other_than text) (first_texts texts)))
    (filter new (filter (other_than text) (first_texts texts))) (ap not is)
    ∙ filter_within (other_than text) new old (first_texts texts)
  where
    old : (one : GroupTextData) → other_than text one ≡ false → not (is_among kept one) ≡ false
    old one same = ap not (ap (is_among kept) ((same_text_decides one text).0 (passed (same_text one text) same)) ∙ is)

module _ {X : Type 0} (text_of : X → GroupTextData) (waits : X → Bool) (kept : List GroupTextData) where
  -- the new texts of all are those of the ones that wait, where the texts of all others are kept
  pub new_texts-waiting : (xs : List X) → ((x : X) → Contains xs x → waits x ≡ false → is_among kept (text_of x) ≡ true) →
      new_texts kept (map text_of xs) ≡ new_texts kept (map text_of (filter waits xs))
  new_texts-waiting [] known = refl
  new_texts-waiting (x ∷ xs) known =
      by (new_texts-waiting xs (λ other there. known other (Contains-append_right (x ∷ []) xs other there))) (waits x) refl
    where
      by : new_texts kept (map text_of xs) ≡ new_texts kept (map text_of (filter waits xs)) → (b : Bool) → waits x ≡ b →
          new_texts kept (map text_of (x ∷ xs)) ≡ new_texts kept (map text_of (cond b (x ∷ filter waits xs) (filter waits xs)))
      by later true is =
          new_texts-cons kept (text_of x) (map text_of xs)
          ∙ (ap (λ rest. cond (not (is_among kept (text_of x))) (text_of x ∷ filter (other_than (text_of x)) rest) (filter (other_than (text_of x)) rest)) later
          ∙ sym (new_texts-cons kept (text_of x) (map text_of (filter waits xs))))
      by later false is = new_texts-old kept (text_of x) (map text_of xs) (known x (0, omega arith, refl) is) ∙ later

-- if no text passes a test, each fails it
none_passes : (test : GroupTextData → Bool) (texts : List GroupTextData) → list_any test texts ≡ false → AllByRecursion (λ text. test text ≡ false) texts
none_passes test [] none = tt
none_passes test (text ∷ texts) none = by (none_passes test texts) (test text) refl none
  where
    by : (list_any test texts ≡ false → AllByRecursion (λ one. test one ≡ false) texts) → (b : Bool) → test text ≡ b →
        (b || list_any test texts) ≡ false → (test text ≡ false) × AllByRecursion (λ one. test one ≡ false) texts
    by later true is none = absurd (true≢false none)
    by later false is none = (is, later none)

-- what holds of each holds of those that pass a test
each_left : (P : GroupTextData → Type 0) (test : GroupTextData → Bool) (texts : List GroupTextData) → AllByRecursion P texts →
    AllByRecursion P (filter test texts)
each_left P test [] each = tt
each_left P test (text ∷ texts) each = by (each_left P test texts each.1) (test text)
  where
    by : AllByRecursion P (filter test texts) → (b : Bool) → AllByRecursion P (cond b (text ∷ filter test texts) (filter test texts))
    by later true = (each.0, later)
    by later false = later

-- a list without repeats has none after a filter
IsDistinct-filter : (test : GroupTextData → Bool) (texts : List GroupTextData) → IsDistinct same_text texts →
    IsDistinct same_text (filter test texts)
unfolding IsDistinct
IsDistinct-filter test [] apart = tt
IsDistinct-filter test (text ∷ texts) apart = by (IsDistinct-filter test texts apart.1) (test text)
  where
    by : IsDistinct same_text (filter test texts) → (b : Bool) → IsDistinct same_text (cond b (text ∷ filter test texts) (filter test texts))
    by later true = (each_left (λ other. same_text text other ≡ false) test texts apart.0, later)
    by later false = later

-- no text stands twice among the first appearances
IsDistinct-first : (texts : List GroupTextData) → IsDistinct same_text (first_texts texts)
unfolding IsDistinct
IsDistinct-first [] = tt
IsDistinct-first (text ∷ texts) = (
  none_passes (same_text text) (filter (other_than text) (first_texts texts))
      (any-filter_same (same_text text) (other_than text) false apart (first_texts texts)),
  IsDistinct-filter (other_than text) (first_texts texts) (IsDistinct-first texts),
)
  where
    apart : (other : GroupTextData) → same_text text other ≡ true → other_than text other ≡ false
    apart other same = ap not ((same_text_decides other text).1 (sym ((same_text_decides text other).0 same)))

-- a text is among the first appearances exactly if it is among the texts
is_among-first : (texts : List GroupTextData) (text : GroupTextData) → is_among (first_texts texts) text ≡ is_among texts text
is_among-first texts text = ap (λ list. is_among list text) (sym (new_texts-none_kept texts)) ∙ is_among-kept [] texts text

-- lists with the same texts have as many distinct ones
pub same_distinct : (one two : List GroupTextData) → ((text : GroupTextData) → is_among one text ≡ is_among two text) →
    length (first_texts one) ≡ length (first_texts two)
same_distinct one two same =
    length-from_same_keys same_text_equivalence (first_texts one) (first_texts two) (IsDistinct-first one) (IsDistinct-first two)
    (λ text. is_among-first one text ∙ (same text ∙ sym (is_among-first two text)))

-- the first group that is too large stands behind one more that isn't
first_behind : (large : ℕ) (x : Group) (groups : List Group) (fault : BuildFault) → refused_in large x ≡ None → IsFirstRefused large groups fault → IsFirstRefused large (x ∷ groups) fault
first_behind large x groups fault fits later = record {
  k = suc later.k;
  group = later.group;
  stands = later.stands;
  cause = later.cause;
  too_large = later.too_large;
  named = later.named;
  before = earlier;
}
  where
    earlier : (j : ℕ) (other : Group) → j < suc later.k → slice_get (x ∷ groups) j ≡ Some other → refused_in large other ≡ None
    earlier zero other below at =
        let same : x ≡ other = cc in
        ap (refused_in large) (sym same) ∙ fits
    earlier (suc j) other below at = later.before j other (omega (arith, below)) at

-- it is the first of a list, or behind the first
first_cases : (large : ℕ) (x : Group) (rest groups : List Group) (fault : BuildFault) → (IsFirstRefused large rest fault → IsFirstRefused large groups fault) →
    (k : ℕ) (group : Group) (cause : TextFault) → slice_get (x ∷ rest) k ≡ Some group → refused_in large group ≡ Some cause → fault ≡ at_node (id_of group) cause →
    ((j : ℕ) (other : Group) → j < k → slice_get (x ∷ rest) j ≡ Some other → refused_in large other ≡ None) → IsFirstRefused large (x ∷ groups) fault
first_cases large x rest groups fault later zero group cause stands too_large named before = record {
  k = 0;
  group = group;
  stands = stands;
  cause = cause;
  too_large = too_large;
  named = named;
  before = λ j other below at. absurd (omega (arith, below));
}
first_cases large x rest groups fault later (suc k) group cause stands too_large named before =
    first_behind large x groups fault (before 0 x (omega arith) refl) (later (record {
      k = k;
      group = group;
      stands = stands;
      cause = cause;
      too_large = too_large;
      named = named;
      before = λ j other below at. before (suc j) other (omega (arith, below)) at;
    }))

-- the first group that is too large among those that pass a test is the first of all, where all others fit
pub first_waiting : (large : ℕ) (waits : Group → Bool) (groups : List Group) →
    ((group : Group) → Contains groups group → waits group ≡ false → refused_in large group ≡ None) → (fault : BuildFault) →
    IsFirstRefused large (filter waits groups) fault → IsFirstRefused large groups fault
first_waiting large waits [] fit fault first = first
first_waiting large waits (x ∷ groups) fit fault first =
    by (first_waiting large waits groups (λ group there. fit group (Contains-append_right (x ∷ []) groups group there)) fault) (waits x) refl first
  where
    by : (IsFirstRefused large (filter waits groups) fault → IsFirstRefused large groups fault) → (b : Bool) → waits x ≡ b →
        IsFirstRefused large (cond b (x ∷ filter waits groups) (filter waits groups)) fault → IsFirstRefused large (x ∷ groups) fault
    by later true is first =
        first_cases large x (filter waits groups) groups fault later first.k first.group first.cause first.stands first.too_large first.named first.before
    by later false is first = first_behind large x groups fault (fit x (0, omega arith, refl) is) (later first)
