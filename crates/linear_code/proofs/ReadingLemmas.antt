-- A text decides the partial listing with so many lines that it begins with.
use Rattle.std.proofs.Common.{◌≡◌, ℕ, zero, suc, ◌+◌, ◌-◌, ◌<◌, ◌≤◌, ◌^◌, List, [], ◌∷◌, ◌++◌, length, take, count_by, inl, inr, refl, sym, ap, ◌∙◌, arith, append_assoc, append-nil, length-append, add-zero}
use Rattle.std.specs.List.{flat_map}
use Rattle.std.proofs.lemmas.Bool.{cases_lt}
use Rattle.std.proofs.lemmas.List.{append_cancel_left, nil_from_length, take_all}
use Rattle.std.proofs.lemmas.List.Elements.{All-nil}
use Rattle.std.proofs.lemmas.Option.{slice_get_within}
use Rattle.straight_code.specs.Code.{IsOutput}
use Rattle.linear_code.specs.Listing.{ListingData, IsListing, next_at}
use Rattle.line_words.specs.Visible.{IsVisibleName}
use Rattle.linear_code.specs.ListingText.{listing_text, storage_nodes, node_lines, instruction_lines, next_line}
use Rattle.linear_code.specs.Reading.{IsPartial, partial_text, line_count, AreGood, IsListingText, IsFirstBad}
use Rattle.linear_code.specs.Adding.{Added, with_added, bare_line, Fits, AddsLine, HasNoLine}
use Rattle.linear_code.proofs.TextLemmas.{cut-same, ended-some}
use Rattle.linear_code.proofs.StorageLemmas.{length-storage_nodes}
use Rattle.linear_code.proofs.AddingLemmas.{listed, whole_line, partial_text-added, line_count-added, IsPartial-added, IsMade, IsMade-of, Lacks-bare_line, bare_line-same}

-- the text begins with a partial listing, and this is the rest
pub record IsRead (text : List ℕ) (listing : ListingData) (rest : List ℕ) : Type 0 where
  pub partial : IsPartial listing
  pub front : text ≡ partial_text listing ++ rest

-- the listing without lines
abbrev pub no_lines : ListingData
no_lines = record { entries = []; instructions = []; nexts = [] }

-- it is a partial listing
IsPartial-none : IsPartial no_lines
IsPartial-none = record {
  names = All-nil (λ entry. IsVisibleName entry.name);
  reads = λ k instruction found. absurd (omega (arith, slice_get_within [] k instruction found));
  some_next = omega arith;
  nexts = All-nil (IsOutput 0 0);
}

-- no other listing has no line
none-is : (listing : ListingData) → line_count listing ≡ 0 → listing ≡ no_lines
none-is listing none =
    let entries = nil_from_length listing.entries (omega arith) in
    let instructions = nil_from_length listing.instructions (omega arith) in
    let nexts = nil_from_length listing.nexts (omega arith) in
    ap (λ found. listed found listing.instructions listing.nexts) entries ∙ ap (λ found. listed [] found listing.nexts) instructions
    ∙ ap (listed [] []) nexts

-- before the first line
pub IsRead-none : (text : List ℕ) → IsRead text no_lines text
IsRead-none text = record { partial = IsPartial-none; front = refl }

-- the text without its last line is read as well, and the rest is that line and what follows it
pub IsRead-less : (text rest : List ℕ) (listing : ListingData) → IsRead text listing rest → (made : IsMade listing)
    → IsRead text made.old (whole_line made.old made.added ++ rest)
IsRead-less text rest listing read made = record {
  partial = made.partial;
  front =
      read.front ∙ ap (λ whole. partial_text whole ++ rest) made.made
      ∙ ap (λ front. front ++ rest) (partial_text-added made.old made.added made.fits)
      ∙ append_assoc (partial_text made.old) (whole_line made.old made.added) rest;
}

-- one line more is read
pub IsRead-more : (text rest left : List ℕ) (old new : ListingData) → IsRead text old rest → AddsLine old new rest left → IsRead text new left
IsRead-more text rest left old new read adds = record {
  partial = rw adds.becomes (IsPartial-added old adds.added read.partial adds.fits);
  front =
      read.front ∙ ap (λ behind. partial_text old ++ behind) (adds.front ∙ sym (append_assoc (bare_line old adds.added) (10 ∷ []) left))
      ∙ sym (append_assoc (partial_text old) (whole_line old adds.added) left)
      ∙ ap (λ front. front ++ left) (sym (partial_text-added old adds.added adds.fits) ∙ ap partial_text (sym adds.becomes));
}

-- it has one line more
pub line_count-more : (old new : ListingData) (rest left : List ℕ) → AddsLine old new rest left → line_count new ≡ line_count old + 1
line_count-more old new rest left adds = ap line_count adds.becomes ∙ line_count-added old adds.added

-- a listing has no more lines than its text has bytes
pub line_count-within : (count : ℕ) (text rest : List ℕ) (listing : ListingData) → IsRead text listing rest → line_count listing ≡ count
    → count + length rest ≤ length text
line_count-within zero text rest listing read lines = omega (arith, ap length read.front, length-append (partial_text listing) rest)
line_count-within (suc count) text rest listing read lines =
    let made = IsMade-of listing count read.partial (omega arith) in
    let less = IsRead-less text rest listing read made in
    let one : line_count listing ≡ line_count made.old + 1 = ap line_count made.made ∙ line_count-added made.old made.added in
    let before = line_count-within count text _ made.old less (omega arith) in
    omega (arith, before, length-append (whole_line made.old made.added) rest, length-append (bare_line made.old made.added) (10 ∷ []))

-- the same rest begins with one line that may follow
pub added-same : (listing : ListingData) (a b : Added) (rest left : List ℕ) → line_count listing < 2 ^ 64 → Fits listing a → Fits listing b
    → whole_line listing a ++ rest ≡ whole_line listing b ++ left → a ≡ b
added-same listing a b rest left small first second same =
    let cut : bare_line listing a ++ 10 ∷ rest ≡ bare_line listing b ++ 10 ∷ left =
    sym (append_assoc (bare_line listing a) (10 ∷ []) rest) ∙ same ∙ append_assoc (bare_line listing b) (10 ∷ []) left in
    let parts = cut-same 10 _ _ _ _ (Lacks-bare_line listing a small first) (Lacks-bare_line listing b small second) cut in
    bare_line-same listing a b small first second parts.0

-- what two lines add to the same lines is the same, where one text begins so
made-same : (one two : ListingData) (a b : Added) (text rest left : List ℕ) → line_count one < 2 ^ 64 → one ≡ two → Fits one a → Fits two b
    → text ≡ partial_text one ++ (whole_line one a ++ rest) → text ≡ partial_text two ++ (whole_line two b ++ left)
    → with_added one a ≡ with_added two b
made-same one two a b text rest left small same first second front other =
    let fits : Fits one b = rw (← same) at second in
    let behind : text ≡ partial_text one ++ (whole_line one b ++ left) = rw (← same) at other in
    let cut = append_cancel_left (partial_text one) (whole_line one a ++ rest) (whole_line one b ++ left) (sym front ∙ behind) in
    let line : a ≡ b = added-same one a b rest left small first fits cut in
    ap (with_added one) line ∙ ap (λ listing. with_added listing b) same

-- there is one partial listing without lines
none-same : (a b : ListingData) → line_count a ≡ 0 → line_count b ≡ 0 → a ≡ b
none-same a b first second =
    none-is a first ∙ sym (none-is b second)

-- two partial listings with as many lines that one text begins with are the same
pub listing-same : (count : ℕ) (text rest left : List ℕ) (a b : ListingData) → length text < 2 ^ 64 → IsRead text a rest → IsRead text b left
    → line_count a ≡ count → line_count b ≡ count → a ≡ b
listing-same zero text rest left a b small first second lines others = none-same a b lines others
listing-same (suc count) text rest left a b small first second lines others =
    let one = IsMade-of a count first.partial (omega arith) in
    let two = IsMade-of b count second.partial (omega arith) in
    let shorter = IsRead-less text rest a first one in
    let other = IsRead-less text left b second two in
    let fewer : line_count one.old ≡ count = omega (arith, ap line_count one.made, line_count-added one.old one.added) in
    let few : line_count two.old ≡ count = omega (arith, ap line_count two.made, line_count-added two.old two.added) in
    let within = line_count-within count text _ one.old shorter fewer in
    let old : one.old ≡ two.old = listing-same count text _ _ one.old two.old small shorter other fewer few in
    one.made ∙ made-same one.old two.old one.added two.added text rest left (omega arith) old one.fits two.fits shorter.front other.front ∙ sym two.made

-- the first lines of good lines are good
pub AreGood-fewer : (text : List ℕ) (count more : ℕ) → AreGood text (count + more) → AreGood text count
AreGood-fewer text count zero good = rw (add-zero count) at good
AreGood-fewer text count (suc more) good =
    let made = IsMade-of good.listing (count + more) good.is (omega (arith, good.lines)) in
    let less = IsRead-less text good.rest good.listing (record { partial = good.is; front = good.front }) made in
    AreGood-fewer text count more (record {
      listing = made.old;
      is = made.partial;
      lines = omega (arith, good.lines, ap line_count made.made, line_count-added made.old made.added);
      rest = whole_line made.old made.added ++ good.rest;
      front = less.front;
    })

-- one line more is not good if no line that may follow stands in the rest
pub not_good : (text rest : List ℕ) (listing : ListingData) → length text < 2 ^ 64 → IsRead text listing rest → HasNoLine listing rest
    → ¬ AreGood text (line_count listing + 1)
not_good text rest listing small read none good =
    let made = IsMade-of good.listing (line_count listing) good.is good.lines in
    let less = IsRead-less text good.rest good.listing (record { partial = good.is; front = good.front }) made in
    let fewer : line_count made.old ≡ line_count listing =
    omega (arith, good.lines, ap line_count made.made, line_count-added made.old made.added) in
    let same : made.old ≡ listing = listing-same (line_count listing) text _ _ made.old listing small less read fewer refl in
    let fits : Fits listing made.added = rw same at made.fits in
    let behind : text ≡ partial_text listing ++ (whole_line listing made.added ++ good.rest) = rw same at less.front in
    let cut = append_cancel_left (partial_text listing) rest (whole_line listing made.added ++ good.rest) (sym read.front ∙ behind) in
    none made.added good.rest fits (cut ∙ append_assoc (bare_line listing made.added) (10 ∷ []) good.rest)

-- if a text is that of a listing, and begins with a partial listing of as many lines or more, both are the same and nothing is left
pub whole-same : (more count : ℕ) (text rest : List ℕ) (part whole : ListingData) → length text < 2 ^ 64 → IsRead text part rest → IsRead text whole []
    → line_count part ≡ count + more → line_count whole ≡ count → (part ≡ whole) × (rest ≡ [])
whole-same zero count text rest part whole small read told lines others =
    let same : part ≡ whole = listing-same count text rest [] part whole small read told (omega arith) others in
    let front : text ≡ partial_text whole ++ rest = rw same at read.front in
    (same, append_cancel_left (partial_text whole) rest [] (sym front ∙ told.front))
whole-same (suc more) count text rest part whole small read told lines others =
    let made = IsMade-of part (count + more) read.partial (omega arith) in
    let less = IsRead-less text rest part read made in
    let fewer : line_count made.old ≡ count + more = omega (arith, ap line_count made.made, line_count-added made.old made.added) in
    let before = whole-same more count text _ made.old whole small less told fewer others in
    absurd (ended-some (bare_line made.old made.added) rest before.1)

-- the text of a listing is that of a partial listing with all its lines
listing_text-all : (listing : ListingData) → IsListing listing → listing_text listing ≡ partial_text listing
listing_text-all listing is =
    let all : take (length listing.nexts) (storage_nodes listing.entries) ≡ storage_nodes listing.entries =
    take_all (length listing.nexts) (storage_nodes listing.entries) (omega (arith, is.each_next, length-storage_nodes listing.entries)) in
    ap (λ nodes. node_lines 0 listing.entries ++ (instruction_lines 0 listing.instructions ++ flat_map (λ node. next_line node (next_at listing node)) nodes)) (sym all)

-- a listing is a partial listing with all lines
pub IsRead-whole : (text : List ℕ) (listing : ListingData) → IsListing listing → text ≡ listing_text listing → IsRead text listing []
IsRead-whole text listing is told = record {
  partial = record { names = is.names; reads = is.reads; some_next = omega (arith, is.each_next); nexts = is.nexts };
  front = told ∙ listing_text-all listing is ∙ sym (append-nil (partial_text listing));
}

-- the text of a partial listing with all next states is that of a listing
pub listing_text-whole : (text : List ℕ) (listing : ListingData) → IsRead text listing [] → IsListing listing → listing_text listing ≡ text
listing_text-whole text listing read is = listing_text-all listing is ∙ sym (append-nil (partial_text listing)) ∙ sym read.front

-- a text is that of one listing
pub one_listing : (text : List ℕ) (a b : ListingData) → length text < 2 ^ 64 → IsListing a → IsListing b → listing_text a ≡ text
    → listing_text b ≡ text → a ≡ b
one_listing text a b small first second told other =
    let one = IsRead-whole text a first (sym told) in
    let two = IsRead-whole text b second (sym other) in
    elim (cases_lt (line_count a) (line_count b)) [
      | inl fewer ↦ sym (whole-same (line_count b - line_count a) (line_count a) text [] b a small two one (omega arith) refl).0
      | inr more ↦ (whole-same (line_count a - line_count b) (line_count b) text [] a b small one two (omega arith) refl).0
    ]

-- a text whose next line is bad is no listing, if the rest is not empty or next states are missing
not_whole : (text rest : List ℕ) (listing : ListingData) (line : ℕ) → length text < 2 ^ 64 → IsRead text listing rest
    → line ≡ line_count listing + 1 → ¬ AreGood text line
    → (rest ≡ [] → length listing.nexts < count_by (λ entry. entry.is_storage) listing.entries) → ¬ IsListingText text
not_whole text rest listing line small read next bad missing whole =
    let told = IsRead-whole text whole.listing whole.is whole.told in
    elim (cases_lt (line_count listing) (line_count whole.listing)) [
      | inl longer ↦
          let more = line_count whole.listing - line in
          bad (AreGood-fewer text line more (record {
            listing = whole.listing;
            is = told.partial;
            lines = omega arith;
            rest = [];
            front = told.front;
          }))
      | inr shorter ↦
          let count = line_count whole.listing in
          let same = whole-same (line_count listing - count) count text rest listing whole.listing small read told (omega arith) refl in
          let few : length whole.listing.nexts < count_by (λ entry. entry.is_storage) whole.listing.entries = rw same.0 at (missing same.1) in
          omega (arith, few, whole.is.each_next)
    ]

-- the line after those that were read is the first bad one, if no line stands in the rest that may follow, and the rest is not empty or
-- next states are missing
pub IsFirstBad-here : (text rest : List ℕ) (listing : ListingData) (line : ℕ) → length text < 2 ^ 64 → IsRead text listing rest
    → line ≡ line_count listing + 1 → HasNoLine listing rest
    → (rest ≡ [] → length listing.nexts < count_by (λ entry. entry.is_storage) listing.entries) → IsFirstBad text line
IsFirstBad-here text rest listing line small read next none missing =
    let place : line - 1 ≡ line_count listing = omega arith in
    let bad : ¬ AreGood text line = rw next (not_good text rest listing small read none) in
    record {
      counted = omega arith;
      good = record { listing = listing; is = read.partial; lines = sym place; rest = rest; front = read.front };
      bad = bad;
      none = λ whole. not_whole text rest listing line small read next bad missing whole;
    }

-- nothing follows at the end of the text
pub HasNoLine-end : (listing : ListingData) → HasNoLine listing []
HasNoLine-end listing added rest fits same = absurd (omega (arith, ap length same, length-append (bare_line listing added) (10 ∷ rest)))
