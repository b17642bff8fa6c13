-- The pool of a deck's words: a part keeps its words while the words behind them come and go.
use Rattle.std.proofs.Common.{◌≡◌, ℕ, ◌+◌, ◌-◌, ◌≤◌, Bool, true, false, if◌then◌else◌, Result, Ok, Err, OnOk, List, [], ◌∷◌, ◌++◌, All, length, take, drop, refl, sym, ◌∙◌, ap, arith, length-drop}
use Rattle.std.proofs.lemmas.List.{drop-append-le, drop-map, drop-take, drop_all, length-map, length-take-le, map-append, take-append-le, take-map, take-take, take_all}
use Rattle.std.proofs.lemmas.List.Elements.{All-head, All-tail}
use Rattle.spice_cards.specs.declared.places.PartPlace.{PartPlace}
use Rattle.spice_cards.specs.declared.places.Span.{Span}
use Rattle.spice_cards.specs.Pools.{IsPlace, IsPool, IsSpan, PoolData, part_at, parts_at, pool_of, with_kept, word_of, words_at}

-- a slice ends where the words that are taken for it end
slice_is : (words : List (List ℕ)) (first end : ℕ) → first ≤ end → take (end - first) (drop first words) ≡ drop first (take end words)
slice_is words first end ordered =
    let whole : first + (end - first) ≡ end = omega arith in
    sym (drop-take first (end - first) words) ∙ ap (λ n. drop first (take n words)) whole

-- a part has the same words in lists that begin alike
part_at-same : (kept : ℕ) (words others : List (List ℕ)) (at : PartPlace) → IsPlace kept at → take kept words ≡ take kept others →
    part_at words at ≡ part_at others at
part_at-same kept words others at is alike =
    let ends : take at.end words ≡ take at.end others =
    sym (take-take at.end kept words is.within) ∙ ap (take at.end) alike ∙ take-take at.end kept others is.within in
    let same = slice_is words at.first at.end is.ordered ∙ ap (drop at.first) ends ∙ sym (slice_is others at.first at.end is.ordered) in
    λ j. record { line = at.line; sort = at.sort; words = same j }

-- so have all parts
pub parts_at-same : (kept : ℕ) (words others : List (List ℕ)) (places : List PartPlace) → All (IsPlace kept) places →
    take kept words ≡ take kept others → parts_at words places ≡ parts_at others places
parts_at-same kept words others [] are alike = refl
parts_at-same kept words others (at ∷ places) are alike =
    ap (λ part. part ∷ parts_at words places) (part_at-same kept words others at (All-head (IsPlace kept) at places are) alike)
    ∙ ap (λ parts. part_at others at ∷ parts) (parts_at-same kept words others places (All-tail (IsPlace kept) at places are) alike)

-- as many words as are kept are among so many, and each part has its words among them
record IsKept (count kept : ℕ) (outside_places inside_places : List PartPlace) : Type 0 where
  counted : kept ≤ count
  outside : All (IsPlace kept) outside_places
  inside : All (IsPlace kept) inside_places

-- nothing is pending of words that end where those of the parts end
none_pending : (n : ℕ) (words : List (List ℕ)) → n ≤ length words → drop n (take n words) ≡ []
none_pending n words within = drop_all n (take n words) (let long = length-take-le n words within in omega arith)

-- the pool without the pending words
words-cleared : (words left : List (List ℕ)) (kept : ℕ) (outside inside : List PartPlace) (before : PoolData) →
    IsKept (length words) kept outside inside → left ≡ take kept words → pool_of words kept outside inside ≡ before →
    pool_of left kept outside inside ≡ record { outside = before.outside; inside = before.inside; pending = [] }
words-cleared words left kept outside inside before is cut seen =
    let alike : take kept left ≡ take kept words = ap (take kept) cut ∙ take-take kept kept words (omega arith) in
    let out = parts_at-same kept left words outside is.outside alike ∙ ap (λ (p : PoolData). p.outside) seen in
    let within = parts_at-same kept left words inside is.inside alike ∙ ap (λ (p : PoolData). p.inside) seen in
    let none = ap (drop kept) cut ∙ none_pending kept words is.counted in
    λ j. record { outside = out j; inside = within j; pending = none j }

-- the pool with one more pending word
words-added : (words more : List (List ℕ)) (word : List ℕ) (kept : ℕ) (outside inside : List PartPlace) (before : PoolData) →
    IsKept (length words) kept outside inside → more ≡ words ++ word ∷ [] → pool_of words kept outside inside ≡ before →
    pool_of more kept outside inside ≡ record { outside = before.outside; inside = before.inside; pending = before.pending ++ word ∷ [] }
words-added words more word kept outside inside before is grown seen =
    let alike : take kept more ≡ take kept words = ap (take kept) grown ∙ take-append-le kept words (word ∷ []) is.counted in
    let out = parts_at-same kept more words outside is.outside alike ∙ ap (λ (p : PoolData). p.outside) seen in
    let within = parts_at-same kept more words inside is.inside alike ∙ ap (λ (p : PoolData). p.inside) seen in
    let pending = ap (drop kept) grown ∙ drop-append-le kept words (word ∷ []) is.counted ∙ ap (λ (p : PoolData). p.pending ++ word ∷ []) seen in
    λ j. record { outside = out j; inside = within j; pending = pending j }

-- the words of a part that is kept are the first pending ones
kept_words : (words : List (List ℕ)) (kept count : ℕ) → kept + count ≤ length words →
    take (kept + count - kept) (drop kept (take (kept + count) words)) ≡ take count (drop kept words)
kept_words words kept count within =
    let n : kept + count - kept ≡ count = omega arith in
    ap (λ m. take m (drop kept (take (kept + count) words))) n
    ∙ ap (take count) (drop-take kept count words)
    ∙ take-take count count (drop kept words) (omega arith)

-- the parts with one more of the first pending words
grown_parts : (words left : List (List ℕ)) (kept count : ℕ) (places more : List PartPlace) (at : PartPlace) →
    All (IsPlace kept) places → kept + count ≤ length words → left ≡ take (kept + count) words → more ≡ places ++ at ∷ [] →
    at.first ≡ kept → at.end ≡ kept + count →
    parts_at left more ≡ parts_at words places ++ record { line = at.line; sort = at.sort; words = take count (drop kept words) } ∷ []
grown_parts words left kept count places more at are within cut grown first end =
    let alike : take kept left ≡ take kept words = ap (take kept) cut ∙ take-take kept (kept + count) words (omega arith) in
    let old = parts_at-same kept left words places are alike in
    let own : take (at.end - at.first) (drop at.first left) ≡ take count (drop kept words) =
    ap (λ e. take (e - at.first) (drop at.first left)) end
    ∙ ap (λ f. take (kept + count - f) (drop f left)) first
    ∙ ap (λ ws. take (kept + count - kept) (drop kept ws)) cut
    ∙ kept_words words kept count within in
    let part : part_at left at ≡ record { line = at.line; sort = at.sort; words = take count (drop kept words) } =
    λ j. record { line = at.line; sort = at.sort; words = own j } in
    ap (parts_at left) grown ∙ map-append (part_at left) places (at ∷ [])
    ∙ ap (λ parts. parts ++ part_at left at ∷ []) old ∙ ap (λ p. parts_at words places ++ p ∷ []) part

-- where the first pending words become those of one more part, these parts have it, the others stay, and nothing is pending
record IsGrown (words left : List (List ℕ)) (kept count : ℕ) (places more others : List PartPlace) (at : PartPlace) : Type 0 where
  own : parts_at left more ≡ parts_at words places ++ record { line = at.line; sort = at.sort; words = take count (drop kept words) } ∷ []
  same : parts_at left others ≡ parts_at words others
  none : drop (kept + count) left ≡ []

words-grown : (words left : List (List ℕ)) (kept count : ℕ) (places more others : List PartPlace) (at : PartPlace) → kept ≤ length words →
    All (IsPlace kept) places → All (IsPlace kept) others → count ≤ length (drop kept words) →
    left ≡ take (kept + count) words → more ≡ places ++ at ∷ [] → at.first ≡ kept → at.end ≡ kept + count →
    IsGrown words left kept count places more others at
words-grown words left kept count places more others at counted are stay room cut grown first end =
    let within : kept + count ≤ length words = omega (arith, length-drop kept words, counted, room) in
    let alike : take kept left ≡ take kept words = ap (take kept) cut ∙ take-take kept (kept + count) words (omega arith) in
    record {
      own = grown_parts words left kept count places more at are within cut grown first end;
      same = parts_at-same kept left words others stay alike;
      none = ap (drop (kept + count)) cut ∙ none_pending (kept + count) words within;
    }

-- some parts in a row are those at some places in a row
pub parts_at-slice : (words : List (List ℕ)) (places : List PartPlace) (first count : ℕ) →
    parts_at words (take count (drop first places)) ≡ take count (drop first (parts_at words places))
parts_at-slice words places first count =
    sym (take-map (part_at words) count (drop first places)) ∙ ap (take count) (sym (drop-map (part_at words) first places))

-- ---- words by their places

-- some of the words at places, up to one or from one on
pub words_at-take : (text : List ℕ) (words left : List Span) (n : ℕ) → left ≡ take n words → words_at text left ≡ take n (words_at text words)
words_at-take text words left n cut = ap (words_at text) cut ∙ sym (take-map (word_of text) n words)

pub words_at-drop : (text : List ℕ) (words left : List Span) (n : ℕ) → left ≡ drop n words → words_at text left ≡ drop n (words_at text words)
words_at-drop text words left n cut = ap (words_at text) cut ∙ sym (drop-map (word_of text) n words)

-- what is kept of a pool, by its words
kept_of : (text : List ℕ) (words : List Span) (kept : ℕ) (outside inside : List PartPlace) → IsPool (length text) words kept outside inside →
    IsKept (length (words_at text words)) kept outside inside
kept_of text words kept outside inside is = record {
  counted = omega (arith, length-map words (word_of text), is.counted);
  outside = is.outside;
  inside = is.inside;
}

-- the pool without the pending words
pub pool_of-cleared : (text : List ℕ) (words left : List Span) (kept : ℕ) (outside inside : List PartPlace) (before : PoolData) →
    IsPool (length text) words kept outside inside → left ≡ take kept words → pool_of (words_at text words) kept outside inside ≡ before →
    pool_of (words_at text left) kept outside inside ≡ record { outside = before.outside; inside = before.inside; pending = [] }
pool_of-cleared text words left kept outside inside before is cut seen =
    words-cleared (words_at text words) (words_at text left) kept outside inside before (kept_of text words kept outside inside is)
    (words_at-take text words left kept cut) seen

-- words stay if they are in a text that grows
words_at-grown : (text more : List ℕ) (words : List Span) → All (IsSpan (length text)) words → words_at (text ++ more) words ≡ words_at text words
words_at-grown text more [] are = refl
words_at-grown text more (span ∷ words) are =
    let is = All-head (IsSpan (length text)) span words are in
    let rest : drop span.at (text ++ more) ≡ drop span.at text ++ more = drop-append-le span.at text more (omega (arith, is.ordered, is.within)) in
    let same : word_of (text ++ more) span ≡ word_of text span =
    ap (take (span.end - span.at)) rest
    ∙ take-append-le (span.end - span.at) (drop span.at text) more (omega (arith, length-drop span.at text, is.ordered, is.within)) in
    ap (λ (word : List ℕ). word ∷ words_at (text ++ more) words) same
    ∙ ap (λ (ws : List (List ℕ)). word_of text span ∷ ws) (words_at-grown text more words (All-tail (IsSpan (length text)) span words are))

-- the word behind a text
word_of-last : (text word : List ℕ) (span : Span) → span.at ≡ length text → span.end ≡ length text + length word → word_of (text ++ word) span ≡ word
word_of-last text word span begins ends =
    let size : span.end - span.at ≡ length word = omega (arith, begins, ends) in
    ap (λ n. take n (drop span.at (text ++ word))) size
    ∙ ap (λ n. take (length word) (drop n (text ++ word))) begins
    ∙ ap (take (length word)) (drop-append-le (length text) text word (omega arith) ∙ ap (λ (left : List ℕ). left ++ word) (drop_all (length text) text (omega arith)))
    ∙ take_all (length word) word (omega arith)

-- the words with one more, whose bytes come behind those of the others
words_at-added : (text word more : List ℕ) (words all : List Span) (span : Span) → All (IsSpan (length text)) words → more ≡ text ++ word →
    all ≡ words ++ span ∷ [] → span.at ≡ length text → span.end ≡ length text + length word →
    words_at more all ≡ words_at text words ++ word ∷ []
words_at-added text word more words all span are grown added begins ends =
    ap (λ (t : List ℕ). words_at t all) grown
    ∙ ap (words_at (text ++ word)) added
    ∙ map-append (word_of (text ++ word)) words (span ∷ [])
    ∙ ap (λ (ws : List (List ℕ)). ws ++ word_of (text ++ word) span ∷ []) (words_at-grown text word words are)
    ∙ ap (λ (w : List ℕ). words_at text words ++ w ∷ []) (word_of-last text word span begins ends)

-- the pool with one more pending word
pub pool_of-added : (text word more : List ℕ) (words all : List Span) (span : Span) (kept : ℕ) (outside inside : List PartPlace) (before : PoolData) →
    IsPool (length text) words kept outside inside → more ≡ text ++ word → all ≡ words ++ span ∷ [] →
    span.at ≡ length text → span.end ≡ length text + length word → pool_of (words_at text words) kept outside inside ≡ before →
    pool_of (words_at more all) kept outside inside
    ≡ record { outside = before.outside; inside = before.inside; pending = before.pending ++ word ∷ [] }
pool_of-added text word more words all span kept outside inside before is grown added begins ends seen =
    words-added (words_at text words) (words_at more all) word kept outside inside before (kept_of text words kept outside inside is)
    (words_at-added text word more words all span is.words grown added begins ends) seen

-- what is kept of one more part
kept_more : (text : List ℕ) (words left : List Span) (kept count : ℕ) (places more others : List PartPlace) (at : PartPlace) (before : PoolData) →
    kept ≤ length words → All (IsPlace kept) places → All (IsPlace kept) others → drop kept (words_at text words) ≡ before.pending →
    count ≤ length before.pending → left ≡ take at.end words → more ≡ places ++ at ∷ [] → at.first ≡ kept → at.end ≡ kept + count →
    IsGrown (words_at text words) (words_at text left) kept count places more others at
kept_more text words left kept count places more others at before counted are stay seen room cut grown first end =
    words-grown (words_at text words) (words_at text left) kept count places more others at (omega (arith, length-map words (word_of text), counted))
    are stay (omega (arith, ap length seen, room))
    (words_at-take text words left (kept + count) (cut ∙ ap (λ n. take n words) end)) grown first end

-- the places of one side are among the words, since those of both are
of_side : (inside : Bool) (kept : ℕ) (one other : List PartPlace) → All (IsPlace kept) one → All (IsPlace kept) other →
    All (IsPlace kept) (if inside then one else other)
of_side true kept one other is_one is_other = is_one
of_side false kept one other is_one is_other = is_other

-- the pool with one more part on one side
pool_of-grown : (inside : Bool) (words left : List (List ℕ)) (kept count last : ℕ) (out_places in_places more : List PartPlace) (at : PartPlace) →
    last ≡ kept + count → IsGrown words left kept count (if inside then in_places else out_places) more (if inside then out_places else in_places) at →
    pool_of left last (if inside then out_places else more) (if inside then more else in_places)
    ≡ with_kept inside (pool_of words kept out_places in_places) (record { line = at.line; sort = at.sort; words = take count (drop kept words) })
pool_of-grown true words left kept count last out_places in_places more at ends of =
    let none = ap (λ n. drop n left) ends ∙ of.none in λ j. record { outside = of.same j; inside = of.own j; pending = none j }
pool_of-grown false words left kept count last out_places in_places more at ends of =
    let none = ap (λ n. drop n left) ends ∙ of.none in λ j. record { outside = of.own j; inside = of.same j; pending = none j }

-- the pool with the first pending words as one more part inside a subcircuit or outside
pub pool_of-kept : {T E : Type 0} (result : Result T E) (inside : Bool) (text : List ℕ) (words left : List Span) (kept last count : ℕ)
    (out_places in_places more : List PartPlace) (at : PartPlace) (line : ℕ) (before : PoolData) →
    IsPool (length text) words kept out_places in_places → pool_of (words_at text words) kept out_places in_places ≡ before →
    count ≤ length before.pending → OnOk result (left ≡ take at.end words) →
    OnOk result (more ≡ (if inside then in_places else out_places) ++ at ∷ []) → OnOk result (last ≡ at.end) →
    at.first ≡ kept → at.end ≡ kept + count → at.line ≡ line →
    OnOk result (pool_of (words_at text left) last (if inside then out_places else more) (if inside then more else in_places)
    ≡ with_kept inside before (record { line = line; sort = at.sort; words = take count before.pending }))
pool_of-kept (Err e) inside text words left kept last count out_places in_places more at line before is seen room cut grown ends first end numbered = tt
pool_of-kept (Ok u) inside text words left kept last count out_places in_places more at line before is seen room cut grown ends first end numbered =
    let all = words_at text words in
    let of = kept_more text words left kept count (if inside then in_places else out_places) more (if inside then out_places else in_places) at before
    is.counted (of_side inside kept in_places out_places is.inside is.outside) (of_side inside kept out_places in_places is.outside is.inside)
    (ap (λ (p : PoolData). p.pending) seen) room cut grown first end in
    pool_of-grown inside all (words_at text left) kept count last out_places in_places more at (ends ∙ end) of
    ∙ ap (λ l. with_kept inside (pool_of all kept out_places in_places) (record { line = l; sort = at.sort; words = take count (drop kept all) })) numbered
    ∙ ap (λ (p : PoolData). with_kept inside p (record { line = line; sort = at.sort; words = take count p.pending })) seen
