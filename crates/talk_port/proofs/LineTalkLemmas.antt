-- A line that is heard byte by byte, and a piece that is said part by part.
use Rattle.std.proofs.Common.{◌≡◌, ◌≢◌, ℕ, zero, suc, ◌+◌, ◌-◌, ◌<◌, ◌≤◌, ◌↔◌, Bool, true, false, IsTrue, List, [], ◌∷◌, ◌++◌, length, take, drop, nat_eq, nat_lt, Option, None, Some, refl, sym, ◌∙◌, ap, arith, subst, inl, inr, take-add, take-append-drop}
use Rattle.std.specs.Prelude.{if◌then◌else◌}
use Rattle.std.specs.Io.KnownBytes.{Appends, Consumes}
use Rattle.std.proofs.lemmas.List.{append_assoc, append-nil, length-append, length-take-le, length-drop}
use Rattle.std.proofs.lemmas.Bool.{cases_lt}
use Rattle.std.proofs.lemmas.Bool.Decides.{nat_tests}
use Rattle.talk_port.specs.Talks.{kept_bytes, Hears}
use Rattle.talk_port.specs.LineTalks.{HasNoFeed, fed, last, HearsKept, TakesByte, kept_more, SaysPrefix}

-- nothing is taken, and then more
pub Consumes-none : (old : Option (List ℕ)) → Consumes old old []
Consumes-none None = tt
Consumes-none (Some xs) = refl

pub Consumes-more : (old mid new : Option (List ℕ)) (xs ys : List ℕ) → Consumes old mid xs → Consumes mid new ys → Consumes old new (xs ++ ys)
Consumes-more None mid new xs ys one two = tt
Consumes-more (Some a) None new xs ys one two = absurd one
Consumes-more (Some a) (Some b) None xs ys one two = absurd two
Consumes-more (Some a) (Some b) (Some c) xs ys one two = one ∙ (ap (λ rest. xs ++ rest) two ∙ sym (append_assoc xs ys c))

-- nothing is said, and then more
pub Appends-none : (old : Option (List ℕ)) → Appends old old []
Appends-none None = tt
Appends-none (Some xs) = sym (append-nil xs)

pub Appends-more : (old mid new : Option (List ℕ)) (xs ys : List ℕ) → Appends old mid xs → Appends mid new ys → Appends old new (xs ++ ys)
Appends-more None mid new xs ys one two = tt
Appends-more (Some a) None new xs ys one two = absurd one
Appends-more (Some a) (Some b) None xs ys one two = absurd two
Appends-more (Some a) (Some b) (Some c) xs ys one two = two ∙ (ap (λ front. front ++ ys) one ∙ append_assoc a xs ys)

-- a byte more without LF
no_feed-more : (line : List ℕ) (byte : ℕ) → byte ≢ 10 → HasNoFeed line → HasNoFeed (line ++ byte ∷ [])
no_feed-more [] byte other none = (other, tt)
no_feed-more (first ∷ line) byte other none = (none.0, no_feed-more line byte other none.1)

take_nil : (most : ℕ) → take {A = ℕ} most [] ≡ []
take_nil zero = refl
take_nil (suc most) = refl

-- a prefix of one byte more
prefix-more : (most : ℕ) (line : List ℕ) (byte : ℕ) →
    take most (line ++ byte ∷ []) ≡ (if nat_lt (length (take most line)) most then take most line ++ byte ∷ [] else take most line)
prefix-more zero line byte = refl
prefix-more (suc most) [] byte = let none = take_nil most in grind (arith, nat_tests, none)
prefix-more (suc most) (first ∷ line) byte = elim (cases_lt (length (take most line)) most) [
  | inl below ↦ let rest = prefix-more most line byte in grind (arith, nat_tests, below, rest)
  | inr above ↦ let rest = prefix-more most line byte in grind (arith, nat_tests, above, rest)
]

-- what was heard of a line so far, of which a prefix is kept
pub record HeardSoFar (old now : Option (List ℕ)) (some : Bool) (kept : List ℕ) : Type 0 where
  pub line : List ℕ
  pub consumed : Consumes old now line
  pub no_feed : HasNoFeed line
  pub kept_is : kept ≡ take kept_bytes line
  pub some_is : some ≡ true → 0 < length line
  pub none_is : some ≡ false → line ≡ []

pub heard_none : (old : Option (List ℕ)) → HeardSoFar old old false []
heard_none old = record {
  line = [];
  consumed = Consumes-none old;
  no_feed = tt;
  kept_is = refl;
  some_is = λ is. absurd cc;
  none_is = λ is. refl;
}

pub heard_more : (old mid now : Option (List ℕ)) (some : Bool) (kept after : List ℕ) (byte : ℕ) → byte ≢ 10 → TakesByte mid now (Some byte) →
    after ≡ kept_more kept byte → HeardSoFar old mid some kept → HeardSoFar old now true after
heard_more old mid now some kept after byte other takes is so_far = record {
  line = so_far.line ++ byte ∷ [];
  consumed = Consumes-more old mid now so_far.line (byte ∷ []) so_far.consumed takes;
  no_feed = no_feed-more so_far.line byte other so_far.no_feed;
  kept_is = is ∙ (ap (λ kept. kept_more kept byte) so_far.kept_is ∙ sym (prefix-more kept_bytes so_far.line byte));
  some_is = λ is. omega (arith, length-append so_far.line (byte ∷ []));
  none_is = λ is. absurd cc;
}

pub heard_fed : (old mid now : Option (List ℕ)) (some : Bool) (kept : List ℕ) (byte : ℕ) → byte ≡ 10 → TakesByte mid now (Some byte) →
    HeardSoFar old mid some kept → HearsKept old now true kept
heard_fed old mid now some kept byte is takes so_far =
    let feed : Consumes mid now (10 ∷ []) = subst (λ b. Consumes mid now (b ∷ [])) is takes in
    (so_far.line, so_far.no_feed, fed (Consumes-more old mid now so_far.line (10 ∷ []) so_far.consumed feed), so_far.kept_is)

pub heard_end : (old mid now : Option (List ℕ)) (some : Bool) (kept : List ℕ) → TakesByte mid now None →
    HeardSoFar old mid some kept → HearsKept old now some kept
heard_end old mid now true kept takes so_far =
    let consumed = subst (Consumes old now) (append-nil so_far.line) (Consumes-more old mid now so_far.line [] so_far.consumed takes.0) in
    (so_far.line, so_far.no_feed, last (so_far.some_is refl) consumed takes.1, so_far.kept_is)
heard_end old mid now false kept takes so_far =
    let consumed = Consumes-more old mid now so_far.line [] so_far.consumed takes.0 in
    ((rw (so_far.none_is refl) at consumed), takes.1)

-- a talk that isn't told
pub hears_untold : (old new : Option (List ℕ)) (more : Bool) (kept : List ℕ) → HearsKept old new more kept → Hears None None more kept
hears_untold old new true kept hears = (hears.0, hears.3, refl)
hears_untold old new false kept hears = refl

-- nothing is ready where the places meet
pub none_ready : (at end : ℕ) (bytes : List ℕ) → at ≤ end → end ≤ length bytes → (at ≡ end) ↔ (drop at (take end bytes) ≡ [])
none_ready at end bytes inside room =
    let taken : length (take end bytes) ≡ end = length-take-le _ _ room in
    let left : length (drop at (take end bytes)) ≡ length (take end bytes) - at = length-drop _ _ in
    ((λ same. empty (drop at (take end bytes)) (omega (arith, taken, left, same))), (λ none. omega (arith, taken, left, ap length none)))
  where
    empty : (xs : List ℕ) → length xs ≡ 0 → xs ≡ []
    empty [] none = refl
    empty (x ∷ xs) none = absurd (omega (arith, none))

pub none_ready_test : (at end : ℕ) (bytes : List ℕ) → at ≤ end → end ≤ length bytes → IsTrue (nat_eq at end) ↔ (drop at (take end bytes) ≡ [])
none_ready_test at end bytes inside room =
    let meets = none_ready at end bytes inside room in
    ((λ yes. meets.0 (grind (arith, nat_tests, yes))), (λ none. grind (arith, nat_tests, meets.1 none)))

-- a part more of a piece was said
pub said_more : (old mid new : Option (List ℕ)) (at count : ℕ) (piece : List ℕ) → Appends old mid (take at piece) →
    Appends mid new (take count (drop at piece)) → Appends old new (take (at + count) piece)
said_more old mid new at count piece one two =
    subst (Appends old new) (sym (take-add at count piece)) (Appends-more old mid new (take at piece) (take count (drop at piece)) one two)

-- a prefix was said
pub said_prefix : (old mid new : Option (List ℕ)) (at : ℕ) (piece : List ℕ) → Appends old mid (take at piece) → Appends mid new [] → SaysPrefix old new piece
said_prefix old mid new at piece one two = record {
  said = take at piece ++ [];
  rest = drop at piece;
  whole = sym (rw (append-nil (take at piece)) (take-append-drop at piece));
  grew = Appends-more old mid new (take at piece) [] one two;
}

-- no byte came
pub none_came : (came : Option ℕ) → ((byte : ℕ) → came ≢ Some byte) → came ≡ None
none_came None none = refl
none_came (Some byte) none = absurd (none byte refl)
