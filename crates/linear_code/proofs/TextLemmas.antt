-- Texts that are cut at the first byte of a kind: there is one way to cut them.
use Rattle.std.proofs.Common.{◌≡◌, ◌≢◌, ℕ, ◌≤◌, ◌<◌, ◌^◌, ◌+◌, ◌%◌, List, [], ◌∷◌, ◌++◌, All, Option, Some, None, MatchOption, Bor, decimal, length, refl, sym, ap, ◌∙◌, arith, length-append}
use Rattle.std.proofs.lemmas.List.{append_cancel_left}
use Rattle.std.proofs.lemmas.List.Elements.{All-nil, All-cons, All-head, All-tail, All-push, All-weaker}
use Rattle.std.proofs.lemmas.Fmt.{decimal_by_steps}

-- no byte of the text is this one
abbrev pub Lacks : ℕ → List ℕ → Type 0
Lacks stop text = All (λ byte. byte ≢ stop) text

-- each byte of the text is this one or a larger one
abbrev pub IsFrom : ℕ → List ℕ → Type 0
IsFrom least text = All (λ byte. least ≤ byte) text

-- larger bytes are other ones
pub Lacks-from : (stop least : ℕ) (text : List ℕ) → stop < least → IsFrom least text → Lacks stop text
Lacks-from stop least text below from =
    All-weaker (λ byte. least ≤ byte) (λ byte. byte ≢ stop) (λ byte h e. absurd (omega arith)) text from

-- a text has one front without this byte, where one such byte follows
pub cut-same : (stop : ℕ) (first second front other : List ℕ) → Lacks stop first → Lacks stop front
    → first ++ stop ∷ second ≡ front ++ stop ∷ other → (first ≡ front) × (second ≡ other)
cut-same stop [] second [] other lacks none same = (refl, cc)
cut-same stop [] second (byte ∷ front) other lacks none same =
    absurd (All-head (λ byte. byte ≢ stop) byte front none (cc))
cut-same stop (byte ∷ first) second [] other lacks none same =
    absurd (All-head (λ byte. byte ≢ stop) byte first lacks (cc))
cut-same stop (byte ∷ first) second (head ∷ front) other lacks none same =
    let tails : first ++ stop ∷ second ≡ front ++ stop ∷ other = cc in
    let heads : byte ≡ head = cc in
    let more = cut-same stop first second front other (All-tail (λ byte. byte ≢ stop) byte first lacks) (All-tail (λ byte. byte ≢ stop) head front none) tails in
    (cc (more.0, heads), more.1)

-- where this byte stands, the text does not lack it
pub Lacks-cut : (stop : ℕ) (front rest : List ℕ) → ¬ Lacks stop (front ++ stop ∷ rest)
Lacks-cut stop [] rest lacks = All-head (λ byte. byte ≢ stop) stop rest lacks refl
Lacks-cut stop (byte ∷ front) rest lacks =
    Lacks-cut stop front rest (All-tail (λ byte. byte ≢ stop) byte (front ++ stop ∷ rest) lacks)

-- a line with its LF is not empty
pub ended-some : (line rest : List ℕ) → (line ++ 10 ∷ []) ++ rest ≢ []
ended-some line rest same = absurd (omega (arith, ap length same, length-append (line ++ 10 ∷ []) rest, length-append line (10 ∷ [])))

-- a number is written in digits
pub IsFrom-decimal : (n : ℕ) → n < 2 ^ 64 → IsFrom 48 (decimal n)
IsFrom-decimal n small =
    decimal_by_steps (λ n digits. IsFrom 48 digits)
    (λ n one. All-cons (λ byte. 48 ≤ byte) (48 + n) [] (omega arith) (All-nil (λ byte. 48 ≤ byte)))
    (λ n digits more from. All-push (λ byte. 48 ≤ byte) digits (48 + n % 10) from (omega arith)) n small

-- what follows a word, if the text begins with that
abbrev pub IsStripped : List ℕ → List ℕ → Option (Bor (List ℕ)) → Type 0
IsStripped bytes word result = MatchOption result ((rest : List ℕ) → bytes ≢ word ++ rest) (λ rest. bytes ≡ word ++ rest.now)

-- what follows three words
pub IsStripped-behind : (bytes word number gap middle back : List ℕ) (result : Option (Bor (List ℕ))) → bytes ≡ word ++ middle → middle ≡ number ++ back
    → IsStripped back gap result
    → MatchOption result ((rest : List ℕ) → bytes ≢ word ++ (number ++ (gap ++ rest))) (λ rest. bytes ≡ word ++ (number ++ (gap ++ rest.now)))
IsStripped-behind bytes word number gap middle back None first second stripped =
    λ rest same.
    let behind = append_cancel_left word middle (number ++ (gap ++ rest)) (sym first ∙ same) in
    stripped rest (append_cancel_left number back (gap ++ rest) (sym second ∙ behind))
IsStripped-behind bytes word number gap middle back (Some rest) first second stripped = rw (first, second, stripped) refl

-- what was read behind a word, a number and a gap is what stands behind them
pub behind-read : (word gap bytes rest text : List ℕ) (read number : ℕ) → bytes ≡ word ++ (decimal read ++ (gap ++ rest)) → read ≡ number
    → bytes ≡ word ++ (decimal number ++ (gap ++ text)) → rest ≡ text
behind-read word gap bytes rest text read number is same whole =
    let front : bytes ≡ word ++ (decimal number ++ (gap ++ rest)) = is ∙ ap (λ k. word ++ (decimal k ++ (gap ++ rest))) same in
    append_cancel_left gap rest text
    (append_cancel_left (decimal number) (gap ++ rest) (gap ++ text)
    (append_cancel_left word (decimal number ++ (gap ++ rest)) (decimal number ++ (gap ++ text)) (sym front ∙ whole)))
