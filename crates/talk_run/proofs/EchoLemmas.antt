-- The words of an echo are put one behind another.
use Rattle.std.proofs.Common.{◌≡◌, ℕ, List, [], ◌∷◌, ◌++◌, ap, sym, ◌∙◌, append_assoc, append-nil}
use Rattle.std.specs.Prelude.{codes}
use Rattle.talk_run.specs.Asking.{words_text, echo_line}

-- a word more is put behind a text, and fewer are left
put : (text : List ℕ) (word : List ℕ) (words : List (List ℕ)) → (text ++ 32 ∷ word) ++ words_text words ≡ text ++ words_text (word ∷ words)
put text word words = append_assoc text (32 ∷ word) (words_text words)

pub word_put : (text new whole : List ℕ) (word : List ℕ) (words left : List (List ℕ)) → new ≡ text ++ 32 ∷ word → left ≡ word ∷ words →
    text ++ words_text left ≡ whole → new ++ words_text words ≡ whole
word_put text new whole word words left same are is =
    ap (λ (one : List ℕ). one ++ words_text words) same ∙ put text word words
    ∙ ap (λ (some : List (List ℕ)). text ++ words_text some) (sym are) ∙ is

-- the first one
pub first_put : (text new : List ℕ) (word : List ℕ) (words : List (List ℕ)) → text ≡ codes "echo" → new ≡ text ++ 32 ∷ word →
    new ++ words_text words ≡ codes "echo" ++ words_text (word ∷ words)
first_put text new word words is same =
    ap (λ (one : List ℕ). one ++ words_text words) (same ∙ ap (λ (one : List ℕ). one ++ 32 ∷ word) is) ∙ put (codes "echo") word words

-- and then the line ends
pub line_put : (text new : List ℕ) (words left : List (List ℕ)) → new ≡ text ++ 10 ∷ [] → left ≡ [] → text ++ words_text left ≡ codes "echo" ++ words_text words →
    new ≡ echo_line words
line_put text new words left same none is =
    let whole : text ≡ codes "echo" ++ words_text words =
    sym (append-nil text) ∙ ap (λ (some : List (List ℕ)). text ++ words_text some) (sym none) ∙ is in
    same ∙ ap (λ (one : List ℕ). one ++ 10 ∷ []) whole ∙ append_assoc (codes "echo") (words_text words) (10 ∷ [])
