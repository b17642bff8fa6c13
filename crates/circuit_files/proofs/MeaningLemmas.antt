-- What was read of a netlist or a deck has the meaning of the whole file.
use Rattle.std.proofs.Common.{◌≡◌, ℕ, List, Option, None, Some, IfSome, sym, ap, ◌∙◌}
use Rattle.line_words.specs.Files.{front_of}

-- what was read has the file's meaning, if a file means what its front means
pub means_read : {M : Type 0} (meaning_of : List ℕ → M) → ((text : List ℕ) → meaning_of (front_of text) ≡ meaning_of text) →
    (known : Option (List ℕ → List ℕ)) (file text seen : List ℕ) (meaning : M) →
    IfSome known (λ holds. text ≡ front_of (holds file)) → seen ≡ text → meaning_of seen ≡ meaning →
    IfSome known (λ holds. meaning_of (holds file) ≡ meaning)
means_read meaning_of by_front None file text seen meaning front same means = tt
means_read meaning_of by_front (Some holds) file text seen meaning front same means =
    sym (by_front (holds file)) ∙ ap meaning_of (sym (same ∙ front)) ∙ means
