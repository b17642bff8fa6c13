-- Lines that grow word by word.
use Rattle.std.proofs.Common.{◌≡◌, ℕ, List, ◌++◌, ap, ap₂, ◌∙◌, append_assoc}
use Rattle.circuit_lint.specs.Lines.{number_after}

-- a word and a number were put behind what was put behind a text
pub told-next : {text more : List ℕ} {count number : ℕ} (start front word : List ℕ) → text ≡ start ++ front → more ≡ text ++ word ++ number_after count →
    count ≡ number → more ≡ start ++ (front ++ word ++ number_after number)
told-next {number = number} start front word before is same =
    is ∙ ap₂ (λ xs n. xs ++ word ++ number_after n) before same ∙ ap (λ xs. xs ++ number_after number) (append_assoc start front word)
    ∙ append_assoc start (front ++ word) (number_after number)
