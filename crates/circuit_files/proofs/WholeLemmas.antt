-- Which files were read whole, joined from what each call says of it.
use Rattle.std.proofs.Common.{◌≡◌, ℕ, List, [], ◌∷◌, ◌++◌, length, map, Option, None, Some, IfSome, refl, sym, ap, ◌∙◌, append_assoc}
use Rattle.std.proofs.lemmas.List.{map-append}
use Rattle.line_words.specs.Files.{front_of}
use Rattle.ports.specs.Taken.{Taken, with_files}
use Rattle.circuit_files.specs.Wholes.{ReadsWhole}

-- a file whose front was read was read whole
pub whole_file : (known : Option (List ℕ → List ℕ)) (name text : List ℕ) (old new : Taken) →
    IfSome known (λ holds. text ≡ front_of (holds name)) → new ≡ with_files old (length text ∷ []) →
    IfSome known (λ holds. ReadsWhole old new holds (name ∷ []))
whole_file None name text old new front taken = tt
whole_file (Some holds) name text old new front taken = taken ∙ ap (λ (bytes : List ℕ). with_files old (length bytes ∷ [])) front

-- if no file is needed none is read
pub whole_none : (taken : Taken) → taken ≡ with_files taken []
whole_none None = refl
whole_none (Some counts) = refl

-- files taken one after another
with_files-twice : (taken : Taken) (first second : List ℕ) → with_files (with_files taken first) second ≡ with_files taken (second ++ first)
with_files-twice None first second = refl
with_files-twice (Some counts) first second = ap Some (sym (append_assoc second first counts))

-- files read one after another
pub whole_both : (old mid new : Taken) (holds : List ℕ → List ℕ) (first second : List (List ℕ)) →
    ReadsWhole old mid holds first → ReadsWhole mid new holds second → ReadsWhole old new holds (second ++ first)
whole_both old mid new holds first second before after =
    let size : List ℕ → ℕ = λ name. length (front_of (holds name)) in
    after ∙ ap (λ (taken : Taken). with_files taken (map size second)) before ∙ with_files-twice old (map size first) (map size second)
    ∙ ap (with_files old) (sym (map-append size second first))
