-- How much was taken of files over several calls.
use Rattle.std.proofs.Common.{◌≡◌, ℕ, ◌+◌, ◌-◌, ◌≤◌, List, [], ◌∷◌, ◌++◌, None, Some, refl, sym, ap, ◌∙◌, append_assoc, add_assoc, arith}
use Rattle.ports.specs.Taken.{Taken, more_of_last, with_more, with_files, TakesAtMost, AreAtMost, TakesFiles}

-- bytes more one after another are their sum more
more_of_last-twice : (first second : ℕ) (counts : List ℕ) → more_of_last second (more_of_last first counts) ≡ more_of_last (first + second) counts
more_of_last-twice first second [] = refl
more_of_last-twice first second (count ∷ counts) = ap (λ sum. sum ∷ counts) (add_assoc count first second)

pub with_more-twice : (taken : Taken) (first second : ℕ) → with_more (with_more taken first) second ≡ with_more taken (first + second)
with_more-twice None first second = refl
with_more-twice (Some counts) first second = ap Some (more_of_last-twice first second counts)

-- after so many bytes at most what is left of a bound was taken: all that is at most the bound
pub takes_more : (old now new : Taken) (before most : ℕ) → before ≤ most → now ≡ with_more old before → TakesAtMost now new (most - before) → TakesAtMost old new most
takes_more old now new before most bound so_far (count, few, step) =
    (before + count, omega arith, step ∙ ap (λ taken. with_more taken count) so_far ∙ with_more-twice old before count)

-- the bytes of a file that was started are its count
with_files-more : (taken : Taken) (count : ℕ) → with_more (with_files taken (0 ∷ [])) count ≡ with_files taken (count ∷ [])
with_files-more None count = refl
with_files-more (Some counts) count = ap (λ sum. Some (sum ∷ counts)) (omega arith)

-- a file was started, and all that was taken is of it
pub with_files-read : (old now new : Taken) (count : ℕ) → now ≡ with_files old (0 ∷ []) → new ≡ with_more now count → new ≡ with_files old (count ∷ [])
with_files-read old now new count opened step = step ∙ ap (λ taken. with_more taken count) opened ∙ with_files-more old count

-- no file was started
pub files_none : (taken : Taken) (most : ℕ) → TakesFiles taken taken most
files_none None most = ([], tt, refl)
files_none (Some counts) most = ([], tt, refl)

-- a file was started, of which at most so many bytes were taken
pub files_read : (old now new : Taken) (most : ℕ) → now ≡ with_files old (0 ∷ []) → TakesAtMost now new most → TakesFiles old new most
files_read old now new most opened (count, few, step) =
    (count ∷ [], (few, tt), with_files-read old now new count opened step)

-- two lists of counts that are at most a bound are one
at_most-append : (most : ℕ) (first second : List ℕ) → AreAtMost most first → AreAtMost most second → AreAtMost most (first ++ second)
at_most-append most [] second few more = more
at_most-append most (count ∷ counts) second (here, few) more = (here, at_most-append most counts second few more)

with_files-twice : (taken : Taken) (first second : List ℕ) → with_files (with_files taken first) second ≡ with_files taken (second ++ first)
with_files-twice None first second = refl
with_files-twice (Some counts) first second = ap Some (sym (append_assoc second first counts))

-- files were started, and then files
pub files_both : (old now new : Taken) (most : ℕ) → TakesFiles old now most → TakesFiles now new most → TakesFiles old new most
files_both old now new most (first, few, so_far) (second, more, step) = (
  second ++ first,
  at_most-append most second first more few,
  step ∙ ap (λ taken. with_files taken second) so_far ∙ with_files-twice old first second,
)
