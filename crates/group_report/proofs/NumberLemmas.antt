-- The numbers of texts while the groups are passed: with each group its own text is noted, and no later group changes what is noted of it.
use Rattle.std.proofs.Common.{◌≡◌, ℕ, ◌+◌, ◌<◌, Bool, true, false, cond, List, [], ◌∷◌, ◌++◌, length, get_or, take, drop, Option, None, Some, unwrap_or, option_map, position, is_none, inl, inr, refl, sym, ap, ◌∙◌, subst, arith, true≢false, if◌then◌else◌}
use Rattle.std.specs.List.{position_or_len}
use Rattle.std.proofs.lemmas.Bool.{and_from, cases_lt, cond-true}
use Rattle.std.proofs.lemmas.List.{take_more, take-append-drop, length-take-le, get_or-take}
use Rattle.std.proofs.lemmas.List.Sums.{fails_before_first}
use Rattle.indexmap.specs.IndexMap.{Updates}
use Rattle.first_places.proofs.PlaceLemmas.{position-front, position-push}
use Rattle.switch_paths.specs.Graphs.{GraphData}
use Rattle.group_meaning.specs.Groups.{Group}
use Rattle.group_text.specs.Texts.{GroupTextData, size_fault, text_of_group}
use Rattle.group_text.specs.Compared.{same_text, same_text_decides}
use Rattle.group_report.specs.Report.{has_text, is_of_text, number_of_text, text_number}
use Rattle.group_report.specs.Noted.{Noted, number_at, AreNoted, NotesText, NotesGroup, noted_number}

-- a text that is noted keeps its number
pub NotesText-known : (noted : Noted) (text : GroupTextData) (number first : ℕ) → number_at noted text ≡ Some first → NotesText text number noted noted
NotesText-known noted text number first known other = by (same_text text other) refl
  where
    by : (same : Bool) → same_text text other ≡ same →
        number_at noted other ≡ (if same then Some (unwrap_or (number_at noted other) number) else number_at noted other)
    by true same =
        let there : number_at noted other ≡ Some first = subst (λ one. number_at noted one ≡ Some first) ((same_text_decides text other).0 same) known in
        there ∙ ap (λ found. Some (unwrap_or found number)) (sym there)
    by false same = refl

-- a text that isn't gets the number
pub NotesText-new : (old new : Noted) (text : GroupTextData) (number : ℕ) → number_at old text ≡ None → Updates same_text old new text (Some number) →
    NotesText text number old new
NotesText-new old new text number absent updates other = updates.0 other ∙ by (same_text text other) refl
  where
    by : (same : Bool) → same_text text other ≡ same →
        cond same (Some number) (number_at old other) ≡ (if same then Some (unwrap_or (number_at old other) number) else number_at old other)
    by true same =
        let there : number_at old other ≡ None = subst (λ one. number_at old one ≡ None) ((same_text_decides text other).0 same) absent in
        ap (λ found. Some (unwrap_or found number)) (sym there)
    by false same = refl

-- of a group that has a text its number is noted
pub noted_number-is : (g : GraphData) (noted : Noted) (group : Group) (text : GroupTextData) (first : ℕ) →
    size_fault (length group.members) (length group.switches) ≡ None → text ≡ text_of_group g group → number_at noted text ≡ Some first →
    Some first ≡ noted_number g noted group
noted_number-is g noted group text first fits is known =
    sym (cond-true (has_text group) (number_at noted (text_of_group g group)) None (ap is_none fits)
    ∙ ap (number_at noted) (sym is) ∙ known)

-- of one group more: its texts have the numbers that they had, else its own text has the next number
number_of_text-push : (g : GraphData) (groups : List Group) (group : Group) (text : GroupTextData) →
    number_of_text g (groups ++ group ∷ []) text
    ≡ (if is_of_text g text group then Some (unwrap_or (number_of_text g groups text) (length groups + 1)) else number_of_text g groups text)
number_of_text-push g groups group text =
    ap (option_map (λ k. k + 1)) (position-push (is_of_text g text) groups group) ∙ by (is_of_text g text group) (position (is_of_text g text) groups)
  where
    by : (b : Bool) (o : Option ℕ) → option_map (λ k. k + 1) (if b then Some (unwrap_or o (length groups)) else o)
        ≡ (if b then Some (unwrap_or (option_map (λ k. k + 1) o) (length groups + 1)) else option_map (λ k. k + 1) o)
    by true None = refl
    by true (Some k) = refl
    by false o = refl

-- the texts of the groups before a place are noted, and then those up to it
pub AreNoted-more : (g : GraphData) (groups : List Group) (place : ℕ) (group : Group) (old new : Noted) → place < length groups →
    get_or groups place group ≡ group → AreNoted g (take place groups) old → NotesGroup g group (place + 1) old new →
    AreNoted g (take (place + 1) groups) new
AreNoted-more g groups place group old new inside here are notes text =
    let front = take place groups in
    let count : place ≡ length front = sym (length-take-le place groups (omega arith)) in
    let grown : take (place + 1) groups ≡ front ++ group ∷ [] = take_more groups place group inside ∙ ap (λ last. front ++ last ∷ []) here in
    notes text
    ∙ ap (λ known. if is_of_text g text group then Some (unwrap_or known (place + 1)) else known) (are text)
    ∙ ap (λ k. if is_of_text g text group then Some (unwrap_or (number_of_text g front text) (k + 1)) else number_of_text g front text) count
    ∙ sym (number_of_text-push g front group text)
    ∙ ap (λ list. number_of_text g list text) (sym grown)

-- what is noted of a group that was passed is the number of its text among all groups
pub text_number-noted : (g : GraphData) (groups : List Group) (place : ℕ) (group : Group) (noted : Noted) → place < length groups →
    get_or groups place group ≡ group → AreNoted g (take (place + 1) groups) noted → noted_number g noted group ≡ text_number g groups group
text_number-noted g groups place group noted inside here are = by (has_text group) refl
  where
    text : GroupTextData
    text = text_of_group g group

    front : List Group
    front = take (place + 1) groups

    by : (has : Bool) → has_text group ≡ has → (if has then number_at noted text else None) ≡ (if has then number_of_text g groups text else None)
    by false has = refl
    by true has =
        let p = is_of_text g text in
        let same : same_text text text ≡ true = (same_text_decides text text).1 refl in
        let passes : p group ≡ true = and_from (has_text group) (same_text text text) has same in
        let count : length front ≡ place + 1 = length-take-le (place + 1) groups (omega arith) in
        let last : get_or front place group ≡ group = get_or-take (place + 1) groups place group (omega arith) ∙ here in
        let low : position_or_len p front < length front =
        elim (cases_lt place (position_or_len p front)) [
          | inl past ↦ absurd (true≢false (sym passes ∙ ap p (sym last) ∙ fails_before_first p front place group past))
          | inr low ↦ omega arith
        ] in
        are text
        ∙ ap (option_map (λ k. k + 1)) (sym (position-front p front (drop (place + 1) groups) low))
        ∙ ap (λ list. number_of_text g list text) (take-append-drop (place + 1) groups)
