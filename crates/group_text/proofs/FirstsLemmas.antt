-- The items of a list, each once where it appears first, are the keys of a set into which the list's items are
-- inserted in turn.
use Rattle.std.proofs.Common.{◌≡◌, ℕ, ◌+◌, ◌<◌, ◌==◌, Bool, true, false, not, List, [], ◌∷◌, ◌++◌, length, filter, take, get_or, nat_eq, refl, sym, ap, ◌∙◌, append_assoc, eqb-true}
use Rattle.std.specs.List.{list_any, flat_map}
use Rattle.std.proofs.lemmas.List.{append-nil, take_more, flat_map_more}
use Rattle.std.proofs.lemmas.List.Elements.{filter-append}
use Rattle.std.proofs.lemmas.Map.Views.{any-filter_same}
use Rattle.indexmap.specs.IndexSet.{insert_key, insert_all}
use Rattle.group_text.specs.Texts.{firsts}

-- what isn't y again
abbrev others : ℕ → List ℕ → List ℕ
others y xs = filter (λ z. not (z == y)) xs

-- another item is among the others exactly if it was among all
others-any : (y x : ℕ) (keys : List ℕ) → (x == y) ≡ false → list_any (nat_eq x) (others y keys) ≡ list_any (nat_eq x) keys
others-any y x keys apart =
    any-filter_same (nat_eq x) (λ z. not (z == y)) true
    (λ z same. let one : x ≡ z = eqb-true x z same in ap (λ w. not (w == y)) (sym one) ∙ ap not apart) keys

-- an item that goes last, or is there already, goes so behind y among the others too, unless it is y
insert-behind_by : (y x : ℕ) (keys : List ℕ) (same seen : Bool) → (x == y) ≡ same → list_any (nat_eq x) keys ≡ seen →
    y ∷ others y (insert_key nat_eq keys x) ≡ insert_key nat_eq (y ∷ others y keys) x
insert-behind_by y x keys true true same seen = rw (seen, same) refl
insert-behind_by y x keys true false same seen = rw (seen, same, filter-append)
    (rw same (ap (λ rest. y ∷ rest) (append-nil (others y keys))))
insert-behind_by y x keys false true same seen = rw (seen, same) (rw (others-any y x keys same, seen) refl)
insert-behind_by y x keys false false same seen = rw (seen, same)
    (rw (others-any y x keys same, seen, filter-append) (rw same refl))

insert-behind : (y x : ℕ) (keys : List ℕ) → y ∷ others y (insert_key nat_eq keys x) ≡ insert_key nat_eq (y ∷ others y keys) x
insert-behind y x keys = insert-behind_by y x keys (x == y) (list_any (nat_eq x) keys) refl refl

-- one item more is inserted, unless it stands there
firsts-push : (xs : List ℕ) (x : ℕ) → firsts (xs ++ x ∷ []) ≡ insert_key nat_eq (firsts xs) x
firsts-push [] x = refl
firsts-push (y ∷ ys) x = ap (λ keys. y ∷ others y keys) (firsts-push ys x) ∙ insert-behind y x (firsts ys)

-- several items more are inserted in turn
firsts-insert_all : (xs ys : List ℕ) → insert_all nat_eq (firsts xs) ys ≡ firsts (xs ++ ys)
firsts-insert_all xs [] = ap firsts (sym (append-nil xs))
firsts-insert_all xs (y ∷ ys) =
    ap (λ keys. insert_all nat_eq keys ys) (sym (firsts-push xs y)) ∙ firsts-insert_all (xs ++ y ∷ []) ys ∙ ap firsts
    (append_assoc xs (y ∷ []) ys)

-- with the next item of a list, the firsts of one item more
pub firsts_more : (xs : List ℕ) (i : ℕ) → i < length xs →
    insert_key nat_eq (firsts (take i xs)) (get_or xs i 0) ≡ firsts (take (i + 1) xs)
firsts_more xs i inside = sym (ap firsts (take_more xs i 0 inside) ∙ firsts-push (take i xs) (get_or xs i 0))

-- with the pieces of the next item of a list, the firsts of one item's pieces more
pub firsts_more_pieces : (xs : List ℕ) (pieces : ℕ → List ℕ) (ys : List ℕ) (i : ℕ) → i < length ys →
    insert_all nat_eq (firsts (xs ++ flat_map pieces (take i ys))) (pieces (get_or ys i 0)) ≡ firsts
    (xs ++ flat_map pieces (take (i + 1) ys))
firsts_more_pieces xs pieces ys i inside =
    firsts-insert_all (xs ++ flat_map pieces (take i ys)) (pieces (get_or ys i 0))
    ∙ ap firsts (flat_map_more pieces xs (take i ys) (get_or ys i 0))
    ∙ ap (λ front. firsts (xs ++ flat_map pieces front)) (sym (take_more ys i 0 inside))
