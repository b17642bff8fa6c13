-- A text that is known is found; another one is known behind all others.
use Rattle.std.proofs.Common.{◌≡◌, [], ◌∷◌, ◌++◌, Some, true, false, refl, sym, ap, subst, ◌∙◌, append-nil}
use Rattle.std.specs.Prelude.{slice_get}
use Rattle.std.specs.List.{IsDistinct}
use Rattle.std.proofs.lemmas.Bool.{cond-false}
use Rattle.group_text.specs.Compared.{same_text, same_text_decides}
use Rattle.group_text.specs.FirstTexts.{is_among}
use Rattle.kept_parts.specs.Uses.{UsesData}
use Rattle.kept_parts.proofs.NumberLemmas.{AreCounted-known, used_known_more, position-text, known_again, known_first}
use Rattle.kept_parts.proofs.PlaceLemmas.{among_at}
use Rattle.kept_parts.proofs.uses.TextUses.number.Goals.{In-Ok}
use Rattle.kept_parts.proofs.uses.TextUses.number.Goals as goal

-- a text that isn't found is not among those that are known
absent : (c : In-Ok) → is_among c.self.inside.known.keys c.in_ok-key.key ≡ false
absent c = subst (λ one. is_among c.self.inside.known.keys one ≡ false) (sym c.in_ok-key.ensures) (sym c.in_default.ensures.found)

-- and stands behind them
keys : (c : In-Ok) → c.insert_full.new.self.keys ≡ c.self.inside.known.keys ++ c.in_ok-key.key ∷ []
keys c =
    let known = c.self.inside.known.keys in
    let text = c.in_ok-key.key in
    c.in-Ok.ensures.keys ∙ cond-false (is_among known text) known (known ++ text ∷ []) (absent c)

pub returns-in-Some-clause-number : goal.returns-in-Some-clause-number
returns-in-Some-clause-number c =
    subst (λ (uses : UsesData). slice_get uses.known c.in-Some.number ≡ Some c.args.text.now) c.self.view_is
    (position-text c.self.inside.known.keys c.args.text.now c.in-Some.number c.in-Some.ensures.index)

pub invariant_of-self-2 : goal.invariant_of-self-2
invariant_of-self-2 c =
    let i = c.self.inside in
    let known = keys (goal.at.invariant_of-self-2 c).In-Ok in
    let counts = c.push_reserved.ensures.items ∙ ap (λ xs. xs ++ 0 ∷ []) c.reserve.ensures.items in
    rw (known, counts) (AreCounted-known i.known.keys i.counts.items i.numbers.items i.distinct c.in_ok-key.key c.self.invariant
    (subst (IsDistinct same_text) known c.in-Ok.ensures.unique))

pub returns-clause-numbered : goal.returns-clause-numbered
returns-clause-numbered c =
    rw (← c.self.view_is) (record { more = c.in_ok-key.key ∷ []; known = keys (goal.at.returns-clause-numbered c).In-Ok; numbers = refl })

pub returns-clause-texts : goal.returns-clause-texts
returns-clause-texts c =
    let old : UsesData = record { known = c.self.inside.known.keys; numbers = c.self.inside.numbers.items } in
    rw (← c.self.view_is) (used_known_more old _ c.self.invariant.inside
    (record { more = c.in_ok-key.key ∷ []; known = keys (goal.at.returns-clause-texts c).In-Ok; numbers = refl }))

pub returns-in-Some-clause-known : goal.returns-in-Some-clause-known
returns-in-Some-clause-known c =
    let known = c.self.inside.known.keys in
    let text = c.args.text.now in
    let among : is_among known text ≡ true =
    among_at known c.in-Some.number text (position-text known text c.in-Some.number c.in-Some.ensures.index) in
    rw (← c.self.view_is) (sym (ap (λ more. known ++ more) (known_again known text among) ∙ append-nil known))

pub returns-clause-known : goal.returns-clause-known
returns-clause-known c =
    let known = c.self.inside.known.keys in
    let at = (goal.at.returns-clause-known c).In-Ok in
    rw (← c.self.view_is, ← c.in_ok-key.ensures) (keys at ∙ ap (λ more. known ++ more) (sym (known_first known c.in_ok-key.key (absent at))))

pub returns-clause-number : goal.returns-clause-number
returns-clause-number c =
    let (stored, at, same) = c.in-Ok.ensures.stored in
    let is : c.in_ok-key.key ≡ stored = (same_text_decides c.in_ok-key.key stored).0 same in
    at ∙ ap Some (sym is ∙ c.in_ok-key.ensures)
