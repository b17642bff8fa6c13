-- The value of a formula: further gates leave it, and it is its gate's on its operands' values.
use Rattle.std.proofs.Common.{◌≡◌, ℕ, ◌+◌, ◌<◌, Bool, false, not, ◌&&◌, ◌||◌, List, [], ◌∷◌, ◌++◌, length, take, drop, fold, get_or, refl, sym, ap, ◌∙◌, inl, inr, arith}
use Rattle.std.specs.Prelude.{slice_index_or}
use Rattle.std.proofs.lemmas.List.{get_or_append_left, get_or_at, length-append, length-take-le, drop_more, take_more, take-append-drop, get_or-take, ext_get_or}
use Rattle.std.proofs.lemmas.List.Sums.{fold-append}
use Rattle.bool_pool.specs.declared.gate.Gate.{Gate}
use Rattle.bool_pool.specs.declared.gate.Gate.TheVariants.{False, True, Var, Not, And, Or}
use Rattle.bool_pool.specs.Gate.{gate_at, IsOperand, IsInOrder, Extends}
use Rattle.bool_pool.specs.Value.{gate_value, with_value, values, value_at}

-- further gates add one value each
length-fold : (vars : ℕ → Bool) (done : List Bool) (gates : List Gate)
    → length (fold (with_value vars) done gates) ≡ length done + length gates
unfolding with_value
length-fold vars done [] = omega arith
length-fold vars done (gate ∷ gates) =
    let step = length-fold vars (with_value vars done gate) gates in
    omega (arith, step, length-append done (gate_value vars (λ i. slice_index_or done i false) gate ∷ []))

-- there is one value for each gate
pub length-values : (gates : List Gate) (vars : ℕ → Bool) → length (values gates vars) ≡ length gates
unfolding values
length-values gates vars = length-fold vars [] gates ∙ omega arith

-- further gates leave the values that are there
fold-keeps : (vars : ℕ → Bool) (done : List Bool) (gates : List Gate) (i : ℕ) → i < length done
    → get_or (fold (with_value vars) done gates) i false ≡ get_or done i false
unfolding with_value
fold-keeps vars done [] i inside = refl
fold-keeps vars done (gate ∷ gates) i inside =
    let last = gate_value vars (λ k. slice_index_or done k false) gate ∷ [] in
    let longer : i < length (done ++ last) = omega (arith, length-append done last) in
    fold-keeps vars (with_value vars done gate) gates i longer ∙ get_or_append_left done last false i inside

-- a formula keeps its value when gates are added
pub value_at-append : (gates more : List Gate) (vars : ℕ → Bool) (i : ℕ) → i < length gates
    → value_at (gates ++ more) vars i ≡ value_at gates vars i
unfolding values value_at
value_at-append gates more vars i inside =
    let kept : i < length (values gates vars) = omega (arith, length-values gates vars) in
    ap (λ all. get_or all i false) (fold-append (with_value vars) [] gates more)
    ∙ fold-keeps vars (values gates vars) more i kept

-- a list that extends another begins with it
pub Extends-append : (old new : List Gate) → Extends old new → old ++ drop (length old) new ≡ new
Extends-append old new extends =
    ap (λ front. front ++ drop (length old) new) (sym front_is) ∙ take-append-drop (length old) new
  where
    long : length (take (length old) new) ≡ length old
    long = length-take-le (length old) new extends.longer

    front_is : take (length old) new ≡ old
    front_is = ext_get_or False (take (length old) new) old long
        (λ i inside.
        let before : i < length old = omega (arith, long) in
        get_or-take (length old) new i False before ∙ extends.kept i before)

-- the same in a pool that extends another
pub value_at-extends : (old new : List Gate) (vars : ℕ → Bool) (i : ℕ) → Extends old new → i < length old
    → value_at new vars i ≡ value_at old vars i
value_at-extends old new vars i extends inside =
    ap (λ gates. value_at gates vars i) (sym (Extends-append old new extends))
    ∙ value_at-append old (drop (length old) new) vars i inside

-- a gate's value depends on its operands' values alone
pub gate_value-same : (vars f g : ℕ → Bool) (gate : Gate) → ((k : ℕ) → IsOperand gate k → f k ≡ g k)
    → gate_value vars f gate ≡ gate_value vars g gate
gate_value-same vars f g False same = refl
gate_value-same vars f g True same = refl
gate_value-same vars f g (Var v) same = refl
gate_value-same vars f g (Not a) same = ap not (same a.place refl)
gate_value-same vars f g (And a b) same =
    ap (λ x. x && f b.place) (same a.place (inl refl)) ∙ ap (λ y. g a.place && y) (same b.place (inr refl))
gate_value-same vars f g (Or a b) same =
    ap (λ x. x || f b.place) (same a.place (inl refl)) ∙ ap (λ y. g a.place || y) (same b.place (inr refl))

-- the value of the gate that follows some gates
pub value_at-next : (gates more : List Gate) (gate : Gate) (vars : ℕ → Bool)
    → value_at (gates ++ gate ∷ more) vars (length gates) ≡ gate_value vars (value_at gates vars) gate
unfolding values value_at with_value
value_at-next gates more gate vars =
    let done = values gates vars in
    let last = gate_value vars (λ k. slice_index_or done k false) gate in
    let kept : length gates < length (done ++ last ∷ []) =
    omega (arith, length-values gates vars, length-append done (last ∷ [])) in
    ap (λ all. get_or all (length gates) false) (fold-append (with_value vars) [] gates (gate ∷ more))
    ∙ fold-keeps vars (with_value vars done gate) more (length gates) kept
    ∙ get_or_at done last [] false (length gates) (length-values gates vars)

-- the value of a formula is its gate's on the values of its operands
pub value_at-gate : (gates : List Gate) (vars : ℕ → Bool) (i : ℕ) → IsInOrder gates → i < length gates
    → value_at gates vars i ≡ gate_value vars (value_at gates vars) (gate_at gates i)
value_at-gate gates vars i order inside =
    let front = take i gates in
    let long : length front ≡ i = length-take-le i gates (omega arith) in
    let split : front ++ (gate_at gates i ∷ drop (i + 1) gates) ≡ gates =
    ap (λ rest. front ++ rest) (sym (drop_more gates i False inside)) ∙ take-append-drop i gates in
    let next = value_at-next front (drop (i + 1) gates) (gate_at gates i) vars in
    let here : value_at gates vars i ≡ gate_value vars (value_at front vars) (gate_at gates i) = rw (split, long) at next in
    here ∙ gate_value-same vars (value_at front vars) (value_at gates vars) (gate_at gates i)
    (λ k operand.
    let before : k < length front = rw long (order i k operand) in
    sym (value_at-append front (drop i gates) vars k before) ∙ ap (λ all. value_at all vars k) (take-append-drop i gates))

-- the values of some gates and one more
pub values-push : (gates : List Gate) (gate : Gate) (vars : ℕ → Bool)
    → values (gates ++ gate ∷ []) vars ≡ values gates vars ++ gate_value vars (λ i. slice_index_or (values gates vars) i false) gate ∷ []
unfolding values with_value
values-push gates gate vars = fold-append (with_value vars) [] gates (gate ∷ [])

-- the values of the gates up to the next one
pub values-more : (gates : List Gate) (i : ℕ) (vars : ℕ → Bool) (done : List Bool) → i < length gates → done ≡ values (take i gates) vars
    → done ++ gate_value vars (λ k. slice_index_or done k false) (gate_at gates i) ∷ [] ≡ values (take (i + 1) gates) vars
values-more gates i vars done inside is =
    rw (is, take_more gates i False inside) (sym (values-push (take i gates) (gate_at gates i) vars))

-- the values of the gates up to a formula's have one for the formula
pub length-values_take : (gates : List Gate) (vars : ℕ → Bool) (i : ℕ) → i < length gates
    → i < length (values (take (i + 1) gates) vars)
length-values_take gates vars i inside =
    omega (arith, length-values (take (i + 1) gates) vars, length-take-le (i + 1) gates (omega arith))

-- a formula's value is the last of the values up to its gate
pub value_at-take : (gates : List Gate) (vars : ℕ → Bool) (i : ℕ) → i < length gates
    → get_or (values (take (i + 1) gates) vars) i false ≡ value_at gates vars i
unfolding value_at
value_at-take gates vars i inside =
    let long : i < length (take (i + 1) gates) = omega (arith, length-take-le (i + 1) gates (omega arith)) in
    sym (value_at-append (take (i + 1) gates) (drop (i + 1) gates) vars i long)
    ∙ ap (λ all. value_at all vars i) (take-append-drop (i + 1) gates)
