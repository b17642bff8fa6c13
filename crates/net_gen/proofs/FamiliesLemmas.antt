-- Seeds that are equal modulo 2 ^ 31 give the same texts.
use Rattle.std.proofs.Common.{◌≡◌, ℕ, ◌+◌, ◌%◌, ◌^◌, List, refl}
use Rattle.net_gen.specs.Lines.{each, turns}
use Rattle.net_gen.specs.Inverters.{inverters_turn}
use Rattle.net_gen.specs.Passes.{control, passes_turn}
use Rattle.net_gen.specs.Columns.{columns_turn}
use Rattle.net_gen.specs.Families.{turn_count, draws_in_turn, turn, generated}
use Rattle.net_gen.specs.declared.families.GenKind.{GenKind}
use Rattle.net_gen.specs.declared.families.GenKind.TheVariants.{Inverters, Passes, Columns}
use Rattle.net_gen.specs.declared.families.GenPart.{GenPart}
use Rattle.net_gen.specs.declared.families.GenPart.TheVariants.{Net, Script}
use Rattle.net_gen.proofs.DrawsLemmas.{draw-mod}

-- lines that are equal one by one are equal together
each-equal : (first count : ℕ) (f g : ℕ → List ℕ) → ((k : ℕ) → f k ≡ g k) → each first count f ≡ each first count g
each-equal first count f g same = λ i. each first count (λ k. same k i)

-- turns that are equal one by one are equal together
turns-equal : (count per : ℕ) (f g : ℕ → List ℕ) → ((drawn : ℕ) → f drawn ≡ g drawn) → turns count per f ≡ turns count per g
turns-equal count per f g same = λ i. turns count per (λ drawn. same drawn i)

inverters_turn-mod : (seed drawn : ℕ) → inverters_turn (seed % 2 ^ 31) drawn ≡ inverters_turn seed drawn
unfolding inverters_turn
inverters_turn-mod seed drawn = simp draw-mod

control-mod : (seed drawn j : ℕ) → control (seed % 2 ^ 31) drawn j ≡ control seed drawn j
unfolding control
control-mod seed drawn j = simp draw-mod

passes_turn-mod : (seed drawn : ℕ) → passes_turn (seed % 2 ^ 31) drawn ≡ passes_turn seed drawn
unfolding passes_turn
passes_turn-mod seed drawn =
    rw (each-equal 1 8 (control (seed % 2 ^ 31) (drawn + 2)) (control seed (drawn + 2)) (control-mod seed (drawn + 2)))
    (simp draw-mod)

columns_turn-mod : (seed drawn : ℕ) → columns_turn (seed % 2 ^ 31) drawn ≡ columns_turn seed drawn
unfolding columns_turn
columns_turn-mod seed drawn = simp draw-mod

-- a turn of any family
turn-mod : (kind : GenKind) (seed drawn : ℕ) → turn kind (seed % 2 ^ 31) drawn ≡ turn kind seed drawn
turn-mod Inverters seed drawn = inverters_turn-mod seed drawn
turn-mod Passes seed drawn = passes_turn-mod seed drawn
turn-mod Columns seed drawn = columns_turn-mod seed drawn

-- a seed counts modulo 2 ^ 31: the remainder gives the same text
pub generated-mod : (kind : GenKind) (part : GenPart) (seed n : ℕ) →
    generated kind part (seed % 2 ^ 31) n ≡ generated kind part seed n
generated-mod kind Net seed n = refl
generated-mod kind Script seed n =
    rw (turns-equal (turn_count kind) (draws_in_turn kind) (turn kind (seed % 2 ^ 31)) (turn kind seed)
    (turn-mod kind seed)) refl
