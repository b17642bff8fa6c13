-- A place more, or the place at which such a word begins.
use Rattle.std.proofs.Common.{◌≡◌, ◌<◌, ℕ, false, length, sym, subst, ◌∙◌, arith}
use Rattle.std.specs.List.{list_any, range_with_len}
use Rattle.circuit_lint.specs.Supplies.{is_supply_at}
use Rattle.circuit_lint.proofs.RangeLemmas.{any-there, none-more}
use Rattle.circuit_lint.proofs.supplies.is_supply_name.Goals as goal

pub loop-place-preserved : goal.loop-place-preserved
loop-place-preserved c =
    none-more (is_supply_at c.args.name.now) c.loop-place.place c.loop-place.invariant (sym c.is_supply_at.ensures ∙ c.if-is_supply_at.false)

pub returns-then-is_supply_at : goal.returns-then-is_supply_at
returns-then-is_supply_at c =
    let low : c.loop-place.place < length c.args.name.now = omega (arith, c.loop-place-test.true) in
    sym (any-there (is_supply_at c.args.name.now) (length c.args.name.now) c.loop-place.place low (sym c.is_supply_at.ensures ∙ c.if-is_supply_at.true))

pub returns : goal.returns
returns c =
    let all : c.loop-place.place ≡ length c.args.name.now = omega (arith, c.loop-place-test.false, c.loop-place.auto.place-end) in
    sym (subst (λ (n : ℕ). list_any (is_supply_at c.args.name.now) (range_with_len 0 n) ≡ false) all c.loop-place.invariant)
