-- What moves lead to: none of them, one more, and those of two ways one after the other.
use Rattle.std.proofs.Common.{ℕ, zero, suc, refl, sym, subst}
use Rattle.column_settling.specs.Reaching.{Reaches, ReachesIn}

module _ {M : Type 0} (By : M → M → Type 0) where
  -- none
  pub reaches_none : (m : M) → Reaches By m m
  reaches_none m = (0, refl)

  -- one more
  pub reaches_more : (old mid new : M) → Reaches By old mid → By mid new → Reaches By old new
  reaches_more old mid new (count, before) by = (suc count, (mid, before, by))

  -- more than one
  after_in : (count : ℕ) (old mid new : M) → Reaches By old mid → ReachesIn By count mid new → Reaches By old new
  after_in zero old mid new first same = subst (λ (m : M). Reaches By old m) (sym same) first
  after_in (suc count) old mid new first (last, before, by) = reaches_more old last new (after_in count old mid last first before) by

  pub reaches_both : (old mid new : M) → Reaches By old mid → Reaches By mid new → Reaches By old new
  reaches_both old mid new first (count, later) = after_in count old mid new first later

  -- what holds from each to itself, and from each to what a move leads to after those before, holds of all of them
  held_in : (R : M → M → Type 0) → ((m : M) → R m m) → ((old mid new : M) → R old mid → By mid new → R old new) → (count : ℕ) (old new : M) →
      ReachesIn By count old new → R old new
  held_in R none more zero old new same = subst (λ (m : M). R old m) (sym same) (none old)
  held_in R none more (suc count) old new (mid, before, by) = more old mid new (held_in R none more count old mid before) by

  pub held_by_all : (R : M → M → Type 0) → ((m : M) → R m m) → ((old mid new : M) → R old mid → By mid new → R old new) → (old new : M) →
      Reaches By old new → R old new
  held_by_all R none more old new (count, reached) = held_in R none more count old new reached
