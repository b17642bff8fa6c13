-- At one place more the same stands; at the end that is so at each place.
use Rattle.std.proofs.Common.{◌≡◌, inl, inr, slice_get, sym, subst, arith}
use Rattle.std.proofs.lemmas.Bool.{OnTrue_at, cases_lt}
use Rattle.netlist.proofs.NamingLemmas.{same_entries}
use Rattle.netlist.proofs.names.have_same_names.Goals as goal

pub loop-place-init : goal.loop-place-init
loop-place-init c = λ k low. absurd (omega (arith, low))

pub loop-place-preserved : goal.loop-place-preserved
loop-place-preserved c = λ k low.
    elim (cases_lt k c.loop-place.place) [
      | inl before ↦ c.loop-place.invariant k before
      | inr past ↦
          let here : k ≡ c.loop-place.place = omega (arith, low, past) in
          subst (λ place. slice_get c.args.one.now.entries place ≡ slice_get c.args.other.now.entries place) (sym here)
          (OnTrue_at c.if-not-stands_alike.false c.stands_alike.ensures)
    ]

pub returns : goal.returns
returns c =
    same_entries c.args.one.now.entries c.args.other.now.entries (omega arith) (λ place low. c.loop-place.invariant place (omega (arith, low)))
