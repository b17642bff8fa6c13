-- The next rails are those that are given, and they are the old ones or differ from them in some column.
use Rattle.std.proofs.Common.{refl, sym, ◌∙◌}
use Rattle.std.proofs.lemmas.Bool.{OnTrue_at}
use Rattle.truth_parts.proofs.KeptLemmas.{rail-given, rail-later, passed_on}
use Rattle.truth_parts.proofs.noting.next_of.Goals as goal

pub returns-then-are_alike-clause-stays : goal.returns-then-are_alike-clause-stays
returns-then-are_alike-clause-stays g c =
    let alike = OnTrue_at c.if-are_alike.true c.are_alike.ensures.alike in
    let first = c.after.ensures.kept in
    let second = c.after-2.ensures.kept in
    let joining = c.args.joining in
    record {
      high = λ column inside.
          sym (rail-later _ _ _ _ _ _ second joining c.args.hi c.args.one c.in_ok-next_hi.next_hi (first.there c.args.hi c.requires.hi) (first.there c.args.one c.requires.one)
          c.in_ok-next_hi.ensures.has
          (rail-given _ _ _ _ _ _ first joining c.args.hi c.args.one c.in_ok-next_hi.next_hi c.requires.hi c.requires.one c.in_ok-next_hi.ensures.value) column inside)
          ∙ alike.high column inside;
      low = λ column inside.
          sym (rail-given _ _ _ _ _ _ second joining c.args.lo c.args.other c.in_ok-next_lo.next_lo (first.there c.args.lo c.requires.lo)
          (first.there c.args.other c.requires.other) c.in_ok-next_lo.ensures.value column inside)
          ∙ alike.low column inside;
    }

pub returns-clause-changes : goal.returns-clause-changes
returns-clause-changes g c =
    let first = c.after.ensures.kept in
    let second = c.after-2.ensures.kept in
    let joining = c.args.joining in
    record {
      of_node = refl;
      of_maker = record { high = second.there c.in_ok-next_hi.next_hi c.in_ok-next_hi.ensures.has; low = c.in_ok-next_lo.ensures.has };
      high = rail-later _ _ _ _ _ _ second joining c.args.hi c.args.one c.in_ok-next_hi.next_hi (first.there c.args.hi c.requires.hi) (first.there c.args.one c.requires.one)
          c.in_ok-next_hi.ensures.has
          (rail-given _ _ _ _ _ _ first joining c.args.hi c.args.one c.in_ok-next_hi.next_hi c.requires.hi c.requires.one c.in_ok-next_hi.ensures.value);
      low = rail-given _ _ _ _ _ _ second joining c.args.lo c.args.other c.in_ok-next_lo.next_lo (first.there c.args.lo c.requires.lo)
          (first.there c.args.other c.requires.other) c.in_ok-next_lo.ensures.value;
      unlike = c.are_alike.ensures.unlike c.if-are_alike.false;
    }

pub returns-in_err-next_hi-clause-spent : goal.returns-in_err-next_hi-clause-spent
returns-in_err-next_hi-clause-spent g c = passed_on _ c.from_residual.result _ c.from_residual.ensures.1 c.in_err-next_hi.ensures.spent

pub returns-in_err-next_lo-clause-spent : goal.returns-in_err-next_lo-clause-spent
returns-in_err-next_lo-clause-spent g c = passed_on _ c.from_residual-in_err-next_lo.result _ c.from_residual-in_err-next_lo.ensures.1 c.in_err-next_lo.ensures.spent
