-- The maker has more functions, among them those of the formula's letters; all else is as before.
use Rattle.std.proofs.Common.{refl}
use Rattle.symbol_session.specs.Sessions.{SymbolData}
use Rattle.symbol_session.proofs.DataLemmas.{stays_on}
use Rattle.symbol_session.proofs.MadeLemmas.{goes_made, held_made, high_inside, high_truth, same_made}
use Rattle.symbol_session.proofs.session.SymbolSession.letters_of_formula.Goals as goal

pub invariant_of-self : goal.invariant_of-self
invariant_of-self c =
    let i = c.self.inside in
    let old : SymbolData = record { session = i.session; names = i.outside.names; kept = i.outside.kept.items; saves = i.saves.items; count = i.count; quiet = i.quiet; text = i.text.text } in
    let (own, notes) = c.self.invariant in
    (held_made old c.formula_letters.new.session c.formula_letters.ensures.only own, notes)

pub formula_letters-requires : goal.formula_letters-requires
formula_letters-requires c = c.self.invariant.0.named

pub returns : goal.returns
returns c =
    let i = c.self.inside in
    let old : SymbolData = record { session = i.session; names = i.outside.names; kept = i.outside.kept.items; saves = i.saves.items; count = i.count; quiet = i.quiet; text = i.text.text } in
    let session = c.formula_letters.new.session in
    let goes = goes_made old session c.formula_letters.ensures.only in
    rw (← c.self.view_is)
    (record {
      stays = stays_on old (record old { session = session }) c.self.invariant.0 goes;
      same = same_made old session c.formula_letters.ensures.only c.self.invariant.0;
      table = refl;
      keeps = goes.keeps;
      inside = high_inside session.stage c.formula_letters.result c.formula_letters.ensures.own;
      truth = high_truth i.session.stage session.stage i.outside.names c.args.formula.now c.formula_letters.result
          (rw c.parts.ensures.all at c.formula_letters.ensures.letter);
    })
