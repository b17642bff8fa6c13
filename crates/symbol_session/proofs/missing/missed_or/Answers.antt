-- Where some node isn't as it is wanted, and then with the other function.
use Rattle.std.proofs.lemmas.Result.{err_from_is_err_and}
use Rattle.symbol_expecting.specs.Missing.{MakesOn}
use Rattle.symbol_expecting.proofs.MissingLemmas.{makes_more, there_more}
use Rattle.symbol_session.proofs.NotingLemmas.{missed_either}
use Rattle.symbol_session.proofs.missing.missed_or.Goals as goal

pub either-requires : goal.either-requires
either-requires c = record {
  first = there_more c.args.stage.now c.missed_among.new.stage c.in_ok-own.ensures.makes.makes c.args.before c.requires.before;
  second = c.in_ok-own.ensures.inside;
}

pub returns-in_err-own : goal.returns-in_err-own
returns-in_err-own c =
    let p = err_from_is_err_and c.from_residual.result c.from_residual.ensures.1 in
    rw (p.1, p.2) (record {
      makes = c.in_err-own.ensures.makes.makes;
      built = c.in_err-own.ensures.makes.built;
      inside = tt;
      holds = tt;
      spent = c.in_err-own.ensures.spent;
    })

pub returns-in_err-made : goal.returns-in_err-made
returns-in_err-made c =
    let p = err_from_is_err_and c.from_residual-in_err-made.result c.from_residual-in_err-made.ensures.1 in
    let both = makes_more c.args.stage.now c.missed_among.new.stage c.either.new.self c.in_ok-own.ensures.makes
    (record { makes = c.in_err-made.ensures.makes; built = c.in_err-made.ensures.built }) in
    rw (p.1, p.2) (record {
      makes = both.makes;
      built = both.built;
      inside = tt;
      holds = tt;
      spent = c.in_err-made.ensures.full;
    })

pub returns : goal.returns
returns c =
    let old = c.args.stage.now in
    let mid = c.missed_among.new.stage in
    let new = c.either.new.self in
    let more : MakesOn mid new = record { makes = c.in_ok-made.ensures.makes; built = c.in_ok-made.ensures.built } in
    let both = makes_more old mid new c.in_ok-own.ensures.makes more in
    record {
      makes = both.makes;
      built = both.built;
      inside = c.in_ok-made.ensures.inside;
      holds = missed_either old mid new c.in_ok-own.ensures.makes more c.args.pairs.now c.args.before c.in_ok-own.own c.in_ok-made.made c.requires.before
          c.in_ok-own.ensures.value c.in_ok-made.ensures.value;
      spent = tt;
    }
