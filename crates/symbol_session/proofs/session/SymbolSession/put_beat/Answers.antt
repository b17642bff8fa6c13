-- The clocks' nodes are given their states in each column, beside what was missed and kept there; the session is one still.
use Rattle.symbol_session.proofs.DataLemmas.{some_columns, stays_on, went}
use Rattle.symbol_session.proofs.MovedLemmas.{beat_leaves, beat_on, held_left}
use Rattle.symbol_session.proofs.session.SymbolSession.put_beat.Goals as goal

pub beat_in_all-requires : goal.beat_in_all-requires
beat_in_all-requires c = rw (← c.self.view_is) at c.requires.place

pub invariant_of-self : goal.invariant_of-self
invariant_of-self c =
    let goes = went _ _ c.self.view_is c.beat_in_all.new.self c.beat_in_all.ensures.columns c.beat_in_all.ensures.kept c.is_well_formed.ensures.constant in
    let left = beat_leaves _ (some_columns _ _ c.self.view_is c.is_well_formed.ensures.session) _ _ c.args.place c.beat_in_all.ensures.put in
    (held_left _ _ c.self.invariant.0 goes _ left c.self.invariant.0.counted, c.self.invariant.1)

pub returns : goal.returns
returns c =
    let goes = went _ _ c.self.view_is c.beat_in_all.new.self c.beat_in_all.ensures.columns c.beat_in_all.ensures.kept c.is_well_formed.ensures.constant in
    rw (← c.self.view_is)
    (record {
      stays = stays_on _ _ c.self.invariant.0 goes;
      keeps = goes.keeps;
      fits = c.beat_in_all.ensures.fits (rw (← c.self.view_is) at c.requires.fits);
      clocks = (beat_leaves _ (some_columns _ _ c.self.view_is c.is_well_formed.ensures.session) _ _ c.args.place c.beat_in_all.ensures.put).clocks;
      put = beat_on _ _ c.self.invariant.0 goes c.args.place c.beat_in_all.ensures.put;
    })
