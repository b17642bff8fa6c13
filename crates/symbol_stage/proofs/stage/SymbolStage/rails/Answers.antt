-- They are the machine's.
use Rattle.symbol_stage.proofs.stage.SymbolStage.rails.Goals as goal

pub rails-requires : goal.rails-requires
rails-requires c = rw (← c.self.view_is) at c.requires

pub returns : goal.returns
returns c =
    let e = c.rails.ensures in
    rw (← c.self.view_is) (record { high = e.high; low = e.low; high_has = e.high_has; low_has = e.low_has; one = e.one; zero = e.zero })
