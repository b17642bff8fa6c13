-- The last place with a mark is the greatest; if there is none, the last of the older ones.
use Rattle.std.proofs.Common.{◌<◌, arith}
use Rattle.std.proofs.lemmas.List.Elements.{All-contains}
use Rattle.bool_pool.proofs.CollectLemmas.{below_from_less}
use Rattle.bool_pool.proofs.WindowLemmas.{IsTakenOut-marked, IsTakenOut-older}
use Rattle.bool_pool.proofs.reach.Waiting.take.Goals as goal

pub returns-in-Some-clause-taken : goal.returns-in-Some-clause-taken
returns-in-Some-clause-taken c =
    IsTakenOut-marked c.args.self.now.older.keys c.args.self.now.bottom c.args.self.now.marks.items c.take_marked.new.marks.items
    c.in-Some.place c.requires.0 (omega (arith, c.in-Some.ensures.room)) c.in-Some.ensures.taken

pub returns-clause-taken : goal.returns-clause-taken
returns-clause-taken c =
    let rest = c.pop_last.new.self.keys in
    let place = c.in-Some-pop_last.place in
    IsTakenOut-older c.args.self.now.older.keys rest c.args.self.now.bottom c.args.self.now.marks.items place _
    c.in-Some-pop_last.ensures.removal
    (λ k held. All-contains (λ other. other < place) rest k
    (λ i d inside. below_from_less _ place (c.in-Some-pop_last.ensures.all_below i d inside)) held)
    c.in_default.ensures.none c.in_ok-open_window.ensures.each
