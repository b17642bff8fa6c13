-- The text goes to the front as it is put, and then to the back.
use Rattle.std.proofs.Common.{ap, ◌∙◌}
use Rattle.lru.specs.LruCache.{lru_cache, demoted}
use Rattle.group_text.specs.Compared.{same_text}
use Rattle.analysis_cache.proofs.TableLemmas.{answered, put_back}
use Rattle.analysis_cache.proofs.recent.put_last.Goals as goal

pub returns-clause-ok : goal.returns-clause-ok
returns-clause-ok c =
    let codes = c.args.codes.now in
    let put = answered c.put.result c.in_ok-map_err.ensures.variant c.put.ensures.entries in
    c.demote.ensures.entries
    ∙ ap (λ table. lru_cache (demoted (same_text c.args.text.now) table.entries) table.cap) put
    ∙ ap (λ rows. lru_cache rows codes.cap)
    (put_back codes c.args.key c.args.text.now c.args.code c.requires.same c.requires.absent c.texts_are_apart.ensures.fits c.requires.roomy)
