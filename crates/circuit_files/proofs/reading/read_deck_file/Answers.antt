-- What was read of a deck has the deck's meaning, and was read whole.
use Rattle.ports.proofs.ResultLemmas.{at_ok}
use Rattle.spice_read.specs.Making.{circuit_of}
use Rattle.spice_read.proofs.ReaderLemmas.{circuit_of-front_of}
use Rattle.circuit_files.proofs.FeedingLemmas.{at_each}
use Rattle.circuit_files.proofs.MeaningLemmas.{means_read}
use Rattle.circuit_files.proofs.WholeLemmas.{whole_file}
use Rattle.circuit_files.proofs.reading.read_deck_file.Goals as goal

pub returns-clause-means : goal.returns-clause-means
returns-clause-means g c =
    at_each c.deck_in.result
    (λ meaning means. means_read circuit_of circuit_of-front_of (g.F.Files.holds c.args.files.now) c.args.name.now c.in_ok-text.text.items c.deref.result.now meaning
    c.in_ok-text.ensures.bytes c.deref.ensures.value means)
    c.deck_in.ensures.means

pub returns-clause-whole : goal.returns-clause-whole
returns-clause-whole g c =
    at_ok c.deck_in.result
    (whole_file (g.F.Files.holds c.args.files.now) c.args.name.now c.in_ok-text.text.items (g.F.Files.taken c.args.files.now)
    (g.F.Files.taken c.read_file.new.files) c.in_ok-text.ensures.bytes c.in_ok-text.ensures.whole)
