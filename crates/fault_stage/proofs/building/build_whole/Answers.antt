-- The stage is built as ever.
use Rattle.std.proofs.Common.{arith}
use Rattle.analysis_cache.specs.Keeping.{texts_of}
use Rattle.fault_stage.proofs.BuildingLemmas.{built_plain}
use Rattle.fault_stage.proofs.building.build_whole.Goals as goal

pub build-told-requires-clause-railed : goal.build-told-requires-clause-railed
build-told-requires-clause-railed g c = c.requires.starts.railed

pub build-told-requires-clause-sound : goal.build-told-requires-clause-sound
build-told-requires-clause-sound g c = λ column inside. c.requires.starts.sound

pub returns : goal.returns
returns g c =
    let told = c.build-told in record {
      well = tt;
      builds = built_plain c.args.large c.args.graph.now c.args.kept.now.bound c.args.stage told.new.self (texts_of c.args.kept.now) (texts_of told.new.kept) _ _ told.result
          told.ensures.fits told.ensures.serves (told.ensures.states 0 (omega arith)) told.ensures.builds told.ensures.last told.ensures.cut_off told.ensures.err;
      bound = told.ensures.bound;
      refused = told.ensures.refused;
    }
