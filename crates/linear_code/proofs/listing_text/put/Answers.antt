-- Each piece begins what is left.
use Rattle.std.proofs.Common.{arith}
use Rattle.std.proofs.lemmas.List.{at_drop_more, at_drop_all}
use Rattle.std.specs.List.{flat_map}
use Rattle.linear_code.specs.Pieces.{text_of}
use Rattle.linear_code.proofs.WritesLemmas.{IsLeft-all, IsLeft-more, IsLeft-none, Writes-stopped}
use Rattle.linear_code.proofs.listing_text.put.Goals as goal

pub loop-piece-init : goal.loop-piece-init
loop-piece-init c = IsLeft-all _ _

pub loop-piece-preserved : goal.loop-piece-preserved
loop-piece-preserved c =
    IsLeft-more _ c.loop-piece.invariant (at_drop_more (flat_map text_of) c.args.pieces.now c.loop-piece.piece-index _ (omega arith))
    c.in_ok-put_piece.ensures.ok

pub returns : goal.returns
returns c = record {
  ok = IsLeft-none c.loop-piece.invariant (at_drop_all (flat_map text_of) c.args.pieces.now c.loop-piece.piece-index (omega arith));
  part = tt;
}

pub returns-in_err-put_piece : goal.returns-in_err-put_piece
returns-in_err-put_piece c =
    Writes-stopped _ _ c.loop-piece.invariant (at_drop_more (flat_map text_of) c.args.pieces.now c.loop-piece.piece-index _ (omega arith))
    c.in_err-put_piece.ensures c.from_residual.ensures.0
