-- What is left begins with the next line.
use Rattle.std.proofs.Common.{◌≤◌, length, ap, ◌∙◌, arith}
use Rattle.std.proofs.lemmas.List.{length-map}
use Rattle.linear_code.proofs.WritesLemmas.{IsLeft-all, WritesFront-more, at_err}
use Rattle.linear_code.proofs.ListingTextLemmas.{IsEntry-read, entry_of, storage_before-lt}
use Rattle.linear_code.proofs.TextPlaceLemmas.{splits_node, passes_node, splits_instruction, passes_instruction, splits_storage, passes_storage, passes_input}
use Rattle.linear_code.proofs.listing.Listing.write_line.Goals.{Else-place-nodes-2}
use Rattle.linear_code.proofs.listing.Listing.write_line.Goals as goal

pub returns-in_err-put_node-clause-part : goal.returns-in_err-put_node-clause-part
returns-in_err-put_node-clause-part c =
    let is = IsEntry-read _ _ c.args.place.now.nodes _ c.listed-nodes.ensures.nodes c.if-place-nodes.true c.index-nodes-place.is in
    at_err c.from_residual.result
    (WritesFront-more _ (IsLeft-all c.args.out.now.items _) (splits_node c.args.self.now c.args.place.now _ is) c.in_err-put_node.ensures.part)

pub returns-then-place-nodes-clause-ok : goal.returns-then-place-nodes-clause-ok
returns-then-place-nodes-clause-ok c =
    let is = IsEntry-read _ _ c.args.place.now.nodes _ c.listed-nodes.ensures.nodes c.if-place-nodes.true c.index-nodes-place.is in
    passes_node c.args.self.now c.args.place.now c.args.out.now.items c.put_node.new.out.items _ c.requires is c.in_ok-put_node.ensures.ok

pub returns-in_err-put_instruction-clause-part : goal.returns-in_err-put_instruction-clause-part
returns-in_err-put_instruction-clause-part c =
    let past : length c.args.self.now.entries ≤ c.args.place.now.nodes =
    omega (arith, ap length c.listed-nodes.ensures.nodes, length-map c.listed-nodes.result.now entry_of) in
    at_err c.from_residual-in_err-put_instruction.result
    (WritesFront-more _ (IsLeft-all c.args.out.now.items _)
    (splits_instruction c.args.self.now c.args.place.now _ _ past c.instructions-instructions.ensures c.if-place-instructions.true)
    c.in_err-put_instruction.ensures.part)

pub returns-then-place-instructions-clause-ok : goal.returns-then-place-instructions-clause-ok
returns-then-place-instructions-clause-ok c =
    let past : length c.args.self.now.entries ≤ c.args.place.now.nodes =
    omega (arith, ap length c.listed-nodes.ensures.nodes, length-map c.listed-nodes.result.now entry_of) in
    passes_instruction c.args.self.now c.args.place.now c.args.out.now.items c.put_instruction.new.out.items _ _ c.requires past
    c.instructions-instructions.ensures c.if-place-instructions.true c.in_ok-put_instruction.ensures.ok

pub bounds-nexts-place : goal.bounds-nexts-place
bounds-nexts-place c =
    let is = IsEntry-read _ _ c.args.place.now.passed _ c.listed-nodes.ensures.nodes c.if-place-nodes-2.false c.index-nodes-place-2.is in
    let storage = ap (λ node. node.is_storage) c.index-nodes-place-2.is ∙ c.if-nodes-place.true in
    rw (c.requires.moved, c.nexts.ensures)
    (storage_before-lt c.args.self.now c.args.place.now.passed _ c.listed-nodes.ensures.listing is storage)

-- the lines of the nodes and those of the instructions are passed
passed : (c : Else-place-nodes-2) →
    (length c.args.self.now.entries ≤ c.args.place.now.nodes) × (length c.args.self.now.instructions ≤ c.args.place.now.instructions)
passed c = (
  omega (arith, ap length c.listed-nodes.ensures.nodes, length-map c.listed-nodes.result.now entry_of),
  omega (arith, ap length c.instructions-instructions.ensures),
)

pub returns-in_err-put_next-clause-part : goal.returns-in_err-put_next-clause-part
returns-in_err-put_next-clause-part c =
    let here = passed (goal.at.returns-in_err-put_next-clause-part c).Else-place-nodes-2 in
    let is = IsEntry-read _ _ c.args.place.now.passed _ c.listed-nodes.ensures.nodes c.if-place-nodes-2.false c.index-nodes-place-2.is in
    let storage = ap (λ node. node.is_storage) c.index-nodes-place-2.is ∙ c.if-nodes-place.true in
    at_err c.from_residual-in_err-put_next.result
    (WritesFront-more _ (IsLeft-all c.args.out.now.items _)
    (splits_storage c.args.self.now c.args.place.now here.0 here.1 _ _ c.requires c.nexts.ensures is storage) c.in_err-put_next.ensures.part)

pub returns-then-nodes-place-clause-ok : goal.returns-then-nodes-place-clause-ok
returns-then-nodes-place-clause-ok c =
    let here = passed (goal.at.returns-then-nodes-place-clause-ok c).Else-place-nodes-2 in
    let is = IsEntry-read _ _ c.args.place.now.passed _ c.listed-nodes.ensures.nodes c.if-place-nodes-2.false c.index-nodes-place-2.is in
    let storage = ap (λ node. node.is_storage) c.index-nodes-place-2.is ∙ c.if-nodes-place.true in
    passes_storage c.args.self.now c.args.place.now here.0 here.1 c.args.out.now.items c.put_next.new.out.items _ _ c.requires
    c.nexts.ensures is storage c.in_ok-put_next.ensures.ok

pub returns-clause-ok : goal.returns-clause-ok
returns-clause-ok c =
    let here = passed (goal.at.returns-clause-ok c).Else-place-nodes-2 in
    let is = IsEntry-read _ _ c.args.place.now.passed _ c.listed-nodes.ensures.nodes c.if-place-nodes-2.false c.index-nodes-place-2.is in
    let input = ap (λ node. node.is_storage) c.index-nodes-place-2.is ∙ c.if-nodes-place.false in
    passes_input c.args.self.now c.args.place.now here.0 here.1 c.args.out.now.items _ c.requires is input
