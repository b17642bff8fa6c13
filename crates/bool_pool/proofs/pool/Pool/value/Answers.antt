-- The formula's value is the last of the values up to its gate.
use Rattle.std.proofs.Common.{◌∙◌, ◌<◌, length, false, arith}
use Rattle.std.proofs.lemmas.List.{get_or_default}
use Rattle.bool_pool.specs.Value.{assigned}
use Rattle.bool_pool.proofs.ValueLemmas.{length-values_take, value_at-take}
use Rattle.bool_pool.proofs.pool.Pool.value.Goals as goal

pub index-requires : goal.index-requires
index-requires c =
    let inside : c.args.id.place < length c.in_ok-done.done.items =
    rw (c.in_ok-done.ensures, c.as_slice-gates.ensures.keys, c.self.view_is)
    (length-values_take c.args.self.now (assigned c.args.vars.now) c.args.id.place c.requires) in
    omega arith

pub returns : goal.returns
returns c =
    let inside : c.args.id.place < length c.in_ok-done.done.items =
    rw (c.in_ok-done.ensures, c.as_slice-gates.ensures.keys, c.self.view_is)
    (length-values_take c.args.self.now (assigned c.args.vars.now) c.args.id.place c.requires) in
    c.index.ensures ∙ get_or_default c.in_ok-done.done.items c.args.id.place c.index.result.now false inside
    ∙ rw (c.in_ok-done.ensures, c.as_slice-gates.ensures.keys, c.self.view_is)
    (value_at-take c.args.self.now (assigned c.args.vars.now) c.args.id.place c.requires)
