-- The table in which formulas are held under texts, and the entries that it stands for.
use Rattle.std.specs.Prelude.{List, map}
use Rattle.std.specs.Global.{Vec}
use Rattle.bool_pool.specs.declared.gate.Id.{Id}
use Rattle.group_text.specs.Texts.{GroupTextData}
use Rattle.node_elimination.specs.Holding.{HeldData}

-- the entries that those of a table stand for
abbrev pub shown : List (GroupTextData × Vec Id) → HeldData
shown rows = map (λ row. (row.0, row.1.items)) rows

-- the formulas of each entry
abbrev pub lists_of : HeldData → List (List Id)
lists_of held = map (λ entry. entry.1) held
