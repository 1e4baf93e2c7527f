use Rattle.std.proofs.Common.{◌≡◌, ◌++◌, map, take}
use Rattle.std.specs.List.{flat_map}
use Rattle.items_report.specs.ItemRows.{item_fields}
use Rattle.items_report.specs.ItemsTable.{row}
use Rattle.items_report.specs.Writing.{IsReady, text_of}
use Rattle.items_report.proofs.item_row.write_items.Given as goal

abbrev pub invariant-loop-item : goal.invariant-loop-item
invariant-loop-item l = record {
  ready : IsReady l.writer;
  written : text_of l.writer ≡ text_of l.initial.writer ++ flat_map (λ item. row (item_fields (map (λ name. name.now) l.names) l.lines l.decisions item)) (take l.item-index l.items);
}
