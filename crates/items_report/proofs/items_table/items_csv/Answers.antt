use Rattle.std.proofs.Common.{◌≡◌, ℕ, List, [], ◌++◌, ◌∙◌, ap, subst, map, refl}
use Rattle.std.specs.Prelude.{IfOk}
use Rattle.std.specs.List.{flat_map}
use Rattle.unanimous_merge.specs.declared.item.Item.{Item}
use Rattle.unanimous_merge.specs.Items.{items}
use Rattle.items_report.specs.ItemRows.{item_fields, lines_of}
use Rattle.items_report.specs.ItemsTable.{files_of, items_header, items_table, names_of, row}
use Rattle.items_report.specs.Writing.{text_of}
use denote.Ref.{Bor}
use Rattle.items_report.proofs.items_table.items_csv.Goals as goal

pub returns : goal.returns
returns c =
    let now : Bor (List ℕ) → List ℕ = λ name. name.now in
    let head : List ℕ = row items_header in
    let rows : List (List ℕ) → List (List (List ℕ)) → List Item → List ℕ = λ names lines listed. flat_map (λ item. row (item_fields names lines c.args.decisions.now item)) listed in
    let start : text_of c.from_writer-writer.result ≡ [] = rw (c.from_writer-writer.ensures.wtr, c.from_writer-writer.ensures.empty, c.new.ensures.items) refl in
    let headed : text_of c.write_row.new.writer ≡ head = c.in_ok-write_row.ensures.written ∙ ap (λ t. t ++ head) start in
    let names : map now c.deref-2.result.now ≡ names_of c.args.snapshot.now = ap (map now) c.deref-2.ensures.value ∙ c.in_ok-names.ensures in
    let lines : c.deref-3.result.now ≡ map lines_of (files_of c.args.conf.now c.args.doc.now c.args.snapshot.now) =
    c.deref-3.ensures.value ∙ c.in_ok-lines.ensures ∙ ap (map lines_of) (c.deref.ensures.value ∙ c.in_ok-files.ensures) in
    let listed : c.deref-4.result.now ≡ items c.args.snapshot.now = c.deref-4.ensures.value ∙ c.in_ok-items.ensures in
    let whole : text_of c.write_items.new.writer ≡ items_table c.args.conf.now c.args.doc.now c.args.snapshot.now c.args.decisions.now =
    c.in_ok-write_items.ensures.written
    ∙ ap (λ t. t ++ rows (map now c.deref-2.result.now) c.deref-3.result.now c.deref-4.result.now) headed
    ∙ ap (λ ns. head ++ rows ns c.deref-3.result.now c.deref-4.result.now) names
    ∙ ap (λ ls. head ++ rows (names_of c.args.snapshot.now) ls c.deref-4.result.now) lines
    ∙ ap (λ ls. head ++ rows (names_of c.args.snapshot.now) (map lines_of (files_of c.args.conf.now c.args.doc.now c.args.snapshot.now)) ls) listed in
    subst (λ (t : List ℕ). IfOk c.finish.result (λ bytes. bytes ≡ t)) whole c.finish.ensures
