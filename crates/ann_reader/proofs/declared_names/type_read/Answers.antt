use Rattle.std.proofs.Common.{◌≡◌, ◌∙◌, sym, ap, Bool, Some, None, true, false, slice_get}
use Rattle.std.specs.Prelude.{bytes_eq}
use Rattle.std.proofs.lemmas.Slice.Eq.{bytes_eq-Decides}
use Rattle.mark_base.specs.Names.{name_fault}
use Rattle.type_hierarchy.specs.TypeTrees.{is_named}
use Rattle.ann_reader.proofs.TypeLemmas.{found_here, passed, past_all, found_type, no_type}
use Rattle.ann_reader.proofs.declared_names.type_read.Goals as goal

pub returns-then-eq : goal.returns-then-eq
returns-then-eq c =
    let rows = c.args.conf.now.types in
    let word = c.args.word.now in
    let there : Some c.in-Some.row.now ≡ slice_get rows c.loop-n.n = c.in-Some.ensures ∙ ap (λ all. slice_get all c.loop-n.n) c.types-types.ensures in
    let same : bytes_eq c.in-Some.row.now.name word ≡ true = ap (λ t. bytes_eq t word) (sym c.text.ensures.value) ∙ sym c.eq.ensures ∙ c.if-eq.true in
    let good : name_fault word ≡ None = sym (ap name_fault ((bytes_eq-Decides c.in-Some.row.now.name word).0 same)) ∙ c.text.ensures.spelling in
    found_type rows word c.loop-n.n good (c.loop-n.invariant ∙ found_here (is_named word) c.loop-n.n rows c.in-Some.row.now there same)

pub returns-in-None : goal.returns-in-None
returns-in-None c =
    let rows = c.args.conf.now.types in
    no_type rows c.args.word.now
    (c.loop-n.invariant ∙ past_all (is_named c.args.word.now) c.loop-n.n rows (c.in-None.ensures ∙ ap (λ all. slice_get all c.loop-n.n) c.types-types.ensures))

pub loop-n-preserved : goal.loop-n-preserved
loop-n-preserved c =
    let rows = c.args.conf.now.types in
    let word = c.args.word.now in
    let there : Some c.in-Some.row.now ≡ slice_get rows c.loop-n.n = c.in-Some.ensures ∙ ap (λ all. slice_get all c.loop-n.n) c.types-types.ensures in
    let other : bytes_eq c.in-Some.row.now.name word ≡ false = ap (λ t. bytes_eq t word) (sym c.text.ensures.value) ∙ sym c.eq.ensures ∙ c.if-eq.false in
    c.loop-n.invariant ∙ passed (is_named word) c.loop-n.n rows c.in-Some.row.now there other
