use Rattle.std.proofs.Common.{◌≡◌, ◌∙◌, sym, ap, subst, Option, ℕ}
use Rattle.content_keys.specs.Tables.{IsWordAt, flat}
use Rattle.content_keys.proofs.WordLemmas.{at_from_word}
use Rattle.std.specs.BTreeMap.{get}
use Rattle.std.specs.Cmp.Lexicographic.{slice_cmp}
use Rattle.std.specs.Ordering.{nat_cmp}
use Rattle.content_keys.proofs.table.Table.find.Goals as goal

pub returns : goal.returns
returns c =
    let ss = c.self.inside.shapes.items in
    let s = c.args.shape.now in
    let m = c.self.inside.places in
    let o : c.copied.result ≡ get (slice_cmp nat_cmp) m (flat s) = c.copied.ensures ∙ c.get.ensures.value ∙ ap (get (slice_cmp nat_cmp) m) c.in_ok-key.ensures in
    let P : Option ℕ → Type 0 = IsWordAt ss (flat s) in
    rw (← c.self.view_is) (at_from_word ss s c.copied.result (subst P (sym o) (c.self.invariant.finds (flat s))))
