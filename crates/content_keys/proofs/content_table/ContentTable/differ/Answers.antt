use Rattle.std.proofs.Common.{◌≡◌, ℕ, ◌<◌, List, length, slice_index, subst, arith}
use Rattle.content_keys.specs.Tables.{values}
use Rattle.content_keys.proofs.EnterLemmas.{no_node}
use Rattle.content_keys.proofs.MoveLemmas.{length_values}
use Rattle.content_keys.proofs.TableLemmas.{one_value}
use Rattle.content_keys.proofs.content_table.ContentTable.differ.Goals as goal

pub returns : goal.returns
returns c =
    let t = c.self.inside.table in
    let P : List ℕ → Type 0 = λ vs. (i j : ℕ) → i < length vs → j < length vs → slice_index vs i ≡ slice_index vs j → i ≡ j in
    subst P c.self.view_is (λ i j a b e.
    let long : length (values t) ≡ length t = length_values t in
    one_value t c.is_table.ensures no_node i j (omega arith) (omega arith) e)
