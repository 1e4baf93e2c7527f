use Rattle.std.proofs.Common.{◌≡◌, List, [], ◌∷◌, ◌++◌, Option, Some, sym, ap, ◌∙◌, subst}
use Rattle.atomic_table.specs.Table.{opening}
use Rattle.project_machine.specs.Legal.{IsLegal}
use Rattle.project_machine.proofs.HistoryLemmas.{legal_some}
use Rattle.project_book.specs.Keeping.{BookValue}
use Rattle.turn_hall.specs.Rule.{Holds}
use Rattle.turn_hall.specs.Views.{first_view}
use Rattle.turn_hall.proofs.PassLemmas.{opens}
use Rattle.turn_hall.proofs.hall.Hall.open.Goals as goal

pub new-requires : goal.new-requires
new-requires g c =
    let log = c.of-about.result.value.log in
    let items : c.push.new.self.items ≡ Some c.args.book ∷ [] = c.in_default.ensures.items ∙ ap (λ (books : List (Option (BookValue g.row.K.Denot))). books ++ Some c.args.book ∷ []) c.new-slots.ensures.items in
    let same : c.args.book.log ≡ log = sym (ap (λ (book : BookValue g.row.K.Denot). book.log) c.of-about.ensures) in
    subst (λ (xs : List (Option (BookValue g.row.K.Denot))). Holds log (opening (0 ∷ 0 ∷ []) xs (first_view log))) (sym items) (opens log c.args.book same (legal_some log (subst IsLegal same c.keeps.ensures.legal)))
