use Rattle.std.proofs.Common.{sym, subst}
use Rattle.match_scores.specs.Standing.{Layers}
use Rattle.match_scores.specs.Places.{AreCoherent, AreMarked}
use Rattle.match_scores.proofs.MarkLemmas.{coherent_of}
use Rattle.match_scores.proofs.document.Document.renew.Goals as goal

pub marks_of_each-requires : goal.marks_of_each-requires
marks_of_each-requires c =
    let P : Layers → Type 0 = AreCoherent in
    subst P (sym c.as_slice.ensures.value) (coherent_of c.self.inside.table c.self.inside.layers.items c.self.inside.marks.items c.self.invariant)

pub invariant_of-self : goal.invariant_of-self
invariant_of-self c =
    let P : Layers → Type 0 = λ l. AreMarked c.marks_of_each.new.table l c.in_ok-marks.marks.items in
    subst P c.as_slice.ensures.value c.in_ok-marks.ensures
