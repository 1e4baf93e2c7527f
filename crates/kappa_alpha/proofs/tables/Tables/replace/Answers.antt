use Rattle.std.proofs.Common.{◌≡◌, ◌<◌, arith, ap, sym, ◌∙◌, length, subst}
use Rattle.std.proofs.lemmas.List.{get_or_default}
use Rattle.kappa_alpha.specs.Standing.{Standing, document_at, no_document}
use Rattle.kappa_alpha.specs.Counted.{RowFits, IsCount}
use Rattle.kappa_alpha.proofs.Counts.{is_count_of, shaped_on}
use Rattle.kappa_alpha.proofs.Totals.{tables_posted, counts_enough, counts_room}
use Rattle.kappa_alpha.proofs.tables.Tables.replace.Goals as goal

pub replace-requires-clause-enough : goal.replace-requires-clause-enough
replace-requires-clause-enough g c = λ v hx.
    let hl : length c.self.inside.documents.items ≡ length c.args.self.now.documents = ap (λ (s : Standing). length s.documents) c.self.view_is in
    let h : c.args.doc < length c.self.inside.documents.items = omega (arith, hl, c.requires.doc_in) in
    let ed : c.index_mut-document.result.now ≡ document_at c.self.inside.documents.items c.args.doc = c.index_mut-document.ensures.value ∙ get_or_default c.self.inside.documents.items c.args.doc c.index_mut-document.result.now no_document h in
    let tables = c.self.invariant.tables in
    let hv : IsCount c.self.inside.raters c.self.inside.categories v = is_count_of _ _ _ _ v tables.shape.numbers tables.shape.coincidences hx in
    rw ed (counts_enough c.self.inside.raters c.self.inside.categories c.self.inside.documents.items c.self.inside.tallies c.args.doc v tables h hv)

pub replace-requires-clause-room : goal.replace-requires-clause-room
replace-requires-clause-room g c = λ v hx.
    let hl : length c.self.inside.documents.items ≡ length c.args.self.now.documents = ap (λ (s : Standing). length s.documents) c.self.view_is in
    let h : c.args.doc < length c.self.inside.documents.items = omega (arith, hl, c.requires.doc_in) in
    let ed : c.index_mut-document.result.now ≡ document_at c.self.inside.documents.items c.args.doc = c.index_mut-document.ensures.value ∙ get_or_default c.self.inside.documents.items c.args.doc c.index_mut-document.result.now no_document h in
    let tables = c.self.invariant.tables in
    let hv : IsCount c.self.inside.raters c.self.inside.categories v = is_count_of _ _ _ _ v tables.shape.numbers tables.shape.coincidences hx in
    rw ed (counts_room c.self.inside.raters c.self.inside.categories c.self.inside.documents.items c.self.inside.tallies c.args.doc c.args.rater c.args.row v tables h hv)

pub invariant_of-self : goal.invariant_of-self
invariant_of-self g c =
    let hl : length c.self.inside.documents.items ≡ length c.args.self.now.documents = ap (λ (s : Standing). length s.documents) c.self.view_is in
    let h : c.args.doc < length c.self.inside.documents.items = omega (arith, hl, c.requires.doc_in) in
    let ed : c.index_mut-document.result.now ≡ document_at c.self.inside.documents.items c.args.doc = c.index_mut-document.ensures.value ∙ get_or_default c.self.inside.documents.items c.args.doc c.index_mut-document.result.now no_document h in
    let tables = c.self.invariant.tables in
    let P : Standing → Type 0 = λ s. RowFits c.args.row (document_at s.documents c.args.doc).tokens s.categories in
    let fits : RowFits c.args.row (document_at c.self.inside.documents.items c.args.doc).tokens c.self.inside.categories = subst P (sym c.self.view_is) c.requires.row_fits in
    record {
      tables = rw (c.replace.ensures.replaced, ed) (tables_posted c.self.inside.raters c.self.inside.categories c.self.inside.documents.items c.self.inside.tallies c.replace.new.tallies c.args.doc c.args.rater c.args.row tables h fits
          (shaped_on _ _ _ _ tables.shape c.replace.ensures.shape)
          (λ v hv. rw ed at (c.replace.ensures.each v (is_count_of _ _ _ _ v (sym tables.shape.numbers) (sym tables.shape.coincidences) hv))));
      pool = c.self.invariant.pool;
    }

pub returns-clause-rater_in : goal.returns-clause-rater_in
returns-clause-rater_in g c =
    let hl : length c.self.inside.documents.items ≡ length c.args.self.now.documents = ap (λ (s : Standing). length s.documents) c.self.view_is in
    let h : c.args.doc < length c.self.inside.documents.items = omega (arith, hl, c.requires.doc_in) in
    let hr : c.self.inside.raters ≡ c.args.self.now.raters = ap (λ (s : Standing). s.raters) c.self.view_is in
    let w : length (document_at c.self.inside.documents.items c.args.doc).rows ≡ length (document_at c.args.self.now.documents c.args.doc).rows = ap (λ (s : Standing). length (document_at s.documents c.args.doc).rows) c.self.view_is in
    omega (arith, c.requires.rater_in, hr, w, (c.self.invariant.tables.fit c.args.doc h).whole)
