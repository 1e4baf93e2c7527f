use Rattle.std.proofs.Common.{ℕ, List, Some, sym, ap, ◌∙◌, subst}
use Rattle.project_journal.specs.Keeper.{IsKeptOrDoubt, IsKeptOrOneMore}
use Rattle.project_journal.specs.JournalFile.{opened}
use Rattle.project_journal.specs.Settled.{kept_by, doubt_by}
use Rattle.project_journal.specs.StopLaws.{opens}
use Rattle.project_journal.proofs.Moments.{started, goes_same, joins}
use Rattle.project_journal.proofs.Appends.{kept_from, one_more_from_doubt, one_more_from_entry, same_settled, lifts}
use Rattle.project_journal.proofs.journal.JournalKeeper.append.Goals as goal

pub invariant_of-self-2 : goal.invariant_of-self-2
invariant_of-self-2 g c =
    let s = c.args.self.now in
    record { small = s.small; settled = same_settled _ _ _ _ s.gate s.mending c.reserve.ensures.holds c.reserve.ensures.images s.settled }

pub returns-in_err-fill_record-clause-any_moment : goal.returns-in_err-fill_record-clause-any_moment
returns-in_err-fill_record-clause-any_moment g c = λ es kept.
    let d = g.D.Disk in
    let m = g.met.D.Disk in
    let s = c.args.self.now in
    let doubt = doubt_by (d.holds s.disk) s.gate s.mending in
    let P : List ℕ → Type 0 = λ x. IsKeptOrOneMore es doubt c.args.entry.now (opened x) in
    let was = kept_from (d.holds s.disk) s.gate es kept in
    let f = was.0 in
    let at_start = started d.moment d.left_since d.images m.counts_now m.only_now s.disk P (λ x image.
    subst (λ o. IsKeptOrOneMore es o c.args.entry.now (opened x)) (ap (λ o. doubt_by o s.gate s.mending) (sym was.1))
    (one_more_from_doubt es (doubt_by (Some f) s.gate s.mending) c.args.entry.now (opened x)
    (subst (λ l. IsKeptOrDoubt l (doubt_by (Some f) s.gate s.mending) (opened x)) was.2 (opens (d.images s.disk) s.gate s.mending f (s.settled f was.1) x image)))) in
    lifts d.moment d.left_since (λ j. j.disk) _ _ P (IsKeptOrOneMore es doubt c.args.entry.now) at_start (λ x p. p)

pub returns-in_err-reserve-clause-any_moment : goal.returns-in_err-reserve-clause-any_moment
returns-in_err-reserve-clause-any_moment g c = λ es kept.
    let d = g.D.Disk in
    let m = g.met.D.Disk in
    let s = c.args.self.now in
    let doubt = doubt_by (d.holds s.disk) s.gate s.mending in
    let P : List ℕ → Type 0 = λ x. IsKeptOrOneMore es doubt c.args.entry.now (opened x) in
    let was = kept_from (d.holds s.disk) s.gate es kept in
    let f = was.0 in
    let at_start = started d.moment d.left_since d.images m.counts_now m.only_now s.disk P (λ x image.
    subst (λ o. IsKeptOrOneMore es o c.args.entry.now (opened x)) (ap (λ o. doubt_by o s.gate s.mending) (sym was.1))
    (one_more_from_doubt es (doubt_by (Some f) s.gate s.mending) c.args.entry.now (opened x)
    (subst (λ l. IsKeptOrDoubt l (doubt_by (Some f) s.gate s.mending) (opened x)) was.2 (opens (d.images s.disk) s.gate s.mending f (s.settled f was.1) x image)))) in
    let reserved = goes_same d.moment d.left_since d.images m.counts_now m.only_now _ _ _ P at_start c.reserve.ensures.time c.reserve.ensures.images in
    lifts d.moment d.left_since (λ j. j.disk) _ _ P (IsKeptOrOneMore es doubt c.args.entry.now) reserved (λ x p. p)

pub returns-in_err-mend-clause-any_moment : goal.returns-in_err-mend-clause-any_moment
returns-in_err-mend-clause-any_moment g c = λ es kept.
    let d = g.D.Disk in
    let m = g.met.D.Disk in
    let s = c.args.self.now in
    let doubt = doubt_by (d.holds s.disk) s.gate s.mending in
    let P : List ℕ → Type 0 = λ x. IsKeptOrOneMore es doubt c.args.entry.now (opened x) in
    let was = kept_from (d.holds s.disk) s.gate es kept in
    let f = was.0 in
    let at_start = started d.moment d.left_since d.images m.counts_now m.only_now s.disk P (λ x image.
    subst (λ o. IsKeptOrOneMore es o c.args.entry.now (opened x)) (ap (λ o. doubt_by o s.gate s.mending) (sym was.1))
    (one_more_from_doubt es (doubt_by (Some f) s.gate s.mending) c.args.entry.now (opened x)
    (subst (λ l. IsKeptOrDoubt l (doubt_by (Some f) s.gate s.mending) (opened x)) was.2 (opens (d.images s.disk) s.gate s.mending f (s.settled f was.1) x image)))) in
    let reserved = goes_same d.moment d.left_since d.images m.counts_now m.only_now _ _ _ P at_start c.reserve.ensures.time c.reserve.ensures.images in
    let held = c.reserve.ensures.holds ∙ was.1 in
    let mended = joins d.moment d.left_since d.images m.counts_now m.only_now _ _ _ P _ reserved (c.mend.ensures.any_moment f held) (λ x is.
    subst (λ o. IsKeptOrOneMore es o c.args.entry.now (opened x)) (ap (λ o. doubt_by o s.gate s.mending) (sym was.1))
    (one_more_from_doubt es (doubt_by (Some f) s.gate s.mending) c.args.entry.now (opened x)
    (subst (λ l. IsKeptOrDoubt l (doubt_by (Some f) s.gate s.mending) (opened x)) was.2 is))) in
    lifts d.moment d.left_since (λ j. j.disk) _ _ P (IsKeptOrOneMore es doubt c.args.entry.now) mended (λ x p. p)

pub returns-in_err-add-clause-any_moment : goal.returns-in_err-add-clause-any_moment
returns-in_err-add-clause-any_moment g c = λ es kept.
    let d = g.D.Disk in
    let m = g.met.D.Disk in
    let s = c.args.self.now in
    let doubt = doubt_by (d.holds s.disk) s.gate s.mending in
    let P : List ℕ → Type 0 = λ x. IsKeptOrOneMore es doubt c.args.entry.now (opened x) in
    let was = kept_from (d.holds s.disk) s.gate es kept in
    let f = was.0 in
    let at_start = started d.moment d.left_since d.images m.counts_now m.only_now s.disk P (λ x image.
    subst (λ o. IsKeptOrOneMore es o c.args.entry.now (opened x)) (ap (λ o. doubt_by o s.gate s.mending) (sym was.1))
    (one_more_from_doubt es (doubt_by (Some f) s.gate s.mending) c.args.entry.now (opened x)
    (subst (λ l. IsKeptOrDoubt l (doubt_by (Some f) s.gate s.mending) (opened x)) was.2 (opens (d.images s.disk) s.gate s.mending f (s.settled f was.1) x image)))) in
    let reserved = goes_same d.moment d.left_since d.images m.counts_now m.only_now _ _ _ P at_start c.reserve.ensures.time c.reserve.ensures.images in
    let held = c.reserve.ensures.holds ∙ was.1 in
    let mended = joins d.moment d.left_since d.images m.counts_now m.only_now _ _ _ P _ reserved (c.mend.ensures.any_moment f held) (λ x is.
    subst (λ o. IsKeptOrOneMore es o c.args.entry.now (opened x)) (ap (λ o. doubt_by o s.gate s.mending) (sym was.1))
    (one_more_from_doubt es (doubt_by (Some f) s.gate s.mending) c.args.entry.now (opened x)
    (subst (λ l. IsKeptOrDoubt l (doubt_by (Some f) s.gate s.mending) (opened x)) was.2 is))) in
    let next = kept_from (d.holds c.mend.new.self.disk) c.mend.new.self.gate es (c.mend.ensures.kept ∙ ap (λ o. kept_by o s.gate) c.reserve.ensures.holds ∙ kept) in
    let added = joins d.moment d.left_since d.images m.counts_now m.only_now _ _ _ P _ mended (c.add.ensures.any_moment next.0 next.1) (λ x is.
    one_more_from_entry es doubt c.args.entry.now (opened x) (subst (λ l. IsKeptOrDoubt l (Some c.args.entry.now) (opened x)) next.2 is)) in
    lifts d.moment d.left_since (λ j. j.disk) _ _ P (IsKeptOrOneMore es doubt c.args.entry.now) added (λ x p. p)

pub returns-clause-any_moment : goal.returns-clause-any_moment
returns-clause-any_moment g c = λ es kept.
    let d = g.D.Disk in
    let m = g.met.D.Disk in
    let s = c.args.self.now in
    let doubt = doubt_by (d.holds s.disk) s.gate s.mending in
    let P : List ℕ → Type 0 = λ x. IsKeptOrOneMore es doubt c.args.entry.now (opened x) in
    let was = kept_from (d.holds s.disk) s.gate es kept in
    let f = was.0 in
    let at_start = started d.moment d.left_since d.images m.counts_now m.only_now s.disk P (λ x image.
    subst (λ o. IsKeptOrOneMore es o c.args.entry.now (opened x)) (ap (λ o. doubt_by o s.gate s.mending) (sym was.1))
    (one_more_from_doubt es (doubt_by (Some f) s.gate s.mending) c.args.entry.now (opened x)
    (subst (λ l. IsKeptOrDoubt l (doubt_by (Some f) s.gate s.mending) (opened x)) was.2 (opens (d.images s.disk) s.gate s.mending f (s.settled f was.1) x image)))) in
    let reserved = goes_same d.moment d.left_since d.images m.counts_now m.only_now _ _ _ P at_start c.reserve.ensures.time c.reserve.ensures.images in
    let held = c.reserve.ensures.holds ∙ was.1 in
    let mended = joins d.moment d.left_since d.images m.counts_now m.only_now _ _ _ P _ reserved (c.mend.ensures.any_moment f held) (λ x is.
    subst (λ o. IsKeptOrOneMore es o c.args.entry.now (opened x)) (ap (λ o. doubt_by o s.gate s.mending) (sym was.1))
    (one_more_from_doubt es (doubt_by (Some f) s.gate s.mending) c.args.entry.now (opened x)
    (subst (λ l. IsKeptOrDoubt l (doubt_by (Some f) s.gate s.mending) (opened x)) was.2 is))) in
    let next = kept_from (d.holds c.mend.new.self.disk) c.mend.new.self.gate es (c.mend.ensures.kept ∙ ap (λ o. kept_by o s.gate) c.reserve.ensures.holds ∙ kept) in
    let added = joins d.moment d.left_since d.images m.counts_now m.only_now _ _ _ P _ mended (c.add.ensures.any_moment next.0 next.1) (λ x is.
    one_more_from_entry es doubt c.args.entry.now (opened x) (subst (λ l. IsKeptOrDoubt l (Some c.args.entry.now) (opened x)) next.2 is)) in
    lifts d.moment d.left_since (λ j. j.disk) _ _ P (IsKeptOrOneMore es doubt c.args.entry.now) added (λ x p. p)
