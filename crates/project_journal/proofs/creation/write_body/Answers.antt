use Rattle.std.proofs.Common.{length}
use Rattle.project_journal.specs.Disk.{Reaches, Torn}
use Rattle.project_journal.proofs.Moments.{started, goes_on, goes_same}
use Rattle.project_journal.proofs.PastLemmas.{torn_none}
use Rattle.project_journal.proofs.creation.write_body.Goals as goal

pub returns-in_err-write_at-clause-any_moment : goal.returns-in_err-write_at-clause-any_moment
returns-in_err-write_at-clause-any_moment g c =
    let d = g.D.Disk in
    let m = g.met.D.Disk in
    let P = Reaches (Torn 8 (length c.args.body.now)) (d.images c.args.disk.now) in
    let at_start = started d.moment d.left_since d.images m.counts_now m.only_now c.args.disk.now P (λ f is. (f, is, torn_none 8 (length c.args.body.now) f)) in
    goes_on d.moment d.left_since d.images m.counts_now m.only_now _ _ _ P at_start c.write_at.ensures.time c.write_at.ensures.images

pub returns-in_err-sync-clause-any_moment : goal.returns-in_err-sync-clause-any_moment
returns-in_err-sync-clause-any_moment g c =
    let d = g.D.Disk in
    let m = g.met.D.Disk in
    let P = Reaches (Torn 8 (length c.args.body.now)) (d.images c.args.disk.now) in
    let at_start = started d.moment d.left_since d.images m.counts_now m.only_now c.args.disk.now P (λ f is. (f, is, torn_none 8 (length c.args.body.now) f)) in
    let wrote = goes_on d.moment d.left_since d.images m.counts_now m.only_now _ _ _ P at_start c.write_at.ensures.time c.write_at.ensures.images in
    goes_same d.moment d.left_since d.images m.counts_now m.only_now _ _ _ P wrote c.sync.ensures.time c.sync.ensures.images

pub returns-clause-any_moment : goal.returns-clause-any_moment
returns-clause-any_moment g c =
    let d = g.D.Disk in
    let m = g.met.D.Disk in
    let P = Reaches (Torn 8 (length c.args.body.now)) (d.images c.args.disk.now) in
    let at_start = started d.moment d.left_since d.images m.counts_now m.only_now c.args.disk.now P (λ f is. (f, is, torn_none 8 (length c.args.body.now) f)) in
    let wrote = goes_on d.moment d.left_since d.images m.counts_now m.only_now _ _ _ P at_start c.write_at.ensures.time c.write_at.ensures.images in
    goes_same d.moment d.left_since d.images m.counts_now m.only_now _ _ _ P wrote c.sync.ensures.time c.sync.ensures.images
